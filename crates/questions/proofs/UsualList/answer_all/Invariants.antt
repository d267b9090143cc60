-- the results of the first i questions are written
use Rattle.std.proofs.Common.{◌≡◌, take}
use Rattle.buffers.specs.Fill.{put}
use Rattle.questions.specs.Batch.{results_of}
use Rattle.questions.proofs.UsualList.answer_all.Given as goal

abbrev pub invariant-loop-i : goal.invariant-loop-i
invariant-loop-i l = l.results ≡ put (results_of l.self.list.now (take l.i l.questions)) l.initial.results
