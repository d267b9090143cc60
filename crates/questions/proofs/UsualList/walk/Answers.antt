use Rattle.std.proofs.Common.{arith}
use Rattle.questions.proofs.Walking.{walk_start, walk_fits, walk_turn, walk_stop, walk_end}
use Rattle.questions.proofs.Searching.{of_test}
use Rattle.questions.proofs.UsualList.walk.Goals as goal

pub loop-k-init : goal.loop-k-init
loop-k-init c = walk_start c.args.self.now.list.now (of_test _ c.args.self.now.usual) c.args.range.start c.args.range.end c.requires.first_past c.requires.in_order

pub overflow_add-letters : goal.overflow_add-letters
overflow_add-letters c =
    let A = c.args in
    let e = walk_fits A.self.now.list.now (of_test _ c.args.self.now.usual) A.range.start A.range.end c.loop-k.invariant (omega arith) c.letters_inside-letters.ensures in
    omega arith

pub returns-then-range-interval : goal.returns-then-range-interval
returns-then-range-interval c =
    let A = c.args in
    walk_stop A.self.now.list.now (of_test _ c.args.self.now.usual) A.range.start A.range.end c.loop-k.invariant (omega arith) c.letters_inside-letters.ensures c.if-range-interval.true

pub loop-k-preserved : goal.loop-k-preserved
loop-k-preserved c =
    let A = c.args in
    walk_turn A.self.now.list.now (of_test _ c.args.self.now.usual) A.range.start A.range.end c.loop-k.invariant (omega arith) c.letters_inside-letters.ensures c.if-range-interval.false

pub returns : goal.returns
returns c = let A = c.args in walk_end A.self.now.list.now (of_test _ c.args.self.now.usual) A.range.start A.range.end c.loop-k.invariant (omega arith)
