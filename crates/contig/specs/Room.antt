-- Room for an answer, as the calls that write one ask for it.
use Rattle.std.specs.Prelude.{◌+◌, ◌≤◌, length}
use Rattle.report.specs.declared.text.Text.{Text}
use Rattle.contig.specs.Run.{text_room}

-- The text has room for the longest that `track` prints. No field of a text: what else is written needs less.
pub record AnswerFits (t : Text) : Type 0 where
  pub room : t.len + text_room ≤ length t.bytes.now
