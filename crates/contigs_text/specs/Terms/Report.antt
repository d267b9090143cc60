-- Terms of contracts: what a record's text is to the reader of records.
use Rattle.std.specs.Prelude.{ℕ, zero, suc, List, []}
use Rattle.entries.specs.Entries.{Entry, record_of}
use Rattle.entries.specs.Sums.{no_sums}
use Rattle.entries.specs.Outcome.{Report}
use Rattle.longdust.specs.declared.LongdustOptions.{LongdustOptions}
use Rattle.contigs_text.specs.declared.Limits.{Limits}
use Rattle.contigs_text.specs.Text.{record_text}

-- The first writer's text; the others get nothing.
abbrev pub to_first : List ℕ → ℕ → List ℕ
to_first text zero = text
to_first text (suc i) = []

abbrev pub report_of : Limits → LongdustOptions → Entry → Report
report_of l o e = record { text = to_first (record_text l o (record_of e)); notes = []; sums = no_sums }
