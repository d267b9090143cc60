use Rattle.std.proofs.Common.{◌≡◌, refl, sym, ap, ap₂, ◌∙◌, Bool, Ok, List, ℕ, ◌+◌, Float, length, take, drop, take_at}
use borrow.Author.Tests.{ltb-false}
use Rattle.buffers.specs.Fill.{put}
use Rattle.checks.proofs.Passing.{passes}
use Rattle.checks.proofs.Refusing.{flagged}
use Rattle.letters.specs.Code.{codes}
use Rattle.letters.proofs.Codes.{codes_length}
use Rattle.scans.specs.Range.{in_range}
use Rattle.tables.specs.Density.{density}
use Rattle.tables.specs.Tables.{f_table}
use Rattle.tables.proofs.Tables.{ln_held, f_table_length}
use Rattle.tables.proofs.LnBound.Theorems.{filled_within}
use Rattle.longdust.specs.Mask.{setup}
use Rattle.longdust.specs.Filling.{f_filled, filling_checks}
use Rattle.longdust.proofs.PublicCalls.{encoded, front_free}
use Rattle.longdust.proofs.calls.fill_tables.fill_tables.Goals as goal
use Rattle.longdust.proofs.calls.fill_tables.fill_tables.Goals.{After-fill_tables}

-- The f table of the letters, after it was filled by their codes.
filled_f : (c : After-fill_tables) → c.fill_tables.new.f ≡ put (f_filled c.args.options c.args.sequence.now) c.args.f.now
filled_f c =
    let A = c.args in
    let o = A.options in
    let e = c.encode_sequence in
    c.fill_tables.ensures.f_after
    ∙ ap (λ (z : List ℕ). put (f_table o.kmer o.window_size (density o.kmer o.gc z)) A.f.now) (encoded A.sequence.now _ _ e.ensures e.auto.encoded)

pub returns-clause-flag : goal.returns-clause-flag
returns-clause-flag c =
    let A = c.args in
    let o = A.options in
    let w = o.window_size in
    let k = (goal.at.returns-clause-flag c).After-fill_tables in
    let table = f_filled o A.sequence.now in
    let f_is = ap (λ (z : List Float). take (w + 2) z) (filled_f k) ∙ take_at table (drop (length table) A.f.now) (w + 2) (f_table_length o.kmer w _) in
    flagged (λ (b : Bool). b) (Ok _) _ c.in_ok-check.ensures
    (c.in_range.ensures ∙ ap₂ (λ (m n : List Float). in_range (setup o m n)) (ln_held w A.ln.now _ c.fill_tables.ensures.ln_after) f_is)

pub returns-clause-within : goal.returns-clause-within
returns-clause-within c =
    let A = c.args in
    let w = A.options.window_size in
    let p = passes (filling_checks A.options (length A.sequence.now) (length A.ln.now) (length A.f.now) (length A.codes.now)) refl (sym c.in_ok-check.ensures) 2 in
    filled_within w A.ln.now _ (ltb-false 65535 w p) c.fill_tables.ensures.ln_after

pub returns-clause-f : goal.returns-clause-f
returns-clause-f c = filled_f (goal.at.returns-clause-f c).After-fill_tables

pub returns-clause-codes : goal.returns-clause-codes
returns-clause-codes c =
    let A = c.args in
    let e = c.encode_sequence in
    front_free (codes A.sequence.now) _ _ (length A.sequence.now) e.ensures (codes_length A.sequence.now) e.auto.encoded
