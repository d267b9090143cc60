use Rattle.std.proofs.Common.{ℕ, List, [], ◌∷◌, length, ap, ap₂, ◌∙◌, sym}
use Rattle.intervals.specs.declared.Interval.{Interval}
use Rattle.intervals.specs.Interval.{interval}
use Rattle.free.specs.Free.{free}
use Rattle.entries.proofs.Sending.{sent_as}
use Rattle.forms.specs.Bed.{bed}
use Rattle.forms.specs.Free.{free_lines}
use Rattle.forms.proofs.free_lines.write_free.Goals as goal

pub returns : goal.returns
unfolding bed free_lines
returns g c =
    let p = c.args.part.now in
    sent_as _ _ _ _ c.write_each.result
    (ap₂ (λ (n : List ℕ) (is : List Interval). bed p.least n is) c.name.ensures
    (c.as_slice.ensures.value ∙ c.in_ok-fill_free.ensures
    ∙ ap (λ (s : List ℕ). free c.args.pad (interval 0 (length s) ∷ []) p.list.now s) c.as_slice-letters.ensures.value))
    c.write_each.ensures
