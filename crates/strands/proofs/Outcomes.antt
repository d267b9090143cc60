-- Where the lists are those of the file's strands, what is written is what the masker writes.
use Rattle.std.proofs.Common.{ℕ, true, List, subst, None, Some, IfSome}
use Rattle.std.specs.Prelude.{Option, Result}
use Rattle.longdust.specs.declared.LongdustOptions.{LongdustOptions}
use Rattle.entries.specs.declared.failed.Failed.{Failed}
use Rattle.entries.specs.declared.sums.Sums.{Sums}
use Rattle.entries.specs.Outcome.{Outcome}
use Rattle.entries.proofs.Same.{outcome_same}
use Rattle.forms.specs.declared.form.Settings.{Settings}
use Rattle.forms.specs.declared.form.Form.{Form}
use Rattle.forms.specs.Form.{report_by_making, report_of}
use Rattle.strands.specs.Joined.{joined, StrandsOf}
use Rattle.strands.specs.declared.joining.Joiner.{Joiner}
use Rattle.strands.specs.Terms.Reads.{Reads}
use Rattle.strands.proofs.Same.{strands_agree}

-- Whatever the lists.
pub whatever : (a : Option (List ℕ)) (S P : List ℕ → Type 0) → IfSome a P → IfSome a (λ file. S file → P file)
whatever None S P h = tt
whatever (Some file) S P h = λ s. h

module _ (forms : List Form) (st : Settings) (a b : List ℕ) (j : Joiner) (reads : Reads st.options a b j)
    (outs outs' : List (Option (List ℕ))) (notes notes' : Option (List ℕ)) (sums sums' : Sums) (x : Result Unit Failed) where
  at_file : (file : List ℕ) → Outcome true (report_by_making forms j.options (joined j.options j.forward.items j.reverse.items) st.skip_short st.min_length) file outs outs' notes notes' sums sums' x
      → StrandsOf st.options file a b → Outcome true (report_of forms st) file outs outs' notes notes' sums sums' x
  at_file file h g =
      outcome_same true (report_by_making forms st.options (joined st.options j.forward.items j.reverse.items) st.skip_short st.min_length) (report_of forms st) file
      (strands_agree forms st.options st.skip_short st.min_length g.both a b j.forward.items j.reverse.items reads.forward_is reads.reverse_is file g)
      outs outs' notes notes' sums sums' x
      (subst (λ (o : LongdustOptions). Outcome true (report_by_making forms o (joined o j.forward.items j.reverse.items) st.skip_short st.min_length) file outs outs' notes notes' sums sums' x) reads.options h)

  pub joined_outcome : (rest : Option (List ℕ))
      → IfSome rest (λ file. Outcome true (report_by_making forms j.options (joined j.options j.forward.items j.reverse.items) st.skip_short st.min_length) file outs outs' notes notes' sums sums' x)
      → IfSome rest (λ file. StrandsOf st.options file a b → Outcome true (report_of forms st) file outs outs' notes notes' sums sums' x)
  joined_outcome None h = tt
  joined_outcome (Some file) h = at_file file h
