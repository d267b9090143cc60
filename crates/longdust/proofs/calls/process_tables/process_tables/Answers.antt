use Rattle.std.proofs.Common.{◌≡◌, refl, sym, ap, ◌∙◌, arith, length}
use Rattle.longdust.specs.declared.Lent.{Lent}
use Rattle.longdust.specs.Checks.{refusal}
use Rattle.longdust.specs.Buffers.{Buffers, lends, lengths}
use Rattle.longdust.specs.Call.{Kept}
use Rattle.longdust.specs.Terms.Inner.{Admitted}
use Rattle.longdust.proofs.Accept.{admitted}
use Rattle.longdust.proofs.PublicCalls.{encoded, encoded_length, encoded_free, admitted_as, run_answered}
use Rattle.longdust.proofs.calls.process_tables.process_tables.Goals as goal
use Rattle.longdust.proofs.calls.process_tables.process_tables.Goals.{Start, In_ok-check}

abbrev entry : (c : Start) → Buffers
entry c = let A = c.args in lends A.tables.now.ln.now A.tables.now.f.now A.codes.now A.work.now A.out.now

-- Past the check.
passed : (c : In_ok-check) → 0 ≡ refusal c.args.options c.args.sequence.now (lengths (entry (goal.at.In_ok-check c).Start))
passed c = c.in_ok-check.ensures ∙ ap (λ (l : Lent). refusal c.args.options c.args.sequence.now l) c.lent-lent.ensures

admit : (c : In_ok-check) → Admitted c.args.options (length c.args.sequence.now) (lengths (entry (goal.at.In_ok-check c).Start))
admit c = admitted _ _ _ (sym (passed c))

pub encode_sequence-requires : goal.encode_sequence-requires
encode_sequence-requires c = (admit (goal.at.encode_sequence-requires c).In_ok-check).enough.codes

pub slice_bounds-codes-end : goal.slice_bounds-codes-end
slice_bounds-codes-end c = omega (arith, (admit (goal.at.slice_bounds-codes-end c).In_ok-check).enough.codes, c.encode_sequence.auto.encoded)

pub slice_bounds-codes-end-2 : goal.slice_bounds-codes-end-2
slice_bounds-codes-end-2 c = sym (encoded_length _ _ _ c.encode_sequence.ensures c.encode_sequence.auto.encoded)

pub mask_encoded-requires : goal.mask_encoded-requires
mask_encoded-requires c =
    let k = goal.at.mask_encoded-requires c in
    admitted_as _ _ (entry k.Start) (admit k.In_ok-check) _ _ refl refl _ (encoded_length _ _ _ c.encode_sequence.ensures c.encode_sequence.auto.encoded)

pub returns-clause-answered : goal.returns-clause-answered
returns-clause-answered c =
    let A = c.args in
    let k = goal.at.returns-clause-answered c in
    let e = c.encode_sequence in
    run_answered Kept _ _ (entry k.Start) (lends A.tables.now.ln.now A.tables.now.f.now e.new.encoded c.mask_encoded.new.work c.mask_encoded.new.out) _ _ _ _ _
    (passed k.In_ok-check) (record { ln = refl; f = refl }) (encoded _ _ _ e.ensures e.auto.encoded) (encoded_free _ _ _ e.ensures e.auto.encoded) c.mask_encoded.ensures.ran
