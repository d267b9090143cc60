use Rattle.std.proofs.Common.{◌≡◌, sym, ap, ◌∙◌, arith, List, ℕ, length, take}
use Rattle.buffers.specs.Fill.{put}
use Rattle.letters.specs.Code.{codes}
use Rattle.tables.specs.Density.{density}
use Rattle.tables.specs.Tables.{f_table}
use Rattle.longdust.specs.declared.Lent.{Lent}
use Rattle.longdust.specs.Checks.{refusal}
use Rattle.longdust.specs.Buffers.{Buffers, lends, lengths}
use Rattle.longdust.specs.Call.{Filled}
use Rattle.longdust.specs.Terms.Inner.{Admitted}
use Rattle.longdust.proofs.Accept.{admitted}
use Rattle.longdust.proofs.PublicCalls.{encoded, encoded_length, encoded_free, admitted_as, run_answered}
use Rattle.longdust.proofs.calls.process.process.Goals as goal
use Rattle.longdust.proofs.calls.process.process.Goals.{Start, In_ok-check, After-encode_sequence}

abbrev entry : (c : Start) → Buffers
entry c = let A = c.args in lends A.ln.now A.f.now A.codes.now A.work.now A.out.now

-- Past the check.
passed : (c : In_ok-check) → 0 ≡ refusal c.args.options c.args.sequence.now (lengths (entry (goal.at.In_ok-check c).Start))
passed c = c.in_ok-check.ensures ∙ ap (λ (l : Lent). refusal c.args.options c.args.sequence.now l) c.lent-lent.ensures

admit : (c : In_ok-check) → Admitted c.args.options (length c.args.sequence.now) (lengths (entry (goal.at.In_ok-check c).Start))
admit c = admitted _ _ _ (sym (passed c))

codes_held : (c : After-encode_sequence) → take (length c.args.sequence.now) c.encode_sequence.new.encoded ≡ codes c.args.sequence.now
codes_held c = encoded _ _ _ c.encode_sequence.ensures c.encode_sequence.auto.encoded

pub encode_sequence-requires : goal.encode_sequence-requires
encode_sequence-requires c = (admit (goal.at.encode_sequence-requires c).In_ok-check).enough.codes

pub slice_bounds-codes-end : goal.slice_bounds-codes-end
slice_bounds-codes-end c = omega (arith, (admit (goal.at.slice_bounds-codes-end c).In_ok-check).enough.codes, c.encode_sequence.auto.encoded)

pub slice_bounds-codes-end-2 : goal.slice_bounds-codes-end-2
slice_bounds-codes-end-2 c = sym (encoded_length _ _ _ c.encode_sequence.ensures c.encode_sequence.auto.encoded)

pub fill_tables-requires-clause-ln_room : goal.fill_tables-requires-clause-ln_room
fill_tables-requires-clause-ln_room c = (admit (goal.at.fill_tables-requires-clause-ln_room c).In_ok-check).enough.ln

pub fill_tables-requires-clause-f_room : goal.fill_tables-requires-clause-f_room
fill_tables-requires-clause-f_room c = (admit (goal.at.fill_tables-requires-clause-f_room c).In_ok-check).enough.f

pub mask_encoded-requires : goal.mask_encoded-requires
mask_encoded-requires c =
    let k = goal.at.mask_encoded-requires c in
    admitted_as _ _ (entry k.Start) (admit k.In_ok-check) _ _ c.fill_tables.auto.ln c.fill_tables.auto.f _
    (encoded_length _ _ _ c.encode_sequence.ensures c.encode_sequence.auto.encoded)

pub returns-clause-answered : goal.returns-clause-answered
returns-clause-answered c =
    let A = c.args in
    let o = A.options in
    let k = goal.at.returns-clause-answered c in
    let e = c.encode_sequence in
    let t = c.fill_tables in
    run_answered Filled _ _ (entry k.Start) (lends t.new.ln t.new.f e.new.encoded c.mask_encoded.new.work c.mask_encoded.new.out) _ _ _ _ _
    (passed k.In_ok-check)
    (record {
      ln = t.ensures.ln_after;
      f = t.ensures.f_after ∙ ap (λ (z : List ℕ). put (f_table o.kmer o.window_size (density o.kmer o.gc z)) A.f.now) (codes_held k.After-encode_sequence);
    })
    (codes_held k.After-encode_sequence) (encoded_free _ _ _ e.ensures e.auto.encoded) c.mask_encoded.ensures.ran
