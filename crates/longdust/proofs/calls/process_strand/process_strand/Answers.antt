use Rattle.std.proofs.Common.{◌≡◌, refl, sym, ap, ◌∙◌, Bool, length}
use Rattle.checks.specs.Checks.{first}
use Rattle.longdust.specs.Checks.{request_checks}
use Rattle.longdust.specs.Strand.{StrandBuffers, strand_lends, strand_refusal}
use Rattle.longdust.specs.Terms.Alone.{StrandAdmitted}
use Rattle.longdust.proofs.Alone.{strand_admitted, admitted_coded, strand_answered}
use Rattle.longdust.proofs.calls.process_strand.process_strand.Goals as goal
use Rattle.longdust.proofs.calls.process_strand.process_strand.Goals.{Start, In_ok-check_request}

abbrev entry : (c : Start) → StrandBuffers
entry c = let A = c.args in strand_lends A.tables.now.ln.now A.tables.now.f.now A.space.now

-- Past the check.
passed : (c : In_ok-check_request) → 0 ≡ strand_refusal c.args.options c.args.sequence.now (entry (goal.at.In_ok-check_request c).Start)
passed c =
    c.in_ok-check_request.ensures
    ∙ ap (λ (b : Bool). first (request_checks c.args.options c.args.sequence.now b)) c.strand_too_short-short.ensures

admit : (c : In_ok-check_request) → StrandAdmitted c.args.options (length c.args.sequence.now) (entry (goal.at.In_ok-check_request c).Start)
admit c = strand_admitted _ _ _ (sym (passed c))

pub encode_strand-requires : goal.encode_strand-requires
encode_strand-requires c = (admit (goal.at.encode_strand-requires c).In_ok-check_request).enough.codes

pub mask_strand-requires : goal.mask_strand-requires
mask_strand-requires c =
    let k = goal.at.mask_strand-requires c in
    admitted_coded _ _ (entry k.Start) _ c.encode_strand.auto.codes (admit k.In_ok-check_request)

pub returns-clause-answered : goal.returns-clause-answered
returns-clause-answered c =
    let k = goal.at.returns-clause-answered c in
    let e = c.encode_strand in
    strand_answered _ _ _ (entry k.Start) _ _ _ (passed k.In_ok-check_request) e.ensures e.auto.codes refl refl c.mask_strand.ensures.ran
