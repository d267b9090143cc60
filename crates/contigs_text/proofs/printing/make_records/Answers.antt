use Rattle.std.proofs.Common.{ℕ, ◌<◌, List, length, ◌++◌, ◌∙◌, ap, refl, None, rules}
use Rattle.std.proofs.lemmas.List.{get_or-map}
use Rattle.fasta.specs.Steps.{fault_number}
use Rattle.report.specs.Text.{refusal_line}
use Rattle.contigs_text.proofs.Plain.{made, made_fault}
use Rattle.contigs_text.proofs.Record.{on_ok}
use Rattle.contigs_text.proofs.printing.make_records.Goals as goal

pub returns-in-Ok : goal.returns-in-Ok
returns-in-Ok c =
    let some : 0 < length c.put_records.new.outs = search rules in
    made c.args.limits c.args.options c.args.file.now c.requires c.in_ok-new.field-0.options c.in_ok-new.ensures c.clear.new.self.items _
    c.clear.ensures.items _ _ (rw c.from_mut.ensures.value refl) (get_or-map _ c.put_records.new.outs 0 c.clear.new.self None some)
    _ _ c.in-Ok.ensures.outcome

pub returns-in-Err-Faulty : goal.returns-in-Err-Faulty
returns-in-Err-Faulty c =
    on_ok c.add_fault.result
    (λ p.
    p
    ∙ ap (λ (l : List ℕ). l ++ refusal_line (fault_number c.in-Err-Faulty.fault)) c.clear-in-Err-Faulty.ensures.items
    ∙ made_fault c.args.limits c.args.options c.args.file.now c.requires c.in_ok-new.field-0.options _ _ _ _ c.in-Err-Faulty.fault c.in-Err-Faulty.field-0
    c.in-Err-Faulty.field-0-is c.in-Err-Faulty.ensures.outcome)
    c.add_fault.ensures
