use Rattle.std.proofs.Common.{◌∙◌, refl, Err}
use Rattle.entries.specs.Held.{entry_of}
use Rattle.entries.proofs.Whole.{recorded_as, going_start, going_on, ends_well, ends_early, fails_reading, fails_writing}
use Rattle.entries.proofs.records.put_records.Goals as goal

pub loop-init : goal.loop-init
loop-init g c = record { report = refl; going = going_start _ c.args.cr _ _ _ _ }

pub loop-preserved : goal.loop-preserved
loop-preserved g c =
    let I = c.loop.invariant in
    record {
      report = c.in-Ok.ensures.report ∙ I.report;
      going =
          going_on _ c.args.cr _ _ _ _ _ _ _ _ I.going (g.R.Read.remaining c.next_entry.new.reader) _ _ (entry_of c.next_entry.new.entry) c.in-Ok.one _ c.add.ensures
          (rw c.in-Ok-true.field-0-test at c.in-Ok-true.ensures) (rw I.report at c.in-Ok.ensures.recorded);
    }

pub returns-in-Ok-false-clause-outcome : goal.returns-in-Ok-false-clause-outcome
returns-in-Ok-false-clause-outcome g c = ends_well _ c.args.cr _ _ _ _ _ _ _ _ c.loop.invariant.going (rw c.in-Ok-false.field-0-test at c.in-Ok-false.ensures)

pub returns-in-Err-clause-outcome : goal.returns-in-Err-clause-outcome
returns-in-Err-clause-outcome g c =
    fails_reading _ c.args.cr _ _ _ _ _ _ _ _ c.loop.invariant.going c.in-Err.e (g.R.Read.remaining c.next_entry.new.reader)
    (entry_of c.next_entry.new.entry) c.in-Err.ensures

pub returns-in-Err-put-clause-outcome : goal.returns-in-Err-put-clause-outcome
returns-in-Err-put-clause-outcome g c =
    let I = c.loop.invariant in
    fails_writing _ c.args.cr _ _ _ _ _ _ _ _ I.going c.in-Err-put.e (g.R.Read.remaining c.next_entry.new.reader) _ _
    (entry_of c.next_entry.new.entry)
    (rw c.in-Ok-true.field-0-test at c.in-Ok-true.ensures)
    (recorded_as _ _ (entry_of c.next_entry.new.entry) _ _ _ _ (Err c.in-Err-put.e) I.report c.in-Err-put.ensures.recorded)

pub returns-clause-outcome : goal.returns-clause-outcome
returns-clause-outcome g c = ends_early _ c.args.cr _ _ _ _ _ _ _ _ c.loop.invariant.going
