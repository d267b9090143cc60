use Rattle.strands.proofs.recording.put_strand.Goals as goal

pub returns : goal.returns
returns g c = rw c.new.ensures at c.put_records.ensures.outcome
