use Rattle.std.proofs.Common.{arith}
use Rattle.report.proofs.Letters.{skip, store, full, ended, held_next}
use Rattle.report.proofs.text.Text.keep_letters.Goals as goal

pub loop-byte-preserved-then-byte-eq10 : goal.loop-byte-preserved-then-byte-eq10
loop-byte-preserved-then-byte-eq10 c =
    let I = c.loop-byte.invariant in
    record { keeping = skip _ _ _ _ _ _ I.keeping c.loop-byte-test.true c.if-byte-eq10.true; same = I.same }

pub returns-then-self-clause-written : goal.returns-then-self-clause-written
returns-then-self-clause-written c =
    let I = c.loop-byte.invariant in
    record { written = full _ _ _ _ _ _ I.keeping c.args.self.now.len_in (omega arith); same = I.same }

pub returns-then-self-clause-held : goal.returns-then-self-clause-held
returns-then-self-clause-held c =
    let K = c.loop-byte.invariant.keeping in
    held_next _ c.args.self.now.len_in K.long (full _ _ _ _ _ _ K c.args.self.now.len_in (omega arith))

pub loop-byte-preserved : goal.loop-byte-preserved
loop-byte-preserved c =
    let I = c.loop-byte.invariant in
    record { keeping = store _ _ _ _ _ _ I.keeping c.loop-byte-test.true c.if-byte-eq10.false (omega arith); same = I.same }

pub returns-clause-written : goal.returns-clause-written
returns-clause-written c =
    let I = c.loop-byte.invariant in
    record { written = ended _ _ _ _ _ _ I.keeping c.args.self.now.len_in c.loop-byte-test.false; same = I.same }

pub returns-clause-held : goal.returns-clause-held
returns-clause-held c =
    let K = c.loop-byte.invariant.keeping in
    held_next _ c.args.self.now.len_in K.long (ended _ _ _ _ _ _ K c.args.self.now.len_in c.loop-byte-test.false)
