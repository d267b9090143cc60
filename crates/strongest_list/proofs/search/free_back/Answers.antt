-- A barred letter ends the row.
use Rattle.std.proofs.Common.{◌-◌, ◌<◌, arith}
use Rattle.strongest_list.proofs.Ends.{run_low, run_next, run_stop, at_zero}
use Rattle.strongest_list.proofs.search.free_back.Goals as goal

pub returns-then-codes-end-ge-BARRED-clause-same : goal.returns-then-codes-end-ge-BARRED-clause-same
returns-then-codes-end-ge-BARRED-clause-same c h =
    let cs = c.args.codes.now in
    let e = c.args.end in
    let r = c.loop-r.r in
    let l : r < e = omega (arith, c.loop-r-test.true, c.min-most.ensures) in
    omega (arith, c.loop-r.invariant, run_stop cs e r l (omega (arith, c.if-codes-end-ge-BARRED.true, at_zero cs (e - 1 - r) (omega (arith, c.requires)))))

pub loop-r-preserved : goal.loop-r-preserved
loop-r-preserved c =
    let cs = c.args.codes.now in
    let e = c.args.end in
    let r = c.loop-r.r in
    let l : r < e = omega (arith, c.loop-r-test.true, c.min-most.ensures) in
    run_next cs e r l c.loop-r.invariant (omega (arith, c.if-codes-end-ge-BARRED.false, at_zero cs (e - 1 - r) (omega (arith, c.requires))))

pub returns-clause-same : goal.returns-clause-same
returns-clause-same c h =
    let low = run_low c.args.codes.now c.args.end in
    omega (arith, c.loop-r.invariant, c.loop-r-test.false, c.loop-r.auto.r-end, c.min-most.ensures)
