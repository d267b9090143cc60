use Rattle.std.proofs.Common.{refl, arith}
use Rattle.deep.proofs.Sums.{sum_room, written, capped}
use Rattle.deep.proofs.Deep.set_cell.Goals as goal

pub overflow_add-block : goal.overflow_add-block
overflow_add-block c =
    let r = sum_room c.args.scale.now c.requires.narrow c.args.self.now.cells.now c.args.self.now.blocks.now c.requires.blocked c.args.s c.requires.in_cells in
    let n = c.requires.narrow.ln_small c.args.cell.count in
    omega (arith, r.1, n, c.gain_of-now.ensures)

pub overflow_sub-block : goal.overflow_sub-block
overflow_sub-block c =
    let r = sum_room c.args.scale.now c.requires.narrow c.args.self.now.cells.now c.args.self.now.blocks.now c.requires.blocked c.args.s c.requires.in_cells in
    omega (arith, r.0, c.gain_of-before.ensures)

pub returns-clause-blocked : goal.returns-clause-blocked
returns-clause-blocked c =
    let r = sum_room c.args.scale.now c.requires.narrow c.args.self.now.cells.now c.args.self.now.blocks.now c.requires.blocked c.args.s c.requires.in_cells in
    let before = c.gain_of-before.ensures in
    let now = c.gain_of-now.ensures in
    let less = c.saturating_sub.ensures in
    written c.args.scale.now c.requires.narrow c.args.self.now.cells.now c.args.self.now.blocks.now c.requires.blocked c.args.s c.requires.in_cells c.args.cell c.requires.few _
    (omega arith) refl
    (capped _ 18446744073709551615 _ (rw (← now, ← before, ← less) c.saturating_add.ensures))
