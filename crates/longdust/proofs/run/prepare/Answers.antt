use Rattle.std.proofs.Common.{T, ltb}
use lib.Ieee.{binary64, fits}
use borrow.Author.Rules.{rules}
use mir.Syntax.{w32}
use mir.ValLaws.{to_z-of_z}
use Rattle.longdust.proofs.Setups.{prepared, float_bits, shaped_by}
use Rattle.longdust.proofs.run.prepare.Goals as goal

pub returns : goal.returns
returns c =
    let a = c.args in
    let t : T (fits binary64 a.options.score_threshold) = search rules in
    let same = prepared a.options a.ln.now a.f.now c.drop_limit.result c.max_test.result _ c.usual_tables.result (to_z-of_z w32 c.max_test.result (record { sfits = c.max_test.type_inv })) c.drop_limit.ensures c.max_test.ensures in
    let floats = float_bits a.options a.ln.now a.f.now c.requires.bounds t c.type_inv.ln c.type_inv.f in
    record { setup_is = same; floats = floats; shaped = shaped_by a.options a.ln.now a.f.now _ a.flag (ltb a.options.window_size a.n) c.requires.in_range_value c.usual_tables.ensures same floats }
