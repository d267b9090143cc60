use Rattle.std.proofs.Common.{◌∙◌, ◌+◌, arith}
use mir.Syntax.{w64}
use mir.Val.{SFits}
use mir.Facts.{to_z_pos, to_z-of_z}
use borrow.Author.Rules.{rules}
use Rattle.step.proofs.Finding.{found_at}
use Rattle.step.proofs.hand.Open.found.Goals as goal

pub returns : goal.returns
returns c =
    let a = c.args in
    let n = c.requires.i_bound in
    let start_fits : SFits w64 a.self.start = search rules in
    let end_fits : SFits w64 a.self.end = search rules in
    let back = to_z-of_z {w = w64} {z = c.first_letter-s.result} (record { sfits = c.first_letter-s.type_inv }) in
    let again = to_z-of_z {w = w64} {z = c.start_after.result} (record { sfits = c.start_after.type_inv }) in
    (found_at c.if-r-eq0.false c.first_letter-s.ensures back back (to_z-of_z start_fits) (to_z-of_z end_fits) (again ∙ c.start_after.ensures) (to_z_pos w64 {n = a.i + 1} (omega (arith, n.0))) c.close_before-count.ensures.0, c.close_before-count.ensures.1)
