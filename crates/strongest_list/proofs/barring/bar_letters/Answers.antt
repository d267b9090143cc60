-- At the end the loop has come to `to`.
use Rattle.std.proofs.Common.{ℕ, ◌≡◌, cond, ◌&&◌, leb, ltb, get_or, subst, arith}
use Rattle.strongest_list.proofs.barring.bar_letters.Goals as goal

pub returns : goal.returns
returns c =
    let e : c.loop-x.x ≡ c.args.to = omega (arith, c.loop-x-test.false, c.loop-x.auto.x-end c.requires.order) in
    record { at = λ x. subst (λ (n : ℕ). get_or c.loop-x.codes x 5 ≡ cond (leb c.args.from x && ltb x n) 5 (get_or c.args.codes.now x 5)) e (c.loop-x.invariant x) }
