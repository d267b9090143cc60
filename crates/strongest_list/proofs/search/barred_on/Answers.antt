-- A barred letter ends the search.
use Rattle.std.proofs.Common.{ℕ, ◌≡◌, ◌≤◌, ◌<◌, get_or, ap, subst, arith, ⊎_elim, eq-or-lt_of_le}
use Rattle.strongest_list.proofs.Ends.{at_zero}
use Rattle.strongest_list.proofs.search.barred_on.Goals as goal

pub loop-x-preserved : goal.loop-x-preserved
loop-x-preserved c y h k =
    let cs = c.args.codes.now in
    let x = c.loop-x.x in
    ⊎_elim
    (λ (e : y ≡ x). subst (λ (n : ℕ). get_or cs n 5 < 5) (let z : x ≡ y = omega arith in z) (omega (arith, c.if-codes-x-ge-BARRED.false, at_zero cs x (omega (arith, c.loop-x-test.true, c.requires.inside)))))
    (λ l. c.loop-x.invariant y h l)
    (eq-or-lt_of_le (let z : y ≤ x = omega arith in z))

pub returns-then-codes-x-ge-BARRED-clause-free : goal.returns-then-codes-x-ge-BARRED-clause-free
returns-then-codes-x-ge-BARRED-clause-free c y h k = c.loop-x.invariant y h k

pub returns-then-codes-x-ge-BARRED-clause-further : goal.returns-then-codes-x-ge-BARRED-clause-further
returns-then-codes-x-ge-BARRED-clause-further c h k =
    let cs = c.args.codes.now in
    let x = c.loop-x.x in
    let low : c.args.from ≤ x = omega (arith, c.loop-x.auto.x) in
    ⊎_elim
    (λ (e : c.args.from ≡ x).
    let a = ap (λ (n : ℕ). get_or cs n 5) e in
    let b = at_zero cs x (omega (arith, c.loop-x-test.true, c.requires.inside)) in
    absurd (let z : ⊥ = omega (arith, c.if-codes-x-ge-BARRED.true) in z))
    (λ l. omega arith)
    (eq-or-lt_of_le low)

pub returns-clause-free : goal.returns-clause-free
returns-clause-free c y h k = c.loop-x.invariant y h (omega (arith, c.loop-x-test.false, c.loop-x.auto.x-end c.requires.order))
