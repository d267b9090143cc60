-- A letter that is not barred ends the search.
use Rattle.std.proofs.Common.{ℕ, ◌≡◌, ◌≤◌, get_or, subst, arith, ⊎_elim, eq-or-lt_of_le}
use Rattle.strongest_list.specs.Terms.Codes.{AllBarred}
use Rattle.strongest_list.proofs.Ends.{at_zero}
use Rattle.strongest_list.proofs.search.free_on.Goals as goal

pub loop-x-init : goal.loop-x-init
loop-x-init c = record { at = λ y h k. absurd (let z : ⊥ = omega arith in z) }

pub loop-x-preserved : goal.loop-x-preserved
loop-x-preserved c =
    let cs = c.args.codes.now in
    let x = c.loop-x.x in
    record {
      at = λ y h k.
          ⊎_elim
          (λ (e : y ≡ x). subst (λ (n : ℕ). 5 ≤ get_or cs n 5) (let z : x ≡ y = omega arith in z) (omega (arith, c.if-codes-x-lt-BARRED.false, at_zero cs x (omega (arith, c.loop-x-test.true, c.requires.inside)))))
          (λ l. c.loop-x.invariant.at y h l)
          (eq-or-lt_of_le (let z : y ≤ x = omega arith in z));
    }

pub returns-then-codes-x-lt-BARRED-clause-free : goal.returns-then-codes-x-lt-BARRED-clause-free
returns-then-codes-x-lt-BARRED-clause-free c h = omega (arith, c.if-codes-x-lt-BARRED.true, at_zero c.args.codes.now c.loop-x.x (omega (arith, c.loop-x-test.true, c.requires.inside)))

pub returns-clause-barred : goal.returns-clause-barred
returns-clause-barred c =
    let e : c.loop-x.x ≡ c.args.to = omega (arith, c.loop-x-test.false, c.loop-x.auto.x-end c.requires.order) in
    subst (λ (n : ℕ). AllBarred c.args.codes.now c.args.from n) e c.loop-x.invariant
