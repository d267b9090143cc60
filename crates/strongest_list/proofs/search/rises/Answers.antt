-- Each entry is held against the next.
use Rattle.std.proofs.Common.{ℕ, suc, ◌≡◌, ◌+◌, ◌≤◌, get_or, ap, subst, arith, ⊎_elim, eq-or-lt_of_le}
use Rattle.strongest_list.specs.Mirrored.{Rises}
use Rattle.strongest_list.proofs.search.rises.Goals as goal

pub loop-i-init : goal.loop-i-init
loop-i-init c = record { some = omega arith; rises = record { step = λ j h k. absurd (let z : ⊥ = omega arith in z) } }

pub loop-i-preserved : goal.loop-i-preserved
loop-i-preserved c =
    let I = c.loop-i.invariant in
    let f = c.args.table.now in
    let i = c.loop-i.i in
    record {
      some = omega arith;
      rises = record {
        step = λ j h k.
            ⊎_elim
            (λ (e : j ≡ i).
            let a = ap (λ (n : ℕ). get_or f n 0) e in
            let b = ap (λ (n : ℕ). get_or f n 0) (let z : suc j ≡ i + 1 = omega arith in z) in
            omega (arith, c.if-table-i.false))
            (λ (l : suc j ≤ i). I.rises.step j h l)
            (eq-or-lt_of_le (let z : j ≤ i = omega arith in z));
      };
    }

pub returns : goal.returns
returns c h = subst (λ (n : ℕ). Rises c.args.table.now n) (let z : c.loop-i.i ≡ c.args.w = omega (arith, c.loop-i-test.false, c.loop-i.auto.i-end c.requires.some) in z) c.loop-i.invariant.rises
