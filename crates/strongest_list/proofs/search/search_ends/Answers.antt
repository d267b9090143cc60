-- The row of the ends begins with the letters before them that are not barred.
use Rattle.std.proofs.Common.{ℕ, ◌≡◌, ◌+◌, ◌-◌, ◌<◌, length, get_or, take, drop, sym, ap, subst, arith, ⊎_elim}
use Rattle.intervals.proofs.Order.{lt_or_le}
use Rattle.strongest.proofs.Backward.{part_length}
use Rattle.strongest_list.specs.Terms.Best.{score_of_codes, Picks}
use Rattle.strongest_list.specs.Terms.Tiles.{EndsIn}
use Rattle.strongest_list.proofs.Ends.{run_low, run_in, run_next}
use Rattle.strongest_list.proofs.search.search_ends.Goals as goal

pub overflow_sub-first : goal.overflow_sub-first
overflow_sub-first c = omega (arith, c.free_back-before.ensures.low, run_low c.args.codes.now c.args.ends.from)

pub returns : goal.returns
returns c lo h p =
    let a = c.args in
    let q = a.request.now in
    let cs = a.codes.now in
    let from = a.ends.from in
    let before = c.free_back-before.result in
    let low = c.free_back-before.ensures.low in
    let most = run_low cs from in
    let first : ℕ = from - before in
    let n : ℕ = a.ends.to - first in
    let long : length (take n (drop first cs)) ≡ n = part_length cs first n (omega (arith, c.requires.order, c.requires.inside)) in
    let back : first + before ≡ from = omega arith in
    let front : first + length (take n (drop first cs)) ≡ a.ends.to = omega (arith, c.requires.order) in
    subst (λ (x : ℕ). Picks (score_of_codes q cs) (EndsIn q cs lo x) c.search_row.result) front
    (c.search_row.ensures.at cs lo
    (record {
      inside = omega (arith, c.requires.inside);
      letters_are = ap (λ (m : ℕ). take m (drop first cs)) (sym long);
      before_in = omega (arith, c.requires.order);
      free = λ x i j. ⊎_elim (λ l. run_in cs from x l (omega arith)) (λ l. c.requires.free x l (omega arith)) (lt_or_le x from);
      at_start = λ z. c.skipped_of.ensures.start z;
      later = λ z. c.skipped_of.ensures.later z;
      edge = λ z k.
          ⊎_elim
          (λ (l : get_or cs (first - 1) 5 < 5).
          let same = c.free_back-before.ensures.same k in
          let next = run_next cs from before (omega arith) low (subst (λ (x : ℕ). get_or cs x 5 < 5) (let y : first - 1 ≡ from - 1 - before = omega arith in y) l) in
          absurd (let y : ⊥ = omega arith in y))
          (λ l. l)
          (lt_or_le (get_or cs (first - 1) 5) 5);
    })
    (omega (arith, h)) (subst (λ (x : ℕ). Picks (score_of_codes q cs) (EndsIn q cs lo x) a.best) (sym back) p))
