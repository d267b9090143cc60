-- The share: share times length + remainder = 10,000 times masked letters, remainder below the length; both fit 32 bits.
use Rattle.std.proofs.Common.{ℕ, ◌+◌, ◌-◌, ◌*◌, ◌/◌, ◌%◌, ◌<◌, ◌≡◌, ap, List, div-add-mod', mod-lt, div-lt_iff_lt-mul, arith}
use Rattle.intervals.specs.declared.Interval.{Interval}
use Rattle.intervals.specs.Interval.{covered_in}
use Rattle.intervals.proofs.Counted.{covered_at_most}
use Rattle.questions.specs.Answers.{answer, share}

module _ (is : List Interval) (a b : ℕ) (h : a < b) where
  pub share_whole : (share a b is).first * (b - a) + (share a b is).second ≡ 10000 * covered_in is a b
  unfolding share
  share_whole = div-add-mod' (10000 * covered_in is a b) (b - a)

  pub share_remainder : (share a b is).second < b - a
  unfolding share
  share_remainder = mod-lt (10000 * covered_in is a b) (omega arith)

  module _ {m : ℕ} (q : m ≡ covered_in is a b) where
    pub share_is : answer ((10000 * m) / (b - a)) ((10000 * m) % (b - a)) ≡ share a b is
    unfolding share
    share_is = ap (λ (k : ℕ). answer ((10000 * k) / (b - a)) ((10000 * k) % (b - a))) q

    pub share_small : (10000 * m) / (b - a) < 10001
    share_small = (div-lt_iff_lt-mul {k = b - a} {x = 10000 * m} {y = 10001} (omega arith)).1 (omega (arith, covered_at_most is a b))

pub ruleset of_share = (share_is, share_small)
