-- An interval put after others, if it has a letter, and its mark beside it.
use Rattle.std.proofs.Common.{ℕ, ◌≤◌, ◌<◌, ◌≡◌, sym, ap, ◌∙◌, List, map, length, set}
use Rattle.buffers.specs.Fill.{put_at}
use Rattle.buffers.proofs.Put.{put_at_store, put_at_none}
use Rattle.intervals.specs.declared.Interval.{Interval}
use Rattle.intervals.specs.Merge.{nonempty}
use Rattle.intervals.proofs.Joining.{nonempty_some, nonempty_none}

module _ (i : Interval) where
  module _ (h : i.start < i.end) where
    pub some_pushed : (c : ℕ) (xs : List Interval) → c < length xs → set xs c i ≡ put_at c (nonempty i.start i.end) xs
    some_pushed c xs k = put_at_store c i xs k ∙ ap (λ (is : List Interval). put_at c is xs) (sym (nonempty_some i.start i.end h))

    pub some_marked : (c mark : ℕ) (ys : List ℕ) → c < length ys → set ys c mark ≡ put_at c (map (λ (_ : Interval). mark) (nonempty i.start i.end)) ys
    some_marked c mark ys k =
        put_at_store c mark ys k
        ∙ ap (λ (is : List Interval). put_at c (map (λ (_ : Interval). mark) is) ys) (sym (nonempty_some i.start i.end h))

    pub some_counted : length (nonempty i.start i.end) ≡ 1
    some_counted = ap (λ (is : List Interval). length is) (nonempty_some i.start i.end h)

  module _ (h : i.end ≤ i.start) where
    pub none_pushed : (c : ℕ) (xs : List Interval) → xs ≡ put_at c (nonempty i.start i.end) xs
    none_pushed c xs = sym (put_at_none c xs) ∙ ap (λ (is : List Interval). put_at c is xs) (sym (nonempty_none i.start i.end h))

    pub none_marked : (c mark : ℕ) (ys : List ℕ) → ys ≡ put_at c (map (λ (_ : Interval). mark) (nonempty i.start i.end)) ys
    none_marked c mark ys =
        sym (put_at_none c ys) ∙ ap (λ (is : List Interval). put_at c (map (λ (_ : Interval). mark) is) ys) (sym (nonempty_none i.start i.end h))

    pub none_counted : length (nonempty i.start i.end) ≡ 0
    none_counted = ap (λ (is : List Interval). length is) (nonempty_none i.start i.end h)

-- The laws by which `push` is proved.
pub ruleset of_push = (some_pushed, some_counted, none_pushed, none_counted)
