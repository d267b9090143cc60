-- What `put` and `put_at` leave: the length, one write after another, and a single store.
use Rattle.std.proofs.Common.{◌≡◌, sym, ap, ap₂, ◌∙◌, List, [], ◌∷◌, ◌++◌, append_assoc, ℕ, suc, ◌+◌, ◌≤◌, ◌<◌, arith, length, take, drop, set, length-append, length-drop, take-append-drop, length-take-le, take_at, drop_at, drop-drop}
use lib.Seq.{take-append_seam, set_split}
use Rattle.buffers.specs.Fill.{put, put_at}

module _ {ℓ} {A : Type ℓ} where
  pub put_length : (xs d : List A) → length xs ≤ length d → length (put xs d) ≡ length d
  put_length xs d h = length-append xs (drop (length xs) d) ∙ omega (arith, length-drop (length xs) d)

  pub take_put : (xs d : List A) → take (length xs) (put xs d) ≡ xs
  take_put xs d = take-append_seam xs (drop (length xs) d)

  pub put_at_length : (i : ℕ) (xs d : List A) → i + length xs ≤ length d → length (put_at i xs d) ≡ length d
  put_at_length i xs d h =
      let l = length-drop i d in
      let t = length-take-le i d (omega arith) in
      let p = put_length xs (drop i d) (omega arith) in
      length-append (take i d) (put xs (drop i d)) ∙ omega arith

  pub put_at_none : (i : ℕ) (d : List A) → put_at i [] d ≡ d
  put_at_none i d = take-append-drop i d

  -- A write where another ends.
  pub put_at_next : (i : ℕ) (xs ys d : List A) → i ≤ length d → put_at (i + length xs) ys (put_at i xs d) ≡ put_at i (xs ++ ys) d
  put_at_next i xs ys d h =
      ap₂ (λ (l m : List A). l ++ put ys m) (ap (λ (l : List A). take at l) e ∙ take_at front rest at long)
      (ap (λ (l : List A). drop at l) e ∙ drop_at front rest at long)
      ∙ append_assoc (take i d) xs (put ys rest)
      ∙ ap (λ (l : List A). take i d ++ l)
      (sym (append_assoc xs ys (drop (length ys) rest))
      ∙ ap (λ (l : List A). (xs ++ ys) ++ l)
      (drop-drop (length ys) (length xs) (drop i d) ∙ ap (λ (k : ℕ). drop k (drop i d)) (sym (length-append xs ys))))
    where
      at : ℕ
      at = i + length xs

      front : List A
      front = take i d ++ xs

      rest : List A
      rest = drop (length xs) (drop i d)

      long : length front ≡ at
      long = length-append (take i d) xs ∙ omega (arith, length-take-le i d h)

      e : put_at i xs d ≡ front ++ rest
      e = sym (append_assoc (take i d) xs rest)

  pub put_next : (xs ys d : List A) → put_at (length xs) ys (put xs d) ≡ put (xs ++ ys) d
  put_next xs ys d =
      ap (λ (k : ℕ). put_at k ys (put xs d)) (let e : length xs ≡ 0 + length xs = omega arith in e)
      ∙ put_at_next 0 xs ys d (omega arith)

  pub put_at_store : (i : ℕ) (x : A) (d : List A) → i < length d → set d i x ≡ put_at i (x ∷ []) d
  put_at_store i x d h =
      set_split d i x h
      ∙ ap (λ (l : List A). take i d ++ (x ∷ l))
      (ap (λ (k : ℕ). drop k d) (let e : suc i ≡ i + 1 = omega arith in e) ∙ sym (drop-drop 1 i d))

  -- One entry more.
  pub put_more : (xs : List A) (x : A) (d : List A) → length xs < length d → set (put xs d) (length xs) x ≡ put (xs ++ (x ∷ [])) d
  put_more xs x d h =
      put_at_store (length xs) x (put xs d) (omega (arith, put_length xs d (omega arith)))
      ∙ put_next xs (x ∷ []) d

  -- The first k entries again, and one after them.
  pub put_store : (k : ℕ) (x : A) (d : List A) → k < length d → set d k x ≡ put (take k d ++ (x ∷ [])) d
  put_store k x d h =
      let t = length-take-le k d (omega arith) in
      ap₂ (λ (l : List A) (i : ℕ). set l i x)
      (sym (ap (λ (i : ℕ). take k d ++ drop i d) t ∙ take-append-drop k d)) (sym t)
      ∙ put_more (take k d) x d (omega arith)
