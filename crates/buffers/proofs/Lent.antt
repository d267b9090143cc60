-- The first m entries of a buffer xs were lent as a part and came back as ys, so that the buffer is now `ys ++ drop m xs`.
use Rattle.std.proofs.Common.{◌≡◌, sym, ap, ◌∙◌, List, ◌++◌, ℕ, ◌≤◌, arith, length, take, drop, length-append, length-drop, length-take-le}
use lib.Seq.{drop-append_seam}
use Rattle.buffers.specs.Free.{Free}

module _ {A : Type 0} (m : ℕ) (xs ys : List A) (fits : m ≤ length xs) (long : length ys ≡ length (take m xs)) where
  pub as_long : length ys ≡ m
  as_long = long ∙ length-take-le m xs fits

  pub part_free : Free m xs (ys ++ drop m xs)
  part_free =
      let e = as_long in
      record {
        long = length-append ys (drop m xs) ∙ omega (arith, length-drop m xs);
        past = ap (λ (k : ℕ). drop k (ys ++ drop m xs)) (sym e) ∙ drop-append_seam ys (drop m xs);
      }

pub free_at : {A : Type 0} (m m' : ℕ) (xs xs' : List A) → m ≡ m' → Free m xs xs' → Free m' xs xs'
free_at m m' xs xs' e f = record { long = f.long; past = ap (λ (z : ℕ). drop z xs') (sym e) ∙ f.past ∙ ap (λ (z : ℕ). drop z xs) e }
