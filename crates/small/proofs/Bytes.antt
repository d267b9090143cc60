-- Intervals written as bytes, one after the other.
use Rattle.std.proofs.Common.{◌≡◌, refl, sym, ap, ap₂, ◌∙◌, List, [], ◌∷◌, ◌++◌, append_assoc, ℕ, ◌+◌, ◌*◌, ◌≤◌, ◌<◌, add-one, arith, length, take, get_or, take-suc, length-take-le}
use Rattle.buffers.specs.Fill.{put, put_at}
use Rattle.buffers.proofs.Put.{put_next}
use Rattle.intervals.specs.declared.Interval.{Interval}
use Rattle.intervals.specs.Interval.{interval}
use Rattle.small.specs.Bytes.{pair_bytes, bytes_of}

bytes_append : (is js : List Interval) → bytes_of (is ++ js) ≡ bytes_of is ++ bytes_of js
unfolding bytes_of
bytes_append [] js = refl
bytes_append (i ∷ is) js = ap (λ (l : List ℕ). pair_bytes i ++ l) (bytes_append is js) ∙ sym (append_assoc (pair_bytes i) (bytes_of is) (bytes_of js))

pub bytes_length : (is : List Interval) → length (bytes_of is) ≡ 8 * length is
unfolding bytes_of
bytes_length [] = refl
bytes_length (i ∷ is) = omega (arith, bytes_length is)

bytes_next : (ps : List Interval) (i : ℕ) → i < length ps
    → bytes_of (take (i + 1) ps) ≡ bytes_of (take i ps) ++ pair_bytes (get_or ps i (interval 0 0))
unfolding bytes_of
bytes_next ps i h =
    ap (λ (k : ℕ). bytes_of (take k ps)) (add-one i)
    ∙ ap (λ (js : List Interval). bytes_of js) (take-suc ps i (interval 0 0) h)
    ∙ bytes_append (take i ps) (get_or ps i (interval 0 0) ∷ [])

taken : (ps : List Interval) (i : ℕ) → i ≤ length ps → length (bytes_of (take i ps)) ≡ 8 * i
taken ps i h = bytes_length (take i ps) ∙ ap (λ (n : ℕ). 8 * n) (length-take-le i ps (omega arith))

-- A loop over a list in a slice ps, which writes interval i in its turn; after i turns the output d is l.
pub record Writing (ps : List Interval) (d : List ℕ) (i : ℕ) (l : List ℕ) : Type 0 where
  pub within : i ≤ length ps
  pub long : length l ≡ length d
  pub now : l ≡ put (bytes_of (take i ps)) d

module _ {ps : List Interval} {d : List ℕ} where
  pub writing_start : Writing ps d 0 d
  unfolding bytes_of
  writing_start = record { within = omega arith; long = refl; now = refl }

  pub writing_turn : {i : ℕ} {l l' : List ℕ} → Writing ps d i l → i < length ps → length l' ≡ length l
      → l' ≡ put_at (8 * i) (pair_bytes (get_or ps i (interval 0 0))) l → Writing ps d (i + 1) l'
  writing_turn {i} {l} {l'} a h k e =
      let xs : List ℕ = bytes_of (take i ps) in
      let ys : List ℕ = pair_bytes (get_or ps i (interval 0 0)) in
      record {
        within = omega arith;
        long = k ∙ a.long;
        now =
            e
            ∙ ap₂ (λ (n : ℕ) (z : List ℕ). put_at n ys z) (sym (taken ps i (omega arith))) a.now
            ∙ put_next xs ys d
            ∙ ap (λ (z : List ℕ). put z d) (sym (bytes_next ps i h));
      }

-- The laws by which `write_list` is proved.
pub ruleset bytes = (writing_start, writing_turn)
