-- The newest entry of a window as its last place (`newest_place`), and a place that stands nowhere from an index on (`none_counted`).
use Rattle.std.proofs.Common.{◌≡◌, refl, sym, ap, ◌∙◌, Bool, true, false, cond, List, [], ◌∷◌, ◌++◌, ℕ, zero, suc, ◌+◌, ◌-◌, ◌*◌, ◌/◌, ◌%◌, ◌≤◌, ◌<◌, ⊎_elim, eq-or-lt_of_le, arith, length, get_or, drop, length-append, eqb, eqb→eq, T}
use lib.ListN.{get_or-append}
use lib.Seq.{get_or-append_seam}
use Rattle.letters.specs.Place.{Place, ambiguous, plain}
use Rattle.letters.specs.Terms.Entry.{decode}
use Rattle.letters.proofs.Entries.{decoded_at}
use Rattle.scans.specs.declared.Params.{Params}
use Rattle.scans.specs.Counts.{hit, count}
use Rattle.scans.specs.Terms.Window.{queue, window, newest_in, Windowed}
use Rattle.search.specs.Terms.Certified.{NoneFrom}
use Rattle.scans.proofs.Counting.{hit_self, hit_other}
use Rattle.scans.proofs.Rings.{queue_length}
use Rattle.scans.proofs.Windows.{long}

hit_none : (x : ℕ) (e : Place) → (e ≡ plain x → ⊥) → hit x e ≡ 0
hit_none x ambiguous n = refl
hit_none x (plain y) n = hit_other x y (λ s. n (ap plain (sym s)))

count_none : (x i : ℕ) (q : List Place) → ((a : ℕ) → i ≤ a → a < length q → get_or q a ambiguous ≡ plain x → ⊥) → count x (drop i q) ≡ 0
count_none x zero [] f = refl
count_none x (suc i) [] f = refl
count_none x zero (e ∷ q) f = omega (arith, hit_none x e (f 0 (omega arith) (omega arith)), count_none x zero q (λ a h l. f (suc a) (omega arith) (omega arith)))
count_none x (suc i) (e ∷ q) f = count_none x i q (λ a h l. f (suc a) (omega arith) (omega arith))

-- An entry that is a plain place of k-mer x is 2x.
abbrev kmer_of : Place → ℕ
kmer_of ambiguous = 0
kmer_of (plain x) = x

plain_entry : (y x : ℕ) → decode y ≡ plain x → y ≡ 2 * x
unfolding decode
plain_entry y x h = go (eqb (y % 2) 0) (eqb→eq (y % 2) 0) h
  where
    go : (b : Bool) → (T b → y % 2 ≡ 0) → cond b (plain (y / 2)) ambiguous ≡ plain x → y ≡ 2 * x
    go true even s = let half : y / 2 ≡ x = ap kmer_of s in let e = even tt in omega arith
    go false even s = let z : 0 ≡ hit x (plain x) = ap (hit x) s in absurd (omega (arith, hit_self x))

module _ {p : Params} {ring : List ℕ} {head len : ℕ} {counts : List ℕ} {n : ℕ} (w : Windowed p ring head len counts n) (some : 0 < len) (q₀ : List Place) (e : Place) (joins : window ring head len ≡ q₀ ++ e ∷ []) where
  pub before_long : length q₀ + 1 ≡ len
  before_long = omega (arith, ap length joins, length-append q₀ (e ∷ []), long w)

  queue_long : length (queue ring head len) ≡ len
  queue_long = queue_length ring head len (omega (arith, w.ring_is, w.head_in)) (omega (arith, w.ring_is, w.len_in))

  pub newest_place : e ≡ decode (newest_in ring head len)
  newest_place =
      let last : length q₀ ≡ len - 1 = omega (arith, before_long) in
      sym (get_or-append_seam q₀ e [] ambiguous)
      ∙ ap (λ (l : List Place). get_or l (length q₀) ambiguous) (sym joins)
      ∙ decoded_at (queue ring head len) (length q₀) (omega (arith, before_long, queue_long))
      ∙ ap (λ (i : ℕ). decode (get_or (queue ring head len) i 0)) last

  pub none_counted : (i : ℕ) → NoneFrom ring head len i → (x : ℕ) → e ≡ plain x → count x (drop i q₀) ≡ 0
  none_counted i none x is =
      count_none x i q₀
      (λ a h l s.
      let place : decode (get_or (queue ring head len) a 0) ≡ plain x =
      sym (decoded_at (queue ring head len) a (omega (arith, before_long, queue_long))) ∙ ap (λ (z : List Place). get_or z a ambiguous) joins ∙ get_or-append q₀ (e ∷ []) ambiguous a l ∙ s in
      none a h (omega (arith, before_long)) (plain_entry (get_or (queue ring head len) a 0) x place ∙ sym (plain_entry (newest_in ring head len) x (sym newest_place ∙ is))))

-- ---- The search for the last entry that equals the newest, from the newest back.
pub since_turn : (ring : List ℕ) (head len l : ℕ) → l < len → NoneFrom ring head len (len - l) → (get_or (queue ring head len) (len - 1 - l) 0 ≡ newest_in ring head len → ⊥) → NoneFrom ring head len (len - (l + 1))
since_turn ring head len l inside none other a h k s =
    ⊎_elim (λ (e : len - 1 - l ≡ a). other (ap (λ (i : ℕ). get_or (queue ring head len) i 0) e ∙ s)) (λ (g : len - 1 - l < a). none a (omega arith) k s) (eq-or-lt_of_le (let z : len - 1 - l ≤ a = omega arith in z))
