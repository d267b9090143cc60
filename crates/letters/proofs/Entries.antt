-- Queue entries read as places, one and a list of them.
use Rattle.std.proofs.Common.{◌≡◌, ℕ, zero, suc, ◌/◌, ◌%◌, ◌<◌, Bool, true, false, cond, eqb, List, [], ◌∷◌, length, get_or, refl, sym, subst, arith, eq-eqb, ne_eqb, eqb-true}
use Rattle.std.specs.Bool.{⊤}
use lib.ListN.{length-map}
use lib.Bits.{bit_and, and_mask}
use Rattle.letters.specs.Place.{Place, ambiguous, plain}
use Rattle.letters.specs.Terms.Entry.{decode, decoded}

pub decode_plain : (e : ℕ) → e % 2 ≡ 0 → decode e ≡ plain (e / 2)
unfolding decode
decode_plain e h = rw (eq-eqb (e % 2) 0 h)

pub decode_ambiguous : (e : ℕ) → (e % 2 ≡ 0 → ⊥) → decode e ≡ ambiguous
unfolding decode
decode_ambiguous e h = rw (ne_eqb (e % 2) 0 h)

abbrev is_plain : Place → Type 0
is_plain ambiguous = ⊥
is_plain (plain x) = ⊤

pub plain_even : (e x : ℕ) → decode e ≡ plain x → e % 2 ≡ 0
unfolding decode
plain_even e x h = go (eqb (e % 2) 0) refl h
  where
    go : (b : Bool) → eqb (e % 2) 0 ≡ b → cond b (plain (e / 2)) ambiguous ≡ plain x → e % 2 ≡ 0
    go true t q = eqb-true (e % 2) 0 t
    go false t q = absurd (subst is_plain (sym q) tt)

even : (e : ℕ) → bit_and e 1 ≡ 0 → e % 2 ≡ 0
even e h = rw (and_mask e 1) at h

pub even_plain : (e : ℕ) → bit_and e 1 ≡ 0 → decode e ≡ plain (e / 2)
even_plain e h = decode_plain e (even e h)

pub odd_ambiguous : (e : ℕ) → (bit_and e 1 ≡ 0 → ⊥) → decode e ≡ ambiguous
odd_ambiguous e h = decode_ambiguous e (rw (and_mask e 1) at h)

-- The laws by which `kmer_of` is proved.
pub ruleset by_lowest_bit = (even_plain, odd_ambiguous)

pub decoded_length : (q : List ℕ) → length (decoded q) ≡ length q
unfolding decoded
decoded_length q = length-map q decode

pub decoded_at : (q : List ℕ) (i : ℕ) → i < length q → get_or (decoded q) i ambiguous ≡ decode (get_or q i 0)
unfolding decoded
decoded_at [] i l = absurd (let b : ⊥ = omega arith in b)
decoded_at (e ∷ q) zero l = refl
decoded_at (e ∷ q) (suc i) l = decoded_at q i (omega arith)
