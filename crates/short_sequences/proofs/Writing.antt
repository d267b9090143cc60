-- A loop that fills a buffer with the sequence of an index, a letter in each turn: the index taken apart in base five.
use Rattle.std.proofs.Common.{◌≡◌, refl, sym, ap, subst, ◌∙◌, List, [], ◌∷◌, ℕ, suc, ◌+◌, ◌-◌, ◌/◌, ◌%◌, ◌^◌, ◌<◌, arith, length, drop, get_or, set, get_or-drop, drop-drop}
use native.Mathlib.Nat.{mul-div_cancel_left}
use Rattle.buffers.proofs.Filling.{Fills, fill_start, fill_turn}
use Rattle.short_sequences.specs.Sequences.{sequences_of}
use Rattle.short_sequences.specs.Terms.Outcome.{letter_at}
use Rattle.short_sequences.proofs.Sequences.{five_power, some_sequence, sequence_at, sequence_size, rest_small}

-- The sequence of an index, of as many letters as the buffer d has.
abbrev wanted : ℕ → List ℕ → List ℕ
wanted index d = get_or (sequences_of (length d)) index []

-- After i turns the buffer is l; the letters left are those of the sequence `rest` among the `share` of their size.
pub record Writing (index : ℕ) (d : List ℕ) (i share rest : ℕ) (l : List ℕ) : Type 0 where
  pub left : ℕ
  pub together : i + left ≡ length d
  pub share_is : share ≡ 5 ^ left
  pub rest_within : rest < 5 ^ left
  pub rest_is : drop i (wanted index d) ≡ get_or (sequences_of left) rest []
  pub fills : Fills (wanted index d) d (length d) i l

module _ {index : ℕ} {d : List ℕ} where
  pub writing_start : {share : ℕ} → index < 5 ^ length d → share ≡ 5 ^ length d → Writing index d 0 share index d
  writing_start h e =
      record {
        left = length d;
        together = omega arith;
        share_is = e;
        rest_within = h;
        rest_is = refl;
        fills = fill_start (sequence_size (length d) index h) (omega arith);
      }

  module _ {i share rest : ℕ} {l : List ℕ} (a : Writing index d i share rest l) (h : i < length d) where
    -- One letter fewer is left.
    abbrev fewer : ℕ
    fewer = a.left - 1

    one_fewer : a.left ≡ suc fewer
    one_fewer = let t = a.together in omega arith

    share_next : share / 5 ≡ 5 ^ fewer
    share_next =
        ap (λ (n : ℕ). n / 5) (a.share_is ∙ ap (λ (n : ℕ). 5 ^ n) one_fewer ∙ five_power fewer)
        ∙ mul-div_cancel_left (5 ^ fewer) {n = 5} (omega arith)

    within : rest < 5 ^ suc fewer
    within = subst (λ (n : ℕ). rest < 5 ^ n) one_fewer a.rest_within

    letters_left : drop i (wanted index d) ≡ letter_at (rest / 5 ^ fewer) ∷ get_or (sequences_of fewer) (rest % 5 ^ fewer) []
    letters_left = a.rest_is ∙ ap (λ (n : ℕ). get_or (sequences_of n) rest []) one_fewer ∙ sequence_at fewer rest within

    pub share_some : 0 < share / 5
    share_some = omega (arith, share_next, some_sequence fewer)

    pub writing_turn : {v : ℕ} → v ≡ letter_at (rest / (share / 5)) → Writing index d (i + 1) (share / 5) (rest % (share / 5)) (set l i v)
    writing_turn {v} e =
        record {
          left = fewer;
          together = let t = a.together in omega (arith, one_fewer);
          share_is = share_next;
          rest_within = subst (λ (n : ℕ). rest % n < 5 ^ fewer) (sym share_next) (rest_small fewer rest within);
          rest_is =
              sym (drop-drop 1 i (wanted index d))
              ∙ ap (λ (t : List ℕ). drop 1 t) letters_left
              ∙ ap (λ (n : ℕ). get_or (sequences_of fewer) (rest % n) []) (sym share_next);
          fills =
              fill_turn a.fills 0 v h
              (e
              ∙ ap (λ (n : ℕ). letter_at (rest / n)) share_next
              ∙ sym (ap (λ (t : List ℕ). get_or t 0 0) letters_left)
              ∙ get_or-drop i (wanted index d) 0 0
              ∙ ap (λ (n : ℕ). get_or (wanted index d) n 0) (let q : i + 0 ≡ i = omega arith in q));
        }
