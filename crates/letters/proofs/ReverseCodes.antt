-- The loop that writes the codes of the reverse complement from the letters: l is the buffer d after i turns.
use Rattle.std.proofs.Common.{◌≡◌, ℕ, ◌+◌, ◌-◌, ◌<◌, ◌≤◌, List, length, get_or, set, sym, ap, ◌∙◌, arith}
use Rattle.std.proofs.lemmas.List.{get_or_default}
use Rattle.buffers.proofs.Filling.{part, part_end}
use Rattle.letters.specs.Code.{code, codes, complement, reverse_complement}
use Rattle.letters.proofs.Codes.{codes_at, codes_length, reverse_complement_length, reverse_complement_turn}

pub reverse_codes_length : (s : List ℕ) → length (reverse_complement (codes s)) ≡ length s
reverse_codes_length s = reverse_complement_length (codes s) ∙ codes_length s

pub reverse_codes_turn : (s d l : List ℕ) (i v : ℕ) → i < length s → length s ≤ length d → l ≡ part (reverse_complement (codes s)) d i
    → v ≡ complement (code (get_or s (length s - 1 - i) 0)) → set l i v ≡ part (reverse_complement (codes s)) d (i + 1)
reverse_codes_turn s d l i v inside fits e g =
    let n = codes_length s in
    let last : length s - 1 - i < length s = omega arith in
    let at : length (codes s) - 1 - i ≡ length s - 1 - i = omega arith in
    let read : get_or (codes s) (length s - 1 - i) 0 ≡ code (get_or s (length s - 1 - i) 0) =
    get_or_default (codes s) (length s - 1 - i) 0 4 (omega arith) ∙ codes_at s (length s - 1 - i) last in
    reverse_complement_turn (codes s) d l i v (omega arith) (omega arith) e
    (g ∙ ap complement (sym read) ∙ ap (λ (j : ℕ). complement (get_or (codes s) j 0)) (sym at))

pub ruleset of_reverse_codes = (reverse_codes_turn, part_end, reverse_codes_length)
