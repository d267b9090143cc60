use Rattle.std.proofs.Common.{rules, ℕ, ap, ◌∙◌, arith}
use Rattle.std.proofs.lemmas.List.{get_or_default}
use Rattle.replay.specs.Words.{digit_of}
use Rattle.replay.proofs.Digits.{hex_none, hex_more, hex_small, hex_fits, hex_whole}
use Rattle.replay.proofs.words.Words.bits.Goals as goal

pub loop-byte-init : goal.loop-byte-init
loop-byte-init c = record { value = hex_none _; small = search rules }

pub overflow_mul-bits : goal.overflow_mul-bits
overflow_mul-bits c = omega (arith, hex_fits c.loop-byte.byte-index c.loop-byte.bits 0 (omega arith) c.loop-byte.invariant.small (omega arith))

pub overflow_add-bits : goal.overflow_add-bits
overflow_add-bits c =
    let small = rw c.in_ok-digit.ensures.ok_part at c.digit.ensures.small in
    omega (arith, hex_fits c.loop-byte.byte-index c.loop-byte.bits c.in_ok-digit.digit (omega arith) c.loop-byte.invariant.small small)

pub loop-byte-preserved : goal.loop-byte-preserved
loop-byte-preserved c =
    let small = rw c.in_ok-digit.ensures.ok_part at c.digit.ensures.small in
    let value = rw c.in_ok-digit.ensures.ok_part at c.digit.ensures.value in
    record {
      value = hex_more _ _ _ _ c.loop-byte.invariant.value (value ∙ ap (λ (x : ℕ). digit_of x) (get_or_default c.in_ok-word.word.now c.loop-byte.byte-index 0 48 (omega arith)));
      small = hex_small c.loop-byte.byte-index c.loop-byte.bits c.in_ok-digit.digit c.loop-byte.invariant.small small;
    }

pub returns-clause-ok : goal.returns-clause-ok
returns-clause-ok c = record {
  word = c.in_ok-word.word.now;
  next = c.in_ok-word.ensures.ok;
  value = hex_whole _ c.loop-byte.byte-index _ (omega arith) (omega arith) (omega arith) c.loop-byte.invariant.value c.loop-byte.invariant.small;
}
