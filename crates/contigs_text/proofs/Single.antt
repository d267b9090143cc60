-- A record is refused and masked as `track` does with its letters alone.
use Rattle.std.proofs.Common.{ℕ, ◌+◌, ◌≤◌, ◌<◌, ◌≡◌, refl, sym, ap, ◌∙◌, Bool, false, List, length, arith, le-ltb, div-lt_iff_lt-mul}
use Rattle.checks.specs.Checks.{first}
use Rattle.checks.specs.Tests.{most_intervals}
use Rattle.longdust.specs.Options.{defaults}
use Rattle.longdust.specs.Checks.{too_short_of, request_checks}
use Rattle.contig.specs.Run.{most_letters, lent, contig_refusal, contig_mask}
use Rattle.masker.specs.Run.{listed, record_refusal, record_mask}

few_rows : (n : ℕ) → n ≤ most_letters → most_intervals n 7 ≤ 4096
few_rows n h =
    let lt : most_intervals n 7 < 4097 = (div-lt_iff_lt-mul {k = 8} {x = n + 1} {y = 4097} (omega arith)).1 (omega arith) in
    omega arith

-- The buffers of `track` are long enough for so many letters, and so are those of exactly the listed sizes.
long_enough : (n : ℕ) → n ≤ most_letters → too_short_of n 7 5000 lent ≡ false
unfolding too_short_of
long_enough n h = rw (le-ltb 32768 n h, le-ltb 4096 (most_intervals n 7) (few_rows n h)) refl

exactly : (n : ℕ) → too_short_of n 7 5000 (listed defaults n) ≡ false
unfolding too_short_of defaults
exactly n = rw (le-ltb n n (omega arith), le-ltb (most_intervals n 7) (most_intervals n 7) (omega arith)) refl

pub same_refusal : (s : List ℕ) → length s ≤ most_letters → record_refusal defaults s ≡ contig_refusal s
unfolding record_refusal contig_refusal defaults
same_refusal s h = ap (λ (short : Bool). first (request_checks defaults s short)) (exactly (length s) ∙ sym (long_enough (length s) h))

pub same_mask : (s : List ℕ) → record_mask defaults s ≡ contig_mask s
unfolding record_mask contig_mask defaults
same_mask s = refl
