-- The small profile against the filling call: count, starts and ends are its own. A number comes back from its bytes.
use Rattle.std.proofs.Common.{ℕ, ◌+◌, ◌*◌, ◌/◌, ◌%◌, ◌≤◌, ◌<◌, ◌≡◌, sym, ap, subst, ◌∙◌, List, Ok, div-add-mod', mod-eq_of_lt, arith, length, get_or}
use native.Mathlib.Nat.{div-div-eq-div-mul}
use Rattle.buffers.specs.Fill.{put}
use Rattle.checks.specs.Tests.{most_intervals}
use Rattle.letters.specs.Code.{codes}
use Rattle.letters.proofs.Codes.{codes_length}
use Rattle.intervals.specs.declared.Interval.{Interval}
use Rattle.tables.specs.Density.{density}
use Rattle.tables.specs.Tables.{ln_table, f_table}
use Rattle.longdust.specs.declared.LongdustOptions.{LongdustOptions}
use Rattle.longdust.specs.declared.Answer.{Answer}
use Rattle.longdust.specs.Mask.{setup, mask}
use Rattle.longdust.specs.Buffers.{Buffers}
use Rattle.longdust.specs.Call.{listed, Filled, Answered}
use Rattle.mask.proofs.Masks.{mask_room}
use Rattle.small.specs.Profile.{refusal}
use Rattle.small.specs.Bytes.{four_bytes, bytes_of}
use Rattle.small.specs.Call.{filled_mask}
use Rattle.small.proofs.Profile.{kmer_some, list_room_lem}
use Rattle.small.proofs.Runs.{mask_listed, mask_counted}

-- An accepted request of the profile, and an accepted request of the filling call with the same options and sequence.
pub as_the_filling_call : (o : LongdustOptions) (s d d' : List ℕ) {count : ℕ} {b b' : Buffers} {r : Answer}
    → count ≡ length (filled_mask o s) → d' ≡ put (bytes_of (filled_mask o s)) d → Answered Filled o s b b' (Ok r)
    → (count ≡ r.count) × (d' ≡ put (bytes_of (listed r b')) d)
as_the_filling_call o s d d' counted written A =
    (counted ∙ sym (mask_counted o s A), written ∙ ap (λ (is : List Interval). put (bytes_of is) d) (sym (mask_listed o s A)))

-- At most 2,048 intervals are written.
pub count_few : (o : LongdustOptions) (s : List ℕ) (room : ℕ) → refusal o s room ≡ 0 → length (filled_mask o s) ≤ 2048
unfolding filled_mask mask setup
count_few o s room passed =
    let w = o.window_size in
    let S = setup o (ln_table w) (f_table o.kmer w (density o.kmer o.gc (codes s))) in
    let few = mask_room S o.forward_only (codes s) (kmer_some o s room passed) in
    let most = subst (λ (n : ℕ). length (filled_mask o s) ≤ most_intervals n o.kmer) (codes_length s) few in
    omega (arith, list_room_lem o s room passed)

-- The number that four bytes stand for.
digits_back : (x q r q₂ r₂ q₃ r₃ : ℕ) → q * 256 + r ≡ x → q₂ * 256 + r₂ ≡ q → q₃ * 256 + r₃ ≡ q₂ → r + 256 * r₂ + 65536 * r₃ + 16777216 * q₃ ≡ x
digits_back x q r q₂ r₂ q₃ r₃ a b c = omega arith

pub number_back : (x : ℕ) → x < 4294967296
    → get_or (four_bytes x) 0 0 + 256 * get_or (four_bytes x) 1 0 + 65536 * get_or (four_bytes x) 2 0 + 16777216 * get_or (four_bytes x) 3 0 ≡ x
number_back x h =
    let q = x / 256 in
    let q₂ = x / 65536 in
    let q₃ = x / 16777216 in
    let last : q₃ % 256 ≡ q₃ = mod-eq_of_lt (omega arith) in
    rw last
    (digits_back x q (x % 256) q₂ (q % 256) q₃ (q₂ % 256) (div-add-mod' x 256)
    (ap (λ (n : ℕ). n * 256 + q % 256) (sym (div-div-eq-div-mul x 256 256)) ∙ div-add-mod' q 256)
    (ap (λ (n : ℕ). n * 256 + q₂ % 256) (sym (div-div-eq-div-mul x 65536 256)) ∙ div-add-mod' q₂ 256))
