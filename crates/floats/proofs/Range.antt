-- From the float tests of the flag to the ranges that the laws of sums ask: 0 <= x and x <= B give `Ranged B x`, for 16 and for 1,048,576.
use Rattle.std.proofs.Common.{◌≡◌, ℕ, ◌+◌, ◌*◌, ◌≤◌, false, T, sym, subst, arith, lit<}
use lib.Ieee.{Float, binary64, fits, le}
use Rattle.floats.specs.Value.{Finite}
use Rattle.floats.specs.Binary64.{one, zero64, sixteen, two_to20}
use Rattle.floats.proofs.Compare.{le_value, finite_between, not_negative}
use Rattle.floats.proofs.Sized.{Sized, sized_parts, number_sized}
use Rattle.floats.proofs.Constants.{zero64_is, sixteen_is, two_to20_is}
use Rattle.floats.specs.Terms.Rounded.{pos64, neg64, Ranged}

pub zero_number : Sized false (0 * one) zero64
zero_number = subst (λ (x : Float). Sized false (0 * one) x) (sym zero64_is) (number_sized 0 (lit< tt))

pub ranged : (B : ℕ) (limit x : Float) → Sized false (B * one) limit → T (fits binary64 x) → T (le zero64 x) → T (le x limit) → Ranged B x
ranged B limit x b f low high =
    let z = zero_number in
    let zp = sized_parts z in
    let bp = sized_parts b in
    let ok : Finite binary64 x = record { finite = finite_between zero64 x limit z.ok.finite b.ok.finite low high; fits = f } in
    let u : pos64 zero64 + neg64 x ≤ pos64 x + neg64 zero64 = (le_value z.ok ok).0 low in
    let v : pos64 x + neg64 limit ≤ pos64 limit + neg64 x = (le_value ok b.ok).0 high in
    let n : neg64 x ≡ 0 = not_negative binary64 x (omega arith) in
    record { ok = ok; high = omega arith; low = n }

pub ranged_16 : (x : Float) → T (fits binary64 x) → T (le zero64 x) → T (le x sixteen) → Ranged 16 x
ranged_16 x = ranged 16 sixteen x (subst (λ (b : Float). Sized false (16 * one) b) (sym sixteen_is) (number_sized 16 (lit< tt)))

pub ranged_20 : (x : Float) → T (fits binary64 x) → T (le zero64 x) → T (le x two_to20) → Ranged 1048576 x
ranged_20 x = ranged 1048576 two_to20 x (subst (λ (b : Float). Sized false (1048576 * one) b) (sym two_to20_is) (number_sized 1048576 (lit< tt)))
