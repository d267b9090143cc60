-- What a comparison of two computed numbers says of the exact ones: nothing that is wrong by more than their errors (`le_near`, `lt_near`).
-- And the other way: exact numbers that are apart by more than the errors settle the comparison (`le_sure`).
use Rattle.std.proofs.Common.{ℕ, ◌+◌, ◌<◌, ◌≤◌, T, arith}
use lib.Ieee.{Float, Format, lt, le}
use Rattle.floats.proofs.Compare.{lt_value, le_value}
use Rattle.floats.specs.Terms.Rounded.{Near}

module _ {f : Format} {x y : Float} {P N E Q R F : ℕ} (X : Near f x P N E) (Y : Near f y Q R F) where
  pub le_near : T (le x y) → P + R ≤ Q + N + (E + F)
  le_near t = let h = (le_value X.ok Y.ok).0 t in omega arith

  pub lt_near : T (lt x y) → P + R < Q + N + (E + F)
  lt_near t = let h = (lt_value X.ok Y.ok).0 t in omega arith

  pub le_sure : P + R + (E + F) ≤ Q + N → T (le x y)
  le_sure h = (le_value X.ok Y.ok).1 (omega arith)
