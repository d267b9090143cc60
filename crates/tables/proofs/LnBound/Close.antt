-- A whole number of units near a fraction: `Close E g a b` says that g is at most E away from a / b. Rounded products and sums of such numbers are near the products and sums of the fractions.
use Rattle.std.proofs.Common.{◌≡◌, sym, ap, Bool, false, ℕ, ◌+◌, ◌*◌, ◌≤◌, ◌<◌, mul-one, mul-pos, mul-le-mul_right, le_of_mul-le-mul_right, arith, lit<, lit≤, Float}
use lib.Ieee.{unlike}
use Rattle.floats.specs.Arithmetic.{◌⊕◌, ◌⊗◌, ◌⊘◌}
use Rattle.floats.specs.Binary64.{one}
use Rattle.floats.specs.Terms.Rounded.{eps}
use Rattle.floats.proofs.Binary64.{one_pos}
use Rattle.floats.proofs.Sized.{Sized, mul_rounded, div_rounded, add_rounded}

pub record Close (E g a b : ℕ) : Type 0 where
  pub upper : g * b ≤ a * one + E * b
  pub lower : a * one ≤ g * b + E * b

-- the same fraction times k / k, and a wider bound
pub close_as : (k : ℕ) {E F g a b c d : ℕ} → 0 < k → Close E g a b → a ≡ c * k → b ≡ d * k → E ≤ F → Close F g c d
close_as k {E} {F} {g} {a} {b} {c} {d} K h p q l =
    let w = mul-le-mul_right (d * k) l in
    let gb : g * b ≡ g * (d * k) = ap (λ (z : ℕ). g * z) q in
    let eb : E * b ≡ E * (d * k) = ap (λ (z : ℕ). E * z) q in
    let ao : a * one ≡ c * k * one = ap (λ (z : ℕ). z * one) p in
    let u = h.upper in
    let v = h.lower in
    record {
      upper = le_of_mul-le-mul_right (let x : g * d * k ≤ (c * one + F * d) * k = omega arith in x) K;
      lower = le_of_mul-le-mul_right (let x : c * one * k ≤ (g * d + F * d) * k = omega arith in x) K;
    }

-- r is x * y / one, rounded
exact_upper : (E F x y a b c d o : ℕ) → x * b ≤ a * o + E * b → y * d ≤ c * o + F * d → x * y * (b * d) ≤ a * c * o * o + (E * c * o + F * (d * x)) * b
exact_upper E F x y a b c d o p q = omega (arith, mul-le-mul_right (c * o) p, mul-le-mul_right (x * b) q)

exact_lower : (E F x y a b c d o : ℕ) → a * o ≤ x * b + E * b → c * o ≤ y * d + F * d → a * c * o * o ≤ x * y * (b * d) + (E * c * o + F * (d * x)) * b
exact_lower E F x y a b c d o p q = omega (arith, mul-le-mul_right (c * o) p, mul-le-mul_right (x * b) q)

product_upper : (x y a b c d G S r o w : ℕ) → x * y * (b * d) ≤ a * c * o * o + S * b → S * b ≤ G * (d * o) * b → r * o * (b * d) ≤ (x * y + w * o) * (b * d) → r * (b * d) * o ≤ (a * c * o + (G + w) * (b * d)) * o
product_upper x y a b c d G S r o w p s u = omega arith

product_lower : (x y a b c d G S r o w : ℕ) → a * c * o * o ≤ x * y * (b * d) + S * b → S * b ≤ G * (d * o) * b → x * y * (b * d) ≤ (r * o + w * o) * (b * d) → a * c * o * o ≤ (r * (b * d) + (G + w) * (b * d)) * o
product_lower x y a b c d G S r o w p s u = omega arith

module _ {E F x y a b c d : ℕ} (G r : ℕ) (X : Close E x a b) (Y : Close F y c d) (small : E * c * one + F * (d * x) ≤ G * (d * one)) where
  pub close_product : r * one ≤ x * y + 16 * eps * one → x * y ≤ r * one + 16 * eps * one → Close (G + 16 * eps) r (a * c) (b * d)
  close_product u v = record {
    upper = le_of_mul-le-mul_right (product_upper x y a b c d G (E * c * one + F * (d * x)) r one (16 * eps) (exact_upper E F x y a b c d one X.upper Y.upper) (mul-le-mul_right b small) (mul-le-mul_right (b * d) u)) one_pos;
    lower = le_of_mul-le-mul_right (product_lower x y a b c d G (E * c * one + F * (d * x)) r one (16 * eps) (exact_lower E F x y a b c d one X.lower Y.lower) (mul-le-mul_right b small) (mul-le-mul_right (b * d) v)) one_pos;
  }

-- r is x + y, rounded
module _ {E F x y a b c d : ℕ} (r : ℕ) (X : Close E x a b) (Y : Close F y c d) where
  pub close_sum : r * 1 ≤ x + y + 16 * eps * 1 → x + y ≤ r * 1 + 16 * eps * 1 → Close (E + F + 16 * eps) r (a * d + c * b) (b * d)
  close_sum u v =
      let u' = mul-le-mul_right (b * d) u in
      let v' = mul-le-mul_right (b * d) v in
      let xu = mul-le-mul_right d X.upper in
      let xl = mul-le-mul_right d X.lower in
      let yu = mul-le-mul_right b Y.upper in
      let yl = mul-le-mul_right b Y.lower in
      record { upper = omega arith; lower = omega arith }

-- a number near a fraction of at most A / B is at most C / D, where the bound on its error leaves room
pub close_below : {E x a b : ℕ} (A B C D : ℕ) → 0 < b → Close E x a b → a * B ≤ A * b → (A * one + E * B) * D ≤ C * one * B → 0 < B → x * D ≤ C * one
close_below {E} {x} {a} {b} A B C D P h l room Q =
    let u = mul-le-mul_right (B * D) h.upper in
    let m = mul-le-mul_right (one * D) l in
    let n = mul-le-mul_right b room in
    le_of_mul-le-mul_right (let z : x * D * (b * B) ≤ C * one * (b * B) = omega arith in z) (mul-pos P Q)

-- ---- a float near a fraction
pub record Approx (s : Bool) (E a b : ℕ) (x : Float) : Type 0 where
  pub g : ℕ
  pub sized : Sized s g x
  pub close : Close E g a b

pub approx_as : {s : Bool} {E F a b c d : ℕ} {x : Float} (k : ℕ) → 0 < k → Approx s E a b x → a ≡ c * k → b ≡ d * k → E ≤ F → Approx s F c d x
approx_as k K h p q l = record { g = h.g; sized = h.sized; close = close_as k K h.close p q l }

pub approx_wider : {s : Bool} {E F a b : ℕ} {x : Float} → Approx s E a b x → E ≤ F → Approx s F a b x
approx_wider h l = approx_as 1 (lit< tt) h (sym (mul-one _)) (sym (mul-one _)) l

module _ {s t : Bool} {E F a b c d : ℕ} {x y : Float} (X : Approx s E a b x) (Y : Approx t F c d y) where
  pub approx_mul : (G : ℕ) → E * c * one + F * (d * X.g) ≤ G * (d * one) → X.g * Y.g ≤ 16 * one * one → Approx (unlike s t) (G + 16 * eps) (a * c) (b * d) (x ⊗ y)
  approx_mul G small l =
      let r = mul_rounded X.sized Y.sized 4 (lit≤ tt) l in
      record { g = r.g; sized = r.sized; close = close_product G r.g X.close Y.close small r.upper r.lower }

pub approx_add : {E F a b c d : ℕ} {x y : Float} (X : Approx false E a b x) (Y : Approx false F c d y) → X.g + Y.g ≤ 16 * one → Approx false (E + F + 16 * eps) (a * d + c * b) (b * d) (x ⊕ y)
approx_add X Y l =
    let r = add_rounded X.sized Y.sized 4 (lit≤ tt) l in
    record { g = r.g; sized = r.sized; close = close_sum r.g X.close Y.close r.upper r.lower }

-- p * W / (q * W) units
pub approx_div : {s t : Bool} {x y : Float} (p q W : ℕ) → Sized s (p * W) x → Sized t (q * W) y → 0 < W → 0 < q → p ≤ 16 * q → Approx (unlike s t) (16 * eps) p q (x ⊘ y)
approx_div p q W X Y P Q l =
    let r = div_rounded X Y 4 (lit≤ tt) (mul-pos Q P) (let m = mul-le-mul_right (W * one) l in omega arith) in
    record {
      g = r.g;
      sized = r.sized;
      close = record {
        upper = le_of_mul-le-mul_right (let u = r.upper in let z : r.g * q * W ≤ (p * one + 16 * eps * q) * W = omega arith in z) P;
        lower = le_of_mul-le-mul_right (let u = r.lower in let z : p * one * W ≤ (r.g * q + 16 * eps * q) * W = omega arith in z) P;
      };
    }
