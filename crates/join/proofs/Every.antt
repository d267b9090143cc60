-- A test that holds of both Booleans holds of any.
use Rattle.std.proofs.Common.{◌≡◌, Bool, true, false, ◌&&◌}
use Rattle.intervals.proofs.Counted.{and_agrees}

unfoldable pub every : (Bool → Bool) → Bool
every p = p true && p false

pub every_at : (p : Bool → Bool) → every p ≡ true → (b : Bool) → p b ≡ true
unfolding every
every_at p h b = go b ((and_agrees (p true) (p false) {P = p true ≡ true} {Q = p false ≡ true} ((λ u. u), (λ u. u)) ((λ u. u), (λ u. u))).0 h)
  where
    go : (b : Bool) → (p true ≡ true) × (p false ≡ true) → p b ≡ true
    go true u = u.0
    go false u = u.1
