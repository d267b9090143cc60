-- What is kept stays where the oldest place leaves (`held_leave`), and where blocks' bounds are made anew (`held_refined`).
use Rattle.std.proofs.Common.{◌≡◌, sym, subst, ap, ◌∙◌, ℕ, zero, suc, ◌+◌, ◌%◌, arith, Bool, true, false, cond, List, ◌∷◌, length, eqb}
use Rattle.letters.specs.Place.{Place}
use Rattle.letters.specs.Terms.Entry.{decode}
use Rattle.deep.specs.declared.Scale.{Scale}
use Rattle.deep.specs.declared.Cell.{Cell}
use Rattle.deep.specs.declared.Deep.{Deep}
use Rattle.deep.specs.Terms.Blocks.{Blocked}
use Rattle.deep.specs.Terms.Cells.{place, cell, chain, last_of, Linked, Ordered, Held}

last_shift : (e : Place) (q : List Place) (h j r : ℕ) → last_of q h j ≡ suc r → last_of (e ∷ q) h (suc j) ≡ suc (suc r)
unfolding last_of
last_shift e q h zero r z = absurd (let b : ⊥ = omega arith in b)
last_shift e q h (suc j) r z = go (eqb (chain (place q j)) h) (last_of q h j) (last_of (e ∷ q) h (suc j)) (last_shift e q h j r) z
  where
    go : (b : Bool) (x y : ℕ) → (x ≡ suc r → y ≡ suc (suc r)) → cond b (suc j) x ≡ suc r → cond b (suc (suc j)) y ≡ suc (suc r)
    go true x y f z = ap suc z
    go false x y f z = f z

module _ (lo : ℕ) (e : Place) (q : List Place) (cells : List Cell) where
  at : (j : ℕ) → cell cells (lo + 1 + j) ≡ cell cells (lo + suc j)
  at j = let z : lo + 1 + j ≡ lo + suc j = omega arith in ap (cell cells) z

  slot : (r : ℕ) → (lo + suc r) % 8192 ≡ (lo + 1 + r) % 8192
  slot r = let z : lo + suc r ≡ lo + 1 + r = omega arith in ap (λ (i : ℕ). i % 8192) z

  linked_leave : (heads : List ℕ) → Linked lo (e ∷ q) cells heads → Linked (lo + 1) q cells heads
  linked_leave heads L =
      record {
        heads_long = L.heads_long;
        entry = λ j l. ap (λ (c : Cell). decode c.entry) (at j) ∙ L.entry (suc j) (omega arith);
        link = λ h j r k l f z. ap (λ (c : Cell). c.link) (at j) ∙ L.link h (suc j) (suc r) k (omega arith) f (last_shift e q h j r z) ∙ slot r;
        head = λ h r k z. L.head h (suc r) k (last_shift e q h (length q) r z) ∙ slot r;
      }

  ordered_leave : Ordered lo (e ∷ q) 0 (length (e ∷ q)) cells → Ordered (lo + 1) q 0 (length q) cells
  ordered_leave o = record { count = λ j f l. ap (λ (c : Cell). c.count) (at j) ∙ o.count (suc j) (omega arith) (omega arith) }

pub held_leave : (s : Scale) (lo : ℕ) (e : Place) (q : List Place) (d : Deep) → Held s lo (e ∷ q) d → Held s (lo + 1) q d
held_leave s lo e q d h =
    record { linked = linked_leave lo e q d.cells.now d.heads.now h.linked; ordered = ordered_leave lo e q d.cells.now h.ordered; blocked = h.blocked }

pub held_refined : (s : Scale) (lo : ℕ) (q : List Place) (d d' : Deep) → Held s lo q d → d'.cells.now ≡ d.cells.now → d'.heads.now ≡ d.heads.now → Blocked s d'.cells.now d'.blocks.now → Held s lo q d'
held_refined s lo q d d' h c e b =
    record {
      linked = subst (λ (x : List Cell). Linked lo q x d'.heads.now) (sym c) (subst (λ (x : List ℕ). Linked lo q d.cells.now x) (sym e) h.linked);
      ordered = subst (λ (x : List Cell). Ordered lo q 0 (length q) x) (sym c) h.ordered;
      blocked = b;
    }
