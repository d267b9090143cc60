-- Cells and blocks of no places.
use Rattle.std.proofs.Common.{◌≡◌, refl, ap, ℕ, zero, suc, ◌*◌, ◌<◌, arith, [], length, get_or, replicate}
use Rattle.deep.specs.declared.Scale.{Scale}
use Rattle.deep.specs.declared.Block.{Block}
use Rattle.deep.specs.declared.Deep.{Deep}
use Rattle.deep.specs.Terms.Blocks.{no_cell, no_block, worth, total, bias}
use Rattle.deep.specs.Terms.Cells.{last_of, Held}

abbrev pub empty_block : Block
empty_block = record { sum = 0; top = bias; phi = 0 }

repeated : {X : Type 0} (n i : ℕ) (x d : X) → i < n → get_or (replicate n x) i d ≡ x
repeated zero i x d h = absurd (let z : ⊥ = omega arith in z)
repeated (suc n) zero x d h = refl
repeated (suc n) (suc i) x d h = repeated n i x d (omega arith)

same_cells : (n i : ℕ) → get_or (replicate n no_cell) i no_cell ≡ no_cell
same_cells zero i = refl
same_cells (suc n) zero = refl
same_cells (suc n) (suc i) = same_cells n i

total_none : (s : Scale) (n a m : ℕ) → get_or s.ln.now 0 0 ≡ 0 → total s (replicate n no_cell) a m ≡ 0
unfolding total
total_none s n a zero e = refl
total_none s n a (suc m) e = omega (arith, ap (worth s) (same_cells n a), e, total_none s n (suc a) m e)

pub held_none : (d : Deep) (s : Scale) (lo : ℕ) → d.cells.now ≡ replicate 8192 no_cell → d.blocks.now ≡ replicate 128 empty_block → length d.heads.now ≡ 1024 → get_or s.ln.now 0 0 ≡ 0 → Held s lo [] d
unfolding last_of
held_none d s lo cells blocks heads e =
    record {
      linked = record {
        heads_long = heads;
        entry = λ j l. absurd (let z : ⊥ = omega arith in z);
        link = λ h j r k l. absurd (let z : ⊥ = omega arith in z);
        head = λ h r k z. absurd (let b : ⊥ = omega arith in b);
      };
      ordered = record { count = λ j f l. absurd (let z : ⊥ = omega arith in z) };
      blocked = rw (cells, blocks)
          (record {
            cells_long = long 8192 no_cell;
            blocks_long = long 128 empty_block;
            few = λ p. rw (same_cells 8192 p) (omega arith);
            sum = λ k h. rw (repeated 128 k empty_block no_block h, total_none s 8192 (k * 64) 64 e) refl;
            top = λ k a m h f g. rw (repeated 128 k empty_block no_block h, total_none s 8192 a m e) (omega arith);
          });
    }
  where
    long : {X : Type 0} (n : ℕ) (x : X) → length (replicate n x) ≡ n
    long zero x = refl
    long (suc n) x = ap suc (long n x)
