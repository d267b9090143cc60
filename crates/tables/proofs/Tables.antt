-- The two tables' lengths, a buffer that holds the ln table, and the classes: they fit their record, and a sequence and its reverse complement have the same.
use Rattle.std.proofs.Common.{◌≡◌, ℕ, ◌+◌, ◌-◌, ◌<◌, ◌≤◌, List, length, get_or, set, take, drop, sym, refl, ap, ◌∙◌, arith, get_or-take, take_at, Float}
use lib.Ieee.{nan}
use Rattle.buffers.specs.Fill.{put, tabulate}
use Rattle.buffers.proofs.Filling.{part, part_turn, part_end}
use Rattle.buffers.proofs.Tabulate.{tabulate_length, tabulate_at}
use Rattle.floats.specs.Binary64.{number}
use Rattle.letters.specs.Code.{reverse_complement}
use Rattle.letters.proofs.Gc.{gc_reverse_complement}
use Rattle.tables.specs.declared.Density.{Density}
use Rattle.tables.specs.declared.GcOption.{GcOption}
use Rattle.tables.specs.declared.GcOption.TheVariants.{Uniform, Fixed, Auto}
use Rattle.tables.specs.Density.{uniform, by_gc, density}
use Rattle.tables.specs.Ln.{ln_of}
use Rattle.tables.specs.F.{f_of}
use Rattle.tables.specs.Tables.{ln_table, f_table}

pub ln_table_length : (w : ℕ) → length (ln_table w) ≡ w + 1
unfolding ln_table
ln_table_length w = tabulate_length (λ (n : ℕ). ln_of (number n)) (w + 1)

pub f_table_length : (k w : ℕ) (d : Density) → length (f_table k w d) ≡ w + 2
unfolding f_table
f_table_length k w d = tabulate_length (f_of k d) (w + 2)

-- ---- a buffer that holds the ln table
pub ln_held : (w : ℕ) (d ln : List Float) → ln ≡ put (ln_table w) d → take (w + 1) ln ≡ ln_table w
ln_held w d ln e = ap (λ (l : List Float). take (w + 1) l) e ∙ take_at (ln_table w) (drop (length (ln_table w)) d) (w + 1) (ln_table_length w)

pub ln_read : (w : ℕ) (ln : List Float) → take (w + 1) ln ≡ ln_table w → (n : ℕ) → n ≤ w → get_or ln n nan ≡ ln_of (number n)
unfolding ln_table
ln_read w ln holds n h =
    sym (get_or-take (w + 1) ln n nan (omega arith))
    ∙ ap (λ (l : List Float). get_or l n nan) holds
    ∙ tabulate_at (λ (n : ℕ). ln_of (number n)) (w + 1) n nan (omega arith)

pub ln_taken : (w : ℕ) (ln : List Float) → take (w + 1) ln ≡ ln_table w → w + 1 ≡ length (take (w + 1) ln)
ln_taken w ln holds = omega (arith, ap length holds, ln_table_length w)

-- Its entries lent as a table of their own.
pub ln_lent : (w v : ℕ) (entries : List Float) → entries ≡ ln_table w → v ≡ length entries - 1 → entries ≡ ln_table v
ln_lent w v entries e g = e ∙ ap ln_table (let h : w ≡ v = omega (arith, ap length e, ln_table_length w) in h)

pub ln_entry : (ln : List Float) (n : ℕ) (x : Float) → ln ≡ ln_table (length ln - 1) → n < length ln → get_or ln n x ≡ ln_of (number n)
unfolding ln_table
ln_entry ln n x e h =
    let w = length ln - 1 in
    ap (λ (l : List Float). get_or l n x) e ∙ tabulate_at (λ (n : ℕ). ln_of (number n)) (w + 1) n x (omega arith)

-- ---- buffers filled entry by entry
module _ (f : ℕ → Float) (n : ℕ) (d l : List Float) (i : ℕ) (v : Float) (inside : i < n) (fits : n ≤ length d) where
  stored : l ≡ part (tabulate f n) d i → v ≡ f i → set l i v ≡ part (tabulate f n) d (i + 1)
  stored e g =
      let t = tabulate_length f n in
      part_turn (tabulate f n) d l i nan v e (omega arith) (omega arith) (g ∙ sym (tabulate_at f n i nan inside))

pub ln_stored : (w : ℕ) (d l : List Float) (i : ℕ) (v : Float) → i < w + 1 → w + 1 ≤ length d → l ≡ part (ln_table w) d i → v ≡ ln_of (number i)
    → set l i v ≡ part (ln_table w) d (i + 1)
unfolding ln_table
ln_stored w d l i v = stored (λ (n : ℕ). ln_of (number n)) (w + 1) d l i v

pub f_stored : (k w : ℕ) (c : Density) (d l : List Float) (i : ℕ) (v : Float) → i < w + 2 → w + 2 ≤ length d → l ≡ part (f_table k w c) d i → v ≡ f_of k c i
    → set l i v ≡ part (f_table k w c) d (i + 1)
unfolding f_table
f_stored k w c d l i v = stored (f_of k c) (w + 2) d l i v

-- ---- the classes
few : (k : ℕ) (gc : GcOption) (s : List ℕ) → k ≤ 12 → (density k gc s).classes ≤ 13
unfolding density uniform by_gc
few k Uniform s h = omega arith
few k (Fixed x) s h = omega arith
few k Auto s h = omega arith

pub classes_fit : (k : ℕ) (gc : GcOption) (s : List ℕ) (d : Density) → k ≤ 12 → d ≡ density k gc s → d.classes ≤ 13
classes_fit k gc s d h e = rw e (few k gc s h)

pub density_reverse_complement : (k : ℕ) (gc : GcOption) (s : List ℕ) → density k gc (reverse_complement s) ≡ density k gc s
unfolding density
density_reverse_complement k Uniform s = refl
density_reverse_complement k (Fixed x) s = refl
density_reverse_complement k Auto s = ap (by_gc k) (gc_reverse_complement s)

-- The laws by which `fill_ln` is proved.
pub ruleset ln_filled = (ln_stored, part_end, ln_table_length)

-- The laws by which `fill_f_of` is proved.
pub ruleset f_filled = (f_stored, part_end, f_table_length, ln_taken, ln_lent)

-- The laws by which `fill_tables` is proved.
pub ruleset filled = (ln_held, classes_fit)
