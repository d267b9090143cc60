-- What a find makes of last_q and of the interval in hand, and the saving of that interval, as the code does it.
use Rattle.std.proofs.Common.{◌≡◌, refl, ap, ap₂, ◌∙◌, subst, Bool, false, List, ℕ, zero, suc, ◌+◌, ◌-◌, arith, T, ℤ, pos, negsuc, nat_abs}
use lib.Signed.{lt_z}
use mir.Syntax.{w64}
use mir.Val.{of_z, to_z, SFits}
use mir.Facts.{to_z-of_z, sfits_lit}
use Rattle.intervals.specs.declared.Interval.{Interval}
use Rattle.intervals.specs.Save.{save}
use Rattle.scans.specs.Scans.{at}
use Rattle.scans.specs.Terms.Window.{find_of}
use Rattle.step.specs.Step.{first_letter, start_after, save_from, saved_after}
use Rattle.step.specs.declared.hand.Open.{Open}
use Rattle.step.specs.Terms.Finding.{Closing, Found}
use Rattle.intervals.proofs.Slice.{saved_list}

-- ---- A number as a find.
find_at : (r : ℕ) → (r ≡ 0 → ⊥) → find_of r ≡ at (r - 1)
find_at zero h = absurd (h refl)
find_at (suc j) h = ap at (let e : j ≡ suc j - 1 = omega arith in e)

-- ---- The interval in hand is saved.
-- A signed number of 64 bits is what is read back from its bits.
pub lt_back : {x y : ℤ} {b : Bool} → SFits w64 x → SFits w64 y → lt_z (to_z w64 (of_z w64 x)) (to_z w64 (of_z w64 y)) ≡ b → lt_z x y ≡ b
lt_back fx fy h = rw (to_z-of_z fx, to_z-of_z fy) at h

pub zero_fits : SFits w64 (pos 0)
zero_fits = sfits_lit tt

save_is : (start end : ℤ) (saved : List Interval) → lt_z start (pos 0) ≡ false → Closing start end
    → save saved (nat_abs start) (nat_abs end) ≡ save_from saved start end
save_is (pos s) (pos e) saved h c = refl
save_is (pos s) (negsuc e) saved h c = absurd c
save_is (negsuc s) end saved h c = absurd (subst (λ (b : Bool). T b) h tt)

module _ {start end : ℤ} (fs : SFits w64 start) (fe : SFits w64 end) (h : lt_z start (pos 0) ≡ false) (c : Closing start end) where
  pub save_back : (saved : List Interval) → save saved (nat_abs (to_z w64 (of_z w64 start))) (nat_abs (to_z w64 (of_z w64 end))) ≡ save_from saved start end
  save_back saved = ap₂ (λ (x y : ℤ). save saved (nat_abs x) (nat_abs y)) (to_z-of_z fs) (to_z-of_z fe) ∙ save_is start end saved h c

-- ---- A find.
module _ {k i len r : ℕ} {o : Open} {saved : List Interval} where
  -- What the code hands on of start, end and the find's first letter, it reads back from their bits.
  pub found_at : {s s₁ s₂ start₁ end₁ start end : ℤ} {count : ℕ} {saved' : List Interval} → (r ≡ 0 → ⊥) → s ≡ first_letter k i len (r - 1)
      → s₁ ≡ s → s₂ ≡ s → start₁ ≡ o.start → end₁ ≡ o.end
      → start ≡ start_after start₁ end₁ s₁ → end ≡ pos (i + 1) → saved' ≡ saved_after saved o.start o.end s₂
      → Found k i len o (record { start = start; end = end; count = count }) (find_of r) saved saved'
  found_at h e e₁ e₂ es ee x y z =
      rw (find_at r h)
      (record {
        start_is = x ∙ rw (es, ee, e₁, e);
        end_is = y;
        saved_is = z ∙ rw (e₂, e);
      })

-- The laws by which `close` is proved.
pub ruleset closed = (saved_list, lt_back, zero_fits, save_back)
