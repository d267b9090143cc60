-- Texts written one after the other into a lent text.
use Rattle.std.proofs.Common.{ℕ, ◌+◌, ◌≤◌, ◌≡◌, refl, sym, ap, ap₂, ◌∙◌, List, [], ◌++◌, append_assoc, add-zero, arith, length, take, drop, length-append, take-append-drop, take_at, drop-drop, length-take-le}
use Rattle.buffers.specs.Fill.{put_at}
use Rattle.buffers.proofs.Put.{put_at_none, put_at_next, put_at_length}
use Rattle.report.specs.declared.text.Text.{Text}
use Rattle.report.specs.Written.{Written}
use Rattle.report.specs.Adds.{Adds}
use Rattle.report.specs.Fits.{Fits}

-- Nothing was written yet.
pub none : (t : Text) → Adds [] t t
none t = record { written = record { end_is = sym (add-zero t.len); text_is = sym (put_at_none t.len t.bytes.now) }; same = refl }

-- A text that was written, from what stands before its end and after it.
pub written_by : {xs d d' : List ℕ} {from end : ℕ} → from ≤ length d → end ≤ length d' → take end d' ≡ take from d ++ xs
    → drop end d' ≡ drop end d → Written xs d from d' end
written_by {xs} {d} {d'} {from} {end} h r t e =
    let n : end ≡ from + length xs =
    sym (length-take-le end d' r) ∙ ap (λ (l : List ℕ). length l) t ∙ length-append (take from d) xs ∙ omega (arith, length-take-le from d h) in
    record {
      end_is = n;
      text_is =
          sym (take-append-drop end d')
          ∙ ap₂ (λ (l m : List ℕ). l ++ m) t (e ∙ ap (λ (m : ℕ). drop m d) n ∙ sym (drop-drop (length xs) from d))
          ∙ append_assoc (take from d) xs (drop (length xs) (drop from d));
    }

-- What stands before its end.
pub take_written : {xs d d' : List ℕ} {from end : ℕ} → from ≤ length d → Written xs d from d' end → take end d' ≡ take from d ++ xs
take_written {xs} {d} {d'} {from} {end} h w =
    ap (λ (l : List ℕ). take end l) (w.text_is ∙ sym (append_assoc (take from d) xs (drop (length xs) (drop from d))))
    ∙ take_at (take from d ++ xs) _ end (length-append (take from d) xs ∙ omega (arith, length-take-le from d h, w.end_is))

-- A text keeps its length.
pub added_length : {xs : List ℕ} {t t' : Text} → Fits xs t → Adds xs t t' → length t'.bytes.now ≡ length t.bytes.now
added_length {xs} {t} h a = ap (λ (l : List ℕ). length l) a.written.text_is ∙ put_at_length t.len xs t.bytes.now h.room

-- A second text after the first.
pub next : {xs ys : List ℕ} {t t' t'' : Text} → Fits (xs ++ ys) t → Adds xs t t' → Adds ys t' t'' → Adds (xs ++ ys) t t''
next {xs} {ys} {t} h a b =
    record {
      written =
          record {
            end_is = b.written.end_is ∙ omega (arith, a.written.end_is, length-append xs ys);
            text_is =
                b.written.text_is
                ∙ ap₂ (λ (n : ℕ) (l : List ℕ). put_at n ys l) a.written.end_is a.written.text_is
                ∙ put_at_next t.len xs ys t.bytes.now (omega (arith, h.room));
          };
      same = b.same ∙ a.same;
    }

pub adds_as : {xs ys : List ℕ} {t t' : Text} → xs ≡ ys → Adds xs t t' → Adds ys t t'
adds_as e a = rw e at a

pub fits_as : {xs ys : List ℕ} {t : Text} → xs ≡ ys → Fits ys t → Fits xs t
fits_as e h = rw e h

-- The first of two texts fits, and the second once the first is written.
fits_first : (xs ys : List ℕ) {t : Text} → Fits (xs ++ ys) t → Fits xs t
fits_first xs ys h = record { room = omega (arith, h.room, length-append xs ys) }

pub fits_next : {xs ys : List ℕ} {t t' : Text} → Fits (xs ++ ys) t → Adds xs t t' → Fits ys t'
fits_next {xs} {ys} h a =
    record { room = omega (arith, h.room, length-append xs ys, a.written.end_is, added_length (fits_first xs ys h) a) }
