-- A strand's call in buffers of the listed sizes answers by the record alone.
use Rattle.std.proofs.Common.{◌≡◌, refl, sym, ap, ap₂, ◌∙◌, ℕ, ◌+◌, ◌^◌, Bool, false, ltb, le-ltb, le_refl, List, arith, length, length-take, Ok, Err}
use lib.Ieee.{Float}
use Rattle.checks.specs.declared.refusal.Refusal.{Refusal}
use Rattle.checks.specs.Checks.{first}
use Rattle.checks.specs.Tests.{most_intervals}
use Rattle.intervals.specs.declared.Interval.{Interval}
use Rattle.longdust.specs.declared.Answer.{Answer}
use Rattle.longdust.specs.declared.LongdustOptions.{LongdustOptions}
use Rattle.longdust.specs.Checks.{request_checks, too_short_of}
use Rattle.longdust.specs.Strand.{StrandBuffers, strand_list, strand_too_short, strand_refusal, StrandAnswered}
use Rattle.masker.specs.Run.{listed, ln_of, f_of, record_refusal}
use Rattle.strands.specs.Strand.{list_of, HeldStrand, MasksStrand}

itself : (x : ℕ) → ltb x x ≡ false
itself x = le-ltb x x (le_refl x)

exactly : (x y : ℕ) → x ≡ y → ltb x y ≡ false
exactly x y e = le-ltb x y (omega (arith, e))

module _ (o : LongdustOptions) (s : List ℕ) where
  listed_long : too_short_of (length s) o.kmer o.window_size (listed o (length s)) ≡ false
  unfolding too_short_of
  listed_long =
      rw (itself (o.window_size + 1), itself (o.window_size + 2), itself o.window_size, itself (4 ^ o.kmer), itself (length s), itself (most_intervals (length s) o.kmer))
      refl

  pub same_refusal : (b : StrandBuffers) → strand_too_short (length s) o.kmer o.window_size b ≡ false → strand_refusal o s b ≡ record_refusal o s
  unfolding record_refusal
  same_refusal b h = ap (λ (t : Bool). first (request_checks o s t)) (h ∙ sym listed_long)

-- Exactly the listed sizes.
pub record Exactly (o : LongdustOptions) (n : ℕ) (b : StrandBuffers) : Type 0 where
  pub ln : length b.ln ≡ o.window_size + 1
  pub f : length b.f ≡ o.window_size + 2
  pub queue : length b.queue ≡ o.window_size
  pub window_counts : length b.window_counts ≡ 4 ^ o.kmer
  pub scan_counts : length b.scan_counts ≡ 4 ^ o.kmer
  pub candidates : length b.candidates ≡ o.window_size
  pub codes : length b.codes ≡ n
  pub list : length b.list ≡ most_intervals n o.kmer

pub exactly_long : (o : LongdustOptions) (n : ℕ) (b : StrandBuffers) → Exactly o n b → strand_too_short n o.kmer o.window_size b ≡ false
unfolding strand_too_short
exactly_long o n b e =
    rw (exactly _ _ e.ln, exactly _ _ e.f, exactly _ _ e.queue, exactly _ _ e.window_counts, exactly _ _ e.scan_counts, exactly _ _ e.candidates, exactly _ _ e.codes, exactly _ _ e.list)
    refl

module _ (o : LongdustOptions) (reverse : Bool) (s : List ℕ) (b b' : StrandBuffers) (e : Exactly o (length s) b) where
  pub refused : (r : Refusal) → StrandAnswered o reverse s b b' (Err r) → MasksStrand o reverse s b'.list (Err r)
  refused r A = sym (A.number ∙ same_refusal o s b (exactly_long o (length s) b e))

  pub accepted : (a : Answer) → StrandAnswered o reverse s b b' (Ok a) → b.ln ≡ ln_of o → b.f ≡ f_of o s → HeldStrand o reverse s b'.list a.count
  unfolding list_of
  accepted a A l f =
      record {
        accepted = sym (A.number ∙ same_refusal o s b (exactly_long o (length s) b e));
        long = omega (arith, ap (λ (is : List Interval). length is) A.accepted.list, A.accepted.count, length-take a.count b'.list);
        list_is = A.accepted.list ∙ ap₂ (λ (x y : List Float). strand_list o reverse s x y) l f;
      }
