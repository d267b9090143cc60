-- One strand masked alone: what an accepted request brings along, and from the run on its codes to what the call answers.
use Rattle.std.proofs.Common.{◌≡◌, sym, ap, ◌∙◌, subst, Bool, true, false, Ok, List, ◌++◌, ℕ, ◌+◌, ◌/◌, ◌^◌, ltb, length, take, drop, length-take-le, take-append-drop, arith}
use borrow.Author.Tests.{ltb-false}
use Rattle.scans.proofs.Test.{neither}
use Rattle.buffers.specs.Fill.{put}
use Rattle.buffers.specs.Free.{Free}
use Rattle.buffers.proofs.Lent.{free_at}
use Rattle.checks.specs.Tests.{most_intervals}
use Rattle.checks.proofs.Refusing.{counted, flagged}
use Rattle.letters.specs.Code.{codes}
use Rattle.letters.proofs.Codes.{codes_length, reverse_complement_length}
use Rattle.intervals.specs.declared.Interval.{Interval}
use Rattle.intervals.specs.Interval.{Canonical}
use Rattle.scans.specs.declared.Params.{Params}
use Rattle.scans.specs.Setup.{Setup}
use Rattle.scans.specs.Range.{in_range}
use Rattle.scans.specs.Terms.Numbers.{setup_of}
use Rattle.step.specs.Step.{intervals_of}
use Rattle.mask.specs.Terms.Both.{Held, StrandRoom}
use Rattle.step.proofs.Theorems.{strand_shape}
use Rattle.longdust.specs.declared.LongdustOptions.{LongdustOptions}
use Rattle.longdust.specs.declared.Answer.{Answer}
use Rattle.longdust.specs.Mask.{setup}
use Rattle.longdust.specs.Strand.{strand_codes, strand_list, StrandBuffers, strand_too_short, strand_refusal, StrandAnswered}
use Rattle.longdust.specs.Terms.Alone.{StrandEnough, StrandAdmitted, StrandRan, setup_in}
use Rattle.longdust.specs.Terms.Inner.{Prepared}
use Rattle.longdust.proofs.Accept.{requested}
use Rattle.longdust.proofs.Parts.{kmers, rows}
use Rattle.longdust.proofs.Setups.{prepared_kmer, prepared_window}
use Rattle.longdust.proofs.PublicCalls.{front_held, front_free}

strand_enough : (n k w : ℕ) (b : StrandBuffers) → strand_too_short n k w b ≡ false → StrandEnough n k w b
unfolding strand_too_short
strand_enough n k w b e =
    let p7 = neither _ (ltb (length b.list) (most_intervals n k)) e in
    let p6 = neither _ (ltb (length b.codes) n) p7.0 in
    let p5 = neither _ (ltb (length b.candidates) w) p6.0 in
    let p4 = neither _ (ltb (length b.scan_counts) (4 ^ k)) p5.0 in
    let p3 = neither _ (ltb (length b.window_counts) (4 ^ k)) p4.0 in
    let p2 = neither _ (ltb (length b.queue) w) p3.0 in
    let p1 = neither (ltb (length b.ln) (w + 1)) (ltb (length b.f) (w + 2)) p2.0 in
    record {
      ln = ltb-false (length b.ln) (w + 1) p1.0;
      f = ltb-false (length b.f) (w + 2) p1.1;
      queue = ltb-false (length b.queue) w p2.1;
      window_counts = ltb-false (length b.window_counts) (4 ^ k) p3.1;
      scan_counts = ltb-false (length b.scan_counts) (4 ^ k) p4.1;
      candidates = ltb-false (length b.candidates) w p5.1;
      codes = ltb-false (length b.codes) n p6.1;
      list = ltb-false (length b.list) (most_intervals n k) p7.1;
    }

pub strand_admitted : (o : LongdustOptions) (s : List ℕ) (b : StrandBuffers) → strand_refusal o s b ≡ 0 → StrandAdmitted o (length s) b
strand_admitted o s b e =
    let q = requested o s (strand_too_short (length s) o.kmer o.window_size b) e in
    record {
      bounds = q.bounds;
      letters_high = q.letters_high;
      enough = strand_enough (length s) o.kmer o.window_size b q.long;
    }

pub strand_codes_length : (reverse : Bool) (s : List ℕ) → length (strand_codes reverse s) ≡ length s
strand_codes_length true s = reverse_complement_length (codes s) ∙ codes_length s
strand_codes_length false s = codes_length s

-- The buffers with these codes.
abbrev pub coded : StrandBuffers → List ℕ → StrandBuffers
coded b cs =
    record {
      ln = b.ln;
      f = b.f;
      queue = b.queue;
      window_counts = b.window_counts;
      scan_counts = b.scan_counts;
      candidates = b.candidates;
      codes = cs;
      list = b.list;
    }

pub admitted_coded : (o : LongdustOptions) (n : ℕ) (b : StrandBuffers) (cs : List ℕ) → length cs ≡ length b.codes → StrandAdmitted o n b → StrandAdmitted o n (coded b cs)
admitted_coded o n b cs long a =
    let g = a.enough in
    record {
      bounds = a.bounds;
      letters_high = a.letters_high;
      enough =
          record {
            ln = g.ln;
            f = g.f;
            queue = g.queue;
            window_counts = g.window_counts;
            scan_counts = g.scan_counts;
            candidates = g.candidates;
            codes = omega (arith, g.codes);
            list = g.list;
          };
    }

shape : (o : LongdustOptions) (reverse : Bool) (s : List ℕ) (b : StrandBuffers) → Canonical (length s) o.kmer (strand_list o reverse s b.ln b.f)
unfolding setup
shape o reverse s b =
    subst (λ (n : ℕ). Canonical n o.kmer (strand_list o reverse s b.ln b.f)) (strand_codes_length reverse s) (strand_shape (setup_in o b) (strand_codes reverse s))

-- The run on the codes cs is the call's on the buffers b.
pub strand_answered : (o : LongdustOptions) (reverse : Bool) (s : List ℕ) (b b' : StrandBuffers) (cs : List ℕ) (r : Answer) → 0 ≡ strand_refusal o s b
    → cs ≡ put (strand_codes reverse s) b.codes → length cs ≡ length b.codes → b'.ln ≡ b.ln → b'.f ≡ b.f
    → StrandRan o (length s) (coded b cs) b' r → StrandAnswered o reverse s b b' (Ok r)
strand_answered o reverse s b b' cs r z e long ln f p =
    let n = strand_codes_length reverse s in
    let held : intervals_of (setup_in o b) (take (length s) cs) ≡ strand_list o reverse s b.ln b.f =
    ap (λ (t : List ℕ). intervals_of (setup_in o b) t) (front_held (strand_codes reverse s) b.codes cs (length s) e n) in
    let count : r.count ≡ length (strand_list o reverse s b.ln b.f) = p.count ∙ ap (λ (is : List Interval). length is) held in
    let free = front_free (strand_codes reverse s) b.codes cs (length s) e n long in
    record {
      number = z;
      count = counted (λ (y : Answer). y.count) (Ok r) _ z count;
      flag = flagged (λ (y : Answer). y.in_range) (Ok r) _ z p.flag;
      refused = tt;
      accepted =
          record {
            list = p.list ∙ held;
            count = count;
            flag = p.flag;
            shape = shape o reverse s b;
            ln = ln;
            f = f;
            rows = p.rows;
            codes = record { long = ap (λ (t : List ℕ). length t) p.codes ∙ free.long; past = rw p.codes free.past };
            queue = p.queue;
            window_counts = p.window_counts;
            scan_counts = p.scan_counts;
            candidates = p.candidates;
          };
    }

-- The run: what it asks for its space, and what it leaves.
module _ (o : LongdustOptions) (n : ℕ) (b : StrandBuffers) (a : StrandAdmitted o n b) (p : Params)
    (q : Prepared o (take (o.window_size + 1) b.ln) (take (o.window_size + 2) b.f) p) where
  pub codes_taken : length (take n b.codes) ≡ n
  codes_taken = length-take-le n b.codes a.enough.codes

  list_rows : (length (take n b.codes) + 1) / (p.kmer + 1) ≡ most_intervals n o.kmer
  list_rows = ap (λ (m : ℕ). (m + 1) / (p.kmer + 1)) codes_taken ∙ rows o n p (prepared_kmer q) (prepared_window q)

  pub room_alone : StrandRoom p (length (take n b.codes)) (length b.queue) (length b.window_counts) (length b.scan_counts) (length b.candidates) (length b.list)
  room_alone =
      let g = a.enough in
      let e = kmers o n p (prepared_kmer q) (prepared_window q) in
      let w = prepared_window q in
      let r = list_rows in
      record {
        queue = omega (arith, g.queue);
        window_counts = omega (arith, g.window_counts);
        scan_counts = omega (arith, g.scan_counts);
        candidates = omega (arith, g.candidates);
        list = omega (arith, g.list);
      }

  pub ran_alone : (b' : StrandBuffers) (flag : Bool) (count : ℕ) → flag ≡ in_range (setup_in o b)
      → Held (intervals_of (setup_of p (take (o.window_size + 1) b.ln) (take (o.window_size + 2) b.f)) (take n b.codes)) b'.list count
      → b'.codes ≡ take n b.codes ++ drop n b.codes
      → Free ((length (take n b.codes) + 1) / (p.kmer + 1)) b.list b'.list
      → Free p.window_size b.queue b'.queue → Free (4 ^ p.kmer) b.window_counts b'.window_counts
      → Free (4 ^ p.kmer) b.scan_counts b'.scan_counts → Free p.window_size b.candidates b'.candidates
      → StrandRan o n b b' (record { count = count; in_range = flag })
  ran_alone b' flag count g h c rs us vs xs ys =
      let v = prepared_window q in
      let e = kmers o n p (prepared_kmer q) v in
      let list = h.list_is ∙ ap (λ (S : Setup). intervals_of S (take n b.codes)) q.setup_is in
      record {
        list = list;
        count = sym (length-take-le count b'.list h.within) ∙ ap (λ (is : List Interval). length is) list;
        flag = g;
        codes = c ∙ take-append-drop n b.codes;
        rows = free_at _ (most_intervals n o.kmer) _ _ list_rows rs;
        queue = free_at p.window_size o.window_size _ _ v us;
        window_counts = free_at (4 ^ p.kmer) (4 ^ o.kmer) _ _ e vs;
        scan_counts = free_at (4 ^ p.kmer) (4 ^ o.kmer) _ _ e xs;
        candidates = free_at p.window_size o.window_size _ _ v ys;
      }
