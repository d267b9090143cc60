-- From the run on an accepted request's codes to what the call on filled tables answers, and from there to what the filling call does.
use Rattle.std.proofs.Common.{◌≡◌, sym, ap, ◌∙◌, subst, List, Ok, ℕ, arith, length, take, drop, take_at, drop_at, Float}
use Rattle.buffers.specs.Fill.{put}
use Rattle.buffers.specs.Free.{Free}
use Rattle.checks.proofs.Refusing.{counted, flagged}
use Rattle.letters.specs.Code.{codes}
use Rattle.letters.proofs.Codes.{codes_length}
use Rattle.longdust.specs.declared.LongdustOptions.{LongdustOptions}
use Rattle.longdust.specs.declared.Answer.{Answer}
use Rattle.longdust.specs.Checks.{refusal}
use Rattle.longdust.specs.Buffers.{Buffers, lengths}
use Rattle.longdust.specs.Call.{Accepted, Answered}
use Rattle.longdust.specs.Terms.Inner.{Admitted, Ran}

-- A list of n entries over the front of d.
module _ {A : Type 0} (xs d d' : List A) (n : ℕ) (e : d' ≡ put xs d) (size : length xs ≡ n) where
  pub front_held : take n d' ≡ xs
  front_held = ap (λ (z : List A). take n z) e ∙ take_at xs (drop (length xs) d) n size

  pub front_free : length d' ≡ length d → Free n d d'
  front_free long =
      record {
        long = long;
        past = ap (λ (z : List A). drop n z) e ∙ drop_at xs (drop (length xs) d) n size ∙ ap (λ (m : ℕ). drop m d) size;
      }

-- The codes of s over the front of d.
module _ (s d d' : List ℕ) (e : d' ≡ put (codes s) d) (long : length d' ≡ length d) where
  pub encoded : take (length s) d' ≡ codes s
  encoded = front_held (codes s) d d' (length s) e (codes_length s)

  pub encoded_length : length (take (length s) d') ≡ length s
  encoded_length = ap (λ (z : List ℕ). length z) encoded ∙ codes_length s

  pub encoded_free : Free (length s) d d'
  encoded_free = front_free (codes s) d d' (length s) e (codes_length s) long

-- The buffers with these tables and these codes.
abbrev pub lending : Buffers → (ln f : List Float) → (cs : List ℕ) → Buffers
lending b ln f cs =
    record {
      ln = ln;
      f = f;
      queue = b.queue;
      window_counts = b.window_counts;
      scan_counts = b.scan_counts;
      candidates = b.candidates;
      codes = cs;
      reverse_codes = b.reverse_codes;
      forward_list = b.forward_list;
      reverse_list = b.reverse_list;
      list = b.list;
      marks = b.marks;
    }

-- The same codes, in a buffer of their own, and tables as long as they were.
pub admitted_as : (o : LongdustOptions) (n : ℕ) (b : Buffers) → Admitted o n (lengths b) → (ln f : List Float) → length ln ≡ length b.ln → length f ≡ length b.f
    → (cs : List ℕ) → length cs ≡ n → Admitted o (length cs) (lengths (lending b ln f cs))
admitted_as o n b a ln f p q cs e =
    let g = a.enough in
    subst (λ (m : ℕ). Admitted o m (lengths (lending b ln f cs))) (sym e)
    (record {
      bounds = a.bounds;
      letters_low = a.letters_low;
      letters_high = a.letters_high;
      enough =
          record {
            ln = omega (arith, g.ln);
            f = omega (arith, g.f);
            queue = g.queue;
            window_counts = g.window_counts;
            scan_counts = g.scan_counts;
            candidates = g.candidates;
            codes = omega arith;
            reverse_codes = g.reverse_codes;
            forward_list = g.forward_list;
            reverse_list = g.reverse_list;
            list = g.list;
            marks = g.marks;
          };
    })

-- Before the run the buffers were `lending b ln f cs`; of the codes the call says only which entries are free.
accepted_as : (o : LongdustOptions) (s : List ℕ) (b b' : Buffers) (r : Answer) (ln f : List Float) (cs d : List ℕ) → Free (length s) b.codes d
    → Accepted o s (lending b ln f cs) b' r → Accepted o s b (lending b' b'.ln b'.f d) r
accepted_as o s b b' r ln f cs d c a =
    let m = a.buffers in
    record {
      flag = a.flag;
      buffers =
          record {
            list = m.list;
            marks = m.marks;
            queue = m.queue;
            window_counts = m.window_counts;
            scan_counts = m.scan_counts;
            candidates = m.candidates;
            codes = c;
            reverse_codes = m.reverse_codes;
            forward_list = m.forward_list;
            reverse_list = m.reverse_list;
          };
      shape = a.shape;
      evidence = a.evidence;
      marked_evidence = a.marked_evidence;
      shorter = a.shorter;
    }

-- The run's answer is the call's; its buffers differ in the tables, if they are filled, and in the codes.
pub run_answered : (Tables : LongdustOptions → List ℕ → Buffers → Buffers → Type 0) (o : LongdustOptions) (s : List ℕ) (b b' : Buffers) (a : Answer)
    (ln f : List Float) (cs d : List ℕ) → 0 ≡ refusal o s (lengths b) → Tables o s b (lending b' ln f d) → cs ≡ codes s
    → Free (length s) b.codes d → Ran o cs (lending b ln f cs) (lending b' ln f cs) a → Answered Tables o s b (lending b' ln f d) (Ok a)
run_answered Tables o s b b' a ln f cs d z t e c p =
    let x = accepted_as o s b (lending b' ln f cs) a ln f cs d c (p.accepted s e) in
    record {
      number = z;
      count = counted (λ (y : Answer). y.count) (Ok a) _ z x.buffers.list.count_is;
      flag = flagged (λ (y : Answer). y.in_range) (Ok a) _ z x.flag;
      refused = tt;
      accepted = x;
      tables = t;
    }
