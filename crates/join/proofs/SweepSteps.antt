-- Where the loop of `join_lists` stands, and what each of its turns does to that.
use Rattle.std.proofs.Common.{ℕ, ◌+◌, ◌%◌, ◌≤◌, ◌<◌, ◌≡◌, refl, sym, ap, ap₂, ◌∙◌, Bool, true, false, cond, List, [], ◌∷◌, ◌++◌, map, append-nil, ⊎_elim, arith, bit_or, length, get_or, length-append}
use mathlib.Core.List.{map-append}
use lib.ListN.{length-map}
use Rattle.buffers.specs.Fill.{put, put_at}
use Rattle.buffers.proofs.Put.{put_at_length, put_next}
use Rattle.intervals.specs.declared.Interval.{Interval}
use Rattle.intervals.specs.Interval.{interval, Wrote}
use Rattle.intervals.specs.Terms.Bounds.{EndsBelow}
use Rattle.intervals.specs.Merge.{nonempty}
use Rattle.intervals.specs.Out.{SameOut}
use Rattle.intervals.specs.declared.output.MarksOut.{MarksOut}
use Rattle.intervals.proofs.Joining.{nonempty_some, nonempty_none}
use Rattle.intervals.proofs.Order.{lt_or_le}
use Rattle.intervals.proofs.Slice.{wrote_next}
use Rattle.join.specs.Stretches.{stretches}
use Rattle.join.specs.Joining.{wanted, wanted_at, joined, joined_marks, marks_for}
use Rattle.intervals.specs.Terms.Leading.{ended}
use Rattle.join.specs.Terms.Sweep.{sweep, piece_at, Ready}
use Rattle.join.specs.declared.Joined.{Joined}
use Rattle.join.specs.declared.Sweep.{Sweep}
use Rattle.join.specs.declared.Piece.{Piece}
use Rattle.join.proofs.Stretches.{stretches_none, stretches_grow}
use Rattle.join.proofs.Room.{joined_room}
use Rattle.join.proofs.Marks.{marks_split, marks_empty}
use Rattle.join.proofs.Sides.{ended_early}
use Rattle.join.proofs.Pieces.{Cut, cut}

-- Up to where the sweep stands the list is some intervals that are written and one, [s, e) with the marks m, that may grow.
pub record Sweeping (kind : Joined) (n : ℕ) (ours : List Interval) (ms : List ℕ) (theirs : List Interval)
    (out out' : MarksOut) (w : Sweep) (s e m c : ℕ) : Type 0 where
  pub done : List Interval
  pub within : w.at ≤ n
  pub ours_ended : w.ours ≡ ended ours w.at
  pub theirs_ended : w.theirs ≡ ended theirs w.at
  pub begun : s ≤ e
  pub grown : e ≤ w.at
  pub apart : EndsBelow s done
  pub so_far : done ++ nonempty s e ≡ stretches (wanted_at kind ours theirs) w.at
  pub marks_so_far : m ≡ marks_for ours ms (interval s e)
  pub long : length out'.list.now ≡ length out.list.now
  pub marks_long : length out'.marks.now ≡ length out.marks.now
  pub wrote : Wrote done out.list.now out'.list.now c
  pub wrote_marks : out'.marks.now ≡ put (map (marks_for ours ms) done) out.marks.now
  pub same : SameOut out out'

pub sweeping_start : {kind : Joined} {n : ℕ} {ours : List Interval} {ms : List ℕ} {theirs : List Interval}
    {out : MarksOut} → Ready n ours ms theirs (length out.list.now) (length out.marks.now)
    → Sweeping kind n ours ms theirs out out (sweep 0 0 0) 0 0 0 0
unfolding stretches nonempty
sweeping_start {kind} {n} {ours} {ms} {theirs} r =
    record {
      done = [];
      within = omega arith;
      ours_ended = sym (ended_early n 0 0 ours r.ours_usual (omega arith));
      theirs_ended = sym (ended_early n 0 0 theirs r.theirs_usual (omega arith));
      begun = omega arith;
      grown = omega arith;
      apart = tt;
      so_far = refl;
      marks_so_far = sym (marks_empty ours ms 0);
      long = refl;
      marks_long = refl;
      wrote = record { list_is = refl; count_is = refl };
      wrote_marks = refl;
      same = record { list = refl; marks = refl };
    }

ends_append : (s e x : ℕ) (is : List Interval) → s ≤ x → e < x → EndsBelow s is → EndsBelow x (is ++ nonempty s e)
ends_append s e x [] h l b =
    ⊎_elim (λ lt. rw (nonempty_some s e lt) (l, tt)) (λ ge. rw (nonempty_none s e ge) tt) (lt_or_le s e)
ends_append s e x (i ∷ is) h l b = (omega arith, ends_append s e x is h l b.1)

map_nonempty : (f : Interval → ℕ) (m s e : ℕ) → m ≡ f (interval s e) → map (λ (_ : Interval). m) (nonempty s e) ≡ map f (nonempty s e)
map_nonempty f m s e q =
    ⊎_elim (λ lt. rw (nonempty_some s e lt) (ap (λ (v : ℕ). v ∷ []) q)) (λ ge. rw (nonempty_none s e ge)) (lt_or_le s e)

module _ {kind : Joined} {n : ℕ} {ours : List Interval} {ms : List ℕ} {theirs : List Interval} {out out' : MarksOut}
    {w : Sweep} {s e m c : ℕ} (v : Sweeping kind n ours ms theirs out out' w s e m c) (r : Ready n ours ms theirs (length out.list.now) (length out.marks.now)) where
  abbrev f : ℕ → Bool
  f = wanted_at kind ours theirs

  -- Room for the interval that may grow.
  fits : c + length (nonempty s e) ≤ length ours + length theirs
  unfolding joined
  fits =
      let k = v.wrote.count_is in
      let l = simp length-append at (ap length v.so_far) in
      omega (arith, joined_room kind w.at ours theirs)

  pub sweeping_room : c + length (nonempty s e) ≤ length out'.list.now
  sweeping_room = omega (arith, fits, r.room, v.long)

  pub sweeping_marks_room : c + length (nonempty s e) ≤ length out'.marks.now
  sweeping_marks_room = omega (arith, fits, r.marks_room, v.marks_long)

  -- It is written.
  module _ {xs'' : List Interval} {ys'' : List ℕ} {c' : ℕ} (p : xs'' ≡ put_at c (nonempty s e) out'.list.now)
      (q : ys'' ≡ put_at c (map (λ (_ : Interval). m) (nonempty s e)) out'.marks.now) (t : c' ≡ c + length (nonempty s e)) where
    written : Wrote (v.done ++ nonempty s e) out.list.now xs'' c'
    written = wrote_next (nonempty s e) v.wrote p t

    written_marks : ys'' ≡ put (map (marks_for ours ms) (v.done ++ nonempty s e)) out.marks.now
    written_marks =
        q
        ∙ ap₂ (λ (k : ℕ) (l : List ℕ). put_at k (map (λ (_ : Interval). m) (nonempty s e)) l)
        (v.wrote.count_is ∙ sym (length-map v.done (marks_for ours ms))) v.wrote_marks
        ∙ put_next (map (marks_for ours ms) v.done) (map (λ (_ : Interval). m) (nonempty s e)) out.marks.now
        ∙ ap (λ (l : List ℕ). put l out.marks.now)
        (ap (λ (l : List ℕ). map (marks_for ours ms) v.done ++ l) (map_nonempty (marks_for ours ms) m s e v.marks_so_far)
        ∙ sym (map-append (marks_for ours ms) v.done (nonempty s e)))

    module _ (h : n ≤ w.at) where
      all : v.done ++ nonempty s e ≡ joined kind n ours theirs
      unfolding joined
      all = v.so_far ∙ ap (λ (x : ℕ). stretches f x) (let z : w.at ≡ n = omega (arith, v.within) in z)

      pub joined_list : xs'' ≡ put (joined kind n ours theirs) out.list.now
      joined_list = written.list_is ∙ ap (λ (is : List Interval). put is out.list.now) all

      pub joined_marks_are : ys'' ≡ put (joined_marks kind n ours ms theirs) out.marks.now
      joined_marks_are = written_marks ∙ ap (λ (is : List Interval). put (map (marks_for ours ms) is) out.marks.now) all

      pub joined_count : c' ≡ length (joined kind n ours theirs)
      joined_count = written.count_is ∙ ap (λ (is : List Interval). length is) all

  module _ {p : Piece} (h : w.at < n) (q : p ≡ piece_at n ours theirs w) where
    piece : Cut n ours ms theirs w.at p
    piece = cut n ours ms theirs r.ours_usual r.theirs_usual w h v.ours_ended v.theirs_ended q

    pub sweeping_less : w.at < p.next.at
    sweeping_less = piece.past

    pub sweeping_index : p.ours ≡ true → w.ours < length ms
    sweeping_index g = omega (arith, piece.index g, v.ours_ended, r.all_marked)

    alike : {b : Bool} → wanted kind p.ours p.theirs ≡ b → (y : ℕ) → w.at ≤ y → y < p.next.at → f y ≡ b
    alike g y l u = piece.letters kind y l u ∙ g

    piece_marks : {m' : ℕ} → m' ≡ cond p.ours (get_or ms w.ours 0 % 4) 0 → m' ≡ marks_for ours ms (interval w.at p.next.at)
    piece_marks g = g ∙ ap (λ (k : ℕ). cond p.ours (get_or ms k 0 % 4) 0) v.ours_ended ∙ sym piece.marks

    pub sweeping_pass : wanted kind p.ours p.theirs ≡ false → Sweeping kind n ours ms theirs out out' p.next s e m c
    sweeping_pass g =
        record {
          done = v.done;
          within = piece.inside;
          ours_ended = piece.ours_ended;
          theirs_ended = piece.theirs_ended;
          begun = v.begun;
          grown = omega (arith, v.grown, piece.past);
          apart = v.apart;
          so_far = v.so_far ∙ sym (stretches_none f w.at p.next.at (omega (arith, piece.past)) (alike g));
          marks_so_far = v.marks_so_far;
          long = v.long;
          marks_long = v.marks_long;
          wrote = v.wrote;
          wrote_marks = v.wrote_marks;
          same = v.same;
        }

    pub sweeping_grow : {m' : ℕ} → wanted kind p.ours p.theirs ≡ true → m' ≡ cond p.ours (get_or ms w.ours 0 % 4) 0
        → w.at ≤ e → Sweeping kind n ours ms theirs out out' p.next s p.next.at (bit_or m m') c
    sweeping_grow {m'} g u l =
        let z : e ≡ w.at = omega (arith, v.grown) in
        let b : s ≤ w.at = omega (arith, v.begun, v.grown) in
        record {
          done = v.done;
          within = piece.inside;
          ours_ended = piece.ours_ended;
          theirs_ended = piece.theirs_ended;
          begun = omega (arith, b, piece.past);
          grown = omega arith;
          apart = v.apart;
          so_far =
              stretches_grow f w.at p.next.at s v.done b piece.past v.apart
              (ap (λ (x : ℕ). v.done ++ nonempty s x) (sym z) ∙ v.so_far) (alike g);
          marks_so_far =
              ap₂ bit_or (v.marks_so_far ∙ ap (λ (x : ℕ). marks_for ours ms (interval s x)) z) (piece_marks u)
              ∙ sym (marks_split ours ms s w.at p.next.at b (omega (arith, piece.past)));
          long = v.long;
          marks_long = v.marks_long;
          wrote = v.wrote;
          wrote_marks = v.wrote_marks;
          same = v.same;
        }

    pub sweeping_gap : {m' c' : ℕ} (out'' : MarksOut) → wanted kind p.ours p.theirs ≡ true
        → m' ≡ cond p.ours (get_or ms w.ours 0 % 4) 0 → e < w.at → out''.list.now ≡ put_at c (nonempty s e) out'.list.now
        → out''.marks.now ≡ put_at c (map (λ (_ : Interval). m) (nonempty s e)) out'.marks.now → c' ≡ c + length (nonempty s e)
        → SameOut out' out'' → Sweeping kind n ours ms theirs out out'' p.next w.at p.next.at m' c'
    sweeping_gap {m'} out'' g u l a b t k =
        let ends = ends_append s e w.at v.done (omega (arith, v.begun)) l v.apart in
        record {
          done = v.done ++ nonempty s e;
          within = piece.inside;
          ours_ended = piece.ours_ended;
          theirs_ended = piece.theirs_ended;
          begun = omega (arith, piece.past);
          grown = omega arith;
          apart = ends;
          so_far =
              stretches_grow f w.at p.next.at w.at (v.done ++ nonempty s e) (omega arith) piece.past ends
              (ap (λ (is : List Interval). (v.done ++ nonempty s e) ++ is) (nonempty_none w.at w.at (omega arith))
              ∙ append-nil (v.done ++ nonempty s e) ∙ v.so_far) (alike g);
          marks_so_far = piece_marks u;
          long = ap (λ (is : List Interval). length is) a ∙ put_at_length c (nonempty s e) out'.list.now sweeping_room ∙ v.long;
          marks_long =
              ap (λ (l : List ℕ). length l) b
              ∙ put_at_length c (map (λ (_ : Interval). m) (nonempty s e)) out'.marks.now
              (omega (arith, sweeping_marks_room, length-map (nonempty s e) (λ (_ : Interval). m)))
              ∙ v.marks_long;
          wrote = written a b t;
          wrote_marks = written_marks a b t;
          same = record { list = k.list ∙ v.same.list; marks = k.marks ∙ v.same.marks };
        }
