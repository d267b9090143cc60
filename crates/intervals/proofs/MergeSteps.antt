-- Where the loop of `merge_intervals` stands, and what each of its turns does to that.
use Rattle.std.proofs.Common.{ℕ, ◌+◌, ◌-◌, ◌≤◌, ◌<◌, ◌≡◌, refl, sym, ap, ap₂, ◌∙◌, List, [], ◌∷◌, ◌++◌, map, append_assoc, append-nil, false, ⊎_elim, arith, length, take, length-append, take_all}
use mathlib.Core.List.{map-append}
use lib.ListN.{length-map}
use Rattle.buffers.specs.Fill.{put, put_at}
use Rattle.buffers.proofs.Put.{put_at_length, put_next}
use Rattle.intervals.specs.declared.Marked.{Marked}
use Rattle.intervals.specs.declared.Interval.{Interval}
use Rattle.intervals.specs.Interval.{interval}
use Rattle.intervals.specs.Merge.{merge, marked, from_forward, from_reverse, interleave_marked, nonempty, nonempty_marked, grown, join_marked, merge_marked, range, ranges, mark_of, marks_of, WroteMarked, backwards}
use Rattle.intervals.specs.Terms.Pick.{remaining, Picks}
use Rattle.intervals.specs.declared.Picked.{Picked}
use Rattle.intervals.specs.Out.{SameOut}
use Rattle.intervals.specs.declared.output.MarksOut.{MarksOut}
use Rattle.intervals.proofs.Order.{lt_or_le}
use Rattle.intervals.proofs.Joining.{nonempty_some, nonempty_none, marked_some, marked_none, marked_touch, marked_gap}
use Rattle.intervals.proofs.Slice.{wrote_next}
use Rattle.intervals.proofs.PickSteps.{none_remains}
use Rattle.intervals.proofs.Marks.{merged_ranges}

abbrev pub merged : List Interval → List Interval → ℕ → List Marked
merged fs rs n = merge_marked fs (backwards n rs)

merged_length : (fs rs : List Interval) (n : ℕ) → length (merged fs rs n) ≡ length (merge fs (backwards n rs))
merged_length fs rs n = sym (length-map (merged fs rs n) range) ∙ ap (λ (is : List Interval). length is) (merged_ranges fs (backwards n rs))

-- Room for the joined list, and for its marks.
abbrev pub Room : List Interval → List Interval → ℕ → ℕ → ℕ → Type 0
Room fs rs n list marks =
    (length (merge fs (backwards n rs)) ≤ list) × (length (merge fs (backwards n rs)) ≤ marks)

-- The list of one marked interval, if it has a letter: its range, its mark, its length.
module _ (m : Marked) where
  by_letters : (P : List Marked → List Interval → Type 0) → P (m ∷ []) (range m ∷ []) → P [] [] → P (nonempty_marked m) (nonempty m.start m.end)
  by_letters P some none =
      ⊎_elim
      (λ h. rw (marked_some m h, nonempty_some m.start m.end h) some)
      (λ h. rw (marked_none m h, nonempty_none m.start m.end h) none)
      (lt_or_le m.start m.end)

  ranges_marked : ranges (nonempty_marked m) ≡ nonempty m.start m.end
  ranges_marked = by_letters (λ ms is. ranges ms ≡ is) refl refl

  marks_marked : marks_of (nonempty_marked m) ≡ map (λ (_ : Interval). mark_of m) (nonempty m.start m.end)
  marks_marked = by_letters (λ ms is. marks_of ms ≡ map (λ (_ : Interval). mark_of m) is) refl refl

  length_marked : length (nonempty_marked m) ≡ length (nonempty m.start m.end)
  length_marked = by_letters (λ ms is. length ms ≡ length is) refl refl

-- A marked list written where another ends.
wrote_marked_next : {ms : List Marked} (ps : List Marked) {xs xs' xs'' : List Interval} {ys ys' ys'' : List ℕ} {c c' : ℕ} → WroteMarked ms xs xs' ys ys' c
    → xs'' ≡ put_at c (ranges ps) xs' → ys'' ≡ put_at c (marks_of ps) ys' → c' ≡ c + length ps → WroteMarked (ms ++ ps) xs xs'' ys ys'' c'
wrote_marked_next {ms} ps {xs} {xs'} {xs''} {ys} {ys'} {ys''} {c} {c'} w p q e =
    record {
      list = rw (map-append range ms ps) (wrote_next (ranges ps) w.list p (e ∙ ap (λ (z : ℕ). c + z) (sym (length-map ps range))));
      marks_are =
          q
          ∙ ap₂ (λ (z : ℕ) (d : List ℕ). put_at z (marks_of ps) d) (w.list.count_is ∙ length-map ms range ∙ sym (length-map ms mark_of)) w.marks_are
          ∙ put_next (marks_of ms) (marks_of ps) ys
          ∙ ap (λ (zs : List ℕ). put zs ys) (sym (map-append mark_of ms ps));
    }

-- Where the loop stands: some intervals are written, m grows, the others remain at i and j.
pub record Merging (fs rs : List Interval) (n : ℕ) (o o' : MarksOut) (i j taken : ℕ) (m : Marked) (c : ℕ) : Type 0 where
  pub done : List Marked
  pub forward_within : i ≤ length fs
  pub reverse_within : j ≤ length rs
  pub counted : taken + ((length fs - i) + j) ≡ length fs + length rs
  pub long : length o'.list.now ≡ length o.list.now
  pub marks_long : length o'.marks.now ≡ length o.marks.now
  pub wrote : WroteMarked done o.list.now o'.list.now o.marks.now o'.marks.now c
  pub same : SameOut o o'
  pub so_far : done ++ join_marked m (remaining fs i rs j n) ≡ merged fs rs n

pub merging_start : {fs rs : List Interval} {n : ℕ} {o : MarksOut}
    → Merging fs rs n o o 0 (length rs) 0 (marked (interval 0 0) false false) 0
unfolding remaining merge_marked
merging_start {fs} {rs} {n} =
    let t : take (length rs) rs ≡ rs = take_all (length rs) rs (omega arith) in
    record {
      done = [];
      forward_within = omega arith;
      reverse_within = omega arith;
      counted = omega arith;
      long = refl;
      marks_long = refl;
      wrote = record { list = record { list_is = refl; count_is = refl }; marks_are = refl };
      same = record { list = refl; marks = refl };
      so_far = ap (λ (is : List Interval). join_marked (marked (interval 0 0) false false) (interleave_marked (map from_forward fs) (map from_reverse (backwards n is)))) t;
    }

module _ {fs rs : List Interval} {n : ℕ} {o o' : MarksOut} {i j taken : ℕ} {m : Marked} {c : ℕ} (v : Merging fs rs n o o' i j taken m c) where
  -- The interval i that grows fits, as a part of the whole list.
  abbrev Fits : Interval → Type 0
  Fits i = (c + length (nonempty i.start i.end) ≤ length o'.list.now) × (c + length (nonempty i.start i.end) ≤ length o'.marks.now)

  room : (tail : List Marked) → v.done ++ (nonempty_marked m ++ tail) ≡ merged fs rs n → Room fs rs n (length o.list.now) (length o.marks.now)
      → {i : Interval} → i ≡ range m → Fits i
  room tail q h e =
      let l = v.long in
      let l' = v.marks_long in
      let k = v.wrote.list.count_is ∙ length-map v.done range in
      let w = simp length-append at (ap length q) in
      let z = merged_length fs rs n in
      let y = length_marked m in
      rw e (omega arith, omega arith)

  -- It is written, with the mark b.
  abbrev Pushed : Interval → ℕ → MarksOut → ℕ → Type 0
  Pushed i b o'' c' =
      (o''.list.now ≡ put_at c (nonempty i.start i.end) o'.list.now)
      × (o''.marks.now ≡ put_at c (map (λ (_ : Interval). b) (nonempty i.start i.end)) o'.marks.now)
      × (c' ≡ c + length (nonempty i.start i.end))

  written : {i : Interval} {b : ℕ} → i ≡ range m → b ≡ mark_of m → (o'' : MarksOut) {c' : ℕ} → Pushed i b o'' c'
      → WroteMarked (v.done ++ nonempty_marked m) o.list.now o''.list.now o.marks.now o''.marks.now c'
  written {i} {b} e f o'' {c'} h =
      let h' : Pushed (range m) (mark_of m) o'' c' = rw (e, f) at h in
      wrote_marked_next (nonempty_marked m) v.wrote
      (h'.0 ∙ ap (λ (is : List Interval). put_at c is o'.list.now) (sym (ranges_marked m)))
      (h'.1 ∙ ap (λ (ys : List ℕ). put_at c ys o'.marks.now) (sym (marks_marked m)))
      (h'.2 ∙ ap (λ (z : ℕ). c + z) (sym (length_marked m)))

  module _ {p : Picked} (k : Picks fs i rs j n p) where
    after : List Marked
    after = remaining fs p.forward rs p.reverse n

    touch : p.part.start ≤ m.end → join_marked m (remaining fs i rs j n) ≡ join_marked (grown m p.part) after
    unfolding after
    touch t = ap (λ (ms : List Marked). join_marked m ms) k.first ∙ marked_touch m p.part after t

    gap : m.end < p.part.start → v.done ++ (nonempty_marked m ++ join_marked p.part after) ≡ merged fs rs n
    unfolding after
    gap t =
        let q = ap (λ (ms : List Marked). join_marked m ms) k.first ∙ marked_gap m p.part after t in
        rw (← q) v.so_far

    pub merging_touch : {m' : Marked} → p.part.start ≤ m.end → m' ≡ grown m p.part
        → Merging fs rs n o o' p.forward p.reverse (taken + 1) m' c
    unfolding after
    merging_touch t q =
        record {
          done = v.done;
          forward_within = omega (arith, k.forward_within);
          reverse_within = omega (arith, k.reverse_within, v.reverse_within);
          counted = omega (arith, k.one_less, v.counted);
          long = v.long;
          marks_long = v.marks_long;
          wrote = v.wrote;
          same = v.same;
          so_far = rw (q, ← touch t) v.so_far;
        }

    pub merging_room : Room fs rs n (length o.list.now) (length o.marks.now) → m.end < p.part.start → {i : Interval} → i ≡ range m → Fits i
    merging_room h t = room (join_marked p.part after) (gap t) h

    pub merging_gap : m.end < p.part.start → {i : Interval} {b : ℕ} → i ≡ range m → b ≡ mark_of m → Fits i → (o'' : MarksOut) {c' : ℕ}
        → Pushed i b o'' c' → SameOut o' o'' → Merging fs rs n o o'' p.forward p.reverse (taken + 1) p.part c'
    unfolding after
    merging_gap t {i} {b} e f y o'' w s =
        record {
          done = v.done ++ nonempty_marked m;
          forward_within = omega (arith, k.forward_within);
          reverse_within = omega (arith, k.reverse_within, v.reverse_within);
          counted = omega (arith, k.one_less, v.counted);
          long = ap (λ (is : List Interval). length is) w.0 ∙ put_at_length c (nonempty i.start i.end) o'.list.now y.0 ∙ v.long;
          marks_long =
              ap (λ (ys : List ℕ). length ys) w.1
              ∙ put_at_length c (map (λ (_ : Interval). b) (nonempty i.start i.end)) o'.marks.now
              (omega (arith, y.1, length-map (nonempty i.start i.end) (λ (_ : Interval). b)))
              ∙ v.marks_long;
          wrote = written e f o'' w;
          same = record { list = s.list ∙ v.same.list; marks = s.marks ∙ v.same.marks };
          so_far = rw append_assoc (gap t);
        }

  module _ (z : length fs + length rs ≤ taken) where
    last : v.done ++ nonempty_marked m ≡ merged fs rs n
    unfolding join_marked
    last =
        let y : j ≡ 0 = omega (arith, v.counted) in
        let q = v.so_far in
        let q' : v.done ++ join_marked m (remaining fs i rs 0 n) ≡ merged fs rs n = rw y at q in
        rw (none_remains fs i rs n (omega (arith, v.counted))) at q'

    pub merging_last_room : Room fs rs n (length o.list.now) (length o.marks.now) → {i : Interval} → i ≡ range m → Fits i
    merging_last_room = room [] (rw append-nil last)

    pub merging_end : {i : Interval} {b : ℕ} → i ≡ range m → b ≡ mark_of m → (o'' : MarksOut) {c' : ℕ} → Pushed i b o'' c'
        → WroteMarked (merged fs rs n) o.list.now o''.list.now o.marks.now o''.marks.now c'
    merging_end e f o'' w = rw last at (written e f o'' w)
