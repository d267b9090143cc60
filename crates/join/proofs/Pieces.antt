-- The next piece of a sweep: its letters are all alike in both lists.
use Rattle.std.proofs.Common.{ℕ, ◌%◌, ◌≤◌, ◌<◌, min, ◌≡◌, sym, ap, ap₂, ◌∙◌, Bool, true, cond, List, arith, length, drop, get_or}
use Rattle.intervals.specs.declared.Interval.{Interval}
use Rattle.intervals.specs.Interval.{interval, Canonical}
use Rattle.join.specs.Joining.{wanted, wanted_at, marks_for}
use Rattle.intervals.specs.Terms.Leading.{ended}
use Rattle.join.specs.Terms.Sweep.{side_of, sweep, piece_at}
use Rattle.join.specs.declared.Joined.{Joined}
use Rattle.join.specs.declared.Sweep.{Sweep}
use Rattle.join.specs.declared.Piece.{Piece}
use Rattle.join.proofs.Marks.{marks_part}
use Rattle.join.proofs.Sides.{goes}

pub record Cut (n : ℕ) (ours : List Interval) (ms : List ℕ) (theirs : List Interval) (x : ℕ) (p : Piece) : Type 0 where
  pub past : x < p.next.at
  pub inside : p.next.at ≤ n
  pub letters : (kind : Joined) (y : ℕ) → x ≤ y → y < p.next.at → wanted_at kind ours theirs y ≡ wanted kind p.ours p.theirs
  pub ours_ended : p.next.ours ≡ ended ours p.next.at
  pub theirs_ended : p.next.theirs ≡ ended theirs p.next.at
  pub marks : marks_for ours ms (interval x p.next.at) ≡ cond p.ours (get_or ms (ended ours x) 0 % 4) 0
  pub index : p.ours ≡ true → ended ours x < length ours

module _ (n : ℕ) (ours : List Interval) (ms : List ℕ) (theirs : List Interval) (a : Canonical n 1 ours) (b : Canonical n 1 theirs) where
  cut_here : (x : ℕ) → x < n → Cut n ours ms theirs x (piece_at n ours theirs (sweep x (ended ours x) (ended theirs x)))
  unfolding piece_at
  cut_here x h =
      let o = goes n x 0 ours a h in
      let t = goes n x 0 theirs b h in
      let until : ℕ = (side_of n (drop (ended ours x) ours) x).until in
      let until' : ℕ = (side_of n (drop (ended theirs x) theirs) x).until in
      let op = o.past in
      let tp = t.past in
      let oi = o.inside in
      record {
        past = omega arith;
        inside = omega arith;
        letters = λ kind y l m.
            ap₂ (λ (u v : Bool). wanted kind u v) (o.letters y l (omega arith)) (t.letters y l (omega arith));
        ours_ended = sym (o.then (min until until') (omega arith) (omega arith));
        theirs_ended = sym (t.then (min until until') (omega arith) (omega arith));
        marks =
            marks_part ours ms (interval x (min until until')) (side_of n (drop (ended ours x) ours) x).covers (get_or ms (ended ours x) 0)
            (λ mark. o.marks mark ms x (min until until') (omega arith) (omega arith) (omega arith));
        index = o.index;
      }

  pub cut : (s : Sweep) {p : Piece} → s.at < n → s.ours ≡ ended ours s.at → s.theirs ≡ ended theirs s.at → p ≡ piece_at n ours theirs s
      → Cut n ours ms theirs s.at p
  cut s {p} h i j q =
      let e : s ≡ sweep s.at (ended ours s.at) (ended theirs s.at) = ap₂ (λ (u v : ℕ). sweep s.at u v) i j in
      rw (q ∙ ap (λ (w : Sweep). piece_at n ours theirs w) e) (cut_here s.at h)
