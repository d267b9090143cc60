-- What a request that no check refuses brings along.
use Rattle.std.proofs.Common.{ℕ, ◌+◌, ◌≤◌, ◌≡◌, refl, false, ◌||◌, List, ltb, length, get_or}
use mathlib.Mathlib.Data.Bool.Basic.{or-eq-false-eq-eq-false-and-eq-false}
use borrow.Author.Tests.{ltb-false, not-false}
use Rattle.checks.specs.Checks.{check}
use Rattle.checks.proofs.Passing.{passes}
use Rattle.intervals.specs.declared.Interval.{Interval}
use Rattle.intervals.specs.Interval.{usual}
use Rattle.intervals.proofs.Usual.{usual_agrees}
use Rattle.join.specs.Joining.{checks, refusal}
use Rattle.join.specs.Terms.Sweep.{Ready}

pub record Accepted (n : ℕ) (ours : List Interval) (ms : List ℕ) (theirs : List Interval) (list marks : ℕ) : Type 0 where
  pub few : n ≤ 2147483647
  pub ready : Ready n ours ms theirs list marks

pub accepted : {n : ℕ} {ours : List Interval} {ms : List ℕ} {theirs : List Interval} {list marks : ℕ}
    → refusal n ours ms theirs list marks ≡ 0 → Accepted n ours ms theirs list marks
accepted {n} {ours} {ms} {theirs} {list} {marks} h =
    let o : ℕ = length ours in
    let t : ℕ = length theirs in
    let p : (j : ℕ) → (get_or (checks n ours ms theirs list marks) j (check 0 false)).fails ≡ false =
    passes (checks n ours ms theirs list marks) refl h in
    let e = (or-eq-false-eq-eq-false-and-eq-false (ltb (length ms) o) (ltb list (o + t) || ltb marks (o + t))).0 (p 3) in
    let f = (or-eq-false-eq-eq-false-and-eq-false (ltb list (o + t)) (ltb marks (o + t))).0 e.1 in
    record {
      few = ltb-false 2147483647 n (p 0);
      ready =
          record {
            ours_usual = (usual_agrees n ours).0 (not-false (usual n ours) (p 1));
            theirs_usual = (usual_agrees n theirs).0 (not-false (usual n theirs) (p 2));
            all_marked = ltb-false (length ms) o e.0;
            room = ltb-false list (o + t) f.0;
            marks_room = ltb-false marks (o + t) f.1;
          };
    }
