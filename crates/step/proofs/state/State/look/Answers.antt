use Rattle.std.proofs.Common.{◌≡◌, subst, ◌&&◌, List, ℕ, ◌/◌, ◌≤◌, arith, length}
use Rattle.letters.specs.Place.{plain}
use Rattle.letters.specs.Terms.Entry.{decode}
use Rattle.letters.specs.Terms.Rolling.{entry_of}
use Rattle.intervals.specs.declared.Interval.{Interval}
use Rattle.scans.specs.Setup.{Setup}
use Rattle.scans.specs.Terms.Numbers.{setup_of}
use Rattle.scans.specs.Counts.{count}
use Rattle.scans.specs.Scans.{extends}
use Rattle.step.specs.Step.{Run, extend_tried}
use Rattle.step.specs.Terms.Entering.{held}
use Rattle.step.specs.Terms.Searching.{Extended}
use Rattle.step.proofs.Searching.{extended_is, searched_plain, searched_often, look_extended, look_back, look_none}
use Rattle.step.proofs.state.State.look.Goals as goal
use Rattle.step.proofs.state.State.look.Goals.{After-extends}

abbrev S : After-extends → Setup
S b = setup_of b.args.setup.now.params b.args.setup.now.ln.now b.args.setup.now.f.now

abbrev A : After-extends → List Interval → Run
A b saved = held b.args.self b.args.queue.now b.args.scan_counts.now saved

abbrev entry : After-extends → ℕ
entry b = entry_of b.args.setup.now.params.kmer b.args.self.kmer

-- The entry is plain, and stands often enough to be searched from.
is_plain : (b : After-extends) → decode (entry b) ≡ plain (entry b / 2)
is_plain b = searched_plain b.args.setup.now.params.min_start_cnt (entry b) b.args.window_counts.now b.requires.self_value

stands : (b : After-extends) (saved : List Interval) → b.args.setup.now.params.min_start_cnt ≤ count (entry b / 2) (A b saved).window
stands b saved =
    omega (arith, searched_often b.args.setup.now.params.min_start_cnt (entry b) b.args.window_counts.now b.requires.self_value, b.requires.windowed.counted (entry b / 2))

-- What the extension answers, of the entry's k-mer.
extension : (b : After-extends) →
    Extended b.args.setup.now.params b.args.setup.now.ln.now b.args.setup.now.f.now b.args.self (entry b / 2) b.args.scan_counts.now b.extends.result b.extends.new.scan_counts
extension b =
    subst (λ (e : ℕ). Extended b.args.setup.now.params b.args.setup.now.ln.now b.args.setup.now.f.now b.args.self (e / 2) b.args.scan_counts.now b.extends.result b.extends.new.scan_counts)
    b.entry-kmer.ensures b.extends.ensures

answer : (b : After-extends) (saved : List Interval) →
    b.extends.result
    ≡ extend_tried (S b) b.args.self.i (A b saved) && extends (S b) b.args.scan_counts.now (length (A b saved).window) (entry b / 2)
answer b saved = extended_is (extension b) b.requires.windowed saved

pub returns-then-extends : goal.returns-then-extends
returns-then-extends c saved =
    let b = (goal.at.returns-then-extends c).After-extends in
    look_extended (S b) b.args.self.i (A b saved) (entry b) (is_plain b) (stands b saved) (answer b saved) (extension b).counts_are c.if-extends.true

pub returns-then-if_backward : goal.returns-then-if_backward
returns-then-if_backward c saved =
    let b = (goal.at.returns-then-if_backward c).After-extends in
    look_back (S b) b.args.self.i (A b saved) (entry b) (is_plain b) (stands b saved) (answer b saved) (extension b).counts_are
    c.if-extends.false (rw (c.ring-ring.ensures.0, c.ring-ring.ensures.1, c.ring-ring.ensures.2) at (c.if_backward.ensures b.args.setup.now.f.now)) c.if-if_backward.true

pub returns : goal.returns
returns c saved =
    let b = (goal.at.returns c).After-extends in
    look_none (S b) b.args.self.i (A b saved) (entry b) (is_plain b) (stands b saved) (answer b saved) (extension b).counts_are
    c.if-extends.false (rw (c.ring-ring.ensures.0, c.ring-ring.ensures.1, c.ring-ring.ensures.2) at (c.if_backward.ensures b.args.setup.now.f.now)) c.if-if_backward.false
