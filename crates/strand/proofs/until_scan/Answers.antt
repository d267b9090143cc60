use Rattle.std.proofs.Common.{◌≡◌, sym, ◌∙◌, subst, ◌^◌, ◌≤◌, arith, length}
use Rattle.scans.specs.Terms.Run.{as_setup}
use Rattle.scans.proofs.Windows.{long}
use Rattle.step.specs.declared.hand.Open.{Open}
use Rattle.step.specs.Terms.Finding.{Saving}
use Rattle.strand.specs.Terms.ReadingOn.{Stops}
use Rattle.strand.proofs.ReadingOn.{small}
use Rattle.strand.proofs.KnownLow.{known_on, asks_low}
use Rattle.strand.proofs.Running.{saving, stopped_hand, stopped_further, entered_window, inv_end, look_passing, scan_asking, answer_within, before_answered, before_passed, before_extended, due_scan}
use Rattle.strand.proofs.until_scan.Goals as goal
use Rattle.strand.proofs.until_scan.Goals.{After-look-look, After-skim-st, At-loop-st, Else-st-codes}

can_save : (c : At-loop-st) → Saving c.loop-st.st.hand c.loop-st.list
can_save c =
    let l = c.requires.part_lent in
    let h = c.loop-st.invariant in
    saving (length c.args.codes.now) l.kmer_some l.letters_in h.inv.read.i_in (rw c.loop-st.auto.list l.list_long) h.inv.count_in h.inv.shaped

-- A letter that is searched from, and the interval in hand there.
stops : (c : Else-st-codes) → let a = c.args in Stops a.setup.now.params a.codes.now a.setup.now.ln.now a.setup.now.f.now c.loop-st.st c.skim-st.result c.loop-st.queue c.loop-st.scan_counts c.skim-st.new.queue c.skim-st.new.window_counts c.skim-st.new.scan_counts
stops c = c.skim-st.ensures.stops c.if-st-codes.false

can_save_there : (c : Else-st-codes) → Saving c.skim-st.result.hand c.loop-st.list
can_save_there c = subst (λ (o : Open). Saving o c.loop-st.list) (sym (stopped_hand c.loop-st.invariant.inv (stops c) c.if-st-codes.false)) (can_save (goal.at.Else-st-codes c).At-loop-st)

further : (c : Else-st-codes) → c.args.from.state.i ≤ c.skim-st.result.i
further c = omega (arith, c.loop-st.invariant.further, stopped_further c.loop-st.invariant.inv (stops c) c.if-st-codes.false)

letter_small : (c : Else-st-codes) → c.skim-st.result.i ≤ 2147483647
letter_small c = omega (arith, c.if-st-codes.false, c.requires.part_lent.letters_in)

all_counts : (c : After-skim-st) → length c.skim-st.new.scan_counts ≡ 4 ^ c.args.setup.now.params.kmer
all_counts c = c.skim-st.auto.scan_counts ∙ c.loop-st.auto.scan_counts ∙ c.requires.part_lent.counts_is

all_looked : (c : After-look-look) → length c.look-look.new.scan_counts ≡ 4 ^ c.args.setup.now.params.kmer
all_looked c = c.look-look.auto.scan_counts ∙ all_counts (goal.at.After-look-look c).After-skim-st

pub returns-then-st-codes : goal.returns-then-st-codes
returns-then-st-codes c =
    let s = c.skim-st.ensures.ends c.if-st-codes.true in
    record { further = omega (arith, c.loop-st.invariant.further, s.further); ended = λ _. inv_end c.loop-st.invariant.inv s c.if-st-codes.true (can_save (goal.at.returns-then-st-codes c).At-loop-st); due = λ l. absurd (let b : ⊥ = omega (arith, l, c.if-st-codes.true) in b) }

pub look-look-requires-clause-i_bound : goal.look-look-requires-clause-i_bound
look-look-requires-clause-i_bound c =
    let there = (goal.at.look-look-requires-clause-i_bound c).Else-st-codes in
    let e = (stops there).enters in
    (omega (arith, letter_small there), e.entered.some, small e c.requires.part_lent.kmer_small, e.entered.below, all_counts (goal.at.look-look-requires-clause-i_bound c).After-skim-st, c.requires.part_lent.f_long)

pub foretell-requires-clause-asking : goal.foretell-requires-clause-asking
foretell-requires-clause-asking c =
    scan_asking c.loop-st.invariant.inv (stops (goal.at.foretell-requires-clause-asking c).Else-st-codes) c.if-st-codes.false c.look-look.ensures c.in-Scan.is (all_looked (goal.at.foretell-requires-clause-asking c).After-look-look) c.requires.part_lent.f_long

pub foretell-requires-clause-asks_low : goal.foretell-requires-clause-asks_low
foretell-requires-clause-asks_low c =
    let there = (goal.at.foretell-requires-clause-asks_low c).Else-st-codes in
    let S = as_setup c.args.setup.now in
    let w = (stops there).enters.entered.windowed in
    asks_low S c.args.codes.now (omega (arith, w.wide)) c.if-st-codes.false (long w) (entered_window c.loop-st.invariant.inv (stops there) c.if-st-codes.false) c.args.from.low (known_on S c.args.codes.now c.args.from.low (further there) c.requires.known_low)

pub answered-st-requires-clause-i_bound : goal.answered-st-requires-clause-i_bound
answered-st-requires-clause-i_bound c =
    let there = (goal.at.answered-st-requires-clause-i_bound c).Else-st-codes in
    let w = (stops there).enters.entered.windowed in
    (omega (arith, letter_small there), omega (arith, w.len_in, w.small), answer_within c.loop-st.invariant.inv (stops there) c.if-st-codes.false c.look-look.ensures c.in-Scan.is c.in-Some.ensures.told, c.requires.part_lent.kmer_small)

pub answered-st-requires-clause-saving : goal.answered-st-requires-clause-saving
answered-st-requires-clause-saving c = can_save_there (goal.at.answered-st-requires-clause-saving c).Else-st-codes

pub loop-st-preserved-in-Some : goal.loop-st-preserved-in-Some
loop-st-preserved-in-Some c =
    let there = (goal.at.loop-st-preserved-in-Some c).Else-st-codes in
    record { inv = before_answered c.loop-st.invariant.inv (stops there) c.if-st-codes.false c.look-look.ensures c.in-Scan.is c.in-Some.ensures.told c.answered-st.ensures.0 c.answered-st.ensures.1; further = omega (arith, further there, c.answered-st.ensures.0.i_is) }

pub returns-in-None : goal.returns-in-None
returns-in-None c =
    let there = (goal.at.returns-in-None c).Else-st-codes in
    record { further = further there; ended = λ h. absurd (let b : ⊥ = omega (arith, h, c.if-st-codes.false) in b); due = λ _. due_scan c.loop-st.invariant.inv (stops there) c.if-st-codes.false c.look-look.ensures c.in-Scan.is c.in-None.ensures.untold (can_save_there there) }

pub extended-st-requires-clause-saving : goal.extended-st-requires-clause-saving
extended-st-requires-clause-saving c = can_save_there (goal.at.extended-st-requires-clause-saving c).Else-st-codes

pub loop-st-preserved-in-Extension : goal.loop-st-preserved-in-Extension
loop-st-preserved-in-Extension c =
    let there = (goal.at.loop-st-preserved-in-Extension c).Else-st-codes in
    record { inv = before_extended c.loop-st.invariant.inv (stops there) c.if-st-codes.false c.look-look.ensures c.in-Extension.is c.extended-st.ensures.0 c.extended-st.ensures.1; further = omega (arith, further there, c.extended-st.ensures.0.i_is) }

pub passed-st-requires-clause-passing : goal.passed-st-requires-clause-passing
passed-st-requires-clause-passing c = look_passing c.loop-st.invariant.inv (stops (goal.at.passed-st-requires-clause-passing c).Else-st-codes) c.if-st-codes.false c.look-look.ensures c.in-Pass.is (all_looked (goal.at.passed-st-requires-clause-passing c).After-look-look) c.requires.part_lent.f_long

pub loop-st-preserved : goal.loop-st-preserved
loop-st-preserved c =
    let there = (goal.at.loop-st-preserved c).Else-st-codes in
    record { inv = before_passed c.loop-st.invariant.inv (stops there) c.if-st-codes.false c.look-look.ensures c.in-Pass.is c.passed-st.ensures; further = omega (arith, further there, c.passed-st.ensures.i_is) }
