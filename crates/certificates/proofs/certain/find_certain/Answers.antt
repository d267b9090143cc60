use Rattle.std.proofs.Common.{true, ◌≡◌, refl, sym, ◌∙◌, ◌-◌, arith, length, get_or, drop}
use Rattle.letters.specs.Terms.Entry.{decode}
use Rattle.scans.specs.Terms.Counted.{Touched}
use Rattle.scans.specs.Terms.Run.{as_setup, entries_of}
use Rattle.scans.specs.Terms.Window.{ring_index, window, Joining}
use Rattle.search.specs.Terms.Carry.{CarriesOn, Carried}
use Rattle.search.proofs.CertificateRing.{raised_asks}
use Rattle.certificates.proofs.CertainRing.{there, joins, joining, none_led, next_touched, next_counted, next_carried, certain_found, remade}
use Rattle.certificates.proofs.certain.find_certain.Goals as goal
use Rattle.certificates.proofs.certain.find_certain.Goals.{After-next-next, Start}

joined : (c : Start) → let r = c.args.ring.now in Joining c.args.setup.now.params r.queue.now r.head r.len c.args.window_counts.now (length c.args.setup.now.ln.now) c.args.scan_counts.now
joined c = joining _ _ _ _ _ _ c.args.setup.now.f.now _ c.requires.windowed _ c.requires.start_lt_len.0 c.requires.start_lt_len.3

pub leads-requires : goal.leads-requires
leads-requires c =
    let r = raised_asks _ _ _ _ _ _ _ (joined (goal.at.leads-requires c).Start) _ c.newest-entry.ensures in
    (r.0, r.1, omega (arith, c.requires.windowed.len_in, c.requires.start_lt_len.2))

pub returns-then-not-leads-clause-untold : goal.returns-then-not-leads-clause-untold
returns-then-not-leads-clause-untold c = none_led _ _ _ _ _ _ c.args.setup.now.f.now _ c.requires.windowed _ c.requires.start_lt_len.0 c.requires.start_lt_len.3

pub next-next-requires-clause-joining : goal.next-next-requires-clause-joining
next-next-requires-clause-joining c = joined (goal.at.next-next-requires-clause-joining c).Start

-- The carried scan with the newest entry.
next_is : (c : After-next-next) → let a = c.args in let r = a.ring.now in
    CarriesOn (as_setup a.setup.now) (window r.queue.now r.head (r.len - 1)) (decode (get_or r.queue.now (ring_index (length r.queue.now) r.head (r.len - 1)) 0))
    a.start a.carry c.next-next.result a.scan_counts.now c.next-next.new.scan_counts
next_is c = c.next-next.ensures _ _ (joins _ _ _ _ _ _ c.args.setup.now.f.now _ c.requires.windowed _ c.requires.start_lt_len.0 c.requires.start_lt_len.3)

carried : (c : After-next-next) → c.leads.result ≡ true → Carried (as_setup c.args.setup.now) (entries_of c.args.ring.now) c.args.start c.next-next.result
carried c led = next_carried _ _ _ _ _ _ _ _ c.requires.windowed _ c.requires.start_lt_len.0 c.requires.start_lt_len.3 _ c.requires.start_lt_len.1 c.requires.carried _ c.newest-entry.ensures _ c.leads.ensures led (next_is c)

pub returns-then-is_some-clause-found : goal.returns-then-is_some-clause-found
returns-then-is_some-clause-found c =
    let r = c.requires.start_lt_len in
    let n = next_is (goal.at.returns-then-is_some-clause-found c).After-next-next in
    certain_found _ _ _ _ _ _ _ _ c.requires.windowed _ r.0 r.3 _ r.1 c.requires.carried _ c.newest-entry.ensures _ c.leads.ensures c.if-not-leads.false _ (n.on_is ∙ r.1)
    (carried (goal.at.returns-then-is_some-clause-found c).After-next-next c.if-not-leads.false) (sym c.is_some.ensures ∙ c.if-is_some.true) _
    (next_counted _ _ _ _ _ _ c.args.setup.now.f.now _ c.requires.windowed _ r.0 r.3 _ n.counts_are)

touched : (c : After-next-next) → Touched c.next-next.new.scan_counts (drop c.args.start (entries_of c.args.ring.now))
touched c = next_touched _ _ _ _ _ _ c.args.setup.now.f.now _ c.requires.windowed _ c.requires.start_lt_len.0 c.requires.start_lt_len.3 _ (next_is c).counts_are

pub returns-then-not-setup-clause-untold : goal.returns-then-not-setup-clause-untold
returns-then-not-setup-clause-untold c = touched (goal.at.returns-then-not-setup-clause-untold c).After-next-next

pub clear_from-requires-clause-from_le_len : goal.clear_from-requires-clause-from_le_len
clear_from-requires-clause-from_le_len c = (omega (arith, c.requires.start_lt_len.0), touched (goal.at.clear_from-requires-clause-from_le_len c).After-next-next)

pub returns-then-is_some-2-clause-found : goal.returns-then-is_some-2-clause-found
returns-then-is_some-2-clause-found c =
    let r = c.requires.start_lt_len in
    let told = c.certify-made.ensures.made in
    let some = sym c.is_some-2.ensures ∙ c.if-is_some-2.true in
    let held = there _ told some in
    let n = next_is (goal.at.returns-then-is_some-2-clause-found c).After-next-next in
    certain_found _ _ _ _ _ _ _ _ c.requires.windowed _ r.0 r.3 _ r.1 c.requires.carried _ c.newest-entry.ensures _ c.leads.ensures c.if-not-leads.false _ refl
    (remade _ _ (n.on_is ∙ r.1) (carried (goal.at.returns-then-is_some-2-clause-found c).After-next-next c.if-not-leads.false) (rw held.1 held.2.0)) some _ held.2.1
