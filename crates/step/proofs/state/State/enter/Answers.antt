use Rattle.std.proofs.Common.{◌≡◌, refl, sym, subst, ℕ, ◌+◌, ◌/◌, ◌^◌, ◌<◌, arith}
use Rattle.letters.specs.Terms.Rolling.{kmer_after}
use Rattle.letters.proofs.Rolling.{kmer_next, run_few, value_small, entry_below}
use Rattle.step.specs.Terms.Entering.{Joined}
use Rattle.step.proofs.Letter.{entering}
use Rattle.step.proofs.state.State.enter.Goals as goal
use Rattle.step.proofs.state.State.enter.Goals.{After-next-self}

-- The k-mer after letter i, and its entry.
rolled : (c : After-next-self) → let a = c.args in c.next-self.result ≡ kmer_after a.setup.now.params.kmer a.codes.now (a.self.i + 1)
rolled c =
    let a = c.args in
    kmer_next a.setup.now.params.kmer a.codes.now a.self.i a.self.kmer c.requires.kmer_is c.next-self.result c.requires.i_in c.next-self.ensures

pub next-self-requires : goal.next-self-requires
next-self-requires c =
    let few = run_few c.args.setup.now.params.kmer c.args.codes.now c.args.self.i c.args.self.kmer c.requires.kmer_is in
    (c.requires.kmer_small, omega (arith, few, c.requires.i_in, c.requires.letters_in))

pub entry-entry-requires : goal.entry-entry-requires
entry-entry-requires c = value_small c.args.setup.now.params.kmer c.args.codes.now (c.args.self.i + 1) c.next-self.result (rolled (goal.at.entry-entry-requires c).After-next-self) c.requires.kmer_small

pub join-self-requires-clause-len_bound : goal.join-self-requires-clause-len_bound
join-self-requires-clause-len_bound c =
    let a = c.args in (
      c.make_room-room.ensures.room,
      subst (λ (e : ℕ). e / 2 < 4 ^ a.setup.now.params.kmer) (sym c.entry-entry.ensures) (entry_below a.setup.now.params.kmer a.codes.now (a.self.i + 1) c.next-self.result (rolled (goal.at.join-self-requires-clause-len_bound c).After-next-self)),
    )

pub returns : goal.returns
returns c f k =
    let a = c.args in
    entering f (rolled (goal.at.returns c).After-next-self) refl refl k c.make_room-room.ensures
    (subst (λ (e : ℕ). Joined a.setup.now.params a.setup.now.ln.now c.make_room-room.result c.join-self.result e a.queue.now c.join-self.new.queue c.join-self.new.window_counts) c.entry-entry.ensures c.join-self.ensures)
