use Rattle.std.proofs.Common.{◌≡◌, sym, subst, ℕ, ◌/◌, ◌-◌, ◌^◌, ◌<◌, arith, length, get_or}
use Rattle.floats.specs.Binary64.{zero64}
use Rattle.scans.specs.Terms.Parts.{Queued}
use Rattle.scans.specs.Terms.Run.{as_setup, entries_of}
use Rattle.scans.proofs.Walk.{queued_as}
use Rattle.search.proofs.FallShort.{Back}
use Rattle.search.proofs.NewestWalk.{nothing_told, walk_start, entry_in, entry_count, walk_next, walk_tells}
use Rattle.search.proofs.fails.newest_fall_short.Goals as goal
use Rattle.search.proofs.fails.newest_fall_short.Goals.{After-index, Start}

-- the ring has a count for each k-mer
ring : (c : Start) → Queued c.args.ring.now.queue.now c.args.ring.now.head c.args.ring.now.len (4 ^ c.args.setup.now.params.kmer)
ring c = queued_as _ (sym c.requires.counted.long) c.requires.tables_reach.queued

pub loop-i-init : goal.loop-i-init
loop-i-init c =
    let none : 0 ≡ c.args.ring.now.len - c.args.ring.now.len = omega arith in
    subst (λ (n : ℕ). Back (as_setup c.args.setup.now) (entries_of c.args.ring.now) c.args.oldest c.args.newest n zero64 c.args.scan_counts.now) none
    (walk_start c.args.setup.now.params _ _ _ c.args.setup.now.ln.now c.args.setup.now.f.now c.requires.usual (ring (goal.at.loop-i-init c).Start) c.requires.len_bound.0 _ _ c.requires.len_bound.1 c.requires.len_bound.2 _ c.requires.counted)

kmer_in : (c : After-index) → get_or c.args.ring.now.queue.now c.index.result 0 / 2 < length c.loop-i.scan_counts
kmer_in c = entry_in c.args.setup.now.params _ _ _ c.args.setup.now.ln.now c.args.setup.now.f.now c.requires.usual (ring (goal.at.After-index c).Start) c.requires.len_bound.0 _ _ c.requires.len_bound.1 c.requires.len_bound.2 _ _ _ c.loop-i.invariant c.loop-i-test.true (omega (arith, c.loop-i.auto.i)) _ c.index.ensures

pub window_value-v-requires : goal.window_value-v-requires
window_value-v-requires c = (kmer_in (goal.at.window_value-v-requires c).After-index, entry_count c.args.setup.now.params _ _ _ c.args.setup.now.ln.now c.args.setup.now.f.now c.requires.usual (ring (goal.at.window_value-v-requires c).Start) c.requires.len_bound.0 _ _ c.requires.len_bound.1 c.requires.len_bound.2 _ _ _ c.loop-i.invariant c.loop-i-test.true (omega (arith, c.loop-i.auto.i)) _ c.index.ensures _ c.requires.tables_reach.ln_long)

pub returns-then-sum-whole : goal.returns-then-sum-whole
returns-then-sum-whole c = walk_tells c.args.setup.now.params _ _ _ c.args.setup.now.ln.now c.args.setup.now.f.now c.requires.usual (ring (goal.at.returns-then-sum-whole c).Start) c.requires.len_bound.0 _ _ c.requires.len_bound.1 c.requires.len_bound.2 _ _ _ c.loop-i.invariant c.loop-i-test.true (omega (arith, c.loop-i.auto.i)) _ c.index.ensures _ c.window_value-v.ensures c.if-sum-whole.true

pub lower_entry-requires : goal.lower_entry-requires
lower_entry-requires c = kmer_in (goal.at.lower_entry-requires c).After-index

pub loop-i-preserved : goal.loop-i-preserved
loop-i-preserved c = walk_next c.args.setup.now.params _ _ _ c.args.setup.now.ln.now c.args.setup.now.f.now c.requires.usual (ring (goal.at.loop-i-preserved c).Start) c.requires.len_bound.0 _ _ c.requires.len_bound.1 c.requires.len_bound.2 _ _ _ c.loop-i.invariant c.loop-i-test.true (omega (arith, c.loop-i.auto.i)) _ c.index.ensures _ c.window_value-v.ensures _ c.lower_entry.ensures

pub returns : goal.returns
returns c = nothing_told _ _ _ _ _ _ _ c.loop-i.invariant
