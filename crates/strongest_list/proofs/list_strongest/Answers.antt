-- Each turn finds the definition's next entry, or that there is none.
use Rattle.std.proofs.Common.{ℕ, ◌+◌, ◌-◌, ◌<◌, List, [], ◌∷◌, ◌++◌, length, refl, sym, ap, ◌∙◌, subst, arith, w64, to_z-of_z, length-append}
use Rattle.intervals.specs.Interval.{interval}
use Rattle.strongest_list.specs.Stretches.{Stretch, strongest}
use Rattle.strongest_list.specs.Terms.Codes.{Shows}
use Rattle.strongest_list.specs.Terms.Best.{stretch_of}
use Rattle.strongest_list.specs.Call.{asked_of}
use Rattle.strongest_list.proofs.Shown.{shows_more}
use Rattle.strongest_list.proofs.Taking.{agrees, best_is}
use Rattle.strongest_list.proofs.Tiling.{knows_barred}
use Rattle.strongest_list.proofs.Listing.{none_yet, more, stays, lists_none, lists_more, answers_at, answers_end}
use Rattle.strongest_list.proofs.list_strongest.Goals as goal

pub loop-i-init : goal.loop-i-init
loop-i-init c = record { full = rw (none_yet (asked_of c.args.request.now)) refl; shows = rw (none_yet (asked_of c.args.request.now)) c.requires.shows; knows = c.start_tiles.ensures; listed = lists_none (asked_of c.args.request.now) _ _ }

pub returns-in-None : goal.returns-in-None
returns-in-None c =
    let A = asked_of c.args.request.now in
    let I = c.loop-i.invariant in
    let b = best_is c.args.request.now _ c.loop-i.codes I.shows (omega (arith, c.requires.searchable.kmer_low)) _ c.in-None.ensures.picks in
    answers_at A c.loop-i.i c.min-most.result _ _ _ _ c.min-most.ensures (stays A c.loop-i.i (c.min-most.result - c.loop-i.i) c.min-most.result (sym b) (omega (arith, c.loop-i-test.true))) I.full I.listed

pub loop-i-preserved : goal.loop-i-preserved
loop-i-preserved c =
    let q = c.args.request.now in
    let A = asked_of q in
    let I = c.loop-i.invariant in
    let i = c.loop-i.i in
    let some : 0 < q.kmer = omega (arith, c.requires.searchable.kmer_low) in
    let s = stretch_of c.in-Some.best in
    let b = best_is q (strongest A i) c.loop-i.codes I.shows some _ c.in-Some.ensures.picks in
    let m = more A i (i + 1) s refl (sym b) in
    let sh = shows_more A (strongest A i) s c.loop-i.codes c.bar.new.codes c.saturating_sub-from.result (s.first + s.size) I.shows c.bar.auto.codes c.saturating_sub-from.ensures refl c.bar.ensures in
    record {
      full = ap (λ (l : List Stretch). length l) m ∙ length-append (strongest A i) (s ∷ []) ∙ omega (arith, I.full);
      shows = subst (λ (l : List Stretch). Shows A l c.bar.new.codes) (sym m) sh;
      knows = knows_barred q c.loop-i.codes c.bar.new.codes c.saturating_sub-from.result (s.first + s.size) some (agrees q (strongest A i) c.loop-i.codes I.shows some)
          (agrees q (strongest A i ++ (s ∷ [])) c.bar.new.codes sh some) c.bar.auto.codes c.bar.ensures c.next_best.new.tiles c.mark.new.tiles c.in-Some.ensures.knows c.mark.ensures;
      listed = lists_more A (strongest A i) (strongest A (i + 1)) s c.args.letters.now c.loop-i.letters c.args.scores.now c.loop-i.scores i _ _ I.listed I.full
          (omega (arith, c.loop-i-test.true, c.min-most.ensures)) (omega (arith, c.loop-i-test.true, c.min-most.ensures)) m
          (ap (λ (n : ℕ). interval n (s.first + s.size)) c.saturating_sub-from.ensures)
          (to_z-of_z {w = w64} (record { sfits = c.difference.type_inv }) ∙ c.difference.ensures ∙ sym c.in-Some.ensures.picks.exact.is);
    }

pub returns : goal.returns
returns c =
    let A = asked_of c.args.request.now in
    let I = c.loop-i.invariant in
    answers_end A c.loop-i.i c.min-most.result _ _ _ _ c.min-most.ensures c.loop-i-test.false c.loop-i.auto.i-end I.full I.listed

pub start_tiles-requires-clause-agrees : goal.start_tiles-requires-clause-agrees
start_tiles-requires-clause-agrees c = agrees c.args.request.now [] c.args.codes.now c.requires.shows (omega (arith, c.requires.searchable.kmer_low))

pub next_best-requires-clause-agrees : goal.next_best-requires-clause-agrees
next_best-requires-clause-agrees c = agrees c.args.request.now _ c.loop-i.codes c.loop-i.invariant.shows (omega (arith, c.requires.searchable.kmer_low))
