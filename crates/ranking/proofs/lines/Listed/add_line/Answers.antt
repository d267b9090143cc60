use Rattle.strongest_list.specs.Call.{asked_of}
use Rattle.ranking.proofs.Parts.{line_is}
use Rattle.ranking.proofs.lines.Listed.add_line.Goals as goal

pub returns-clause-line : goal.returns-clause-line
returns-clause-line c =
    line_is c.args.self.now.name.now (asked_of c.args.self.now.request.now) c.args.self.now.letters.now c.args.self.now.scores.now c.args.i
    c.args.text.now.items _ _ _ _ _ _ _ _ _ c.amount_at-score.ensures c.places_of-places.ensures c.begun_in-rank.ensures c.region_at-region.ensures c.letters_in-letters.ensures
    c.in_ok-add_place.ensures c.in_ok-add_scores.ensures c.in_ok-add_within.ensures c.in_ok-add_ending.ensures.ending
