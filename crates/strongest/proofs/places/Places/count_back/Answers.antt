-- The place is counted, and adds the ln entry of its raised count.
use Rattle.strongest.proofs.Counting.{counted}
use Rattle.strongest.proofs.places.Places.count_back.Goals as goal

pub returns-in-Some : goal.returns-in-Some
returns-in-Some c = counted _ _ _ c.requires.known c.requires.inside _ _ _ _ c.requires.place c.in-Some.ensures.counts_after c.in-Some.ensures.raised

pub returns-in-None : goal.returns-in-None
returns-in-None c = counted _ _ _ c.requires.known c.requires.inside _ _ _ _ c.requires.place c.in-None.ensures.counts_after c.in-None.ensures.raised
