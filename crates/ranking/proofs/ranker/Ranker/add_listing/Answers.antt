use Rattle.ranking.proofs.Listing.{listed_is}
use Rattle.ranking.proofs.ranker.Ranker.add_listing.Goals as goal

pub returns-in-Ok : goal.returns-in-Ok
returns-in-Ok c = listed_is _ _ _ _ _ c.in-Ok.field-0 c.in-Ok.ensures
