use Rattle.gap_search.proofs.KeptLaws.{kept_offer_at}
use Rattle.gap_search.proofs.search.Search.offer.Goals as goal

pub invariant_of-self : goal.invariant_of-self
invariant_of-self g c = kept_offer_at _ _ _ _ _ _ c.self.invariant c.args.x.now c.offer_to.new.best c.offer_to.ensures.best

pub returns-clause-sound : goal.returns-clause-sound
returns-clause-sound g c = rw (← c.self.view_is) (invariant_of-self g c).sound
