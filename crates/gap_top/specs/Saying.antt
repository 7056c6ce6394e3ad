-- What is said of a weight, and when it is right. Own to portgap.
use Rattle.std.specs.Prelude.{◌≡◌, ℕ, true, Some, ◌<ℤ◌}
use Rattle.std.specs.Option.{ForSome}
use Rattle.gap_instance.specs.Instances.{InstanceValue}
use Rattle.gap_model.specs.declared.outcome.Best.{Best}
use Rattle.gap_model.specs.declared.outcome.Outcome.TheVariants.{Closed, NoPortfolio, Bounded}
use Rattle.gap_model.specs.Nodes.{splits_of}
use Rattle.gap_model.specs.Outcomes.{IsPortfolio, IsLowerBound, HasNone}
use Rattle.gap_solve.specs.Ends.{best_in, bound_in, is_bounded}
use Rattle.gap_sweep.specs.Asked.{Done}

-- what is said of a weight is right, for an instance and a budget of splits:
-- portfolio: a portfolio meets every limit and has exactly its objective;
-- bound: no list that meets the limits has an objective below the bound;
-- none: that there is none is said only where no list meets the limits;
-- closed: the objective of a closed one is its bound;
-- above: the objective of an open one is above its bound;
-- spent: it is open only after exactly the budget was split
pub record IsSaidRight (I : InstanceValue) (nodes : ℕ) (d : Done) : Type 0 where
  pub portfolio : ForSome (best_in d.solved.outcome) (IsPortfolio I d.solved.weight.p d.solved.weight.q)
  pub bound : ForSome (bound_in d.solved.outcome) (IsLowerBound I d.solved.weight.p d.solved.weight.q)
  pub none : d.solved.outcome ≡ NoPortfolio → HasNone I
  pub closed : (best : Best) → d.solved.outcome ≡ Closed best → bound_in d.solved.outcome ≡ Some best.value
  pub above : (best : Best) (bound : _) → d.solved.outcome ≡ Bounded (Some best) bound → bound <ℤ best.value
  pub spent : is_bounded d.solved.outcome ≡ true → splits_of d.solved.nodes ≡ nodes
