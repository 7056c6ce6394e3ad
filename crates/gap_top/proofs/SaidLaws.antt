-- What is said of each weight that was done is right for the market and the job.
use Rattle.std.proofs.Common.{◌≡◌, ℕ, ℤ, ◌<ℤ◌, true, Some, None, ap, subst}
use Rattle.std.specs.Option.{ForSome}
use Rattle.std.proofs.lemmas.Option.{none-some, same_Some}
use Rattle.gap_instance.specs.Instances.{InstanceValue}
use Rattle.gap_model.specs.declared.outcome.Best.{Best}
use Rattle.gap_model.specs.declared.outcome.Outcome.{Outcome}
use Rattle.gap_model.specs.declared.outcome.Outcome.TheVariants.{Closed, NoPortfolio, Bounded}
use Rattle.gap_model.specs.Nodes.{splits_of}
use Rattle.gap_model.specs.Outcomes.{IsPortfolio, IsLowerBound, HasNone, IsRight, IsToldRight}
use Rattle.gap_solve.specs.Ends.{best_in, bound_in, is_bounded}
use Rattle.gap_sweep.specs.Asked.{Done}
use Rattle.gap_top.specs.Saying.{IsSaidRight}
use Rattle.gap_top.specs.Working.{told_of}

one_some : {X : Type 0} (P : X → Type 0) (x : X) → P x → ForSome (Some x) P
one_some P x h = λ y same. subst P (same_Some x y same) h

no_some : {X : Type 0} (P : X → Type 0) → ForSome None P
no_some P = λ y same. absurd (none-some y same)

portfolio_by : (I : InstanceValue) (p q : ℕ) (o : Outcome) → IsRight I p q o → ForSome (best_in o) (IsPortfolio I p q)
portfolio_by I p q (Closed best) right = one_some (IsPortfolio I p q) best right.0
portfolio_by I p q NoPortfolio right = no_some (IsPortfolio I p q)
portfolio_by I p q (Bounded None bound) right = no_some (IsPortfolio I p q)
portfolio_by I p q (Bounded (Some best) bound) right = one_some (IsPortfolio I p q) best right.1.0

bound_by : (I : InstanceValue) (p q : ℕ) (o : Outcome) → IsRight I p q o → ForSome (bound_in o) (IsLowerBound I p q)
bound_by I p q (Closed best) right = one_some (IsLowerBound I p q) best.value right.1
bound_by I p q NoPortfolio right = no_some (IsLowerBound I p q)
bound_by I p q (Bounded best bound) right = one_some (IsLowerBound I p q) bound right.0

none_by : (I : InstanceValue) (p q : ℕ) (o : Outcome) → IsRight I p q o → o ≡ NoPortfolio → HasNone I
none_by I p q o right e = subst (IsRight I p q) e right

above_by : (I : InstanceValue) (p q : ℕ) (o : Outcome) → IsRight I p q o → (best : Best) (bound : ℤ) → o ≡ Bounded (Some best) bound → bound <ℤ best.value
above_by I p q o right best bound e = (subst (IsRight I p q) e right).1.1

-- what is told right of a weight is said right, where an open one has spent its budget
pub said_right : (I : InstanceValue) (nodes : ℕ) (d : Done) → IsToldRight I (told_of d) → (is_bounded d.solved.outcome ≡ true → splits_of d.solved.nodes ≡ nodes) → IsSaidRight I nodes d
said_right I nodes d right spent = record {
  portfolio = portfolio_by I d.solved.weight.p d.solved.weight.q d.solved.outcome right;
  bound = bound_by I d.solved.weight.p d.solved.weight.q d.solved.outcome right;
  none = none_by I d.solved.weight.p d.solved.weight.q d.solved.outcome right;
  closed = λ best e. ap bound_in e;
  above = above_by I d.solved.weight.p d.solved.weight.q d.solved.outcome right;
  spent = spent;
}
