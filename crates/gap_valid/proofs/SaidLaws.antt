-- An instance and its said one are the same in all that is asked of an instance.

use Rattle.std.proofs.Common.{◌≡◌, ◌≢◌, ◌↔◌, ℕ, ◌+◌, ◌*◌, ◌<◌, ◌≤◌, ◌==◌, if◌then◌else◌, List, Option, Some, None, ⊎_elim, ℤ, pos, ◌*ℤ◌, ◌≤ℤ◌, unsigned_abs, refl, sym, ap, ◌∙◌, subst, arith}
use Rattle.std.proofs.lemmas.Bool.{cases_eq}
use Rattle.std.proofs.lemmas.Bool.Decides.{nat_tests}
use Rattle.gap_base.specs.declared.job.Job.{Job}
use Rattle.gap_base.specs.Lots.{lots_at}
use Rattle.gap_base.specs.Markets.{MarketValue, IsMarket, deviation_of, rho_of}
use Rattle.gap_base.proofs.MarketLaws.{rho_of-same, rho_of-two, rho_size}
use Rattle.gap_base.proofs.Ring.{if_same, if_other}
use Rattle.gap_base.proofs.SumLaws.{sum_same}
use Rattle.gap_instance.specs.Instances.{InstanceValue, IsInstance, instance_of}
use Rattle.gap_instance.specs.Limits.{MeetsLimits}
use Rattle.gap_instance.specs.Neighbours.{HasNoBetterNeighbour}
use Rattle.gap_instance.specs.Objective.{cov_of, risk_of, return_of, objective}
use Rattle.gap_model.specs.declared.outcome.Best.{Best}
use Rattle.gap_model.specs.declared.outcome.Told.{Told}
use Rattle.gap_model.specs.declared.outcome.Outcome.{Outcome}
use Rattle.gap_model.specs.declared.outcome.Outcome.TheVariants.{Closed, NoPortfolio, Bounded}
use Rattle.gap_model.specs.Outcomes.{IsPortfolio, IsLowerBound, HasNone, IsFoundAbove, IsRight, IsToldRight}
use Rattle.gap_cert.specs.Certificates.{CertHead}
use Rattle.gap_valid.specs.Heads.{given_rho, market_in, instance_in}
use Rattle.gap_valid.proofs.HeadLaws.{table_at}
use Rattle.gap_valid.specs.Said.{said_rho, said_market, said_instance, IsSaid}
use Rattle.gap_valid.proofs.Same.{table_same, length-table, table_places, chosen_by}

-- ---- the market
pub said_rho-two : (m : MarketValue) (i j : ℕ) → i ≢ j → said_rho m i j ≡ rho_of m i j
said_rho-two m i j ne = if_other i j (pos 0) (rho_of m i j) ne

pub said_rho-same : (m : MarketValue) (i j : ℕ) → i ≡ j → said_rho m i j ≡ pos 0
said_rho-same m i j e = if_same i j (pos 0) (rho_of m i j) e

pub rho_said : (m : MarketValue) (i j : ℕ) → i < m.assets → j < m.assets → rho_of (said_market m) i j ≡ rho_of m i j
unfolding said_market
rho_said m i j p q =
    ⊎_elim
    (λ e. rho_of-same (said_market m) i j e ∙ sym (rho_of-same m i j e))
    (λ ne. rho_of-two (said_market m) i j ne ∙ table_at m.assets (said_rho m) i j p q ∙ said_rho-two m i j ne)
    (cases_eq i j)

abbrev Small : ℤ → Type 0
Small v = unsigned_abs v ≤ 1000000

pub market_said : (m : MarketValue) → IsMarket m → IsMarket (said_market m)
unfolding said_market
market_said m known = record {
  few = known.few;
  many = known.many;
  means_length = known.means_length;
  deviations_length = known.deviations_length;
  correlations_length = length-table m.assets (said_rho m);
  mean_sizes = known.mean_sizes;
  deviation_sizes = known.deviation_sizes;
  rho_sizes = λ i j. rho_size (said_market m) i j (λ ne. table_places Small m.assets (said_rho m) (λ a b. chosen_by Small a b (pos 0) (rho_of m a b) (omega arith) (known.rho_sizes a b)) (omega arith) (i * m.assets + j));
  symmetric = λ i j p q. rho_said m i j p q ∙ known.symmetric i j p q ∙ sym (rho_said m j i q p);
}

pub instance_said : (I : InstanceValue) → IsInstance I → IsInstance (said_instance I)
unfolding said_instance said_market
instance_said I known = record { market_is = market_said I.market known.market_is; limits_are = known.limits_are }

with_correlations : MarketValue → List ℤ → MarketValue
with_correlations m xs = record m { correlations = xs; rounded = 0 }

with_market : InstanceValue → MarketValue → InstanceValue
with_market I m = record I { market = m }

said_again : (m : MarketValue) → said_market m ≡ said_market (said_market m)
unfolding said_market with_correlations
said_again m =
    ap (with_correlations m) (table_same m.assets (said_rho m) (said_rho (said_market m)) (λ i j p q. ap (λ (z : ℤ). if i == j then pos 0 else z) (sym (rho_said m i j p q))))

pub said_is_said : (I : InstanceValue) → IsSaid (said_instance I)
unfolding said_instance with_market
said_is_said I = ap (with_market I) (said_again I.market)

pub said_made : (m : MarketValue) (job : Job) → instance_of (said_market m) job ≡ said_instance (instance_of m job)
unfolding said_instance
said_made m job = refl

pub made_is_said : (m : MarketValue) (job : Job) → IsSaid (instance_of (said_market m) job)
made_is_said m job = said_made m job ∙ said_is_said (instance_of m job) ∙ ap said_instance (sym (said_made m job))

given_said : (h : CertHead) (i j : ℕ) → i < h.n → j < h.n → given_rho h i j ≡ said_rho (market_in h) i j
unfolding market_in
given_said h i j p q =
    ⊎_elim
    (λ e. none i j e ∙ sym (said_rho-same (market_in h) i j e))
    (λ ne. sym (said_rho-two (market_in h) i j ne ∙ rho_of-two (market_in h) i j ne ∙ table_at h.n (given_rho h) i j p q))
    (cases_eq i j)
  where
    none : (i j : ℕ) → i ≡ j → given_rho h i j ≡ pos 0
    none i j e = grind (arith, nat_tests)

read_again : (h : CertHead) → market_in h ≡ said_market (market_in h)
unfolding said_market market_in with_correlations
read_again h = ap (with_correlations (market_in h)) (table_same h.n (given_rho h) (said_rho (market_in h)) (given_said h))

pub read_is_said : (h : CertHead) → IsSaid (instance_in h)
unfolding said_instance instance_in with_market
read_is_said h = ap (with_market (instance_in h)) (read_again h)

-- ---- risk, return and objective
pub cov_said : (m : MarketValue) (i j : ℕ) → i < m.assets → j < m.assets → cov_of (said_market m) i j ≡ cov_of m i j
unfolding cov_of said_market
cov_said m i j p q = ap (λ (r : ℤ). r *ℤ pos (deviation_of m i * deviation_of m j)) (rho_said m i j p q)

pub risk_said : (m : MarketValue) (x : List ℕ) → risk_of (said_market m) x ≡ risk_of m x
unfolding risk_of said_market
risk_said m x = sum_same m.assets _ _ (λ i p. sum_same m.assets _ _ (λ j q. ap (λ (c : ℤ). c *ℤ lots_at x i *ℤ lots_at x j) (cov_said m i j p q)))

pub return_said : (m : MarketValue) (x : List ℕ) → return_of (said_market m) x ≡ return_of m x
unfolding return_of said_market
return_said m x = refl

pub objective_said : (I : InstanceValue) (p q : ℕ) (x : List ℕ) → objective (said_instance I) p q x ≡ objective I p q x
unfolding objective said_instance
objective_said I p q x = rw (risk_said I.market x, return_said I.market x) refl

-- ---- the limits
pub meets_from_said : (I : InstanceValue) (x : List ℕ) → MeetsLimits (said_instance I) x → MeetsLimits I x
unfolding said_instance said_market
meets_from_said I x h = record {
  assets_are = h.assets_are;
  lots_are = h.lots_are;
  fewest = h.fewest;
  many = h.many;
  least_kept = h.least_kept;
  greatest_kept = h.greatest_kept;
  turnover_kept = h.turnover_kept;
}

pub meets_said : (I : InstanceValue) (x : List ℕ) → MeetsLimits I x → MeetsLimits (said_instance I) x
unfolding said_instance said_market
meets_said I x h = record {
  assets_are = h.assets_are;
  lots_are = h.lots_are;
  fewest = h.fewest;
  many = h.many;
  least_kept = h.least_kept;
  greatest_kept = h.greatest_kept;
  turnover_kept = h.turnover_kept;
}

-- ---- two instances whose lists that meet the limits are the same, with the same objectives
pub record AreAlike (I J : InstanceValue) : Type 0 where
  pub on : (x : List ℕ) → MeetsLimits I x → MeetsLimits J x
  pub back : (x : List ℕ) → MeetsLimits J x → MeetsLimits I x
  pub value : (p q : ℕ) (x : List ℕ) → objective I p q x ≡ objective J p q x

pub from_said : (I : InstanceValue) → AreAlike (said_instance I) I
from_said I = record { on = meets_from_said I; back = meets_said I; value = objective_said I }

pub to_said : (I : InstanceValue) → AreAlike I (said_instance I)
to_said I = record { on = meets_said I; back = meets_from_said I; value = λ p q x. sym (objective_said I p q x) }

portfolio_along : (I J : InstanceValue) (p q : ℕ) (best : Best) → AreAlike I J → IsPortfolio I p q best → IsPortfolio J p q best
portfolio_along I J p q best a h = record { meets = a.on best.lots h.meets; value_is = h.value_is ∙ a.value p q best.lots }

bound_along : (I J : InstanceValue) (p q : ℕ) (bound : ℤ) → AreAlike I J → IsLowerBound I p q bound → IsLowerBound J p q bound
bound_along I J p q bound a h x m = subst (λ (z : ℤ). bound ≤ℤ z) (a.value p q x) (h x (a.back x m))

none_along : (I J : InstanceValue) → AreAlike I J → HasNone I → HasNone J
none_along I J a h x m = h x (a.back x m)

found_along : (I J : InstanceValue) (p q : ℕ) (bound : ℤ) (best : Option Best) → AreAlike I J → IsFoundAbove I p q bound best → IsFoundAbove J p q bound best
found_along I J p q bound None a h = tt
found_along I J p q bound (Some best) a h = (portfolio_along I J p q best a h.0, h.1)

right_along : (I J : InstanceValue) (p q : ℕ) (outcome : Outcome) → AreAlike I J → IsRight I p q outcome → IsRight J p q outcome
right_along I J p q (Closed best) a h = (portfolio_along I J p q best a h.0, bound_along I J p q best.value a h.1)
right_along I J p q NoPortfolio a h = none_along I J a h
right_along I J p q (Bounded best bound) a h = (bound_along I J p q bound a h.0, found_along I J p q bound best a h.1)

pub told_said : (I : InstanceValue) (told : Told) → IsToldRight (said_instance I) told ↔ IsToldRight I told
told_said I told =
    (right_along (said_instance I) I told.weight.p told.weight.q told.outcome (from_said I), right_along I (said_instance I) told.weight.p told.weight.q told.outcome (to_said I))

neighbours_along : (I J : InstanceValue) (p q : ℕ) (x : List ℕ) → AreAlike I J → HasNoBetterNeighbour I p q x → HasNoBetterNeighbour J p q x
neighbours_along I J p q x a h y n m =
    subst (λ (z : ℤ). z ≤ℤ objective J p q y) (a.value p q x) (subst (λ (z : ℤ). objective I p q x ≤ℤ z) (a.value p q y) (h y n (a.back y m)))

pub neighbours_said : (I : InstanceValue) (p q : ℕ) (x : List ℕ) → HasNoBetterNeighbour (said_instance I) p q x ↔ HasNoBetterNeighbour I p q x
neighbours_said I p q x = (neighbours_along (said_instance I) I p q x (from_said I), neighbours_along I (said_instance I) p q x (to_said I))
