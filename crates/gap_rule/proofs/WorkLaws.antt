-- Work that can be done.
use Rattle.std.proofs.Common.{◌≡◌, ℕ, ◌<◌, ◌≤◌, ◌⊎◌, inl, inr, List, length, get_or, slice_get, All, Some, None, sym, ◌∙◌, subst, ap}
use Rattle.std.proofs.lemmas.List.Elements.{All-get_or}
use Rattle.std.proofs.lemmas.Option.{slice_get_cases}
use Rattle.gap_base.specs.Markets.{MarketValue, IsMarket}
use Rattle.gap_base.specs.declared.job.Job.{Job}
use Rattle.gap_base.specs.declared.weight.Weight.{Weight}
use Rattle.gap_valid.specs.Said.{said_market}
use Rattle.gap_valid.proofs.SaidLaws.{instance_said, said_made, made_is_said}
use Rattle.gap_instance.specs.Instances.{InstanceValue, IsInstance, AreLimits, instance_of}
use Rattle.gap_job.specs.Ranges.{IsJob, IsWeight as IsJobWeight}
use Rattle.gap_valid.specs.Valid.{IsWeight}
use Rattle.gap_rule.specs.Steps.{IsReady}
use Rattle.gap_rule.specs.Tasks.{work_of}

-- what holds of all holds of the one at a place
all_from : {X : Type 0} (P : X → Type 0) (xs : List X) (k : ℕ) (x : X) → All P xs → slice_get xs k ≡ Some x → ((y : X) × (k < length xs) × (slice_get xs k ≡ Some y) × (get_or xs k y ≡ y)) ⊎ ((length xs ≤ k) × (slice_get xs k ≡ None)) → P x
all_from P xs k x all is (inl (y, below, there, same)) =
    let e : Some y ≡ Some x = sym there ∙ is in
    let one : y ≡ x = cc in
    subst P (same ∙ one) (All-get_or P xs k y below all)
all_from P xs k x all is (inr (beyond, none)) =
    let e : None ≡ Some x = sym none ∙ is in absurd (cc)

all_at : {X : Type 0} (P : X → Type 0) (xs : List X) (k : ℕ) (x : X) → All P xs → slice_get xs k ≡ Some x → P x
all_at P xs k x all is = all_from P xs k x all is (slice_get_cases xs k).1

-- a said market has the assets of the market
pub limits_said : (m : MarketValue) (job : Job) → IsJob m.assets job → AreLimits (said_market m).assets job.lots job.held job.held_most job.least job.greatest job.present job.turnover
unfolding said_market
limits_said m job is = is.limits

same_weight : (w : Weight) → IsJobWeight w → IsWeight w
same_weight w is = record { least = is.least; most = is.most; within = is.within }

made_instance : (m : MarketValue) (job : Job) → IsMarket m → IsJob m.assets job → IsInstance (instance_of (said_market m) job)
made_instance m job market is =
    subst IsInstance (sym (said_made m job)) (instance_said (instance_of m job) (record { market_is = market; limits_are = is.limits }))

-- the work of a market and a job can be done
ready_of : (m : MarketValue) (job : Job) → IsMarket m → IsJob m.assets job → IsReady (work_of m job)
ready_of m job market is = record {
  instance_is = made_instance m job market is;
  said = made_is_said m job;
  some = is.some;
  few = is.few;
  weights = λ k weight there. same_weight weight (all_at IsJobWeight job.weights k weight is.weights there);
  most_nodes = is.most_nodes;
  least_workers = is.least_workers;
  most_workers = is.most_workers;
}

pub ready_work : (m said : MarketValue) (job : Job) (inst : InstanceValue) (rounded : ℕ) → IsMarket m → IsJob m.assets job → said ≡ said_market m → inst ≡ instance_of said job → rounded ≡ m.rounded → IsReady (record { inst = inst; rounded = rounded; weights = job.weights; nodes = job.nodes; workers = job.workers })
ready_work m said job inst rounded market is same made count =
    subst (λ (I : InstanceValue). IsReady (record { inst = I; rounded = rounded; weights = job.weights; nodes = job.nodes; workers = job.workers }))
    (sym (made ∙ ap (λ (x : MarketValue). instance_of x job) same))
    (subst (λ (n : ℕ). IsReady (record { inst = instance_of (said_market m) job; rounded = n; weights = job.weights; nodes = job.nodes; workers = job.workers })) (sym count) (ready_of m job market is))
