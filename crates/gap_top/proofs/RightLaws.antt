-- What is told is right for the files.
use Rattle.std.proofs.Common.{◌≡◌, ℕ, List, [], ◌∷◌, All, Option, None, sym, subst}
use Rattle.std.proofs.lemmas.List.Elements.{All-nil, All-cons, All-weaker}
use Rattle.gap_base.specs.Markets.{MarketValue}
use Rattle.gap_base.specs.declared.job.Job.{Job}
use Rattle.gap_base.specs.declared.weight.Weight.{Weight}
use Rattle.gap_instance.specs.Instances.{InstanceValue, instance_of}
use Rattle.gap_model.specs.Outcomes.{IsToldRight, IsRight}
use Rattle.gap_psd.specs.Shifts.{ShiftValue}
use Rattle.gap_valid.specs.Said.{said_market, said_instance}
use Rattle.gap_valid.proofs.SaidLaws.{told_said, said_made}
use Rattle.gap_rule.specs.Tasks.{work_of}
use Rattle.gap_sweep.specs.Asked.{Done, IsDone, AreDone, portfolio}
use Rattle.gap_sweep.specs.Runs.{HasDone}
use Rattle.gap_sweep.specs.declared.style.Style.{Style}
use Rattle.gap_top.specs.Working.{asked_for, told_of}

one_right : (I : InstanceValue) (shift : ShiftValue) (nodes : ℕ) (warm : Option (List ℕ)) (weight : Weight) (d : Done) → IsDone I shift nodes warm weight d → IsToldRight I (told_of d)
one_right I shift nodes warm weight d done =
    subst (λ (w : Weight). IsRight I w.p w.q d.solved.outcome) (sym done.solved_is.weight_is) done.solved_is.right

right_for : (I : InstanceValue) (shift : ShiftValue) (nodes : ℕ) (warm : Option (List ℕ)) (weights : List Weight) (done : List Done) → AreDone I shift nodes warm weights done → All (λ d. IsToldRight I (told_of d)) done
right_for I shift nodes warm weights [] are = All-nil (λ d. IsToldRight I (told_of d))
right_for I shift nodes warm [] (d ∷ done) are = absurd are
right_for I shift nodes warm (weight ∷ weights) (d ∷ done) are =
    All-cons (λ x. IsToldRight I (told_of x)) d done (one_right I shift nodes warm weight d are.0) (right_for I shift nodes (portfolio d) weights done are.1)

-- what is right for the said instance is right for the instance
right_of_said : (I J : InstanceValue) (done : List Done) → I ≡ said_instance J → All (λ d. IsToldRight I (told_of d)) done → All (λ d. IsToldRight J (told_of d)) done
right_of_said I J done said all =
    All-weaker (λ d. IsToldRight I (told_of d)) (λ d. IsToldRight J (told_of d)) (λ d right. (told_said J (told_of d)).0 (subst (λ (K : InstanceValue). IsToldRight K (told_of d)) said right)) done all

pub told_right : (style : Style) (market : MarketValue) (job : Job) (shift : ShiftValue) (done : List Done) → HasDone (asked_for style (work_of market job)) shift done → All (λ d. IsToldRight (instance_of market job) (told_of d)) done
told_right style market job shift done has =
    right_of_said (instance_of (said_market market) job) (instance_of market job) done (said_made market job) (right_for (instance_of (said_market market) job) shift job.nodes None job.weights done has.right)
