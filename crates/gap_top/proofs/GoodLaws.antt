-- What is known of each weight that was done, and of all together.
use Rattle.std.proofs.Common.{◌≡◌, ℕ, zero, suc, ◌+◌, ◌<◌, ◌≤◌, ℤ, List, [], ◌∷◌, ◌++◌, length, map, slice_get, All, Option, Some, None, IsSome, refl, sym, ap, ◌∙◌, subst, arith}
use Rattle.std.specs.Option.{ForSome}
use Rattle.std.proofs.lemmas.List.Elements.{All-nil, All-cons, All-head, All-tail}
use Rattle.std.proofs.lemmas.Option.{none-some, same_Some}
use Rattle.gap_base.specs.declared.job.Job.{Job}
use Rattle.gap_base.specs.declared.weight.Weight.{Weight}
use Rattle.gap_base.specs.Markets.{MarketValue}
use Rattle.gap_cert.specs.Certificates.{CertClaim, claim_of}
use Rattle.gap_valid.specs.Said.{said_market}
use Rattle.gap_valid.proofs.SaidLaws.{said_made, told_said, neighbours_said, meets_said}
use Rattle.gap_valid.proofs.OrderLaws.{orders_said}
use Rattle.gap_instance.specs.Instances.{InstanceValue, IsInstance, instance_of}
use Rattle.gap_instance.specs.Limits.{MeetsLimits}
use Rattle.gap_instance.specs.Neighbours.{HasNoBetterNeighbour}
use Rattle.gap_instance.specs.Objective.{objective}
use Rattle.gap_instance.specs.Orders.{SomeOrderGives}
use Rattle.gap_model.specs.declared.outcome.Best.{Best}
use Rattle.gap_model.specs.declared.outcome.Outcome.{Outcome}
use Rattle.gap_model.specs.declared.outcome.Outcome.TheVariants.{Closed, NoPortfolio, Bounded}
use Rattle.gap_model.specs.Outcomes.{IsRight, IsToldRight}
use Rattle.gap_psd.specs.Shifts.{ShiftValue}
use Rattle.gap_search.specs.Boards.{BestAtMost}
use Rattle.gap_solve.proofs.TreeLaws.{cert_splits_of, splits_counted}
use Rattle.gap_solve.specs.Ends.{best_in, bound_in, eighths_in, HasFloor}
use Rattle.gap_solve.specs.Solving.{IsSolved}
use Rattle.gap_solved.specs.Solveds.{IsSectionOf}
use Rattle.gap_sweep.specs.Asked.{Done, lots_of, portfolio, IsDone, AreDone}
use Rattle.gap_sweep.specs.Texts.{front_rows}
use Rattle.gap_sweep.proofs.FrontLaws.{monotone}
use Rattle.gap_sweep.proofs.RowLaws.{ranks_rows}
use Rattle.gap_tangent.specs.Bounds.{setting_with}
use Rattle.gap_valid.specs.CertTrees.{cert_splits}
use Rattle.gap_valid.specs.Valid.{IsWeight}
use Rattle.gap_valid.specs.Verdicts.{outcome_in, told_in}
use Rattle.gap_top.specs.Holding.{IsSectionOfDone}
use Rattle.gap_top.specs.Quality.{IsOwedRight, IsGood, HasLess, IsFrontier}
use Rattle.gap_top.specs.Reporting.{AreInOrder}
use Rattle.gap_top.specs.Saying.{IsSaidRight}
use Rattle.gap_top.specs.Working.{told_of}
use Rattle.gap_top.proofs.PlainLaws.{plain_gives, plain_said}
use Rattle.gap_top.proofs.SaidLaws.{said_right}

-- what holds of each weight that was done as it should be holds of all
pub all_done : (P : Done → Type 0) (I : InstanceValue) (shift : ShiftValue) (nodes : ℕ) (warm : Option (List ℕ)) (weights : List Weight) (done : List Done)
    → ((before : Option (List ℕ)) (weight : Weight) (d : Done) → IsDone I shift nodes before weight d → P d) → AreDone I shift nodes warm weights done → All P done
all_done P I shift nodes warm weights [] each right = All-nil P
all_done P I shift nodes warm [] (d ∷ done) each right = absurd right
all_done P I shift nodes warm (weight ∷ weights) (d ∷ done) each right =
    All-cons P d done (each warm weight d right.0) (all_done P I shift nodes (portfolio d) weights done each right.1)

-- a weight that was done was solved under its own weight
own_solved : (I : InstanceValue) (shift : ShiftValue) (nodes : ℕ) (warm : Option (List ℕ)) (weight : Weight) (d : Done) → IsDone I shift nodes warm weight d
    → IsSolved I shift d.solved.weight nodes warm d.solved
own_solved I shift nodes warm weight d done = subst (λ (w : Weight). IsSolved I shift w nodes warm d.solved) (sym done.solved_is.weight_is) done.solved_is

-- ---- what is said is right

pub one_told : (m : MarketValue) (job : Job) (shift : ShiftValue) (warm : Option (List ℕ)) (weight : Weight) (d : Done) → IsDone (instance_of (said_market m) job) shift job.nodes warm weight d
    → IsToldRight (instance_of m job) (told_of d)
one_told m job shift warm weight d done =
    let solved = own_solved (instance_of (said_market m) job) shift job.nodes warm weight d done in
    (told_said (instance_of m job) (told_of d)).0 (subst (λ (K : InstanceValue). IsToldRight K (told_of d)) (said_made m job) solved.right)

pub one_said : (m : MarketValue) (job : Job) (shift : ShiftValue) (warm : Option (List ℕ)) (weight : Weight) (d : Done) → IsDone (instance_of (said_market m) job) shift job.nodes warm weight d
    → IsSaidRight (instance_of m job) job.nodes d
one_said m job shift warm weight d done =
    said_right (instance_of m job) job.nodes d (one_told m job shift warm weight d done) done.solved_is.spent

-- ---- the sections

outcome_back : (o : Outcome) (overall : _) → outcome_in (claim_of o overall) ≡ o
outcome_back (Closed best) overall = refl
outcome_back NoPortfolio overall = refl
outcome_back (Bounded None bound) overall = refl
outcome_back (Bounded (Some best) bound) overall = refl

told_back : (n : ℕ) (d : Done) → IsSectionOf n d.solved d.section → told_in d.section ≡ told_of d
told_back n d is =
    ap (λ (w : Weight). record { weight = w; outcome = outcome_in d.section.claim }) is.weight_is
    ∙ ap (λ (c : CertClaim). record { weight = d.solved.weight; outcome = outcome_in c }) is.claim_is
    ∙ ap (λ (o : Outcome). record { weight = d.solved.weight; outcome = o }) (outcome_back d.solved.outcome d.solved.overall)

pub one_section : (I : InstanceValue) (shift : ShiftValue) (nodes : ℕ) (warm : Option (List ℕ)) (weight : Weight) (d : Done) → IsDone I shift nodes warm weight d
    → IsSectionOfDone (setting_with I shift d.solved.weight) d
one_section I shift nodes warm weight d done =
    let solved = own_solved I shift nodes warm weight d done in
    let is = done.section_is in
    record {
      tells = told_back I.market.assets d is;
      splits = ap cert_splits is.tree_is ∙ cert_splits_of I.market.assets is.tree ∙ splits_counted d.solved.nodes solved.ended.searched.tree_is is.tree is.stands;
      shown = λ best bound e. solved.shown best bound d.section e is;
    }

-- ---- how good each is

one_owed : (m : MarketValue) (job : Job) (shift : ShiftValue) (nodes : ℕ) (warm : Option (List ℕ)) (weight : Weight) (d : Done) → IsInstance (instance_of (said_market m) job) → IsDone (instance_of (said_market m) job) shift nodes warm weight d
    → IsOwedRight (instance_of m job) (setting_with (instance_of (said_market m) job) shift d.solved.weight) nodes d
one_owed m job shift nodes warm weight d known done =
    let I : InstanceValue = instance_of m job in
    let solved = own_solved (instance_of (said_market m) job) shift nodes warm weight d done in
    let p : ℕ = d.solved.weight.p in
    let q : ℕ = d.solved.weight.q in
    record {
      ordered = λ gives. solved.owed.ordered (subst (λ (K : InstanceValue). SomeOrderGives K p q) (sym (said_made m job)) ((orders_said I p q).1 gives));
      plain = λ plain. solved.owed.ordered (plain_gives (instance_of (said_market m) job) p q known (plain_said m job plain));
      uncounted = solved.owed.uncounted;
      voids = solved.owed.voids;
      enough = solved.owed.enough;
      single = λ none n leaf x at one meets. solved.owed.single none n leaf x at one (subst (λ (K : InstanceValue). MeetsLimits K x) (sym (said_made m job)) (meets_said I x meets));
    }

floor_said : (m : MarketValue) (job : Job) (shift : ShiftValue) (d : Done)
    → ForSome (bound_in d.solved.outcome) (HasFloor (setting_with (instance_of (said_market m) job) shift d.solved.weight) (eighths_in (instance_of (said_market m) job).market.assets (best_in d.solved.outcome)))
    → ForSome (bound_in d.solved.outcome) (HasFloor (setting_with (instance_of (said_market m) job) shift d.solved.weight) (eighths_in m.assets (best_in d.solved.outcome)))
unfolding said_market
floor_said m job shift d floor = floor

pub one_good : (m : MarketValue) (job : Job) (shift : ShiftValue) (nodes : ℕ) (warm : Option (List ℕ)) (weight : Weight) (d : Done) → IsInstance (instance_of (said_market m) job) → IsDone (instance_of (said_market m) job) shift nodes warm weight d
    → IsGood (instance_of m job) (setting_with (instance_of (said_market m) job) shift d.solved.weight) nodes d
one_good m job shift nodes warm weight d known done =
    let I : InstanceValue = instance_of m job in
    let solved = own_solved (instance_of (said_market m) job) shift nodes warm weight d done in
    let p : ℕ = d.solved.weight.p in
    let q : ℕ = d.solved.weight.q in
    record {
      owed = one_owed m job shift nodes warm weight d known done;
      neighbour = λ best is. (neighbours_said I p q best.lots).0 (subst (λ (K : InstanceValue). HasNoBetterNeighbour K p q best.lots) (said_made m job) (solved.owed.neighbour best is));
      floor = floor_said m job shift d solved.floor;
      cuts = solved.grown.cuts;
      own = solved.grown.own;
    }

-- ---- their order

pub record AreFirst (weights : List Weight) (done : List Done) : Type 0 where
  pub rest : List Weight
  pub first : weights ≡ map (λ (d : Done). d.solved.weight) done ++ rest
  pub count : length weights ≡ length done + length rest

pub are_first : (I : InstanceValue) (shift : ShiftValue) (nodes : ℕ) (warm : Option (List ℕ)) (weights : List Weight) (done : List Done) → AreDone I shift nodes warm weights done → AreFirst weights done
are_first I shift nodes warm weights [] right = record { rest = weights; first = refl; count = omega arith }
are_first I shift nodes warm [] (d ∷ done) right = absurd right
are_first I shift nodes warm (weight ∷ weights) (d ∷ done) right =
    let more = are_first I shift nodes (portfolio d) weights done right.1 in
    record {
      rest = more.rest;
      first = ap (λ (w : Weight). w ∷ weights) (sym right.0.solved_is.weight_is) ∙ ap (λ (ws : List Weight). d.solved.weight ∷ ws) more.first;
      count = let c = more.count in omega arith;
    }

none_rest : {X : Type 0} (rest : List X) → length rest ≡ 0 → rest ≡ []
none_rest [] e = refl
none_rest (x ∷ rest) e = absurd (omega arith)

pub in_order : (I : InstanceValue) (shift : ShiftValue) (nodes : ℕ) (weights : List Weight) (done : List Done) (status : ℕ) → AreDone I shift nodes None weights done
    → (status ≡ 0 → length done ≡ length weights) → AreInOrder weights done status
in_order I shift nodes weights done status right all =
    let f = are_first I shift nodes None weights done right in
    record { rest = f.rest; first = f.first; all = λ zero. none_rest f.rest (let a = all zero in let c = f.count in omega arith) }

-- ---- all together

at_place : {X : Type 0} (P : X → Type 0) (xs : List X) (k : ℕ) (x : X) → All P xs → slice_get xs k ≡ Some x → P x
at_place P [] k x all is = absurd (none-some x is)
at_place P (y ∷ xs) zero x all is = subst P (same_Some y x is) (All-head P y xs all)
at_place P (y ∷ xs) (suc k) x all is = at_place P xs k x (All-tail P y xs all) is

-- what is known of a closed weight
pub record IsKnown (I : InstanceValue) (d : Done) : Type 0 where
  pub weight_is : IsWeight d.solved.weight
  pub right : IsToldRight I (told_of d)

less_of_two : (I : InstanceValue) (first second : Done) → 1 ≤ I.lots → IsKnown I first → IsKnown I second → HasLess I first second
less_of_two I first second some a b = λ x y x_is y_is less.
    monotone I first.solved.weight.p first.solved.weight.q second.solved.weight.p second.solved.weight.q x y some a.weight_is.within b.weight_is.within less
    (subst (IsRight I first.solved.weight.p first.solved.weight.q) x_is a.right) (subst (IsRight I second.solved.weight.p second.solved.weight.q) y_is b.right)

at_most_some : (best : Option Best) (v : ℤ) → BestAtMost best v → IsSome best
at_most_some None v h = absurd h
at_most_some (Some best) v h = refl

some_lots : (best : Option Best) → IsSome best → IsSome (lots_of best)
some_lots None some = absurd (cc)
some_lots (Some best) some = refl

warm_some : (I : InstanceValue) (p q : ℕ) (warm : Option (List ℕ)) (best : Option Best) → ForSome warm (λ x. BestAtMost best (objective I p q x)) → IsSome warm → IsSome best
warm_some I p q None best at_most some = absurd (cc)
warm_some I p q (Some x) best at_most some = at_most_some best (objective I p q x) (at_most x refl)

has_portfolio : (I : InstanceValue) (shift : ShiftValue) (nodes : ℕ) (warm : Option (List ℕ)) (weight : Weight) (d : Done) → IsDone I shift nodes warm weight d → IsSome warm → IsSome (best_in d.solved.outcome)
has_portfolio I shift nodes warm weight d done some = warm_some I weight.p weight.q warm (best_in d.solved.outcome) done.solved_is.owed.warm_is some

-- behind a list there is a portfolio for each weight
kept_on : (I : InstanceValue) (shift : ShiftValue) (nodes : ℕ) (warm : Option (List ℕ)) (weights : List Weight) (done : List Done) (l : ℕ) (d : Done) → AreDone I shift nodes warm weights done → IsSome warm
    → slice_get done l ≡ Some d → IsSome (best_in d.solved.outcome)
kept_on I shift nodes warm weights [] l d right some is = absurd (none-some d is)
kept_on I shift nodes warm [] (e ∷ done) l d right some is = absurd right
kept_on I shift nodes warm (weight ∷ weights) (e ∷ done) zero d right some is =
    subst (λ (x : Done). IsSome (best_in x.solved.outcome)) (same_Some e d is) (has_portfolio I shift nodes warm weight e right.0 some)
kept_on I shift nodes warm (weight ∷ weights) (e ∷ done) (suc l) d right some is =
    kept_on I shift nodes (portfolio e) weights done l d right.1 (some_lots (best_in e.solved.outcome) (has_portfolio I shift nodes warm weight e right.0 some)) is

kept_behind : (I : InstanceValue) (shift : ShiftValue) (nodes : ℕ) (warm : Option (List ℕ)) (weights : List Weight) (done : List Done) (k l : ℕ) (first second : Done) → AreDone I shift nodes warm weights done
    → slice_get done k ≡ Some first → slice_get done l ≡ Some second → k < l → IsSome (best_in first.solved.outcome) → IsSome (best_in second.solved.outcome)
kept_behind I shift nodes warm weights [] k l first second right is next less some = absurd (none-some first is)
kept_behind I shift nodes warm [] (e ∷ done) k l first second right is next less some = absurd right
kept_behind I shift nodes warm (weight ∷ weights) (e ∷ done) k zero first second right is next less some = absurd (omega arith)
kept_behind I shift nodes warm (weight ∷ weights) (e ∷ done) zero (suc l) first second right is next less some =
    let same : e ≡ first = same_Some e first is in
    kept_on I shift nodes (portfolio e) weights done l second right.1
    (some_lots (best_in e.solved.outcome) (subst (λ (x : Done). IsSome (best_in x.solved.outcome)) (sym same) some)) next
kept_behind I shift nodes warm (weight ∷ weights) (e ∷ done) (suc k) (suc l) first second right is next less some =
    kept_behind I shift nodes (portfolio e) weights done k l first second right.1 is next (omega arith) some

-- the weights of a run together
pub frontier : (m : MarketValue) (job : Job) (shift : ShiftValue) (nodes : ℕ) (weights : List Weight) (done : List Done) → 1 ≤ job.lots → All (IsKnown (instance_of m job)) done
    → AreDone (instance_of (said_market m) job) shift nodes None weights done → IsFrontier (instance_of m job) done
frontier m job shift nodes weights done some known right = record {
  falls = λ k l first second is next.
      less_of_two (instance_of m job) first second some (at_place (IsKnown (instance_of m job)) done k first known is) (at_place (IsKnown (instance_of m job)) done l second known next);
  kept = λ k l first second is next. kept_behind (instance_of (said_market m) job) shift nodes None weights done k l first second right is next;
  ranked = ranks_rows (front_rows (instance_of m job) done);
}
