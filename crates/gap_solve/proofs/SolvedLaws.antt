-- A weight whose search was driven to its end is solved.

use Rattle.std.proofs.Common.{◌≡◌, ℕ, ◌≤◌, List, true, Option, Some, None, refl, sym, ap, ◌∙◌, subst, MatchOption, Bor}
use Rattle.gap_base.specs.declared.weight.Weight.{Weight}
use Rattle.gap_instance.specs.Instances.{InstanceValue}
use Rattle.gap_psd.specs.Shifts.{ShiftValue}
use Rattle.gap_model.specs.declared.outcome.Best.{Best}
use Rattle.gap_model.specs.declared.outcome.Outcome.{Outcome}
use Rattle.gap_model.specs.declared.outcome.Outcome.TheVariants.{Closed, NoPortfolio, Bounded}
use Rattle.gap_model.specs.Settings.{Setting, IsSetting}
use Rattle.gap_model.specs.Nodes.{Node, splits_of}
use Rattle.std.specs.Option.{option_copied}
use Rattle.gap_model.specs.declared.leaf.Leaf.{Leaf}
use Rattle.gap_model.specs.Problems.{Problem, tangent_problem}
use Rattle.gap_search.specs.Boards.{Board, State, tickets, IsSound}
use Rattle.gap_search.specs.Steps.{Begins, Refusal, offered}
use Rattle.gap_search.specs.Driven.{IsDriven, IsSame}
use Rattle.gap_tangent.specs.declared.mean_variance.MeanVariance.{MeanVariance}
use Rattle.gap_tangent.specs.Seen.{setting_of}
use Rattle.gap_tangent.specs.Bounds.{setting_with}
use Rattle.gap_solved.specs.Solveds.{SolvedValue}
use Rattle.gap_base.specs.declared.witness.Witness.{Witness}
use Rattle.gap_solve.specs.Ended.{IsTold, HasEnded}
use Rattle.gap_solve.proofs.EndedLaws.{valid_where, shown_just}
use Rattle.gap_solve.specs.Ends.{is_bounded}
use Rattle.gap_solve.specs.Searching.{IsFirst, eighths_from, allowed, fitting, offered_first, IsRootLeaf, IsRun, IsFinish}
use Rattle.gap_solve.specs.Solving.{IsSolved}
use Rattle.gap_solve.proofs.EndLaws.{searched, finish_told, finish_given, told_right}
use Rattle.gap_solve.proofs.OwedLaws.{grown, owed, has_floor}

told_spent : (s : Setting) (nodes : ℕ) (tree : List Node) (overall : Option Witness) (outcome : Outcome) → IsTold s nodes tree overall outcome → is_bounded outcome ≡ true → splits_of tree ≡ nodes
told_spent s nodes tree overall (Closed best) t e = absurd cc
told_spent s nodes tree overall NoPortfolio t e = absurd cc
told_spent s nodes tree overall (Bounded best bound) (a, b, c, d) e = d

module _ (I : InstanceValue) (shift : ShiftValue) (w : Weight) (nodes : ℕ) (warm found : Option (List ℕ)) (b : Board) (outcome : Outcome) (overall : Option Witness) where
  abbrev S : Setting
  S = setting_with I shift w

  made : SolvedValue
  made = record { weight = w; outcome = outcome; overall = overall; nodes = b.nodes }

  ended : IsSetting S → 1 ≤ w.q → IsRun S nodes found b → IsFinish S b outcome overall → HasEnded S nodes made
  unfolding made
  ended is q r f = record {
    p_is = refl;
    q_is = refl;
    q_least = q;
    q_most = is.q_most;
    p_most = is.p_most;
    searched = searched S is nodes b r.sound r.budget r.idle r.refused;
    overall_is = finish_given S is nodes b r.sound r.budget r.idle r.refused outcome overall f;
    told = finish_told S is nodes b r.sound r.budget r.idle r.refused outcome overall f;
  }

  solved : IsSetting S → 1 ≤ w.q → IsFirst I w.p w.q warm found → IsRun S nodes found b → IsFinish S b outcome overall → IsSolved I shift w nodes warm made
  unfolding made
  solved is q first r f =
      let e = ended is q r f in
      let right = told_right S is nodes b r.sound r.budget r.idle r.refused outcome overall e.overall_is e.told in
      record {
        right = right;
        spent = λ o. told_spent S nodes b.nodes overall outcome e.told o;
        floor = has_floor S is nodes found b r outcome overall first.meets f right;
        owed = owed S is nodes found b r warm outcome overall first f right;
        weight_is = refl;
        ended = e;
        grown = grown S is nodes found b r;
        valid = λ section i. valid_where S nodes (record { weight = w; outcome = outcome; overall = overall; nodes = b.nodes }) section e i;
        shown = λ best bound section o i. shown_just S nodes (record { weight = w; outcome = outcome; overall = overall; nodes = b.nodes }) section best bound e i o;
      }

-- the same of any value with these parts
make : Weight → Outcome → Option Witness → List Node → SolvedValue
make w o v n = record { weight = w; outcome = o; overall = v; nodes = n }

pub solved_is : (I : InstanceValue) (shift : ShiftValue) (w : Weight) (nodes : ℕ) (warm found : Option (List ℕ)) (b : Board) (value : SolvedValue) → IsSetting (setting_with I shift w) → 1 ≤ w.q → IsFirst I w.p w.q warm found → IsRun (setting_with I shift w) nodes found b → value.weight ≡ w → value.nodes ≡ b.nodes → IsFinish (setting_with I shift w) b value.outcome value.overall → IsSolved I shift w nodes warm value
unfolding made make
solved_is I shift w nodes warm found b value is q first r e n f =
    let t : make w value.outcome value.overall b.nodes ≡ value = ap (λ (z : Weight). make z value.outcome value.overall b.nodes) (sym e) ∙ ap (λ (z : List Node). make value.weight value.outcome value.overall z) (sym n) in
    subst (IsSolved I shift w nodes warm) t (solved I shift w nodes warm found b value.outcome value.overall is q first r f)

-- ---- the run of a search
pub first_is : (p : Problem) (o : Option (Bor (List ℕ))) (f : Option Best) → MatchOption o (f ≡ None) (λ x. f ≡ offered p None x.now) → f ≡ offered_first p (option_copied o)
first_is p None f h = h
first_is p (Some x) f h = h

pub run_is : (m : MeanVariance) (nodes : ℕ) (found : Option (List ℕ)) (leaf : Leaf) (first : Option Best) (old new : State MeanVariance) → IsRootLeaf (setting_of m) (eighths_from (setting_of m).instance.market.assets found) leaf → first ≡ offered_first (tangent_problem (setting_of m)) found → Begins (tangent_problem (setting_of m)) leaf first nodes old.board → IsSound (tangent_problem (setting_of m)) old.board → old.bound ≡ m → IsSame old new → IsDriven (tangent_problem (setting_of old.bound)) (allowed (setting_of old.bound)) (fitting (setting_of old.bound)) old.board new.board → IsSound (tangent_problem (setting_of old.bound)) new.board → tickets new.board.held ≡ 0 → Refusal (tangent_problem (setting_of new.bound)) new.board 0 → IsRun (setting_of m) nodes found new.board
run_is m nodes found leaf first old new l f b s e same d t i r = record {
  leaf = leaf;
  leaf_is = l;
  begun = old.board;
  begins = subst (λ (z : Option Best). Begins (tangent_problem (setting_of m)) leaf z nodes old.board) f b;
  begun_sound = s;
  driven = subst (λ (z : MeanVariance). IsDriven (tangent_problem (setting_of z)) (allowed (setting_of z)) (fitting (setting_of z)) old.board new.board) e d;
  sound = subst (λ (z : MeanVariance). IsSound (tangent_problem (setting_of z)) new.board) e t;
  budget = same.budget_is ∙ b.budget_is;
  idle = i;
  refused = subst (λ (z : MeanVariance). Refusal (tangent_problem (setting_of z)) new.board 0) (same.bound_is ∙ e) r;
}

abbrev weight_of : ℕ → ℕ → Weight
weight_of p q = record { p = p; q = q }

same_parts : (a b c d : ℕ) → a ≡ b → c ≡ d → weight_of a c ≡ weight_of b d
same_parts a b c d e f = cc

pub same_weight : (v w : Weight) → v.p ≡ w.p → v.q ≡ w.q → v ≡ w
same_weight v w e f = same_parts v.p w.p v.q w.q e f
