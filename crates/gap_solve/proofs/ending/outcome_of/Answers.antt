use Rattle.std.proofs.Common.{◌≡◌, ℤ, rules, sym, ◌∙◌, subst}
use Rattle.std.proofs.lemmas.Result.{IfOk-weaker}
use mir.Syntax.{w128}
use mir.Val.{to_z, of_z}
use Rattle.gap_model.specs.declared.outcome.Outcome.{Outcome}
use Rattle.gap_model.specs.declared.outcome.Outcome.TheVariants.{Bounded}
use Rattle.gap_model.specs.Problems.{tangent_problem}
use Rattle.gap_model.specs.Outcomes.{IsPortfolio}
use Rattle.gap_search.specs.Steps.{End}
use Rattle.gap_tangent.specs.declared.mean_variance.MeanVariance.{MeanVariance}
use Rattle.gap_tangent.specs.Seen.{setting_of}
use Rattle.gap_solve.specs.Searching.{IsBoundedEnd, IsFinish}
use Rattle.gap_solve.proofs.EndLaws.{found_is, bounded_best, bounded_finish}
use Rattle.gap_solve.proofs.ending.outcome_of.Goals as goal

pub bounded_end-requires : goal.bounded_end-requires
bounded_end-requires c = λ x e.
    let s = setting_of c.args.search.now.bound in
    let end : End (tangent_problem s) c.args.search.now.board (Bounded c.in-Bounded.best c.in-Bounded.bound) = subst (λ (o : Outcome). End (tangent_problem s) c.args.search.now.board o) c.in-Bounded.is c.end.ensures in
    subst (λ (m : MeanVariance). IsPortfolio (setting_of m).instance (setting_of m).p (setting_of m).q x) (sym c.bound.ensures)
    (found_is s c.args.search.now.board x c.inner-inner.ensures.sound (sym (bounded_best s c.args.search.now.board c.in-Bounded.best c.in-Bounded.bound end) ∙ e))

pub returns-in-Bounded : goal.returns-in-Bounded
returns-in-Bounded c =
    let s = setting_of c.args.search.now.bound in
    let end : End (tangent_problem s) c.args.search.now.board (Bounded c.in-Bounded.best c.in-Bounded.bound) = subst (λ (o : Outcome). End (tangent_problem s) c.args.search.now.board o) c.in-Bounded.is c.end.ensures in
    let v : to_z w128 (of_z w128 c.in-Bounded.bound) ≡ c.in-Bounded.bound = search rules in
    IfOk-weaker c.bounded_end.result (λ r. IsBoundedEnd (setting_of c.bound.result.now) c.in-Bounded.best (to_z w128 (of_z w128 c.in-Bounded.bound)) r.0 r.1) (λ r. IsFinish s c.args.search.now.board r.0 r.1)
    (λ r h. bounded_finish s c.args.search.now.board c.in-Bounded.best c.in-Bounded.bound r.0 r.1 end
    (subst (λ (m : MeanVariance). IsBoundedEnd (setting_of m) c.in-Bounded.best c.in-Bounded.bound r.0 r.1) c.bound.ensures (subst (λ (z : ℤ). IsBoundedEnd (setting_of c.bound.result.now) c.in-Bounded.best z r.0 r.1) v h)))
    c.bounded_end.ensures
