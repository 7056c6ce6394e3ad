use Rattle.std.proofs.Common.{◌≡◌, ℤ, Option, rules, sym, subst}
use Rattle.std.proofs.lemmas.Result.{IfOk-weaker}
use mir.Syntax.{w128}
use mir.Val.{to_z, of_z}
use Rattle.gap_model.specs.declared.outcome.Best.{Best}
use Rattle.gap_tangent.specs.Seen.{setting_of}
use Rattle.gap_solve.specs.Searching.{IsOpenEnd, IsBoundedEnd}
use Rattle.gap_solve.proofs.ending.bounded_end.Goals as goal

pub returns-in-Some : goal.returns-in-Some
returns-in-Some c =
    let s = setting_of c.args.bound.now in
    let v : to_z w128 (of_z w128 c.args.least) ≡ c.args.least = search rules in
    IfOk-weaker c.open_end.result (λ r. IsOpenEnd s c.polished-better.result (to_z w128 (of_z w128 c.args.least)) r.0 r.1) (λ r. IsBoundedEnd s c.args.found c.args.least r.0 r.1)
    (λ r h. subst (λ (o : Option Best). IsBoundedEnd s o c.args.least r.0 r.1) (sym c.in-Some.is) (c.polished-better.result, c.polished-better.ensures, subst (λ (z : ℤ). IsOpenEnd s c.polished-better.result z r.0 r.1) v h))
    c.open_end.ensures
