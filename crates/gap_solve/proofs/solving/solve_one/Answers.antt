use Rattle.std.proofs.Common.{◌≡◌, sym, ap, ◌∙◌, subst}
use Rattle.std.proofs.lemmas.Result.{IfOk-weaker}
use Rattle.std.specs.Option.{option_copied}
use Rattle.gap_instance.specs.Limits.{MeetsLimits}
use Rattle.gap_model.specs.Settings.{Setting, IsSetting}
use Rattle.gap_tangent.specs.Bounds.{setting_with}
use Rattle.gap_tangent.specs.Seen.{setting_of}
use Rattle.gap_solve.specs.Searching.{IsRun, IsFinish, IsFinished}
use Rattle.gap_solve.specs.Solving.{IsSolved}
use Rattle.gap_solve.proofs.SolvedLaws.{solved_is, same_weight}
use Rattle.gap_solve.proofs.solving.solve_one.Goals as goal

pub searched-requires-clause-meets : goal.searched-requires-clause-meets
searched-requires-clause-meets c = λ x e. subst (λ (s : Setting). MeetsLimits s.instance x) (sym c.new-bound.ensures.setting) (c.first_list-found.ensures.meets x e)

pub returns : goal.returns
returns c =
    let s = setting_with c.args.inst.now c.args.shift.now c.args.w in
    let b = c.in_ok-search.search.board in
    let e : setting_of c.in_ok-search.search.bound ≡ s = ap setting_of c.in_ok-search.ensures.bound ∙ c.new-bound.ensures.setting in
    let is : IsSetting s = subst IsSetting c.new-bound.ensures.setting c.new-bound.result.setting in
    let run : IsRun s c.args.nodes c.first_list-found.result b = subst (λ (z : Setting). IsRun z c.args.nodes c.first_list-found.result b) c.new-bound.ensures.setting c.in_ok-search.ensures.run in
    IfOk-weaker c.finished.result (IsFinished (setting_of c.in_ok-search.search.bound) b) (IsSolved c.args.inst.now c.args.shift.now c.args.w c.args.nodes (option_copied c.args.warm))
    (λ v h. solved_is c.args.inst.now c.args.shift.now c.args.w c.args.nodes (option_copied c.args.warm) c.first_list-found.result b v is c.requires.q_least c.first_list-found.ensures run
    (same_weight v.weight c.args.w (h.p_is ∙ ap (λ (z : Setting). z.p) e) (h.q_is ∙ ap (λ (z : Setting). z.q) e)) h.nodes_are (subst (λ (z : Setting). IsFinish z b v.outcome v.overall) e h.finish))
    c.finished.ensures
