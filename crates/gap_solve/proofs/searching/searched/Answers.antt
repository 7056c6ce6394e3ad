use Rattle.std.proofs.Common.{ℕ, ◌<◌, List, sym, ap, ◌∙◌, subst, arith}
use Rattle.gap_instance.specs.Instances.{InstanceValue}
use Rattle.gap_instance.specs.Limits.{MeetsLimits}
use Rattle.gap_model.specs.Problems.{tangent_problem}
use Rattle.gap_tangent.specs.Seen.{setting_of}
use Rattle.gap_solve.specs.Searching.{eighths_from, offered_first, IsRootLeaf}
use Rattle.gap_solve.proofs.SolvedLaws.{first_is, run_is}
use Rattle.gap_solve.proofs.searching.searched.Goals as goal

pub point_of-requires : goal.point_of-requires
point_of-requires c = λ x e. subst (λ (I : InstanceValue). MeetsLimits I x) (sym c.instance.ensures) (c.requires.meets x e)

pub returns-clause-run : goal.returns-clause-run
returns-clause-run c =
    let s = setting_of c.args.bound in
    let b = c.in_ok-search.ensures.begins in
    let w : 0 < c.drive.new.search.workers = (let a = c.in_ok-drive.ensures.same.workers_is in let d = c.in_ok-search.ensures.workers in let l = c.requires.least_workers in omega arith) in
    run_is c.args.bound c.args.nodes c.args.found.now c.in_ok-leaf.leaf b.0 c.in_ok-search.search c.drive.new.search
    (subst (λ (y : List ℕ). IsRootLeaf s y c.in_ok-leaf.leaf) (c.point_of.ensures.value ∙ ap (λ (I : InstanceValue). eighths_from I.market.assets c.args.found.now) c.instance.ensures) c.in_ok-leaf.ensures)
    (first_is (tangent_problem s) c.as_ref.result b.0 b.1 ∙ ap (offered_first (tangent_problem s)) c.as_ref.ensures.value)
    b.2 c.in_ok-search.ensures.sound c.in_ok-search.ensures.bound c.in_ok-drive.ensures.same c.in_ok-drive.ensures.driven c.in_ok-drive.ensures.sound c.in_ok-drive.ensures.idle (c.in_ok-drive.ensures.refused 0 w)
