use Rattle.std.proofs.Common.{ℕ, List, sym, ap, ◌∙◌, subst}
use Rattle.std.specs.Option.{option_copied}
use Rattle.gap_instance.specs.Instances.{AreBetween}
use Rattle.gap_judge.specs.Stops.{lots_or_none}
use Rattle.gap_judge.proofs.JudgeLaws.{lots_there, lots_between}
use Rattle.gap_judge.proofs.items.objective_of.Goals as goal

pub unwrap-requires : goal.unwrap-requires
unwrap-requires c = c.as_ref.ensures.variant ∙ lots_there c.args.head.now c.args.course.now.lots c.requires.basis.head_is c.requires.meets

pub value-requires : goal.value-requires
value-requires c =
    let e = ap lots_or_none (sym c.as_ref.ensures.value ∙ ap option_copied c.unwrap.ensures) in
    let b = lots_between c.args.head.now c.args.basis.now.instance c.args.basis.now.shift c.args.basis.now.root (lots_or_none c.args.course.now.lots) c.requires.basis c.requires.meets in
    subst (λ (x : List ℕ). AreBetween c.args.basis.now.instance.market.assets 0 10000 x) e b
