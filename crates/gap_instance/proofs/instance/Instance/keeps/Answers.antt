use Rattle.gap_instance.specs.Limits.{TurnsTooMuch}
use Rattle.gap_instance.proofs.LimitLaws.{turned_not_kept}
use Rattle.gap_instance.proofs.instance.Instance.keeps.Goals as goal

pub returns-then-turns_too_much-clause-kept : goal.returns-then-turns_too_much-clause-kept
returns-then-turns_too_much-clause-kept c =
    let turns : TurnsTooMuch c.args.self.now c.args.x.now = c.turns_too_much.ensures.0 c.if-turns_too_much.true in
    (λ e. cc, λ k. absurd (turned_not_kept c.args.self.now c.args.x.now turns k))
