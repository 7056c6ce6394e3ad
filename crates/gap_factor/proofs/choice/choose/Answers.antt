use Rattle.std.proofs.Common.{sym, arith, inr}
use Rattle.gap_instance.specs.Objective.{cov_of}
use Rattle.gap_psd.specs.Shifts.{r_of, d_of, total_of}
use Rattle.gap_factor.proofs.ChoiceLaws.{least_of_plain, total_of_plain, at_most_plain, at_most_rounded, weaken, below_moved, plain_for, total_at_most}
use Rattle.gap_factor.proofs.choice.choose.Goals as goal

pub returns-then-not-round-clause-least : goal.returns-then-not-round-clause-least
returns-then-not-round-clause-least c =
    let C = cov_of c.args.inst.now.market in
    let e = c.set_plain.ensures.assets in
    least_of_plain c.set_plain.new.shift.assets C (r_of c.set_plain.new.shift) (d_of c.set_plain.new.shift) (λ a b p q. c.set_plain.ensures.zero a b (omega arith) (omega arith)) (λ k l. plain_for C c.round.new.shift.assets c.set_plain.new.shift.assets k (d_of c.set_plain.new.shift k) (sym e) (c.set_plain.ensures.plain k (omega arith)))

pub returns-then-not-round-clause-plain : goal.returns-then-not-round-clause-plain
returns-then-not-round-clause-plain c =
    let C = cov_of c.args.inst.now.market in
    let e = c.set_plain.ensures.assets in
    let total = total_of_plain c.set_plain.new.shift.assets C (d_of c.set_plain.new.shift) (λ k l. plain_for C c.round.new.shift.assets c.set_plain.new.shift.assets k (d_of c.set_plain.new.shift k) (sym e) (c.set_plain.ensures.plain k (omega arith))) in
    at_most_plain c.set_plain.new.shift.assets C (total_of c.set_plain.new.shift) (total_at_most _ _ total)

pub returns-then-not-round-clause-rounded : goal.returns-then-not-round-clause-rounded
returns-then-not-round-clause-rounded c =
    let C = cov_of c.args.inst.now.market in
    let e = c.set_plain.ensures.assets in
    let total = total_of_plain c.set_plain.new.shift.assets C (d_of c.set_plain.new.shift) (λ k l. plain_for C c.round.new.shift.assets c.set_plain.new.shift.assets k (d_of c.set_plain.new.shift k) (sym e) (c.set_plain.ensures.plain k (omega arith))) in
    weaken c.set_plain.new.shift.assets C (total_of c.set_plain.new.shift) (below_moved C c.round.new.shift.assets c.set_plain.new.shift.assets (total_of c.set_plain.new.shift) e total (c.round.ensures.refused c.if-not-round.true))

pub returns-then-not-round-clause-chosen : goal.returns-then-not-round-clause-chosen
returns-then-not-round-clause-chosen c =
    let C = cov_of c.args.inst.now.market in
    let e = c.set_plain.ensures.assets in
    let total = total_of_plain c.set_plain.new.shift.assets C (d_of c.set_plain.new.shift) (λ k l. plain_for C c.round.new.shift.assets c.set_plain.new.shift.assets k (d_of c.set_plain.new.shift k) (sym e) (c.set_plain.ensures.plain k (omega arith))) in
    inr ((λ a b p q. c.set_plain.ensures.zero a b (omega arith) (omega arith)), below_moved C c.round.new.shift.assets c.set_plain.new.shift.assets (total_of c.set_plain.new.shift) e total (c.round.ensures.refused c.if-not-round.true))

pub returns-else-not-round-clause-plain : goal.returns-else-not-round-clause-plain
returns-else-not-round-clause-plain c = at_most_plain c.round.new.shift.assets (cov_of c.args.inst.now.market) (total_of c.round.new.shift) (c.round.ensures.at_most c.if-not-round.false)

pub returns-else-not-round-clause-rounded : goal.returns-else-not-round-clause-rounded
returns-else-not-round-clause-rounded c = at_most_rounded c.round.new.shift.assets (cov_of c.args.inst.now.market) (r_of c.round.new.shift) (d_of c.round.new.shift) (c.round.ensures.rounded c.if-not-round.false) (c.round.ensures.least c.if-not-round.false)
