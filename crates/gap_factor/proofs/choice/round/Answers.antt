use Rattle.std.proofs.Common.{◌≡◌, ℕ, ◌<ℤ◌, sym, subst, arith}
use Rattle.std.proofs.lemmas.Int.{by_lt_z}
use Rattle.gap_base.specs.Sums.{sum_below}
use Rattle.gap_instance.specs.Objective.{cov_of}
use Rattle.gap_psd.specs.Shifts.{r_of, d_of, total_of}
use Rattle.gap_factor.specs.Plain.{plain_of}
use Rattle.gap_factor.proofs.ChoiceLaws.{rounded_for, rounded_moved, all_least_moved, too_much, below_for, below_rounded}
use Rattle.gap_factor.proofs.choice.round.Goals as goal

pub returns-then-not-set_diagonal-clause-refused : goal.returns-then-not-set_diagonal-clause-refused
returns-then-not-set_diagonal-clause-refused c = λ _.
    let C = cov_of c.args.inst.now.market in
    let made = rounded_for C (r_of c.make_factor.new.shift) c.args.shift.now.assets c.make_factor.new.shift.assets (sym c.make_factor.ensures.assets) c.make_factor.ensures.rounded in
    let t = sum_below c.set_diagonal.new.shift.assets (plain_of c.set_diagonal.new.shift.assets C) in
    below_for C c.make_factor.new.shift.assets c.set_diagonal.new.shift.assets t (sym c.set_diagonal.ensures.assets) (too_much C c.make_factor.new.shift t made (c.set_diagonal.ensures.too_much c.if-not-set_diagonal.true))

pub returns-clause-rounded : goal.returns-clause-rounded
returns-clause-rounded c = λ _.
    let C = cov_of c.args.inst.now.market in
    let made = rounded_for C (r_of c.make_factor.new.shift) c.args.shift.now.assets c.make_factor.new.shift.assets (sym c.make_factor.ensures.assets) c.make_factor.ensures.rounded in
    rounded_moved C c.make_factor.new.shift c.set_diagonal.new.shift (sym c.set_diagonal.ensures.assets) (sym c.set_diagonal.ensures.factor) made

pub returns-clause-least : goal.returns-clause-least
returns-clause-least c = λ _. all_least_moved (cov_of c.args.inst.now.market) (d_of c.set_diagonal.new.shift) c.make_factor.new.shift c.set_diagonal.new.shift (sym c.set_diagonal.ensures.assets) (sym c.set_diagonal.ensures.factor) (c.set_diagonal.ensures.least c.if-not-set_diagonal.false)

pub returns-clause-refused : goal.returns-clause-refused
returns-clause-refused c = λ w.
    let C = cov_of c.args.inst.now.market in
    let made = rounded_for C (r_of c.make_factor.new.shift) c.args.shift.now.assets c.make_factor.new.shift.assets (sym c.make_factor.ensures.assets) c.make_factor.ensures.rounded in
    let rounded = rounded_moved C c.make_factor.new.shift c.set_diagonal.new.shift (sym c.set_diagonal.ensures.assets) (sym c.set_diagonal.ensures.factor) made in
    let least = all_least_moved C (d_of c.set_diagonal.new.shift) c.make_factor.new.shift c.set_diagonal.new.shift (sym c.set_diagonal.ensures.assets) (sym c.set_diagonal.ensures.factor) (c.set_diagonal.ensures.least c.if-not-set_diagonal.false) in
    let above : sum_below c.args.inst.now.market.assets (plain_of c.args.inst.now.market.assets C) <ℤ total_of c.set_diagonal.new.shift = by_lt_z (sum_below c.args.inst.now.market.assets (plain_of c.args.inst.now.market.assets C)) (total_of c.set_diagonal.new.shift) (λ h. h) (λ l. let e = c.needs_no_more.ensures.1 l in cc) in
    let same : c.args.inst.now.market.assets ≡ c.set_diagonal.new.shift.assets = let a = c.requires.same in let b = c.make_factor.ensures.assets in let d = c.set_diagonal.ensures.assets in omega arith in
    below_rounded c.set_diagonal.new.shift.assets C (r_of c.set_diagonal.new.shift) (d_of c.set_diagonal.new.shift) (sum_below c.set_diagonal.new.shift.assets (plain_of c.set_diagonal.new.shift.assets C)) rounded least (subst (λ (n : ℕ). sum_below n (plain_of n C) <ℤ total_of c.set_diagonal.new.shift) same above)
