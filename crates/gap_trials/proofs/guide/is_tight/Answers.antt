use Rattle.std.proofs.Common.{sym, ◌∙◌}
use Rattle.gap_trials.proofs.TightLaws.{tight_single, tight_many, no_single}
use Rattle.gap_trials.proofs.guide.is_tight.Goals as goal

pub returns-in-Some : goal.returns-in-Some
returns-in-Some c = λ t. tight_single c.args.bound.now.seed c.args.bound.now.lots c.args.part.now c.args.leaf.now c.args.shown c.in-Some.x ((c.single_within.ensures c.in-Some.x).0 c.in-Some.is) c.requires.shown (c.is_same.ensures t ∙ c.told_of.ensures) (c.is_said_well.ensures c.if-not-is_said_well.false)

pub returns-then-count_within : goal.returns-then-count_within
returns-then-count_within c = λ t. tight_many c.args.bound.now.seed c.args.bound.now.lots c.args.part.now c.args.leaf.now c.args.shown c.requires.part.valid (sym c.count_within.ensures ∙ c.if-count_within.true) (no_single c.args.part.now c.single_within.result c.single_within.ensures c.in-None.is) c.requires.shown (c.is_number.ensures t)
