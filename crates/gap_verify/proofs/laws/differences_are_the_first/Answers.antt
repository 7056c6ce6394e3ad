use Rattle.std.proofs.Common.{length}
use Rattle.gap_verify.specs.Sides.{fields_of}
use Rattle.gap_verify.specs.Differences.{difference_of}
use Rattle.gap_verify.proofs.FirstLaws.{told_of, told_once, none_told}
use Rattle.gap_verify.proofs.laws.differences_are_the_first.Goals as goal

pub returns-clause-told : goal.returns-clause-told
returns-clause-told c = told_of

pub returns-clause-one : goal.returns-clause-one
returns-clause-one c = told_once

pub returns-clause-none : goal.returns-clause-none
unfolding difference_of
returns-clause-none c = λ a b. none_told a b (fields_of b.instance.market.assets (length b.weights))
