use Rattle.std.specs.Int.{w128}
use Rattle.std.proofs.lemmas.Int.{to_z-of_z}
use Rattle.gap_lines.proofs.Sizes.{climb_fits, climb_back, on_fits, value_fits, height_back, height_small}
use Rattle.gap_lines.proofs.heights.height_at.Goals as goal

pub overflow_mul-result : goal.overflow_mul-result
overflow_mul-result c = climb_fits c.args.line.now c.args.b c.ranges.b c.requires

pub overflow_add-result : goal.overflow_add-result
overflow_add-result c = let l = c.args.line.now in rw (climb_back l c.args.b c.ranges.b c.requires, to_z-of_z w128 l.value (value_fits l)) (on_fits l c.args.b c.requires)

pub returns-clause-value : goal.returns-clause-value
returns-clause-value c = height_back c.args.line.now c.args.b c.ranges.b c.requires

pub returns-clause-small : goal.returns-clause-small
returns-clause-small c = let l = c.args.line.now in rw (height_back l c.args.b c.ranges.b c.requires) (height_small l.place l.value l.slope c.args.b l.place_small l.value_small l.slope_small c.requires)
