use Rattle.std.proofs.Common.{◌<◌, ◌≤◌, length, ap, ◌∙◌, arith}
use Rattle.gap_box.specs.Parts.{held_count}
use Rattle.gap_writer.specs.Pieces.{one_held}
use Rattle.gap_writer.proofs.Spelled.{count_on, count_over}
use Rattle.gap_writer.proofs.numbers.lots_held.Goals as goal

pub loop-i-preserved : goal.loop-i-preserved
loop-i-preserved c =
    let here : c.loop-i.i < length c.args.x.now = omega arith in
    (count_on c.args.x.now c.loop-i.i c.loop-i.count c.one_held-count.result (held_count c.args.x.now) here (c.one_held-count.ensures.value ∙ ap one_held (c.from.ensures ∙ c.get.ensures.or_zero)) c.loop-i.invariant.0, omega arith)

pub returns : goal.returns
returns c =
    let over : length c.args.x.now ≤ c.loop-i.i = omega arith in
    count_over c.args.x.now c.loop-i.i c.loop-i.count (held_count c.args.x.now) over c.loop-i.invariant.0
