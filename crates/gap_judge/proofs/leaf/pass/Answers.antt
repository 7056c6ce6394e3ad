use Rattle.std.proofs.Common.{ap, ◌∙◌}
use Rattle.gap_judge.specs.Progress.{with_told}
use Rattle.gap_judge.specs.Courses.{progress_at}
use Rattle.gap_judge.specs.Stops.{parts_or_none}
use Rattle.gap_judge.proofs.JudgeLaws.{parts_behind, told_last, told_later}
use Rattle.gap_judge.proofs.leaf.pass.Goals as goal

pub returns-in_ok-tell-clause-ok : goal.returns-in_ok-tell-clause-ok
returns-in_ok-tell-clause-ok c =
    let p = progress_at c.args.head.now c.args.course.now in
    let mid = parts_behind p (parts_or_none c.leave.new.walk) c.lesser-course.result c.args.shown c.leave.ensures.parts c.lesser-course.ensures in
    told_last p (progress_at c.args.head.now c.tell.new.course) c.args.shown (c.leave.ensures.whole.0 c.if-leave.true) (c.in_ok-tell.ensures ∙ ap with_told mid)

pub returns-else-leave-clause-ok : goal.returns-else-leave-clause-ok
returns-else-leave-clause-ok c =
    let p = progress_at c.args.head.now c.args.course.now in
    let f = c.if-leave.false in
    told_later p (record p { parts = parts_or_none c.leave.new.walk; least = c.lesser-course.result }) c.args.shown (λ z. let t = c.leave.ensures.whole.1 z in cc)
    (parts_behind p (parts_or_none c.leave.new.walk) c.lesser-course.result c.args.shown c.leave.ensures.parts c.lesser-course.ensures)
