use Rattle.std.proofs.Common.{◌≤◌, length, List, ℕ, ap, sym, subst, arith}
use Rattle.std.proofs.lemmas.Option.{IfSome_then}
use Rattle.gap_instance.specs.Orders.{CanBeHeld, holds, HeldGiveList, GivesList}
use Rattle.gap_instance.specs.Selections.{is_marked}
use Rattle.gap_instance.proofs.OrderLaws.{order_same}
use Rattle.gap_start.specs.Starts.{IsStartBy, IsStartOf}
use Rattle.gap_start.proofs.StartLaws.{gives_same, start_by_order}
use Rattle.gap_start.proofs.starting.start_by.Goals as goal

pub returns-then-len-k-clause-none : goal.returns-then-len-k-clause-none
returns-then-len-k-clause-none c = λ e order g.
    let same = ap (length {A = ℕ}) (order_same c.args.inst.now c.args.w.p c.args.w.q c.args.by order c.order-order.result g.order_is c.order-order.ensures) in
    let enough = g.enough in
    omega arith

pub start_from-requires : goal.start_from-requires
start_from-requires c =
    let marks = c.first_marks-marks.ensures.marks in
    let I = c.args.inst.now in
    record {
      size = marks.size;
      known = c.first_marks-marks.ensures.instance;
      held = λ i h m. let f = marks.from i m in let l = f.1 in subst (CanBeHeld I) f.2 (c.order-order.ensures.inside f.0 (omega arith));
      fewest = let n = marks.count in omega arith;
      most = let n = marks.count in omega arith;
    }

pub returns-clause-none : goal.returns-clause-none
returns-clause-none c = λ none order g.
    let I = c.args.inst.now in
    let marks = c.first_marks-marks.ensures.marks in
    let same = order_same I c.args.w.p c.args.w.q c.args.by order c.order-order.result g.order_is c.order-order.ensures in
    c.start_from.ensures.none none (gives_same I (holds c.order-order.result c.args.k) (is_marked c.first_marks-marks.result) (λ i h. sym (marks.marked i h)) (subst (λ (o : List ℕ). HeldGiveList I (holds o c.args.k)) same g.gives))

pub returns-clause-some : goal.returns-clause-some
returns-clause-some c =
    let I = c.args.inst.now in
    let marks = c.first_marks-marks.ensures.marks in
    let there : c.args.k ≤ length c.order-order.result = omega arith in
    IfSome_then c.start_from.result {P = IsStartOf I c.args.w.p c.args.w.q c.first_marks-marks.result} {Q = IsStartBy I c.args.w.p c.args.w.q c.args.by c.args.k} c.start_from.ensures.some (λ x s.
    let gives : GivesList I c.args.w.p c.args.w.q c.args.by c.args.k c.order-order.result = record {
      order_is = c.order-order.ensures;
      enough = there;
      gives = gives_same I (is_marked c.first_marks-marks.result) (holds c.order-order.result c.args.k) marks.marked s.gives;
    } in
    start_by_order I c.args.w.p c.args.w.q c.args.by c.args.k c.order-order.result c.first_marks-marks.result x c.requires.least c.requires.most gives marks s)
