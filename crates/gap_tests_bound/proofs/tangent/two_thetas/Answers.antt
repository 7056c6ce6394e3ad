use Rattle.std.proofs.Common.{◌≡◌, ℕ, suc, ◌*◌, ◌≤◌, List, [], ◌∷◌, length, slice_index_or, sum, sym, ap, ◌∙◌, subst, arith}
use Rattle.std.proofs.lemmas.List.Sums.{sum_by-cons}
use Rattle.gap_box.specs.declared.cell.Cell.{Cell}
use Rattle.gap_instance.specs.Instances.{InstanceValue, IsInstance}
use Rattle.gap_tangent.proofs.ShownLaws.{root_count}
use Rattle.gap_tests_bound.proofs.tangent.two_thetas.Goals as goal

sum_few : (y : List ℕ) → ((k : ℕ) → slice_index_or y k 0 ≤ 8) → sum y ≤ 8 * length y
sum_few [] h = omega arith
sum_few (v ∷ y) h = let a = sum_few y (λ k. h (suc k)) in let b = h 0 in let e = sum_by-cons (λ (n : ℕ). n) v y in omega arith

pub theta-here-requires-clause-point : goal.theta-here-requires-clause-point
theta-here-requires-clause-point c =
    let n : length c.point.result ≡ c.args.mv.now.instance.now.market.assets = c.point.ensures.count ∙ c.n.ensures.value ∙ ap (λ (I : InstanceValue). I.market.assets) c.instance.ensures in
    let s = sum_few c.point.result c.point.ensures.each in
    let few = c.requires.few in
    let lots = c.requires.lots in
    record { count = n; most = omega arith }

pub listed-requires-clause-part : goal.listed-requires-clause-part
listed-requires-clause-part c =
    let is = subst IsInstance c.instance.ensures c.n.ensures.instance in
    c.split_once-part.ensures.same_length ∙ c.split_once-second.ensures.same_length ∙ c.split_once-first.ensures.same_length ∙ ap (λ (cells : List Cell). length cells) c.root.ensures ∙ root_count c.args.mv.now.instance.now is ∙ sym (ap (λ (I : InstanceValue). I.market.assets) c.instance-3.ensures)
