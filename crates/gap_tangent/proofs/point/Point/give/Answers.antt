use Rattle.std.proofs.Common.{◌≡◌, ◌<◌, ◌≤◌, ◌+◌, ◌-◌, ℕ, List, ℤ, length, set, slice_index_or, unsigned_abs, sym, ap, ◌∙◌, subst, arith}
use Rattle.gap_base.specs.Sums.{at}
use Rattle.gap_tangent.specs.Seen.{setting_of}
use Rattle.gap_tangent.specs.Points.{PointValue, IsKeptPoint}
use Rattle.gap_tangent.proofs.SizeLaws.{gradient_small}
use Rattle.gap_tangent.proofs.MoveLaws.{kept_after}
use Rattle.gap_tangent.proofs.point.Point.give.Goals as goal

pub move_gradients-requires-clause-small : goal.move_gradients-requires-clause-small
move_gradients-requires-clause-small c =
    let b = c.self.inside.bound.now in
    let kept = c.self.invariant in
    λ k l. subst (λ (z : ℤ). unsigned_abs z ≤ 16250000000000000000000000000) (sym (kept.gradients_are k l)) (gradient_small (setting_of b) c.self.inside.eighths k b.setting kept.point l)

after : (y new mid : List ℕ) (s i j a b : ℕ) → mid ≡ set y i (a - s) → new ≡ set mid j (b + s) → a ≡ slice_index_or y i 0 → b ≡ slice_index_or y j 0 → new ≡ set (set y i (slice_index_or y i 0 - s)) j (slice_index_or y j 0 + s)
after y new mid s i j a b e f g h =
    f ∙ (ap (λ (xs : List ℕ). set xs j (b + s)) e
    ∙ (ap (λ (n : ℕ). set (set y i (n - s)) j (b + s)) g
    ∙ ap (λ (n : ℕ). set (set y i (slice_index_or y i 0 - s)) j (n + s)) h))

pub invariant_of-self : goal.invariant_of-self
invariant_of-self c =
    let b = c.self.inside.bound.now in
    let s = setting_of b in
    let y = c.self.inside.eighths in
    let giver = subst (λ (v : PointValue). c.args.i < v.setting.instance.market.assets) (sym c.self.view_is) c.requires.giver in
    let taker = subst (λ (v : PointValue). c.args.j < v.setting.instance.market.assets) (sym c.self.view_is) c.requires.taker in
    let enough = subst (λ (v : PointValue). c.args.s ≤ slice_index_or v.eighths c.args.i 0) (sym c.self.view_is) c.requires.enough in
    let e = after y c.set-2.new.self c.set.new.self c.args.s c.args.i c.args.j c.get.result c.get-2.result c.set.ensures c.set-2.ensures c.get.ensures.or_zero c.get-2.ensures.or_zero in
    let room : length c.move_gradients.new.gradients ≡ 256 = let q = c.self.invariant.room in let t = c.move_gradients.auto.gradients in omega arith in
    subst (λ (z : List ℕ). IsKeptPoint s z c.move_gradients.new.gradients) (sym e) (kept_after s y c.self.inside.gradients c.move_gradients.new.gradients c.args.s c.args.i c.args.j giver taker c.requires.apart enough c.self.invariant room c.move_gradients.ensures)
