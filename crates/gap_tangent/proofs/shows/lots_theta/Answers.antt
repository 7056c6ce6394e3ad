use Rattle.std.proofs.Common.{◌≡◌, ℕ, true, false, List, Some, ℤ, pos, ◌-ℤ◌, ◌*ℤ◌, ◌≤ℤ◌, ◌<ℤ◌, FitsSigned, to_z, of_z, sym, ap, ◌∙◌, arith}
use Rattle.std.specs.Int.{w128}
use Rattle.std.specs.Int.Signed.{lt_z}
use Rattle.std.proofs.lemmas.Int.{ints, to_z-of_z}
use Rattle.gap_box.specs.declared.cell.Cell.{Cell}
use Rattle.gap_box.specs.Parts.{can_meet}
use Rattle.gap_model.proofs.ThetaLaws.{void_theta_none}
use Rattle.gap_tangent.specs.Seen.{setting_of}
use Rattle.gap_tangent.specs.Lots.{AreFewestLots, AreMostLots}
use Rattle.gap_tangent.proofs.LotsLaws.{void_of_fewest, void_of_most}
use Rattle.gap_tangent.proofs.SettingLaws.{part_count}
use Rattle.gap_tangent.proofs.shows.lots_theta.Goals as goal

fewest_by : (cells : List Cell) (h m a b v : ℕ) → h ≡ a → m ≡ b → AreFewestLots cells h m v → AreFewestLots cells a b v
fewest_by cells h m a b v e f w = rw (← e, ← f) w

most_by : (cells : List Cell) (h m a b v : ℕ) → h ≡ a → m ≡ b → AreMostLots cells h m v → AreMostLots cells a b v
most_by cells h m a b v e f w = rw (← e, ← f) w

told : (r s alpha : ℤ) (v l n : ℕ) → FitsSigned w128 r → FitsSigned w128 s → FitsSigned w128 alpha → r ≡ alpha *ℤ s → s ≡ pos v -ℤ pos l → l ≡ n → to_z w128 (of_z w128 r) ≡ alpha *ℤ (pos v -ℤ pos n)
told r s alpha v l n fr fs fa e f g = to_z-of_z w128 r fr ∙ (e ∙ (ap (λ (z : ℤ). alpha *ℤ z) f ∙ ap (λ (k : ℕ). alpha *ℤ (pos v -ℤ pos k)) g))

pub returns-then-not-count_within : goal.returns-then-not-count_within
returns-then-not-count_within c =
    let e : can_meet c.args.part.now (setting_of c.args.mv.now).instance.held (setting_of c.args.mv.now).instance.held_most ≡ false = cc in
    sym (void_theta_none (setting_of c.args.mv.now) c.args.part.now c.args.alpha (pos 0) c.len-cells.ensures.valid e)

negative : (a : ℤ) → lt_z a (pos 0) ≡ true → a <ℤ pos 0
negative a e = grind (arith, ints)

not_negative : (a : ℤ) → lt_z a (pos 0) ≡ false → pos 0 ≤ℤ a
not_negative a e = grind (arith, ints)

pub returns-then-alpha-lt0 : goal.returns-then-alpha-lt0
returns-then-alpha-lt0 c =
    let fa = c.ranges.alpha in
    let fs : FitsSigned w128 c.surplus.result = record { sfits = c.surplus.type_inv } in
    let fr : FitsSigned w128 c.charged.result = record { sfits = c.charged.type_inv } in
    let b = c.args.mv.now in
    let part = c.args.part.now in
    let n = part_count b.instance.now part b.setting.instance_is c.requires.within in
    let sign = negative c.args.alpha (simp to_z-of_z at c.if-alpha-lt0.true) in
    let value = simp to_z-of_z at c.charged.ensures.value in
    let most = most_by part c.held-then-alpha-lt0.result c.held_most-then-alpha-lt0.result b.instance.now.held b.instance.now.held_most c.most_lots-most.result c.held-then-alpha-lt0.ensures.value c.held_most-then-alpha-lt0.ensures.value c.most_lots-most.ensures.value in
    ap Some (told c.charged.result c.surplus.result c.args.alpha c.most_lots-most.result c.lots.result b.instance.now.lots fr fs fa value c.surplus.ensures.value c.lots.ensures.value)
    ∙ sym (void_of_most (setting_of b) part c.args.alpha c.most_lots-most.result n sign most)

pub returns : goal.returns
returns c =
    let fa = c.ranges.alpha in
    let fs : FitsSigned w128 c.surplus-2.result = record { sfits = c.surplus-2.type_inv } in
    let fr : FitsSigned w128 c.charged-2.result = record { sfits = c.charged-2.type_inv } in
    let b = c.args.mv.now in
    let part = c.args.part.now in
    let n = part_count b.instance.now part b.setting.instance_is c.requires.within in
    let sign = not_negative c.args.alpha (simp to_z-of_z at c.if-alpha-lt0.false) in
    let value = simp to_z-of_z at c.charged-2.ensures.value in
    let fewest = fewest_by part c.held-2.result c.held_most-2.result b.instance.now.held b.instance.now.held_most c.fewest_lots-fewest.result c.held-2.ensures.value c.held_most-2.ensures.value c.fewest_lots-fewest.ensures.value in
    ap Some (told c.charged-2.result c.surplus-2.result c.args.alpha c.fewest_lots-fewest.result c.lots-2.result b.instance.now.lots fr fs fa value c.surplus-2.ensures.value c.lots-2.ensures.value)
    ∙ sym (void_of_fewest (setting_of b) part c.args.alpha c.fewest_lots-fewest.result n sign fewest)
