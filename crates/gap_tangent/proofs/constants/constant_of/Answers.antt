use Rattle.std.proofs.Common.{◌≡◌, ◌≤ℤ◌, ℤ, pos, neg_ℤ, ◌-ℤ◌, ◌*ℤ◌, FitsSigned, sym, ap, ◌∙◌, arith}
use Rattle.std.proofs.lemmas.Int.{ints, to_z-of_z}
use Rattle.std.specs.Int.{w128}
use Rattle.gap_base.specs.Lots.{lots_at}
use Rattle.gap_model.specs.Settings.{product_of}
use Rattle.gap_tangent.specs.Seen.{setting_of}
use Rattle.gap_tangent.proofs.MoveLaws.{pulls_give, square_sign, half_is, twice_sign}
use Rattle.gap_tangent.proofs.constants.constant_of.Goals as goal

pub half-requires : goal.half-requires
half-requires c =
    let b = c.args.mv.now in
    let s = setting_of b in
    let y = c.args.y.now in
    let f : FitsSigned w128 c.pull_sum.result = record { sfits = c.pull_sum.type_inv } in
    let r = twice_sign c.pull_sum.result _ (c.pull_sum.ensures.value ∙ pulls_give s y b.setting) (square_sign s y b.setting) in
    simp to_z-of_z r

minus_back : (h : ℤ) → FitsSigned w128 h → pos 0 ≤ℤ h → FitsSigned w128 (neg_ℤ h)
minus_back h f p = omega (arith, ints)

pub returns : goal.returns
returns c =
    let b = c.args.mv.now in
    let s = setting_of b in
    let y = c.args.y.now in
    let f : FitsSigned w128 c.pull_sum.result = record { sfits = c.pull_sum.type_inv } in
    let g : FitsSigned w128 c.half.result = record { sfits = c.half.type_inv } in
    let n = minus_back c.half.result g c.half.ensures.sign in
    let l = simp to_z-of_z at c.half.ensures.least in
    let m = simp to_z-of_z at c.half.ensures.most in
    let r = half_is c.half.result c.pull_sum.result (pos s.p *ℤ product_of s (lots_at y) (lots_at y)) (c.pull_sum.ensures.value ∙ pulls_give s y b.setting) l m in
    let z : pos 0 -ℤ c.half.result ≡ neg_ℤ c.half.result = omega (arith, ints) in
    simp (to_z-of_z, z) r
