use Rattle.std.proofs.Common.{pos, arith}
use Rattle.std.proofs.lemmas.Int.{ints, to_z-of_z}
use Rattle.gap_base.specs.Lots.{lots_at}
use Rattle.gap_lines.proofs.Sizes.{place_fits, value_fits}
use Rattle.gap_leaf.proofs.CandidateLaws.{alpha_size, turned_range, turned_best}
use Rattle.gap_leaf.proofs.candidates.turned_multipliers.Goals as goal

pub best_alpha_from-last-requires-clause-tau : goal.best_alpha_from-last-requires-clause-tau
best_alpha_from-last-requires-clause-tau c =
    let t = c.args.tangent.now in
    let y = lots_at t.eighths in
    let part = c.args.part.now in
    let first = c.best_alpha_from-first.result in
    let turned = c.best_tau_from-turned.result in
    let ff = place_fits first in
    let ft = place_fits turned in
    let b = simp to_z-of_z at c.best_tau_from-turned.ensures.best in
    let r = turned_range t.setting part y first.place turned.place c.requires.limited (alpha_size t.setting part y (pos 0) first.place c.best_alpha_from-first.ensures.best) b (pos 0) (omega (arith, ints)) in
    simp to_z-of_z r

pub returns : goal.returns
returns c =
    let t = c.args.tangent.now in
    let y = lots_at t.eighths in
    let part = c.args.part.now in
    let first = c.best_alpha_from-first.result in
    let turned = c.best_tau_from-turned.result in
    let last = c.best_alpha_from-last.result in
    let ff = place_fits first in
    let ft = place_fits turned in
    let fl = place_fits last in
    let fv = value_fits last in
    let b = simp to_z-of_z at c.best_tau_from-turned.ensures.best in
    let d = simp to_z-of_z at c.best_alpha_from-last.ensures.best in
    let e = simp to_z-of_z at c.best_alpha_from-last.ensures.line.exact in
    let r = turned_best t.setting part y first.place turned.place last.place last.value c.requires.limited c.best_alpha_from-first.ensures.best b d e last.value_small in
    simp to_z-of_z r
