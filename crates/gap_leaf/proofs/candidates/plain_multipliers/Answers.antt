use Rattle.std.proofs.lemmas.Int.{to_z-of_z}
use Rattle.gap_base.specs.Lots.{lots_at}
use Rattle.gap_lines.proofs.Sizes.{place_fits, value_fits}
use Rattle.gap_leaf.proofs.CandidateLaws.{plain_best}
use Rattle.gap_leaf.proofs.candidates.plain_multipliers.Goals as goal

pub returns : goal.returns
returns c =
    let t = c.args.tangent.now in
    let l = c.best_alpha_from-line.result in
    let fp = place_fits l in
    let fv = value_fits l in
    let e = c.best_alpha_from-line.ensures in
    let b = plain_best t.setting c.args.part.now (lots_at t.eighths) l.place l.value e.best e.line.exact l.value_small in
    simp to_z-of_z b
