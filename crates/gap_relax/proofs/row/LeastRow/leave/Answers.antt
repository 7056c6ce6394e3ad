use Rattle.std.proofs.lemmas.Int.{to_z-of_z}
use Rattle.gap_relax.proofs.SeenLaws.{seen_out}
use Rattle.gap_relax.proofs.row.LeastRow.leave.Goals as goal

pub returns-clause-least : goal.returns-clause-least
returns-clause-least c =
    let fc = c.ranges.cost in
    let fs = c.ranges.slope in
    let e = simp to_z-of_z at c.add.ensures in
    λ w h k p q. seen_out w c.args.self.now c.add.new.self c.args.cost c.args.slope k p q e.seen e.value e.slope e.fewest e.most e.count e.extras h
