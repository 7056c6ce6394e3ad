use Rattle.std.proofs.Common.{◌≡◌, true, ℕ, FitsSigned, sym, ap, ◌∙◌, rules}
use Rattle.std.proofs.lemmas.Int.{to_z-of_z}
use Rattle.std.specs.Int.{w128, w32}
use Rattle.gap_box.specs.declared.cell.Cell.TheVariants.{Out}
use Rattle.gap_box.specs.Cells.{is_held, is_free}
use Rattle.gap_relax.specs.Choices.{cell_at}
use Rattle.gap_price.specs.CurveOf.{curve_of}
use Rattle.gap_price.specs.Offers.{least_offer, ways_of}
use Rattle.gap_price.proofs.OfferLaws.{held_tells, plain_none}
use Rattle.gap_price.proofs.curve.CostCurve.hand_plain.Goals as goal

pub returns-in-Out-clause-least : goal.returns-in-Out-clause-least
returns-in-Out-clause-least c =
    let fm = c.ranges.multiplier in
    let k = curve_of c.args.self.now in
    let m = c.args.multiplier in
    let i = c.args.i in
    let j = c.args.row.now.seen in
    let e : j ≡ i = c.requires.next in
    let step = c.leave.ensures.least in
    let is = sym c.cell.ensures.or_out ∙ c.in-Out.is in
    let t = plain_none k m i j e c.requires.plain in
    let z : cell_at k.cells j ≡ Out = ap (cell_at k.cells) e ∙ is in
    λ seen. step (ways_of k m) seen z t.0 t.1

pub returns-in-Held-clause-least : goal.returns-in-Held-clause-least
returns-in-Held-clause-least c =
    let fm = c.ranges.multiplier in
    let k = curve_of c.args.self.now in
    let m = c.args.multiplier in
    let i = c.args.i in
    let h = c.end_offer-holding.result in
    let f1 : FitsSigned w128 h.value = search rules in
    let f2 : FitsSigned w32 h.weight = search rules in
    let j = c.args.row.now.seen in
    let e : j ≡ i = c.requires.next in
    let step = simp to_z-of_z at c.hold.ensures.least in
    let is = sym c.cell.ensures.or_out ∙ c.in-Held.is in
    let o = simp to_z-of_z at c.end_offer-holding.ensures.offer in
    let p : h ≡ least_offer k m i (cell_at k.cells i) = o ∙ sym (ap (least_offer k m i) is) in
    let t = held_tells k m i j h e p in
    let z : is_held (cell_at k.cells j) ≡ true = ap (λ (n : ℕ). is_held (cell_at k.cells n)) e ∙ ap is_held is in
    λ seen. step (ways_of k m) seen z t.0 t.1

pub returns-in-Free-clause-least : goal.returns-in-Free-clause-least
returns-in-Free-clause-least c =
    let fm = c.ranges.multiplier in
    let k = curve_of c.args.self.now in
    let m = c.args.multiplier in
    let i = c.args.i in
    let h = c.end_offer-holding-in-Free.result in
    let f1 : FitsSigned w128 h.value = search rules in
    let f2 : FitsSigned w32 h.weight = search rules in
    let j = c.args.row.now.seen in
    let e : j ≡ i = c.requires.next in
    let step = simp to_z-of_z at c.offer.ensures.least in
    let is = sym c.cell.ensures.or_out ∙ c.in-Free.is in
    let o = simp to_z-of_z at c.end_offer-holding-in-Free.ensures.offer in
    let p : h ≡ least_offer k m i (cell_at k.cells i) = o ∙ sym (ap (least_offer k m i) is) in
    let t = held_tells k m i j h e p in
    let u = plain_none k m i j e c.requires.plain in
    let z : is_free (cell_at k.cells j) ≡ true = ap (λ (n : ℕ). is_free (cell_at k.cells n)) e ∙ ap is_free is in
    λ seen. step (ways_of k m) seen z t.0 t.1 u.0 u.1
