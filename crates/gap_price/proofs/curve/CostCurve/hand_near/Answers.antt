use Rattle.std.proofs.Common.{◌≡◌, true, ℕ, FitsSigned, sym, ap, subst, ◌∙◌, rules}
use Rattle.std.proofs.lemmas.Int.{to_z-of_z}
use Rattle.std.specs.Int.{w128, w32}
use Rattle.gap_box.specs.Cells.{IsCell, is_held, is_free}
use Rattle.gap_box.specs.declared.cell.Cell.TheVariants.{Out}
use Rattle.gap_relax.specs.Choices.{cell_at}
use Rattle.gap_price.specs.CurveOf.{curve_of}
use Rattle.gap_price.specs.Offers.{cost_by, least_offer, ways_of}
use Rattle.gap_price.proofs.OfferLaws.{held_is, out_is, held_sizes, out_sizes, held_tells, out_tells}
use Rattle.gap_price.proofs.curve.CostCurve.hand_near.Goals as goal

pub leave-requires-clause-cost : goal.leave-requires-clause-cost
leave-requires-clause-cost c =
    let fm = c.ranges.multiplier in
    let k = curve_of c.args.self.now in
    let m = c.args.multiplier in
    let i = c.args.i in
    let a = c.asset_at-asset.result in
    let same = simp to_z-of_z at c.asset_at-asset.ensures.cost in
    let b = c.asset_at-asset.ensures.present in
    let o = c.out_offer-leaving.result in
    let f3 : FitsSigned w128 o.value = search rules in
    let f4 : FitsSigned w32 o.weight = search rules in
    let q = out_is k m i a.present (cost_by a) o same b c.out_offer-leaving.ensures in
    let s = out_sizes k m i o c.args.self.now.kept.costs_are c.requires.there c.requires.price q in
    simp to_z-of_z (s.0)

pub leave-requires-clause-slope : goal.leave-requires-clause-slope
leave-requires-clause-slope c =
    let fm = c.ranges.multiplier in
    let k = curve_of c.args.self.now in
    let m = c.args.multiplier in
    let i = c.args.i in
    let a = c.asset_at-asset.result in
    let same = simp to_z-of_z at c.asset_at-asset.ensures.cost in
    let b = c.asset_at-asset.ensures.present in
    let o = c.out_offer-leaving.result in
    let f3 : FitsSigned w128 o.value = search rules in
    let f4 : FitsSigned w32 o.weight = search rules in
    let q = out_is k m i a.present (cost_by a) o same b c.out_offer-leaving.ensures in
    let s = out_sizes k m i o c.args.self.now.kept.costs_are c.requires.there c.requires.price q in
    simp to_z-of_z (s.1)

pub hold-requires-clause-cost : goal.hold-requires-clause-cost
hold-requires-clause-cost c =
    let fm = c.ranges.multiplier in
    let k = curve_of c.args.self.now in
    let m = c.args.multiplier in
    let i = c.args.i in
    let a = c.asset_at-asset.result in
    let same = simp to_z-of_z at c.asset_at-asset.ensures.cost in
    let b = c.asset_at-asset.ensures.present in
    let h = c.held_offer-holding.result in
    let f1 : FitsSigned w128 h.value = search rules in
    let f2 : FitsSigned w32 h.weight = search rules in
    let p = held_is k m i a.present (cost_by a) c.cell-cell.result h same b c.held_offer-holding.ensures ∙ ap (least_offer k m i) c.cell-cell.ensures.or_out in
    let v : IsCell (cell_at k.cells i) = subst IsCell c.cell-cell.ensures.or_out c.cell-cell.ensures.valid in
    let s = held_sizes k m i h c.args.self.now.kept.costs_are c.requires.there c.requires.price v p in
    simp to_z-of_z (s.0)

pub hold-requires-clause-slope : goal.hold-requires-clause-slope
hold-requires-clause-slope c =
    let fm = c.ranges.multiplier in
    let k = curve_of c.args.self.now in
    let m = c.args.multiplier in
    let i = c.args.i in
    let a = c.asset_at-asset.result in
    let same = simp to_z-of_z at c.asset_at-asset.ensures.cost in
    let b = c.asset_at-asset.ensures.present in
    let h = c.held_offer-holding.result in
    let f1 : FitsSigned w128 h.value = search rules in
    let f2 : FitsSigned w32 h.weight = search rules in
    let p = held_is k m i a.present (cost_by a) c.cell-cell.result h same b c.held_offer-holding.ensures ∙ ap (least_offer k m i) c.cell-cell.ensures.or_out in
    let v : IsCell (cell_at k.cells i) = subst IsCell c.cell-cell.ensures.or_out c.cell-cell.ensures.valid in
    let s = held_sizes k m i h c.args.self.now.kept.costs_are c.requires.there c.requires.price v p in
    simp to_z-of_z (s.1)

pub offer-requires-clause-held_cost : goal.offer-requires-clause-held_cost
offer-requires-clause-held_cost c =
    let fm = c.ranges.multiplier in
    let k = curve_of c.args.self.now in
    let m = c.args.multiplier in
    let i = c.args.i in
    let a = c.asset_at-asset.result in
    let same = simp to_z-of_z at c.asset_at-asset.ensures.cost in
    let b = c.asset_at-asset.ensures.present in
    let h = c.held_offer-holding-in-Free.result in
    let f1 : FitsSigned w128 h.value = search rules in
    let f2 : FitsSigned w32 h.weight = search rules in
    let p = held_is k m i a.present (cost_by a) c.cell-cell.result h same b c.held_offer-holding-in-Free.ensures ∙ ap (least_offer k m i) c.cell-cell.ensures.or_out in
    let v : IsCell (cell_at k.cells i) = subst IsCell c.cell-cell.ensures.or_out c.cell-cell.ensures.valid in
    let s = held_sizes k m i h c.args.self.now.kept.costs_are c.requires.there c.requires.price v p in
    simp to_z-of_z (s.0)

pub offer-requires-clause-held_slope : goal.offer-requires-clause-held_slope
offer-requires-clause-held_slope c =
    let fm = c.ranges.multiplier in
    let k = curve_of c.args.self.now in
    let m = c.args.multiplier in
    let i = c.args.i in
    let a = c.asset_at-asset.result in
    let same = simp to_z-of_z at c.asset_at-asset.ensures.cost in
    let b = c.asset_at-asset.ensures.present in
    let h = c.held_offer-holding-in-Free.result in
    let f1 : FitsSigned w128 h.value = search rules in
    let f2 : FitsSigned w32 h.weight = search rules in
    let p = held_is k m i a.present (cost_by a) c.cell-cell.result h same b c.held_offer-holding-in-Free.ensures ∙ ap (least_offer k m i) c.cell-cell.ensures.or_out in
    let v : IsCell (cell_at k.cells i) = subst IsCell c.cell-cell.ensures.or_out c.cell-cell.ensures.valid in
    let s = held_sizes k m i h c.args.self.now.kept.costs_are c.requires.there c.requires.price v p in
    simp to_z-of_z (s.1)

pub offer-requires-clause-out_cost : goal.offer-requires-clause-out_cost
offer-requires-clause-out_cost c =
    let fm = c.ranges.multiplier in
    let k = curve_of c.args.self.now in
    let m = c.args.multiplier in
    let i = c.args.i in
    let a = c.asset_at-asset.result in
    let same = simp to_z-of_z at c.asset_at-asset.ensures.cost in
    let b = c.asset_at-asset.ensures.present in
    let o = c.out_offer-leaving-in-Free.result in
    let f3 : FitsSigned w128 o.value = search rules in
    let f4 : FitsSigned w32 o.weight = search rules in
    let q = out_is k m i a.present (cost_by a) o same b c.out_offer-leaving-in-Free.ensures in
    let s = out_sizes k m i o c.args.self.now.kept.costs_are c.requires.there c.requires.price q in
    simp to_z-of_z (s.0)

pub offer-requires-clause-out_slope : goal.offer-requires-clause-out_slope
offer-requires-clause-out_slope c =
    let fm = c.ranges.multiplier in
    let k = curve_of c.args.self.now in
    let m = c.args.multiplier in
    let i = c.args.i in
    let a = c.asset_at-asset.result in
    let same = simp to_z-of_z at c.asset_at-asset.ensures.cost in
    let b = c.asset_at-asset.ensures.present in
    let o = c.out_offer-leaving-in-Free.result in
    let f3 : FitsSigned w128 o.value = search rules in
    let f4 : FitsSigned w32 o.weight = search rules in
    let q = out_is k m i a.present (cost_by a) o same b c.out_offer-leaving-in-Free.ensures in
    let s = out_sizes k m i o c.args.self.now.kept.costs_are c.requires.there c.requires.price q in
    simp to_z-of_z (s.1)

pub returns-in-Out-clause-least : goal.returns-in-Out-clause-least
returns-in-Out-clause-least c =
    let fm = c.ranges.multiplier in
    let k = curve_of c.args.self.now in
    let m = c.args.multiplier in
    let i = c.args.i in
    let a = c.asset_at-asset.result in
    let same = simp to_z-of_z at c.asset_at-asset.ensures.cost in
    let b = c.asset_at-asset.ensures.present in
    let o = c.out_offer-leaving.result in
    let f3 : FitsSigned w128 o.value = search rules in
    let f4 : FitsSigned w32 o.weight = search rules in
    let q = out_is k m i a.present (cost_by a) o same b c.out_offer-leaving.ensures in
    let j = c.args.row.now.seen in
    let e : j ≡ i = c.requires.next in
    let step = simp to_z-of_z at c.leave.ensures.least in
    let t = out_tells k m i j o e q in
    let z : cell_at k.cells j ≡ Out = ap (cell_at k.cells) e ∙ sym c.cell-cell.ensures.or_out ∙ c.in-Out.is in
    λ seen. step (ways_of k m) seen z t.0 t.1

pub returns-in-Held-clause-least : goal.returns-in-Held-clause-least
returns-in-Held-clause-least c =
    let fm = c.ranges.multiplier in
    let k = curve_of c.args.self.now in
    let m = c.args.multiplier in
    let i = c.args.i in
    let a = c.asset_at-asset.result in
    let same = simp to_z-of_z at c.asset_at-asset.ensures.cost in
    let b = c.asset_at-asset.ensures.present in
    let h = c.held_offer-holding.result in
    let f1 : FitsSigned w128 h.value = search rules in
    let f2 : FitsSigned w32 h.weight = search rules in
    let p = held_is k m i a.present (cost_by a) c.cell-cell.result h same b c.held_offer-holding.ensures ∙ ap (least_offer k m i) c.cell-cell.ensures.or_out in
    let j = c.args.row.now.seen in
    let e : j ≡ i = c.requires.next in
    let step = simp to_z-of_z at c.hold.ensures.least in
    let t = held_tells k m i j h e p in
    let z : is_held (cell_at k.cells j) ≡ true = ap (λ (n : ℕ). is_held (cell_at k.cells n)) e ∙ ap is_held (sym c.cell-cell.ensures.or_out ∙ c.in-Held.is) in
    λ seen. step (ways_of k m) seen z t.0 t.1

pub returns-in-Free-clause-least : goal.returns-in-Free-clause-least
returns-in-Free-clause-least c =
    let fm = c.ranges.multiplier in
    let k = curve_of c.args.self.now in
    let m = c.args.multiplier in
    let i = c.args.i in
    let a = c.asset_at-asset.result in
    let same = simp to_z-of_z at c.asset_at-asset.ensures.cost in
    let b = c.asset_at-asset.ensures.present in
    let h = c.held_offer-holding-in-Free.result in
    let f1 : FitsSigned w128 h.value = search rules in
    let f2 : FitsSigned w32 h.weight = search rules in
    let p = held_is k m i a.present (cost_by a) c.cell-cell.result h same b c.held_offer-holding-in-Free.ensures ∙ ap (least_offer k m i) c.cell-cell.ensures.or_out in
    let o = c.out_offer-leaving-in-Free.result in
    let f3 : FitsSigned w128 o.value = search rules in
    let f4 : FitsSigned w32 o.weight = search rules in
    let q = out_is k m i a.present (cost_by a) o same b c.out_offer-leaving-in-Free.ensures in
    let j = c.args.row.now.seen in
    let e : j ≡ i = c.requires.next in
    let step = simp to_z-of_z at c.offer.ensures.least in
    let t = held_tells k m i j h e p in
    let u = out_tells k m i j o e q in
    let z : is_free (cell_at k.cells j) ≡ true = ap (λ (n : ℕ). is_free (cell_at k.cells n)) e ∙ ap is_free (sym c.cell-cell.ensures.or_out ∙ c.in-Free.is) in
    λ seen. step (ways_of k m) seen z t.0 t.1 u.0 u.1
