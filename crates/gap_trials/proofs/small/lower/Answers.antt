use Rattle.std.proofs.Common.{ℕ, ◌+◌, List, ℤ, FitsSigned, sym, ap, ◌∙◌, subst}
use Rattle.std.proofs.lemmas.Int.{to_z-of_z}
use Rattle.std.specs.Int.{w128}
use Rattle.gap_box.specs.Parts.{IsPick}
use Rattle.gap_model.specs.Theta.{lesser}
use Rattle.gap_trials.specs.Small.{small_price, IsSomeBelow}
use Rattle.gap_trials.proofs.PlaceLaws.{least_past, least_taken}
use Rattle.gap_trials.proofs.small.lower.Goals as goal

pub returns-then-is_pick : goal.returns-then-is_pick
returns-then-is_pick c =
    let f = small_price c.args.small.now.seed c.args.small.now.lots c.args.leaf.now in
    let p = subst (λ (z : List ℕ). IsPick c.args.part.now 1 2 z) c.list_at-x.ensures (c.is_pick.ensures.yes c.if-is_pick.true) in
    let t = least_taken f c.args.part.now c.args.k c.args.least c.requires.within c.requires.place p c.requires.so_far in
    let fl : FitsSigned w128 c.lesser.result = record { sfits = c.lesser.type_inv } in
    let fp : FitsSigned w128 c.price.result = record { sfits = c.price.type_inv } in
    let h = simp to_z-of_z at c.lesser.ensures in
    let e = h ∙ ap (λ (z : ℤ). lesser z c.args.least) (c.price.ensures ∙ ap f c.list_at-x.ensures) in
    simp to_z-of_z (subst (λ (z : ℤ). IsSomeBelow f c.args.part.now (c.args.k + 1) z) (sym e) t)

pub returns-else-is_pick : goal.returns-else-is_pick
returns-else-is_pick c =
    let f = small_price c.args.small.now.seed c.args.small.now.lots c.args.leaf.now in
    least_past f c.args.part.now c.args.k c.args.least c.requires.within (λ p. c.is_pick.ensures.no c.if-is_pick.false (subst (λ (z : List ℕ). IsPick c.args.part.now 1 2 z) (sym c.list_at-x.ensures) p)) c.requires.so_far
