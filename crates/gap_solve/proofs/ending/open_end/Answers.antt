use Rattle.std.proofs.Common.{◌≡◌, ℤ, ◌<ℤ◌, ◌≤ℤ◌, Some, None, rules, refl, sym, subst, arith}
use Rattle.std.proofs.lemmas.Int.{ints}
use mir.Syntax.{w128}
use mir.Val.{to_z, of_z}
use Rattle.gap_base.specs.Lots.{eighths_of}
use Rattle.gap_model.specs.declared.outcome.Outcome.TheVariants.{Bounded}
use Rattle.gap_tangent.specs.Seen.{setting_of}
use Rattle.gap_solve.specs.Searching.{IsOpenEnd}
use Rattle.gap_solve.proofs.FloorLaws.{floor_more}
use Rattle.gap_solve.proofs.ending.open_end.Goals as goal

pub returns-then-is_at_most-2 : goal.returns-then-is_at_most-2
returns-then-is_at_most-2 c =
    let s = setting_of c.args.bound.now in
    let l : to_z w128 (of_z w128 c.args.least) ≡ c.args.least = search rules in
    let n : to_z w128 (of_z w128 c.in_ok-w.number) ≡ c.in_ok-w.number = search rules in
    let b : to_z w128 (of_z w128 c.args.best.value) ≡ c.args.best.value = search rules in
    let above = c.is_at_most.ensures.no c.if-is_at_most.false in
    let below = c.is_at_most-2.ensures.yes c.if-is_at_most-2.true in
    let less : c.args.least <ℤ c.args.best.value = omega (arith, ints) in
    let more : c.in_ok-w.number ≤ℤ c.args.least = omega (arith, ints) in
    subst (λ (z : ℤ). IsOpenEnd s c.args.best c.args.least (Bounded (Some c.args.best) z) None) (sym l) (refl, refl, less, floor_more s (eighths_of c.args.best.lots) c.in_ok-w.number c.args.least more c.in_ok-w.ensures.floor)

pub returns-then-is_at_most-3 : goal.returns-then-is_at_most-3
returns-then-is_at_most-3 c =
    let l : to_z w128 (of_z w128 c.args.least) ≡ c.args.least = search rules in
    let n : to_z w128 (of_z w128 c.in_ok-w.number) ≡ c.in_ok-w.number = search rules in
    let b : to_z w128 (of_z w128 c.args.best.value) ≡ c.args.best.value = search rules in
    let above = c.is_at_most-2.ensures.no c.if-is_at_most-2.false in
    let reached = c.is_at_most-3.ensures.yes c.if-is_at_most-3.true in
    let less : c.args.least <ℤ c.in_ok-w.number = omega (arith, ints) in
    let more : c.args.best.value ≤ℤ c.in_ok-w.number = omega (arith, ints) in
    (refl, (c.in_ok-w.number, (c.in_ok-w.ensures.witness, c.in_ok-w.ensures.shows, less, c.in_ok-w.ensures.small), more))

pub returns : goal.returns
returns c =
    let s = setting_of c.args.bound.now in
    let l : to_z w128 (of_z w128 c.args.least) ≡ c.args.least = search rules in
    let n : to_z w128 (of_z w128 c.in_ok-w.number) ≡ c.in_ok-w.number = search rules in
    let b : to_z w128 (of_z w128 c.args.best.value) ≡ c.args.best.value = search rules in
    let above = c.is_at_most-2.ensures.no c.if-is_at_most-2.false in
    let below = c.is_at_most-3.ensures.no c.if-is_at_most-3.false in
    let less : c.args.least <ℤ c.in_ok-w.number = omega (arith, ints) in
    let more : c.in_ok-w.number <ℤ c.args.best.value = omega (arith, ints) in
    subst (λ (z : ℤ). IsOpenEnd s c.args.best c.args.least (Bounded (Some c.args.best) z) (Some c.in_ok-w.w)) (sym n)
    (refl, (c.in_ok-w.ensures.witness, c.in_ok-w.ensures.shows, less, c.in_ok-w.ensures.small), more, c.in_ok-w.ensures.floor)
