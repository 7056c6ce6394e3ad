use Rattle.std.proofs.Common.{◌≡◌, ◌<◌, ℤ, neg_ℤ, ◌≤ℤ◌, ◌<ℤ◌, unsigned_abs, arith, subst, sym}
use Rattle.std.specs.Int.{w128}
use Rattle.std.proofs.Math.IntN.{neg_ℤ-neg_ℤ}
use Rattle.std.proofs.lemmas.Int.{ints, to_z-of_z}
use Rattle.gap_lines.proofs.Sizes.{neg_back}
use Rattle.gap_lines.proofs.BestLaws.{best_nearest}
use Rattle.gap_lines.proofs.BracketLaws.{top_back}
use Rattle.gap_lines.proofs.search.best_place.Goals as goal

at_most : (x y z : ℤ) → x ≤ℤ y → y ≤ℤ z → x ≤ℤ z
at_most x y z h k = omega (arith, ints)

pub toward_zero-nearest-requires-clause-rise : goal.toward_zero-nearest-requires-clause-rise
toward_zero-nearest-requires-clause-rise g c = c.flipped-fall.ensures.forth (g.C.Curve.value c.args.curve.now) c.highest-found.ensures.fall

pub toward_zero-nearest-requires-clause-top : goal.toward_zero-nearest-requires-clause-top
toward_zero-nearest-requires-clause-top g c = c.flipped-top.ensures.forth (g.C.Curve.value c.args.curve.now) c.highest-found.ensures.top.line

pub returns-then-found-lt0-clause-line : goal.returns-then-found-lt0-clause-line
returns-then-found-lt0-clause-line g c = c.flipped.ensures.back (g.C.Curve.value c.args.curve.now) c.toward_zero-nearest.ensures.line

low_side : (low top flip near place : ℤ) → low ≤ℤ top → flip ≡ neg_ℤ top → near ≤ℤ flip → place ≡ neg_ℤ near → low ≤ℤ place
low_side low top flip near place h e k f = omega (arith, ints)

high_side : (high near place : ℤ) → neg_ℤ high ≤ℤ near → place ≡ neg_ℤ near → place ≤ℤ high
high_side high near place h e = omega (arith, ints)

as_high : (top flip near value : ℤ) → flip ≡ top → flip ≤ℤ near → value ≡ near → top ≤ℤ value
as_high top flip near value e h f = omega (arith, ints)

other_side : (b high : ℤ) → b ≤ℤ high → neg_ℤ high ≤ℤ neg_ℤ b
other_side b high h = omega (arith, ints)

as_near : (b near place : ℤ) → place ≡ neg_ℤ near → unsigned_abs b < unsigned_abs place → unsigned_abs (neg_ℤ b) < unsigned_abs near
as_near b near place e h = omega (arith, ints)

pub returns-then-found-lt0-clause-best : goal.returns-then-found-lt0-clause-best
returns-then-found-lt0-clause-best g c =
    let value = g.C.Curve.value c.args.curve.now in
    let top = c.highest-found.result.top in
    let flip = c.flipped-top.result in
    let near = c.toward_zero-nearest.result in
    let r = c.flipped.result in
    let n = c.toward_zero-nearest.ensures in
    let e = neg_back c.args.high c.requires.high_small in
    let it = top_back value c.args.low c.args.high top c.ranges.low c.ranges.high c.highest-found.ensures.top in
    let ep = c.flipped.ensures.place in
    best_nearest value c.args.low c.args.high top r it (c.flipped.ensures.back value n.line)
    (low_side c.args.low top.place flip.place near.place r.place it.from c.flipped-top.ensures.place n.to ep)
    (high_side c.args.high near.place r.place (subst (λ (z : ℤ). z ≤ℤ near.place) e n.from) ep)
    (as_high top.value flip.value near.value r.value c.flipped-top.ensures.value n.reached c.flipped.ensures.value)
    (λ b lb hb k. subst (λ (m : ℤ). value b <ℤ m) c.flipped-top.ensures.value (subst (λ (t : ℤ). value t <ℤ flip.value) (neg_ℤ-neg_ℤ b) (n.first (neg_ℤ b) (subst (λ (z : ℤ). z ≤ℤ neg_ℤ b) (sym e) (other_side b c.args.high hb)) (as_near b near.place r.place ep k))))

pub returns-clause-best : goal.returns-clause-best
returns-clause-best g c =
    let value = g.C.Curve.value c.args.curve.now in
    let top = c.highest-found.result.top in
    let n = c.toward_zero.ensures in
    let it = top_back value c.args.low c.args.high top c.ranges.low c.ranges.high c.highest-found.ensures.top in
    let e = to_z-of_z w128 c.args.low c.ranges.low in
    best_nearest value c.args.low c.args.high top c.toward_zero.result it n.line (subst (λ (z : ℤ). z ≤ℤ c.toward_zero.result.place) e n.from) (at_most c.toward_zero.result.place top.place c.args.high n.to it.to) n.reached
    (λ b lb hb near. n.first b (subst (λ (z : ℤ). z ≤ℤ b) (sym e) lb) near)
