use Rattle.std.proofs.Common.{◌≡◌, ◌≤◌, ◌<◌, ℤ, ◌≤ℤ◌, ◌<ℤ◌, ◌-ℤ◌, unsigned_abs, FitsSigned, to_z, of_z, false, arith, subst, sym}
use Rattle.std.specs.Int.{w128}
use Rattle.std.specs.Int.Signed.{lt_z}
use Rattle.std.proofs.lemmas.Int.{ints, to_z-of_z}
use Rattle.gap_lines.proofs.Sizes.{value_fits, place_fits, above_not, less_by_test, most_by_test}
use Rattle.gap_lines.proofs.BestLaws.{rising_to}
use Rattle.gap_lines.proofs.nearest.first_top.Goals as goal

below : (x y z : ℤ) → x ≤ℤ y → y <ℤ z → x <ℤ z
below x y z h k = omega (arith, ints)

within : (f a t : ℤ) → unsigned_abs f ≤ 1000000000000000000000000000000 → unsigned_abs t ≤ 1000000000000000000000000000000 → to_z w128 (of_z w128 f) ≤ℤ a → a ≤ℤ t → unsigned_abs a ≤ 1000000000000000000000000000000
within f a t hf ht h k = omega (arith, ints)

nearer : (t r p a : ℤ) → p ≡ a → p <ℤ r → r ≤ℤ t → unsigned_abs (t -ℤ r) < unsigned_abs (t -ℤ a)
nearer t r p a e h k = omega (arith, ints)

passed : (f p r a : ℤ) → p ≡ a → f ≤ℤ a → p <ℤ r → f ≤ℤ r
passed f p r a e h k = omega (arith, ints)

ends : (a t : ℤ) → FitsSigned w128 t → a ≤ℤ t → lt_z a (to_z w128 (of_z w128 t)) ≡ false → t ≡ a
ends a t f h e = let b = to_z-of_z w128 t f in let m = most_by_test a (to_z w128 (of_z w128 t)) e in omega (arith, ints)

pub loop-at-init : goal.loop-at-init
loop-at-init g c =
    rw (to_z-of_z w128 c.args.floor c.ranges.floor, to_z-of_z w128 c.args.from c.ranges.from)
    (record {
      from = c.requires.from;
      to = c.requires.to;
      before = c.requires.before;
    })

pub probe-line-requires : goal.probe-line-requires
probe-line-requires g c =
    let i = c.loop-at.invariant in
    record { small = within c.args.floor (to_z w128 c.loop-at.at-bits) c.args.top.now.place c.requires.small c.args.top.now.place_small i.from i.to }

pub returns-then-line-top-clause-from : goal.returns-then-line-top-clause-from
returns-then-line-top-clause-from g c =
    let i = c.loop-at.invariant in
    subst (λ (z : ℤ). z ≤ℤ c.probe-line.result.place) (to_z-of_z w128 c.args.floor c.ranges.floor) (subst (λ (z : ℤ). to_z w128 (of_z w128 c.args.floor) ≤ℤ z) (sym c.probe-line.ensures.place) i.from)

pub returns-then-line-top-clause-first : goal.returns-then-line-top-clause-first
returns-then-line-top-clause-first g c = λ h b k.
    let i = c.loop-at.invariant in
    let e = c.probe-line.ensures.place in
    i.before (subst (λ (z : ℤ). z <ℤ to_z w128 c.loop-at.at-bits) (sym (to_z-of_z w128 c.args.floor c.ranges.floor)) (subst (λ (z : ℤ). c.args.floor <ℤ z) e h)) b (subst (λ (z : ℤ). b <ℤ z) e k)

pub reach_within-at-requires-clause-rising : goal.reach_within-at-requires-clause-rising
reach_within-at-requires-clause-rising g c =
    let l = c.probe-line.result in
    let t = c.args.top.now in
    let ahead = subst (λ (z : ℤ). z <ℤ t.place) (sym c.probe-line.ensures.place) (subst (λ (z : ℤ). to_z w128 c.loop-at.at-bits <ℤ z) (to_z-of_z w128 t.place (place_fits t)) (less_by_test (to_z w128 c.loop-at.at-bits) (to_z w128 (of_z w128 t.place)) c.loop-at-test.true)) in
    rising_to (g.C.Curve.value c.args.curve.now) l t c.probe-line.ensures.line c.requires.top (above_not t.value l.value (value_fits t) (value_fits l) c.if-line-top.false) ahead

pub loop-at-smaller : goal.loop-at-smaller
loop-at-smaller g c =
    let r = c.reach_within-at.result in
    let f : FitsSigned w128 r = record { sfits = c.reach_within-at.type_inv } in
    let t = c.args.top.now.place in
    subst (λ (z : ℤ). unsigned_abs (t -ℤ z) < unsigned_abs (t -ℤ to_z w128 c.loop-at.at-bits)) (sym (to_z-of_z w128 r f)) (nearer t r c.probe-line.result.place (to_z w128 c.loop-at.at-bits) c.probe-line.ensures.place c.reach_within-at.ensures.past c.reach_within-at.ensures.within)

pub loop-at-preserved : goal.loop-at-preserved
loop-at-preserved g c =
    let i = c.loop-at.invariant in
    let r = c.reach_within-at.result in
    let f : FitsSigned w128 r = record { sfits = c.reach_within-at.type_inv } in
    let e = sym (to_z-of_z w128 r f) in
    let value = g.C.Curve.value c.args.curve.now in
    let t = c.args.top.now in
    record {
      from = subst (λ (z : ℤ). to_z w128 (of_z w128 c.args.floor) ≤ℤ z) e (passed (to_z w128 (of_z w128 c.args.floor)) c.probe-line.result.place r (to_z w128 c.loop-at.at-bits) c.probe-line.ensures.place i.from c.reach_within-at.ensures.past);
      to = subst (λ (z : ℤ). z ≤ℤ t.place) e c.reach_within-at.ensures.within;
      before = λ h b k. below (value b) _ t.value (c.probe-line.ensures.line.above b) (c.reach_within-at.ensures.below b (subst (λ (z : ℤ). b <ℤ z) (to_z-of_z w128 r f) k));
    }

pub returns-clause-first : goal.returns-clause-first
returns-clause-first g c = λ h b k.
    let i = c.loop-at.invariant in
    let t = c.args.top.now in
    let e = ends (to_z w128 c.loop-at.at-bits) t.place (place_fits t) i.to c.loop-at-test.false in
    i.before (subst (λ (z : ℤ). z <ℤ to_z w128 c.loop-at.at-bits) (sym (to_z-of_z w128 c.args.floor c.ranges.floor)) (subst (λ (z : ℤ). c.args.floor <ℤ z) e h)) b (subst (λ (z : ℤ). b <ℤ z) e k)
