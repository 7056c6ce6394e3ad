use Rattle.std.proofs.Common.{◌≡◌, ◌≤◌, ℤ, pos, negsuc, unsigned_abs, to_z, of_z, ◌+ℤ◌, ◌-ℤ◌, ◌*ℤ◌, ◌≤ℤ◌, ◌<ℤ◌, FitsSigned, arith, rules, sym, ap, ◌∙◌}
use Rattle.std.specs.Int.{int_min, w32, w128}
use Rattle.std.proofs.lemmas.Int.{ints, clamps, to_z-of_z}
use Rattle.gap_lines.proofs.Sizes.{less_by_test, most_by_test, within_by_test, beyond_by_test}
use Rattle.gap_lines.specs.declared.line.Line.{Line}
use Rattle.gap_lines.specs.Lines.{IsLine, height}
use Rattle.gap_tests_market.proofs.roofs.RoofCurve.probe.Goals as goal
use Rattle.gap_tests_market.proofs.roofs.RoofCurve.probe.Goals.{else-rising-lt0-via-then-rising-lt0+else-rising-falling, else-rising-lt0-via-else-rising-lt0}

-- the height of a roof whose top is 0 from f to e
abbrev roof : ℤ → ℤ → ℤ → ℤ
roof f e t = int_min (pos 0) (int_min (t -ℤ f) (e -ℤ t))

line_of : (value : ℤ → ℤ) (l : Line) (t v s : ℤ) → l.place ≡ t → l.value ≡ v → l.slope ≡ s → value t ≡ v → ((b : ℤ) → value b ≤ℤ (v +ℤ ((b -ℤ t) *ℤ s))) → IsLine value l
unfolding height
line_of value l t v s ep ev es e a = record {
  exact = ap value ep ∙ e ∙ sym ev;
  above = λ b. rw (ep, ev, es) (a b);
}

here_rising : (f e t : ℤ) → (t -ℤ f) <ℤ pos 0 → (t -ℤ f) ≤ℤ (e -ℤ t) → roof f e t ≡ t -ℤ f
here_rising f e t h k = omega (arith, ints, clamps)

here_falling : (f e t : ℤ) → (e -ℤ t) <ℤ pos 0 → (e -ℤ t) ≤ℤ (t -ℤ f) → roof f e t ≡ e -ℤ t
here_falling f e t h k = omega (arith, ints, clamps)

here_flat : (f e t : ℤ) → pos 0 ≤ℤ (t -ℤ f) → pos 0 ≤ℤ (e -ℤ t) → roof f e t ≡ pos 0
here_flat f e t h k = omega (arith, ints, clamps)

below_rising : (f e b : ℤ) → roof f e b ≤ℤ (b -ℤ f)
below_rising f e b = omega (arith, ints, clamps)

below_falling : (f e b : ℤ) → roof f e b ≤ℤ (e -ℤ b)
below_falling f e b = omega (arith, ints, clamps)

below_flat : (f e b : ℤ) → roof f e b ≤ℤ pos 0
below_flat f e b = omega (arith, ints, clamps)

-- the two differences as the code forms them
past_back : (t f g : ℤ) → unsigned_abs t ≤ 1000000000000000000000000000000 → FitsSigned w32 f → g ≡ to_z w32 (of_z w32 f) → to_z w128 (of_z w128 (to_z w128 (of_z w128 t) -ℤ to_z w128 (of_z w128 g))) ≡ t -ℤ f
past_back t f g h k e = rw (e, to_z-of_z w32 f k) (omega (arith, ints))

left_back : (t e g : ℤ) → unsigned_abs t ≤ 1000000000000000000000000000000 → FitsSigned w32 e → g ≡ to_z w32 (of_z w32 e) → to_z w128 (of_z w128 (to_z w128 (of_z w128 g) -ℤ to_z w128 (of_z w128 t))) ≡ e -ℤ t
left_back t e g h k i = rw (i, to_z-of_z w32 e k) (omega (arith, ints))

pub returns-then-rising-falling-clause-line : goal.returns-then-rising-falling-clause-line
returns-then-rising-falling-clause-line c =
    let t = c.args.t in
    let f = c.args.self.now.from in
    let e = c.args.self.now.to in
    let past = past_back t f c.from.result c.requires.small (search rules) c.from.ensures in
    let left = left_back t e c.from-2.result c.requires.small (search rules) c.from-2.ensures in
    let h : (t -ℤ f) <ℤ pos 0 = less_by_test (t -ℤ f) (pos 0) (rw (sym past) c.if-rising-lt0.true) in
    let k : (t -ℤ f) ≤ℤ (e -ℤ t) = within_by_test (t -ℤ f) (e -ℤ t) (rw (sym past, sym left) c.if-rising-falling.true) in
    line_of (roof f e) c.line.result t (t -ℤ f) (pos 1) (c.line.ensures.place ∙ to_z-of_z w128 t c.ranges.t) (c.line.ensures.value ∙ past) c.line.ensures.slope (here_rising f e t h k) (λ b. let a = below_rising f e b in omega (arith, ints))

pub returns-then-falling-lt0-clause-line : goal.returns-then-falling-lt0-clause-line
returns-then-falling-lt0-clause-line c =
    let t = c.args.t in
    let f = c.args.self.now.from in
    let e = c.args.self.now.to in
    let past = past_back t f c.from.result c.requires.small (search rules) c.from.ensures in
    let left = left_back t e c.from-2.result c.requires.small (search rules) c.from-2.ensures in
    let h : (e -ℤ t) <ℤ pos 0 = less_by_test (e -ℤ t) (pos 0) (rw (sym left) c.if-falling-lt0.true) in
    let k : (e -ℤ t) ≤ℤ (t -ℤ f) = elim c.else-rising-lt0.branch [
      | else-rising-lt0-via-then-rising-lt0+else-rising-falling w ↦ let m = beyond_by_test (t -ℤ f) (e -ℤ t) (rw (sym past, sym left) w.if-rising-falling.false) in omega (arith, ints)
      | else-rising-lt0-via-else-rising-lt0 w ↦ let m = most_by_test (t -ℤ f) (pos 0) (rw (sym past) w.if-rising-lt0.false) in omega (arith, ints)
    ] in
    let r = c.line-then-falling-lt0 in
    line_of (roof f e) r.result t (e -ℤ t) (negsuc 0) (r.ensures.place ∙ to_z-of_z w128 t c.ranges.t) (r.ensures.value ∙ left) r.ensures.slope (here_falling f e t h k) (λ b. let a = below_falling f e b in omega (arith, ints))

pub returns-clause-line : goal.returns-clause-line
returns-clause-line c =
    let t = c.args.t in
    let f = c.args.self.now.from in
    let e = c.args.self.now.to in
    let past = past_back t f c.from.result c.requires.small (search rules) c.from.ensures in
    let left = left_back t e c.from-2.result c.requires.small (search rules) c.from-2.ensures in
    let k : pos 0 ≤ℤ (e -ℤ t) = most_by_test (e -ℤ t) (pos 0) (rw (sym left) c.if-falling-lt0.false) in
    let h : pos 0 ≤ℤ (t -ℤ f) = elim c.else-rising-lt0.branch [
      | else-rising-lt0-via-then-rising-lt0+else-rising-falling w ↦ let m = beyond_by_test (t -ℤ f) (e -ℤ t) (rw (sym past, sym left) w.if-rising-falling.false) in omega (arith, ints)
      | else-rising-lt0-via-else-rising-lt0 w ↦ most_by_test (t -ℤ f) (pos 0) (rw (sym past) w.if-rising-lt0.false)
    ] in
    let r = c.line-2 in
    line_of (roof f e) r.result t (pos 0) (pos 0) (r.ensures.place ∙ to_z-of_z w128 t c.ranges.t) r.ensures.value r.ensures.slope (here_flat f e t h k) (λ b. let a = below_flat f e b in omega (arith, ints))
