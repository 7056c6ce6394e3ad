-- Heights of lines, and what a line through a curve says of the curve on its sides.
use Rattle.std.proofs.Common.{◌≡◌, ℤ, pos, ◌+ℤ◌, ◌-ℤ◌, ◌*ℤ◌, ◌≤ℤ◌, ◌<ℤ◌, arith}
use Rattle.std.proofs.lemmas.Int.{ints}
use Rattle.gap_base.proofs.Ring.{expand, linear, product_not_negative, not_positive}
use Rattle.gap_lines.specs.declared.line.Line.{Line}
use Rattle.gap_lines.specs.Lines.{height, IsLine}

pub height_step : (a v s b c : ℤ) → height a v s c ≡ height a v s b +ℤ ((c -ℤ b) *ℤ s)
unfolding height
height_step a v s b c = simp expand (omega (arith, linear))

pub height_here : (a v s : ℤ) → height a v s a ≡ v
unfolding height
height_here a v s = simp expand (omega (arith, linear))

pub height_up : (a v s b c : ℤ) → pos 0 ≤ℤ s → b ≤ℤ c → height a v s b ≤ℤ height a v s c
height_up a v s b c h k = let e = height_step a v s b c in let p = product_not_negative (c -ℤ b) s (omega (arith, ints)) h in omega (arith, linear)

pub height_down : (a v s b c : ℤ) → s ≤ℤ pos 0 → b ≤ℤ c → height a v s c ≤ℤ height a v s b
height_down a v s b c h k = let e = height_step a v s b c in let p = not_positive (c -ℤ b) s (omega (arith, ints)) h in omega (arith, linear)

-- a line that rises bounds the curve up to its place by its value, and one that falls from there on
pub before_rising : (value : ℤ → ℤ) (l : Line) → IsLine value l → pos 0 ≤ℤ l.slope → (t : ℤ) → t ≤ℤ l.place → value t ≤ℤ l.value
before_rising value l k h t le =
    let a = k.above t in
    let b = height_up l.place l.value l.slope t l.place h le in
    let c = height_here l.place l.value l.slope in
    omega (arith, ints)

pub after_falling : (value : ℤ → ℤ) (l : Line) → IsLine value l → l.slope ≤ℤ pos 0 → (t : ℤ) → l.place ≤ℤ t → value t ≤ℤ l.value
after_falling value l k h t le =
    let a = k.above t in
    let b = height_down l.place l.value l.slope l.place t h le in
    let c = height_here l.place l.value l.slope in
    omega (arith, ints)

-- places before which a line that rises stays below a height
pub below_reach : (a v s k m b : ℤ) → pos 0 <ℤ s → (k *ℤ s) ≤ℤ ((m -ℤ pos 1) -ℤ v) → b ≤ℤ (a +ℤ k) → height a v s b <ℤ m
unfolding height
below_reach a v s k m b h f l =
    let p = product_not_negative ((a +ℤ k) -ℤ b) s (omega (arith, ints)) (omega (arith, ints)) in
    let e : ((a +ℤ k) -ℤ b) *ℤ s ≡ (k *ℤ s) -ℤ ((b -ℤ a) *ℤ s) = simp expand (omega (arith, linear)) in
    omega (arith, linear)
