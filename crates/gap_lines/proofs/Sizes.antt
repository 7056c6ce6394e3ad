-- Sizes of heights, and comparisons and sums of places as machine numbers.
use Rattle.std.proofs.Common.{◌≡◌, ℕ, ◌≤◌, ℤ, pos, neg_ℤ, ◌+ℤ◌, ◌-ℤ◌, ◌*ℤ◌, ◌≤ℤ◌, ◌<ℤ◌, unsigned_abs, FitsSigned, to_z, of_z, arith, lit<, true, false, sym, ap, ◌∙◌, subst}
use Rattle.std.specs.Int.{w128}
use Rattle.std.specs.Int.Signed.{lt_z, le_z}
use Rattle.std.proofs.lemmas.Int.{ints, to_z-of_z}
use Rattle.gap_base.proofs.Machine.{fits_of, back_of, unsigned_abs-product_le}
use Rattle.gap_lines.specs.declared.line.Line.{Line}
use Rattle.gap_lines.specs.Lines.{height, on}

-- what a comparison of signed numbers says
pub less_by_test : (a b : ℤ) → lt_z a b ≡ true → a <ℤ b
less_by_test a b e = grind (arith, ints)

pub most_by_test : (a b : ℤ) → lt_z a b ≡ false → b ≤ℤ a
most_by_test a b e = grind (arith, ints)

pub within_by_test : (a b : ℤ) → le_z a b ≡ true → a ≤ℤ b
within_by_test a b e = grind (arith, ints)

pub beyond_by_test : (a b : ℤ) → le_z a b ≡ false → b <ℤ a
beyond_by_test a b e = grind (arith, ints)

-- the numbers of a line fit 128 bits
pub place_fits : (l : Line) → FitsSigned w128 l.place
place_fits l = fits_of l.place 1000000000000000000000000000000 l.place_small (lit< tt)

pub value_fits : (l : Line) → FitsSigned w128 l.value
value_fits l = fits_of l.value 10000000000000000000000000000000000000 l.value_small (lit< tt)

pub slope_fits : (l : Line) → FitsSigned w128 l.slope
slope_fits l = fits_of l.slope 10000000 l.slope_small (lit< tt)

pub distance_small : (a b : ℤ) → unsigned_abs a ≤ 1000000000000000000000000000000 → unsigned_abs b ≤ 1000000000000000000000000000001 → unsigned_abs (b -ℤ a) ≤ 2000000000000000000000000000001
distance_small a b h k = omega (arith, ints)

pub climb_small : (a s b : ℤ) → unsigned_abs a ≤ 1000000000000000000000000000000 → unsigned_abs s ≤ 10000000 → unsigned_abs b ≤ 1000000000000000000000000000001 → unsigned_abs ((b -ℤ a) *ℤ s) ≤ 20000000000000000000000000000010000000
climb_small a s b h k m = unsigned_abs-product_le (b -ℤ a) s 2000000000000000000000000000001 10000000 (distance_small a b h m) k

pub height_small : (a v s b : ℤ) → unsigned_abs a ≤ 1000000000000000000000000000000 → unsigned_abs v ≤ 10000000000000000000000000000000000000 → unsigned_abs s ≤ 10000000 → unsigned_abs b ≤ 1000000000000000000000000000001 → unsigned_abs (height a v s b) ≤ 31000000000000000000000000000000000000
unfolding height
height_small a v s b h n k m = summed v ((b -ℤ a) *ℤ s) n (climb_small a s b h k m)
  where
    summed : (x y : ℤ) → unsigned_abs x ≤ 10000000000000000000000000000000000000 → unsigned_abs y ≤ 20000000000000000000000000000010000000 → unsigned_abs (x +ℤ y) ≤ 31000000000000000000000000000000000000
    summed x y h k = omega (arith, ints)

-- the height of a line as the code forms it
pub climb_fits : (l : Line) (b : ℤ) → FitsSigned w128 b → unsigned_abs b ≤ 1000000000000000000000000000001 → FitsSigned w128 (to_z w128 (of_z w128 (to_z w128 (of_z w128 b) -ℤ to_z w128 (of_z w128 l.place))) *ℤ to_z w128 (of_z w128 l.slope))
climb_fits l b fb m =
    let fa = place_fits l in
    let fs = slope_fits l in
    let fd : FitsSigned w128 (b -ℤ l.place) = fits_of (b -ℤ l.place) 2000000000000000000000000000001 (distance_small l.place b l.place_small m) (lit< tt) in
    rw (to_z-of_z w128 b fb, to_z-of_z w128 l.place fa, to_z-of_z w128 l.slope fs, to_z-of_z w128 (b -ℤ l.place) fd)
    (fits_of ((b -ℤ l.place) *ℤ l.slope) 20000000000000000000000000000010000000 (climb_small l.place l.slope b l.place_small l.slope_small m) (lit< tt))

pub climb_back : (l : Line) (b : ℤ) → FitsSigned w128 b → unsigned_abs b ≤ 1000000000000000000000000000001 → to_z w128 (of_z w128 (to_z w128 (of_z w128 (to_z w128 (of_z w128 b) -ℤ to_z w128 (of_z w128 l.place))) *ℤ to_z w128 (of_z w128 l.slope))) ≡ (b -ℤ l.place) *ℤ l.slope
climb_back l b fb m =
    let fa = place_fits l in
    let fs = slope_fits l in
    let fd : FitsSigned w128 (b -ℤ l.place) = fits_of (b -ℤ l.place) 2000000000000000000000000000001 (distance_small l.place b l.place_small m) (lit< tt) in
    let fp = fits_of ((b -ℤ l.place) *ℤ l.slope) 20000000000000000000000000000010000000 (climb_small l.place l.slope b l.place_small l.slope_small m) (lit< tt) in
    rw (to_z-of_z w128 b fb, to_z-of_z w128 l.place fa, to_z-of_z w128 l.slope fs, to_z-of_z w128 (b -ℤ l.place) fd)
    (to_z-of_z w128 ((b -ℤ l.place) *ℤ l.slope) fp)

pub on_fits : (l : Line) (b : ℤ) → unsigned_abs b ≤ 1000000000000000000000000000001 → FitsSigned w128 (l.value +ℤ ((b -ℤ l.place) *ℤ l.slope))
unfolding height
on_fits l b m = fits_of (l.value +ℤ ((b -ℤ l.place) *ℤ l.slope)) 31000000000000000000000000000000000000 (height_small l.place l.value l.slope b l.place_small l.value_small l.slope_small m) (lit< tt)

pub height_back : (l : Line) (b : ℤ) → FitsSigned w128 b → unsigned_abs b ≤ 1000000000000000000000000000001 → to_z w128 (of_z w128 (to_z w128 (of_z w128 l.value) +ℤ to_z w128 (of_z w128 (to_z w128 (of_z w128 (to_z w128 (of_z w128 b) -ℤ to_z w128 (of_z w128 l.place))) *ℤ to_z w128 (of_z w128 l.slope))))) ≡ on l b
unfolding height
height_back l b fb m =
    let fv = value_fits l in
    let fh = on_fits l b m in
    rw (climb_back l b fb m, to_z-of_z w128 l.value fv) (to_z-of_z w128 (l.value +ℤ ((b -ℤ l.place) *ℤ l.slope)) fh)

-- differences and sums of places as the code forms them
pub apart_fits : (a b : ℤ) → unsigned_abs a ≤ 1000000000000000000000000000000 → unsigned_abs b ≤ 1000000000000000000000000000000 → FitsSigned w128 (to_z w128 (of_z w128 a) -ℤ to_z w128 (of_z w128 b))
apart_fits a b h k = rw (back_of a 1000000000000000000000000000000 h (lit< tt), back_of b 1000000000000000000000000000000 k (lit< tt)) (fits_of (a -ℤ b) 2000000000000000000000000000001 (both a b h k) (lit< tt))
  where
    both : (a b : ℤ) → unsigned_abs a ≤ 1000000000000000000000000000000 → unsigned_abs b ≤ 1000000000000000000000000000000 → unsigned_abs (a -ℤ b) ≤ 2000000000000000000000000000001
    both a b h k = omega (arith, ints)

-- steps that end before another place
pub short_of : (a t k : ℤ) → unsigned_abs a ≤ 1000000000000000000000000000000 → unsigned_abs t ≤ 1000000000000000000000000000000 → FitsSigned w128 k → lt_z (to_z w128 (of_z w128 k)) (to_z w128 (of_z w128 (to_z w128 (of_z w128 t) -ℤ to_z w128 (of_z w128 a)))) ≡ true → k <ℤ (t -ℤ a)
short_of a t k h m f e =
    let ba = back_of a 1000000000000000000000000000000 h (lit< tt) in
    let bt = back_of t 1000000000000000000000000000000 m (lit< tt) in
    let bk = to_z-of_z w128 k f in
    let l = less_by_test (to_z w128 (of_z w128 k)) (to_z w128 (of_z w128 (to_z w128 (of_z w128 t) -ℤ to_z w128 (of_z w128 a)))) e in
    omega (arith, ints)

pub not_short_of : (a t k : ℤ) → unsigned_abs a ≤ 1000000000000000000000000000000 → unsigned_abs t ≤ 1000000000000000000000000000000 → FitsSigned w128 k → lt_z (to_z w128 (of_z w128 k)) (to_z w128 (of_z w128 (to_z w128 (of_z w128 t) -ℤ to_z w128 (of_z w128 a)))) ≡ false → (t -ℤ a) ≤ℤ k
not_short_of a t k h m f e =
    let ba = back_of a 1000000000000000000000000000000 h (lit< tt) in
    let bt = back_of t 1000000000000000000000000000000 m (lit< tt) in
    let bk = to_z-of_z w128 k f in
    let l = most_by_test (to_z w128 (of_z w128 k)) (to_z w128 (of_z w128 (to_z w128 (of_z w128 t) -ℤ to_z w128 (of_z w128 a)))) e in
    omega (arith, ints)

pub after_steps_fits : (a k : ℤ) → unsigned_abs a ≤ 1000000000000000000000000000000 → pos 0 ≤ℤ k → k <ℤ pos 2000000000000000000000000000001 → FitsSigned w128 (to_z w128 (of_z w128 a) +ℤ to_z w128 (of_z w128 k))
after_steps_fits a k h p m = omega (arith, ints)

pub after_steps_back : (a k : ℤ) → unsigned_abs a ≤ 1000000000000000000000000000000 → pos 0 ≤ℤ k → k <ℤ pos 2000000000000000000000000000001 → to_z w128 (of_z w128 (to_z w128 (of_z w128 (to_z w128 (of_z w128 a) +ℤ to_z w128 (of_z w128 k))) +ℤ pos 1)) ≡ (a +ℤ k) +ℤ pos 1
after_steps_back a k h p m = omega (arith, ints)

pub few_steps : (a t k : ℤ) → unsigned_abs a ≤ 1000000000000000000000000000000 → unsigned_abs t ≤ 1000000000000000000000000000000 → k <ℤ (t -ℤ a) → k <ℤ pos 2000000000000000000000000000001
few_steps a t k h m l = omega (arith, ints)

pub after_steps_more : (a k : ℤ) → unsigned_abs a ≤ 1000000000000000000000000000000 → pos 0 ≤ℤ k → k <ℤ pos 2000000000000000000000000000001 → FitsSigned w128 (to_z w128 (of_z w128 (to_z w128 (of_z w128 a) +ℤ to_z w128 (of_z w128 k))) +ℤ pos 1)
after_steps_more a k h p m = omega (arith, ints)

short_back : (m v : ℤ) → unsigned_abs m ≤ 10000000000000000000000000000000000000 → unsigned_abs v ≤ 10000000000000000000000000000000000000 → to_z w128 (of_z w128 (to_z w128 (of_z w128 (to_z w128 (of_z w128 m) -ℤ pos 1)) -ℤ to_z w128 (of_z w128 v))) ≡ (m -ℤ pos 1) -ℤ v
short_back m v h k = omega (arith, ints)

-- what steps of a slope take of what is short
pub steps_most : (k s m v : ℤ) → FitsSigned w128 s → unsigned_abs m ≤ 10000000000000000000000000000000000000 → unsigned_abs v ≤ 10000000000000000000000000000000000000 → (k *ℤ to_z w128 (of_z w128 s)) ≤ℤ to_z w128 (of_z w128 (to_z w128 (of_z w128 (to_z w128 (of_z w128 m) -ℤ pos 1)) -ℤ to_z w128 (of_z w128 v))) → (k *ℤ s) ≤ℤ ((m -ℤ pos 1) -ℤ v)
steps_most k s m v fs hm hv h =
    let raw = to_z w128 (of_z w128 (to_z w128 (of_z w128 (to_z w128 (of_z w128 m) -ℤ pos 1)) -ℤ to_z w128 (of_z w128 v))) in
    subst (λ (x : ℤ). (k *ℤ s) ≤ℤ x) (short_back m v hm hv) (subst (λ (x : ℤ). (k *ℤ x) ≤ℤ raw) (to_z-of_z w128 s fs) h)

-- the place before and the place after one
pub under_back : (a : ℤ) → unsigned_abs a ≤ 1000000000000000000000000000001 → to_z w128 (of_z w128 (to_z w128 (of_z w128 a) -ℤ pos 1)) ≡ a -ℤ pos 1
under_back a h = omega (arith, ints)

pub over_back : (a : ℤ) → unsigned_abs a ≤ 1000000000000000000000000000001 → to_z w128 (of_z w128 (to_z w128 (of_z w128 a) +ℤ pos 1)) ≡ a +ℤ pos 1
over_back a h = omega (arith, ints)

-- a test of two numbers that fit
pub not_above : (x m : ℤ) → FitsSigned w128 x → FitsSigned w128 m → le_z (to_z w128 (of_z w128 x)) (to_z w128 (of_z w128 m)) ≡ true → x ≤ℤ m
not_above x m fx fm h =
    let ex = to_z-of_z w128 x fx in
    let em = to_z-of_z w128 m fm in
    let t = within_by_test (to_z w128 (of_z w128 x)) (to_z w128 (of_z w128 m)) h in
    omega (arith, ints)

pub less_above : (x m : ℤ) → FitsSigned w128 x → FitsSigned w128 m → lt_z (to_z w128 (of_z w128 x)) (to_z w128 (of_z w128 m)) ≡ true → x <ℤ m
less_above x m fx fm h =
    let ex = to_z-of_z w128 x fx in
    let em = to_z-of_z w128 m fm in
    let t = less_by_test (to_z w128 (of_z w128 x)) (to_z w128 (of_z w128 m)) h in
    omega (arith, ints)

pub rises : (l : Line) → lt_z (pos 0) (to_z w128 (of_z w128 l.slope)) ≡ true → pos 0 <ℤ l.slope
rises l e = less_by_test (pos 0) l.slope (sym (ap (λ (x : ℤ). lt_z (pos 0) x) (to_z-of_z w128 l.slope (slope_fits l))) ∙ e)

pub rises_not : (l : Line) → lt_z (pos 0) (to_z w128 (of_z w128 l.slope)) ≡ false → l.slope ≤ℤ pos 0
rises_not l e = most_by_test (pos 0) l.slope (sym (ap (λ (x : ℤ). lt_z (pos 0) x) (to_z-of_z w128 l.slope (slope_fits l))) ∙ e)

pub falls : (l : Line) → lt_z (to_z w128 (of_z w128 l.slope)) (pos 0) ≡ true → l.slope <ℤ pos 0
falls l e = less_by_test l.slope (pos 0) (sym (ap (λ (x : ℤ). lt_z x (pos 0)) (to_z-of_z w128 l.slope (slope_fits l))) ∙ e)

pub falls_not : (l : Line) → lt_z (to_z w128 (of_z w128 l.slope)) (pos 0) ≡ false → pos 0 ≤ℤ l.slope
falls_not l e = most_by_test l.slope (pos 0) (sym (ap (λ (x : ℤ). lt_z x (pos 0)) (to_z-of_z w128 l.slope (slope_fits l))) ∙ e)

-- a place between two ends
pub between_small : (below above p : ℤ) → unsigned_abs below ≤ 1000000000000000000000000000001 → unsigned_abs above ≤ 1000000000000000000000000000001 → below <ℤ p → p <ℤ above → unsigned_abs p ≤ 1000000000000000000000000000001
between_small below above p h k a b = omega (arith, ints)

pub above_not : (x m : ℤ) → FitsSigned w128 x → FitsSigned w128 m → le_z (to_z w128 (of_z w128 x)) (to_z w128 (of_z w128 m)) ≡ false → m <ℤ x
above_not x m fx fm h =
    let ex = to_z-of_z w128 x fx in
    let em = to_z-of_z w128 m fm in
    let t = beyond_by_test (to_z w128 (of_z w128 x)) (to_z w128 (of_z w128 m)) h in
    omega (arith, ints)

-- the other side of 0
pub neg_back : (a : ℤ) → unsigned_abs a ≤ 1000000000000000000000000000000 → to_z w128 (of_z w128 (pos 0 -ℤ to_z w128 (of_z w128 a))) ≡ neg_ℤ a
neg_back a h = omega (arith, ints)

pub size_back : (x : ℤ) (m : ℕ) → FitsSigned w128 x → unsigned_abs x ≤ m → unsigned_abs (to_z w128 (of_z w128 x)) ≤ m
size_back x m f h = rw (to_z-of_z w128 x f) h
