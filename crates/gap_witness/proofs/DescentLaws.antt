-- The rounds of a tangent point lower a quadratic of it.
use Rattle.std.proofs.Common.{◌≡◌, ◌≢◌, ℕ, zero, suc, ◌+◌, ◌-◌, ◌*◌, ◌<◌, ◌≤◌, Bool, true, false, not, ◌&&◌, ◌||◌, cond, ltb, eqb, List, length, slice_index_or, Option, Some, None, ℤ, pos, ◌+ℤ◌, ◌-ℤ◌, ◌*ℤ◌, neg_ℤ, ◌≤ℤ◌, ◌<ℤ◌, unsigned_abs, refl, sym, ap, ◌∙◌, subst, arith}
use Rattle.std.specs.Prelude.{int_le}
use Rattle.std.proofs.lemmas.Int.{ints}
use Rattle.std.proofs.lemmas.Bool.Decides.{nat_tests}
use Rattle.gap_base.specs.Sums.{sum_below, at, moved}
use Rattle.gap_base.specs.Lots.{lots_at}
use Rattle.gap_base.specs.Markets.{IsMarket}
use Rattle.gap_base.proofs.Ring.{expand, pull, linear, product_positive}
use Rattle.gap_base.proofs.SumLaws.{sum_same, sum-moved}
use Rattle.gap_box.proofs.CountLaws.{both_true}
use Rattle.gap_model.specs.Settings.{Setting, IsSetting, shifted_cov, product_of}
use Rattle.gap_model.specs.Lagrangian.{reward_of}
use Rattle.gap_model.proofs.FormLaws.{shifted_symmetric, product_symmetric}
use Rattle.gap_tangent.specs.Terms.{tilt_of, gradient_of}
use Rattle.gap_tangent.proofs.TermLaws.{tilts_give}
use Rattle.gap_tangent.proofs.MoveLaws.{move_at, tilt_moved}
use Rattle.gap_witness.specs.Descent.{quadratic, drop_by, IsOver, IsMove}
use Rattle.gap_witness.specs.Frames.{level}
use Rattle.gap_witness.specs.Points.{Choice, lower_end, upper_end, gradient, giver, taker, curvature, room_between, step_of, step_between, is_idle, shifted_by, exchange, next_from, next, after, rounds, first_point, point}
use Rattle.gap_witness.proofs.BudgetLaws.{apart, next_keeps}
use Rattle.gap_witness.proofs.GradientLaws.{gradient_is}
use Rattle.gap_witness.proofs.PlaceLaws.{found_some, below_is}

quadratic_is : (s : Setting) (c : Choice) (y : List ℕ) → quadratic s c y ≡ (pos s.p *ℤ product_of s (lots_at y) (lots_at y)) -ℤ sum_below s.instance.market.assets (λ i. (level s c i +ℤ (pos 8 *ℤ reward_of s i)) *ℤ lots_at y i)
unfolding quadratic
quadratic_is s c y = refl

-- ---- the square and the linear part after a move
product_moved : (s : Setting) (y : List ℕ) (t i j : ℕ) → IsMarket s.instance.market → length y ≡ s.instance.market.assets → IsMove s y t i j → product_of s (lots_at (shifted_by y t i j)) (lots_at (shifted_by y t i j)) ≡ (product_of s (lots_at y) (lots_at y) +ℤ pos t *ℤ (tilt_of s (lots_at y) j +ℤ neg_ℤ (tilt_of s (lots_at y) i))) +ℤ pos t *ℤ (tilt_of s (lots_at (shifted_by y t i j)) j +ℤ neg_ℤ (tilt_of s (lots_at (shifted_by y t i j)) i))
product_moved s y t i j h e m =
    let n = s.instance.market.assets in
    let v = lots_at y in
    let w = lots_at (shifted_by y t i j) in
    let gives = m.giver in
    let takes = m.taker in
    let over = λ (f : ℕ → ℤ). sum_same n (λ k. f k *ℤ w k) (λ k. f k *ℤ moved v (pos t) i j k) (λ k l. ap (λ (z : ℤ). f k *ℤ z) (move_at y t i j k (omega arith) (omega arith) m.apart m.enough)) ∙ sum-moved n f v (pos t) i j gives takes in
    tilts_give s w w h
    ∙ (over (tilt_of s w)
    ∙ ap (λ (x : ℤ). x +ℤ pos t *ℤ (tilt_of s w j +ℤ neg_ℤ (tilt_of s w i)))
    (sym (tilts_give s w v h)
    ∙ (product_symmetric s w v h
    ∙ (tilts_give s v w h
    ∙ (over (tilt_of s v)
    ∙ ap (λ (x : ℤ). x +ℤ pos t *ℤ (tilt_of s v j +ℤ neg_ℤ (tilt_of s v i))) (sym (tilts_give s v v h)))))))

weighed_moved : (n : ℕ) (f : ℕ → ℤ) (y : List ℕ) (t i j : ℕ) → length y ≡ n → i < n → j < n → i ≢ j → t ≤ slice_index_or y i 0 → sum_below n (λ k. f k *ℤ lots_at (shifted_by y t i j) k) ≡ sum_below n (λ k. f k *ℤ lots_at y k) +ℤ pos t *ℤ (f j +ℤ neg_ℤ (f i))
weighed_moved n f y t i j e p q d h =
    sum_same n (λ k. f k *ℤ lots_at (shifted_by y t i j) k) (λ k. f k *ℤ moved (lots_at y) (pos t) i j k) (λ k l. ap (λ (z : ℤ). f k *ℤ z) (move_at y t i j k (omega arith) (omega arith) d h))
    ∙ sum-moved n f (lots_at y) (pos t) i j p q

-- ---- all together
joined : (p t ti tj ui uj aii ajj aij wi wj b b' l l' gi gj : ℤ) → b' ≡ (b +ℤ t *ℤ (tj +ℤ neg_ℤ ti)) +ℤ t *ℤ (uj +ℤ neg_ℤ ui) → ui ≡ ti +ℤ t *ℤ (aij +ℤ neg_ℤ aii) → uj ≡ tj +ℤ t *ℤ (ajj +ℤ neg_ℤ aij) → l' ≡ l +ℤ t *ℤ (wj +ℤ neg_ℤ wi) → gi ≡ ((pos 2 *ℤ p) *ℤ ti) +ℤ neg_ℤ wi → gj ≡ ((pos 2 *ℤ p) *ℤ tj) +ℤ neg_ℤ wj → (p *ℤ b') +ℤ neg_ℤ l' ≡ ((p *ℤ b) +ℤ neg_ℤ l) +ℤ neg_ℤ ((t *ℤ (gi +ℤ neg_ℤ gj)) +ℤ neg_ℤ ((p *ℤ ((aii +ℤ ajj) +ℤ neg_ℤ (pos 2 *ℤ aij))) *ℤ (t *ℤ t)))
joined p t ti tj ui uj aii ajj aij wi wj b b' l l' gi gj e1 e2 e3 e4 e5 e6 = rw (e1, e2, e3, e4, e5, e6) (simp expand (simp pull (omega (arith, linear))))

gradient_at : (s : Setting) (c : Choice) (y : List ℕ) (i : ℕ) → gradient s c y i ≡ ((pos 2 *ℤ pos s.p) *ℤ tilt_of s (lots_at y) i) +ℤ neg_ℤ (level s c i +ℤ (pos 8 *ℤ reward_of s i))
gradient_at s c y i = gradient_is s c y i ∙ regrouped (pos (2 * s.p) *ℤ tilt_of s (lots_at y) i) (level s c i) (pos 8 *ℤ reward_of s i)
  where
    regrouped : (a b c : ℤ) → (a -ℤ c) -ℤ b ≡ a +ℤ neg_ℤ (b +ℤ c)
    regrouped a b c = omega (arith, linear)

pub quadratic_moved : (s : Setting) (c : Choice) (y : List ℕ) (t i j : ℕ) → IsOver s c y → IsMove s y t i j → quadratic s c (shifted_by y t i j) ≡ quadratic s c y -ℤ drop_by s c y t i j
quadratic_moved s c y t i j o m =
    let n = s.instance.market.assets in
    let e = o.numbers in
    let gives = m.giver in
    let takes = m.taker in
    let h = o.setting.instance_is.market_is in
    let z = shifted_by y t i j in
    let w = λ (k : ℕ). level s c k +ℤ (pos 8 *ℤ reward_of s k) in
    let tilts = λ (k : ℕ). tilt_moved s y t i j k e (omega arith) (omega arith) m.apart m.enough in
    let swapped = ap (λ (x : ℤ). tilt_of s (lots_at y) j +ℤ pos t *ℤ (shifted_cov s j j +ℤ neg_ℤ x)) (shifted_symmetric s j i h takes gives) in
    quadratic_is s c z
    ∙ (joined (pos s.p) (pos t) (tilt_of s (lots_at y) i) (tilt_of s (lots_at y) j) (tilt_of s (lots_at z) i) (tilt_of s (lots_at z) j) (shifted_cov s i i) (shifted_cov s j j) (shifted_cov s i j) (w i) (w j) (product_of s (lots_at y) (lots_at y)) (product_of s (lots_at z) (lots_at z)) (sum_below n (λ k. w k *ℤ lots_at y k)) (sum_below n (λ k. w k *ℤ lots_at z k)) (gradient s c y i) (gradient s c y j) (product_moved s y t i j h e m) (tilts i) (tilts j ∙ swapped) (weighed_moved n w y t i j e gives takes m.apart m.enough) (gradient_at s c y i) (gradient_at s c y j)
    ∙ ap (λ (x : ℤ). x -ℤ drop_by s c y t i j) (sym (quadratic_is s c y)))

-- ---- a round
step_least : (room gap curve : ℕ) → 1 ≤ room → 1 ≤ step_of room gap curve
step_least room gap curve h = grind (arith, nat_tests)

step_most : (room gap curve : ℕ) → 1 ≤ room → step_of room gap curve ≤ room
step_most room gap curve h = grind (arith, nat_tests)

-- a step that isn't idle takes more than 0 off
drop_positive : (t : ℕ) (g c : ℤ) → 1 ≤ t → int_le g (c *ℤ pos t) ≡ false → pos 0 <ℤ ((pos t *ℤ g) +ℤ neg_ℤ (c *ℤ (pos t *ℤ pos t)))
drop_positive t g c h e =
    let a : pos 0 <ℤ (g +ℤ neg_ℤ (c *ℤ pos t)) = over g (c *ℤ pos t) e in
    let b = product_positive (pos t) (g +ℤ neg_ℤ (c *ℤ pos t)) (omega (arith, ints)) a in
    subst (λ (z : ℤ). pos 0 <ℤ z) (spread (pos t) g c) b
  where
    over : (a b : ℤ) → int_le a b ≡ false → pos 0 <ℤ (a +ℤ neg_ℤ b)
    over a b e = grind (arith, ints)

    spread : (t g c : ℤ) → t *ℤ (g +ℤ neg_ℤ (c *ℤ t)) ≡ (t *ℤ g) +ℤ neg_ℤ (c *ℤ (t *ℤ t))
    spread t g c = simp expand refl

lower_by : (a b d : ℤ) → a ≡ b -ℤ d → pos 0 <ℤ d → a <ℤ b
lower_by a b d e h = omega (arith, ints)

some_same : (y z : List ℕ) → (let A : Type 0 = Option (List ℕ) in ◌≡◌ {A = A} (Some y) (Some z)) → y ≡ z
some_same y z e = cc

none_some : {P : Type 0} (z : List ℕ) → (let A : Type 0 = Option (List ℕ) in ◌≡◌ {A = A} None (Some z)) → P
none_some z e = cc

second_false : (a b : Bool) → (a || b) ≡ false → b ≡ false
second_false true b e = cc
second_false false b e = e

exchange_lowers : (s : Setting) (c : Choice) (y z : List ℕ) (i j : ℕ) → IsOver s c y → i < length c.cells → lower_end c i < slice_index_or y i 0 → taker s c y i ≡ Some j → exchange s c y i (Some j) ≡ Some z → quadratic s c z <ℤ quadratic s c y
exchange_lowers s c y z i j o l g f e =
    let w = found_some (length c.cells) (λ j. not (eqb j i) && ltb (slice_index_or y j 0) (upper_end c j)) (λ j. neg_ℤ (gradient s c y j)) j f in
    let b = both_true (not (eqb j i)) (ltb (slice_index_or y j 0) (upper_end c j)) w.allowed in
    let room = below_is (slice_index_or y j 0) (upper_end c j) b.1 in
    let least = step_least (room_between c y i j) (unsigned_abs (gradient s c y i -ℤ gradient s c y j)) (unsigned_abs (curvature s i j)) (omega arith) in
    let most = step_most (room_between c y i j) (unsigned_abs (gradient s c y i -ℤ gradient s c y j)) (unsigned_abs (curvature s i j)) (omega arith) in
    let n = o.cells in
    let k = w.below in
    by_test (int_le (gradient s c y i) (gradient s c y j) || is_idle s c y i j) refl (record { giver = omega arith; taker = omega arith; apart = apart i j b.0; enough = omega arith }) least e
  where
    by_test : (b : Bool) → (int_le (gradient s c y i) (gradient s c y j) || is_idle s c y i j) ≡ b → IsMove s y (step_between s c y i j) i j → 1 ≤ step_between s c y i j → cond b None (Some (shifted_by y (step_between s c y i j) i j)) ≡ Some z → quadratic s c z <ℤ quadratic s c y
    by_test true q m t e = none_some z e
    by_test false q m t e =
        subst (λ (x : List ℕ). quadratic s c x <ℤ quadratic s c y) (some_same (shifted_by y (step_between s c y i j) i j) z e)
        (lower_by _ _ _ (quadratic_moved s c y (step_between s c y i j) i j o m) (drop_positive (step_between s c y i j) (gradient s c y i -ℤ gradient s c y j) (curvature s i j) t (second_false (int_le (gradient s c y i) (gradient s c y j)) (is_idle s c y i j) q)))

from_lowers : (s : Setting) (c : Choice) (y z : List ℕ) (i : ℕ) (t : Option ℕ) → IsOver s c y → i < length c.cells → lower_end c i < slice_index_or y i 0 → taker s c y i ≡ t → exchange s c y i t ≡ Some z → quadratic s c z <ℤ quadratic s c y
from_lowers s c y z i None o l g f e = none_some z e
from_lowers s c y z i (Some j) o l g f e = exchange_lowers s c y z i j o l g f e

next_from_lowers : (s : Setting) (c : Choice) (y z : List ℕ) (t : Option ℕ) → IsOver s c y → giver s c y ≡ t → next_from s c y t ≡ Some z → quadratic s c z <ℤ quadratic s c y
next_from_lowers s c y z None o f e = none_some z e
next_from_lowers s c y z (Some i) o f e =
    let w = found_some (length c.cells) (λ i. ltb (lower_end c i) (slice_index_or y i 0)) (gradient s c y) i f in
    from_lowers s c y z i (taker s c y i) o w.below (below_is (lower_end c i) (slice_index_or y i 0) w.allowed) refl e

pub quadratic_lowered : (s : Setting) (c : Choice) (y z : List ℕ) → IsOver s c y → next s c y ≡ Some z → quadratic s c z <ℤ quadratic s c y
quadratic_lowered s c y z o e = next_from_lowers s c y z (giver s c y) o refl e

-- ---- all rounds
after_lowers : (s : Setting) (c : Choice) (y : List ℕ) (go : List ℕ → List ℕ) (t : Option (List ℕ)) → IsOver s c y → next s c y ≡ t → ((z : List ℕ) → IsOver s c z → quadratic s c (go z) ≤ℤ quadratic s c z) → quadratic s c (after t y go) ≤ℤ quadratic s c y
after_lowers s c y go None o e h = same (quadratic s c y)
  where
    same : (a : ℤ) → a ≤ℤ a
    same a = omega (arith, ints)
after_lowers s c y go (Some z) o e h =
    let k = next_keeps s c y z (o.numbers ∙ sym o.cells) e in
    through _ _ _ (h z (record { setting = o.setting; cells = o.cells; numbers = k.count ∙ o.numbers })) (quadratic_lowered s c y z o e)
  where
    through : (a b c : ℤ) → a ≤ℤ b → b <ℤ c → a ≤ℤ c
    through a b c p q = omega (arith, ints)

rounds_lower : (k : ℕ) (s : Setting) (c : Choice) (y : List ℕ) → IsOver s c y → quadratic s c (rounds k (next s c) y) ≤ℤ quadratic s c y
unfolding rounds
rounds_lower zero s c y o = same (quadratic s c y)
  where
    same : (a : ℤ) → a ≤ℤ a
    same a = omega (arith, ints)
rounds_lower (suc k) s c y o = after_lowers s c y (rounds k (next s c)) (next s c y) o refl (λ z h. rounds_lower k s c z h)

pub quadratic_point : (s : Setting) (c : Choice) (hint : List ℕ) → IsOver s c (first_point s c hint) → quadratic s c (point s c hint) ≤ℤ quadratic s c (first_point s c hint)
unfolding point
quadratic_point s c hint o = rounds_lower (8 * length c.cells) s c (first_point s c hint) o
