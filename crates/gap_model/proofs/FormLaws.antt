-- The products v'Aw of a setting: symmetric, linear, and never negative where v and w are equal.

use Rattle.std.proofs.Common.{◌≡◌, ℕ, ◌-◌, ◌*◌, ◌<◌, ◌==◌, if◌then◌else◌, List, ◌⊎◌, inl, inr, ℤ, pos, ◌+ℤ◌, ◌-ℤ◌, ◌*ℤ◌, neg_ℤ, ◌≤ℤ◌, refl, sym, ap, ◌∙◌, arith}
use Rattle.std.proofs.Math.IntN.{zero-*ℤ}
use Rattle.std.proofs.lemmas.Int.{ints}
use Rattle.std.proofs.lemmas.Bool.{cases_eq}
use Rattle.gap_base.specs.Sums.{sum_below, at}
use Rattle.gap_base.specs.Lots.{lots_at}
use Rattle.gap_base.specs.Markets.{MarketValue, IsMarket, mean_of}
use Rattle.gap_base.proofs.Ring.{expand, pull, linear, if_same, if_other, *ℤ_assoc}
use Rattle.gap_base.proofs.SumLaws.{sum_same, sum-swap, sum-add, sum-scale, sum_pick}
use Rattle.gap_instance.specs.Objective.{cov_of, risk_of, return_of}
use Rattle.gap_instance.proofs.ObjectiveLaws.{cov_of-symmetric}
use Rattle.gap_model.specs.Settings.{Setting, shifted_cov, product_of}
use Rattle.gap_model.specs.Lagrangian.{reward_of, rewards_of, squares_of}

-- the double sum over places below n
abbrev pub double : ℕ → (ℕ → ℕ → ℤ) → ℤ
double n f = sum_below n (λ i. sum_below n (λ j. f i j))

pub double_same : (n : ℕ) (f g : ℕ → ℕ → ℤ) → ((i j : ℕ) → i < n → j < n → f i j ≡ g i j) → double n f ≡ double n g
double_same n f g h = sum_same n (λ i. sum_below n (λ j. f i j)) (λ i. sum_below n (λ j. g i j)) (λ i p. sum_same n (λ j. f i j) (λ j. g i j) (λ j q. h i j p q))

pub double_scale : (n : ℕ) (c : ℤ) (f : ℕ → ℕ → ℤ) → double n (λ i j. c *ℤ f i j) ≡ c *ℤ double n f
double_scale n c f = sum_same n (λ i. sum_below n (λ j. c *ℤ f i j)) (λ i. c *ℤ sum_below n (λ j. f i j)) (λ i p. sum-scale n c (λ j. f i j)) ∙ sum-scale n c (λ i. sum_below n (λ j. f i j))

pub double_add : (n : ℕ) (f g : ℕ → ℕ → ℤ) → double n (λ i j. f i j +ℤ g i j) ≡ double n f +ℤ double n g
double_add n f g = sum_same n (λ i. sum_below n (λ j. f i j +ℤ g i j)) (λ i. sum_below n (λ j. f i j) +ℤ sum_below n (λ j. g i j)) (λ i p. sum-add n (λ j. f i j) (λ j. g i j)) ∙ sum-add n (λ i. sum_below n (λ j. f i j)) (λ i. sum_below n (λ j. g i j))

pub double_four : (n : ℕ) (a b c d : ℤ) (f g h k : ℕ → ℕ → ℤ) → double n (λ i j. a *ℤ f i j +ℤ (b *ℤ g i j +ℤ (c *ℤ h i j +ℤ d *ℤ k i j))) ≡ a *ℤ double n f +ℤ (b *ℤ double n g +ℤ (c *ℤ double n h +ℤ d *ℤ double n k))
double_four n a b c d f g h k =
    let e1 = double_add n (λ i j. a *ℤ f i j) (λ i j. b *ℤ g i j +ℤ (c *ℤ h i j +ℤ d *ℤ k i j)) in
    let e2 = double_add n (λ i j. b *ℤ g i j) (λ i j. c *ℤ h i j +ℤ d *ℤ k i j) in
    let e3 = double_add n (λ i j. c *ℤ h i j) (λ i j. d *ℤ k i j) in
    let s1 = double_scale n a f in
    let s2 = double_scale n b g in
    let s3 = double_scale n c h in
    let s4 = double_scale n d k in
    omega (arith, linear)

-- ---- the entries are symmetric
diagonal_symmetric : (D : ℕ → ℤ) (i j : ℕ) → (if j == i then D i else pos 0) ≡ (if i == j then D j else pos 0)
diagonal_symmetric D i j = by_cases (cases_eq i j)
  where
    by_cases : (i ≡ j) ⊎ (i ≡ j → ⊥) → (if j == i then D i else pos 0) ≡ (if i == j then D j else pos 0)
    by_cases (inl e) = if_same j i (D i) (pos 0) (sym e) ∙ ap D e ∙ sym (if_same i j (D j) (pos 0) e)
    by_cases (inr e) = if_other j i (D i) (pos 0) (λ q. e (sym q)) ∙ sym (if_other i j (D j) (pos 0) e)

pub shifted_symmetric : (s : Setting) (i j : ℕ) → IsMarket s.instance.market → i < s.instance.market.assets → j < s.instance.market.assets → shifted_cov s i j ≡ shifted_cov s j i
shifted_symmetric s i j h p q = let a = cov_of-symmetric s.instance.market h i j p q in let b = diagonal_symmetric (at s.shift) i j in omega (arith, linear)

product_is : (s : Setting) (v w : ℕ → ℤ) → product_of s v w ≡ double s.instance.market.assets (λ i j. shifted_cov s i j *ℤ v i *ℤ w j)
unfolding product_of
product_is s v w = refl

turned : (a v w : ℤ) → a *ℤ v *ℤ w ≡ a *ℤ w *ℤ v
turned a v w = simp expand refl

pub product_symmetric : (s : Setting) (v w : ℕ → ℤ) → IsMarket s.instance.market → product_of s v w ≡ product_of s w v
product_symmetric s v w h =
    let n = s.instance.market.assets in
    product_is s v w
    ∙ sum-swap n n (λ i j. shifted_cov s i j *ℤ v i *ℤ w j)
    ∙ double_same n (λ j i. shifted_cov s i j *ℤ v i *ℤ w j) (λ j i. shifted_cov s j i *ℤ w j *ℤ v i) (λ j i q p. ap (λ a. a *ℤ v i *ℤ w j) (shifted_symmetric s i j h p q) ∙ turned (shifted_cov s j i) (v i) (w j))
    ∙ sym (product_is s w v)

-- products agree where the lists do
pub product_same : (s : Setting) (v w t u : ℕ → ℤ) → ((i : ℕ) → i < s.instance.market.assets → v i ≡ t i) → ((i : ℕ) → i < s.instance.market.assets → w i ≡ u i) → product_of s v w ≡ product_of s t u
product_same s v w t u h k = product_is s v w ∙ double_same s.instance.market.assets (λ i j. shifted_cov s i j *ℤ v i *ℤ w j) (λ i j. shifted_cov s i j *ℤ t i *ℤ u j) (λ i j p q. rw (h i p, k j q) refl) ∙ sym (product_is s t u)

square_term : (a xi xj yi yj : ℤ) → a *ℤ (pos 8 *ℤ xi +ℤ neg_ℤ yi) *ℤ (pos 8 *ℤ xj +ℤ neg_ℤ yj) ≡ pos 64 *ℤ (a *ℤ xi *ℤ xj) +ℤ (neg_ℤ (pos 8) *ℤ (a *ℤ xi *ℤ yj) +ℤ (neg_ℤ (pos 8) *ℤ (a *ℤ yi *ℤ xj) +ℤ pos 1 *ℤ (a *ℤ yi *ℤ yj)))
square_term a xi xj yi yj =
    let e : (t : ℤ) → neg_ℤ (pos 8) *ℤ t ≡ neg_ℤ (pos 8 *ℤ t) = λ t. omega (arith, ints) in
    let f : (t : ℤ) → pos 1 *ℤ t ≡ t = λ t. omega (arith, ints) in
    rw (e (a *ℤ xi *ℤ yj), e (a *ℤ yi *ℤ xj), f (a *ℤ yi *ℤ yj)) (simp expand (simp pull (omega (arith, linear))))

-- the square of 8v - w
pub product_square : (s : Setting) (v w : ℕ → ℤ) → IsMarket s.instance.market → product_of s (λ i. pos 8 *ℤ v i +ℤ neg_ℤ (w i)) (λ i. pos 8 *ℤ v i +ℤ neg_ℤ (w i)) ≡ (pos 64 *ℤ product_of s v v -ℤ pos 16 *ℤ product_of s w v) +ℤ product_of s w w
product_square s v w h =
    let n = s.instance.market.assets in
    let a = double_same n (λ i j. shifted_cov s i j *ℤ (pos 8 *ℤ v i +ℤ neg_ℤ (w i)) *ℤ (pos 8 *ℤ v j +ℤ neg_ℤ (w j))) (λ i j. pos 64 *ℤ (shifted_cov s i j *ℤ v i *ℤ v j) +ℤ (neg_ℤ (pos 8) *ℤ (shifted_cov s i j *ℤ v i *ℤ w j) +ℤ (neg_ℤ (pos 8) *ℤ (shifted_cov s i j *ℤ w i *ℤ v j) +ℤ pos 1 *ℤ (shifted_cov s i j *ℤ w i *ℤ w j)))) (λ i j p q. square_term (shifted_cov s i j) (v i) (v j) (w i) (w j)) in
    let b = double_four n (pos 64) (neg_ℤ (pos 8)) (neg_ℤ (pos 8)) (pos 1) (λ i j. shifted_cov s i j *ℤ v i *ℤ v j) (λ i j. shifted_cov s i j *ℤ v i *ℤ w j) (λ i j. shifted_cov s i j *ℤ w i *ℤ v j) (λ i j. shifted_cov s i j *ℤ w i *ℤ w j) in
    let c = product_is s (λ i. pos 8 *ℤ v i +ℤ neg_ℤ (w i)) (λ i. pos 8 *ℤ v i +ℤ neg_ℤ (w i)) in
    let d = product_is s v v in
    let e = product_is s v w in
    let f = product_is s w v in
    let g = product_is s w w in
    let t = product_symmetric s v w h in
    c ∙ a ∙ b ∙ join (product_of s v v) (product_of s v w) (product_of s w v) (product_of s w w) _ _ _ _ d e f g t
  where
    join : (a b c d e f g h : ℤ) → a ≡ e → b ≡ f → c ≡ g → d ≡ h → b ≡ c → pos 64 *ℤ e +ℤ (neg_ℤ (pos 8) *ℤ f +ℤ (neg_ℤ (pos 8) *ℤ g +ℤ pos 1 *ℤ h)) ≡ (pos 64 *ℤ a -ℤ pos 16 *ℤ c) +ℤ d
    join a b c d e f g h p q r t u = omega (arith, ints)

-- the tangent lies below: 16 w'Av - w'Aw is at most 64 v'Av
pub tangent_below : (s : Setting) (v w : ℕ → ℤ) → IsMarket s.instance.market → ((u : ℕ → ℤ) → pos 0 ≤ℤ product_of s u u) → (pos 16 *ℤ product_of s w v -ℤ product_of s w w) ≤ℤ (pos 64 *ℤ product_of s v v)
tangent_below s v w h semi = let a = semi (λ i. pos 8 *ℤ v i +ℤ neg_ℤ (w i)) in let b = product_square s v w h in omega (arith, linear)

eight_term : (a v w : ℤ) → a *ℤ (pos 8 *ℤ v) *ℤ w ≡ pos 8 *ℤ (a *ℤ v *ℤ w)
eight_term a v w = simp expand refl

eight_both_term : (a v w : ℤ) → a *ℤ (pos 8 *ℤ v) *ℤ (pos 8 *ℤ w) ≡ pos 64 *ℤ (a *ℤ v *ℤ w)
eight_both_term a v w = simp expand (simp pull (omega (arith, linear)))

-- at w = 8v the tangent touches
pub tangent_touches : (s : Setting) (v w : ℕ → ℤ) → ((i : ℕ) → i < s.instance.market.assets → w i ≡ pos 8 *ℤ v i) → (pos 16 *ℤ product_of s w v -ℤ product_of s w w) ≡ (pos 64 *ℤ product_of s v v)
tangent_touches s v w h =
    let n = s.instance.market.assets in
    let a = product_same s w v (λ i. pos 8 *ℤ v i) v h (λ i p. refl) ∙ product_is s (λ i. pos 8 *ℤ v i) v ∙ double_same n (λ i j. shifted_cov s i j *ℤ (pos 8 *ℤ v i) *ℤ v j) (λ i j. pos 8 *ℤ (shifted_cov s i j *ℤ v i *ℤ v j)) (λ i j p q. eight_term (shifted_cov s i j) (v i) (v j)) ∙ double_scale n (pos 8) (λ i j. shifted_cov s i j *ℤ v i *ℤ v j) in
    let b = product_same s w w (λ i. pos 8 *ℤ v i) (λ i. pos 8 *ℤ v i) h h ∙ product_is s (λ i. pos 8 *ℤ v i) (λ i. pos 8 *ℤ v i) ∙ double_same n (λ i j. shifted_cov s i j *ℤ (pos 8 *ℤ v i) *ℤ (pos 8 *ℤ v j)) (λ i j. pos 64 *ℤ (shifted_cov s i j *ℤ v i *ℤ v j)) (λ i j p q. eight_both_term (shifted_cov s i j) (v i) (v j)) ∙ double_scale n (pos 64) (λ i j. shifted_cov s i j *ℤ v i *ℤ v j) in
    let c = product_is s v v in
    omega (arith, linear)

-- ---- v'Av of a list of lots is its risk and the squares that the shift adds
diagonal_term : (d x y : ℤ) (i j : ℕ) → (if j == i then d else pos 0) *ℤ x *ℤ y ≡ (if j == i then d *ℤ x *ℤ y else pos 0)
diagonal_term d x y i j = by_cases (cases_eq j i)
  where
    by_cases : (j ≡ i) ⊎ (j ≡ i → ⊥) → (if j == i then d else pos 0) *ℤ x *ℤ y ≡ (if j == i then d *ℤ x *ℤ y else pos 0)
    by_cases (inl e) = ap (λ t. t *ℤ x *ℤ y) (if_same j i d (pos 0) e) ∙ sym (if_same j i (d *ℤ x *ℤ y) (pos 0) e)
    by_cases (inr e) = ap (λ t. t *ℤ x *ℤ y) (if_other j i d (pos 0) e) ∙ ap (λ t. t *ℤ y) (zero-*ℤ x) ∙ zero-*ℤ y ∙ sym (if_other j i (d *ℤ x *ℤ y) (pos 0) e)

split_term : (c d x y : ℤ) → (c +ℤ d) *ℤ x *ℤ y ≡ c *ℤ x *ℤ y +ℤ d *ℤ x *ℤ y
split_term c d x y = simp expand refl

risk_is : (m : MarketValue) (x : List ℕ) → risk_of m x ≡ double m.assets (λ i j. cov_of m i j *ℤ lots_at x i *ℤ lots_at x j)
unfolding risk_of
risk_is m x = refl

squares_is : (s : Setting) (x : List ℕ) → squares_of s x ≡ sum_below s.instance.market.assets (λ i. at s.shift i *ℤ (lots_at x i *ℤ lots_at x i))
unfolding squares_of
squares_is s x = refl

pub product_of_lots : (s : Setting) (x : List ℕ) → product_of s (lots_at x) (lots_at x) ≡ risk_of s.instance.market x +ℤ squares_of s x
product_of_lots s x =
    let n = s.instance.market.assets in
    let X = lots_at x in
    let a = double_same n (λ i j. shifted_cov s i j *ℤ X i *ℤ X j) (λ i j. cov_of s.instance.market i j *ℤ X i *ℤ X j +ℤ (if j == i then at s.shift i else pos 0) *ℤ X i *ℤ X j) (λ i j p q. split_term (cov_of s.instance.market i j) (if j == i then at s.shift i else pos 0) (X i) (X j)) in
    let b = double_add n (λ i j. cov_of s.instance.market i j *ℤ X i *ℤ X j) (λ i j. (if j == i then at s.shift i else pos 0) *ℤ X i *ℤ X j) in
    let c = sum_same n (λ i. sum_below n (λ j. (if j == i then at s.shift i else pos 0) *ℤ X i *ℤ X j)) (λ i. at s.shift i *ℤ (X i *ℤ X i)) (λ i p. sum_same n (λ j. (if j == i then at s.shift i else pos 0) *ℤ X i *ℤ X j) (λ j. if j == i then at s.shift i *ℤ X i *ℤ X j else pos 0) (λ j q. diagonal_term (at s.shift i) (X i) (X j) i j) ∙ sum_pick n i (λ j. at s.shift i *ℤ X i *ℤ X j) p ∙ *ℤ_assoc (at s.shift i) (X i) (X i)) in
    let d = product_is s X X in
    let e = risk_is s.instance.market x in
    let f = squares_is s x in
    d ∙ a ∙ b ∙ rw (e, f) (ap (λ t. double n (λ i j. cov_of s.instance.market i j *ℤ X i *ℤ X j) +ℤ t) c)

-- ---- the rewards of a list of lots are a multiple of its return
rewards_is : (s : Setting) (x : List ℕ) → rewards_of s x ≡ sum_below s.instance.market.assets (λ i. reward_of s i *ℤ lots_at x i)
unfolding rewards_of
rewards_is s x = refl

return_is : (m : MarketValue) (x : List ℕ) → return_of m x ≡ sum_below m.assets (λ i. mean_of m i *ℤ lots_at x i)
unfolding return_of
return_is m x = refl

pub rewards_are : (s : Setting) (x : List ℕ) → rewards_of s x ≡ pos ((s.q - s.p) * 1000000000000 * s.instance.lots) *ℤ return_of s.instance.market x
rewards_are s x =
    let n = s.instance.market.assets in
    let R = pos ((s.q - s.p) * 1000000000000 * s.instance.lots) in
    rewards_is s x ∙ sum_same n (λ i. reward_of s i *ℤ lots_at x i) (λ i. R *ℤ (mean_of s.instance.market i *ℤ lots_at x i)) (λ i p. *ℤ_assoc R (mean_of s.instance.market i) (lots_at x i)) ∙ sum-scale n R (λ i. mean_of s.instance.market i *ℤ lots_at x i) ∙ ap (λ t. R *ℤ t) (sym (return_is s.instance.market x))
