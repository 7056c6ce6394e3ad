-- The laws of the ring of whole numbers that std does not hold, the rulesets in which identities and inequalities of polynomials are proved, and the signs of products.
use Rattle.std.proofs.Common.{◌≡◌, ℕ, zero, suc, ◌+◌, ◌*◌, ◌==◌, if◌then◌else◌, ℤ, pos, negsuc, ◌+ℤ◌, ◌-ℤ◌, ◌*ℤ◌, neg_ℤ, ◌≤ℤ◌, ◌<ℤ◌, sym, ap, ◌∙◌, arith}
use Rattle.std.proofs.Math.IntN.{*ℤ_comm, neg_ℤ-+ℤ, neg_ℤ-neg_ℤ}
use Rattle.std.proofs.lemmas.Int.{ints}
use Rattle.std.proofs.lemmas.Bool.Decides.{nat_tests}
use borrow.Author.Differences.{up, down, same_out, same_in, sum_is_lem, neg_is, product_is, le_out, lt_out, at_most_in, below_in}

pub *ℤ-+ℤ : (a b c : ℤ) → a *ℤ (b +ℤ c) ≡ a *ℤ b +ℤ a *ℤ c
*ℤ-+ℤ a b c = let e = sum_is_lem b c in let p = ap (λ x. up a * x) e in let q = ap (λ x. down a * x) e in omega (arith, ints)

pub +ℤ-*ℤ : (a b c : ℤ) → (a +ℤ b) *ℤ c ≡ a *ℤ c +ℤ b *ℤ c
+ℤ-*ℤ a b c = let e = sum_is_lem a b in let p = ap (λ x. x * up c) e in let q = ap (λ x. x * down c) e in omega (arith, ints)

up_mul : (a b : ℤ) → up (a *ℤ b) ≡ up a * up b + down a * down b
up_mul a b = (product_is a b).0

down_mul : (a b : ℤ) → down (a *ℤ b) ≡ up a * down b + down a * up b
down_mul a b = (product_is a b).1

pub *ℤ_assoc : (a b c : ℤ) → (a *ℤ b) *ℤ c ≡ a *ℤ (b *ℤ c)
*ℤ_assoc a b c = same_in _ _ (simp (up_mul, down_mul) (omega arith))

pub *ℤ_left_comm : (a b c : ℤ) → a *ℤ (b *ℤ c) ≡ b *ℤ (a *ℤ c)
*ℤ_left_comm a b c = sym (*ℤ_assoc a b c) ∙ ap (λ x. x *ℤ c) (*ℤ_comm a b) ∙ *ℤ_assoc b a c

pub *ℤ-neg_ℤ : (a b : ℤ) → a *ℤ neg_ℤ b ≡ neg_ℤ (a *ℤ b)
*ℤ-neg_ℤ a b = let e = neg_is b in let p = ap (λ x. up a * x) e.0 in let q = ap (λ x. down a * x) e.0 in let r = ap (λ x. up a * x) e.1 in let s = ap (λ x. down a * x) e.1 in omega (arith, ints)

pub neg_ℤ-*ℤ : (a b : ℤ) → neg_ℤ a *ℤ b ≡ neg_ℤ (a *ℤ b)
neg_ℤ-*ℤ a b = *ℤ_comm (neg_ℤ a) b ∙ *ℤ-neg_ℤ b a ∙ ap neg_ℤ (*ℤ_comm b a)

-- a numeral goes to the end of a product, where omega reads the product as linear
pub pull_right : (a b : ℤ) (k : ℕ) → a *ℤ (b *ℤ pos k) ≡ (a *ℤ b) *ℤ pos k
pull_right a b k = sym (*ℤ_assoc a b (pos k))

pub pull_middle : (a b : ℤ) (k : ℕ) → a *ℤ (pos k *ℤ b) ≡ (a *ℤ b) *ℤ pos k
pull_middle a b k = ap (λ x. a *ℤ x) (*ℤ_comm (pos k) b) ∙ pull_right a b k

-- a product with a numeral, for omega
pub numeral_left : (k : ℕ) (a : ℤ) → (up (pos k *ℤ a) ≡ k * up a) × (down (pos k *ℤ a) ≡ k * down a)
numeral_left k a = (up_mul (pos k) a ∙ omega arith, down_mul (pos k) a ∙ omega arith)

pub numeral_right : (a : ℤ) (k : ℕ) → (up (a *ℤ pos k) ≡ up a * k) × (down (a *ℤ pos k) ≡ down a * k)
numeral_right a k = (up_mul a (pos k) ∙ omega arith, down_mul a (pos k) ∙ omega arith)

-- `simp expand` writes a polynomial out; `simp pull` brings numerals to the end; `omega (arith, linear)` joins linear facts over products as unknowns
pub ruleset expand = (*ℤ-+ℤ, +ℤ-*ℤ, *ℤ-neg_ℤ, neg_ℤ-*ℤ, *ℤ_assoc, *ℤ_comm, *ℤ_left_comm, neg_ℤ-+ℤ, neg_ℤ-neg_ℤ)

pub ruleset pull = (pull_right, pull_middle)

pub ruleset linear = (same_out, same_in, sum_is_lem, neg_is, le_out, lt_out, at_most_in, below_in, numeral_left, numeral_right)

-- ---- choices by a test of places
pub if_same : {A : Type 0} (k i : ℕ) (x y : A) → k ≡ i → (if k == i then x else y) ≡ x
if_same k i x y e = grind (arith, nat_tests)

pub if_other : {A : Type 0} (k i : ℕ) (x y : A) → (k ≡ i → ⊥) → (if k == i then x else y) ≡ y
if_other k i x y n = grind (arith, nat_tests)

-- ---- signs of products
pub product_not_negative : (a b : ℤ) → pos 0 ≤ℤ a → pos 0 ≤ℤ b → pos 0 ≤ℤ (a *ℤ b)
product_not_negative (pos a) (pos b) h k = omega (arith, ints)
product_not_negative (negsuc a) b h k = absurd (omega (arith, ints))
product_not_negative (pos a) (negsuc b) h k = absurd (omega (arith, ints))

pub square_not_negative : (a : ℤ) → pos 0 ≤ℤ (a *ℤ a)
square_not_negative (pos a) = omega (arith, ints)
square_not_negative (negsuc a) = omega (arith, ints)

pub product_positive : (a b : ℤ) → pos 0 <ℤ a → pos 0 <ℤ b → pos 0 <ℤ (a *ℤ b)
product_positive (pos (suc a)) (pos (suc b)) h k = omega (arith, ints)
product_positive (pos zero) b h k = absurd (omega (arith, ints))
product_positive (negsuc a) b h k = absurd (omega (arith, ints))
product_positive (pos (suc a)) (pos zero) h k = absurd (omega (arith, ints))
product_positive (pos (suc a)) (negsuc b) h k = absurd (omega (arith, ints))

-- a factor above 0 can be taken from an inequality
pub not_negative_of_scaled : (s f : ℤ) → pos 0 <ℤ s → pos 0 ≤ℤ (s *ℤ f) → pos 0 ≤ℤ f
not_negative_of_scaled s (pos f) h k = omega (arith, ints)
not_negative_of_scaled s (negsuc f) h k = let p = product_positive s (pos (suc f)) h (omega (arith, ints)) in let q : s *ℤ negsuc f ≡ neg_ℤ (s *ℤ pos (suc f)) = *ℤ-neg_ℤ s (pos (suc f)) in absurd (omega (arith, linear))

pub not_positive : (a b : ℤ) → pos 0 ≤ℤ a → b ≤ℤ pos 0 → (a *ℤ b) ≤ℤ pos 0
not_positive a b h k = let p = product_not_negative a (neg_ℤ b) h (omega (arith, ints)) in let q = *ℤ-neg_ℤ a b in omega (arith, linear)

-- a factor that is not negative keeps an order
pub scaled_le : (c a b : ℤ) → pos 0 ≤ℤ c → a ≤ℤ b → (c *ℤ a) ≤ℤ (c *ℤ b)
scaled_le c a b h k = let p = product_not_negative c (b -ℤ a) h (omega (arith, ints)) in let q : c *ℤ (b -ℤ a) ≡ c *ℤ b +ℤ neg_ℤ (c *ℤ a) = *ℤ-+ℤ c b (neg_ℤ a) ∙ ap (λ x. c *ℤ b +ℤ x) (*ℤ-neg_ℤ c a) in omega (arith, linear)
