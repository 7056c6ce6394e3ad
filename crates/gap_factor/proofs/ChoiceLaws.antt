-- How the rounded factor and none compare.
use Rattle.std.proofs.Common.{◌≡◌, ℕ, ◌<◌, List, ℤ, pos, ◌≤ℤ◌, ◌<ℤ◌, sym, ap, ◌∙◌, arith}
use Rattle.std.proofs.lemmas.Int.{ints}
use Rattle.gap_base.specs.Sums.{sum_below, lower}
use Rattle.gap_base.proofs.SumLaws.{sum_same}
use Rattle.gap_psd.specs.Shifts.{ShiftValue, r_of}
use Rattle.gap_psd.specs.Factors.{no_factor, IsLeastAt, AreLeast, IsRoundedFactor, IsAtMostRounded, IsBelowRounded}
use Rattle.gap_factor.specs.Plain.{plain_of}
use Rattle.gap_factor.specs.Diagonals.{IsTooMuch}
use Rattle.gap_factor.proofs.FactorLaws.{factor_unique}
use Rattle.gap_factor.proofs.LeastLaws.{least_unique, least_same, plain_least}

-- two least diagonals of one factor have one total
pub totals_same : (n : ℕ) (C R : ℕ → ℕ → ℤ) (D F : ℕ → ℤ) → AreLeast n C R D → AreLeast n C R F → sum_below n D ≡ sum_below n F
totals_same n C R D F h g = sum_same n D F (λ i l. least_unique n C R i (D i) (F i) (h i l) (g i l))

-- a least diagonal of the rounded factor is one of each rounded factor
least_of_other : (n : ℕ) (C R S : ℕ → ℕ → ℤ) (D : ℕ → ℤ) → IsRoundedFactor n C R → IsRoundedFactor n C S → AreLeast n C R D → AreLeast n C S D
least_of_other n C R S D r s h i l = least_same n C R S i (D i) l (λ a b p q. factor_unique n C R S r s a b p q) (h i l)

at_most_same : (a b : ℤ) → a ≡ b → a ≤ℤ b
at_most_same a b e = omega (arith, ints)

pub at_most_rounded : (n : ℕ) (C R : ℕ → ℕ → ℤ) (D : ℕ → ℤ) → IsRoundedFactor n C R → AreLeast n C R D → IsAtMostRounded n C (sum_below n D)
at_most_rounded n C R D r h S F s g small = at_most_same (sum_below n D) (sum_below n F) (totals_same n C R D F h (least_of_other n C S R F s r g))

below_same : (t a b : ℤ) → t <ℤ a → a ≡ b → t <ℤ b
below_same t a b h e = omega (arith, ints)

-- the rounded factor's total is above t
pub below_rounded : (n : ℕ) (C R : ℕ → ℕ → ℤ) (D : ℕ → ℤ) (t : ℤ) → IsRoundedFactor n C R → AreLeast n C R D → t <ℤ sum_below n D → IsBelowRounded n C t
below_rounded n C R D t r h b S F s g small = below_same t (sum_below n D) (sum_below n F) b (totals_same n C R D F h (least_of_other n C S R F s r g))

apart : (d e : ℤ) → pos 1000000000000000000000 <ℤ d → e ≤ℤ pos 1000000000000000000000 → d ≡ e → ⊥
apart d e h k p = omega (arith, ints)

-- the rounded factor asks for too much in a row
pub too_much : (C : ℕ → ℕ → ℤ) (s : ShiftValue) (t : ℤ) → IsRoundedFactor s.assets C (r_of s) → IsTooMuch C s → IsBelowRounded s.assets C t
too_much C s t r h S F q g small = absurd (apart h.2.0 (F h.0) h.2.2 (small h.0 h.1) (least_unique s.assets C (r_of s) h.0 h.2.0 (F h.0) h.2.1 (least_of_other s.assets C S (r_of s) F q r g h.0 h.1)))

pub plain_are_least : (n : ℕ) (C : ℕ → ℕ → ℤ) → AreLeast n C no_factor (plain_of n C)
plain_are_least n C i l = plain_least n C i

at_most_moved : (a b c : ℤ) → a ≤ℤ b → b ≡ c → a ≤ℤ c
at_most_moved a b c h e = omega (arith, ints)

-- a total of at most the plain one is at most that of each least diagonal where R is zero
pub at_most_plain : (n : ℕ) (C : ℕ → ℕ → ℤ) (t : ℤ) → t ≤ℤ sum_below n (plain_of n C) → (D : ℕ → ℤ) → AreLeast n C no_factor D → t ≤ℤ sum_below n D
at_most_plain n C t h D g = at_most_moved t (sum_below n (plain_of n C)) (sum_below n D) h (totals_same n C no_factor (plain_of n C) D (plain_are_least n C) g)

-- where R is zero and D the plain one, D is the least for R
moved_least : (n : ℕ) (C R : ℕ → ℕ → ℤ) (i : ℕ) (d e : ℤ) → d ≡ e → IsLeastAt n C R i d → IsLeastAt n C R i e
moved_least n C R i d e p h = rw p at h

pub least_of_plain : (n : ℕ) (C R : ℕ → ℕ → ℤ) (D : ℕ → ℤ) → ((a b : ℕ) → a < n → b < n → R a b ≡ pos 0) → ((k : ℕ) → k < n → D k ≡ plain_of n C k) → AreLeast n C R D
least_of_plain n C R D z p i l = least_same n C no_factor R i (D i) l (λ a b x y. sym (z a b x y)) (moved_least n C no_factor i (plain_of n C i) (D i) (sym (p i l)) (plain_least n C i))

pub total_of_plain : (n : ℕ) (C : ℕ → ℕ → ℤ) (D : ℕ → ℤ) → ((k : ℕ) → k < n → D k ≡ plain_of n C k) → sum_below n D ≡ sum_below n (plain_of n C)
total_of_plain n C D p = sum_same n D (plain_of n C) p

pub weaken : (n : ℕ) (C : ℕ → ℕ → ℤ) (t : ℤ) → IsBelowRounded n C t → IsAtMostRounded n C t
weaken n C t h R D r g small = let b = h R D r g small in omega (arith, ints)

-- ---- what was made so far, at the shift of the end
rounded_moved_by : (C : ℕ → ℕ → ℤ) (n m : ℕ) (f g : List ℤ) → n ≡ m → f ≡ g → IsRoundedFactor n C (λ a b. lower n f a b) → IsRoundedFactor m C (λ a b. lower m g a b)
rounded_moved_by C n m f g p q h = rw p at (rw q at h)

pub rounded_moved : (C : ℕ → ℕ → ℤ) (s t : ShiftValue) → s.assets ≡ t.assets → s.factor ≡ t.factor → IsRoundedFactor s.assets C (r_of s) → IsRoundedFactor t.assets C (r_of t)
rounded_moved C s t p q h = rounded_moved_by C s.assets t.assets s.factor t.factor p q h

least_moved_by : (C : ℕ → ℕ → ℤ) (D : ℕ → ℤ) (n m : ℕ) (f g : List ℤ) → n ≡ m → f ≡ g → AreLeast n C (λ a b. lower n f a b) D → AreLeast m C (λ a b. lower m g a b) D
least_moved_by C D n m f g p q h = rw p at (rw q at h)

pub all_least_moved : (C : ℕ → ℕ → ℤ) (D : ℕ → ℤ) (s t : ShiftValue) → s.assets ≡ t.assets → s.factor ≡ t.factor → AreLeast s.assets C (r_of s) D → AreLeast t.assets C (r_of t) D
all_least_moved C D s t p q h = least_moved_by C D s.assets t.assets s.factor t.factor p q h

pub rounded_for : (C R : ℕ → ℕ → ℤ) (n m : ℕ) → n ≡ m → IsRoundedFactor n C R → IsRoundedFactor m C R
rounded_for C R n m p h = rw p at h

pub below_for : (C : ℕ → ℕ → ℤ) (n m : ℕ) (t : ℤ) → n ≡ m → IsBelowRounded n C t → IsBelowRounded m C t
below_for C n m t p h = rw p at h

below_at : (n : ℕ) (C : ℕ → ℕ → ℤ) (t u : ℤ) → t ≡ u → IsBelowRounded n C u → IsBelowRounded n C t
below_at n C t u p h R D r g small = rw p (h R D r g small)

pub below_moved : (C : ℕ → ℕ → ℤ) (n m : ℕ) (t : ℤ) → m ≡ n → t ≡ sum_below m (plain_of m C) → IsBelowRounded n C (sum_below n (plain_of n C)) → IsBelowRounded m C t
below_moved C n m t p q h = below_at m C t (sum_below n (plain_of n C)) (q ∙ ap (λ (k : ℕ). sum_below k (plain_of k C)) p) (below_for C n m (sum_below n (plain_of n C)) (sym p) h)

pub plain_for : (C : ℕ → ℕ → ℤ) (n m k : ℕ) (d : ℤ) → n ≡ m → d ≡ plain_of n C k → d ≡ plain_of m C k
plain_for C n m k d p e = e ∙ ap (λ (j : ℕ). plain_of j C k) p

pub total_at_most : (a b : ℤ) → a ≡ b → a ≤ℤ b
total_at_most a b e = at_most_same a b e
