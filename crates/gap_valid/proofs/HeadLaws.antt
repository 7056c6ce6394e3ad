-- A head in its ranges has an instance, a shift of it and a root.

use Rattle.std.proofs.Common.{◌≡◌, ◌≢◌, ℕ, suc, ◌+◌, ◌*◌, ◌/◌, ◌%◌, ◌<◌, ◌≤◌, if◌then◌else◌, nat_lt, nat_le, ◌⊎◌, inl, inr, Bool, true, false, List, map, length, All, get_or, slice_index_or, ℤ, pos, unsigned_abs, refl, sym, ap, ◌∙◌, subst, arith}
use Rattle.std.proofs.lemmas.Bool.{cases_lt}
use Rattle.std.proofs.lemmas.List.{length-map, get_or_past}
use Rattle.std.proofs.lemmas.List.Elements.{All-get_or, All-map, All-weaker, All-from_get_or}
use Rattle.std.proofs.lemmas.List.FromFn.{get_or-map-range_with_len, length-map-range_with_len}
use Rattle.std.proofs.lemmas.Nat.{div-mul-add, mod-mul-add, mul-add-lt}
use Rattle.gap_base.specs.Markets.{rho_of, IsMarket}
use Rattle.gap_base.specs.Sums.{at}
use Rattle.gap_base.proofs.MarketLaws.{rho_of-two, rho_size}
use Rattle.gap_box.specs.declared.cell.Cell.TheVariants.{Out}
use Rattle.gap_box.specs.Cells.{IsCell, AreCells}
use Rattle.gap_box.specs.Parts.{root_cells}
use Rattle.gap_box.proofs.PartLaws.{length-root, root-at, root_cell_is}
use Rattle.gap_instance.specs.Instances.{AreBetween, AreLimits, IsInstance}
use Rattle.gap_psd.specs.Shifts.{IsShift, r_of}
use Rattle.gap_cert.specs.Certificates.{AssetLine, CertHead}
use Rattle.gap_valid.specs.Heads.{pair_number, row_number, table, given_rho, given_r, market_in, instance_in, shift_in, root_in, IsAssetLine, IsDiagonal, IsHead}

-- what holds of each element and of the default holds at every place
pub all_places : {X : Type 0} (P : X → Type 0) (xs : List X) (d : X) → All P xs → P d → (i : ℕ) → P (get_or xs i d)
all_places P xs d all p i = each (cases_lt i (length xs))
  where
    each : (i < length xs) ⊎ (length xs ≤ i) → P (get_or xs i d)
    each (inl h) = All-get_or P xs i d h all
    each (inr h) = subst P (sym (get_or_past xs i d h)) p

-- ---- tables
pub table_at : (n : ℕ) (f : ℕ → ℕ → ℤ) (i j : ℕ) → i < n → j < n → at (table n f) (i * n + j) ≡ f i j
table_at n f i j p q =
    get_or-map-range_with_len (λ k. f (k / n) (k % n)) 0 (n * n) (i * n + j) (i * n + j) (pos 0) (mul-add-lt i n j n p q) (omega arith)
    ∙ ap (λ r. f r ((i * n + j) % n)) (div-mul-add i n j q) ∙ ap (λ c. f i c) (mod-mul-add i n j q)

table_places : (P : ℤ → Type 0) (n : ℕ) (f : ℕ → ℕ → ℤ) → ((i j : ℕ) → P (f i j)) → P (pos 0) → (k : ℕ) → P (at (table n f) k)
table_places P n f h z k = all_places P (table n f) (pos 0) (All-from_get_or P (table n f) (pos 0) (λ i l. entry i (inside i l))) z k
  where
    inside : (i : ℕ) → i < length (table n f) → i < n * n
    inside i l = rw (length-map-range_with_len (λ k. f (k / n) (k % n)) 0 (n * n)) at l

    entry : (i : ℕ) → i < n * n → P (get_or (table n f) i (pos 0))
    entry i l = subst P (sym (get_or-map-range_with_len (λ k. f (k / n) (k % n)) 0 (n * n) i i (pos 0) l (omega arith))) (h (i / n) (i % n))

-- a choice of two numbers
chosen : (P : ℤ → Type 0) (b : Bool) (x y : ℤ) → P x → P y → P (if b then x else y)
chosen P true x y p q = p
chosen P false x y p q = q

chosen_first : (b : Bool) (x y : ℤ) → b ≡ true → (if b then x else y) ≡ x
chosen_first true x y e = refl
chosen_first false x y e = cc

chosen_second : (b : Bool) (x y : ℤ) → b ≡ false → (if b then x else y) ≡ y
chosen_second true x y e = cc
chosen_second false x y e = refl

-- ---- the market
abbrev Small : ℕ → ℤ → Type 0
Small most v = unsigned_abs v ≤ most

rho_small : (h : CertHead) → IsHead h → (i j : ℕ) → Small 1000000 (given_rho h i j)
rho_small h is i j =
    chosen (Small 1000000) (nat_lt i j) _ _ (all_places (Small 1000000) h.correlations (pos 0) is.correlations_are (omega arith) (pair_number h.n i j))
    (chosen (Small 1000000) (nat_lt j i) _ _ (all_places (Small 1000000) h.correlations (pos 0) is.correlations_are (omega arith) (pair_number h.n j i)) (omega arith))

below_true : (i j : ℕ) → i < j → nat_lt i j ≡ true
below_true i j h = grind arith

below_false : (i j : ℕ) → j < i → nat_lt i j ≡ false
below_false i j h = grind arith

given_pair : (h : CertHead) (i j : ℕ) → i < j → given_rho h i j ≡ at h.correlations (pair_number h.n i j)
given_pair h i j p = chosen_first (nat_lt i j) _ _ (below_true i j p)

given_turned : (h : CertHead) (i j : ℕ) → i < j → given_rho h j i ≡ at h.correlations (pair_number h.n i j)
given_turned h i j p = chosen_second (nat_lt j i) _ _ (below_false j i p) ∙ chosen_first (nat_lt i j) _ _ (below_true i j p)

market_rho : (h : CertHead) (i j : ℕ) → i ≢ j → i < h.n → j < h.n → rho_of (market_in h) i j ≡ given_rho h i j
unfolding market_in
market_rho h i j ne p q = rho_of-two (market_in h) i j ne ∙ table_at h.n (given_rho h) i j p q

pub pair_rho : (h : CertHead) (i j : ℕ) → i < j → j < h.n → rho_of (market_in h) i j ≡ at h.correlations (pair_number h.n i j)
pair_rho h i j p q = market_rho h i j (λ e. omega arith) (omega arith) q ∙ given_pair h i j p

pub turned_rho : (h : CertHead) (i j : ℕ) → i < j → j < h.n → rho_of (market_in h) j i ≡ at h.correlations (pair_number h.n i j)
turned_rho h i j p q = market_rho h j i (λ e. omega arith) q (omega arith) ∙ given_turned h i j p

rho_both_ways : (h : CertHead) (i j : ℕ) → i < h.n → j < h.n → rho_of (market_in h) i j ≡ rho_of (market_in h) j i
rho_both_ways h i j p q = each (cases_lt i j) (cases_lt j i)
  where
    each : (i < j) ⊎ (j ≤ i) → (j < i) ⊎ (i ≤ j) → rho_of (market_in h) i j ≡ rho_of (market_in h) j i
    each (inl l) m = pair_rho h i j l q ∙ sym (turned_rho h i j l q)
    each (inr l) (inl m) = turned_rho h j i m p ∙ sym (pair_rho h j i m p)
    each (inr l) (inr m) = let e : i ≡ j = omega arith in rw e refl

pub market_is : (h : CertHead) → IsHead h → IsMarket (market_in h)
unfolding market_in
market_is h is = record {
  few = is.few;
  many = is.many;
  means_length = length-map h.assets (λ a. a.mean) ∙ is.assets_count;
  deviations_length = length-map h.assets (λ a. a.dev) ∙ is.assets_count;
  correlations_length = length-map-range_with_len (λ k. given_rho h (k / h.n) (k % h.n)) 0 (h.n * h.n);
  mean_sizes = all_places (Small 1000000) (map (λ a. a.mean) h.assets) (pos 0) (All-map (Small 1000000) (λ a. a.mean) h.assets (All-weaker (IsAssetLine h.lots) (λ a. Small 1000000 a.mean) (λ a l. l.mean_most) h.assets is.assets_are)) (omega arith);
  deviation_sizes = all_places (λ v. v ≤ 1000000) (map (λ a. a.dev) h.assets) 0 (All-map (λ v. v ≤ 1000000) (λ a. a.dev) h.assets (All-weaker (IsAssetLine h.lots) (λ a. a.dev ≤ 1000000) (λ a l. l.dev_most) h.assets is.assets_are)) (omega arith);
  rho_sizes = λ i j. rho_size (market_in h) i j (λ ne. table_places (Small 1000000) h.n (given_rho h) (rho_small h is) (omega arith) (i * h.n + j));
  symmetric = rho_both_ways h;
}

-- ---- the limits
between : (h : CertHead) (f : AssetLine → ℕ) (low high : ℕ) → IsHead h → ((a : AssetLine) → IsAssetLine h.lots a → (low ≤ f a) × (f a ≤ high)) → AreBetween h.n low high (map f h.assets)
between h f low high is each = record {
  count = count_is;
  least = λ i l. (at_place i l).0;
  most = λ i l. (at_place i l).1;
}
  where
    count_is : length (map f h.assets) ≡ h.n
    count_is = length-map h.assets f ∙ is.assets_count

    at_place : (i : ℕ) → i < h.n → (low ≤ slice_index_or (map f h.assets) i 0) × (slice_index_or (map f h.assets) i 0 ≤ high)
    at_place i l = All-get_or (λ v. (low ≤ v) × (v ≤ high)) (map f h.assets) i 0 (rw count_is l) (All-map (λ v. (low ≤ v) × (v ≤ high)) f h.assets (All-weaker (IsAssetLine h.lots) (λ a. (low ≤ f a) × (f a ≤ high)) each h.assets is.assets_are))

pub instance_is : (h : CertHead) → IsHead h → IsInstance (instance_in h)
unfolding instance_in market_in
instance_is h is = record {
  market_is = market_is h is;
  limits_are = record {
    lots_least = is.lots_least;
    lots_most = is.lots_most;
    held_least = is.held_least;
    held_range = is.held_range;
    held_most = is.held_most;
    least_within = between h (λ a. a.least) 1 h.lots is (λ a l. (l.least_least, l.least_most));
    greatest_within = between h (λ a. a.greatest) 1 h.lots is (λ a l. (l.greatest_least, l.greatest_most));
    present_within = between h (λ a. a.present) 0 10000 is (λ a l. (omega arith, l.present_most));
    turnover_most = is.turnover_most;
  };
}

-- ---- the shift
r_small : (h : CertHead) → IsHead h → (i k : ℕ) → Small 1000000000000000 (given_r h i k)
r_small h is i k = chosen (Small 1000000000000000) (nat_le k i) _ _ (all_places (Small 1000000000000000) h.factor (pos 0) is.factor_are (omega arith) (row_number i k)) (omega arith)

pub shift_is : (h : CertHead) → IsHead h → IsShift (shift_in h)
unfolding shift_in
shift_is h is = record {
  few = is.few;
  many = is.many;
  factor_length = length-map-range_with_len (λ k. given_r h (k / h.n) (k % h.n)) 0 (h.n * h.n);
  diagonal_length = is.diagonal_count;
  factor_sizes = table_places (Small 1000000000000000) h.n (given_r h) (r_small h is) (omega arith);
  diagonal_sizes = λ i. (all_places IsDiagonal h.diagonal (pos 0) is.diagonal_are zero_diagonal i).most;
  diagonal_signs = λ i. (all_places IsDiagonal h.diagonal (pos 0) is.diagonal_are zero_diagonal i).least;
}
  where
    zero_diagonal : IsDiagonal (pos 0)
    zero_diagonal = record { least = omega arith; most = omega arith }

pub row_r : (h : CertHead) (i k : ℕ) → i < h.n → k < suc i → r_of (shift_in h) i k ≡ at h.factor (row_number i k)
unfolding shift_in
row_r h i k p q = chosen_first (nat_le k i) _ _ low ∙ table_at h.n (given_r h) i k p (omega arith) ∙ chosen_first (nat_le k i) _ _ low
  where
    low : nat_le k i ≡ true
    low = grind arith

-- ---- the root
pub root_is : (h : CertHead) → IsHead h → AreCells (root_in h)
root_is h is = record { each = λ k. cell k (cases_lt k (length least)) }
  where
    limits : AreLimits (instance_in h).market.assets (instance_in h).lots (instance_in h).held (instance_in h).held_most (instance_in h).least (instance_in h).greatest (instance_in h).present (instance_in h).turnover
    limits = (instance_is h is).limits_are

    least : List ℕ
    least = (instance_in h).least

    same : length (instance_in h).least ≡ length (instance_in h).greatest
    same = limits.least_within.count ∙ sym limits.greatest_within.count

    lots_most : (instance_in h).lots ≤ 10000
    lots_most = limits.lots_most

    cell : (k : ℕ) → (k < length (instance_in h).least) ⊎ (length (instance_in h).least ≤ k) → IsCell (slice_index_or (root_cells (instance_in h).least (instance_in h).greatest) k Out)
    cell k (inl l) =
        let n : k < (instance_in h).market.assets = rw limits.least_within.count at l in
        let u = limits.greatest_within.most k n in
        let v = lots_most in
        subst IsCell (sym (root-at (instance_in h).least (instance_in h).greatest same k l)) (root_cell_is _ _ (limits.least_within.least k n) (omega arith))
    cell k (inr l) = subst IsCell (sym (get_or_past (root_cells (instance_in h).least (instance_in h).greatest) k Out (rw (length-root (instance_in h).least (instance_in h).greatest same) l))) tt

-- ---- the order of pairs and of rows
pub pairs_next : (n i j : ℕ) → i < j → pair_number n i (suc j) ≡ pair_number n i j + 1
pairs_next n i j h = omega arith

pub pairs_row : (n i : ℕ) → suc i < n → pair_number (suc n) (suc i) (suc (suc i)) ≡ pair_number (suc n) i n + 1
pairs_row n i h = omega arith

pub rows_next : (i k : ℕ) → row_number i (suc k) ≡ row_number i k + 1
rows_next i k = omega arith

pub rows_row : (i : ℕ) → row_number (suc i) 0 ≡ row_number i i + 1
rows_row i = omega arith
