-- The head of an instance, a shift and a budget is in its ranges and says them.

use Rattle.std.proofs.Common.{◌≡◌, ℕ, ◌+◌, ◌*◌, ◌<◌, ◌≤◌, ◌==◌, if◌then◌else◌, List, map, length, All, get_or, ◌⊎◌, inl, inr, ⊎_elim, ℤ, pos, ◌-ℤ◌, ◌*ℤ◌, ◌≤ℤ◌, unsigned_abs, refl, sym, ap, ◌∙◌, subst, arith}
use Rattle.std.specs.List.{range_with_len}
use Rattle.std.proofs.lemmas.Bool.{cases_lt}
use Rattle.std.proofs.lemmas.Bool.Decides.{nat_tests}
use Rattle.std.proofs.lemmas.List.{get_or-map}
use Rattle.std.proofs.lemmas.List.Elements.{All-from_get_or}
use Rattle.std.proofs.lemmas.List.FromFn.{get_or-map-range_with_len, length-map-range_with_len}
use Rattle.gap_base.specs.Markets.{MarketValue, rho_of}
use Rattle.gap_base.specs.Sums.{at, abs_z, lower}
use Rattle.gap_base.proofs.SumLaws.{sum_same}
use Rattle.gap_instance.specs.Instances.{InstanceValue}
use Rattle.gap_psd.specs.Forms.{others, gram}
use Rattle.gap_psd.specs.Shifts.{ShiftValue, r_of, with_diagonal, shifted, rest, IsDominantShift}
use Rattle.gap_psd.proofs.ShiftLaws.{lower_above}
use Rattle.gap_cert.specs.Certificates.{AssetLine, CertHead}
use Rattle.gap_valid.specs.Heads.{table, pair_number, given_rho, market_in, instance_in, shift_in, IsAssetLine, IsDiagonal, IsHead}
use Rattle.gap_valid.proofs.HeadLaws.{row_r}
use Rattle.gap_valid.specs.Said.{said_rho, said_market, said_instance, IsSaid}
use Rattle.gap_valid.specs.HeadOf.{asset_line, head_of, AreRanged}
use Rattle.gap_valid.proofs.Same.{table_same, read_back}
use Rattle.gap_valid.proofs.SaidLaws.{said_rho-two, said_rho-same}
use Rattle.gap_valid.proofs.Entries.{length-pairs, pairs_at, pairs_all, length-rows, rows_at, rows_all}

-- ---- ranges
line_is : (I : InstanceValue) (S : ShiftValue) (nodes : ℕ) → AreRanged I S nodes → (i : ℕ) → i < I.market.assets → IsAssetLine I.lots (asset_line I i)
line_is I S nodes h i l = record {
  mean_most = h.instance_is.market_is.mean_sizes i;
  dev_most = h.instance_is.market_is.deviation_sizes i;
  least_least = h.instance_is.limits_are.least_within.least i l;
  least_most = h.instance_is.limits_are.least_within.most i l;
  greatest_least = h.instance_is.limits_are.greatest_within.least i l;
  greatest_most = h.instance_is.limits_are.greatest_within.most i l;
  present_most = h.instance_is.limits_are.present_within.most i l;
}

lines_are : (I : InstanceValue) (S : ShiftValue) (nodes : ℕ) → AreRanged I S nodes → All (IsAssetLine I.lots) (map (asset_line I) (range_with_len 0 I.market.assets))
lines_are I S nodes h = All-from_get_or (IsAssetLine I.lots) (map (asset_line I) (range_with_len 0 I.market.assets)) (asset_line I 0) each
  where
    each : (i : ℕ) → i < length (map (asset_line I) (range_with_len 0 I.market.assets)) → IsAssetLine I.lots (get_or (map (asset_line I) (range_with_len 0 I.market.assets)) i (asset_line I 0))
    each i l =
        let inside : i < I.market.assets = rw (length-map-range_with_len (asset_line I) 0 I.market.assets) at l in
        subst (IsAssetLine I.lots) (sym (get_or-map-range_with_len (asset_line I) 0 I.market.assets i i (asset_line I 0) inside (omega arith))) (line_is I S nodes h i inside)

lower_small : (most n : ℕ) (xs : List ℤ) (i k : ℕ) → unsigned_abs (at xs (i * n + k)) ≤ most → unsigned_abs (lower n xs i k) ≤ most
lower_small most n xs i k h = each (cases_lt i k)
  where
    each : (i < k) ⊎ (k ≤ i) → unsigned_abs (lower n xs i k) ≤ most
    each (inl l) = rw (lower_above n xs i k l) (omega arith)
    each (inr l) = grind (arith, nat_tests)

pub head_is : (I : InstanceValue) (S : ShiftValue) (nodes : ℕ) → AreRanged I S nodes → IsHead (head_of I S nodes)
unfolding head_of
head_is I S nodes h = record {
  few = h.instance_is.market_is.few;
  many = h.instance_is.market_is.many;
  lots_least = h.instance_is.limits_are.lots_least;
  lots_most = h.instance_is.limits_are.lots_most;
  held_least = h.instance_is.limits_are.held_least;
  held_range = h.instance_is.limits_are.held_range;
  held_most = h.instance_is.limits_are.held_most;
  turnover_most = h.instance_is.limits_are.turnover_most;
  nodes_most = h.nodes_most;
  assets_count = length-map-range_with_len (asset_line I) 0 I.market.assets;
  assets_are = lines_are I S nodes h;
  correlations_count = length-pairs I.market.assets (rho_of I.market) I.market.assets;
  correlations_are = pairs_all (λ (rho : ℤ). unsigned_abs rho ≤ 1000000) I.market.assets (rho_of I.market) I.market.assets h.instance_is.market_is.rho_sizes;
  factor_count = length-rows (r_of S) I.market.assets;
  factor_are = rows_all (λ (r : ℤ). unsigned_abs r ≤ 1000000000000000) (r_of S) I.market.assets (λ i k. lower_small 1000000000000000 S.assets S.factor i k (h.shift_is.factor_sizes (i * S.assets + k)));
  diagonal_count = h.shift_is.diagonal_length ∙ h.same_assets;
  diagonal_are = All-from_get_or IsDiagonal S.diagonal (pos 0) (λ i l. record { least = h.shift_is.diagonal_signs i; most = h.shift_is.diagonal_sizes i });
}

-- ---- the instance
given_below : (h : CertHead) (i j : ℕ) → i < j → given_rho h i j ≡ at h.correlations (pair_number h.n i j)
given_below h i j p = grind (arith, nat_tests)

given_above : (h : CertHead) (i j : ℕ) → j < i → given_rho h i j ≡ at h.correlations (pair_number h.n j i)
given_above h i j p = grind (arith, nat_tests)

given_none : (h : CertHead) (i j : ℕ) → i ≡ j → given_rho h i j ≡ pos 0
given_none h i j e = grind (arith, nat_tests)

given_is : (I : InstanceValue) (S : ShiftValue) (nodes : ℕ) → AreRanged I S nodes → (i j : ℕ) → i < I.market.assets → j < I.market.assets → given_rho (head_of I S nodes) i j ≡ said_rho I.market i j
unfolding head_of
given_is I S nodes h i j p q = each (cases_lt i j) (cases_lt j i)
  where
    each : (i < j) ⊎ (j ≤ i) → (j < i) ⊎ (i ≤ j) → given_rho (head_of I S nodes) i j ≡ said_rho I.market i j
    each (inl l) m =
        given_below (head_of I S nodes) i j l ∙ pairs_at I.market.assets (rho_of I.market) I.market.assets i j p l q
        ∙ sym (said_rho-two I.market i j (λ e. omega arith))
    each (inr l) (inl m) =
        given_above (head_of I S nodes) i j m ∙ pairs_at I.market.assets (rho_of I.market) I.market.assets j i q m p
        ∙ h.instance_is.market_is.symmetric j i q p ∙ sym (said_rho-two I.market i j (λ e. omega arith))
    each (inr l) (inr m) =
        let e : i ≡ j = omega arith in given_none (head_of I S nodes) i j e ∙ sym (said_rho-same I.market i j e)

made_market : ℕ → List ℤ → List ℕ → List ℤ → MarketValue
made_market n means deviations correlations = record { assets = n; means = means; deviations = deviations; correlations = correlations; rounded = 0 }

market_said_in : (I : InstanceValue) (S : ShiftValue) (nodes : ℕ) → AreRanged I S nodes → market_in (head_of I S nodes) ≡ said_market I.market
unfolding head_of market_in said_market made_market
market_said_in I S nodes h =
    let n = I.market.assets in
    let known = h.instance_is.market_is in
    let means : map (λ (a : AssetLine). a.mean) (map (asset_line I) (range_with_len 0 n)) ≡ I.market.means = read_back n (asset_line I) (λ (a : AssetLine). a.mean) (pos 0) I.market.means known.means_length (λ k. refl) in
    let deviations : map (λ (a : AssetLine). a.dev) (map (asset_line I) (range_with_len 0 n)) ≡ I.market.deviations = read_back {X = ℕ} n (asset_line I) (λ (a : AssetLine). a.dev) 0 I.market.deviations known.deviations_length (λ k. refl) in
    let correlations : table n (given_rho (head_of I S nodes)) ≡ table n (said_rho I.market) = table_same n (given_rho (head_of I S nodes)) (said_rho I.market) (given_is I S nodes h) in
    ap (λ (xs : List ℤ). made_market n xs (map (λ (a : AssetLine). a.dev) (map (asset_line I) (range_with_len 0 n))) (table n (given_rho (head_of I S nodes)))) means
    ∙ ap (λ (xs : List ℕ). made_market n I.market.means xs (table n (given_rho (head_of I S nodes)))) deviations
    ∙ ap (λ (xs : List ℤ). made_market n I.market.means I.market.deviations xs) correlations

made_instance : InstanceValue → MarketValue → List ℕ → List ℕ → List ℕ → InstanceValue
made_instance I m least greatest present = record {
  market = m;
  lots = I.lots;
  held = I.held;
  held_most = I.held_most;
  least = least;
  greatest = greatest;
  present = present;
  turnover = I.turnover;
}

pub instance_said_in : (I : InstanceValue) (S : ShiftValue) (nodes : ℕ) → AreRanged I S nodes → instance_in (head_of I S nodes) ≡ said_instance I
unfolding head_of instance_in said_instance made_instance
instance_said_in I S nodes h =
    let n = I.market.assets in
    let limits = h.instance_is.limits_are in
    let lines : List AssetLine = map (asset_line I) (range_with_len 0 n) in
    let least : map (λ (a : AssetLine). a.least) (map (asset_line I) (range_with_len 0 n)) ≡ I.least = read_back {X = ℕ} n (asset_line I) (λ (a : AssetLine). a.least) 0 I.least limits.least_within.count (λ k. refl) in
    let greatest : map (λ (a : AssetLine). a.greatest) (map (asset_line I) (range_with_len 0 n)) ≡ I.greatest = read_back {X = ℕ} n (asset_line I) (λ (a : AssetLine). a.greatest) 0 I.greatest limits.greatest_within.count (λ k. refl) in
    let present : map (λ (a : AssetLine). a.present) (map (asset_line I) (range_with_len 0 n)) ≡ I.present = read_back {X = ℕ} n (asset_line I) (λ (a : AssetLine). a.present) 0 I.present limits.present_within.count (λ k. refl) in
    ap (λ (m : MarketValue). made_instance I m (map (λ (a : AssetLine). a.least) lines) (map (λ (a : AssetLine). a.greatest) lines) (map (λ (a : AssetLine). a.present) lines)) (market_said_in I S nodes h)
    ∙ ap (λ (xs : List ℕ). made_instance I (said_market I.market) xs (map (λ (a : AssetLine). a.greatest) lines) (map (λ (a : AssetLine). a.present) lines)) least
    ∙ ap (λ (xs : List ℕ). made_instance I (said_market I.market) I.least xs (map (λ (a : AssetLine). a.present) lines)) greatest
    ∙ ap (λ (xs : List ℕ). made_instance I (said_market I.market) I.least I.greatest xs) present

pub said_stands : (I : InstanceValue) (S : ShiftValue) (nodes : ℕ) → AreRanged I S nodes → IsSaid I → instance_in (head_of I S nodes) ≡ I
said_stands I S nodes h said = instance_said_in I S nodes h ∙ sym said

-- ---- what is read of an asset
made_line : ℤ → ℕ → ℕ → ℕ → ℕ → AssetLine
made_line mean dev least greatest present = record { mean = mean; dev = dev; least = least; greatest = greatest; present = present }

made_line_same : (m m' : ℤ) (a a' b b' c c' d d' : ℕ) → m ≡ m' → a ≡ a' → b ≡ b' → c ≡ c' → d ≡ d' → made_line m a b c d ≡ made_line m' a' b' c' d'
made_line_same m m' a a' b b' c c' d d' e f g h k = cc

pub line_read : (h : CertHead) (i : ℕ) (d : AssetLine) → IsHead h → i < h.n → asset_line (instance_in h) i ≡ get_or h.assets i d
unfolding instance_in market_in made_line
line_read h i d is l =
    let inside : i < length h.assets = rw is.assets_count l in
    let a = get_or h.assets i d in
    made_line_same (get_or (map (λ (x : AssetLine). x.mean) h.assets) i (pos 0)) a.mean
    (get_or (map (λ (x : AssetLine). x.dev) h.assets) i 0) a.dev (get_or (map (λ (x : AssetLine). x.least) h.assets) i 0) a.least
    (get_or (map (λ (x : AssetLine). x.greatest) h.assets) i 0) a.greatest (get_or (map (λ (x : AssetLine). x.present) h.assets) i 0) a.present
    (get_or-map (λ (x : AssetLine). x.mean) h.assets i d (pos 0) inside) (get_or-map {Y = ℕ} (λ (x : AssetLine). x.dev) h.assets i d 0 inside)
    (get_or-map {Y = ℕ} (λ (x : AssetLine). x.least) h.assets i d 0 inside) (get_or-map {Y = ℕ} (λ (x : AssetLine). x.greatest) h.assets i d 0 inside)
    (get_or-map {Y = ℕ} (λ (x : AssetLine). x.present) h.assets i d 0 inside)

-- ---- the shift
pub nodes_stand : (I : InstanceValue) (S : ShiftValue) (nodes : ℕ) → (head_of I S nodes).nodes ≡ nodes
unfolding head_of
nodes_stand I S nodes = refl

pub diagonal_stands : (I : InstanceValue) (S : ShiftValue) (nodes : ℕ) → (shift_in (head_of I S nodes)).diagonal ≡ S.diagonal
unfolding head_of shift_in
diagonal_stands I S nodes = refl

assets_stand : (I : InstanceValue) (S : ShiftValue) (nodes : ℕ) → AreRanged I S nodes → (shift_in (head_of I S nodes)).assets ≡ S.assets
unfolding head_of shift_in
assets_stand I S nodes h = sym h.same_assets

triangle_here : (I : InstanceValue) (S : ShiftValue) (nodes i k : ℕ) → AreRanged I S nodes → i < I.market.assets → k ≤ i → r_of (shift_in (head_of I S nodes)) i k ≡ r_of S i k
unfolding head_of
triangle_here I S nodes i k h p q = row_r (head_of I S nodes) i k p (omega arith) ∙ rows_at (r_of S) I.market.assets i k p q

triangle_above : (s t : ShiftValue) (i k : ℕ) → i < k → r_of s i k ≡ r_of t i k
triangle_above s t i k h = lower_above s.assets s.factor i k h ∙ sym (lower_above t.assets t.factor i k h)

pub triangle_stands : (I : InstanceValue) (S : ShiftValue) (nodes i k : ℕ) → AreRanged I S nodes → i < S.assets → k < S.assets → r_of (shift_in (head_of I S nodes)) i k ≡ r_of S i k
triangle_stands I S nodes i k h p q =
    ⊎_elim (λ (l : i < k). triangle_above (shift_in (head_of I S nodes)) S i k l) (λ (l : k ≤ i). triangle_here I S nodes i k h (rw h.same_assets at p) l) (cases_lt i k)

-- ---- a shift with the same numbers
gram_along : (S T : ShiftValue) → T.assets ≡ S.assets → ((i k : ℕ) → i < S.assets → k < S.assets → r_of T i k ≡ r_of S i k) → (i j : ℕ) → i < S.assets → j < S.assets → gram T.assets (r_of T) i j ≡ gram S.assets (r_of S) i j
unfolding gram
gram_along S T e h i j p q =
    ap (λ (n : ℕ). gram n (r_of T) i j) e
    ∙ sum_same S.assets (λ k. r_of T i k *ℤ r_of T j k) (λ k. r_of S i k *ℤ r_of S j k) (λ k l. ap (λ (z : ℤ). z *ℤ r_of T j k) (h i k p l) ∙ ap (λ (z : ℤ). r_of S i k *ℤ z) (h j k q l))

rest_along : (C : ℕ → ℕ → ℤ) (S T : ShiftValue) → T.assets ≡ S.assets → T.diagonal ≡ S.diagonal → ((i k : ℕ) → i < S.assets → k < S.assets → r_of T i k ≡ r_of S i k) → (i j : ℕ) → i < S.assets → j < S.assets → rest C T i j ≡ rest C S i j
rest_along C S T e d h i j p q =
    ap (λ (z : ℤ). pos 1000000000000 *ℤ shifted C T i j -ℤ z) (gram_along S T e h i j p q)
    ∙ ap (λ (xs : List ℤ). pos 1000000000000 *ℤ with_diagonal C (at xs) i j -ℤ gram S.assets (r_of S) i j) d

others_along : (C : ℕ → ℕ → ℤ) (S T : ShiftValue) → T.assets ≡ S.assets → T.diagonal ≡ S.diagonal → ((i k : ℕ) → i < S.assets → k < S.assets → r_of T i k ≡ r_of S i k) → (i : ℕ) → i < S.assets → others T.assets (rest C T) i ≡ others S.assets (rest C S) i
unfolding others
others_along C S T e d h i p =
    ap (λ (n : ℕ). others n (rest C T) i) e
    ∙ sum_same S.assets (λ j. if j == i then pos 0 else abs_z (rest C T i j)) (λ j. if j == i then pos 0 else abs_z (rest C S i j)) (λ j l. ap (λ (z : ℤ). if j == i then pos 0 else abs_z z) (rest_along C S T e d h i j p l))

pub dominant_along : (C : ℕ → ℕ → ℤ) (S T : ShiftValue) → T.assets ≡ S.assets → T.diagonal ≡ S.diagonal → ((i k : ℕ) → i < S.assets → k < S.assets → r_of T i k ≡ r_of S i k) → IsDominantShift C S → IsDominantShift C T
dominant_along C S T e d h known i l =
    let p : i < S.assets = rw e at l in
    subst (λ (z : ℤ). z ≤ℤ rest C T i i) (sym (others_along C S T e d h i p))
    (subst (λ (z : ℤ). others S.assets (rest C S) i ≤ℤ z) (sym (rest_along C S T e d h i i p p)) (known i p))

pub dominant_stays : (C : ℕ → ℕ → ℤ) (I : InstanceValue) (S : ShiftValue) (nodes : ℕ) → AreRanged I S nodes → IsDominantShift C S → IsDominantShift C (shift_in (head_of I S nodes))
dominant_stays C I S nodes h known =
    dominant_along C S (shift_in (head_of I S nodes)) (assets_stand I S nodes h) (diagonal_stands I S nodes) (λ i k p q. triangle_stands I S nodes i k h p q) known
