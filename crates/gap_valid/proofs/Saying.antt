-- Laws of saying a market anew, asset by asset and pair by pair.

use Rattle.std.proofs.Common.{◌≡◌, ◌≢◌, ℕ, ◌+◌, ◌*◌, ◌<◌, ◌≤◌, ◌⊎◌, inl, inr, ⊎_elim, List, length, slice_index_or, slice_set, ℤ, pos, unsigned_abs, refl, sym, ap, ◌∙◌, arith}
use Rattle.std.proofs.lemmas.Bool.{cases_eq, cases_lt}
use Rattle.std.proofs.lemmas.List.{get_or-set_other, get_or-replicate}
use Rattle.std.proofs.lemmas.Grind.{get_or-set_at}
use Rattle.std.proofs.lemmas.Nat.{mul-add-lt}
use Rattle.gap_base.specs.Markets.{MarketValue, IsMarket, mean_of, deviation_of, rho_of, fresh_market, with_mean, with_deviation, with_rho}
use Rattle.gap_base.specs.Sums.{at}
use Rattle.gap_base.proofs.MarketLaws.{rho_of-two, rho_of-same_list, rho_of-one_way, rho_of-others, place_row, place_column, IsMarket-fresh, IsMarket-mean, IsMarket-deviation, IsMarket-rho}
use Rattle.gap_valid.specs.Heads.{table}
use Rattle.gap_valid.specs.Said.{said_rho, said_market}
use Rattle.gap_valid.specs.Steps.{IsSaidUpTo}
use Rattle.gap_valid.proofs.Same.{list_same, table_is}
use Rattle.gap_valid.proofs.SaidLaws.{said_rho-two, said_rho-same}

-- nothing is said yet
pub said_start : (m k : MarketValue) (n : ℕ) → IsMarket m → k ≡ fresh_market n → n ≡ m.assets → IsSaidUpTo m k 0 0 0
said_start m k n of e f = rw (e, f) (record {
  is_market = IsMarket-fresh m.assets of.few of.many;
  assets_are = refl;
  rounded_is = refl;
  means_are = λ a h. absurd (omega arith);
  deviations_are = λ a h. absurd (omega arith);
  diagonal_is = λ a h. get_or-replicate (m.assets * m.assets) (a * m.assets + a) (pos 0) (pos 0) (mul-add-lt a m.assets a m.assets h h);
  pairs_are = λ a b l h w. absurd (none a b w);
})
  where
    none : (a b : ℕ) → (a < 0) ⊎ ((a ≡ 0) × (b < 0)) → ⊥
    none a b (inl h) = omega arith
    none a b (inr h) = let l = h.1 in omega arith

-- one more entry of a list whose first i entries are known
entries_on : {X : Type 0} (l : List X) (i : ℕ) (v d : X) (f : ℕ → X) → i < length l → ((a : ℕ) → a < i → slice_index_or l a d ≡ f a) → v ≡ f i
    → (a : ℕ) → a < i + 1 → slice_index_or (slice_set l i v) a d ≡ f a
entries_on l i v d f h before e a lt =
    ⊎_elim (λ q. get_or-set_at l i a v d q h ∙ e ∙ ap f (sym q)) (λ ne. get_or-set_other l i a v d ne ∙ before a (omega arith)) (cases_eq a i)

-- the mean and the deviation of one more asset
pub said_asset : (m k : MarketValue) (i : ℕ) → unsigned_abs (mean_of m i) ≤ 1000000 → deviation_of m i ≤ 1000000 → i < m.assets → IsSaidUpTo m k i i 0 → IsSaidUpTo m (with_deviation (with_mean k i (mean_of m i)) i (deviation_of m i)) (i + 1) i 0
said_asset m k i mean_size deviation_size p h =
    let known = h.is_market in
    let inside : i < k.assets = rw h.assets_are p in
    record {
      is_market = IsMarket-deviation (with_mean k i (mean_of m i)) i (deviation_of m i) (IsMarket-mean k i (mean_of m i) known inside mean_size) inside deviation_size;
      assets_are = h.assets_are;
      rounded_is = h.rounded_is;
      means_are = entries_on k.means i (mean_of m i) (pos 0) (mean_of m) (rw known.means_length inside) h.means_are refl;
      deviations_are = entries_on {X = ℕ} k.deviations i (deviation_of m i) 0 (deviation_of m) (rw known.deviations_length inside) h.deviations_are refl;
      diagonal_is = h.diagonal_is;
      pairs_are = λ a b l q w. rho_of-same_list (with_deviation (with_mean k i (mean_of m i)) i (deviation_of m i)) k a b refl refl ∙ h.pairs_are a b l q w;
    }

-- an entry of the diagonal is none of those of two assets
diagonal_stays : (m k : MarketValue) (i j a : ℕ) (v : ℤ) → k.assets ≡ m.assets → i < m.assets → j < m.assets → j < i → a < m.assets → at (with_rho k i j v).correlations (a * m.assets + a) ≡ at k.correlations (a * m.assets + a)
diagonal_stays m k i j a v e p q l h =
    get_or-set_other (slice_set k.correlations (i * k.assets + j) v) (j * k.assets + i) (a * m.assets + a) v (pos 0) off_second
    ∙ get_or-set_other k.correlations (i * k.assets + j) (a * m.assets + a) v (pos 0) off_first
  where
    off_first : a * m.assets + a ≢ i * k.assets + j
    off_first = rw e (λ f. let r = place_row m.assets a a i j h q f in let c = place_column m.assets a a i j h q f in omega arith)

    off_second : a * m.assets + a ≢ j * k.assets + i
    off_second = rw e (λ f. let r = place_row m.assets a a j i h p f in let c = place_column m.assets a a j i h p f in omega arith)

-- a pair is this one, or one of its assets is another
pairs_apart : (a b i j : ℕ) → ((a ≡ i) × (b ≡ j)) ⊎ ((a ≢ i) ⊎ (b ≢ j))
pairs_apart a b i j =
    ⊎_elim (λ e. ⊎_elim (λ f. inl (e, f)) (λ nf. inr (inr nf)) (cases_eq b j)) (λ ne. inr (inl ne)) (cases_eq a i)

-- a pair that is said at last was said before, or is the last
was_said : (a b i j : ℕ) → (a ≢ i) ⊎ (b ≢ j) → (a < i) ⊎ ((a ≡ i) × (b < j + 1)) → (a < i) ⊎ ((a ≡ i) × (b < j))
was_said a b i j ne (inl l) = inl l
was_said a b i j (inl na) (inr w) = absurd (na w.0)
was_said a b i j (inr nb) (inr w) = let l = w.1 in inr (w.0, omega arith)

-- the correlation of one more pair
pub said_pair : (m k : MarketValue) (i j : ℕ) → unsigned_abs (rho_of m i j) ≤ 1000000 → i < m.assets → j < i → IsSaidUpTo m k (i + 1) i j → IsSaidUpTo m (with_rho k i j (rho_of m i j)) (i + 1) i (j + 1)
said_pair m k i j size p l h =
    let known = h.is_market in
    let first : i < k.assets = rw h.assets_are p in
    let second : j < k.assets = omega arith in
    let q : j < m.assets = omega arith in
    let two : i ≢ j = λ e. omega arith in
    record {
      is_market = IsMarket-rho k i j (rho_of m i j) known first second two size;
      assets_are = h.assets_are;
      rounded_is = h.rounded_is;
      means_are = h.means_are;
      deviations_are = h.deviations_are;
      diagonal_is = λ a r. diagonal_stays m k i j a (rho_of m i j) h.assets_are p q l r ∙ h.diagonal_is a r;
      pairs_are = λ a b s r w.
          ⊎_elim
          (λ (hit : (a ≡ i) × (b ≡ j)). rw (hit.0, hit.1) (rho_of-one_way k i j (rho_of m i j) known first second two))
          (λ (miss : (a ≢ i) ⊎ (b ≢ j)).
          rho_of-others k i j (rho_of m i j) a b known first second two (rw h.assets_are r) (let t = h.assets_are in omega arith) miss (turned_apart a b i j s l)
          ∙ h.pairs_are a b s r (was_said a b i j miss w))
          (pairs_apart a b i j);
    }
  where
    turned_apart : (a b i j : ℕ) → b < a → j < i → (a ≢ j) ⊎ (b ≢ i)
    turned_apart a b i j s l = ⊎_elim (λ e. inr (λ f. omega arith)) (λ ne. inl ne) (cases_eq a j)

-- a row is whole where all its pairs are said
pub said_row : (m k : MarketValue) (i j : ℕ) → j ≡ i → IsSaidUpTo m k (i + 1) i j → IsSaidUpTo m k (i + 1) (i + 1) 0
said_row m k i j e h = record {
  is_market = h.is_market;
  assets_are = h.assets_are;
  rounded_is = h.rounded_is;
  means_are = h.means_are;
  deviations_are = h.deviations_are;
  diagonal_is = h.diagonal_is;
  pairs_are = λ a b s r w. h.pairs_are a b s r (earlier a b s w);
}
  where
    earlier : (a b : ℕ) → b < a → (a < i + 1) ⊎ ((a ≡ i + 1) × (b < 0)) → (a < i) ⊎ ((a ≡ i) × (b < j))
    earlier a b s (inl l) = ⊎_elim (λ (q : a ≡ i). inr (q, omega arith)) (λ ne. inl (omega arith)) (cases_eq a i)
    earlier a b s (inr w) = let l = w.1 in absurd (omega arith)

-- ---- all of it is said
whole_pair : (m k : MarketValue) → IsSaidUpTo m k m.assets m.assets 0 → (a b : ℕ) → b < a → a < m.assets → rho_of k a b ≡ rho_of m a b
whole_pair m k h a b l p = h.pairs_are a b l p (inl p)

whole_cell : (m k : MarketValue) → IsMarket m → IsMarket k → IsSaidUpTo m k m.assets m.assets 0 → (a b : ℕ) → a < m.assets → b < m.assets → at k.correlations (a * m.assets + b) ≡ said_rho m a b
whole_cell m k of known h a b p q = each (cases_lt b a) (cases_lt a b)
  where
    read : (a b : ℕ) → a ≢ b → at k.correlations (a * m.assets + b) ≡ rho_of k a b
    read a b ne = sym (rho_of-two k a b ne ∙ ap (λ (n : ℕ). at k.correlations (a * n + b)) h.assets_are)

    each : (b < a) ⊎ (a ≤ b) → (a < b) ⊎ (b ≤ a) → at k.correlations (a * m.assets + b) ≡ said_rho m a b
    each (inl l) _ =
        let ne : a ≢ b = λ e. omega arith in read a b ne ∙ whole_pair m k h a b l p ∙ sym (said_rho-two m a b ne)
    each (inr l) (inl g) =
        let ne : a ≢ b = λ e. omega arith in
        let r = h.assets_are in
        read a b ne ∙ known.symmetric a b (omega arith) (omega arith) ∙ whole_pair m k h b a g q ∙ of.symmetric b a q p ∙ sym (said_rho-two m a b ne)
    each (inr l) (inr g) =
        let e : a ≡ b = omega arith in
        ap (λ (c : ℕ). at k.correlations (a * m.assets + c)) (sym e) ∙ h.diagonal_is a p ∙ sym (said_rho-same m a b e)

made : ℕ → List ℤ → List ℕ → List ℤ → ℕ → MarketValue
made n means deviations correlations rounded = record { assets = n; means = means; deviations = deviations; correlations = correlations; rounded = rounded }

made_same : (n n' : ℕ) (a a' : List ℤ) (b b' : List ℕ) (c c' : List ℤ) (r r' : ℕ) → n ≡ n' → a ≡ a' → b ≡ b' → c ≡ c' → r ≡ r' → made n a b c r ≡ made n' a' b' c' r'
made_same n n' a a' b b' c c' r r' en ea eb ec er = cc

pub said_whole : (m k : MarketValue) (n : ℕ) → n ≡ m.assets → IsMarket m → IsSaidUpTo m k n n 0 → k ≡ said_market m
unfolding said_market made
said_whole m k n en of up =
    let h : IsSaidUpTo m k m.assets m.assets 0 = rw en at up in
    let known = h.is_market in
    made_same k.assets m.assets k.means m.means k.deviations m.deviations k.correlations (table m.assets (said_rho m)) k.rounded 0 h.assets_are
    (list_same m.assets (pos 0) k.means m.means (known.means_length ∙ h.assets_are) of.means_length h.means_are)
    (list_same {X = ℕ} m.assets 0 k.deviations m.deviations (known.deviations_length ∙ h.assets_are) of.deviations_length h.deviations_are)
    (table_is m.assets (said_rho m) k.correlations (known.correlations_length ∙ ap (λ (c : ℕ). c * c) h.assets_are) (whole_cell m k of known h))
    h.rounded_is
