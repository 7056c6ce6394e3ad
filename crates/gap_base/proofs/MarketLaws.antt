-- Laws of the market: its entries read after a write, and what each setter keeps.
use Rattle.std.proofs.Common.{◌≡◌, ◌≢◌, ℕ, ◌+◌, ◌*◌, ◌/◌, ◌%◌, ◌<◌, ◌≤◌, ◌⊎◌, inl, inr, ⊎_elim, List, length, replicate, slice_index_or, slice_set, ℤ, pos, refl, sym, ap, ◌∙◌, arith}
use Rattle.std.specs.Int.RustNames.{unsigned_abs}
use Rattle.std.proofs.lemmas.Bool.{cases_eq, cases_lt}
use Rattle.std.proofs.lemmas.Bool.Decides.{nat_tests}
use Rattle.std.proofs.lemmas.List.{length-set, get_or-set_other, get_or-replicate, length-replicate}
use Rattle.std.proofs.lemmas.Grind.{get_or-set_at, common_steps}
use Rattle.std.proofs.lemmas.Nat.{div-mul-add, mod-mul-add, mul-add-lt}
use Rattle.gap_base.specs.Markets.{MarketValue, IsMarket, mean_of, deviation_of, rho_of, fresh_market, with_mean, with_deviation, with_rho, with_one_more_rounded}

-- an asset's correlation with itself
pub rho_of-same : (m : MarketValue) (i j : ℕ) → i ≡ j → rho_of m i j ≡ pos 1000000
unfolding rho_of
rho_of-same m i j e = grind (arith, nat_tests)

-- the correlation of two assets is an entry of the list
pub rho_of-two : (m : MarketValue) (i j : ℕ) → i ≢ j → rho_of m i j ≡ slice_index_or m.correlations (i * m.assets + j) (pos 0)
unfolding rho_of
rho_of-two m i j ne = grind (arith, nat_tests)

-- two numbers are these two, or one of them is not
both_or : (a b i j : ℕ) → ((a ≡ i) × (b ≡ j)) ⊎ ((a ≢ i) ⊎ (b ≢ j))
both_or a b i j =
    ⊎_elim (λ e. ⊎_elim (λ f. inl (e, f)) (λ nf. inr (inr nf)) (cases_eq b j)) (λ ne. inr (inl ne)) (cases_eq a i)

turned : (b i a j : ℕ) → (a ≢ j) ⊎ (b ≢ i) → (b ≢ i) ⊎ (a ≢ j)
turned b i a j h = ⊎_elim (λ x. inr x) (λ x. inl x) h

-- two markets with the same assets and correlations
pub rho_of-same_list : (m k : MarketValue) (i j : ℕ) → m.assets ≡ k.assets → m.correlations ≡ k.correlations → rho_of m i j ≡ rho_of k i j
rho_of-same_list m k i j e f =
    ⊎_elim (λ h. rho_of-same m i j h ∙ sym (rho_of-same k i j h)) (λ ne. rw (rho_of-two m i j ne, rho_of-two k i j ne, e, f) refl) (cases_eq i j)

-- a correlation in a market that is another
pub rho_of-along : (m k : MarketValue) (i j : ℕ) (v : ℤ) → m ≡ k → rho_of k i j ≡ v → rho_of m i j ≡ v
rho_of-along m k i j v e h = rw e h

-- a correlation is as small as the entry that it is
pub rho_size : (m : MarketValue) (i j : ℕ) → ((i ≢ j) → unsigned_abs (slice_index_or m.correlations (i * m.assets + j) (pos 0)) ≤ 1000000) → unsigned_abs (rho_of m i j) ≤ 1000000
rho_size m i j h = ⊎_elim (λ e. rw (rho_of-same m i j e) (omega arith)) (λ ne. rw (rho_of-two m i j ne) (h ne)) (cases_eq i j)

-- two places of a square of n rows are one only where rows and columns are
pub place_row : (n i j a b : ℕ) → j < n → b < n → i * n + j ≡ a * n + b → i ≡ a
place_row n i j a b p q e = sym (div-mul-add i n j p) ∙ ap (λ (k : ℕ). k / n) e ∙ div-mul-add a n b q

pub place_column : (n i j a b : ℕ) → j < n → b < n → i * n + j ≡ a * n + b → j ≡ b
place_column n i j a b p q e = sym (mod-mul-add i n j p) ∙ ap (λ (k : ℕ). k % n) e ∙ mod-mul-add a n b q

-- a write keeps a bound on all entries
pub set_size : (l : List ℤ) (p k : ℕ) (v : ℤ) (b : ℕ) → p < length l → unsigned_abs v ≤ b → unsigned_abs (slice_index_or l k (pos 0)) ≤ b → unsigned_abs (slice_index_or (slice_set l p v) k (pos 0)) ≤ b
set_size l p k v b h s t =
    ⊎_elim (λ e. rw (get_or-set_at l p k v (pos 0) e h) s) (λ ne. rw (get_or-set_other l p k v (pos 0) ne) t) (cases_eq k p)

pub set_below : (l : List ℕ) (p k v b : ℕ) → p < length l → v ≤ b → slice_index_or l k 0 ≤ b → slice_index_or (slice_set l p v) k 0 ≤ b
set_below l p k v b h s t =
    ⊎_elim (λ e. rw (get_or-set_at l p k v 0 e h) s) (λ ne. rw (get_or-set_other l p k v 0 ne) t) (cases_eq k p)

-- past the end of a list a read answers its default
past_end : {X : Type 0} (l : List X) (k : ℕ) (d : X) → length l ≤ k → slice_index_or l k d ≡ d
past_end l k d h = grind (arith, common_steps)

-- the entries of one value
pub replicate_size : (n k : ℕ) → unsigned_abs (slice_index_or (replicate n (pos 0)) k (pos 0)) ≤ 1000000
replicate_size n k =
    ⊎_elim (λ h. rw (get_or-replicate n k (pos 0) (pos 0) h) (omega arith)) (λ h. rw (past_end (replicate n (pos 0)) k (pos 0) (rw (length-replicate n (pos 0)) h)) (omega arith)) (cases_lt k n)

pub replicate_below : (n k : ℕ) → slice_index_or (replicate n 0) k 0 ≤ 1000000
replicate_below n k =
    ⊎_elim (λ h. rw (get_or-replicate {A = ℕ} n k 0 0 h) (omega arith)) (λ h. rw (past_end {X = ℕ} (replicate n 0) k 0 (rw (length-replicate {A = ℕ} n 0) h)) (omega arith)) (cases_lt k n)

-- the place of a pair is there
pub place_in : (m : MarketValue) → IsMarket m → (i j : ℕ) → i < m.assets → j < m.assets → i * m.assets + j < length m.correlations
place_in m known i j p q = rw known.correlations_length (mul-add-lt i m.assets j m.assets p q)

-- nothing is tied together in the new market
fresh_symmetric : (n i j : ℕ) → i < n → j < n → rho_of (fresh_market n) i j ≡ rho_of (fresh_market n) j i
fresh_symmetric n i j p q =
    ⊎_elim
    (λ e. rho_of-same (fresh_market n) i j e ∙ sym (rho_of-same (fresh_market n) j i (sym e)))
    (λ ne. rho_of-two (fresh_market n) i j ne ∙ get_or-replicate (n * n) (i * n + j) (pos 0) (pos 0) (mul-add-lt i n j n p q)
    ∙ sym (rho_of-two (fresh_market n) j i (λ e. ne (sym e)) ∙ get_or-replicate (n * n) (j * n + i) (pos 0) (pos 0) (mul-add-lt j n i n q p)))
    (cases_eq i j)

-- the new market is one
pub IsMarket-fresh : (n : ℕ) → 2 ≤ n → n ≤ 256 → IsMarket (fresh_market n)
IsMarket-fresh n p q = record {
  few = p;
  many = q;
  means_length = length-replicate n (pos 0);
  deviations_length = length-replicate {A = ℕ} n 0;
  correlations_length = length-replicate (n * n) (pos 0);
  mean_sizes = replicate_size n;
  deviation_sizes = replicate_below n;
  rho_sizes = λ i j. rho_size (fresh_market n) i j (λ ne. replicate_size (n * n) (i * n + j));
  symmetric = λ i j a b. fresh_symmetric n i j a b;
}

-- the same, where the lists are known by equations
pub IsMarket-made : (n : ℕ) (means : List ℤ) (deviations : List ℕ) (correlations : List ℤ) → 2 ≤ n → n ≤ 256 → means ≡ replicate n (pos 0) → deviations ≡ replicate n 0 → correlations ≡ replicate (n * n) (pos 0) → IsMarket (record { assets = n; means = means; deviations = deviations; correlations = correlations; rounded = 0 })
IsMarket-made n means deviations correlations p q a b c = rw (a, b, c) (IsMarket-fresh n p q)

pub IsMarket-mean : (m : MarketValue) (i : ℕ) (v : ℤ) → IsMarket m → i < m.assets → unsigned_abs v ≤ 1000000 → IsMarket (with_mean m i v)
IsMarket-mean m i v known p s = record {
  few = known.few;
  many = known.many;
  means_length = length-set m.means i v ∙ known.means_length;
  deviations_length = known.deviations_length;
  correlations_length = known.correlations_length;
  mean_sizes = λ k. set_size m.means i k v 1000000 (rw known.means_length p) s (known.mean_sizes k);
  deviation_sizes = known.deviation_sizes;
  rho_sizes = λ a b. rw (rho_of-same_list (with_mean m i v) m a b refl refl) (known.rho_sizes a b);
  symmetric = λ a b g h. rw (rho_of-same_list (with_mean m i v) m a b refl refl, rho_of-same_list (with_mean m i v) m b a refl refl) (known.symmetric a b g h);
}

pub IsMarket-deviation : (m : MarketValue) (i v : ℕ) → IsMarket m → i < m.assets → v ≤ 1000000 → IsMarket (with_deviation m i v)
IsMarket-deviation m i v known p s = record {
  few = known.few;
  many = known.many;
  means_length = known.means_length;
  deviations_length = length-set m.deviations i v ∙ known.deviations_length;
  correlations_length = known.correlations_length;
  mean_sizes = known.mean_sizes;
  deviation_sizes = λ k. set_below m.deviations i k v 1000000 (rw known.deviations_length p) s (known.deviation_sizes k);
  rho_sizes = λ a b. rw (rho_of-same_list (with_deviation m i v) m a b refl refl) (known.rho_sizes a b);
  symmetric = λ a b g h. rw (rho_of-same_list (with_deviation m i v) m a b refl refl, rho_of-same_list (with_deviation m i v) m b a refl refl) (known.symmetric a b g h);
}

pub IsMarket-rounded : (m : MarketValue) → IsMarket m → IsMarket (with_one_more_rounded m)
IsMarket-rounded m known = record {
  few = known.few;
  many = known.many;
  means_length = known.means_length;
  deviations_length = known.deviations_length;
  correlations_length = known.correlations_length;
  mean_sizes = known.mean_sizes;
  deviation_sizes = known.deviation_sizes;
  rho_sizes = λ a b. rw (rho_of-same_list (with_one_more_rounded m) m a b refl refl) (known.rho_sizes a b);
  symmetric = λ a b g h. rw (rho_of-same_list (with_one_more_rounded m) m a b refl refl, rho_of-same_list (with_one_more_rounded m) m b a refl refl) (known.symmetric a b g h);
}

-- the entry that was set, either way round
pub rho_of-one_way : (m : MarketValue) (i j : ℕ) (v : ℤ) → IsMarket m → i < m.assets → j < m.assets → i ≢ j → rho_of (with_rho m i j v) i j ≡ v
rho_of-one_way m i j v known p q ne =
    let n = m.assets in
    let row = slice_set m.correlations (i * n + j) v in
    let apart : i * n + j ≢ j * n + i = λ e. ne (place_row n i j j i q p e) in
    rho_of-two (with_rho m i j v) i j ne
    ∙ get_or-set_other row (j * n + i) (i * n + j) v (pos 0) apart
    ∙ get_or-set_at m.correlations (i * n + j) (i * n + j) v (pos 0) refl (place_in m known i j p q)

pub rho_of-other_way : (m : MarketValue) (i j : ℕ) (v : ℤ) → IsMarket m → i < m.assets → j < m.assets → i ≢ j → rho_of (with_rho m i j v) j i ≡ v
rho_of-other_way m i j v known p q ne =
    let n = m.assets in
    let row = slice_set m.correlations (i * n + j) v in
    rho_of-two (with_rho m i j v) j i (λ e. ne (sym e))
    ∙ get_or-set_at row (j * n + i) (j * n + i) v (pos 0) refl (rw (length-set m.correlations (i * n + j) v) (place_in m known j i q p))

-- every other entry stays
pub rho_of-others : (m : MarketValue) (i j : ℕ) (v : ℤ) (a b : ℕ) → IsMarket m → i < m.assets → j < m.assets → i ≢ j → a < m.assets → b < m.assets → (a ≢ i) ⊎ (b ≢ j) → (a ≢ j) ⊎ (b ≢ i) → rho_of (with_rho m i j v) a b ≡ rho_of m a b
rho_of-others m i j v a b known p q ne r s first second =
    let n = m.assets in
    let row = slice_set m.correlations (i * n + j) v in
    let off_first : a * n + b ≢ i * n + j = λ e. ⊎_elim (λ x. x (place_row n a b i j s q e)) (λ x. x (place_column n a b i j s q e)) first in
    let off_second : a * n + b ≢ j * n + i = λ e. ⊎_elim (λ x. x (place_row n a b j i s p e)) (λ x. x (place_column n a b j i s p e)) second in
    ⊎_elim
    (λ e. rho_of-same (with_rho m i j v) a b e ∙ sym (rho_of-same m a b e))
    (λ two. rho_of-two (with_rho m i j v) a b two
    ∙ get_or-set_other row (j * n + i) (a * n + b) v (pos 0) off_second
    ∙ get_or-set_other m.correlations (i * n + j) (a * n + b) v (pos 0) off_first
    ∙ sym (rho_of-two m a b two))
    (cases_eq a b)

-- the correlations stay the same from either side
with_rho_symmetric : (m : MarketValue) (i j : ℕ) (v : ℤ) (a b : ℕ) → IsMarket m → i < m.assets → j < m.assets → i ≢ j → a < m.assets → b < m.assets → rho_of (with_rho m i j v) a b ≡ rho_of (with_rho m i j v) b a
with_rho_symmetric m i j v a b known p q ne g h =
    ⊎_elim
    (λ (hit : (a ≡ i) × (b ≡ j)). rw (hit.0, hit.1) (rho_of-one_way m i j v known p q ne ∙ sym (rho_of-other_way m i j v known p q ne)))
    (λ (miss : (a ≢ i) ⊎ (b ≢ j)). ⊎_elim
    (λ (hit : (a ≡ j) × (b ≡ i)). rw (hit.0, hit.1) (rho_of-other_way m i j v known p q ne ∙ sym (rho_of-one_way m i j v known p q ne)))
    (λ (also : (a ≢ j) ⊎ (b ≢ i)).
    rho_of-others m i j v a b known p q ne g h miss also
    ∙ known.symmetric a b g h
    ∙ sym (rho_of-others m i j v b a known p q ne h g (turned b i a j also) (turned b j a i miss)))
    (both_or a b j i))
    (both_or a b i j)

pub IsMarket-rho : (m : MarketValue) (i j : ℕ) (v : ℤ) → IsMarket m → i < m.assets → j < m.assets → i ≢ j → unsigned_abs v ≤ 1000000 → IsMarket (with_rho m i j v)
IsMarket-rho m i j v known p q ne s =
    let n = m.assets in
    let row = slice_set m.correlations (i * n + j) v in
    let in_row : j * n + i < length row = rw (length-set m.correlations (i * n + j) v) (place_in m known j i q p) in
    record {
      few = known.few;
      many = known.many;
      means_length = known.means_length;
      deviations_length = known.deviations_length;
      correlations_length = length-set row (j * n + i) v ∙ length-set m.correlations (i * n + j) v ∙ known.correlations_length;
      mean_sizes = known.mean_sizes;
      deviation_sizes = known.deviation_sizes;
      rho_sizes = λ a b. rho_size (with_rho m i j v) a b (λ two. set_size row (j * n + i) (a * n + b) v 1000000 in_row s
          (set_size m.correlations (i * n + j) (a * n + b) v 1000000 (place_in m known i j p q) s
          (rw (rho_of-two m a b two) at (known.rho_sizes a b))));
      symmetric = λ a b g h. with_rho_symmetric m i j v a b known p q ne g h;
    }
