-- What the tokens so far say is what the sheet has: kept by each token.
use Rattle.std.proofs.Common.{◌≡◌, ℕ, ◌+◌, ◌*◌, ◌<◌, ◌≤◌, inl, Bool, true, false, nat_lt, if◌then◌else◌, List, [], ◌∷◌, ◌++◌, length, slice_index_or, Some, ℤ, pos, refl, sym, ap, ◌∙◌, subst, arith}
use Rattle.std.specs.Int.RustNames.{unsigned_abs}
use Rattle.std.proofs.lemmas.Bool.Decides.{nat_tests}
use Rattle.std.proofs.lemmas.List.{get_or-set_other}
use Rattle.std.proofs.lemmas.Grind.{get_or-set_at}
use Rattle.gap_base.specs.Sums.{count_if}
use Rattle.gap_base.specs.Numerals.{numeral_of}
use Rattle.gap_base.specs.Markets.{MarketValue, IsMarket, mean_of, deviation_of, rho_of, with_mean, with_deviation}
use Rattle.gap_base.proofs.MarketLaws.{IsMarket-mean, IsMarket-deviation, IsMarket-rounded, rho_of-same}
use Rattle.gap_orlib.specs.declared.wanted.Wanted.{Wanted}
use Rattle.gap_orlib.specs.declared.wanted.Wanted.TheVariants.{Mean, Deviation, First, Second, Correlation}
use Rattle.gap_orlib.specs.Tokens.{Token}
use Rattle.gap_orlib.specs.Sheets.{Sheet, whole, counted, behind_deviation}
use Rattle.gap_orlib.specs.Fields.{text_at, HasValue, IsAsset, IsTriple, triple_at, is_rounded}
use Rattle.gap_orlib.proofs.Grown.{length_more, text_old, IsAsset_old, IsAsset_new, IsValue_new, Values, values_on, Triples, triples_on, Pairs, pairs_on}

abbrev pub odd : ℕ → ℕ
odd k = 2 * k + 1

abbrev pub even : ℕ → ℕ
even k = 2 * k + 2

-- what the next token is to be, by how many came
unfoldable pub IsPlace : List Token → ℕ → Wanted → Type 0
IsPlace ts n (Mean k) = (k < n) × (length ts ≡ 2 * k + 1)
IsPlace ts n (Deviation k) = (k < n) × (length ts ≡ 2 * k + 2)
IsPlace ts n First = (t : ℕ) × (length ts ≡ triple_at n t)
IsPlace ts n (Second i) = (t : ℕ) × (length ts ≡ triple_at n t + 1) × IsAsset ts (triple_at n t) n i
IsPlace ts n (Correlation i j) = (t : ℕ) × (length ts ≡ triple_at n t + 2) × IsAsset ts (triple_at n t) n i × IsAsset ts (triple_at n t + 1) n j

abbrev pub deviations_of : MarketValue → ℕ → ℤ
deviations_of m k = pos (deviation_of m k)

abbrev pub marks_of : Sheet → ℕ → Bool
marks_of s p = slice_index_or s.seen p false

-- what the tokens say, but for the rounded numerals
pub record Core (ts : List Token) (s : Sheet) : Type 0 where
  pub market : IsMarket s.market
  pub some : 0 < length ts
  pub count : whole (text_at ts 0) ≡ Some s.market.assets
  pub marks : length s.seen ≡ s.market.assets * s.market.assets
  pub place : IsPlace ts s.market.assets s.next
  pub means : Values ts s.market.assets odd (mean_of s.market)
  pub deviations : Values ts s.market.assets even (deviations_of s.market)
  pub triples : Triples ts s.market.assets (rho_of s.market) (marks_of s)
  pub pairs : Pairs ts s.market.assets (rho_of s.market) (marks_of s)

pub record Says (ts : List Token) (s : Sheet) : Type 0 where
  pub core : Core ts s
  pub rounded : s.market.rounded ≡ count_if (length ts) (is_rounded ts s.market.assets)

-- a numeral more that was rounded
pub core_counted : (exact : Bool) (ts : List Token) (s : Sheet) → Core ts s → Core ts (record s { market = counted exact s.market })
unfolding rho_of
core_counted true ts s h = h
core_counted false ts s h = record {
  market = IsMarket-rounded s.market h.market;
  some = h.some;
  count = h.count;
  marks = h.marks;
  place = h.place;
  means = h.means;
  deviations = h.deviations;
  triples = h.triples;
  pairs = h.pairs;
}

pub count_kept : (ts : List Token) (x : Token) (s : Sheet) → 0 < length ts → whole (text_at ts 0) ≡ Some s.market.assets → whole (text_at (ts ++ x ∷ []) 0) ≡ Some s.market.assets
count_kept ts x s h e = ap whole (text_old ts x 0 h) ∙ e

-- the mean of asset k
pub core_mean : (ts : List Token) (x : Token) (s : Sheet) (k : ℕ) (v : ℤ) → Core ts s → s.next ≡ Mean k → HasValue (numeral_of x.text) v → unsigned_abs v ≤ 1000000
    → Core (ts ++ x ∷ []) (record s { market = with_mean s.market k v; next = Deviation k })
unfolding IsPlace rho_of
core_mean ts x s k v h e value size =
    let at : (k < s.market.assets) × (length ts ≡ 2 * k + 1) = subst (λ (w : Wanted). IsPlace ts s.market.assets w) e h.place in
    let n = s.market.assets in
    let k_in : k < length s.market.means = rw h.market.means_length at.0 in
    record {
      market = IsMarket-mean s.market k v h.market at.0 size;
      some = omega (arith, length_more ts x);
      count = count_kept ts x s h.some h.count;
      marks = h.marks;
      place = (at.0, omega (arith, length_more ts x));
      means = values_on ts x n odd (mean_of s.market) (mean_of (with_mean s.market k v)) h.means
          (λ i a b. get_or-set_other s.market.means k i v (pos 0) (λ (q : i ≡ k). absurd (omega arith)))
          (λ i a b. let same : i ≡ k = omega arith in subst (λ (z : ℤ). HasValue (numeral_of x.text) z) (sym (get_or-set_at s.market.means k i v (pos 0) same k_in)) value);
      deviations = values_on ts x n even (deviations_of s.market) (deviations_of s.market) h.deviations (λ i a b. refl) (λ i a b. absurd (omega arith));
      triples = triples_on ts x n (rho_of s.market) (rho_of s.market) (marks_of s) (marks_of s) h.triples (λ i j a b c. refl) (λ p m. m) (λ t b. absurd (omega arith));
      pairs = pairs_on ts x n (rho_of s.market) (rho_of s.market) (marks_of s) (marks_of s) h.pairs (λ i j a b c. refl) (λ i j a b m. inl m);
    }

place_behind : (ts : List Token) (n k : ℕ) (v : Bool) → k < n → nat_lt (k + 1) n ≡ v → length ts ≡ 2 * k + 2 + 1 → IsPlace ts n (if v then Mean (k + 1) else First)
unfolding IsPlace
place_behind ts n k true h e l = let more : k + 1 < n = grind (arith, nat_tests) in (more, omega arith)
place_behind ts n k false h e l = let last : n ≤ k + 1 = grind (arith, nat_tests) in (0, omega arith)

-- the deviation of asset k
pub core_deviation : (ts : List Token) (x : Token) (s : Sheet) (k : ℕ) (v : ℕ) → Core ts s → s.next ≡ Deviation k → HasValue (numeral_of x.text) (pos v) → v ≤ 1000000
    → Core (ts ++ x ∷ []) (record s { market = with_deviation s.market k v; next = behind_deviation s.market.assets k })
unfolding IsPlace rho_of
core_deviation ts x s k v h e value size =
    let at : (k < s.market.assets) × (length ts ≡ 2 * k + 2) = subst (λ (w : Wanted). IsPlace ts s.market.assets w) e h.place in
    let n = s.market.assets in
    let k_in : k < length s.market.deviations = rw h.market.deviations_length at.0 in
    record {
      market = IsMarket-deviation s.market k v h.market at.0 size;
      some = omega (arith, length_more ts x);
      count = count_kept ts x s h.some h.count;
      marks = h.marks;
      place = place_behind (ts ++ x ∷ []) n k (nat_lt (k + 1) n) at.0 refl (omega (arith, length_more ts x));
      means = values_on ts x n odd (mean_of s.market) (mean_of s.market) h.means (λ i a b. refl) (λ i a b. absurd (omega arith));
      deviations = values_on ts x n even (deviations_of s.market) (deviations_of (with_deviation s.market k v)) h.deviations
          (λ i a b. ap pos (get_or-set_other s.market.deviations k i v 0 (λ (q : i ≡ k). absurd (omega arith))))
          (λ i a b. let same : i ≡ k = omega arith in subst (λ (z : ℤ). HasValue (numeral_of x.text) z) (ap pos (sym (get_or-set_at s.market.deviations k i v 0 same k_in))) value);
      triples = triples_on ts x n (rho_of s.market) (rho_of s.market) (marks_of s) (marks_of s) h.triples (λ i j a b c. refl) (λ p m. m) (λ t b. absurd (omega arith));
      pairs = pairs_on ts x n (rho_of s.market) (rho_of s.market) (marks_of s) (marks_of s) h.pairs (λ i j a b c. refl) (λ i j a b m. inl m);
    }

-- the number of a triple's first asset
pub core_first : (ts : List Token) (x : Token) (s : Sheet) (i : ℕ) → Core ts s → s.next ≡ First → whole x.text ≡ Some (i + 1) → i < s.market.assets
    → Core (ts ++ x ∷ []) (record s { next = Second i })
unfolding IsPlace
core_first ts x s i h e number there =
    let at : (t : ℕ) × (length ts ≡ triple_at s.market.assets t) = subst (λ (w : Wanted). IsPlace ts s.market.assets w) e h.place in
    let n = s.market.assets in
    record {
      market = h.market;
      some = omega (arith, length_more ts x);
      count = count_kept ts x s h.some h.count;
      marks = h.marks;
      place = (at.0, let l : length (ts ++ x ∷ []) ≡ triple_at n at.0 + 1 = omega (arith, length_more ts x, at.1) in l, IsAsset_new ts x (triple_at n at.0) n i (sym at.1) number there);
      means = values_on ts x n odd (mean_of s.market) (mean_of s.market) h.means (λ k a b. refl) (λ k a b. absurd (omega (arith, at.1)));
      deviations = values_on ts x n even (deviations_of s.market) (deviations_of s.market) h.deviations (λ k a b. refl) (λ k a b. absurd (omega (arith, at.1)));
      triples = triples_on ts x n (rho_of s.market) (rho_of s.market) (marks_of s) (marks_of s) h.triples (λ i j a b c. refl) (λ p m. m) (λ t b. absurd (omega (arith, at.1)));
      pairs = pairs_on ts x n (rho_of s.market) (rho_of s.market) (marks_of s) (marks_of s) h.pairs (λ i j a b c. refl) (λ i j a b m. inl m);
    }

-- the number of a triple's second asset
pub core_second : (ts : List Token) (x : Token) (s : Sheet) (i j : ℕ) → Core ts s → s.next ≡ Second i → whole x.text ≡ Some (j + 1) → j < s.market.assets
    → Core (ts ++ x ∷ []) (record s { next = Correlation i j })
unfolding IsPlace
core_second ts x s i j h e number there =
    let at : (t : ℕ) × (length ts ≡ triple_at s.market.assets t + 1) × IsAsset ts (triple_at s.market.assets t) s.market.assets i = subst (λ (w : Wanted). IsPlace ts s.market.assets w) e h.place in
    let n = s.market.assets in
    record {
      market = h.market;
      some = omega (arith, length_more ts x);
      count = count_kept ts x s h.some h.count;
      marks = h.marks;
      place = (
        at.0,
        let l : length (ts ++ x ∷ []) ≡ triple_at n at.0 + 2 = omega (arith, length_more ts x, at.1) in l,
        IsAsset_old ts x (triple_at n at.0) n i (omega (arith, at.1)) at.2,
        IsAsset_new ts x (triple_at n at.0 + 1) n j (sym at.1) number there,
      );
      means = values_on ts x n odd (mean_of s.market) (mean_of s.market) h.means (λ k a b. refl) (λ k a b. absurd (omega (arith, at.1)));
      deviations = values_on ts x n even (deviations_of s.market) (deviations_of s.market) h.deviations (λ k a b. refl) (λ k a b. absurd (omega (arith, at.1)));
      triples = triples_on ts x n (rho_of s.market) (rho_of s.market) (marks_of s) (marks_of s) h.triples (λ i j a b c. refl) (λ p m. m) (λ t b. absurd (omega (arith, at.1)));
      pairs = pairs_on ts x n (rho_of s.market) (rho_of s.market) (marks_of s) (marks_of s) h.pairs (λ i j a b c. refl) (λ i j a b m. inl m);
    }

-- the new triple
pub new_triple : (ts : List Token) (x : Token) (n t i j : ℕ) (v : ℤ) → length ts ≡ triple_at n t + 2 → IsAsset ts (triple_at n t) n i → IsAsset ts (triple_at n t + 1) n j
    → HasValue (numeral_of x.text) v → IsTriple (ts ++ x ∷ []) n t i j v
new_triple ts x n t i j v l a b value = record {
  ends = omega (arith, length_more ts x);
  first = IsAsset_old ts x (triple_at n t) n i (omega arith) a;
  second = IsAsset_old ts x (triple_at n t + 1) n j (omega arith) b;
  value = IsValue_new ts x (triple_at n t + 2) v (sym l) value;
}

pub triple_along : (ts : List Token) (n t t' i j : ℕ) (v v' : ℤ) → t ≡ t' → v ≡ v' → IsTriple ts n t i j v → IsTriple ts n t' i j v'
triple_along ts n t t' i j v v' e f h = subst (λ (z : ℤ). IsTriple ts n t' i j z) f (subst (λ (k : ℕ). IsTriple ts n k i j v) e h)

-- the correlation of an asset with itself
pub core_diagonal : (ts : List Token) (x : Token) (s : Sheet) (i j : ℕ) → Core ts s → s.next ≡ Correlation i j → i ≡ j → HasValue (numeral_of x.text) (pos 1000000)
    → Core (ts ++ x ∷ []) (record s { next = First })
unfolding IsPlace
core_diagonal ts x s i j h e same value =
    let at : (t : ℕ) × (length ts ≡ triple_at s.market.assets t + 2) × IsAsset ts (triple_at s.market.assets t) s.market.assets i × IsAsset ts (triple_at s.market.assets t + 1) s.market.assets j
    = subst (λ (w : Wanted). IsPlace ts s.market.assets w) e h.place in
    let n = s.market.assets in
    record {
      market = h.market;
      some = omega (arith, length_more ts x);
      count = count_kept ts x s h.some h.count;
      marks = h.marks;
      place = (at.0 + 1, omega (arith, length_more ts x, at.1));
      means = values_on ts x n odd (mean_of s.market) (mean_of s.market) h.means (λ k a b. refl) (λ k a b. absurd (omega (arith, at.1)));
      deviations = values_on ts x n even (deviations_of s.market) (deviations_of s.market) h.deviations (λ k a b. refl) (λ k a b. absurd (omega (arith, at.1)));
      triples = triples_on ts x n (rho_of s.market) (rho_of s.market) (marks_of s) (marks_of s) h.triples (λ i j a b c. refl) (λ p m. m)
          (λ t b. record {
            i = i;
            j = j;
            triple = triple_along (ts ++ x ∷ []) n at.0 t i j (pos 1000000) (rho_of s.market i j) (omega (arith, at.1)) (sym (rho_of-same s.market i j same))
                (new_triple ts x n at.0 i j (pos 1000000) at.1 at.2 at.3 value);
            stood = λ ne. absurd (ne same);
          });
      pairs = pairs_on ts x n (rho_of s.market) (rho_of s.market) (marks_of s) (marks_of s) h.pairs (λ i j a b c. refl) (λ i j a b m. inl m);
    }
