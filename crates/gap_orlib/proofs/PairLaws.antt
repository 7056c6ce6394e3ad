-- The correlation of two assets that are not one: what the tokens say is kept by it.
use Rattle.std.proofs.Common.{◌≡◌, ◌≢◌, ℕ, ◌+◌, ◌*◌, ◌<◌, ◌≤◌, ◌⊎◌, inl, inr, ⊎_elim, Bool, true, false, not, ◌&&◌, min, max, List, [], ◌∷◌, ◌++◌, length, slice_index_or, slice_set, ℤ, refl, sym, ap, ◌∙◌, subst, arith}
use Rattle.std.specs.Int.RustNames.{unsigned_abs}
use Rattle.std.specs.Ordering.{int_eq}
use Rattle.std.proofs.lemmas.Bool.{cases_eq, cases_lt}
use Rattle.std.proofs.lemmas.Bool.Decides.{Decides-int_eq}
use Rattle.std.proofs.lemmas.List.{length-set, get_or-set_other}
use Rattle.std.proofs.lemmas.Grind.{get_or-set_at}
use Rattle.std.proofs.lemmas.Nat.{mul-add-lt}
use Rattle.gap_base.specs.Numerals.{numeral_of}
use Rattle.gap_base.specs.Markets.{MarketValue, IsMarket, mean_of, rho_of, with_rho}
use Rattle.gap_base.proofs.MarketLaws.{IsMarket-rho, rho_of-one_way, rho_of-other_way, rho_of-others, place_row, place_column}
use Rattle.gap_orlib.specs.declared.wanted.Wanted.{Wanted}
use Rattle.gap_orlib.specs.declared.wanted.Wanted.TheVariants.{First, Correlation}
use Rattle.gap_orlib.specs.Tokens.{Token}
use Rattle.gap_orlib.specs.Sheets.{Sheet, slot, is_conflict}
use Rattle.gap_orlib.specs.Fields.{HasValue, IsAsset, IsTriple, NamesPair, triple_at}
use Rattle.gap_orlib.proofs.Grown.{length_more, values_on, spot, triples_on, Stay, pairs_on}
use Rattle.gap_orlib.proofs.Says.{odd, even, IsPlace, deviations_of, marks_of, Core, count_kept, new_triple, triple_along}

both_or : (a b i j : ℕ) → ((a ≡ i) × (b ≡ j)) ⊎ ((a ≢ i) ⊎ (b ≢ j))
both_or a b i j =
    ⊎_elim (λ e. ⊎_elim (λ f. inl (e, f)) (λ nf. inr (inr nf)) (cases_eq b j)) (λ ne. inr (inl ne)) (cases_eq a i)

int_same : (r v : ℤ) → int_eq r v ≡ true → r ≡ v
int_same r v k = (Decides-int_eq r v).0 k

differ : true ≡ false → ⊥
differ e = cc

by_test : (r v : ℤ) (b : Bool) → int_eq r v ≡ b → not (int_eq r v) ≡ false → r ≡ v
by_test r v true k f = int_same r v k
by_test r v false k f = absurd (differ (ap not (sym k) ∙ f))

-- a pair that is marked and no conflict has this value
no_conflict : (seen : Bool) (r v : ℤ) → (seen && not (int_eq r v)) ≡ false → seen ≡ true → r ≡ v
no_conflict true r v e h = by_test r v (int_eq r v) refl e
no_conflict false r v e h = absurd (differ (sym h))

pub spot_turned : (n i j : ℕ) → spot n i j ≡ spot n j i
spot_turned n i j = let a : min i j ≡ min j i = omega arith in let b : max i j ≡ max j i = omega arith in rw (a, b) refl

-- the correlations of marked pairs stay where there is no conflict
stays : (s : Sheet) (i j : ℕ) (v : ℤ) → IsMarket s.market → i < s.market.assets → j < s.market.assets → i ≢ j → is_conflict s i j v ≡ false
    → Stay s.market.assets (rho_of s.market) (rho_of (with_rho s.market i j v)) (marks_of s)
stays s i j v known p q ne calm = λ a b g h m. ⊎_elim
    (λ (hit : (a ≡ i) × (b ≡ j)).
    let marked : marks_of s (spot s.market.assets i j) ≡ true = rw (hit.0, hit.1) at (m (λ e. ne (sym hit.0 ∙ e ∙ hit.1))) in
    rw (hit.0, hit.1) (rho_of-one_way s.market i j v known p q ne ∙ sym (no_conflict (marks_of s (spot s.market.assets i j)) (rho_of s.market i j) v calm marked)))
    (λ (miss : (a ≢ i) ⊎ (b ≢ j)). ⊎_elim
    (λ (hit : (a ≡ j) × (b ≡ i)).
    let marked : marks_of s (spot s.market.assets j i) ≡ true = rw (hit.0, hit.1) at (m (λ e. ne (sym hit.1 ∙ sym e ∙ hit.0))) in
    rw (hit.0, hit.1) (rho_of-other_way s.market i j v known p q ne
    ∙ sym (no_conflict (marks_of s (spot s.market.assets i j)) (rho_of s.market i j) v calm (ap (marks_of s) (spot_turned s.market.assets i j) ∙ marked))
    ∙ known.symmetric i j p q))
    (λ (also : (a ≢ j) ⊎ (b ≢ i)). rho_of-others s.market i j v a b known p q ne g h miss also)
    (both_or a b j i))
    (both_or a b i j)

marked_more : (seen : List Bool) (at p : ℕ) → at < length seen → slice_index_or seen p false ≡ true → slice_index_or (slice_set seen at true) p false ≡ true
marked_more seen at p h m = ⊎_elim (λ e. get_or-set_at seen at p true false e h) (λ ne. get_or-set_other seen at p true false ne ∙ m) (cases_eq p at)

spot_in : (n i j : ℕ) → i < n → j < n → spot n i j < n * n
spot_in n i j p q = mul-add-lt (min i j) n (max i j) n (omega arith) (omega arith)

-- where a pair has the place of another, it is that one, either way round
same_pair : (n a b i j : ℕ) → a < b → b < n → i < n → j < n → spot n a b ≡ spot n i j → ((a ≡ i) × (b ≡ j)) ⊎ ((a ≡ j) × (b ≡ i))
same_pair n a b i j h q p r e =
    let low : min a b ≡ min i j = place_row n (min a b) (max a b) (min i j) (max i j) (omega arith) (omega arith) e in
    let high : max a b ≡ max i j = place_column n (min a b) (max a b) (min i j) (max i j) (omega arith) (omega arith) e in
    ⊎_elim (λ x. inl (let x1 : a ≡ i = omega arith in x1, let x2 : b ≡ j = omega arith in x2)) (λ x. inr (let x1 : a ≡ j = omega arith in x1, let x2 : b ≡ i = omega arith in x2)) (cases_lt i j)

named_here : (ts : List Token) (m : MarketValue) (t i j a b : ℕ) (v : ℤ) → IsMarket m → i < m.assets → j < m.assets → i ≢ j
    → IsTriple ts m.assets t i j v → ((a ≡ i) × (b ≡ j)) ⊎ ((a ≡ j) × (b ≡ i)) → NamesPair ts m.assets t a b (rho_of (with_rho m i j v) a b)
named_here ts m t i j a b v known p q ne triple (inl e) = rw (e.0, e.1, rho_of-one_way m i j v known p q ne) (inl triple)
named_here ts m t i j a b v known p q ne triple (inr e) = rw (e.0, e.1, rho_of-other_way m i j v known p q ne) (inr triple)

newly : (ts : List Token) (s : Sheet) (t i j : ℕ) (v : ℤ) → IsMarket s.market → length s.seen ≡ s.market.assets * s.market.assets
    → i < s.market.assets → j < s.market.assets → i ≢ j → IsTriple ts s.market.assets t i j v
    → (a b : ℕ) → a < b → b < s.market.assets → slice_index_or (slice_set s.seen (spot s.market.assets i j) true) (spot s.market.assets a b) false ≡ true
    → (marks_of s (spot s.market.assets a b) ≡ true) ⊎ ((t : ℕ) × NamesPair ts s.market.assets t a b (rho_of (with_rho s.market i j v) a b))
newly ts s t i j v known marks p q ne triple a b h r m = ⊎_elim
    (λ e. inr (t, named_here ts s.market t i j a b v known p q ne triple (same_pair s.market.assets a b i j h r p q e)))
    (λ n'. inl (sym (get_or-set_other s.seen (spot s.market.assets i j) (spot s.market.assets a b) true false n') ∙ m))
    (cases_eq (spot s.market.assets a b) (spot s.market.assets i j))

pub core_pair : (ts : List Token) (x : Token) (s : Sheet) (i j : ℕ) (v : ℤ) → Core ts s → s.next ≡ Correlation i j → i ≢ j → HasValue (numeral_of x.text) v → unsigned_abs v ≤ 1000000
    → is_conflict s i j v ≡ false
    → Core (ts ++ x ∷ []) (record { market = with_rho s.market i j v; seen = slice_set s.seen (slot s.market.assets i j) true; next = First })
unfolding IsPlace
core_pair ts x s i j v h e ne value size calm =
    let at : (t : ℕ) × (length ts ≡ triple_at s.market.assets t + 2) × IsAsset ts (triple_at s.market.assets t) s.market.assets i × IsAsset ts (triple_at s.market.assets t + 1) s.market.assets j
    = subst (λ (w : Wanted). IsPlace ts s.market.assets w) e h.place in
    let n = s.market.assets in
    let p : i < s.market.assets = at.2.there in
    let q : j < s.market.assets = at.3.there in
    let stay : Stay s.market.assets (rho_of s.market) (rho_of (with_rho s.market i j v)) (marks_of s) = stays s i j v h.market p q ne calm in
    let in_seen : spot s.market.assets i j < length s.seen = rw h.marks (spot_in s.market.assets i j p q) in
    let triple : IsTriple (ts ++ x ∷ []) s.market.assets at.0 i j v = new_triple ts x s.market.assets at.0 i j v at.1 at.2 at.3 value in
    let seen' : ℕ → Bool = λ k. slice_index_or (slice_set s.seen (spot s.market.assets i j) true) k false in
    record {
      market = IsMarket-rho s.market i j v h.market p q ne size;
      some = omega (arith, length_more ts x);
      count = count_kept ts x s h.some h.count;
      marks = length-set s.seen (spot s.market.assets i j) true ∙ h.marks;
      place = (at.0 + 1, omega (arith, length_more ts x, at.1));
      means = values_on ts x n odd (mean_of s.market) (mean_of s.market) h.means (λ k a b. refl) (λ k a b. absurd (omega (arith, at.1)));
      deviations = values_on ts x n even (deviations_of s.market) (deviations_of s.market) h.deviations (λ k a b. refl) (λ k a b. absurd (omega (arith, at.1)));
      triples = triples_on ts x n (rho_of s.market) (rho_of (with_rho s.market i j v)) (marks_of s) seen' h.triples stay (λ k m. marked_more s.seen (spot s.market.assets i j) k in_seen m)
          (λ t b. record {
            i = i;
            j = j;
            triple = triple_along (ts ++ x ∷ []) n at.0 t i j v (rho_of (with_rho s.market i j v) i j) (omega (arith, at.1)) (sym (rho_of-one_way s.market i j v h.market p q ne)) triple;
            stood = λ k. get_or-set_at s.seen (spot s.market.assets i j) (spot s.market.assets i j) true false refl in_seen;
          });
      pairs = pairs_on ts x n (rho_of s.market) (rho_of (with_rho s.market i j v)) (marks_of s) seen' h.pairs stay
          (newly (ts ++ x ∷ []) s at.0 i j v h.market h.marks p q ne triple);
    }
