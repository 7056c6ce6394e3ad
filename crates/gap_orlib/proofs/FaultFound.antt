-- The fault that the reader finds is the first of the bytes, in the words of the file.
use Rattle.std.proofs.Common.{◌≡◌, ◌≢◌, ℕ, ◌+◌, ◌*◌, ◌<◌, ◌≤◌, ◌⊎◌, inl, inr, ⊎_elim, Bool, true, false, not, ◌&&◌, ◌==◌, nat_le, if◌then◌else◌, min, max, List, [], ◌∷◌, ◌++◌, length, Option, Some, None, Result, Ok, Err, ℤ, pos, refl, sym, ap, ◌∙◌, subst, arith}
use Rattle.std.specs.Int.RustNames.{unsigned_abs}
use Rattle.std.specs.Ordering.{int_eq}
use Rattle.std.proofs.lemmas.Bool.{cases_lt}
use Rattle.std.proofs.lemmas.Bool.Decides.{nat_tests, Decides-int_eq}
use Rattle.gap_base.specs.Numerals.{numeral_of}
use Rattle.gap_base.specs.declared.numeral_fault.Rounded.{Rounded}
use Rattle.gap_base.specs.declared.numeral_fault.NumeralFault.{NumeralFault}
use Rattle.gap_base.specs.Markets.{rho_of}
use Rattle.gap_orlib.specs.declared.fault.PortKind.{PortKind}
use Rattle.gap_orlib.specs.declared.fault.PortKind.TheVariants.{Numeral, Range, Deviation as BelowZero, Index, Diagonal, Conflict}
use Rattle.gap_orlib.specs.declared.wanted.Wanted.{Wanted}
use Rattle.gap_orlib.specs.declared.wanted.Wanted.TheVariants.{Mean, Deviation, First, Second, Correlation}
use Rattle.gap_orlib.specs.Tokens.{Token}
use Rattle.gap_orlib.specs.Sheets.{Sheet, whole_in, with_value, is_unit_size, is_negative, mean_told, deviation_told, first_told, second_told, is_conflict, pair_told, diagonal_told, correlation_told, value_told, item_told}
use Rattle.gap_orlib.specs.Fields.{HasValue, IsAsset, IsTriple, NamesPair, triple_at, is_value_place}
use Rattle.gap_orlib.specs.Faults.{IsCount, IsNoNumeral, IsAtFault}
use Rattle.gap_orlib.proofs.Grown.{text_new, IsValue_new, NamesPair_old, spot, pairs_named, mean_place, deviation_place, correlation_place}
use Rattle.gap_orlib.proofs.Says.{IsPlace, marks_of, Core, count_kept, new_triple}
use Rattle.gap_orlib.proofs.PairLaws.{spot_turned}

-- a token more is at fault
abbrev pub NextFault : List Token → Token → PortKind → Type 0
NextFault ts x kind = IsAtFault (ts ++ x ∷ []) (length ts) kind

count_at : (ts : List Token) (x : Token) (s : Sheet) → Core ts s → IsCount (ts ++ x ∷ []) s.market.assets
count_at ts x s h = record { number = count_kept ts x s h.some h.count; few = h.market.few; many = h.market.many }

kind_same : (a b : PortKind) → ◌≡◌ {A = Result Sheet PortKind} (Err a) (Err b) → a ≡ b
kind_same a b e = cc

ok_err : (s : Sheet) (b : PortKind) → ◌≡◌ {A = Result Sheet PortKind} (Ok s) (Err b) → ⊥
ok_err s b e = cc

-- a step that gave a fault
not_held : (b : Bool) (y : Sheet) (k kind : PortKind) → (if b then Ok y else Err k) ≡ Err kind → (b ≡ false) × (k ≡ kind)
not_held true y k kind e = absurd (ok_err y kind e)
not_held false y k kind e = (refl, kind_same k kind e)

stops_or : (b : Bool) (k kind : PortKind) (r : Result Sheet PortKind) → (if b then Err k else r) ≡ Err kind → ((b ≡ true) × (k ≡ kind)) ⊎ ((b ≡ false) × (r ≡ Err kind))
stops_or true k kind r e = inl (refl, kind_same k kind e)
stops_or false k kind r e = inr (refl, e)

goes_or : (b : Bool) (k kind : PortKind) (r : Result Sheet PortKind) → (if b then r else Err k) ≡ Err kind → ((b ≡ false) × (k ≡ kind)) ⊎ ((b ≡ true) × (r ≡ Err kind))
goes_or true k kind r e = inr (refl, e)
goes_or false k kind r e = inl (refl, kind_same k kind e)

great_of : (v : ℤ) → is_unit_size v ≡ false → 1000000 < unsigned_abs v
great_of v h = above (unsigned_abs v) h
  where
    above : (n : ℕ) → nat_le n 1000000 ≡ false → 1000000 < n
    above n h = grind (arith, nat_tests)

small_of : (v : ℤ) → is_unit_size v ≡ true → unsigned_abs v ≤ 1000000
small_of v h = below (unsigned_abs v) h
  where
    below : (n : ℕ) → nat_le n 1000000 ≡ true → n ≤ 1000000
    below n h = grind (arith, nat_tests)

-- the token is no numeral
no_numeral : (ts : List Token) (x : Token) (s : Sheet) (e : NumeralFault) → Core ts s → is_value_place s.market.assets (length ts) ≡ true → numeral_of x.text ≡ Err e → NextFault ts x Numeral
no_numeral ts x s e h place q = record {
  assets = s.market.assets;
  count = count_at ts x s h;
  place = place;
  no_numeral = subst IsNoNumeral (sym (ap numeral_of (text_new ts x (length ts) refl) ∙ q)) tt;
}

value_is : (x : Token) (r : Rounded) → numeral_of x.text ≡ Ok r → HasValue (numeral_of x.text) r.value
value_is x r q = subst (λ (o : Result Rounded NumeralFault). HasValue o r.value) (sym q) refl

out_of_range : (ts : List Token) (x : Token) (s : Sheet) (r : Rounded) → Core ts s → is_value_place s.market.assets (length ts) ≡ true → numeral_of x.text ≡ Ok r → is_unit_size r.value ≡ false
    → ((a : ℕ) → a < s.market.assets → length ts ≡ 2 * a + 2 → is_negative r.value ≡ false) → NextFault ts x Range
out_of_range ts x s r h place q big below = record {
  assets = s.market.assets;
  count = count_at ts x s h;
  place = place;
  value = r.value;
  is_value = IsValue_new ts x (length ts) r.value refl (value_is x r q);
  great = great_of r.value big;
  not_below = below;
}

fault_mean : (ts : List Token) (x : Token) (s : Sheet) (k : ℕ) (kind : PortKind) (q : Result Rounded NumeralFault) → Core ts s → IsPlace ts s.market.assets (Mean k) → numeral_of x.text ≡ q
    → with_value q (value_told (Mean k) s) ≡ Err kind → NextFault ts x kind
unfolding mean_told IsPlace
fault_mean ts x s k kind (Err e) h at is told = subst (NextFault ts x) (kind_same Numeral kind told) (no_numeral ts x s e h (mean_place s.market.assets k (length ts) at.0 at.1) is)
fault_mean ts x s k kind (Ok r) h at is told =
    let b = not_held (is_unit_size r.value) _ Range kind told in
    subst (NextFault ts x) b.1 (out_of_range ts x s r h (mean_place s.market.assets k (length ts) at.0 at.1) is b.0 (λ a l e. absurd (omega (arith, at.1))))

fault_deviation : (ts : List Token) (x : Token) (s : Sheet) (k : ℕ) (kind : PortKind) (q : Result Rounded NumeralFault) → Core ts s → IsPlace ts s.market.assets (Deviation k) → numeral_of x.text ≡ q
    → with_value q (value_told (Deviation k) s) ≡ Err kind → NextFault ts x kind
unfolding deviation_told IsPlace
fault_deviation ts x s k kind (Err e) h at is told = subst (NextFault ts x) (kind_same Numeral kind told) (no_numeral ts x s e h (deviation_place s.market.assets k (length ts) at.0 at.1) is)
fault_deviation ts x s k kind (Ok r) h at is told = ⊎_elim
    (λ (b : (is_negative r.value ≡ true) × (BelowZero ≡ kind)). subst (NextFault ts x) b.1 (record {
      assets = s.market.assets;
      count = count_at ts x s h;
      asset = k;
      there = at.0;
      place = at.1;
      value = r.value;
      is_value = IsValue_new ts x (length ts) r.value refl (value_is x r is);
      negative = b.0;
    }))
    (λ b. let c = not_held (is_unit_size r.value) _ Range kind b.1 in
    subst (NextFault ts x) c.1 (out_of_range ts x s r h (deviation_place s.market.assets k (length ts) at.0 at.1) is c.0 (λ a l e. b.0)))
    (stops_or (is_negative r.value) BelowZero kind _ told)

index_fault : (ts : List Token) (x : Token) (s : Sheet) (t : ℕ) → Core ts s → (length ts ≡ triple_at s.market.assets t) ⊎ (length ts ≡ triple_at s.market.assets t + 1) → whole_in 1 s.market.assets x.text ≡ None → NextFault ts x Index
index_fault ts x s t h place none = record {
  assets = s.market.assets;
  count = count_at ts x s h;
  triple = t;
  place = place;
  no_asset = ap (whole_in 1 s.market.assets) (text_new ts x (length ts) refl) ∙ none;
}

fault_first : (ts : List Token) (x : Token) (s : Sheet) (kind : PortKind) (o : Option ℕ) → Core ts s → IsPlace ts s.market.assets First → whole_in 1 s.market.assets x.text ≡ o → first_told s o ≡ Err kind → NextFault ts x kind
unfolding IsPlace
fault_first ts x s kind None h at is told = subst (NextFault ts x) (kind_same Index kind told) (index_fault ts x s at.0 h (inl at.1) is)
fault_first ts x s kind (Some i) h at is told = absurd (ok_err _ kind told)

fault_second : (ts : List Token) (x : Token) (s : Sheet) (i : ℕ) (kind : PortKind) (o : Option ℕ) → Core ts s → IsPlace ts s.market.assets (Second i) → whole_in 1 s.market.assets x.text ≡ o → second_told s i o ≡ Err kind → NextFault ts x kind
unfolding IsPlace
fault_second ts x s i kind None h at is told = subst (NextFault ts x) (kind_same Index kind told) (index_fault ts x s at.0 h (inr at.1) is)
fault_second ts x s i kind (Some j) h at is told = absurd (ok_err _ kind told)

not_int : (v w : ℤ) → int_eq v w ≡ false → v ≢ w
not_int v w h = λ e. no_way (sym ((Decides-int_eq v w).1 e) ∙ h)
  where
    no_way : true ≡ false → ⊥
    no_way e = cc

false_true : false ≡ true → ⊥
false_true e = cc

not_true : (b : Bool) → not b ≡ true → b ≡ false
not_true false e = refl
not_true true e = absurd (false_true e)

conflict_parts : (b : Bool) (r v : ℤ) → (b && not (int_eq r v)) ≡ true → (b ≡ true) × (v ≢ r)
conflict_parts true r v e = (refl, λ f. not_int r v (not_true (int_eq r v) e) (sym f))
conflict_parts false r v e = absurd (false_true e)

-- the pair of a triple, with the lesser asset first
conflict_by : (ts : List Token) (x : Token) (s : Sheet) (t i j low high : ℕ) (v : ℤ) → Core ts s → length ts ≡ triple_at s.market.assets t + 2 → low < high → high < s.market.assets
    → NamesPair (ts ++ x ∷ []) s.market.assets t low high v → unsigned_abs v ≤ 1000000 → marks_of s (spot s.market.assets low high) ≡ true → v ≢ rho_of s.market low high → i ≡ low + 1 → j ≡ high + 1
    → NextFault ts x (Conflict i j)
conflict_by ts x s t i j low high v h l order there names size marked differs ei ej =
    let named : (t : ℕ) × NamesPair ts s.market.assets t low high (rho_of s.market low high) = pairs_named ts s.market.assets (rho_of s.market) (marks_of s) low high h.pairs order there marked in
    record {
      assets = s.market.assets;
      count = count_at ts x s h;
      triple = t;
      place = l;
      low = low;
      high = high;
      i_is = ei;
      j_is = ej;
      in_order = order;
      value = v;
      small = size;
      names = names;
      earlier = named.0;
      before = pair_before ts s.market.assets named.0 t low high (rho_of s.market low high) l named.1;
      other = rho_of s.market low high;
      named = NamesPair_old ts x s.market.assets named.0 low high (rho_of s.market low high) named.1;
      differs = differs;
    }
  where
    pair_before : (ts : List Token) (n a t i j : ℕ) (v : ℤ) → length ts ≡ triple_at n t + 2 → NamesPair ts n a i j v → a < t
    pair_before ts n a t i j v l (inl p) = omega (arith, p.ends)
    pair_before ts n a t i j v l (inr p) = omega (arith, p.ends)

fault_pair : (ts : List Token) (x : Token) (s : Sheet) (t i j : ℕ) (r : Rounded) → Core ts s → length ts ≡ triple_at s.market.assets t + 2 → IsAsset ts (triple_at s.market.assets t) s.market.assets i → IsAsset ts (triple_at s.market.assets t + 1) s.market.assets j
    → i ≢ j → numeral_of x.text ≡ Ok r → unsigned_abs r.value ≤ 1000000 → is_conflict s i j r.value ≡ true → NextFault ts x (Conflict (min i j + 1) (max i j + 1))
fault_pair ts x s t i j r h l a b ne is size clash =
    let c = conflict_parts (marks_of s (spot s.market.assets i j)) (rho_of s.market i j) r.value clash in
    let triple : IsTriple (ts ++ x ∷ []) s.market.assets t i j r.value = new_triple ts x s.market.assets t i j r.value l a b (value_is x r is) in
    ⊎_elim
    (λ order. conflict_by ts x s t (min i j + 1) (max i j + 1) i j r.value h l order b.there (inl triple) size c.0 c.1 (omega arith) (omega arith))
    (λ lower. let order : j < i = omega (arith, ne) in
    conflict_by ts x s t (min i j + 1) (max i j + 1) j i r.value h l order a.there (inr triple) size (ap (marks_of s) (spot_turned s.market.assets j i) ∙ c.0)
    (λ e. c.1 (e ∙ h.market.symmetric j i b.there a.there)) (omega arith) (omega arith))
    (cases_lt i j)

fault_either : (ts : List Token) (x : Token) (s : Sheet) (t i j : ℕ) (r : Rounded) (kind : PortKind) (b : Bool) → Core ts s → length ts ≡ triple_at s.market.assets t + 2 → IsAsset ts (triple_at s.market.assets t) s.market.assets i → IsAsset ts (triple_at s.market.assets t + 1) s.market.assets j
    → numeral_of x.text ≡ Ok r → unsigned_abs r.value ≤ 1000000 → (i == j) ≡ b → (if b then diagonal_told s r else pair_told s i j r) ≡ Err kind → NextFault ts x kind
unfolding diagonal_told pair_told
fault_either ts x s t i j r kind true h l a b is size same told =
    let e : j ≡ i = grind (arith, nat_tests) in
    let d = not_held (int_eq r.value (pos 1000000)) _ Diagonal kind told in
    let triple : IsTriple (ts ++ x ∷ []) s.market.assets t i i r.value = new_triple ts x s.market.assets t i i r.value l a (subst (λ (k : ℕ). IsAsset ts (triple_at s.market.assets t + 1) s.market.assets k) e b) (value_is x r is) in
    subst (NextFault ts x) d.1 (record {
      assets = s.market.assets;
      count = count_at ts x s h;
      triple = t;
      place = l;
      asset = i;
      value = r.value;
      is_triple = triple;
      small = size;
      not_one = not_int r.value (pos 1000000) d.0;
    })
fault_either ts x s t i j r kind false h l a b is size same told = ⊎_elim
    (λ (c : (is_conflict s i j r.value ≡ true) × (Conflict (min i j + 1) (max i j + 1) ≡ kind)).
    subst (NextFault ts x) c.1 (fault_pair ts x s t i j r h l a b (let ne : i ≢ j = grind (arith, nat_tests) in ne) is size c.0))
    (λ c. absurd (ok_err _ kind c.1))
    (stops_or (is_conflict s i j r.value) (Conflict (min i j + 1) (max i j + 1)) kind _ told)

fault_correlation : (ts : List Token) (x : Token) (s : Sheet) (i j : ℕ) (kind : PortKind) (q : Result Rounded NumeralFault) → Core ts s → IsPlace ts s.market.assets (Correlation i j) → numeral_of x.text ≡ q
    → with_value q (value_told (Correlation i j) s) ≡ Err kind → NextFault ts x kind
unfolding correlation_told IsPlace
fault_correlation ts x s i j kind (Err e) h at is told = subst (NextFault ts x) (kind_same Numeral kind told) (no_numeral ts x s e h (correlation_place s.market.assets at.0 (length ts) at.1) is)
fault_correlation ts x s i j kind (Ok r) h at is told = ⊎_elim
    (λ (b : (is_unit_size r.value ≡ false) × (Range ≡ kind)).
    subst (NextFault ts x) b.1 (out_of_range ts x s r h (correlation_place s.market.assets at.0 (length ts) at.1) is b.0 (λ a l e. absurd (omega (arith, at.1)))))
    (λ b. fault_either ts x s at.0 i j r kind (i == j) h at.1 at.2 at.3 is (small_of r.value b.0) refl b.1)
    (goes_or (is_unit_size r.value) Range kind _ told)

pub fault_item : (w : Wanted) (ts : List Token) (x : Token) (s : Sheet) (kind : PortKind) → Core ts s → IsPlace ts s.market.assets w → item_told w s x.text ≡ Err kind → NextFault ts x kind
unfolding item_told
fault_item (Mean k) ts x s kind h at told = fault_mean ts x s k kind (numeral_of x.text) h at refl told
fault_item (Deviation k) ts x s kind h at told = fault_deviation ts x s k kind (numeral_of x.text) h at refl told
fault_item First ts x s kind h at told = fault_first ts x s kind (whole_in 1 s.market.assets x.text) h at refl told
fault_item (Second i) ts x s kind h at told = fault_second ts x s i kind (whole_in 1 s.market.assets x.text) h at refl told
fault_item (Correlation i j) ts x s kind h at told = fault_correlation ts x s i j kind (numeral_of x.text) h at refl told
