-- Each token keeps what the tokens say; so the market of the bytes is the file's in its own words.
use Rattle.std.proofs.Common.{◌≡◌, ◌≢◌, ℕ, ◌+◌, ◌-◌, ◌*◌, ◌<◌, ◌≤◌, Bool, true, false, not, ◌&&◌, ◌==◌, nat_le, cond, if◌then◌else◌, List, [], ◌∷◌, ◌++◌, length, slice_set, Option, Some, None, Result, Ok, Err, ℤ, pos, negsuc, refl, sym, ap, ◌∙◌, subst, arith}
use Rattle.std.specs.Int.RustNames.{unsigned_abs}
use Rattle.std.specs.Ordering.{int_eq}
use Rattle.std.proofs.lemmas.Bool.Decides.{nat_tests, Decides-int_eq}
use Rattle.gap_base.specs.Sums.{count_if}
use Rattle.gap_base.specs.Numerals.{numeral_of}
use Rattle.gap_base.specs.declared.numeral_fault.Rounded.{Rounded}
use Rattle.gap_base.specs.declared.numeral_fault.NumeralFault.{NumeralFault}
use Rattle.gap_base.specs.Markets.{MarketValue, with_mean, with_deviation, with_rho}
use Rattle.gap_orlib.specs.declared.fault.PortKind.{PortKind}
use Rattle.gap_orlib.specs.declared.wanted.Wanted.{Wanted}
use Rattle.gap_orlib.specs.declared.wanted.Wanted.TheVariants.{Mean, Deviation, First, Second, Correlation}
use Rattle.gap_orlib.specs.Tokens.{Token}
use Rattle.gap_orlib.specs.Sheets.{Sheet, whole, within, whole_in, slot, counted, with_value, is_unit_size, is_negative, mean_told, deviation_told, behind_deviation, first_told, second_told, is_conflict, pair_told, diagonal_told, correlation_told, value_told, item_told}
use Rattle.gap_orlib.specs.Fields.{HasValue, is_value_place, is_inexact, is_rounded}
use Rattle.gap_orlib.proofs.Grown.{count_on, mean_place, deviation_place, correlation_place, first_place, second_place}
use Rattle.gap_orlib.proofs.Says.{IsPlace, Core, Says, core_counted, core_mean, core_deviation, core_first, core_second, core_diagonal}
use Rattle.gap_orlib.proofs.PairLaws.{core_pair}

-- what a step that gave a sheet was
from_value : (q : Result Rounded NumeralFault) (f : Rounded → Result Sheet PortKind) (s : Sheet) → with_value q f ≡ Ok s → (r : Rounded) × (q ≡ Ok r) × (f r ≡ Ok s)
from_value (Ok r) f s e = (r, refl, e)
from_value (Err k) f s e = absurd (none k s e)
  where
    none : (k : NumeralFault) (s : Sheet) → with_value (Err k) f ≡ Ok s → ⊥
    none k s e = cc

ok_same : (a b : Sheet) → ◌≡◌ {A = Result Sheet PortKind} (Ok a) (Ok b) → a ≡ b
ok_same a b e = cc

err_ok : (k : PortKind) (b : Sheet) → ◌≡◌ {A = Result Sheet PortKind} (Err k) (Ok b) → ⊥
err_ok k b e = cc

held : (b : Bool) (r : Result Sheet PortKind) (k : PortKind) (s : Sheet) → (if b then r else Err k) ≡ Ok s → (b ≡ true) × (r ≡ Ok s)
held true r k s e = (refl, e)
held false r k s e = absurd (err_ok k s e)

passed : (b : Bool) (k : PortKind) (r : Result Sheet PortKind) (s : Sheet) → (if b then Err k else r) ≡ Ok s → (b ≡ false) × (r ≡ Ok s)
passed true k r s e = absurd (err_ok k s e)
passed false k r s e = (refl, e)

small : (v : ℤ) → is_unit_size v ≡ true → unsigned_abs v ≤ 1000000
small v h = below (unsigned_abs v) h
  where
    below : (n : ℕ) → nat_le n 1000000 ≡ true → n ≤ 1000000
    below n h = grind (arith, nat_tests)

has_value : (q : Result Rounded NumeralFault) (r : Rounded) → q ≡ Ok r → HasValue q r.value
has_value q r e = subst (λ (q : Result Rounded NumeralFault). HasValue q r.value) (sym e) refl

assets_counted : (exact : Bool) (m : MarketValue) → (counted exact m).assets ≡ m.assets
assets_counted true m = refl
assets_counted false m = refl

rounded_counted : (exact : Bool) (m : MarketValue) → (counted exact m).rounded ≡ m.rounded + cond (not exact) 1 0
rounded_counted true m = omega arith
rounded_counted false m = refl

-- a numeral more is counted where it was rounded
says_value : (ts : List Token) (x : Token) (s : Sheet) (r : Rounded) → Core (ts ++ x ∷ []) s → numeral_of x.text ≡ Ok r → is_value_place s.market.assets (length ts) ≡ true
    → s.market.rounded ≡ count_if (length ts) (is_rounded ts s.market.assets)
    → Says (ts ++ x ∷ []) (record s { market = counted r.exact s.market })
says_value ts x s r core number there before = record {
  core = core_counted r.exact (ts ++ x ∷ []) s core;
  rounded =
      rounded_counted r.exact s.market
      ∙ ap (λ (k : ℕ). k + cond (not r.exact) 1 0) before
      ∙ ap (λ (b : Bool). count_if (length ts) (is_rounded ts s.market.assets) + cond b 1 0) (sym (let e : (is_value_place s.market.assets (length ts) && is_inexact (numeral_of x.text)) ≡ not r.exact = rw (there, number) refl in e))
      ∙ sym (count_on ts x s.market.assets)
      ∙ ap (λ (n : ℕ). count_if (length (ts ++ x ∷ [])) (is_rounded (ts ++ x ∷ []) n)) (sym (assets_counted r.exact s.market));
}

-- a whole token isn't
says_quiet : (ts : List Token) (x : Token) (s : Sheet) → Core (ts ++ x ∷ []) s → is_value_place s.market.assets (length ts) ≡ false
    → s.market.rounded ≡ count_if (length ts) (is_rounded ts s.market.assets) → Says (ts ++ x ∷ []) s
says_quiet ts x s core there before = record {
  core = core;
  rounded = before
      ∙ (let e : count_if (length ts) (is_rounded ts s.market.assets) ≡ count_if (length ts) (is_rounded ts s.market.assets) + 0 = omega arith in e)
      ∙ ap (λ (b : Bool). count_if (length ts) (is_rounded ts s.market.assets) + cond b 1 0) (sym (let e : (is_value_place s.market.assets (length ts) && is_inexact (numeral_of x.text)) ≡ false = rw there refl in e))
      ∙ sym (count_on ts x s.market.assets);
}

says_mean : (ts : List Token) (x : Token) (s s' : Sheet) (k : ℕ) → Says ts s → s.next ≡ Mean k → with_value (numeral_of x.text) (value_told (Mean k) s) ≡ Ok s' → Says (ts ++ x ∷ []) s'
unfolding mean_told IsPlace
says_mean ts x s s' k h e told =
    let at : (k < s.market.assets) × (length ts ≡ 2 * k + 1) = subst (λ (w : Wanted). IsPlace ts s.market.assets w) e h.core.place in
    let v : (r : Rounded) × (numeral_of x.text ≡ Ok r) × (value_told (Mean k) s r ≡ Ok s') = from_value (numeral_of x.text) (value_told (Mean k) s) s' told in
    let r = v.0 in
    let y : Sheet = record s { market = with_mean s.market k r.value; next = Deviation k } in
    let t : (is_unit_size r.value ≡ true) × (Ok (record y { market = counted r.exact y.market }) ≡ Ok s') = held (is_unit_size r.value) (Ok (record y { market = counted r.exact y.market })) _ s' v.2 in
    let core : Core (ts ++ x ∷ []) y = core_mean ts x s k r.value h.core e (has_value (numeral_of x.text) r v.1) (small r.value t.0) in
    subst (Says (ts ++ x ∷ [])) (ok_same (record y { market = counted r.exact y.market }) s' t.1)
    (says_value ts x y r core v.1 (mean_place s.market.assets k (length ts) at.0 at.1) h.rounded)

not_negative : (v : ℤ) → is_negative v ≡ false → v ≡ pos (unsigned_abs v)
not_negative (pos n) h = refl
not_negative (negsuc n) h = absurd (differ h)
  where
    differ : true ≡ false → ⊥
    differ e = cc

says_deviation : (ts : List Token) (x : Token) (s s' : Sheet) (k : ℕ) → Says ts s → s.next ≡ Deviation k → with_value (numeral_of x.text) (value_told (Deviation k) s) ≡ Ok s' → Says (ts ++ x ∷ []) s'
unfolding deviation_told IsPlace
says_deviation ts x s s' k h e told =
    let at : (k < s.market.assets) × (length ts ≡ 2 * k + 2) = subst (λ (w : Wanted). IsPlace ts s.market.assets w) e h.core.place in
    let v : (r : Rounded) × (numeral_of x.text ≡ Ok r) × (value_told (Deviation k) s r ≡ Ok s') = from_value (numeral_of x.text) (value_told (Deviation k) s) s' told in
    let r = v.0 in
    let y : Sheet = record s { market = with_deviation s.market k (unsigned_abs r.value); next = behind_deviation s.market.assets k } in
    let z : Sheet = record y { market = counted r.exact y.market } in
    let u : (is_negative r.value ≡ false) × ((if is_unit_size r.value then Ok z else Err _) ≡ Ok s') = passed (is_negative r.value) _ (if is_unit_size r.value then Ok z else Err _) s' v.2 in
    let t : (is_unit_size r.value ≡ true) × (Ok z ≡ Ok s') = held (is_unit_size r.value) (Ok z) _ s' u.1 in
    let value : HasValue (numeral_of x.text) (pos (unsigned_abs r.value)) = subst (λ (w : ℤ). HasValue (numeral_of x.text) w) (not_negative r.value u.0) (has_value (numeral_of x.text) r v.1) in
    let core : Core (ts ++ x ∷ []) y = core_deviation ts x s k (unsigned_abs r.value) h.core e value (small r.value t.0) in
    subst (Says (ts ++ x ∷ [])) (ok_same z s' t.1)
    (says_value ts x y r core v.1 (deviation_place s.market.assets k (length ts) at.0 at.1) h.rounded)

first_taken : (s s' : Sheet) (o : Option ℕ) → first_told s o ≡ Ok s' → (m : ℕ) × (o ≡ Some m) × (record s { next = Second (m - 1) } ≡ s')
first_taken s s' (Some m) e = (m, refl, ok_same (record s { next = Second (m - 1) }) s' e)
first_taken s s' None e = absurd (err_ok _ s' e)

second_taken : (s s' : Sheet) (i : ℕ) (o : Option ℕ) → second_told s i o ≡ Ok s' → (m : ℕ) × (o ≡ Some m) × (record s { next = Correlation i (m - 1) } ≡ s')
second_taken s s' i (Some m) e = (m, refl, ok_same (record s { next = Correlation i (m - 1) }) s' e)
second_taken s s' i None e = absurd (err_ok _ s' e)

in_range : (low high n m : ℕ) (b : Bool) → (nat_le low n && nat_le n high) ≡ b → (if b then Some n else None) ≡ Some m → (n ≡ m) × (low ≤ n) × (n ≤ high)
in_range low high n m true h e = (let a : n ≡ m = cc in a, let l : low ≤ n = grind (arith, nat_tests) in l, let u : n ≤ high = grind (arith, nat_tests) in u)
in_range low high n m false h e = absurd (none_some m e)
  where
    none_some : (m : ℕ) → None ≡ Some m → ⊥
    none_some m e = cc

pub within_is : (low high m : ℕ) (o : Option ℕ) → within low high o ≡ Some m → (o ≡ Some m) × (low ≤ m) × (m ≤ high)
within_is low high m (Some n) e =
    let f : (n ≡ m) × (low ≤ n) × (n ≤ high) = in_range low high n m (nat_le low n && nat_le n high) refl e in
    (ap Some f.0, let l : low ≤ m = omega arith in l, let u : m ≤ high = omega arith in u)
within_is low high m None e = absurd (none_some m e)
  where
    none_some : (m : ℕ) → None ≡ Some m → ⊥
    none_some m e = cc

says_first : (ts : List Token) (x : Token) (s s' : Sheet) → Says ts s → s.next ≡ First → first_told s (whole_in 1 s.market.assets x.text) ≡ Ok s' → Says (ts ++ x ∷ []) s'
unfolding IsPlace
says_first ts x s s' h e told =
    let at = subst (λ (w : Wanted). IsPlace ts s.market.assets w) e h.core.place in
    let v = first_taken s s' (whole_in 1 s.market.assets x.text) told in
    let w = within_is 1 s.market.assets v.0 (whole x.text) v.1 in
    let same : v.0 ≡ v.0 - 1 + 1 = omega (arith, w.1) in
    subst (Says (ts ++ x ∷ [])) v.2
    (says_quiet ts x (record s { next = Second (v.0 - 1) })
    (core_first ts x s (v.0 - 1) h.core e (w.0 ∙ ap Some same) (omega (arith, w.1, w.2)))
    (first_place s.market.assets at.0 (length ts) at.1) h.rounded)

says_second : (ts : List Token) (x : Token) (s s' : Sheet) (i : ℕ) → Says ts s → s.next ≡ Second i → second_told s i (whole_in 1 s.market.assets x.text) ≡ Ok s' → Says (ts ++ x ∷ []) s'
unfolding IsPlace
says_second ts x s s' i h e told =
    let at = subst (λ (w : Wanted). IsPlace ts s.market.assets w) e h.core.place in
    let v = second_taken s s' i (whole_in 1 s.market.assets x.text) told in
    let w = within_is 1 s.market.assets v.0 (whole x.text) v.1 in
    let same : v.0 ≡ v.0 - 1 + 1 = omega (arith, w.1) in
    subst (Says (ts ++ x ∷ [])) v.2
    (says_quiet ts x (record s { next = Correlation i (v.0 - 1) })
    (core_second ts x s i (v.0 - 1) h.core e (w.0 ∙ ap Some same) (omega (arith, w.1, w.2)))
    (second_place s.market.assets at.0 (length ts) at.1) h.rounded)

is_one : (v : ℤ) → int_eq v (pos 1000000) ≡ true → v ≡ pos 1000000
is_one v k = (Decides-int_eq v (pos 1000000)).0 k

says_diagonal : (ts : List Token) (x : Token) (s s' : Sheet) (i j : ℕ) (r : Rounded) → Says ts s → s.next ≡ Correlation i j → i ≡ j → numeral_of x.text ≡ Ok r → is_value_place s.market.assets (length ts) ≡ true
    → diagonal_told s r ≡ Ok s' → Says (ts ++ x ∷ []) s'
unfolding diagonal_told
says_diagonal ts x s s' i j r h e same number there told =
    let y : Sheet = record s { next = First } in
    let z : Sheet = record y { market = counted r.exact y.market } in
    let t : (int_eq r.value (pos 1000000) ≡ true) × (Ok z ≡ Ok s') = held (int_eq r.value (pos 1000000)) (Ok z) _ s' told in
    let value : HasValue (numeral_of x.text) (pos 1000000) = subst (λ (w : ℤ). HasValue (numeral_of x.text) w) (is_one r.value t.0) (has_value (numeral_of x.text) r number) in
    subst (Says (ts ++ x ∷ [])) (ok_same z s' t.1) (says_value ts x y r (core_diagonal ts x s i j h.core e same value) number there h.rounded)

says_pair : (ts : List Token) (x : Token) (s s' : Sheet) (i j : ℕ) (r : Rounded) → Says ts s → s.next ≡ Correlation i j → i ≢ j → numeral_of x.text ≡ Ok r → unsigned_abs r.value ≤ 1000000
    → is_value_place s.market.assets (length ts) ≡ true → pair_told s i j r ≡ Ok s' → Says (ts ++ x ∷ []) s'
unfolding pair_told
says_pair ts x s s' i j r h e ne number size there told =
    let y : Sheet = record { market = with_rho s.market i j r.value; seen = slice_set s.seen (slot s.market.assets i j) true; next = First } in
    let z : Sheet = record y { market = counted r.exact y.market } in
    let t : (is_conflict s i j r.value ≡ false) × (Ok z ≡ Ok s') = passed (is_conflict s i j r.value) _ (Ok z) s' told in
    subst (Says (ts ++ x ∷ [])) (ok_same z s' t.1)
    (says_value ts x y r (core_pair ts x s i j r.value h.core e ne (has_value (numeral_of x.text) r number) size t.0) number there h.rounded)

by_assets : (ts : List Token) (x : Token) (s s' : Sheet) (i j : ℕ) (r : Rounded) (b : Bool) → Says ts s → s.next ≡ Correlation i j → numeral_of x.text ≡ Ok r → unsigned_abs r.value ≤ 1000000
    → is_value_place s.market.assets (length ts) ≡ true → (i == j) ≡ b → (if b then diagonal_told s r else pair_told s i j r) ≡ Ok s' → Says (ts ++ x ∷ []) s'
by_assets ts x s s' i j r true h e number size there same told = says_diagonal ts x s s' i j r h e (let q : i ≡ j = grind (arith, nat_tests) in q) number there told
by_assets ts x s s' i j r false h e number size there same told = says_pair ts x s s' i j r h e (let q : i ≢ j = grind (arith, nat_tests) in q) number size there told

says_correlation : (ts : List Token) (x : Token) (s s' : Sheet) (i j : ℕ) → Says ts s → s.next ≡ Correlation i j → with_value (numeral_of x.text) (value_told (Correlation i j) s) ≡ Ok s' → Says (ts ++ x ∷ []) s'
unfolding correlation_told IsPlace
says_correlation ts x s s' i j h e told =
    let at = subst (λ (w : Wanted). IsPlace ts s.market.assets w) e h.core.place in
    let v : (r : Rounded) × (numeral_of x.text ≡ Ok r) × (value_told (Correlation i j) s r ≡ Ok s') = from_value (numeral_of x.text) (value_told (Correlation i j) s) s' told in
    let t = held (is_unit_size (v.0).value) (if i == j then diagonal_told s v.0 else pair_told s i j v.0) _ s' v.2 in
    by_assets ts x s s' i j v.0 (i == j) h e v.1 (small (v.0).value t.0) (correlation_place s.market.assets at.0 (length ts) at.1) refl t.1

pub says_item : (w : Wanted) (ts : List Token) (x : Token) (s s' : Sheet) → Says ts s → s.next ≡ w → item_told w s x.text ≡ Ok s' → Says (ts ++ x ∷ []) s'
unfolding item_told
says_item (Mean k) ts x s s' h e told = says_mean ts x s s' k h e told
says_item (Deviation k) ts x s s' h e told = says_deviation ts x s s' k h e told
says_item First ts x s s' h e told = says_first ts x s s' h e told
says_item (Second i) ts x s s' h e told = says_second ts x s s' i h e told
says_item (Correlation i j) ts x s s' h e told = says_correlation ts x s s' i j h e told
