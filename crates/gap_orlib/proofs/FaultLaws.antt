-- The tokens that were judged are sound in the words of the file, and the token that stops is at fault.
use Rattle.std.proofs.Common.{◌≡◌, ℕ, ◌+◌, ◌-◌, ◌*◌, ◌/◌, ◌%◌, ◌<◌, ◌≤◌, ◌⊎◌, inl, inr, ⊎_elim, Bool, true, false, ◌&&◌, ◌||◌, ◌==◌, nat_le, List, length, Option, Some, None, Result, Ok, Err, ℤ, pos, refl, sym, ap, ◌∙◌, subst, arith}
use Rattle.std.specs.Int.RustNames.{unsigned_abs}
use Rattle.std.proofs.lemmas.Bool.{cases_eq, cases_lt}
use Rattle.std.proofs.lemmas.Bool.Decides.{nat_tests}
use Rattle.gap_base.specs.Numerals.{numeral_of}
use Rattle.gap_base.specs.declared.numeral_fault.Rounded.{Rounded}
use Rattle.gap_base.specs.declared.numeral_fault.NumeralFault.{NumeralFault}
use Rattle.gap_base.specs.Markets.{mean_of, deviation_of, rho_of}
use Rattle.gap_base.proofs.MarketLaws.{rho_of-same}
use Rattle.gap_orlib.specs.declared.fault.PortKind.{PortKind}
use Rattle.gap_orlib.specs.declared.fault.PortKind.TheVariants.{Count, Numeral, Range, Deviation as BelowZero, Index, Diagonal, Conflict, Short, Missing, TooLong}
use Rattle.gap_orlib.specs.declared.wanted.Wanted.{Wanted}
use Rattle.gap_orlib.specs.declared.wanted.Wanted.TheVariants.{Mean, Deviation, First, Second, Correlation}
use Rattle.gap_orlib.specs.Tokens.{Token}
use Rattle.gap_orlib.specs.Sheets.{Sheet, whole, within, whole_in, is_negative}
use Rattle.gap_orlib.specs.Fields.{text_at, HasValue, IsValue, IsAsset, IsTriple, NamesPair, triple_at, is_value_place}
use Rattle.gap_orlib.specs.Faults.{IsCount, IsNoNumeral, HasNumeral, HasRange, HasDeviation, HasIndex, HasDiagonal, HasConflict, IsAtFault, AreSound}
use Rattle.gap_orlib.proofs.Grown.{Said, triples_said, values_at}
use Rattle.gap_orlib.proofs.Says.{odd, even, IsPlace, deviations_of, marks_of, Says}
use Rattle.gap_orlib.proofs.Reading.{triple_same, value_same, whole_within, option_nat}

-- the number of assets is one
pub count_same : (ts : List Token) (s : Sheet) (n : ℕ) → Says ts s → IsCount ts n → n ≡ s.market.assets
count_same ts s n h c = option_nat n s.market.assets (sym c.number ∙ h.core.count)

-- a place of a value is that of a mean, a deviation or a correlation
data Where (n k : ℕ) : Type 0 where
  of_mean : (a : ℕ) → a < n → k ≡ 2 * a + 1 → Where n k
  of_deviation : (a : ℕ) → a < n → k ≡ 2 * a + 2 → Where n k
  of_pair : (t : ℕ) → k ≡ triple_at n t + 2 → Where n k

where_low : (n k : ℕ) → 1 ≤ k → k ≤ 2 * n → Where n k
where_low n k h l = ⊎_elim
    (λ e. of_mean ((k - 1) / 2) (omega arith) (omega (arith, e)))
    (λ ne. of_deviation ((k - 1) / 2) (omega (arith, ne)) (omega (arith, ne)))
    (cases_eq ((k - 1) % 2) 0)

where_high : (n k : ℕ) → 2 * n < k → (k - (2 * n + 1)) % 3 ≡ 2 → Where n k
where_high n k h r = of_pair ((k - (2 * n + 1)) / 3) (omega (arith, r))

test_parts : (a b c : Bool) → (a && (b || c)) ≡ true → (a ≡ true) × ((b ≡ true) ⊎ (c ≡ true))
test_parts true true c e = (refl, inl refl)
test_parts true false c e = (refl, inr e)
test_parts false b c e = absurd (no_way e)
  where
    no_way : false ≡ true → ⊥
    no_way e = cc

eq_of : (a b : ℕ) → (a == b) ≡ true → a ≡ b
eq_of a b e = grind (arith, nat_tests)

le_of : (a b : ℕ) → nat_le a b ≡ true → a ≤ b
le_of a b e = grind (arith, nat_tests)

where_is : (n k : ℕ) → is_value_place n k ≡ true → Where n k
where_is n k e =
    let p : (nat_le 1 k ≡ true) × ((nat_le k (2 * n) ≡ true) ⊎ (((k - (2 * n + 1)) % 3 == 2) ≡ true)) = test_parts (nat_le 1 k) (nat_le k (2 * n)) ((k - (2 * n + 1)) % 3 == 2) e in
    let some : 1 ≤ k = le_of 1 k p.0 in
    ⊎_elim
    (λ q. where_low n k some (le_of k (2 * n) q))
    (λ q. ⊎_elim (λ l. where_high n k l (eq_of ((k - (2 * n + 1)) % 3) 2 q)) (λ l. where_low n k some l) (cases_lt (2 * n) k))
    p.1

-- a value that was judged is small, and no deviation below 0
record Small (ts : List Token) (n k : ℕ) : Type 0 where
  value : ℤ
  is_value : IsValue ts k value
  small : unsigned_abs value ≤ 1000000

value_at : (ts : List Token) (s : Sheet) (k : ℕ) → Says ts s → k < length ts → Where s.market.assets k → Small ts s.market.assets k
value_at ts s k h l (of_mean a p e) = record {
  value = mean_of s.market a;
  is_value = rw e (values_at ts s.market.assets odd (mean_of s.market) a h.core.means p (omega arith));
  small = h.core.market.mean_sizes a;
}
value_at ts s k h l (of_deviation a p e) = record {
  value = pos (deviation_of s.market a);
  is_value = rw e (values_at ts s.market.assets even (deviations_of s.market) a h.core.deviations p (omega arith));
  small = h.core.market.deviation_sizes a;
}
value_at ts s k h l (of_pair t e) =
    let said : Said ts s.market.assets t (rho_of s.market) (marks_of s) = triples_said ts s.market.assets t (rho_of s.market) (marks_of s) h.core.triples (omega arith) in
    record {
      value = rho_of s.market said.i said.j;
      is_value = subst (λ (l : ℕ). IsValue ts l (rho_of s.market said.i said.j)) (sym e) said.triple.value;
      small = h.core.market.rho_sizes said.i said.j;
    }

is_numeral : (q : Result Rounded NumeralFault) (v : ℤ) → HasValue q v → IsNoNumeral q → ⊥
is_numeral (Ok r) v h n = n
is_numeral (Err e) v h n = h

sound_numeral : (ts : List Token) (s : Sheet) (k : ℕ) → Says ts s → k < length ts → HasNumeral ts k → ⊥
sound_numeral ts s k h l f =
    let e : f.assets ≡ s.market.assets = count_same ts s f.assets h f.count in
    let v : Small ts s.market.assets k = value_at ts s k h l (where_is s.market.assets k (rw e at f.place)) in
    is_numeral (numeral_of (text_at ts k)) v.value v.is_value f.no_numeral

sound_range : (ts : List Token) (s : Sheet) (k : ℕ) → Says ts s → k < length ts → HasRange ts k → ⊥
sound_range ts s k h l f =
    let e : f.assets ≡ s.market.assets = count_same ts s f.assets h f.count in
    let v : Small ts s.market.assets k = value_at ts s k h l (where_is s.market.assets k (rw e at f.place)) in
    let same : v.value ≡ f.value = value_same (numeral_of (text_at ts k)) v.value f.value v.is_value f.is_value in
    let small : unsigned_abs f.value ≤ 1000000 = rw same at v.small in
    omega (arith, small, f.great)

not_below_zero : (d : ℕ) (v : ℤ) → pos d ≡ v → is_negative v ≡ true → ⊥
not_below_zero d v e n = no_way (ap is_negative e ∙ n)
  where
    no_way : false ≡ true → ⊥
    no_way e = cc

sound_deviation : (ts : List Token) (s : Sheet) (k : ℕ) → Says ts s → k < length ts → HasDeviation ts k → ⊥
sound_deviation ts s k h l f =
    let e : f.assets ≡ s.market.assets = count_same ts s f.assets h f.count in
    let p : f.asset < s.market.assets = rw e at f.there in
    let v : IsValue ts k (pos (deviation_of s.market f.asset)) = rw f.place (values_at ts s.market.assets even (deviations_of s.market) f.asset h.core.deviations p (omega (arith, f.place))) in
    not_below_zero (deviation_of s.market f.asset) f.value (value_same (numeral_of (text_at ts k)) (pos (deviation_of s.market f.asset)) f.value v f.is_value) f.negative

-- the number of an asset that was judged is one
asset_whole : (ts : List Token) (s : Sheet) (k t : ℕ) → Says ts s → triple_at s.market.assets t + 2 < length ts → (k ≡ triple_at s.market.assets t) ⊎ (k ≡ triple_at s.market.assets t + 1) → (i : ℕ) × IsAsset ts k s.market.assets i
asset_whole ts s k t h l (inl e) =
    let said : Said ts s.market.assets t (rho_of s.market) (marks_of s) = triples_said ts s.market.assets t (rho_of s.market) (marks_of s) h.core.triples l in
    (said.i, subst (λ (l : ℕ). IsAsset ts l s.market.assets said.i) (sym e) said.triple.first)
asset_whole ts s k t h l (inr e) =
    let said : Said ts s.market.assets t (rho_of s.market) (marks_of s) = triples_said ts s.market.assets t (rho_of s.market) (marks_of s) h.core.triples l in
    (said.j, subst (λ (l : ℕ). IsAsset ts l s.market.assets said.j) (sym e) said.triple.second)

asset_cut : (w : Wanted) (ts : List Token) (s : Sheet) (k t : ℕ) → IsPlace ts s.market.assets w → k < length ts → length ts ≤ triple_at s.market.assets t + 2 → (k ≡ triple_at s.market.assets t) ⊎ (k ≡ triple_at s.market.assets t + 1)
    → (i : ℕ) × IsAsset ts k s.market.assets i
unfolding IsPlace
asset_cut (Mean a) ts s k t at l u (inl e) = absurd (omega (arith, at.0, at.1))
asset_cut (Mean a) ts s k t at l u (inr e) = absurd (omega (arith, at.0, at.1))
asset_cut (Deviation a) ts s k t at l u (inl e) = absurd (omega (arith, at.0, at.1))
asset_cut (Deviation a) ts s k t at l u (inr e) = absurd (omega (arith, at.0, at.1))
asset_cut First ts s k t at l u (inl e) = absurd (omega (arith, at.1))
asset_cut First ts s k t at l u (inr e) = absurd (omega (arith, at.1))
asset_cut (Second i) ts s k t at l u (inl e) = let same : k ≡ triple_at s.market.assets at.0 = omega (arith, at.1) in (i, rw same at.2)
asset_cut (Second i) ts s k t at l u (inr e) = absurd (omega (arith, at.1))
asset_cut (Correlation i j) ts s k t at l u (inl e) = let same : k ≡ triple_at s.market.assets at.0 = omega (arith, at.1) in (i, rw same at.2)
asset_cut (Correlation i j) ts s k t at l u (inr e) = let same : k ≡ triple_at s.market.assets at.0 + 1 = omega (arith, at.1) in (j, rw same at.3)

none_some : (i : ℕ) → ◌≡◌ {A = Option ℕ} None (Some i) → ⊥
none_some i e = cc

sound_index : (ts : List Token) (s : Sheet) (k : ℕ) → Says ts s → k < length ts → HasIndex ts k → ⊥
sound_index ts s k h l f =
    let e : f.assets ≡ s.market.assets = count_same ts s f.assets h f.count in
    let place : (k ≡ triple_at s.market.assets f.triple) ⊎ (k ≡ triple_at s.market.assets f.triple + 1) = rw e at f.place in
    let a : (i : ℕ) × IsAsset ts k s.market.assets i = ⊎_elim
    (λ w. asset_whole ts s k f.triple h w place)
    (λ u. asset_cut s.next ts s k f.triple h.core.place l u place)
    (cases_lt (triple_at s.market.assets f.triple + 2) (length ts)) in
    none_some (a.0 + 1) (sym (rw e at f.no_asset) ∙ whole_within s.market.assets a.0 (whole (text_at ts k)) a.1.number a.1.there)

-- a pair that stood has the correlation of the sheet
said_triple : (ts : List Token) (s : Sheet) (t i j : ℕ) (v : ℤ) → Says ts s → IsTriple ts s.market.assets t i j v → v ≡ rho_of s.market i j
said_triple ts s t i j v h a =
    let said : Said ts s.market.assets t (rho_of s.market) (marks_of s) = triples_said ts s.market.assets t (rho_of s.market) (marks_of s) h.core.triples a.ends in
    let d = triple_same ts s.market.assets t i j said.i said.j v (rho_of s.market said.i said.j) a said.triple in
    d.2 ∙ rw (← d.0, ← d.1) refl

pub said_pair : (ts : List Token) (s : Sheet) (t i j : ℕ) (v : ℤ) → Says ts s → NamesPair ts s.market.assets t i j v → v ≡ rho_of s.market i j
said_pair ts s t i j v h (inl a) = said_triple ts s t i j v h a
said_pair ts s t i j v h (inr a) = said_triple ts s t j i v h a ∙ h.core.market.symmetric j i a.first.there a.second.there

sound_diagonal : (ts : List Token) (s : Sheet) (k : ℕ) → Says ts s → HasDiagonal ts k → ⊥
sound_diagonal ts s k h f =
    let e : f.assets ≡ s.market.assets = count_same ts s f.assets h f.count in
    let a : IsTriple ts s.market.assets f.triple f.asset f.asset f.value = rw e at f.is_triple in
    f.not_one (said_triple ts s f.triple f.asset f.asset f.value h a ∙ rho_of-same s.market f.asset f.asset refl)

sound_conflict : (ts : List Token) (s : Sheet) (k i j : ℕ) → Says ts s → HasConflict ts k i j → ⊥
sound_conflict ts s k i j h f =
    let e : f.assets ≡ s.market.assets = count_same ts s f.assets h f.count in
    let a : NamesPair ts s.market.assets f.triple f.low f.high f.value = rw e at f.names in
    let b : NamesPair ts s.market.assets f.earlier f.low f.high f.other = rw e at f.named in
    f.differs (said_pair ts s f.triple f.low f.high f.value h a ∙ sym (said_pair ts s f.earlier f.low f.high f.other h b))

sound_count : (ts : List Token) (s : Sheet) → Says ts s → whole_in 2 256 (text_at ts 0) ≡ None → ⊥
sound_count ts s h e =
    let low : nat_le 2 s.market.assets ≡ true = ge s.market.assets h.core.market.few in
    let high : nat_le s.market.assets 256 ≡ true = le s.market.assets h.core.market.many in
    none_some s.market.assets (sym e ∙ ap (within 2 256) h.core.count ∙ (let f : within 2 256 (Some s.market.assets) ≡ Some s.market.assets = rw (low, high) refl in f))
  where
    ge : (n : ℕ) → 2 ≤ n → nat_le 2 n ≡ true
    ge n h = grind (arith, nat_tests)

    le : (n : ℕ) → n ≤ 256 → nat_le n 256 ≡ true
    le n h = grind (arith, nat_tests)

sound_kind : (ts : List Token) (s : Sheet) (k : ℕ) (kind : PortKind) → Says ts s → k < length ts → IsAtFault ts k kind → ⊥
sound_kind ts s k Count h l f = sound_count ts s h f.1
sound_kind ts s k Numeral h l f = sound_numeral ts s k h l f
sound_kind ts s k Range h l f = sound_range ts s k h l f
sound_kind ts s k BelowZero h l f = sound_deviation ts s k h l f
sound_kind ts s k Index h l f = sound_index ts s k h l f
sound_kind ts s k Diagonal h l f = sound_diagonal ts s k h f
sound_kind ts s k (Conflict i j) h l f = sound_conflict ts s k i j h f
sound_kind ts s k Short h l f = f
sound_kind ts s k (Missing i j) h l f = f
sound_kind ts s k TooLong h l f = f

-- the tokens that were judged are sound
pub says_sound : (ts : List Token) (s : Sheet) → Says ts s → AreSound ts (length ts)
says_sound ts s h = λ k kind l f. sound_kind ts s k kind h l f
