-- Where the bytes are a file of a market in its own words, they are read as one.
use Rattle.std.proofs.Common.{◌≡◌, ◌≢◌, ℕ, zero, suc, ◌+◌, ◌*◌, ◌/◌, ◌%◌, ◌<◌, ◌≤◌, inl, inr, ⊎_elim, Bool, true, false, not, ◌&&◌, ◌==◌, nat_le, nat_lt, if◌then◌else◌, min, max, List, [], ◌∷◌, ◌++◌, length, length-append, append_assoc, append-nil, fold, slice_index_or, Option, Some, None, Result, Ok, Err, ℤ, pos, refl, sym, ap, ◌∙◌, subst, arith}
use Rattle.std.specs.Int.RustNames.{unsigned_abs}
use Rattle.std.specs.Ordering.{int_eq}
use Rattle.std.proofs.lemmas.Bool.{cases_lt}
use Rattle.std.proofs.lemmas.Bool.Decides.{nat_tests, Decides-int_eq}
use Rattle.std.proofs.lemmas.List.{get_or_append_left}
use Rattle.std.proofs.Math.Seq.{get_or-append_seam}
use Rattle.std.proofs.lemmas.Nat.{div-add-mod'}
use Rattle.gap_base.specs.Numerals.{numeral_of}
use Rattle.gap_base.specs.declared.numeral_fault.Rounded.{Rounded}
use Rattle.gap_base.specs.declared.numeral_fault.NumeralFault.{NumeralFault}
use Rattle.gap_base.specs.Markets.{MarketValue, IsMarket, mean_of, deviation_of, rho_of}
use Rattle.gap_base.proofs.MarketLaws.{rho_of-same}
use Rattle.gap_orlib.specs.declared.fault.PortFault.{PortFault}
use Rattle.gap_orlib.specs.declared.fault.PortKind.{PortKind}
use Rattle.gap_orlib.specs.declared.wanted.Wanted.{Wanted}
use Rattle.gap_orlib.specs.declared.wanted.Wanted.TheVariants.{Mean, Deviation, First, Second, Correlation}
use Rattle.gap_orlib.specs.Tokens.{Token, tokens}
use Rattle.gap_orlib.specs.Sheets.{Sheet, whole, within, whole_in, begun, count_told, with_value, is_unit_size, is_negative, mean_told, deviation_told, first_told, second_told, is_conflict, pair_told, diagonal_told, correlation_told, value_told, item_told}
use Rattle.gap_orlib.specs.Ports.{limit, placed, judged_one, judged, kept, first_from, is_missing, missing, finished, port}
use Rattle.gap_orlib.specs.Fields.{text_at, HasValue, IsValue, IsAsset, IsTriple, NamesPair, triple_at, IsMarketOf}
use Rattle.gap_orlib.proofs.Grown.{spot, Said, triples_said, pairs_named}
use Rattle.gap_orlib.proofs.Says.{IsPlace, marks_of, Says}
use Rattle.gap_orlib.proofs.Items.{says_item}
use Rattle.gap_orlib.proofs.PairLaws.{spot_turned}
use Rattle.gap_orlib.proofs.MarketFields.{fresh_sheet, says_begun, keeps_all, tokens_end}

-- a file of a market, by its tokens
record File (ts : List Token) (n : ℕ) (m : MarketValue) : Type 0 where
  same : n ≡ m.assets
  count : whole (text_at ts 0) ≡ Some n
  market : IsMarket m
  means : (k : ℕ) → k < n → IsValue ts (2 * k + 1) (mean_of m k)
  deviations : (k : ℕ) → k < n → IsValue ts (2 * k + 2) (pos (deviation_of m k))
  triples : ℕ
  whole_triples : length ts ≡ triple_at n triples
  each_triple : (t : ℕ) → t < triples → (i : ℕ) × (j : ℕ) × IsTriple ts n t i j (rho_of m i j)
  each_pair : (i j : ℕ) → i < j → j < n → (t : ℕ) × NamesPair ts n t i j (rho_of m i j)

file_of : (bytes : List ℕ) (m : MarketValue) → IsMarketOf bytes m → File (tokens bytes) m.assets m
file_of bytes m h = record {
  same = refl;
  count = h.count;
  market = h.market;
  means = h.means;
  deviations = h.deviations;
  triples = h.triples;
  whole_triples = h.whole_triples;
  each_triple = h.each_triple;
  each_pair = h.each_pair;
}

-- the tokens so far are the front of all
text_front : (ts more : List Token) (k : ℕ) → k < length ts → text_at (ts ++ more) k ≡ text_at ts k
text_front ts more k h = ap (λ (t : Token). t.text) (get_or_append_left ts more (record { place = 0; text = [] }) k h)

text_here : (ts rest : List Token) (x : Token) (k : ℕ) → k ≡ length ts → text_at (ts ++ x ∷ rest) k ≡ x.text
text_here ts rest x k e = rw e (ap (λ (t : Token). t.text) (get_or-append_seam ts x rest (record { place = 0; text = [] })))

asset_front : (ts more : List Token) (k n i : ℕ) → k < length ts → IsAsset ts k n i → IsAsset (ts ++ more) k n i
asset_front ts more k n i h p = record { number = ap whole (text_front ts more k h) ∙ p.number; there = p.there }

value_front : (ts more : List Token) (k : ℕ) (v : ℤ) → k < length ts → IsValue ts k v → IsValue (ts ++ more) k v
value_front ts more k v h p = subst (λ (text : List ℕ). HasValue (numeral_of text) v) (sym (text_front ts more k h)) p

triple_front : (ts more : List Token) (n t i j : ℕ) (v : ℤ) → IsTriple ts n t i j v → IsTriple (ts ++ more) n t i j v
triple_front ts more n t i j v p =
    let e : triple_at n t + 2 < length ts = p.ends in
    record {
      ends = omega (arith, length-append ts more);
      first = asset_front ts more (triple_at n t) n i (omega arith) p.first;
      second = asset_front ts more (triple_at n t + 1) n j (omega arith) p.second;
      value = value_front ts more (triple_at n t + 2) v e p.value;
    }

value_here : (ts rest : List Token) (x : Token) (k : ℕ) (v : ℤ) → k ≡ length ts → IsValue (ts ++ x ∷ rest) k v → HasValue (numeral_of x.text) v
value_here ts rest x k v e p = subst (λ (text : List ℕ). HasValue (numeral_of text) v) (text_here ts rest x k e) p

pub option_nat : (a b : ℕ) → Some a ≡ Some b → a ≡ b
option_nat a b e = cc

-- a token is one number, and one value
next_same : (i j : ℕ) → ◌≡◌ {A = Option ℕ} (Some (i + 1)) (Some (j + 1)) → i ≡ j
next_same i j e = let f : i + 1 ≡ j + 1 = cc in omega arith

asset_same : (ts : List Token) (k n i j : ℕ) → IsAsset ts k n i → IsAsset ts k n j → i ≡ j
asset_same ts k n i j a b = next_same i j (sym a.number ∙ b.number)

pub value_same : (q : Result Rounded NumeralFault) (v w : ℤ) → HasValue q v → HasValue q w → v ≡ w
value_same (Ok r) v w a b = sym a ∙ b
value_same (Err e) v w a b = absurd a

pub triple_same : (ts : List Token) (n t i j i' j' : ℕ) (v w : ℤ) → IsTriple ts n t i j v → IsTriple ts n t i' j' w → (i ≡ i') × (j ≡ j') × (v ≡ w)
triple_same ts n t i j i' j' v w a b = (
  asset_same ts (triple_at n t) n i i' a.first b.first,
  asset_same ts (triple_at n t + 1) n j j' a.second b.second,
  value_same (numeral_of (text_at ts (triple_at n t + 2))) v w a.value b.value,
)

-- a token that is what it is to be is taken
Taken : Result Sheet PortKind → Type 0
Taken q = (s : Sheet) × (q ≡ Ok s)

taken_if : (b : Bool) (y : Sheet) (k : PortKind) → b ≡ true → Taken (if b then Ok y else Err k)
unfolding Taken
taken_if true y k e = (y, refl)
taken_if false y k e = absurd (no_way e)
  where
    no_way : false ≡ true → ⊥
    no_way e = cc

taken_else : (b : Bool) (r : Result Sheet PortKind) (k : PortKind) → b ≡ false → Taken r → Taken (if b then Err k else r)
taken_else false r k e h = h
taken_else true r k e h = absurd (no_way e)
  where
    no_way : true ≡ false → ⊥
    no_way e = cc

unit_true : (v w : ℤ) → v ≡ w → unsigned_abs w ≤ 1000000 → is_unit_size v ≡ true
unit_true v w e h = rw e (below (unsigned_abs w) h)
  where
    below : (n : ℕ) → n ≤ 1000000 → nat_le n 1000000 ≡ true
    below n h = grind (arith, nat_tests)

takes_mean : (s : Sheet) (k : ℕ) (q : Result Rounded NumeralFault) (v : ℤ) → HasValue q v → unsigned_abs v ≤ 1000000 → Taken (with_value q (value_told (Mean k) s))
unfolding mean_told
takes_mean s k (Ok r) v h size = taken_if (is_unit_size r.value) _ _ (unit_true r.value v h size)
takes_mean s k (Err e) v h size = absurd h

takes_deviation : (s : Sheet) (k : ℕ) (q : Result Rounded NumeralFault) (d : ℕ) → HasValue q (pos d) → d ≤ 1000000 → Taken (with_value q (value_told (Deviation k) s))
unfolding deviation_told
takes_deviation s k (Ok r) d h size = taken_else (is_negative r.value) _ _ (ap is_negative h) (taken_if (is_unit_size r.value) _ _ (unit_true r.value (pos d) h size))
takes_deviation s k (Err e) d h size = absurd h

pub whole_within : (n i : ℕ) (o : Option ℕ) → o ≡ Some (i + 1) → i < n → within 1 n o ≡ Some (i + 1)
whole_within n i o e h =
    ap (within 1 n) e ∙ (let low : nat_le 1 (i + 1) ≡ true = grind (arith, nat_tests) in let high : nat_le (i + 1) n ≡ true = grind (arith, nat_tests) in
    let f : within 1 n (Some (i + 1)) ≡ Some (i + 1) = rw (low, high) refl in f)

takes_first : (s : Sheet) (i : ℕ) (text : List ℕ) → whole text ≡ Some (i + 1) → i < s.market.assets → Taken (first_told s (whole_in 1 s.market.assets text))
unfolding Taken
takes_first s i text e h = (_, ap (first_told s) (whole_within s.market.assets i (whole text) e h))

takes_second : (s : Sheet) (i j : ℕ) (text : List ℕ) → whole text ≡ Some (j + 1) → j < s.market.assets → Taken (second_told s i (whole_in 1 s.market.assets text))
unfolding Taken
takes_second s i j text e h = (_, ap (second_told s i) (whole_within s.market.assets j (whole text) e h))

int_same : (v w : ℤ) → v ≡ w → int_eq v w ≡ true
int_same v w e = go (int_eq v w) refl
  where
    go : (b : Bool) → int_eq v w ≡ b → int_eq v w ≡ true
    go true h = h
    go false h = (Decides-int_eq v w).1 e

takes_diagonal : (s : Sheet) (r : Rounded) → r.value ≡ pos 1000000 → Taken (diagonal_told s r)
unfolding diagonal_told
takes_diagonal s r e = taken_if (int_eq r.value (pos 1000000)) _ _ (int_same r.value (pos 1000000) e)

takes_pair : (s : Sheet) (i j : ℕ) (r : Rounded) → is_conflict s i j r.value ≡ false → Taken (pair_told s i j r)
unfolding pair_told Taken
takes_pair s i j r e = taken_else (is_conflict s i j r.value) _ _ e (_, refl)

takes_either : (b : Bool) (x y : Result Sheet PortKind) → (b ≡ true → Taken x) → (b ≡ false → Taken y) → Taken (if b then x else y)
takes_either true x y hx hy = hx refl
takes_either false x y hx hy = hy refl

takes_correlation : (s : Sheet) (i j : ℕ) (q : Result Rounded NumeralFault) (v : ℤ) → HasValue q v → unsigned_abs v ≤ 1000000 → (i ≡ j → v ≡ pos 1000000)
    → (i ≢ j → is_conflict s i j v ≡ false) → Taken (with_value q (value_told (Correlation i j) s))
unfolding correlation_told
takes_correlation s i j (Ok r) v h size one calm =
    let e : is_unit_size r.value ≡ true = unit_true r.value v h size in
    rw e (takes_either (i == j) (diagonal_told s r) (pair_told s i j r)
    (λ b. takes_diagonal s r (h ∙ one (let f : i ≡ j = grind (arith, nat_tests) in f)))
    (λ b. takes_pair s i j r (ap (is_conflict s i j) h ∙ calm (let f : i ≢ j = grind (arith, nat_tests) in f))))
takes_correlation s i j (Err e) v h size one calm = absurd h

-- a pair that stood has the correlation that the file gives it
stood_same : (ts more : List Token) (n t i j : ℕ) (m : MarketValue) (v : ℤ) → File (ts ++ more) n m → i < n → j < n → NamesPair ts n t i j v → v ≡ rho_of m i j
stood_same ts more n t i j m v f p q (inl a) =
    let b : IsTriple (ts ++ more) n t i j v = triple_front ts more n t i j v a in
    let c : (i' : ℕ) × (j' : ℕ) × IsTriple (ts ++ more) n t i' j' (rho_of m i' j') = f.each_triple t (let l : t < f.triples = omega (arith, b.ends, f.whole_triples) in l) in
    let d = triple_same (ts ++ more) n t i j c.0 c.1 v (rho_of m c.0 c.1) b c.2 in
    d.2 ∙ rw (← d.0, ← d.1) refl
stood_same ts more n t i j m v f p q (inr a) =
    let b : IsTriple (ts ++ more) n t j i v = triple_front ts more n t j i v a in
    let c : (i' : ℕ) × (j' : ℕ) × IsTriple (ts ++ more) n t i' j' (rho_of m i' j') = f.each_triple t (let l : t < f.triples = omega (arith, b.ends, f.whole_triples) in l) in
    let d = triple_same (ts ++ more) n t j i c.0 c.1 v (rho_of m c.0 c.1) b c.2 in
    let e : v ≡ rho_of m j i = d.2 ∙ rw (← d.0, ← d.1) refl in
    e ∙ f.market.symmetric j i (let l : j < m.assets = rw (← f.same) q in l) (let l : i < m.assets = rw (← f.same) p in l)

calm_by : (b : Bool) (r v : ℤ) → (b ≡ true → r ≡ v) → (b && not (int_eq r v)) ≡ false
calm_by true r v h = ap not (int_same r v (h refl))
calm_by false r v h = refl

calm : (ts more : List Token) (s : Sheet) (i j : ℕ) (m : MarketValue) → Says ts s → File (ts ++ more) s.market.assets m → i < s.market.assets → j < s.market.assets → i ≢ j
    → is_conflict s i j (rho_of m i j) ≡ false
calm ts more s i j m h f p q ne = calm_by (marks_of s (spot s.market.assets i j)) (rho_of s.market i j) (rho_of m i j) (λ marked. ⊎_elim
    (λ l. let named : (t : ℕ) × NamesPair ts s.market.assets t i j (rho_of s.market i j) = pairs_named ts s.market.assets (rho_of s.market) (marks_of s) i j h.core.pairs l q marked in
    stood_same ts more s.market.assets named.0 i j m (rho_of s.market i j) f p q named.1)
    (λ l. let lower : j < i = omega (arith, ne) in
    let named : (t : ℕ) × NamesPair ts s.market.assets t j i (rho_of s.market j i) = pairs_named ts s.market.assets (rho_of s.market) (marks_of s) j i h.core.pairs lower p (ap (marks_of s) (spot_turned s.market.assets j i) ∙ marked) in
    h.core.market.symmetric i j p q ∙ stood_same ts more s.market.assets named.0 j i m (rho_of s.market j i) f q p named.1
    ∙ f.market.symmetric j i (let l : j < m.assets = rw (← f.same) q in l) (let l : i < m.assets = rw (← f.same) p in l))
    (cases_lt i j))

-- the next token of a file is taken
takes_next : (w : Wanted) (ts rest : List Token) (x : Token) (s : Sheet) (m : MarketValue) → Says ts s → File (ts ++ x ∷ rest) s.market.assets m → IsPlace ts s.market.assets w → s.next ≡ w → Taken (item_told w s x.text)
unfolding item_told IsPlace
takes_next (Mean k) ts rest x s m h f at e =
    takes_mean s k (numeral_of x.text) (mean_of m k) (value_here ts rest x (2 * k + 1) (mean_of m k) (sym at.1) (f.means k at.0)) (f.market.mean_sizes k)
takes_next (Deviation k) ts rest x s m h f at e =
    takes_deviation s k (numeral_of x.text) (deviation_of m k) (value_here ts rest x (2 * k + 2) (pos (deviation_of m k)) (sym at.1) (f.deviations k at.0)) (f.market.deviation_sizes k)
takes_next First ts rest x s m h f at e =
    let n = s.market.assets in
    let c : (i : ℕ) × (j : ℕ) × IsTriple (ts ++ x ∷ rest) s.market.assets at.0 i j (rho_of m i j) = f.each_triple at.0 (let l : at.0 < f.triples = omega (arith, at.1, f.whole_triples, length-append ts (x ∷ rest)) in l) in
    takes_first s c.0 x.text (sym (ap whole (text_here ts rest x (triple_at n at.0) (sym at.1))) ∙ c.2.first.number) c.2.first.there
takes_next (Second i) ts rest x s m h f at e =
    let n = s.market.assets in
    let c : (i : ℕ) × (j : ℕ) × IsTriple (ts ++ x ∷ rest) s.market.assets at.0 i j (rho_of m i j) = f.each_triple at.0 (let l : at.0 < f.triples = omega (arith, at.1, f.whole_triples, length-append ts (x ∷ rest)) in l) in
    takes_second s i c.1 x.text (sym (ap whole (text_here ts rest x (triple_at n at.0 + 1) (sym at.1))) ∙ c.2.second.number) c.2.second.there
takes_next (Correlation i j) ts rest x s m h f at e =
    let n = s.market.assets in
    let c : (i : ℕ) × (j : ℕ) × IsTriple (ts ++ x ∷ rest) s.market.assets at.0 i j (rho_of m i j) = f.each_triple at.0 (let l : at.0 < f.triples = omega (arith, at.1, f.whole_triples, length-append ts (x ∷ rest)) in l) in
    let a : c.0 ≡ i = asset_same (ts ++ x ∷ rest) (triple_at n at.0) n c.0 i c.2.first (asset_front ts (x ∷ rest) (triple_at n at.0) n i (omega (arith, at.1)) at.2) in
    let b : c.1 ≡ j = asset_same (ts ++ x ∷ rest) (triple_at n at.0 + 1) n c.1 j c.2.second (asset_front ts (x ∷ rest) (triple_at n at.0 + 1) n j (omega (arith, at.1)) at.3) in
    let value : HasValue (numeral_of x.text) (rho_of m i j) = subst (λ (v : ℤ). HasValue (numeral_of x.text) v) (let g : rho_of m c.0 c.1 ≡ rho_of m i j = rw (a, b) refl in g)
    (value_here ts rest x (triple_at n at.0 + 2) (rho_of m c.0 c.1) (sym at.1) c.2.value) in
    takes_correlation s i j (numeral_of x.text) (rho_of m i j) value (f.market.rho_sizes i j) (λ same. rho_of-same m i j same)
    (λ ne. calm ts (x ∷ rest) s i j m h f at.2.there at.3.there ne)

-- every token of a file is taken
Read : List Token → Result (Option Sheet) PortFault → Type 0
Read ts (Err f) = ⊥
Read ts (Ok None) = ts ≡ []
Read ts (Ok (Some s)) = Says ts s

begun_with : (n : ℕ) (o : Option ℕ) → o ≡ Some n → 2 ≤ n → n ≤ 256 → begun (within 2 256 o) ≡ Ok (fresh_sheet n)
unfolding fresh_sheet
begun_with n o e p q =
    ap (λ (o : Option ℕ). begun (within 2 256 o)) e ∙ (let low : nat_le 2 n ≡ true = grind (arith, nat_tests) in let high : nat_le n 256 ≡ true = grind (arith, nat_tests) in
    let f : begun (within 2 256 (Some n)) ≡ Ok (fresh_sheet n) = rw (low, high) refl in f)

counts_same : (ts more : List Token) (s : Sheet) (n : ℕ) → Says ts s → whole (text_at (ts ++ more) 0) ≡ Some n → s.market.assets ≡ n
counts_same ts more s n h e = let f : Some s.market.assets ≡ Some n = sym h.core.count ∙ sym (ap whole (text_front ts more 0 h.core.some)) ∙ e in option_nat s.market.assets n f

read_told : (ts : List Token) (x : Token) (s : Sheet) (q : Result Sheet PortKind) → Says ts s → item_told s.next s x.text ≡ q → Taken q → Read (ts ++ x ∷ []) (placed x.place q)
unfolding Read Taken
read_told ts x s (Ok s') h e t = says_item s.next ts x s s' h refl e
read_told ts x s (Err k) h e t = absurd (no_way k t.0 t.1)
  where
    no_way : (k : PortKind) (s : Sheet) → ◌≡◌ {A = Result Sheet PortKind} (Err k) (Ok s) → ⊥
    no_way k s e = cc

read_one : (n : ℕ) (m : MarketValue) (ts rest : List Token) (x : Token) (r : Result (Option Sheet) PortFault) → File (ts ++ x ∷ rest) n m → Read ts r → Read (ts ++ x ∷ []) (judged_one r x)
unfolding Read count_told fresh_sheet
read_one n m ts rest x (Err f) file h = absurd h
read_one n m ts rest x (Ok None) file h =
    let here : whole x.text ≡ Some n = sym (ap whole (text_here ts rest x 0 (let z : 0 ≡ length ts = rw h refl in z))) ∙ file.count in
    let few : 2 ≤ n = rw file.same file.market.few in
    let many : n ≤ 256 = rw file.same file.market.many in
    rw (h, begun_with n (whole x.text) here few many) (says_begun x n here few many)
read_one n m ts rest x (Ok (Some s)) file h =
    let e : s.market.assets ≡ n = counts_same ts (x ∷ rest) s n h file.count in
    let f : File (ts ++ x ∷ rest) s.market.assets m = subst (λ (k : ℕ). File (ts ++ x ∷ rest) k m) (sym e) file in
    read_told ts x s (item_told s.next s x.text) h refl (takes_next s.next ts rest x s m h f h.core.place refl)

read_all : (n : ℕ) (m : MarketValue) (rest ts : List Token) (r : Result (Option Sheet) PortFault) → File (ts ++ rest) n m → Read ts r → Read (ts ++ rest) (fold judged_one r rest)
read_all n m [] ts r file h = rw (append-nil ts) h
read_all n m (x ∷ xs) ts r file h =
    let e : ts ++ x ∷ xs ≡ (ts ++ x ∷ []) ++ xs = sym (append_assoc ts (x ∷ []) xs) in
    subst (λ (l : List Token). Read l (fold judged_one (judged_one r x) xs)) (sym e)
    (read_all n m xs (ts ++ x ∷ []) (judged_one r x) (subst (λ (l : List Token). File l n m) e file) (read_one n m ts xs x r file h))

-- at the end no asset and no triple is cut off, and no pair is missing
ends_whole : (ts : List Token) (n t : ℕ) (w : Wanted) → length ts ≡ triple_at n t → IsPlace ts n w → w ≡ First
unfolding IsPlace
ends_whole ts n t (Mean k) l at = absurd (omega (arith, at.0, at.1))
ends_whole ts n t (Deviation k) l at = absurd (omega (arith, at.0, at.1))
ends_whole ts n t First l at = refl
ends_whole ts n t (Second i) l at = absurd (omega (arith, at.1))
ends_whole ts n t (Correlation i j) l at = absurd (omega (arith, at.1))

first_all : (left at : ℕ) (p : ℕ → Bool) → ((k : ℕ) → at ≤ k → k < at + left → p k ≡ false) → first_from left at p ≡ None
first_all zero at p h = refl
first_all (suc left) at p h =
    let e : p at ≡ false = h at (omega arith) (omega arith) in
    rw e (first_all left (at + 1) p (λ k a b. h k (omega arith) (omega arith)))

pub marked_named : (ts : List Token) (s : Sheet) (t i j : ℕ) (v : ℤ) → Says ts s → IsTriple ts s.market.assets t i j v → i ≢ j → marks_of s (spot s.market.assets i j) ≡ true
marked_named ts s t i j v h a ne =
    let said : Said ts s.market.assets t (rho_of s.market) (marks_of s) = triples_said ts s.market.assets t (rho_of s.market) (marks_of s) h.core.triples a.ends in
    let d = triple_same ts s.market.assets t i j said.i said.j v (rho_of s.market said.i said.j) a said.triple in
    rw (d.0, d.1) (said.stood (λ e. ne (d.0 ∙ e ∙ sym d.1)))

marked_pair : (ts : List Token) (s : Sheet) (i j : ℕ) (m : MarketValue) → Says ts s → File ts s.market.assets m → i < j → j < s.market.assets → marks_of s (spot s.market.assets i j) ≡ true
marked_pair ts s i j m h file l q = by_way (file.each_pair i j l q)
  where
    by_way : (t : ℕ) × NamesPair ts s.market.assets t i j (rho_of m i j) → marks_of s (spot s.market.assets i j) ≡ true
    by_way (t, inl a) = marked_named ts s t i j (rho_of m i j) h a (λ e. absurd (omega arith))
    by_way (t, inr a) = ap (marks_of s) (spot_turned s.market.assets i j) ∙ marked_named ts s t j i (rho_of m i j) h a (λ e. absurd (omega arith))

not_missing : (n p : ℕ) (seen : Bool) (i j : ℕ) → (i < j → seen ≡ true) → (nat_lt i j && not seen) ≡ false
not_missing n p seen i j h = ⊎_elim
    (λ l. let t : nat_lt i j ≡ true = grind (arith, nat_tests) in rw (t, h l) refl)
    (λ l. let t : nat_lt i j ≡ false = grind (arith, nat_tests) in rw t refl)
    (cases_lt i j)

pub spot_is : (n p : ℕ) → p / n < p % n → 0 < n → spot n (p / n) (p % n) ≡ p
spot_is n p h some =
    let a : min (p / n) (p % n) ≡ p / n = omega arith in
    let b : max (p / n) (p % n) ≡ p % n = omega arith in
    rw (a, b) (div-add-mod' p n)

none_missing : (ts : List Token) (s : Sheet) (m : MarketValue) → Says ts s → File ts s.market.assets m → missing s.market.assets s.seen ≡ None
unfolding missing
none_missing ts s m h file =
    let n = s.market.assets in
    let some : 0 < s.market.assets = omega (arith, h.core.market.few) in
    first_all (n * n) 0 (is_missing n s.seen) (λ p a b. not_missing n p (slice_index_or s.seen p false) (p / n) (p % n) (λ l.
    ap (marks_of s) (sym (spot_is n p l some)) ∙ marked_pair ts s (p / n) (p % n) m h file l (omega (arith, some))))

read_ends : (ts : List Token) (size n : ℕ) (m : MarketValue) (r : Result (Option Sheet) PortFault) → File ts n m → size ≤ limit → Read ts r → (k : MarketValue) × (finished size r ≡ Ok k)
unfolding Read
read_ends ts size n m (Err f) file l h = absurd h
read_ends ts size n m (Ok None) file l h = absurd (let z : length ts ≡ 0 = rw h refl in let y : 0 < length ts = omega (arith, file.whole_triples) in omega arith)
read_ends ts size n m (Ok (Some s)) file l h =
    let e : s.market.assets ≡ n = counts_same ts [] s n h (rw (append-nil ts) file.count) in
    let f : File ts s.market.assets m = subst (λ (k : ℕ). File ts k m) (sym e) file in
    let next : s.next ≡ First = ends_whole ts s.market.assets f.triples s.next f.whole_triples h.core.place in
    let full : missing s.market.assets s.seen ≡ None = none_missing ts s m h f in
    let few : nat_le size limit ≡ true = grind (arith, nat_tests) in
    (s.market, rw (few, next, full) refl)

-- a file of a market is read as one
pub file_is_read : (bytes : List ℕ) (m : MarketValue) → IsMarketOf bytes m → (k : MarketValue) × (port bytes ≡ Ok k)
unfolding port judged Read tokens
file_is_read bytes m h =
    let all : kept (tokens bytes) ≡ tokens bytes = keeps_all (tokens bytes) (tokens_end limit 0 bytes (let l : 0 + length bytes ≤ limit = omega (arith, h.size) in l)) in
    let file : File (tokens bytes) m.assets m = file_of bytes m h in
    let k : (k : MarketValue) × (finished (length bytes) (judged (tokens bytes)) ≡ Ok k)
    = read_ends (tokens bytes) (length bytes) m.assets m (judged (tokens bytes)) file h.size (read_all m.assets m (tokens bytes) [] (Ok None) file refl) in
    (k.0, ap (λ (ts : List Token). finished (length bytes) (judged ts)) all ∙ k.1)
