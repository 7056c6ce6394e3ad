-- A token has one kind of fault alone.
use Rattle.std.proofs.Common.{◌≡◌, ℕ, ◌+◌, ◌*◌, ◌<◌, ◌≤◌, ◌⊎◌, inl, inr, true, false, List, None, Result, Ok, Err, ℤ, refl, sym, ap, ◌∙◌, subst, arith}
use Rattle.std.specs.Int.RustNames.{unsigned_abs}
use Rattle.gap_base.specs.Numerals.{numeral_of}
use Rattle.gap_base.specs.declared.numeral_fault.Rounded.{Rounded}
use Rattle.gap_base.specs.declared.numeral_fault.NumeralFault.{NumeralFault}
use Rattle.gap_orlib.specs.declared.fault.PortKind.{PortKind}
use Rattle.gap_orlib.specs.declared.fault.PortKind.TheVariants.{Count, Numeral, Range, Deviation as BelowZero, Index, Diagonal, Conflict, Short, Missing, TooLong}
use Rattle.gap_orlib.specs.Tokens.{Token}
use Rattle.gap_orlib.specs.Sheets.{whole_in, is_negative}
use Rattle.gap_orlib.specs.Fields.{text_at, HasValue, IsValue, IsTriple, NamesPair, triple_at, is_value_place}
use Rattle.gap_orlib.specs.Faults.{IsCount, IsNoNumeral, HasNumeral, HasRange, HasDeviation, HasIndex, HasDiagonal, HasConflict, IsAtFault}
use Rattle.gap_orlib.proofs.Grown.{first_place, second_place, correlation_place, deviation_place}
use Rattle.gap_orlib.proofs.Reading.{option_nat, value_same, triple_same}

no_way : true ≡ false → ⊥
no_way e = cc

-- the number of assets is one
pub one_count : (ts : List Token) (m n : ℕ) → IsCount ts m → IsCount ts n → m ≡ n
one_count ts m n a b = option_nat m n (sym a.number ∙ b.number)

-- a place of a value isn't the first
value_some : (n k : ℕ) → is_value_place n k ≡ true → k ≡ 0 → ⊥
value_some n k e z = no_way (sym e ∙ ap (is_value_place n) z)

is_numeral : (q : Result Rounded NumeralFault) (v : ℤ) → HasValue q v → IsNoNumeral q → ⊥
is_numeral (Ok r) v h n = n
is_numeral (Err e) v h n = h

-- the value of a token that ends a triple
diagonal_value : (ts : List Token) (k : ℕ) (h : HasDiagonal ts k) → IsValue ts k h.value
diagonal_value ts k h = subst (λ (l : ℕ). IsValue ts l h.value) (sym h.place) h.is_triple.value

named_value : (ts : List Token) (n t i j : ℕ) (v : ℤ) → NamesPair ts n t i j v → IsValue ts (triple_at n t + 2) v
named_value ts n t i j v (inl a) = a.value
named_value ts n t i j v (inr a) = a.value

conflict_value : (ts : List Token) (k i j : ℕ) (h : HasConflict ts k i j) → IsValue ts k h.value
conflict_value ts k i j h = subst (λ (l : ℕ). IsValue ts l h.value) (sym h.place) (named_value ts h.assets h.triple h.low h.high h.value h.names)

one_value : (ts : List Token) (k : ℕ) (v w : ℤ) → IsValue ts k v → IsValue ts k w → v ≡ w
one_value ts k v w a b = value_same (numeral_of (text_at ts k)) v w a b

too_great : (v w : ℤ) → v ≡ w → 1000000 < unsigned_abs v → unsigned_abs w ≤ 1000000 → ⊥
too_great v w e g s = let t : unsigned_abs v ≤ 1000000 = rw e s in omega arith

-- an index isn't at the place of a value
index_place : (n k t : ℕ) → (k ≡ triple_at n t) ⊎ (k ≡ triple_at n t + 1) → is_value_place n k ≡ true → ⊥
index_place n k t (inl e) v = no_way (sym v ∙ first_place n t k e)
index_place n k t (inr e) v = no_way (sym v ∙ second_place n t k e)

index_some : (n k t : ℕ) → (k ≡ triple_at n t) ⊎ (k ≡ triple_at n t + 1) → k ≡ 0 → ⊥
index_some n k t (inl e) z = omega arith
index_some n k t (inr e) z = omega arith

count_numeral : (ts : List Token) (k : ℕ) → (k ≡ 0) × (whole_in 2 256 (text_at ts 0) ≡ None) → HasNumeral ts k → ⊥
count_numeral ts k a b = value_some b.assets k b.place a.0

count_range : (ts : List Token) (k : ℕ) → (k ≡ 0) × (whole_in 2 256 (text_at ts 0) ≡ None) → HasRange ts k → ⊥
count_range ts k a b = value_some b.assets k b.place a.0

count_deviation : (ts : List Token) (k : ℕ) → (k ≡ 0) × (whole_in 2 256 (text_at ts 0) ≡ None) → HasDeviation ts k → ⊥
count_deviation ts k a b = omega (arith, a.0, b.place)

count_index : (ts : List Token) (k : ℕ) → (k ≡ 0) × (whole_in 2 256 (text_at ts 0) ≡ None) → HasIndex ts k → ⊥
count_index ts k a b = index_some b.assets k b.triple b.place a.0

count_diagonal : (ts : List Token) (k : ℕ) → (k ≡ 0) × (whole_in 2 256 (text_at ts 0) ≡ None) → HasDiagonal ts k → ⊥
count_diagonal ts k a b = omega (arith, a.0, b.place)

count_conflict : (ts : List Token) (k i j : ℕ) → (k ≡ 0) × (whole_in 2 256 (text_at ts 0) ≡ None) → HasConflict ts k i j → ⊥
count_conflict ts k i j a b = omega (arith, a.0, b.place)

numeral_range : (ts : List Token) (k : ℕ) → HasNumeral ts k → HasRange ts k → ⊥
numeral_range ts k a b = is_numeral (numeral_of (text_at ts k)) b.value b.is_value a.no_numeral

numeral_deviation : (ts : List Token) (k : ℕ) → HasNumeral ts k → HasDeviation ts k → ⊥
numeral_deviation ts k a b = is_numeral (numeral_of (text_at ts k)) b.value b.is_value a.no_numeral

numeral_index : (ts : List Token) (k : ℕ) → HasNumeral ts k → HasIndex ts k → ⊥
numeral_index ts k a b = let e : a.assets ≡ b.assets = one_count ts a.assets b.assets a.count b.count in index_place b.assets k b.triple b.place (rw e at a.place)

numeral_diagonal : (ts : List Token) (k : ℕ) → HasNumeral ts k → HasDiagonal ts k → ⊥
numeral_diagonal ts k a b = is_numeral (numeral_of (text_at ts k)) b.value (diagonal_value ts k b) a.no_numeral

numeral_conflict : (ts : List Token) (k i j : ℕ) → HasNumeral ts k → HasConflict ts k i j → ⊥
numeral_conflict ts k i j a b = is_numeral (numeral_of (text_at ts k)) b.value (conflict_value ts k i j b) a.no_numeral

range_deviation : (ts : List Token) (k : ℕ) → HasRange ts k → HasDeviation ts k → ⊥
range_deviation ts k a b =
    let e : b.assets ≡ a.assets = one_count ts b.assets a.assets b.count a.count in
    let there : b.asset < a.assets = omega (arith, e, b.there) in
    let same : b.value ≡ a.value = one_value ts k b.value a.value b.is_value a.is_value in
    no_way (sym b.negative ∙ ap is_negative same ∙ a.not_below b.asset there b.place)

range_index : (ts : List Token) (k : ℕ) → HasRange ts k → HasIndex ts k → ⊥
range_index ts k a b = let e : a.assets ≡ b.assets = one_count ts a.assets b.assets a.count b.count in index_place b.assets k b.triple b.place (rw e at a.place)

range_diagonal : (ts : List Token) (k : ℕ) → HasRange ts k → HasDiagonal ts k → ⊥
range_diagonal ts k a b = too_great a.value b.value (one_value ts k a.value b.value a.is_value (diagonal_value ts k b)) a.great b.small

range_conflict : (ts : List Token) (k i j : ℕ) → HasRange ts k → HasConflict ts k i j → ⊥
range_conflict ts k i j a b = too_great a.value b.value (one_value ts k a.value b.value a.is_value (conflict_value ts k i j b)) a.great b.small

deviation_index : (ts : List Token) (k : ℕ) → HasDeviation ts k → HasIndex ts k → ⊥
deviation_index ts k a b =
    let e : a.assets ≡ b.assets = one_count ts a.assets b.assets a.count b.count in
    index_place b.assets k b.triple b.place (deviation_place b.assets a.asset k (omega (arith, e, a.there)) a.place)

low_place : (n m a k t : ℕ) → n ≡ m → a < n → k ≡ 2 * a + 2 → k ≡ triple_at m t + 2 → ⊥
low_place n m a k t e l p q = omega arith

deviation_diagonal : (ts : List Token) (k : ℕ) → HasDeviation ts k → HasDiagonal ts k → ⊥
deviation_diagonal ts k a b = low_place a.assets b.assets a.asset k b.triple (one_count ts a.assets b.assets a.count b.count) a.there a.place b.place

deviation_conflict : (ts : List Token) (k i j : ℕ) → HasDeviation ts k → HasConflict ts k i j → ⊥
deviation_conflict ts k i j a b = low_place a.assets b.assets a.asset k b.triple (one_count ts a.assets b.assets a.count b.count) a.there a.place b.place

index_diagonal : (ts : List Token) (k : ℕ) → HasIndex ts k → HasDiagonal ts k → ⊥
index_diagonal ts k a b =
    let e : b.assets ≡ a.assets = one_count ts b.assets a.assets b.count a.count in
    index_place a.assets k a.triple a.place (correlation_place a.assets b.triple k (rw e at b.place))

index_conflict : (ts : List Token) (k i j : ℕ) → HasIndex ts k → HasConflict ts k i j → ⊥
index_conflict ts k i j a b =
    let e : b.assets ≡ a.assets = one_count ts b.assets a.assets b.count a.count in
    index_place a.assets k a.triple a.place (correlation_place a.assets b.triple k (rw e at b.place))

-- two triples that end at one token are one
one_triple : (n m k t u : ℕ) → n ≡ m → k ≡ triple_at n t + 2 → k ≡ triple_at m u + 2 → t ≡ u
one_triple n m k t u e p q = omega arith

triple_along : (ts : List Token) (n m t u i j : ℕ) (v : ℤ) → n ≡ m → t ≡ u → IsTriple ts n t i j v → IsTriple ts m u i j v
triple_along ts n m t u i j v e f a = subst (λ (x : ℕ). IsTriple ts x u i j v) e (subst (λ (y : ℕ). IsTriple ts n y i j v) f a)

pair_along : (ts : List Token) (n m t u i j : ℕ) (v : ℤ) → n ≡ m → t ≡ u → NamesPair ts n t i j v → NamesPair ts m u i j v
pair_along ts n m t u i j v e f (inl a) = inl (triple_along ts n m t u i j v e f a)
pair_along ts n m t u i j v e f (inr a) = inr (triple_along ts n m t u j i v e f a)

no_pair : (ts : List Token) (n t a low high : ℕ) (v w : ℤ) → low < high → IsTriple ts n t a a v → NamesPair ts n t low high w → ⊥
no_pair ts n t a low high v w order x (inl y) = let d = triple_same ts n t a a low high v w x y in omega (arith, d.0, d.1, order)
no_pair ts n t a low high v w order x (inr y) = let d = triple_same ts n t a a high low v w x y in omega (arith, d.0, d.1, order)

diagonal_conflict : (ts : List Token) (k i j : ℕ) → HasDiagonal ts k → HasConflict ts k i j → ⊥
diagonal_conflict ts k i j a b =
    let e : a.assets ≡ b.assets = one_count ts a.assets b.assets a.count b.count in
    let t : a.triple ≡ b.triple = one_triple a.assets b.assets k a.triple b.triple e a.place b.place in
    no_pair ts b.assets b.triple a.asset b.low b.high a.value b.value b.in_order (triple_along ts a.assets b.assets a.triple b.triple a.asset a.asset a.value e t a.is_triple) b.names

pair_one : (ts : List Token) (n t a b c d : ℕ) (v w : ℤ) → a < b → c < d → NamesPair ts n t a b v → NamesPair ts n t c d w → (a ≡ c) × (b ≡ d)
pair_one ts n t a b c d v w p q (inl x) (inl y) = let s = triple_same ts n t a b c d v w x y in (s.0, s.1)
pair_one ts n t a b c d v w p q (inl x) (inr y) = let s = triple_same ts n t a b d c v w x y in absurd (omega (arith, s.0, s.1, p, q))
pair_one ts n t a b c d v w p q (inr x) (inl y) = let s = triple_same ts n t b a c d v w x y in absurd (omega (arith, s.0, s.1, p, q))
pair_one ts n t a b c d v w p q (inr x) (inr y) = let s = triple_same ts n t b a d c v w x y in (s.1, s.0)

conflict_one : (ts : List Token) (k i j i' j' : ℕ) → HasConflict ts k i j → HasConflict ts k i' j' → Conflict i j ≡ Conflict i' j'
conflict_one ts k i j i' j' a b =
    let e : a.assets ≡ b.assets = one_count ts a.assets b.assets a.count b.count in
    let t : a.triple ≡ b.triple = one_triple a.assets b.assets k a.triple b.triple e a.place b.place in
    let s : (a.low ≡ b.low) × (a.high ≡ b.high) = pair_one ts b.assets b.triple a.low a.high b.low b.high a.value b.value a.in_order b.in_order (pair_along ts a.assets b.assets a.triple b.triple a.low a.high a.value e t a.names) b.names in
    let first : i ≡ i' = omega (arith, a.i_is, b.i_is, s.0) in
    let second : j ≡ j' = omega (arith, a.j_is, b.j_is, s.1) in
    rw (first, second) refl

count_alone : (ts : List Token) (k : ℕ) (b : PortKind) → (k ≡ 0) × (whole_in 2 256 (text_at ts 0) ≡ None) → IsAtFault ts k b → Count ≡ b
count_alone ts k Count a b = refl
count_alone ts k Numeral a b = absurd (count_numeral ts k a b)
count_alone ts k Range a b = absurd (count_range ts k a b)
count_alone ts k BelowZero a b = absurd (count_deviation ts k a b)
count_alone ts k Index a b = absurd (count_index ts k a b)
count_alone ts k Diagonal a b = absurd (count_diagonal ts k a b)
count_alone ts k (Conflict i' j') a b = absurd (count_conflict ts k i' j' a b)
count_alone ts k Short a b = absurd b
count_alone ts k (Missing i' j') a b = absurd b
count_alone ts k TooLong a b = absurd b

numeral_alone : (ts : List Token) (k : ℕ) (b : PortKind) → HasNumeral ts k → IsAtFault ts k b → Numeral ≡ b
numeral_alone ts k Count a b = absurd (count_numeral ts k b a)
numeral_alone ts k Numeral a b = refl
numeral_alone ts k Range a b = absurd (numeral_range ts k a b)
numeral_alone ts k BelowZero a b = absurd (numeral_deviation ts k a b)
numeral_alone ts k Index a b = absurd (numeral_index ts k a b)
numeral_alone ts k Diagonal a b = absurd (numeral_diagonal ts k a b)
numeral_alone ts k (Conflict i' j') a b = absurd (numeral_conflict ts k i' j' a b)
numeral_alone ts k Short a b = absurd b
numeral_alone ts k (Missing i' j') a b = absurd b
numeral_alone ts k TooLong a b = absurd b

range_alone : (ts : List Token) (k : ℕ) (b : PortKind) → HasRange ts k → IsAtFault ts k b → Range ≡ b
range_alone ts k Count a b = absurd (count_range ts k b a)
range_alone ts k Numeral a b = absurd (numeral_range ts k b a)
range_alone ts k Range a b = refl
range_alone ts k BelowZero a b = absurd (range_deviation ts k a b)
range_alone ts k Index a b = absurd (range_index ts k a b)
range_alone ts k Diagonal a b = absurd (range_diagonal ts k a b)
range_alone ts k (Conflict i' j') a b = absurd (range_conflict ts k i' j' a b)
range_alone ts k Short a b = absurd b
range_alone ts k (Missing i' j') a b = absurd b
range_alone ts k TooLong a b = absurd b

deviation_alone : (ts : List Token) (k : ℕ) (b : PortKind) → HasDeviation ts k → IsAtFault ts k b → BelowZero ≡ b
deviation_alone ts k Count a b = absurd (count_deviation ts k b a)
deviation_alone ts k Numeral a b = absurd (numeral_deviation ts k b a)
deviation_alone ts k Range a b = absurd (range_deviation ts k b a)
deviation_alone ts k BelowZero a b = refl
deviation_alone ts k Index a b = absurd (deviation_index ts k a b)
deviation_alone ts k Diagonal a b = absurd (deviation_diagonal ts k a b)
deviation_alone ts k (Conflict i' j') a b = absurd (deviation_conflict ts k i' j' a b)
deviation_alone ts k Short a b = absurd b
deviation_alone ts k (Missing i' j') a b = absurd b
deviation_alone ts k TooLong a b = absurd b

index_alone : (ts : List Token) (k : ℕ) (b : PortKind) → HasIndex ts k → IsAtFault ts k b → Index ≡ b
index_alone ts k Count a b = absurd (count_index ts k b a)
index_alone ts k Numeral a b = absurd (numeral_index ts k b a)
index_alone ts k Range a b = absurd (range_index ts k b a)
index_alone ts k BelowZero a b = absurd (deviation_index ts k b a)
index_alone ts k Index a b = refl
index_alone ts k Diagonal a b = absurd (index_diagonal ts k a b)
index_alone ts k (Conflict i' j') a b = absurd (index_conflict ts k i' j' a b)
index_alone ts k Short a b = absurd b
index_alone ts k (Missing i' j') a b = absurd b
index_alone ts k TooLong a b = absurd b

diagonal_alone : (ts : List Token) (k : ℕ) (b : PortKind) → HasDiagonal ts k → IsAtFault ts k b → Diagonal ≡ b
diagonal_alone ts k Count a b = absurd (count_diagonal ts k b a)
diagonal_alone ts k Numeral a b = absurd (numeral_diagonal ts k b a)
diagonal_alone ts k Range a b = absurd (range_diagonal ts k b a)
diagonal_alone ts k BelowZero a b = absurd (deviation_diagonal ts k b a)
diagonal_alone ts k Index a b = absurd (index_diagonal ts k b a)
diagonal_alone ts k Diagonal a b = refl
diagonal_alone ts k (Conflict i' j') a b = absurd (diagonal_conflict ts k i' j' a b)
diagonal_alone ts k Short a b = absurd b
diagonal_alone ts k (Missing i' j') a b = absurd b
diagonal_alone ts k TooLong a b = absurd b

conflict_alone : (ts : List Token) (k i j : ℕ) (b : PortKind) → HasConflict ts k i j → IsAtFault ts k b → Conflict i j ≡ b
conflict_alone ts k i j Count a b = absurd (count_conflict ts k i j b a)
conflict_alone ts k i j Numeral a b = absurd (numeral_conflict ts k i j b a)
conflict_alone ts k i j Range a b = absurd (range_conflict ts k i j b a)
conflict_alone ts k i j BelowZero a b = absurd (deviation_conflict ts k i j b a)
conflict_alone ts k i j Index a b = absurd (index_conflict ts k i j b a)
conflict_alone ts k i j Diagonal a b = absurd (diagonal_conflict ts k i j b a)
conflict_alone ts k i j (Conflict i' j') a b = conflict_one ts k i j i' j' a b
conflict_alone ts k i j Short a b = absurd b
conflict_alone ts k i j (Missing i' j') a b = absurd b
conflict_alone ts k i j TooLong a b = absurd b

-- a token has one kind of fault alone
pub one_kind : (ts : List Token) (k : ℕ) (a b : PortKind) → IsAtFault ts k a → IsAtFault ts k b → a ≡ b
one_kind ts k Count b x y = count_alone ts k b x y
one_kind ts k Numeral b x y = numeral_alone ts k b x y
one_kind ts k Range b x y = range_alone ts k b x y
one_kind ts k BelowZero b x y = deviation_alone ts k b x y
one_kind ts k Index b x y = index_alone ts k b x y
one_kind ts k Diagonal b x y = diagonal_alone ts k b x y
one_kind ts k (Conflict i j) b x y = conflict_alone ts k i j b x y
one_kind ts k Short b x y = absurd x
one_kind ts k (Missing i j) b x y = absurd x
one_kind ts k TooLong b x y = absurd x
