-- What the groups that a format spells have in common.
use Rattle.std.proofs.Common.{◌≡◌, ℕ, zero, suc, ◌+◌, ◌-◌, ◌<◌, ◌≤◌, true, nat_lt, nat_le, List, [], ◌∷◌, length, fold, sum, replicate, slice_set, slice_index_or, Option, Some, None, ℤ, pos, negsuc, ◌≤ℤ◌, unsigned_abs, refl, sym, ap, ◌∙◌, subst, arith, length-set, get_or-set_other}
use Rattle.std.specs.Option.{ForSome}
use Rattle.std.proofs.lemmas.Bool.Decides.{nat_tests}
use Rattle.std.proofs.lemmas.Int.{ints}
use Rattle.gap_cert.specs.declared.field.Group.{Group}
use Rattle.gap_cert.specs.Formats.{Format, natural, signed, guard, says, Spells}
use Rattle.gap_cert.specs.Contexts.{entries_format, mark_format}

-- each group that a format spells meets P
unfoldable pub Yields : (Group → Type 0) → Format → Type 0
Yields P (natural w wrong least greatest next) = (v : ℕ) → least ≤ v → v ≤ greatest → Yields P (next v)
Yields P (signed w least greatest next) = (z : ℤ) → least ≤ℤ z → z ≤ℤ greatest → Yields P (next z)
Yields P (guard test back wrong F) = test ≡ true → Yields P F
Yields P (says said) = P said

pub yields_is : (P : Group → Type 0) (F : Format) (g : Group) (bytes : List ℕ) → Yields P F → Spells F g bytes → P g
unfolding Yields Spells
yields_is P (natural w wrong least greatest next) g bytes f h = yields_is P (next h.value) g h.more (f h.value h.low h.high) h.behind
yields_is P (signed w least greatest next) g bytes f h = yields_is P (next h.value) g h.more (f h.value h.low h.high) h.behind
yields_is P (guard test back wrong F) g bytes f h = yields_is P F g bytes (f h.0) h.1
yields_is P (says said) g bytes f h = subst P (sym h.0) f

pub mark_yields : (P : Group → Type 0) (bs : List ℕ) (F : Format) → Yields P F → Yields P (mark_format bs F)
unfolding Yields
mark_yields P [] F f = f
mark_yields P (b ∷ bs) F f = λ v low high. mark_yields P bs F f

-- a signed number within a size
pub is_small : (n : ℕ) (z : ℤ) → negsuc n ≤ℤ z → z ≤ℤ pos (suc n) → unsigned_abs z ≤ suc n
is_small n z low high = grind (arith, ints)

pub is_natural : (n : ℕ) (z : ℤ) → pos 0 ≤ℤ z → z ≤ℤ pos n → unsigned_abs z ≤ n
is_natural n z low high = grind (arith, ints)

-- what holds of what may be there
pub for_none : {X : Type 0} (P : X → Type 0) → ForSome None P
for_none P = λ x e. cc

some_is : {X : Type 0} (a b : X) → ◌≡◌ {A = Option X} (Some a) (Some b) → a ≡ b
some_is a b e = cc

pub for_some : {X : Type 0} (P : X → Type 0) (w : X) → P w → ForSome (Some w) P
for_some P w h = λ x e. subst P (some_is w x e) h

-- ---- entries

-- all numbers of a list from a place on are 0
abbrev pub ZerosFrom : ℕ → List ℕ → Type 0
ZerosFrom k x = (j : ℕ) → k ≤ j → slice_index_or x j 0 ≡ 0

sum_from : (x : List ℕ) (k : ℕ) → fold ◌+◌ k x ≡ k + fold ◌+◌ 0 x
sum_from [] k = omega arith
sum_from (u ∷ x) k = let a = sum_from x (k + u) in let b = sum_from x (0 + u) in omega (arith, a, b)

sum_cons : (v : ℕ) (x : List ℕ) → sum (v ∷ x) ≡ v + sum x
sum_cons v x = let a = sum_from x (0 + v) in omega (arith, a)

sum_set : (x : List ℕ) (k v : ℕ) → k < length x → slice_index_or x k 0 ≡ 0 → sum (slice_set x k v) ≡ sum x + v
sum_set [] k v h z = absurd (omega arith)
sum_set (u ∷ x) zero v h z = let a = sum_cons v x in let b = sum_cons u x in omega (arith, a, b, z)
sum_set (u ∷ x) (suc k) v h z =
    let a = sum_cons u (slice_set x k v) in
    let b = sum_cons u x in
    let c = sum_set x k v (omega arith) z in omega (arith, a, b, c)

lt_from : (a b : ℕ) → nat_lt a b ≡ true → a < b
lt_from a b h = grind (arith, nat_tests)

le_from : (a b : ℕ) → nat_le a b ≡ true → a ≤ b
le_from a b h = grind (arith, nat_tests)

zeros_behind : (asset v last : ℕ) (x : List ℕ) → ZerosFrom last x → last < asset → ZerosFrom asset (slice_set x (asset - 1) v)
zeros_behind asset v last x z h j k = get_or-set_other x (asset - 1) j v 0 (λ e. omega arith) ∙ z j (omega arith)

-- entries fill a list of n numbers with a sum of at most `most`
pub entries_yield : (P : Group → Type 0) (count n w greatest most from total : ℕ) (x : List ℕ) (next : List ℕ → Format) → length x ≡ n → ZerosFrom from x → sum x ≡ total → total ≤ most →
    ((y : List ℕ) → length y ≡ n → sum y ≤ most → Yields P (next y)) → Yields P (entries_format count n w greatest most from total x next)
unfolding Yields entries_format
entries_yield P zero n w greatest most from total x next l z s m f = f x l (omega (arith, s, m))
entries_yield P (suc count) n w greatest most from total x next l z s m f =
    λ asset low high above v v_low v_high fits.
    let h : from < asset = lt_from from asset above in
    let t = sum_set x (asset - 1) v (omega (arith, l, low, high)) (z (asset - 1) (omega arith)) in
    entries_yield P count n w greatest most asset (total + v) (slice_set x (asset - 1) v) next
    (length-set x (asset - 1) v ∙ l) (zeros_behind asset v from x z h) (t ∙ ap (λ (k : ℕ). k + v) s) (le_from (total + v) most fits) f

abbrev pub zeros : ℕ → List ℕ
zeros n = replicate n 0

zeros_of : (n j : ℕ) → slice_index_or (zeros n) j 0 ≡ 0
zeros_of zero j = refl
zeros_of (suc n) zero = refl
zeros_of (suc n) (suc j) = zeros_of n j

length_zeros : (n : ℕ) → length (zeros n) ≡ n
length_zeros zero = refl
length_zeros (suc n) = ap suc (length_zeros n)

sum_zeros : (n : ℕ) → sum (zeros n) ≡ 0
sum_zeros zero = refl
sum_zeros (suc n) = sum_zeros n

pub fresh_yield : (P : Group → Type 0) (count n w greatest most : ℕ) (next : List ℕ → Format) → ((y : List ℕ) → length y ≡ n → sum y ≤ most → Yields P (next y)) →
    Yields P (entries_format count n w greatest most 0 0 (zeros n) next)
fresh_yield P count n w greatest most next f = entries_yield P count n w greatest most 0 0 (zeros n) next (length_zeros n) (λ j k. zeros_of n j) (sum_zeros n) (omega arith) f
