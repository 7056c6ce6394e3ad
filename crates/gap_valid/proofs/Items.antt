-- The items of a certificate whose numbers are in their ranges are spelled by some bytes where they come.
use Rattle.std.proofs.Common.{◌≡◌, ℕ, zero, suc, ◌+◌, ◌*◌, ◌-◌, ◌^◌, ◌<◌, ◌≤◌, ◌≤ℤ◌, cond, ◌&&◌, ◌==◌, Bool, true, false, ltb, nat_lt, nat_le, List, [], ◌∷◌, ◌++◌, length, replicate, slice_set, slice_index_or, sum, Option, Some, None, ℤ, pos, negsuc, unsigned_abs, refl, sym, ap, ◌∙◌, subst, arith}
use Rattle.std.specs.Ordering.{int_eq}
use Rattle.std.proofs.lemmas.List.{append_assoc, length-append}
use Rattle.std.proofs.lemmas.List.Sums.{sum_by-cons, count_by-le-length}
use Rattle.std.proofs.lemmas.Bool.Decides.{nat_tests}
use Rattle.std.proofs.lemmas.Int.{ints}
use Rattle.gap_base.specs.declared.witness.Witness.{Witness}
use Rattle.gap_base.specs.Sizes.{most_multiplier}
use Rattle.gap_box.specs.Parts.{held_count}
use Rattle.gap_model.specs.Leaves.{AreMultipliers}
use Rattle.gap_model.specs.declared.cert_fault.CertKind.{CertKind}
use Rattle.gap_model.specs.declared.cert_fault.CertKind.TheVariants.{Range, Order}
use Rattle.gap_cert.specs.declared.field.Version.{Version}
use Rattle.gap_cert.specs.declared.field.Version.TheVariants.{One, Two}
use Rattle.gap_cert.specs.declared.field.Field.TheVariants as field
use Rattle.gap_cert.specs.declared.field.Group.{Group}
use Rattle.gap_cert.specs.Bytes.{be, signed_be, full, half, IsSigned}
use Rattle.gap_cert.specs.Formats.{Format, natural, signed, guard, says, Spells}
use Rattle.gap_cert.specs.Fields.{same_numbers, same_witness, repeated}
use Rattle.gap_cert.specs.Contexts.{sized, entries_format, tau_most, multipliers_format, witness_tail, eighths_format, witness_format, lots_end, lots_format, node_most, again_format}
use Rattle.gap_cert.specs.Certificates.{group_in}
use Rattle.gap_cert.proofs.Numbers.{full_twice}

-- some bytes spell a group by a format
pub record IsSpelled (F : Format) (g : Group) : Type 0 where
  pub bytes : List ℕ
  pub spells : Spells F g bytes

pub natural_spelled : (w : ℕ) (k : CertKind) (lo hi : ℕ) (next : ℕ → Format) (g : Group) (v : ℕ) → lo ≤ v → v ≤ hi → v < full w → IsSpelled (next v) g → IsSpelled (natural w k lo hi next) g
unfolding Spells
natural_spelled w k lo hi next g v l h f r = record { bytes = be w v ++ r.bytes; spells = record { value = v; more = r.bytes; low = l; high = h; fits = f; bytes_are = refl; behind = r.spells } }

pub signed_spelled : (w : ℕ) (lo hi : ℤ) (next : ℤ → Format) (g : Group) (z : ℤ) → lo ≤ℤ z → z ≤ℤ hi → IsSigned w z → IsSpelled (next z) g → IsSpelled (signed w lo hi next) g
unfolding Spells
signed_spelled w lo hi next g z l h f r = record { bytes = signed_be w z ++ r.bytes; spells = record { value = z; more = r.bytes; low = l; high = h; fits = f; bytes_are = refl; behind = r.spells } }

pub guard_spelled : (test : Bool) (back : ℕ) (k : CertKind) (F : Format) (g : Group) → test ≡ true → IsSpelled F g → IsSpelled (guard test back k F) g
unfolding Spells
guard_spelled test back k F g e r = record { bytes = r.bytes; spells = (e, r.spells) }

pub says_spelled : (g said : Group) → g ≡ said → IsSpelled (says said) g
unfolding Spells
says_spelled g said e = record { bytes = []; spells = (e, refl) }

-- ---- sizes
pub fits_1 : (n : ℕ) → n ≤ 255 → n < full 1
unfolding full
fits_1 n h = omega arith

pub fits_2 : (n : ℕ) → n ≤ 65535 → n < full 2
unfolding full
fits_2 n h = omega arith

pub fits_4 : (n : ℕ) → n ≤ 4294967295 → n < full 4
unfolding full
fits_4 n h = omega arith

pub room_4 : (n : ℕ) → n ≤ 1000000 → n < half 4
unfolding half full
room_4 n h = omega arith

pub room_8 : (n : ℕ) → n ≤ 1000000000000000 → n < half 8
unfolding half full
room_8 n h = omega arith

pub half_16 : half 16 ≡ 2 ^ 127
unfolding half full
half_16 = refl

pub room_16 : (n : ℕ) → n ≤ 1000000000000000000000000000000000000 → n < half 16
room_16 n h = let e = half_16 in omega arith

pub signed_small : (k m : ℕ) (z : ℤ) → 1 ≤ k → unsigned_abs z ≤ m → m < half k → IsSigned k z
unfolding IsSigned
signed_small k m (pos n) p s h = omega arith
signed_small k m (negsuc n) p s h = let t = full_twice k p in omega arith

low_size : (n : ℕ) (z : ℤ) → unsigned_abs z ≤ suc n → negsuc n ≤ℤ z
low_size n z h = omega (arith, ints)

pub high_size : (n : ℕ) (z : ℤ) → unsigned_abs z ≤ n → z ≤ℤ pos n
high_size n z h = omega (arith, ints)

low_zero : (z : ℤ) → unsigned_abs z ≤ 0 → pos 0 ≤ℤ z
low_zero z h = omega (arith, ints)

pub sized_spelled : (w n : ℕ) (next : ℤ → Format) (g : Group) (z : ℤ) → unsigned_abs z ≤ n → IsSigned w z → IsSpelled (next z) g → IsSpelled (sized w n next) g
sized_spelled w zero next g z s f r = signed_spelled w (pos 0) (pos 0) next g z (low_zero z s) (high_size 0 z s) f r
sized_spelled w (suc n) next g z s f r = signed_spelled w (negsuc n) (pos (suc n)) next g z (low_size n z s) (high_size (suc n) z s) f r

-- ---- entries
-- each number of a list is at most this
abbrev pub Bounded : ℕ → List ℕ → Type 0
Bounded m [] = Unit {0}
Bounded m (v ∷ x) = (v ≤ m) × Bounded m x

pub bounded_by_index : (m : ℕ) (x : List ℕ) → ((i : ℕ) → slice_index_or x i 0 ≤ m) → Bounded m x
bounded_by_index m [] h = tt
bounded_by_index m (v ∷ x) h = (h 0, bounded_by_index m x (λ i. h (suc i)))

sum_more : (v : ℕ) (x : List ℕ) → sum (v ∷ x) ≡ v + sum x
sum_more v x = sum_by-cons (λ n. n) v x

pub bounded_by_sum : (m : ℕ) (x : List ℕ) → sum x ≤ m → Bounded m x
bounded_by_sum m [] h = tt
bounded_by_sum m (v ∷ x) h = let e = sum_more v x in (omega arith, bounded_by_sum m x (omega arith))

held_more : (u : ℕ) (x : List ℕ) → held_count (u ∷ x) ≡ cond (ltb 0 u) 1 0 + held_count x
held_more u x = sum_by-cons (λ n. cond (ltb 0 n) 1 0) u x

cond_yes : (b : Bool) → b ≡ true → cond {A = ℕ} b 1 0 ≡ 1
cond_yes b e = rw e refl

positive : (v : ℕ) → ltb 0 (suc v) ≡ true
positive v = grind (arith, nat_tests)

held_none : (x : List ℕ) → held_count (0 ∷ x) ≡ held_count x
held_none x = held_more 0 x ∙ omega arith

held_some : (v : ℕ) (x : List ℕ) → held_count (suc v ∷ x) ≡ suc (held_count x)
held_some v x = held_more (suc v) x ∙ ap (λ (k : ℕ). k + held_count x) (cond_yes (ltb 0 (suc v)) (positive v)) ∙ omega arith

pub held_most_is : (x : List ℕ) → held_count x ≤ length x
held_most_is x = count_by-le-length (λ v. ltb 0 v) x

pub sum_most : (m : ℕ) (x : List ℕ) → Bounded m x → sum x ≤ m * held_count x
sum_most m [] b = omega arith
sum_most m (zero ∷ x) b = let s = sum_more 0 x in let h = held_none x in let r = sum_most m x b.1 in let e = ap (λ (k : ℕ). m * k) h in omega arith
sum_most m (suc v ∷ x) b = let s = sum_more (suc v) x in let h = held_some v x in let r = sum_most m x b.1 in let e = ap (λ (k : ℕ). m * k) h in omega (arith, b.0)

abbrev pub zeros : ℕ → List ℕ
zeros n = replicate n 0

set_seam : (pre rest : List ℕ) (v : ℕ) → slice_set (pre ++ 0 ∷ rest) (length pre) v ≡ (pre ++ v ∷ []) ++ rest
set_seam [] rest v = refl
set_seam (p ∷ pre) rest v = ap (λ (x : List ℕ). p ∷ x) (set_seam pre rest v)

set_named : (pre rest : List ℕ) (v : ℕ) → slice_set (pre ++ 0 ∷ rest) (suc (length pre) - 1) v ≡ (pre ++ v ∷ []) ++ rest
set_named pre rest v = let e : suc (length pre) - 1 ≡ length pre = omega arith in rw e (set_seam pre rest v)

longer : (pre : List ℕ) (v : ℕ) → length (pre ++ v ∷ []) ≡ suc (length pre)
longer pre v = length-append pre (v ∷ []) ∙ omega arith

above_last : (last asset : ℕ) → last < asset → nat_lt last asset ≡ true
above_last last asset h = grind (arith, nat_tests)

within_most : (a b : ℕ) → a ≤ b → nat_le a b ≡ true
within_most a b h = grind (arith, nat_tests)

-- entries that are still to come fill in the rest of a list
pub entries_spelled : (x pre : List ℕ) (count n w greatest most last total : ℕ) (next : List ℕ → Format) (g : Group) →
    count ≡ held_count x → length pre + length x ≡ n → n ≤ 256 → last ≤ length pre → Bounded greatest x → greatest < full w → total + sum x ≤ most →
    IsSpelled (next (pre ++ x)) g → IsSpelled (entries_format count n w greatest most last total (pre ++ zeros (length x)) next) g
unfolding entries_format
entries_spelled [] pre zero n w greatest most last total next g c l m b e f s r = r
entries_spelled [] pre (suc count) n w greatest most last total next g c l m b e f s r = absurd (omega arith)
entries_spelled (zero ∷ x) pre count n w greatest most last total next g c l m b e f s r =
    let h = held_none x in
    let k = longer pre 0 in
    let t = sum_more 0 x in
    subst (λ (y : List ℕ). IsSpelled (entries_format count n w greatest most last total y next) g) (append_assoc pre (0 ∷ []) (zeros (length x)))
    (entries_spelled x (pre ++ 0 ∷ []) count n w greatest most last total next g (c ∙ h) (omega arith) m (omega arith) e.1 f (omega arith)
    (subst (λ (y : List ℕ). IsSpelled (next y) g) (sym (append_assoc pre (0 ∷ []) x)) r))
entries_spelled (suc v ∷ x) pre zero n w greatest most last total next g c l m b e f s r = let h = held_some v x in absurd (omega arith)
entries_spelled (suc v ∷ x) pre (suc count) n w greatest most last total next g c l m b e f s r =
    let h = held_some v x in
    let k = longer pre (suc v) in
    let t = sum_more (suc v) x in
    natural_spelled 2 Range 1 n _ g (suc (length pre)) (omega arith) (omega arith) (fits_2 (suc (length pre)) (omega arith))
    (guard_spelled (nat_lt last (suc (length pre))) 2 Order _ g (above_last last (suc (length pre)) (omega arith))
    (natural_spelled w Range 1 greatest _ g (suc v) (omega arith) e.0 (omega (arith, e.0))
    (guard_spelled (nat_le (total + suc v) most) (2 + w) Range _ g (within_most (total + suc v) most (omega arith))
    (subst (λ (y : List ℕ). IsSpelled (entries_format count n w greatest most (suc (length pre)) (total + suc v) y next) g) (sym (set_named pre (zeros (length x)) (suc v)))
    (entries_spelled x (pre ++ suc v ∷ []) count n w greatest most (suc (length pre)) (total + suc v) next g (omega arith) (omega arith) m (omega arith) e.1 f (omega arith)
    (subst (λ (y : List ℕ). IsSpelled (next y) g) (sym (append_assoc pre (suc v ∷ []) x)) r))))))

-- entries from a list of zeros on
pub fresh_spelled : (x : List ℕ) (count n w greatest most : ℕ) (next : List ℕ → Format) (g : Group) →
    count ≡ held_count x → length x ≡ n → n ≤ 256 → Bounded greatest x → greatest < full w → sum x ≤ most →
    IsSpelled (next x) g → IsSpelled (entries_format count n w greatest most 0 0 (zeros n) next) g
fresh_spelled x count n w greatest most next g c l m e f s r =
    subst (λ (k : ℕ). IsSpelled (entries_format count n w greatest most 0 0 (zeros k) next) g) l
    (entries_spelled x [] count n w greatest most 0 0 next g c (omega arith) m (omega arith) e f (omega arith) r)

pub lots_spelled : (v : Version) (n count : ℕ) (x : List ℕ) → count ≡ held_count x → length x ≡ n → n ≤ 256 → Bounded 10000 x → IsSpelled (lots_format v n count) (group_in v (field.Portfolio x))
lots_spelled v n count x c l m e =
    let s = sum_most 10000 x e in
    fresh_spelled x count n 2 10000 (10000 * count) (lots_end v) (group_in v (field.Portfolio x)) c l m e (fits_2 10000 (omega arith)) (omega arith) (says_spelled (group_in v (field.Portfolio x)) (group_in v (field.Portfolio x)) refl)

-- ---- multipliers and witnesses
tau_high : (turnover : Option ℕ) (alpha tau : ℤ) → AreMultipliers turnover alpha tau → tau ≤ℤ pos (tau_most turnover)
tau_high None alpha tau m = let e = m.tau_unset refl in rw e (high_size 0 (pos 0) (omega arith))
tau_high (Some t) alpha tau m = high_size most_multiplier tau m.tau_most

pub multipliers_spelled : (turnover : Option ℕ) (next : ℤ → ℤ → Format) (g : Group) (alpha tau : ℤ) → AreMultipliers turnover alpha tau → IsSpelled (next alpha tau) g → IsSpelled (multipliers_format turnover next) g
multipliers_spelled turnover next g alpha tau m r =
    sized_spelled 16 most_multiplier (λ a. signed 16 (pos 0) (pos (tau_most turnover)) (λ t. next a t)) g alpha m.alpha_most (signed_small 16 most_multiplier alpha (omega arith) m.alpha_most (room_16 most_multiplier (omega arith)))
    (signed_spelled 16 (pos 0) (pos (tau_most turnover)) (λ t. next alpha t) g tau m.tau_least (tau_high turnover alpha tau m) (signed_small 16 most_multiplier tau (omega arith) m.tau_most (room_16 most_multiplier (omega arith))) r)

-- a witness for n assets and so many lots is in its ranges
pub record Suits (n lots : ℕ) (turnover : Option ℕ) (w : Witness) : Type 0 where
  pub count : length w.y ≡ n
  pub most : sum w.y ≤ 8 * lots
  pub multipliers : AreMultipliers turnover w.alpha w.tau

pub witness_spelled : (n lots : ℕ) (turnover : Option ℕ) (next : ℕ → Witness → Format) (g : Group) (w : Witness) → n ≤ 256 → lots ≤ 10000 → Suits n lots turnover w → IsSpelled (next (held_count w.y) w) g → IsSpelled (witness_format n lots turnover next) g
unfolding witness_format
witness_spelled n lots turnover next g w m l s r =
    let h = held_most_is w.y in
    let c = s.count in
    let t = s.most in
    natural_spelled 2 Range 0 n (eighths_format n lots turnover next) g (held_count w.y) (omega arith) (omega arith) (fits_2 (held_count w.y) (omega arith))
    (fresh_spelled w.y (held_count w.y) n 4 4294967295 (8 * lots) (witness_tail turnover next (held_count w.y)) g refl c m (bounded_by_sum 4294967295 w.y (omega arith)) (fits_4 4294967295 (omega arith)) t
    (multipliers_spelled turnover (λ alpha tau. next (held_count w.y) (record { y = w.y; alpha = alpha; tau = tau })) g w.alpha w.tau s.multipliers r))

-- ---- witnesses that are the same
equal_from : (v w : ℕ) → (v == w) ≡ true → v ≡ w
equal_from v w h = grind (arith, nat_tests)

equal_signed : (a b : ℤ) → int_eq a b ≡ true → a ≡ b
equal_signed a b h = grind (arith, ints)

both_from : (s t : Bool) → (s && t) ≡ true → (s ≡ true) × (t ≡ true)
both_from true t h = (refl, h)
both_from false t h = cc

same_list : (x y : List ℕ) → same_numbers x y ≡ true → x ≡ y
same_list [] [] h = refl
same_list [] (w ∷ y) h = cc
same_list (v ∷ x) [] h = cc
same_list (v ∷ x) (w ∷ y) h =
    let b = both_from (v == w) (same_numbers x y) h in
    ap (λ (k : ℕ). k ∷ x) (equal_from v w b.0) ∙ ap (λ (l : List ℕ). w ∷ l) (same_list x y b.1)

pub same_is : (u w : Witness) → same_witness u w ≡ true → u ≡ w
unfolding same_witness
same_is u w h =
    let a = both_from (same_numbers u.y w.y) (int_eq u.alpha w.alpha && int_eq u.tau w.tau) h in
    let b = both_from (int_eq u.alpha w.alpha) (int_eq u.tau w.tau) a.1 in
    whole (same_list u.y w.y a.0) (equal_signed u.alpha w.alpha b.0) (equal_signed u.tau w.tau b.1)
  where
    whole : {y z : List ℕ} {a b s t : ℤ} → y ≡ z → a ≡ b → s ≡ t → ◌≡◌ {A = Witness} (record { y = y; alpha = a; tau = s }) (record { y = z; alpha = b; tau = t })
    whole p q r = rw (p, q, r) refl

pub again_spelled : (v : Version) (last : Option Witness) (w : Witness) → repeated v last w ≡ true → (6 ≤ node_most v) × IsSpelled (again_format v last) (group_in v (field.TangentLeaf w))
again_spelled One last w h = cc
again_spelled Two None w h = cc
again_spelled Two (Some u) w h = (omega arith, says_spelled (group_in Two (field.TangentLeaf w)) (group_in Two (field.TangentLeaf u)) (ap (λ (k : Witness). group_in Two (field.TangentLeaf k)) (sym (same_is u w h))))
