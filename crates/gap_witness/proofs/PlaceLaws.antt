-- The place that one pass finds is the one where the number is greatest.
use Rattle.std.proofs.Common.{◌≡◌, ℕ, zero, suc, ◌+◌, ◌-◌, ◌<◌, ◌≤◌, Bool, true, false, if◌then◌else◌, Option, Some, None, ℤ, pos, neg_ℤ, ◌≤ℤ◌, ◌<ℤ◌, ◌⊎◌, inl, inr, refl, sym, ap, ◌∙◌, subst, arith, add-one}
use Rattle.std.specs.Prelude.{int_lt, ltb}
use Rattle.std.proofs.lemmas.Bool.Decides.{nat_tests}
use Rattle.std.proofs.Common.{◌++◌, List, [], ◌∷◌, length, sum, length-append, slice_index_or, replicate, set, get_or-set_same, get_or-set_other}
use Rattle.std.proofs.lemmas.Bool.{cases_eq}
use Rattle.gap_base.specs.Sums.{at}
use Rattle.std.proofs.lemmas.List.Sums.{sum_by-append, sum_by-cons}
use Rattle.std.proofs.lemmas.Int.{ints, by_lt_z}
use Rattle.gap_witness.specs.Places.{table, later, first_greatest, IsFirstGreatest}

less_is : (a b : ℤ) → int_lt a b ≡ true → a <ℤ b
less_is a b e = grind (arith, ints)

least_is : (a b : ℤ) → int_lt a b ≡ false → b ≤ℤ a
least_is a b e = grind (arith, ints)

last_or : (k n : ℕ) → k < suc n → (k < n) ⊎ (k ≡ n)
last_or zero zero h = inr refl
last_or zero (suc n) h = inl (omega arith)
last_or (suc k) zero h = absurd (omega arith)
last_or (suc k) (suc n) h = next (last_or k n (omega arith))
  where
    next : (k < n) ⊎ (k ≡ n) → (suc k < suc n) ⊎ (suc k ≡ suc n)
    next (inl l) = inl (omega arith)
    next (inr e) = inr (ap suc e)

some_is : (i j : ℕ) → (let A : Type 0 = Option ℕ in ◌≡◌ {A = A} (Some i) (Some j)) → i ≡ j
some_is i j e = cc

none_less : (n j : ℕ) (t : Bool) (k : ℕ) (p : ℕ → Bool) → (if t then Some n else Some j) ≡ None → p k ≡ false
none_less n j true k p e = cc
none_less n j false k p e = cc

none_by : (n k : ℕ) (p : ℕ → Bool) (f : ℕ → ℤ) (b : Bool) (o : Option ℕ) → p n ≡ b → (o ≡ None → k < n → p k ≡ false) → later b f n o ≡ None → (k < n) ⊎ (k ≡ n) → p k ≡ false
none_by n k p f false o eb ih e (inl l) = ih e l
none_by n k p f false o eb ih e (inr q) = ap p q ∙ eb
none_by n k p f true None eb ih e q = cc
none_by n k p f true (Some j) eb ih e q = none_less n j (int_lt (f j) (f n)) k p e

-- where none is found no place passes the test
pub found_none : (n : ℕ) (p : ℕ → Bool) (f : ℕ → ℤ) → first_greatest n p f ≡ None → (k : ℕ) → k < n → p k ≡ false
unfolding first_greatest
found_none zero p f e k l = absurd (omega arith)
found_none (suc n) p f e k l = none_by n k p f (p n) (first_greatest n p f) refl (λ q m. found_none n p f q k m) e (last_or k n l)

-- the place before stays where the next one isn't greater
kept : (n i : ℕ) (p : ℕ → Bool) (f : ℕ → ℤ) → IsFirstGreatest n p f i → (p n ≡ true → f n ≤ℤ f i) → IsFirstGreatest (suc n) p f i
kept n i p f h g = record {
  below = let l = h.below in omega arith;
  allowed = h.allowed;
  greatest = λ k l t. by_place k t (last_or k n l);
  first = h.first;
}
  where
    by_place : (k : ℕ) → p k ≡ true → (k < n) ⊎ (k ≡ n) → f k ≤ℤ f i
    by_place k t (inl l) = h.greatest k l t
    by_place k t (inr q) = subst (λ (m : ℕ). f m ≤ℤ f i) (sym q) (g (ap p (sym q) ∙ t))

-- the next place is the first of the greatest where all before are less
newest : (n : ℕ) (p : ℕ → Bool) (f : ℕ → ℤ) → p n ≡ true → ((k : ℕ) → k < n → p k ≡ true → f k <ℤ f n) → IsFirstGreatest (suc n) p f n
newest n p f e h = record {
  below = omega arith;
  allowed = e;
  greatest = λ k l t. by_place k t (last_or k n l);
  first = h;
}
  where
    by_place : (k : ℕ) → p k ≡ true → (k < n) ⊎ (k ≡ n) → f k ≤ℤ f n
    by_place k t (inl l) = let m = h k l t in omega (arith, ints)
    by_place k t (inr q) = subst (λ (m : ℕ). f m ≤ℤ f n) (sym q) (omega (arith, ints))

some_less : (n i j : ℕ) (p : ℕ → Bool) (f : ℕ → ℤ) (t : Bool) → p n ≡ true → int_lt (f j) (f n) ≡ t → IsFirstGreatest n p f j → (if t then Some n else Some j) ≡ Some i → IsFirstGreatest (suc n) p f i
some_less n i j p f true en et h e = subst (λ (m : ℕ). IsFirstGreatest (suc n) p f m) (some_is n i e) (newest n p f en (λ k l q. let a = h.greatest k l q in let b = less_is (f j) (f n) et in omega (arith, ints)))
some_less n i j p f false en et h e = subst (λ (m : ℕ). IsFirstGreatest (suc n) p f m) (some_is j i e) (kept n j p f h (λ q. least_is (f j) (f n) et))

some_by : (n i : ℕ) (p : ℕ → Bool) (f : ℕ → ℤ) (b : Bool) (o : Option ℕ) → p n ≡ b → ((j : ℕ) → o ≡ Some j → IsFirstGreatest n p f j) → (o ≡ None → (k : ℕ) → k < n → p k ≡ false) → later b f n o ≡ Some i → IsFirstGreatest (suc n) p f i
some_by n i p f false o eb ih none e = kept n i p f (ih i e) (λ t. cc)
some_by n i p f true None eb ih none e = subst (λ (m : ℕ). IsFirstGreatest (suc n) p f m) (some_is n i e) (newest n p f eb (λ k l t. let z = none refl k l in cc))
some_by n i p f true (Some j) eb ih none e = some_less n i j p f (int_lt (f j) (f n)) eb refl (ih j refl) e

-- where one is found it is the first of the greatest
pub found_some : (n : ℕ) (p : ℕ → Bool) (f : ℕ → ℤ) (i : ℕ) → first_greatest n p f ≡ Some i → IsFirstGreatest n p f i
unfolding first_greatest
found_some zero p f i e = cc
found_some (suc n) p f i e = some_by n i p f (p n) (first_greatest n p f) refl (λ j q. found_some n p f j q) (λ q. found_none n p f q) e

-- two places can't both be the first
same_first : (n : ℕ) (p : ℕ → Bool) (f : ℕ → ℤ) (i j : ℕ) → IsFirstGreatest n p f i → IsFirstGreatest n p f j → i ≡ j
same_first n p f i j h g = by_lt_z (pos i) (pos j)
    (λ l. let a = g.first i (out l) h.allowed in let b = h.greatest j g.below g.allowed in absurd (omega (arith, ints)))
    (λ m. by_lt_z (pos j) (pos i)
    (λ l. let a = h.first j (out l) g.allowed in let b = g.greatest i h.below h.allowed in absurd (omega (arith, ints)))
    (λ k. omega (arith, ints)))
  where
    out : {m n : ℕ} → pos m <ℤ pos n → m < n
    out h = omega (arith, ints)

pub some_found : (n : ℕ) (p : ℕ → Bool) (f : ℕ → ℤ) (i : ℕ) → IsFirstGreatest n p f i → first_greatest n p f ≡ Some i
some_found n p f i h = by_found (first_greatest n p f) refl
  where
    by_found : (o : Option ℕ) → first_greatest n p f ≡ o → o ≡ Some i
    by_found None e = let z = found_none n p f e i h.below in let y = h.allowed in cc
    by_found (Some j) e = ap Some (same_first n p f j i (found_some n p f j e) h)

pub none_found : (n : ℕ) (p : ℕ → Bool) (f : ℕ → ℤ) → ((k : ℕ) → k < n → p k ≡ false) → first_greatest n p f ≡ None
none_found n p f h = by_found (first_greatest n p f) refl
  where
    by_found : (o : Option ℕ) → first_greatest n p f ≡ o → o ≡ None
    by_found None e = refl
    by_found (Some j) e = let g = found_some n p f j e in let z = h j g.below in let y = g.allowed in cc

-- one more place
pub one_more : (n : ℕ) (p : ℕ → Bool) (f : ℕ → ℤ) → later (p n) f n (first_greatest n p f) ≡ first_greatest (n + 1) p f
unfolding first_greatest
one_more n p f = rw (add-one n) refl

-- a table of one place more, its sum, and its numbers
pub table_more : (n : ℕ) (f : ℕ → ℕ) → table (n + 1) f ≡ table n f ++ f n ∷ []
unfolding table
table_more n f = rw (add-one n) refl

pub table_none : (f : ℕ → ℕ) → table 0 f ≡ []
unfolding table
table_none f = refl

pub sum_table_more : (n : ℕ) (f : ℕ → ℕ) → sum (table (n + 1) f) ≡ sum (table n f) + f n
sum_table_more n f =
    let a = sum_by-append (λ (m : ℕ). m) (table n f) (f n ∷ []) in
    let b = sum_by-cons (λ (m : ℕ). m) (f n) [] in
    let z : sum [] ≡ 0 = refl in
    rw (table_more n f) (omega arith)

pub sum_table_none : (f : ℕ → ℕ) → sum (table 0 f) ≡ 0
sum_table_none f = rw (table_none f) refl

pub length_table : (n : ℕ) (f : ℕ → ℕ) → length (table n f) ≡ n
length_table zero f = rw (table_none f) refl
length_table (suc n) f = let e = length_table n f in let l = length-append (table n f) (f n ∷ []) in let t : length (table (suc n) f) ≡ length (table n f ++ f n ∷ []) = rw (← add-one n) (ap length (table_more n f)) in omega arith

-- the same place for numbers that are the same
same_greatest : (n : ℕ) (p : ℕ → Bool) (f g : ℕ → ℤ) (i : ℕ) → ((k : ℕ) → k < n → f k ≡ g k) → IsFirstGreatest n p f i → IsFirstGreatest n p g i
same_greatest n p f g i e h = record {
  below = h.below;
  allowed = h.allowed;
  greatest = λ k l t. let a = h.greatest k l t in let x = e k l in let y = e i h.below in omega (arith, ints);
  first = λ k l t. let a = h.first k l t in let b = h.below in let x = e k (omega arith) in let y = e i h.below in omega (arith, ints);
}

pub greatest_of_same : (n : ℕ) (p : ℕ → Bool) (f g : ℕ → ℤ) → ((k : ℕ) → k < n → f k ≡ g k) → first_greatest n p f ≡ first_greatest n p g
greatest_of_same n p f g e = by_found (first_greatest n p f) refl
  where
    by_found : (o : Option ℕ) → first_greatest n p f ≡ o → o ≡ first_greatest n p g
    by_found None q = sym (none_found n p g (found_none n p f q))
    by_found (Some i) q = sym (some_found n p g i (same_greatest n p f g i e (found_some n p f i q)))

-- the greatest of the opposites
pub later_opposite : (b : Bool) (f : ℕ → ℤ) (i : ℕ) (k : ℕ) → (if int_lt (f i) (f k) then Some i else Some k) ≡ (if int_lt (neg_ℤ (f k)) (neg_ℤ (f i)) then Some i else Some k)
later_opposite b f i k = ap (λ (t : Bool). if t then Some i else Some k) (opposite (f i) (f k))
  where
    opposite : (x y : ℤ) → int_lt x y ≡ int_lt (neg_ℤ y) (neg_ℤ x)
    opposite x y = by_lt_z x y (λ h. sym_both (yes x y h) (yes (neg_ℤ y) (neg_ℤ x) (omega (arith, ints)))) (λ h. sym_both (no x y h) (no (neg_ℤ y) (neg_ℤ x) (omega (arith, ints))))
      where
        yes : (x y : ℤ) → x <ℤ y → int_lt x y ≡ true
        yes x y h = grind (arith, ints)

        no : (x y : ℤ) → y ≤ℤ x → int_lt x y ≡ false
        no x y h = grind (arith, ints)

        sym_both : {a b c : Bool} → a ≡ c → b ≡ c → a ≡ b
        sym_both e f = e ∙ sym f

-- what is left of an amount after one place more
pub left_none : (amount r : ℕ) (room : ℕ → ℕ) → r ≡ amount → r ≡ amount - sum (table 0 room)
left_none amount r room e = let z = sum_table_none room in omega arith

pub left_more : (amount before r i v : ℕ) (room : ℕ → ℕ) → before ≡ amount - sum (table i room) → v ≡ room i → r ≡ before - v → r ≡ amount - sum (table (i + 1) room)
left_more amount before r i v room e f g = let t = sum_table_more i room in omega arith

-- numbers that stay within a bound
replicate_most : (n k b : ℕ) → slice_index_or (replicate n 0) k 0 ≤ b
replicate_most zero k b = omega arith
replicate_most (suc n) zero b = omega arith
replicate_most (suc n) (suc k) b = replicate_most n k b

pub zeros_most : (y : List ℕ) (n : ℕ) → y ≡ replicate n 0 → (k : ℕ) → slice_index_or y k 0 ≤ 80000
zeros_most y n e k = subst (λ (x : List ℕ). slice_index_or x k 0 ≤ 80000) (sym e) (replicate_most n k 80000)

pub set_most : (y z : List ℕ) (i w b : ℕ) → i < length y → w ≤ b → ((k : ℕ) → slice_index_or y k 0 ≤ b) → z ≡ set y i w → (k : ℕ) → slice_index_or z k 0 ≤ b
set_most y z i w b l m h e k = subst (λ (x : List ℕ). slice_index_or x k 0 ≤ b) (sym e) (by_place (cases_eq k i))
  where
    by_place : (k ≡ i) ⊎ (k ≡ i → ⊥) → slice_index_or (set y i w) k 0 ≤ b
    by_place (inl q) = subst (λ (j : ℕ). slice_index_or (set y i w) j 0 ≤ b) (sym q) (rw (get_or-set_same y i w 0 l) m)
    by_place (inr n) = rw (get_or-set_other y i k w 0 n) (h k)

-- what holds of each number of a list, where one more is written
pub at_more : (xs : List ℤ) (i : ℕ) (v : ℤ) (P : ℕ → ℤ → Type 0) → i < length xs → ((k : ℕ) → k < i → P k (at xs k)) → P i v → (k : ℕ) → k < i + 1 → P k (at (set xs i v) k)
at_more xs i v P l h p k m = by_place (cases_eq k i)
  where
    by_place : (k ≡ i) ⊎ (k ≡ i → ⊥) → P k (at (set xs i v) k)
    by_place (inl q) = subst (λ (j : ℕ). P j (at (set xs i v) j)) (sym q) (rw (get_or-set_same xs i v (pos 0) l) p)
    by_place (inr n) = rw (get_or-set_other xs i k v (pos 0) n) (h k (omega arith))

pub number_more : (xs : List ℕ) (i v : ℕ) (P : ℕ → ℕ → Type 0) → i < length xs → ((k : ℕ) → k < i → P k (slice_index_or xs k 0)) → P i v → (k : ℕ) → k < i + 1 → P k (slice_index_or (set xs i v) k 0)
number_more xs i v P l h p k m = by_place (cases_eq k i)
  where
    by_place : (k ≡ i) ⊎ (k ≡ i → ⊥) → P k (slice_index_or (set xs i v) k 0)
    by_place (inl q) = subst (λ (j : ℕ). P j (slice_index_or (set xs i v) j 0)) (sym q) (rw (get_or-set_same xs i v 0 l) p)
    by_place (inr n) = rw (get_or-set_other xs i k v 0 n) (h k (omega arith))

-- what a test of two numbers says
pub below_is : (a b : ℕ) → ltb a b ≡ true → a < b
below_is a b e = grind (arith, nat_tests)
