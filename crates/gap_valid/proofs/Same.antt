-- Lists and tables that are equal since their entries are.

use Rattle.std.proofs.Common.{◌≡◌, ℕ, zero, suc, ◌+◌, ◌*◌, ◌/◌, ◌%◌, ◌<◌, ◌==◌, if◌then◌else◌, List, map, length, get_or, ⊎_elim, ℤ, pos, refl, sym, ap, ◌∙◌, subst, arith}
use Rattle.std.specs.List.{range_with_len}
use Rattle.std.proofs.lemmas.Bool.{cases_eq}
use Rattle.std.proofs.lemmas.List.{length-map, get_or-map}
use Rattle.std.proofs.lemmas.List.Elements.{All-from_get_or}
use Rattle.std.proofs.lemmas.List.FromFn.{get_or-map-range_with_len, length-map-range_with_len, fill_by_all}
use Rattle.std.proofs.lemmas.Nat.{div_below, div-add-mod'}
use Rattle.gap_base.specs.Sums.{at}
use Rattle.gap_base.proofs.Ring.{if_same, if_other}
use Rattle.gap_valid.specs.Heads.{table}
use Rattle.gap_valid.proofs.HeadLaws.{all_places, table_at}

-- two lists of n entries
pub list_same : {X : Type 0} (n : ℕ) (d : X) (xs ys : List X) → length xs ≡ n → length ys ≡ n → ((k : ℕ) → k < n → get_or xs k d ≡ get_or ys k d) → xs ≡ ys
list_same n d xs ys p q h =
    fill_by_all (λ k. get_or ys k d) xs n d p h ∙ sym (fill_by_all (λ k. get_or ys k d) ys n d q (λ k l. refl))

some_row : (n k : ℕ) → k < n * n → 0 < n
some_row zero k l = absurd (omega arith)
some_row (suc n) k l = omega arith

pub row_below : (n k : ℕ) → k < n * n → k / n < n
row_below n k l = div_below k n n (some_row n k l) l

pub column_below : (n k : ℕ) → k < n * n → k % n < n
column_below n k l = let some = some_row n k l in omega arith

pub length-table : (n : ℕ) (f : ℕ → ℕ → ℤ) → length (table n f) ≡ n * n
length-table n f = length-map-range_with_len (λ k. f (k / n) (k % n)) 0 (n * n)

-- a list of n rows with n entries each is a table
pub table_is : (n : ℕ) (f : ℕ → ℕ → ℤ) (xs : List ℤ) → length xs ≡ n * n → ((i j : ℕ) → i < n → j < n → at xs (i * n + j) ≡ f i j) → xs ≡ table n f
table_is n f xs size h = fill_by_all (λ k. f (k / n) (k % n)) xs (n * n) (pos 0) size each
  where
    each : (k : ℕ) → k < n * n → get_or xs k (pos 0) ≡ f (k / n) (k % n)
    each k l = ap (λ (p : ℕ). get_or xs p (pos 0)) (sym (div-add-mod' k n)) ∙ h (k / n) (k % n) (row_below n k l) (column_below n k l)

pub table_same : (n : ℕ) (f g : ℕ → ℕ → ℤ) → ((i j : ℕ) → i < n → j < n → f i j ≡ g i j) → table n f ≡ table n g
table_same n f g h = table_is n g (table n f) (length-table n f) (λ i j p q. table_at n f i j p q ∙ h i j p q)

-- a choice by a test of places
pub chosen_by : (P : ℤ → Type 0) (i j : ℕ) (x y : ℤ) → P x → P y → P (if i == j then x else y)
chosen_by P i j x y p q =
    ⊎_elim (λ e. subst P (sym (if_same i j x y e)) p) (λ ne. subst P (sym (if_other i j x y ne)) q) (cases_eq i j)

-- what holds of each entry, and of 0, holds at each place of a table
pub table_places : (P : ℤ → Type 0) (n : ℕ) (f : ℕ → ℕ → ℤ) → ((i j : ℕ) → P (f i j)) → P (pos 0) → (k : ℕ) → P (at (table n f) k)
table_places P n f h z k = all_places P (table n f) (pos 0) (All-from_get_or P (table n f) (pos 0) entry) z k
  where
    entry : (i : ℕ) → i < length (table n f) → P (get_or (table n f) i (pos 0))
    entry i l = subst P (sym (get_or-map-range_with_len (λ k. f (k / n) (k % n)) 0 (n * n) i i (pos 0) (rw (length-table n f) at l) (omega arith))) (h (i / n) (i % n))

-- what is read of lines that say the entries of a list is the list
pub read_back : {L X : Type 0} (n : ℕ) (line : ℕ → L) (f : L → X) (d : X) (xs : List X) → length xs ≡ n → ((k : ℕ) → f (line k) ≡ get_or xs k d) → map f (map line (range_with_len 0 n)) ≡ xs
read_back n line f d xs size h =
    list_same n d (map f (map line (range_with_len 0 n))) xs (length-map (map line (range_with_len 0 n)) f ∙ length-map-range_with_len line 0 n) size each
  where
    each : (k : ℕ) → k < n → get_or (map f (map line (range_with_len 0 n))) k d ≡ get_or xs k d
    each k l =
        let inside : k < length (map line (range_with_len 0 n)) = rw (length-map-range_with_len line 0 n) l in
        get_or-map f (map line (range_with_len 0 n)) k (line 0) d inside
        ∙ ap f (get_or-map-range_with_len line 0 n k k (line 0) l (omega arith)) ∙ h k
