-- The entries of a point.
use Rattle.std.proofs.Common.{◌≡◌, ℕ, zero, suc, ◌+◌, ◌*◌, ◌<◌, ◌≤◌, Bool, true, cond, ltb, eqb, List, [], ◌∷◌, ◌++◌, length, sum, sum_by, slice_index_or, ℤ, pos, refl, sym, ap, ◌∙◌, arith}
use Rattle.std.proofs.lemmas.Bool.Decides.{nat_tests}
use Rattle.std.proofs.lemmas.Bool.{and_from, le-leb, lt-ltb, eq-eqb, ne_eqb}
use Rattle.std.proofs.lemmas.List.Sums.{sum_by-cons}
use Rattle.gap_base.specs.Lots.{lots_at, eighths_of}
use Rattle.gap_model.specs.declared.leaf.Entry.{Entry}
use Rattle.gap_model.specs.Leaves.{eighths_at, entries_from, ascend}
use Rattle.gap_leaf.specs.Entries.{point_entries}

-- the entries of 8 times a list of lots
pub entries_of_lots : (i : ℕ) (x : List ℕ) → point_entries i (eighths_of x) ≡ entries_from i x
entries_of_lots i [] = refl
entries_of_lots i (v ∷ x) = rest (ltb 0 (8 * v)) (ltb 0 v) (same_test v) (entries_of_lots (suc i) x)
  where
    same_test : (v : ℕ) → ltb 0 (8 * v) ≡ ltb 0 v
    same_test v = grind (arith, nat_tests)

    rest : (a b : Bool) → a ≡ b → point_entries (suc i) (eighths_of x) ≡ entries_from (suc i) x → cond a (record { asset = i; eighths = 8 * v } ∷ point_entries (suc i) (eighths_of x)) (point_entries (suc i) (eighths_of x)) ≡ cond b (record { asset = i; eighths = 8 * v } ∷ entries_from (suc i) x) (entries_from (suc i) x)
    rest a b t e = rw (t, e) refl

-- one entry more at the front, or none
first_entry : (i v : ℕ) (y : List ℕ) → point_entries i (suc v ∷ y) ≡ record { asset = i; eighths = suc v } ∷ point_entries (suc i) y
first_entry i v y = rw (lt-ltb 0 (suc v) (omega arith)) refl

-- entries behind a place
entries_before : (i : ℕ) (y : List ℕ) (k : ℕ) → k < i → eighths_at (point_entries i y) k ≡ pos 0
entries_before i [] k h = refl
entries_before i (zero ∷ y) k h = entries_before (suc i) y k (omega arith)
entries_before i (suc v ∷ y) k h =
    ap (λ (e : List Entry). eighths_at e k) (first_entry i v y)
    ∙ (other i k (pos (suc v)) (eighths_at (point_entries (suc i) y) k) (omega arith) ∙ entries_before (suc i) y k (omega arith))
  where
    other : (i k : ℕ) (a b : ℤ) → k < i → cond (eqb i k) a b ≡ b
    other i k a b h = rw (ne_eqb i k (λ e. omega arith)) refl

turned : (k i : ℕ) → suc k + i ≡ k + suc i
turned k i = omega arith

entries_at : (i : ℕ) (y : List ℕ) (k : ℕ) → eighths_at (point_entries i y) (k + i) ≡ pos (slice_index_or y k 0)
entries_at i [] k = refl
entries_at i (zero ∷ y) zero = entries_before (suc i) y (0 + i) (omega arith)
entries_at i (suc v ∷ y) zero =
    ap (λ (e : List Entry). eighths_at e (0 + i)) (first_entry i v y)
    ∙ same i (0 + i) (pos (suc v)) (eighths_at (point_entries (suc i) y) (0 + i)) (omega arith)
  where
    same : (i k : ℕ) (a b : ℤ) → i ≡ k → cond (eqb i k) a b ≡ a
    same i k a b h = rw (eq-eqb i k h) refl
entries_at i (zero ∷ y) (suc k) = ap (eighths_at (point_entries (suc i) y)) (turned k i) ∙ entries_at (suc i) y k
entries_at i (suc v ∷ y) (suc k) =
    ap (λ (e : List Entry). eighths_at e (suc k + i)) (first_entry i v y)
    ∙ (other i (suc k + i) (pos (suc v)) (eighths_at (point_entries (suc i) y) (suc k + i)) (omega arith)
    ∙ (ap (eighths_at (point_entries (suc i) y)) (turned k i) ∙ entries_at (suc i) y k))
  where
    other : (i k : ℕ) (a b : ℤ) → i < k → cond (eqb i k) a b ≡ b
    other i k a b h = rw (ne_eqb i k (λ e. omega arith)) refl

-- they give each asset its eighths
pub entries_give : (y : List ℕ) (k : ℕ) → eighths_at (point_entries 0 y) k ≡ lots_at y k
entries_give y k = ap (eighths_at (point_entries 0 y)) (alone k) ∙ entries_at 0 y k
  where
    alone : (k : ℕ) → k ≡ k + 0
    alone k = omega arith

later : (i j n : ℕ) (e : List Entry) → i ≤ j → ascend j n e ≡ true → ascend i n e ≡ true
later i j n [] h a = refl
later i j n (d ∷ e) h a = grind (arith, nat_tests)

-- they ascend, and their sum is that of the eighths
pub entries_ascend : (i n : ℕ) (y : List ℕ) → i + length y ≤ n → ascend i n (point_entries i y) ≡ true
entries_ascend i n [] h = refl
entries_ascend i n (zero ∷ y) h = later i (suc i) n (point_entries (suc i) y) (omega arith) (entries_ascend (suc i) n y (omega arith))
entries_ascend i n (suc v ∷ y) h =
    ap (ascend i n) (first_entry i v y)
    ∙ and_from _ _ (le-leb i i (omega arith)) (and_from _ _ (lt-ltb i n (omega arith)) (and_from _ _ (lt-ltb 0 (suc v) (omega arith)) (entries_ascend (suc i) n y (omega arith))))

pub entries_sum : (i : ℕ) (y : List ℕ) → sum_by (λ (e : Entry). e.eighths) (point_entries i y) ≡ sum y
entries_sum i [] = refl
entries_sum i (zero ∷ y) = let a = entries_sum (suc i) y in let b = sum_by-cons (λ (n : ℕ). n) 0 y in omega arith
entries_sum i (suc v ∷ y) =
    let a = entries_sum (suc i) y in
    let b = sum_by-cons (λ (n : ℕ). n) (suc v) y in
    let d = sum_by-cons (λ (e : Entry). e.eighths) (record { asset = i; eighths = suc v }) (point_entries (suc i) y) in
    let f = ap (sum_by (λ (e : Entry). e.eighths)) (first_entry i v y) in
    omega arith

-- the entries of one place more
pub entries_more : (i : ℕ) (y z : List ℕ) → point_entries i (y ++ z) ≡ point_entries i y ++ point_entries (i + length y) z
entries_more i [] z = ap (λ (k : ℕ). point_entries k z) (alone i)
  where
    alone : (i : ℕ) → i ≡ i + 0
    alone i = omega arith
entries_more i (zero ∷ y) z = entries_more (suc i) y z ∙ ap (λ (k : ℕ). point_entries (suc i) y ++ point_entries k z) (turned i (length y))
entries_more i (suc v ∷ y) z =
    first_entry i v (y ++ z)
    ∙ (ap (λ (r : List Entry). record { asset = i; eighths = suc v } ∷ r) (entries_more (suc i) y z ∙ ap (λ (k : ℕ). point_entries (suc i) y ++ point_entries k z) (turned i (length y)))
    ∙ ap (λ (e : List Entry). e ++ point_entries (i + suc (length y)) z) (sym (first_entry i v y)))
