-- One token more: what was said of the tokens before stays.
use Rattle.std.proofs.Common.{◌≡◌, ℕ, ◌+◌, ◌-◌, ◌*◌, ◌%◌, ◌<◌, ◌⊎◌, inl, inr, ⊎_elim, Bool, true, false, ◌&&◌, cond, min, max, List, [], ◌∷◌, ◌++◌, length, length-append, Some, ℤ, refl, sym, ap, ◌∙◌, subst, arith}
use Rattle.std.proofs.lemmas.Bool.{cases_eq}
use Rattle.std.proofs.lemmas.Bool.Decides.{nat_tests}
use Rattle.std.proofs.lemmas.List.{get_or_append_left}
use Rattle.std.proofs.Math.Seq.{get_or-append_seam}
use Rattle.gap_base.specs.Sums.{count_if}
use Rattle.gap_base.proofs.Counts.{count_more, count_same}
use Rattle.gap_base.specs.Numerals.{numeral_of}
use Rattle.gap_orlib.specs.Tokens.{Token}
use Rattle.gap_orlib.specs.Sheets.{whole}
use Rattle.gap_orlib.specs.Fields.{text_at, HasValue, IsValue, IsAsset, IsTriple, NamesPair, triple_at, is_value_place, is_inexact, is_rounded}

pub length_more : (ts : List Token) (x : Token) → length (ts ++ x ∷ []) ≡ length ts + 1
length_more ts x = length-append ts (x ∷ [])

pub text_old : (ts : List Token) (x : Token) (k : ℕ) → k < length ts → text_at (ts ++ x ∷ []) k ≡ text_at ts k
text_old ts x k h = ap (λ (t : Token). t.text) (get_or_append_left ts (x ∷ []) (record { place = 0; text = [] }) k h)

pub text_new : (ts : List Token) (x : Token) (k : ℕ) → k ≡ length ts → text_at (ts ++ x ∷ []) k ≡ x.text
text_new ts x k e = rw e (ap (λ (t : Token). t.text) (get_or-append_seam ts x [] (record { place = 0; text = [] })))

pub IsValue_old : (ts : List Token) (x : Token) (k : ℕ) (v : ℤ) → k < length ts → IsValue ts k v → IsValue (ts ++ x ∷ []) k v
IsValue_old ts x k v h p = subst (λ (text : List ℕ). HasValue (numeral_of text) v) (sym (text_old ts x k h)) p

pub IsValue_new : (ts : List Token) (x : Token) (k : ℕ) (v : ℤ) → k ≡ length ts → HasValue (numeral_of x.text) v → IsValue (ts ++ x ∷ []) k v
IsValue_new ts x k v e p = subst (λ (text : List ℕ). HasValue (numeral_of text) v) (sym (text_new ts x k e)) p

pub IsAsset_old : (ts : List Token) (x : Token) (k n i : ℕ) → k < length ts → IsAsset ts k n i → IsAsset (ts ++ x ∷ []) k n i
IsAsset_old ts x k n i h p = record { number = ap whole (text_old ts x k h) ∙ p.number; there = p.there }

pub IsAsset_new : (ts : List Token) (x : Token) (k n i : ℕ) → k ≡ length ts → whole x.text ≡ Some (i + 1) → i < n → IsAsset (ts ++ x ∷ []) k n i
IsAsset_new ts x k n i e w h = record { number = ap whole (text_new ts x k e) ∙ w; there = h }

pub IsTriple_old : (ts : List Token) (x : Token) (n t i j : ℕ) (v : ℤ) → IsTriple ts n t i j v → IsTriple (ts ++ x ∷ []) n t i j v
IsTriple_old ts x n t i j v p =
    let e : triple_at n t + 2 < length ts = p.ends in
    record {
      ends = omega (arith, length_more ts x);
      first = IsAsset_old ts x (triple_at n t) n i (omega arith) p.first;
      second = IsAsset_old ts x (triple_at n t + 1) n j (omega arith) p.second;
      value = IsValue_old ts x (triple_at n t + 2) v e p.value;
    }

pub NamesPair_old : (ts : List Token) (x : Token) (n t i j : ℕ) (v : ℤ) → NamesPair ts n t i j v → NamesPair (ts ++ x ∷ []) n t i j v
NamesPair_old ts x n t i j v (inl p) = inl (IsTriple_old ts x n t i j v p)
NamesPair_old ts x n t i j v (inr p) = inr (IsTriple_old ts x n t j i v p)

-- the tokens at the places p k are the values f k, as far as they are there
unfoldable pub Values : List Token → ℕ → (ℕ → ℕ) → (ℕ → ℤ) → Type 0
Values ts n p f = (k : ℕ) → k < n → p k < length ts → IsValue ts (p k) (f k)

pub values_at : (ts : List Token) (n : ℕ) (p : ℕ → ℕ) (f : ℕ → ℤ) (k : ℕ) → Values ts n p f → k < n → p k < length ts → IsValue ts (p k) (f k)
unfolding Values
values_at ts n p f k h a b = h k a b

pub values_on : (ts : List Token) (x : Token) (n : ℕ) (p : ℕ → ℕ) (f g : ℕ → ℤ) → Values ts n p f
    → ((k : ℕ) → k < n → p k < length ts → g k ≡ f k)
    → ((k : ℕ) → k < n → p k ≡ length ts → HasValue (numeral_of x.text) (g k))
    → Values (ts ++ x ∷ []) n p g
unfolding Values
values_on ts x n p f g old keep new = λ k h l. ⊎_elim
    (λ e. IsValue_new ts x (p k) (g k) e (new k h e))
    (λ ne. let below : p k < length ts = omega (arith, length_more ts x, ne) in
    IsValue_old ts x (p k) (g k) below (subst (λ (v : ℤ). IsValue ts (p k) v) (sym (keep k h below)) (old k h below)))
    (cases_eq (p k) (length ts))

-- the place of a pair among all pairs
abbrev pub spot : ℕ → ℕ → ℕ → ℕ
spot n i j = min i j * n + max i j

-- triple t gives its two assets their correlation, and the pair is marked
pub record Said (ts : List Token) (n t : ℕ) (rho : ℕ → ℕ → ℤ) (seen : ℕ → Bool) : Type 0 where
  pub i : ℕ
  pub j : ℕ
  pub triple : IsTriple ts n t i j (rho i j)
  pub stood : (i ≡ j → ⊥) → seen (spot n i j) ≡ true

unfoldable pub Triples : List Token → ℕ → (ℕ → ℕ → ℤ) → (ℕ → Bool) → Type 0
Triples ts n rho seen = (t : ℕ) → triple_at n t + 2 < length ts → Said ts n t rho seen

pub triples_said : (ts : List Token) (n t : ℕ) (rho : ℕ → ℕ → ℤ) (seen : ℕ → Bool) → Triples ts n rho seen → triple_at n t + 2 < length ts → Said ts n t rho seen
unfolding Triples
triples_said ts n t rho seen h e = h t e

-- the correlations of marked pairs stay
abbrev pub Stay : ℕ → (ℕ → ℕ → ℤ) → (ℕ → ℕ → ℤ) → (ℕ → Bool) → Type 0
Stay n rho rho' seen = (i j : ℕ) → i < n → j < n → ((i ≡ j → ⊥) → seen (spot n i j) ≡ true) → rho' i j ≡ rho i j

said_on : (ts : List Token) (x : Token) (n t : ℕ) (rho rho' : ℕ → ℕ → ℤ) (seen seen' : ℕ → Bool) → Stay n rho rho' seen
    → ((p : ℕ) → seen p ≡ true → seen' p ≡ true) → Said ts n t rho seen → Said (ts ++ x ∷ []) n t rho' seen'
said_on ts x n t rho rho' seen seen' stay more s = record {
  i = s.i;
  j = s.j;
  triple = IsTriple_old ts x n t s.i s.j (rho' s.i s.j) (subst (λ (v : ℤ). IsTriple ts n t s.i s.j v) (sym (stay s.i s.j s.triple.first.there s.triple.second.there s.stood)) s.triple);
  stood = λ ne. more (spot n s.i s.j) (s.stood ne);
}

pub triples_on : (ts : List Token) (x : Token) (n : ℕ) (rho rho' : ℕ → ℕ → ℤ) (seen seen' : ℕ → Bool) → Triples ts n rho seen → Stay n rho rho' seen
    → ((p : ℕ) → seen p ≡ true → seen' p ≡ true)
    → ((t : ℕ) → triple_at n t + 2 ≡ length ts → Said (ts ++ x ∷ []) n t rho' seen')
    → Triples (ts ++ x ∷ []) n rho' seen'
unfolding Triples
triples_on ts x n rho rho' seen seen' old stay more new = λ t l. ⊎_elim
    (λ e. new t e)
    (λ ne. said_on ts x n t rho rho' seen seen' stay more (old t (omega (arith, length_more ts x, ne))))
    (cases_eq (triple_at n t + 2) (length ts))

unfoldable pub Pairs : List Token → ℕ → (ℕ → ℕ → ℤ) → (ℕ → Bool) → Type 0
Pairs ts n rho seen = (i j : ℕ) → i < j → j < n → seen (spot n i j) ≡ true → (t : ℕ) × NamesPair ts n t i j (rho i j)

pub pairs_named : (ts : List Token) (n : ℕ) (rho : ℕ → ℕ → ℤ) (seen : ℕ → Bool) (i j : ℕ) → Pairs ts n rho seen → i < j → j < n → seen (spot n i j) ≡ true → (t : ℕ) × NamesPair ts n t i j (rho i j)
unfolding Pairs
pairs_named ts n rho seen i j h a b c = h i j a b c

pub pairs_on : (ts : List Token) (x : Token) (n : ℕ) (rho rho' : ℕ → ℕ → ℤ) (seen seen' : ℕ → Bool) → Pairs ts n rho seen → Stay n rho rho' seen
    → ((i j : ℕ) → i < j → j < n → seen' (spot n i j) ≡ true → (seen (spot n i j) ≡ true) ⊎ ((t : ℕ) × NamesPair (ts ++ x ∷ []) n t i j (rho' i j)))
    → Pairs (ts ++ x ∷ []) n rho' seen'
unfolding Pairs
pairs_on ts x n rho rho' seen seen' old stay new = λ i j a b m. ⊎_elim
    (λ o. let named : (t : ℕ) × NamesPair ts n t i j (rho i j) = old i j a b o in (
      named.0,
      NamesPair_old ts x n named.0 i j (rho' i j)
          (subst (λ (v : ℤ). NamesPair ts n named.0 i j v) (sym (stay i j (omega arith) b (λ ne. o))) named.1),
    ))
    (λ n'. n')
    (new i j a b m)

-- the count of rounded numerals with one token more
pub count_on : (ts : List Token) (x : Token) (n : ℕ)
    → count_if (length (ts ++ x ∷ [])) (is_rounded (ts ++ x ∷ []) n) ≡ count_if (length ts) (is_rounded ts n) + cond (is_value_place n (length ts) && is_inexact (numeral_of x.text)) 1 0
count_on ts x n =
    ap (λ (k : ℕ). count_if k (is_rounded (ts ++ x ∷ []) n)) (length_more ts x)
    ∙ count_more (length ts) (is_rounded (ts ++ x ∷ []) n)
    ∙ ap (λ (k : ℕ). k + cond (is_rounded (ts ++ x ∷ []) n (length ts)) 1 0)
    (count_same (length ts) (is_rounded (ts ++ x ∷ []) n) (is_rounded ts n) (λ k h. ap (λ (text : List ℕ). is_value_place n k && is_inexact (numeral_of text)) (text_old ts x k h)))
    ∙ ap (λ (text : List ℕ). count_if (length ts) (is_rounded ts n) + cond (is_value_place n (length ts) && is_inexact (numeral_of text)) 1 0) (text_new ts x (length ts) refl)

-- the places of values
pub mean_place : (n k l : ℕ) → k < n → l ≡ 2 * k + 1 → is_value_place n l ≡ true
mean_place n k l h e = grind (arith, nat_tests)

pub deviation_place : (n k l : ℕ) → k < n → l ≡ 2 * k + 2 → is_value_place n l ≡ true
deviation_place n k l h e = grind (arith, nat_tests)

rest_of : (n t r l : ℕ) → r < 3 → l ≡ triple_at n t + r → (l - (2 * n + 1)) % 3 ≡ r
rest_of n t r l h e = omega arith

pub correlation_place : (n t l : ℕ) → l ≡ triple_at n t + 2 → is_value_place n l ≡ true
correlation_place n t l e = let r : (l - (2 * n + 1)) % 3 ≡ 2 = rest_of n t 2 l (omega arith) e in grind (arith, nat_tests)

pub first_place : (n t l : ℕ) → l ≡ triple_at n t → is_value_place n l ≡ false
first_place n t l e = let r : (l - (2 * n + 1)) % 3 ≡ 0 = rest_of n t 0 l (omega arith) (omega arith) in grind (arith, nat_tests)

pub second_place : (n t l : ℕ) → l ≡ triple_at n t + 1 → is_value_place n l ≡ false
second_place n t l e = let r : (l - (2 * n + 1)) % 3 ≡ 1 = rest_of n t 1 l (omega arith) e in grind (arith, nat_tests)
