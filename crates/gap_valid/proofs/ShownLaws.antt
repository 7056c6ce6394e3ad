-- The order of what leaves show, and the least of a list of it.

use Rattle.std.proofs.Common.{◌≡◌, ◌≢◌, ◌⊎◌, ◌↔◌, inl, inr, List, [], ◌∷◌, ◌++◌, All, Contains, ℤ, ◌≤ℤ◌, refl, sym, ap, subst, arith}
use Rattle.std.specs.Int.{int_min}
use Rattle.std.proofs.lemmas.Int.{ints, clamps, by_lt_z}
use Rattle.std.proofs.lemmas.List.Elements.{All-nil, All-cons, All-contains, All-weaker, Contains-push, Contains-append_left, Contains-append_right}
use Rattle.gap_model.specs.declared.shown.Shown.{Shown}
use Rattle.gap_model.specs.declared.shown.Shown.TheVariants.{Nothing, AtLeast, Empty}
use Rattle.gap_model.specs.Order.{ShownLe}
use Rattle.gap_model.proofs.OrderLaws.{shown_le_trans}
use Rattle.gap_valid.specs.CertTrees.{lesser_shown, greater_shown, least_shown, IsLeastShown}

pub le_same : (a : Shown) → ShownLe a a
le_same Nothing = tt
le_same (AtLeast a) = omega (arith, ints)
le_same Empty = tt

pub le_empty : (a : Shown) → ShownLe a Empty
le_empty Nothing = tt
le_empty (AtLeast a) = tt
le_empty Empty = tt

-- of two that are each no less than the other, both are one
pub le_both : (a b : Shown) → ShownLe a b → ShownLe b a → a ≡ b
le_both Nothing Nothing p q = refl
le_both Nothing (AtLeast y) p q = absurd q
le_both Nothing Empty p q = absurd q
le_both (AtLeast x) Nothing p q = absurd p
le_both (AtLeast x) (AtLeast y) p q = ap AtLeast (same_number x y p q)
  where
    same_number : (x y : ℤ) → x ≤ℤ y → y ≤ℤ x → x ≡ y
    same_number x y p q = omega (arith, ints)
le_both (AtLeast x) Empty p q = absurd q
le_both Empty Nothing p q = absurd p
le_both Empty (AtLeast y) p q = absurd p
le_both Empty Empty p q = refl

pub lesser_left : (a b : Shown) → ShownLe (lesser_shown a b) a
lesser_left Nothing b = tt
lesser_left (AtLeast x) Nothing = tt
lesser_left (AtLeast x) (AtLeast y) = omega (arith, ints, clamps)
lesser_left (AtLeast x) Empty = omega (arith, ints)
lesser_left Empty b = le_empty b

pub lesser_right : (a b : Shown) → ShownLe (lesser_shown a b) b
lesser_right Nothing b = tt
lesser_right (AtLeast x) Nothing = tt
lesser_right (AtLeast x) (AtLeast y) = omega (arith, ints, clamps)
lesser_right (AtLeast x) Empty = tt
lesser_right Empty b = le_same b

-- what is no more than both is no more than the lesser
pub lesser_most : (a b c : Shown) → ShownLe c a → ShownLe c b → ShownLe c (lesser_shown a b)
lesser_most Nothing b c p q = p
lesser_most (AtLeast x) Nothing c p q = q
lesser_most (AtLeast x) (AtLeast y) Nothing p q = tt
lesser_most (AtLeast x) (AtLeast y) (AtLeast z) p q = omega (arith, ints, clamps)
lesser_most (AtLeast x) (AtLeast y) Empty p q = absurd p
lesser_most (AtLeast x) Empty c p q = p
lesser_most Empty b c p q = q

-- the lesser is one of both
min_is : (x y : ℤ) → (int_min x y ≡ x) ⊎ (int_min x y ≡ y)
min_is x y = by_lt_z x y (λ p. inl (omega (arith, ints, clamps))) (λ p. inr (omega (arith, ints, clamps)))

pub lesser_is : (a b : Shown) → (lesser_shown a b ≡ a) ⊎ (lesser_shown a b ≡ b)
lesser_is Nothing b = inl refl
lesser_is (AtLeast x) Nothing = inr refl
lesser_is (AtLeast x) (AtLeast y) = each (min_is x y)
  where
    each : (int_min x y ≡ x) ⊎ (int_min x y ≡ y) → (AtLeast (int_min x y) ≡ AtLeast x) ⊎ (AtLeast (int_min x y) ≡ AtLeast y)
    each (inl e) = inl (ap AtLeast e)
    each (inr e) = inr (ap AtLeast e)
lesser_is (AtLeast x) Empty = inl refl
lesser_is Empty b = inr refl

-- the greater is no more than what neither is more than
pub greater_most : (a b c : Shown) → ShownLe a c → ShownLe b c → ShownLe (greater_shown a b) c
greater_most Nothing b c p q = q
greater_most (AtLeast x) Nothing c p q = p
greater_most (AtLeast x) (AtLeast y) Nothing p q = p
greater_most (AtLeast x) (AtLeast y) (AtLeast z) p q = omega (arith, ints, clamps)
greater_most (AtLeast x) (AtLeast y) Empty p q = tt
greater_most (AtLeast x) Empty c p q = q
greater_most Empty b c p q = p

-- the least of two lists is no more than that of either
pub least_left : (xs ys : List Shown) → ShownLe (least_shown (xs ++ ys)) (least_shown xs)
least_left [] ys = le_empty (least_shown ys)
least_left (a ∷ xs) ys =
    lesser_most a (least_shown xs) (lesser_shown a (least_shown (xs ++ ys))) (lesser_left a (least_shown (xs ++ ys)))
    (shown_le_trans (lesser_shown a (least_shown (xs ++ ys))) (least_shown (xs ++ ys)) (least_shown xs) (lesser_right a (least_shown (xs ++ ys))) (least_left xs ys))

pub least_right : (xs ys : List Shown) → ShownLe (least_shown (xs ++ ys)) (least_shown ys)
least_right [] ys = le_same (least_shown ys)
least_right (a ∷ xs) ys = shown_le_trans (lesser_shown a (least_shown (xs ++ ys))) (least_shown (xs ++ ys)) (least_shown ys) (lesser_right a (least_shown (xs ++ ys))) (least_right xs ys)

-- none of a list is below the least
least_below : (shown : List Shown) → All (ShownLe (least_shown shown)) shown
least_below [] = All-nil (ShownLe Empty)
least_below (a ∷ shown) =
    All-cons (ShownLe (lesser_shown a (least_shown shown))) a shown (lesser_left a (least_shown shown))
    (All-weaker (ShownLe (least_shown shown)) (ShownLe (lesser_shown a (least_shown shown))) (λ b p. shown_le_trans (lesser_shown a (least_shown shown)) (least_shown shown) b (lesser_right a (least_shown shown)) p) shown (least_below shown))

-- the least is in the list
pub contains_first : {X : Type 0} (a : X) (xs : List X) → Contains (a ∷ xs) a
contains_first a xs = Contains-append_left (a ∷ []) xs a (Contains-push [] a)

pub contains_later : {X : Type 0} (a : X) (xs : List X) (x : X) → Contains xs x → Contains (a ∷ xs) x
contains_later a xs x c = Contains-append_right (a ∷ []) xs x c

pub lesser_empty : (a : Shown) → lesser_shown a Empty ≡ a
lesser_empty Nothing = refl
lesser_empty (AtLeast x) = refl
lesser_empty Empty = refl

least_reached : (a : Shown) (shown : List Shown) → Contains (a ∷ shown) (least_shown (a ∷ shown))
least_reached a [] = rw (lesser_empty a) (contains_first a [])
least_reached a (b ∷ shown) = each (lesser_is a (least_shown (b ∷ shown))) (least_reached b shown)
  where
    each : (lesser_shown a (least_shown (b ∷ shown)) ≡ a) ⊎ (lesser_shown a (least_shown (b ∷ shown)) ≡ least_shown (b ∷ shown)) → Contains (b ∷ shown) (least_shown (b ∷ shown)) → Contains (a ∷ (b ∷ shown)) (lesser_shown a (least_shown (b ∷ shown)))
    each (inl e) c = subst (λ (x : Shown). Contains (a ∷ (b ∷ shown)) x) (sym e) (contains_first a (b ∷ shown))
    each (inr e) c = subst (λ (x : Shown). Contains (a ∷ (b ∷ shown)) x) (sym e) (contains_later a (b ∷ shown) (least_shown (b ∷ shown)) c)

least_is : (shown : List Shown) → shown ≢ [] → IsLeastShown shown (least_shown shown)
least_is [] n = absurd (n refl)
least_is (a ∷ shown) n = record { reached = least_reached a shown; below = least_below (a ∷ shown) }

pub least_iff : (shown : List Shown) (least : Shown) → shown ≢ [] → (least_shown shown ≡ least) ↔ IsLeastShown shown least
least_iff shown least n = (λ e. subst (IsLeastShown shown) e (least_is shown n), λ l. le_both (least_shown shown) least (All-contains (ShownLe (least_shown shown)) shown least (least_below shown) l.reached) (All-contains (ShownLe least) shown (least_shown shown) l.below (least_is shown n).reached))
