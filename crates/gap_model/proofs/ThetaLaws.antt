-- The least value of a function over the lists of a part that hold a number of assets in a range.

use Rattle.std.proofs.Common.{◌≡◌, ℕ, ◌≤◌, Bool, true, false, List, [], ◌∷◌, ◌⊎◌, ◌↔◌, inl, inr, Option, Some, None, ℤ, ◌+ℤ◌, ◌≤ℤ◌, ◌<ℤ◌, refl, sym, ap, ◌∙◌, arith, subst}
use Rattle.std.proofs.lemmas.Int.{ints, clamps, by_lt_z}
use Rattle.std.specs.Int.{int_min}
use Rattle.gap_box.specs.declared.cell.Cell.{Cell}
use Rattle.gap_box.specs.Cells.{AreCells}
use Rattle.gap_box.specs.Parts.{IsPick, can_meet}
use Rattle.gap_box.proofs.CountLaws.{pick_meets, meets_pick}
use Rattle.gap_model.specs.Settings.{Setting}
use Rattle.gap_model.specs.Lagrangian.{lag, void_lag}
use Rattle.gap_model.specs.Theta.{picks, lesser, least_value, theta, void_theta, IsLeastPick, IsTheta, IsVoidTheta}
use Rattle.gap_model.proofs.PickLaws.{IsAmong, picks_has, picks_in}

same_some : (a b : ℤ) → Some a ≡ Some b → a ≡ b
same_some a b e = cc

min_first : (a b : ℤ) → int_min a b ≤ℤ a
min_first a b = omega (arith, ints, clamps)

min_second : (a b : ℤ) → int_min a b ≤ℤ b
min_second a b = omega (arith, ints, clamps)

min_one : (a b : ℤ) → (int_min a b ≡ a) ⊎ (int_min a b ≡ b)
min_one a b = by_lt_z a b (λ (h : a <ℤ b). inl (omega (arith, ints, clamps))) (λ (h : b ≤ℤ a). inr (omega (arith, ints, clamps)))

-- ---- the least value over some lists
pub least_some : (f : List ℕ → ℤ) (xs : List (List ℕ)) (x : List ℕ) → IsAmong x xs → (t : ℤ) × (least_value f xs ≡ Some t)
least_some f [] x h = absurd h
least_some f (y ∷ xs) x h = (lesser (f y) (least_value f xs), refl)

pub least_below : (f : List ℕ → ℤ) (xs : List (List ℕ)) (x : List ℕ) (t : ℤ) → IsAmong x xs → least_value f xs ≡ Some t → t ≤ℤ f x
least_below f [] x t h e = absurd h
least_below f (y ∷ xs) x t (inl s) e = first_below (least_value f xs) (same_some _ t e)
  where
    first_below : (o : Option ℤ) → lesser (f y) o ≡ t → t ≤ℤ f x
    first_below None q = let v : f y ≡ f x = ap f s in omega (arith, ints)
    first_below (Some r) q = let v : f y ≡ f x = ap f s in let m = min_first (f y) r in omega (arith, ints)
least_below f (y ∷ xs) x t (inr h) e = let r = least_some f xs x h in let b = least_below f xs x r.0 h r.1 in rest_below r.0 b (rw r.1 at (same_some (lesser (f y) (least_value f xs)) t e))
  where
    rest_below : (r : ℤ) → r ≤ℤ f x → int_min (f y) r ≡ t → t ≤ℤ f x
    rest_below r b q = let m = min_second (f y) r in omega (arith, ints)

pub least_reached : (f : List ℕ → ℤ) (xs : List (List ℕ)) (t : ℤ) → least_value f xs ≡ Some t → (x : List ℕ) × IsAmong x xs × (f x ≡ t)
least_reached f [] t e = cc
least_reached f (y ∷ xs) t e = reached_by f y xs t (least_value f xs) (λ r q. least_reached f xs r q) refl (same_some _ t e)
  where
    reached_side : (f : List ℕ → ℤ) (y : List ℕ) (xs : List (List ℕ)) (t r : ℤ) → (x : List ℕ) × IsAmong x xs × (f x ≡ r) → int_min (f y) r ≡ t → (int_min (f y) r ≡ f y) ⊎ (int_min (f y) r ≡ r) → (x : List ℕ) × IsAmong x (y ∷ xs) × (f x ≡ t)
    reached_side f y xs t r w q (inl a) = (y, inl refl, sym a ∙ q)
    reached_side f y xs t r w q (inr a) = (w.0, inr w.1, w.2 ∙ (sym a ∙ q))

    reached_by : (f : List ℕ → ℤ) (y : List ℕ) (xs : List (List ℕ)) (t : ℤ) (o : Option ℤ) → ((r : ℤ) → least_value f xs ≡ Some r → (x : List ℕ) × IsAmong x xs × (f x ≡ r)) → least_value f xs ≡ o → lesser (f y) o ≡ t → (x : List ℕ) × IsAmong x (y ∷ xs) × (f x ≡ t)
    reached_by f y xs t None go p q = (y, inl refl, q)
    reached_by f y xs t (Some r) go p q = reached_side f y xs t r (go r p) q (min_one (f y) r)

-- ---- over the lists of a part that hold a number of assets in a range
pub pick_least : (f : List ℕ → ℤ) (cells : List Cell) (fewest most : ℕ) (t : ℤ) → least_value f (picks cells fewest most) ≡ Some t → IsLeastPick f cells fewest most t
pick_least f cells fewest most t e =
    let r = least_reached f (picks cells fewest most) t e in
    record { reached = (r.0, picks_in cells fewest most r.0 r.1, r.2); below = λ x h. least_below f (picks cells fewest most) x t (picks_has cells fewest most x h) e }

-- two leasts over the same lists are equal
pub least_once : (f : List ℕ → ℤ) (cells : List Cell) (fewest most : ℕ) (s t : ℤ) → IsLeastPick f cells fewest most s → IsLeastPick f cells fewest most t → s ≡ t
least_once f cells fewest most s t a b =
    let p = a.below b.reached.0 b.reached.1 in
    let q = b.below a.reached.0 a.reached.1 in
    let u = a.reached.2 in
    let v = b.reached.2 in
    omega (arith, ints)

pub least_is : (f : List ℕ → ℤ) (cells : List Cell) (fewest most : ℕ) (t : ℤ) → IsLeastPick f cells fewest most t → least_value f (picks cells fewest most) ≡ Some t
least_is f cells fewest most t h =
    let r = least_some f (picks cells fewest most) h.reached.0 (picks_has cells fewest most h.reached.0 h.reached.1) in
    r.1 ∙ ap Some (least_once f cells fewest most r.0 t (pick_least f cells fewest most r.0 r.1) h)

none_some : (t : ℤ) → None ≡ Some t → ⊥
none_some t e = cc

pub least_none : (f : List ℕ → ℤ) (cells : List Cell) (fewest most : ℕ) → least_value f (picks cells fewest most) ≡ None → (x : List ℕ) → IsPick cells fewest most x → ⊥
least_none f cells fewest most e x h = let r = least_some f (picks cells fewest most) x (picks_has cells fewest most x h) in none_some r.0 (sym e ∙ r.1)

pub none_least : (f : List ℕ → ℤ) (cells : List Cell) (fewest most : ℕ) → ((x : List ℕ) → IsPick cells fewest most x → ⊥) → least_value f (picks cells fewest most) ≡ None
none_least f cells fewest most h = none_by (least_value f (picks cells fewest most)) refl
  where
    none_by : (o : Option ℤ) → least_value f (picks cells fewest most) ≡ o → least_value f (picks cells fewest most) ≡ None
    none_by None e = e
    none_by (Some t) e = let r = (pick_least f cells fewest most t e).reached in absurd (h r.0 r.1)

-- there is a least exactly where the count can be met
pub uncounted_none : (f : List ℕ → ℤ) (cells : List Cell) (fewest most : ℕ) → AreCells cells → can_meet cells fewest most ≡ false → least_value f (picks cells fewest most) ≡ None
uncounted_none f cells fewest most h e = none_least f cells fewest most (λ x p. both (sym e ∙ pick_meets cells fewest most x h p))
  where
    both : false ≡ true → ⊥
    both e = cc

pub counted_some : (f : List ℕ → ℤ) (cells : List Cell) (fewest most : ℕ) → AreCells cells → fewest ≤ most → can_meet cells fewest most ≡ true → (t : ℤ) × IsLeastPick f cells fewest most t
counted_some f cells fewest most h le e =
    let w = meets_pick cells fewest most h le e in
    let r = least_some f (picks cells fewest most) w.0 (picks_has cells fewest most w.0 w.1) in
    (r.0, pick_least f cells fewest most r.0 r.1)

-- on a part with only some of the lists the least isn't less
pub least_narrower : (f : List ℕ → ℤ) (cells smaller : List Cell) (fewest most : ℕ) (s t : ℤ) → ((x : List ℕ) → IsPick smaller fewest most x → IsPick cells fewest most x) → IsLeastPick f cells fewest most s → IsLeastPick f smaller fewest most t → s ≤ℤ t
least_narrower f cells smaller fewest most s t h a b = let r = b.reached in let p = a.below r.0 (h r.0 r.1) in let e = r.2 in omega (arith, ints)

-- functions that agree on the lists of a part have the same leasts
pub least_same : (f g : List ℕ → ℤ) (cells : List Cell) (fewest most : ℕ) (t : ℤ) → ((x : List ℕ) → IsPick cells fewest most x → f x ≡ g x) → IsLeastPick f cells fewest most t → IsLeastPick g cells fewest most t
least_same f g cells fewest most t h a =
    let r = a.reached in
    record { reached = (r.0, r.1, sym (h r.0 r.1) ∙ r.2); below = λ x p. subst (λ (z : ℤ). t ≤ℤ z) (h x p) (a.below x p) }

-- a function and a constant
pub least_shifted : (f g : List ℕ → ℤ) (c : ℤ) (cells : List Cell) (fewest most : ℕ) (t : ℤ) → ((x : List ℕ) → IsPick cells fewest most x → g x ≡ c +ℤ f x) → IsLeastPick f cells fewest most t → IsLeastPick g cells fewest most (c +ℤ t)
least_shifted f g c cells fewest most t h a =
    let r = a.reached in
    record { reached = (r.0, r.1, h r.0 r.1 ∙ ap (λ z. c +ℤ z) r.2); below = λ x p. let e = h x p in let b = a.below x p in omega (arith, ints) }

-- ---- theta
pub theta_is : (s : Setting) (cells : List Cell) (y : ℕ → ℤ) (alpha tau t : ℤ) → IsTheta s cells y alpha tau t → theta s cells y alpha tau ≡ Some t
unfolding theta
theta_is s cells y alpha tau t h = least_is (lag s y alpha tau) cells s.instance.held s.instance.held_most t h

pub theta_least : (s : Setting) (cells : List Cell) (y : ℕ → ℤ) (alpha tau t : ℤ) → theta s cells y alpha tau ≡ Some t → IsTheta s cells y alpha tau t
unfolding theta
theta_least s cells y alpha tau t e = pick_least (lag s y alpha tau) cells s.instance.held s.instance.held_most t e

pub theta_none : (s : Setting) (cells : List Cell) (y : ℕ → ℤ) (alpha tau : ℤ) → AreCells cells → can_meet cells s.instance.held s.instance.held_most ≡ false → theta s cells y alpha tau ≡ None
unfolding theta
theta_none s cells y alpha tau h e = uncounted_none (lag s y alpha tau) cells s.instance.held s.instance.held_most h e

pub theta_some : (s : Setting) (cells : List Cell) (y : ℕ → ℤ) (alpha tau : ℤ) → AreCells cells → s.instance.held ≤ s.instance.held_most → can_meet cells s.instance.held s.instance.held_most ≡ true → (t : ℤ) × IsTheta s cells y alpha tau t
theta_some s cells y alpha tau h le e = counted_some (lag s y alpha tau) cells s.instance.held s.instance.held_most h le e

pub void_theta_is : (s : Setting) (cells : List Cell) (alpha tau t : ℤ) → IsVoidTheta s cells alpha tau t → void_theta s cells alpha tau ≡ Some t
unfolding void_theta
void_theta_is s cells alpha tau t h = least_is (void_lag s alpha tau) cells s.instance.held s.instance.held_most t h

pub void_theta_least : (s : Setting) (cells : List Cell) (alpha tau t : ℤ) → void_theta s cells alpha tau ≡ Some t → IsVoidTheta s cells alpha tau t
unfolding void_theta
void_theta_least s cells alpha tau t e = pick_least (void_lag s alpha tau) cells s.instance.held s.instance.held_most t e

pub void_theta_none : (s : Setting) (cells : List Cell) (alpha tau : ℤ) → AreCells cells → can_meet cells s.instance.held s.instance.held_most ≡ false → void_theta s cells alpha tau ≡ None
unfolding void_theta
void_theta_none s cells alpha tau h e = uncounted_none (void_lag s alpha tau) cells s.instance.held s.instance.held_most h e

pub void_theta_some : (s : Setting) (cells : List Cell) (alpha tau : ℤ) → AreCells cells → s.instance.held ≤ s.instance.held_most → can_meet cells s.instance.held s.instance.held_most ≡ true → (t : ℤ) × IsVoidTheta s cells alpha tau t
void_theta_some s cells alpha tau h le e = counted_some (void_lag s alpha tau) cells s.instance.held s.instance.held_most h le e

-- ---- both ways
pub theta_some_iff : (s : Setting) (cells : List Cell) (y : ℕ → ℤ) (alpha tau t : ℤ) → (theta s cells y alpha tau ≡ Some t) ↔ IsTheta s cells y alpha tau t
theta_some_iff s cells y alpha tau t = (theta_least s cells y alpha tau t, theta_is s cells y alpha tau t)

void_or_not : (b : Bool) → (b ≡ true) ⊎ (b ≡ false)
void_or_not true = inl refl
void_or_not false = inr refl

pub none_iff : (f : List ℕ → ℤ) (cells : List Cell) (fewest most : ℕ) → AreCells cells → fewest ≤ most → (least_value f (picks cells fewest most) ≡ None) ↔ (can_meet cells fewest most ≡ false)
none_iff f cells fewest most h le = (λ e. uncounted_by e (void_or_not (can_meet cells fewest most)), uncounted_none f cells fewest most h)
  where
    uncounted_by : least_value f (picks cells fewest most) ≡ None → (can_meet cells fewest most ≡ true) ⊎ (can_meet cells fewest most ≡ false) → can_meet cells fewest most ≡ false
    uncounted_by e (inl p) = let w = meets_pick cells fewest most h le p in absurd (least_none f cells fewest most e w.0 w.1)
    uncounted_by e (inr p) = p

pub theta_none_iff : (s : Setting) (cells : List Cell) (y : ℕ → ℤ) (alpha tau : ℤ) → AreCells cells → s.instance.held ≤ s.instance.held_most → (theta s cells y alpha tau ≡ None) ↔ (can_meet cells s.instance.held s.instance.held_most ≡ false)
unfolding theta
theta_none_iff s cells y alpha tau h le = none_iff (lag s y alpha tau) cells s.instance.held s.instance.held_most h le

pub void_theta_some_iff : (s : Setting) (cells : List Cell) (alpha tau t : ℤ) → (void_theta s cells alpha tau ≡ Some t) ↔ IsVoidTheta s cells alpha tau t
void_theta_some_iff s cells alpha tau t = (void_theta_least s cells alpha tau t, void_theta_is s cells alpha tau t)

pub void_theta_none_iff : (s : Setting) (cells : List Cell) (alpha tau : ℤ) → AreCells cells → s.instance.held ≤ s.instance.held_most → (void_theta s cells alpha tau ≡ None) ↔ (can_meet cells s.instance.held s.instance.held_most ≡ false)
unfolding void_theta
void_theta_none_iff s cells alpha tau h le = none_iff (void_lag s alpha tau) cells s.instance.held s.instance.held_most h le

-- least values agree where the functions do
pub least_value_same : (f g : List ℕ → ℤ) (cells : List Cell) (fewest most : ℕ) → ((x : List ℕ) → f x ≡ g x) → least_value f (picks cells fewest most) ≡ least_value g (picks cells fewest most)
least_value_same f g cells fewest most h = same_by (least_value f (picks cells fewest most)) refl
  where
    same_by : (o : Option ℤ) → least_value f (picks cells fewest most) ≡ o → least_value f (picks cells fewest most) ≡ least_value g (picks cells fewest most)
    same_by None e = e ∙ sym (none_least g cells fewest most (least_none f cells fewest most e))
    same_by (Some t) e = e ∙ sym (least_is g cells fewest most t (least_same f g cells fewest most t (λ x p. h x) (pick_least f cells fewest most t e)))

pub theta_from_same : (s : Setting) (cells : List Cell) (y z : ℕ → ℤ) (alpha tau : ℤ) → ((x : List ℕ) → lag s y alpha tau x ≡ lag s z alpha tau x) → theta s cells y alpha tau ≡ theta s cells z alpha tau
unfolding theta
theta_from_same s cells y z alpha tau h = least_value_same (lag s y alpha tau) (lag s z alpha tau) cells s.instance.held s.instance.held_most h
