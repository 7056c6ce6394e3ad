-- Whether the same is said of a field.

use Rattle.std.proofs.Common.{◌≡◌, ◌≢◌, ℕ, ◌==◌, ◌&&◌, Bool, true, false, Option, Some, None, if◌then◌else◌, ℤ, refl, ap, ◌∙◌, w32, to_z, of_z, FitsSigned}
use Rattle.std.specs.Ordering.{int_eq}
use Rattle.std.specs.Bool.{Decides}
use Rattle.std.proofs.lemmas.Int.{to_z-of_z}
use Rattle.std.proofs.lemmas.Bool.Decides.{Decides-eqb, Decides-int_eq, Decides-and, Decides-like}
use Rattle.gap_base.specs.declared.weight.Weight.{Weight}
use Rattle.gap_verify.specs.declared.field.Field.{Field}
use Rattle.gap_verify.specs.declared.said.Said.{Said}
use Rattle.gap_verify.specs.declared.said.Said.TheVariants.{Number, Signed, Range, Limit, Fraction}
use Rattle.gap_verify.specs.declared.difference.Difference.{Difference}
use Rattle.gap_verify.specs.Differences.{same_limit, same_said, compared}

limit_decides : (t u : Option ℕ) → Decides (same_limit t u) (t ≡ u)
limit_decides None None = (λ e. refl, λ e. refl)
limit_decides None (Some u) = (λ e. cc, λ e. cc)
limit_decides (Some t) None = (λ e. cc, λ e. cc)
limit_decides (Some t) (Some u) = Decides-like (t == u) (λ e. ap Some e) (λ e. cc) (Decides-eqb t u)

weight_made : ℕ → ℕ → Weight
weight_made p q = record { p = p; q = q }

same_weight : (v w : Weight) → (v.p ≡ w.p) × (v.q ≡ w.q) → v ≡ w
unfolding weight_made
same_weight v w h = ap (λ (p : ℕ). weight_made p v.q) h.0 ∙ ap (λ (q : ℕ). weight_made w.p q) h.1

pub said_decides : (x y : Said) → Decides (same_said x y) (x ≡ y)
said_decides (Number m) (Number n) = Decides-like (m == n) (λ e. ap Number e) (λ e. cc) (Decides-eqb m n)
said_decides (Signed m) (Signed n) = Decides-like (int_eq m n) (λ e. ap Signed e) (λ e. cc) (Decides-int_eq m n)
said_decides (Range a b) (Range c d) =
    Decides-like ((a == c) && (b == d)) (λ h. ap (λ (k : ℕ). Range k b) h.0 ∙ ap (λ (k : ℕ). Range c k) h.1) (λ e. (cc, cc)) (Decides-and (a == c) (b == d) (Decides-eqb a c) (Decides-eqb b d))
said_decides (Limit t) (Limit u) = Decides-like (same_limit t u) (λ e. ap Limit e) (λ e. cc) (limit_decides t u)
said_decides (Fraction v) (Fraction w) =
    Decides-like ((v.p == w.p) && (v.q == w.q)) (λ h. ap Fraction (same_weight v w h)) (λ e. parts v w cc) (Decides-and (v.p == w.p) (v.q == w.q) (Decides-eqb v.p w.p) (Decides-eqb v.q w.q))
  where
    parts : (v w : Weight) → v ≡ w → (v.p ≡ w.p) × (v.q ≡ w.q)
    parts v w e = (ap (λ (x : Weight). x.p) e, ap (λ (x : Weight). x.q) e)
said_decides _ _ = (λ e. cc, λ e. cc)

-- what is told of one field: nothing where the same is said of it, else the field with both
pub data IsCompared (f : Field) (x y : Said) : Type 0 where
  agrees : x ≡ y → compared f x y ≡ None → IsCompared f x y
  differs : x ≢ y → compared f x y ≡ Some (record { field = f; found = x; wanted = y }) → IsCompared f x y

pub compared_is : (f : Field) (x y : Said) → IsCompared f x y
unfolding compared
compared_is f x y = each (same_said x y) refl
  where
    told : (b : Bool) → same_said x y ≡ b → compared f x y ≡ (if b then None else Some (record { field = f; found = x; wanted = y }))
    told b e = ap (λ (c : Bool). if c then None else Some (record { field = f; found = x; wanted = y })) e

    each : (b : Bool) → same_said x y ≡ b → IsCompared f x y
    each true e = agrees ((said_decides x y).0 e) (told true e)
    each false e = differs (λ s. let t = (said_decides x y).1 s in cc) (told false e)

-- two things said of a field where nothing is told
pub agree_of_none : (f : Field) (x y : Said) → compared f x y ≡ None → x ≡ y
agree_of_none f x y h = each (compared_is f x y)
  where
    each : IsCompared f x y → x ≡ y
    each (agrees e n) = e
    each (differs ne s) = cc

pub none_of_agree : (f : Field) (x y : Said) → x ≡ y → compared f x y ≡ None
none_of_agree f x y h = each (compared_is f x y)
  where
    each : IsCompared f x y → compared f x y ≡ None
    each (agrees e n) = n
    each (differs ne s) = absurd (ne h)

-- what is told hangs on the two things said alone
pub compared_along : (f : Field) (x x' y y' : Said) (d : Option Difference) → d ≡ compared f x y → x ≡ x' → y ≡ y' → d ≡ compared f x' y'
compared_along f x x' y y' d e p q = e ∙ ap (λ (z : Said). compared f z y) p ∙ ap (λ (z : Said). compared f x' z) q

-- the same of two signed numbers as the code has them
pub signed_along : (f : Field) (m m' n n' : ℤ) (d : Option Difference) → d ≡ compared f (Signed (to_z w32 (of_z w32 m))) (Signed (to_z w32 (of_z w32 n))) → FitsSigned w32 m → FitsSigned w32 n → m ≡ m' → n ≡ n' → d ≡ compared f (Signed m') (Signed n')
signed_along f m m' n n' d e fm fn p q =
    compared_along f (Signed (to_z w32 (of_z w32 m))) (Signed m') (Signed (to_z w32 (of_z w32 n))) (Signed n') d e (ap Signed (to_z-of_z w32 m fm ∙ p)) (ap Signed (to_z-of_z w32 n fn ∙ q))

pub numbers_along : (f : Field) (m m' n n' : ℕ) (d : Option Difference) → d ≡ compared f (Number m) (Number n) → m ≡ m' → n ≡ n' → d ≡ compared f (Number m') (Number n')
numbers_along f m m' n n' d e p q = compared_along f (Number m) (Number m') (Number n) (Number n') d e (ap Number p) (ap Number q)
