-- A tangent is tight on the root of the bound of the tests.

use Rattle.std.proofs.Common.{◌≡◌, ◌≢◌, ℕ, true, false, List, [], ◌∷◌, pos, refl, sym, ◌∙◌, rules}
use Rattle.gap_box.specs.Parts.{IsPick, IsSingle}
use Rattle.gap_model.specs.declared.leaf.Leaf.{Leaf}
use Rattle.gap_model.specs.declared.leaf.Leaf.TheVariants.{Count, Void, Tangent}
use Rattle.gap_model.specs.declared.shown.Shown.TheVariants.{Nothing, AtLeast, Empty}
use Rattle.gap_model.specs.Tight.{is_tangent, IsTight}
use Rattle.gap_search.specs.Barren.{barren}

no_way : false ≡ true → ⊥
no_way e = cc

one_lot : IsPick barren.whole 1 2 (1 ∷ 0 ∷ 0 ∷ [])
one_lot = record { inside = refl; few = search rules; many = search rules }

two_lots : IsPick barren.whole 1 2 (2 ∷ 0 ∷ 0 ∷ [])
two_lots = record { inside = refl; few = search rules; many = search rules }

not_single : (x : List ℕ) → IsSingle barren.whole 1 2 x → ⊥
not_single x s = heads (s.only (1 ∷ 0 ∷ 0 ∷ []) one_lot ∙ sym (s.only (2 ∷ 0 ∷ 0 ∷ []) two_lots)) where
  heads : ◌≡◌ {A = List ℕ} (1 ∷ 0 ∷ 0 ∷ []) (2 ∷ 0 ∷ 0 ∷ []) → ⊥
  heads e = cc

some_number : AtLeast (pos 0) ≢ Nothing
some_number e = cc

not_empty : AtLeast (pos 0) ≢ Empty
not_empty e = cc

-- a tangent is tight on the root, which has more than one list
pub root_tight : (leaf : Leaf) → is_tangent leaf ≡ true → IsTight barren barren.whole leaf
root_tight Count e = absurd (no_way e)
root_tight (Void alpha tau third) e = absurd (no_way e)
root_tight (Tangent y alpha tau third) e = record { none = λ no. absurd (no (1 ∷ 0 ∷ 0 ∷ []) one_lot); broken = λ x s m. absurd (not_single x s); single = λ x s m. absurd (no_way m); something = some_number; tangent = λ t. not_empty }
