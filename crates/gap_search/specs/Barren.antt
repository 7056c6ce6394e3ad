-- A bound for tests: three assets with 0 to 3 lots, of which one or two are held, and no list meets the limits. A tangent
-- shows 0, and every other leaf shows that there is no list. It keeps the laws of bounds. The tests alone use it. Own
-- to portgap.

use Rattle.std.proofs.Common.{◌≡◌, true, false, cond, replicate, inl, pos, refl, arith}
use Rattle.std.proofs.lemmas.Int.{ints}
use Rattle.gap_box.specs.Parts.{root_cells}
use Rattle.gap_model.specs.declared.leaf.Leaf.{Leaf}
use Rattle.gap_model.specs.declared.leaf.Leaf.TheVariants.{Count, Void, Tangent}
use Rattle.gap_model.specs.declared.shown.Shown.{Shown}
use Rattle.gap_model.specs.declared.shown.Shown.TheVariants.{AtLeast, Empty}
use Rattle.gap_model.specs.Order.{ShownLe}
use Rattle.gap_model.specs.Problems.{Problem, IsBound}
use Rattle.gap_model.specs.Tight.{is_tangent}

-- what a leaf shows on every part
abbrev pub barren_shows : Leaf → Shown
barren_shows leaf = cond (is_tangent leaf) (AtLeast (pos 0)) Empty

-- the bound
abbrev pub barren : Problem
barren = record {
  fewest = 1;
  most = 2;
  whole = root_cells (replicate 3 1) (replicate 3 3);
  meets = λ x. false;
  cost = λ x. pos 0;
  in_range = λ leaf. true;
  shows = λ part leaf. barren_shows leaf;
}

no_way : false ≡ true → ⊥
no_way e = cc

level : (leaf : Leaf) → ShownLe (barren_shows leaf) (barren_shows leaf)
level Count = tt
level (Void alpha tau third) = tt
level (Tangent y alpha tau third) = omega (arith, ints)

-- it keeps the laws of bounds
pub barren_lawful : IsBound barren
barren_lawful = record {
  range = omega arith;
  picked = λ x e. absurd (no_way e);
  below = λ part leaf x p r i e. absurd (no_way e);
  narrower = λ part leaf split side p r l. level leaf;
  exact = λ part leaf x p s e t. absurd (no_way e);
  empty = λ part x p s e. (pos 0, inl (record { in_range = refl; empty = refl }));
  uncounted = λ part p e. record { in_range = refl; empty = refl };
  sizes = λ x e. absurd (no_way e);
}
