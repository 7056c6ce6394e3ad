-- What the leaf of a child shows, against the leaf of its parent.

use Rattle.std.proofs.Common.{◌≡◌, ◌≢◌, zero, suc, Bool, cond, Option, Some, None, int_lt, List, length, true, false, IsTrue, ℤ, pos, negsuc, refl, sym, ap, ◌∙◌, subst}
use Rattle.gap_base.specs.Lots.{lots_at}
use Rattle.gap_base.specs.declared.witness.Witness.{Witness}
use Rattle.gap_box.specs.declared.cell.Cell.{Cell}
use Rattle.gap_box.specs.declared.split.Split.{Split}
use Rattle.gap_box.specs.declared.split.Side.{Side}
use Rattle.gap_box.specs.declared.split.Side.TheVariants.{First, Second}
use Rattle.gap_box.specs.Parts.{IsWithin}
use Rattle.gap_box.specs.Splits.{lawful_split, child_cells}
use Rattle.gap_box.proofs.SplitLaws.{child_within}
use Rattle.gap_box.proofs.PartLaws.{length-root}
use Rattle.gap_model.specs.declared.leaf.Leaf.{Leaf}
use Rattle.gap_model.specs.declared.leaf.Leaf.TheVariants.{Count, Void, Tangent}
use Rattle.gap_model.specs.declared.shown.Shown.{Shown}
use Rattle.gap_model.specs.declared.shown.Shown.TheVariants.{Nothing, AtLeast, Empty}
use Rattle.gap_model.specs.Settings.{Setting, IsSetting}
use Rattle.gap_model.specs.Order.{ShownLe}
use Rattle.gap_model.specs.Leaves.{eighths_at, in_range, shows, tangent_shows, count_shows, void_shows, is_zero}
use Rattle.gap_model.specs.Theta.{void_theta}
use Rattle.gap_model.specs.Problems.{tangent_problem, IsPart}
use Rattle.gap_model.specs.Tight.{is_tangent}
use Rattle.gap_model.proofs.LagLaws.{lag_same}
use Rattle.gap_model.proofs.ThetaLaws.{theta_from_same}
use Rattle.gap_model.proofs.BoundLaws.{tangent_lawful}
use Rattle.gap_model.proofs.OrderLaws.{shown_le_trans}
use Rattle.gap_tangent.proofs.ShownLaws.{tangent_in_range}
use Rattle.gap_tangent.proofs.EntryLaws.{point_is}
use Rattle.gap_search.specs.Boards.{FitsPart, IsOpen}
use Rattle.gap_model.specs.Showing.{ShowsSo}
use Rattle.gap_search.specs.declared.branch.Branch.{Branch}
use Rattle.gap_search.specs.Driven.{IsBranch}
use Rattle.gap_leaf.specs.Showing.{witness_shows}
use Rattle.gap_leaf.specs.Finding.{IsWitness, IsLeafFor}
use Rattle.gap_guide.specs.Hints.{IsTangentOf}

-- a leaf that shows anything shows on every part what its witness does
pub shown_by : (s : Setting) (part child : List Cell) (leaf : Leaf) (w : Witness) → IsTangentOf s.instance.market.assets leaf w → shows s part leaf ≢ Nothing → shows s child leaf ≡ witness_shows s child w
unfolding shows
shown_by s part child Count w t h = absurd t
shown_by s part child (Void alpha tau third) w t h = absurd t
shown_by s part child (Tangent y alpha tau (pos zero)) w (l, e, a, b) h =
    rw (a, b) (ap tangent_shows (theta_from_same s child (eighths_at y.now) (lots_at w.y) alpha tau (λ x. lag_same s (eighths_at y.now) (lots_at w.y) alpha tau x (λ i m. sym (e i m)))))
shown_by s part child (Tangent y alpha tau (pos (suc n))) w t h = absurd (h refl)
shown_by s part child (Tangent y alpha tau (negsuc n)) w t h = absurd (h refl)

module _ (s : Setting) (is : IsSetting s) (part : List Cell) (p : IsPart (tangent_problem s) part) (split : Split) (side : Side) (l : IsTrue (lawful_split part split)) where
  pub child_in_root : IsWithin (child_cells part split side) (tangent_problem s).whole
  child_in_root =
      let w = child_within part split side p.valid l in
      record { same_length = w.same_length ∙ p.within.same_length; inside = λ x i. p.within.inside x (w.inside x i) }

  pub child_shows : (leaf new : Leaf) (w : Witness) → FitsPart (tangent_problem s) part leaf → IsTangentOf s.instance.market.assets leaf w → IsLeafFor s (child_cells part split side) w new → ShownLe (shows s part leaf) (shows s (child_cells part split side) new)
  child_shows leaf new w f t for =
      shown_le_trans (shows s part leaf) (shows s (child_cells part split side) leaf) (shows s (child_cells part split side) new)
      ((tangent_lawful s is).narrower part leaf split side p f.in_range l)
      (subst (λ (z : Shown). ShownLe z (shows s (child_cells part split side) new)) (sym (shown_by s part (child_cells part split side) leaf w t f.tight.something)) for.no_less)

pub leaf_fits : (s : Setting) (part : List Cell) (w : Witness) (leaf : Leaf) → IsLeafFor s part w leaf → FitsPart (tangent_problem s) part leaf
leaf_fits s part w leaf for = record { in_range = for.in_range; tight = for.tight }

-- an open leaf is a tangent
count_apart : (b : Bool) (key : ℤ) → count_shows b ≡ AtLeast key → ⊥
count_apart true key e = absurd cc
count_apart false key e = absurd cc

test_apart : (b : Bool) (key : ℤ) → cond b Empty Nothing ≡ AtLeast key → ⊥
test_apart true key e = absurd cc
test_apart false key e = absurd cc

void_apart : (o : Option ℤ) (key : ℤ) → void_shows o ≡ AtLeast key → ⊥
void_apart None key e = absurd cc
void_apart (Some t) key e = test_apart (int_lt (pos 0) t) key e

third_apart : (b : Bool) (o : Option ℤ) (key : ℤ) → cond b (void_shows o) Nothing ≡ AtLeast key → ⊥
third_apart true o key e = void_apart o key e
third_apart false o key e = absurd cc

pub open_tangent : (s : Setting) (part : List Cell) (leaf : Leaf) (key : ℤ) → shows s part leaf ≡ AtLeast key → is_tangent leaf ≡ false → ⊥
unfolding shows
open_tangent s part Count key e f = count_apart _ key e
open_tangent s part (Void alpha tau third) key e f = third_apart (is_zero third) (void_theta s part alpha tau) key e
open_tangent s part (Tangent y alpha tau third) key e f = absurd cc

-- ---- the numbers of a witness
pub witness_in_range : (s : Setting) (leaf : Leaf) (w : Witness) → in_range s leaf ≡ true → IsTangentOf s.instance.market.assets leaf w → IsWitness s w
witness_in_range s Count w e t = absurd t
witness_in_range s (Void alpha tau third) w e t = absurd t
witness_in_range s (Tangent y alpha tau third) w e (l, n, a, b) =
    let r = tangent_in_range s y.now alpha tau e in
    record { point = point_is s.instance y.now w.y r.entries r.most l n; multipliers = rw (a, b) r.multipliers }

-- a part has a cell for each asset
pub part_length : (s : Setting) (part : List Cell) → IsSetting s → IsPart (tangent_problem s) part → length part ≡ s.instance.market.assets
part_length s part is p =
    let lo = is.instance_is.limits_are.least_within.count in
    let hi = is.instance_is.limits_are.greatest_within.count in
    p.within.same_length ∙ length-root s.instance.least s.instance.greatest (lo ∙ sym hi) ∙ lo

-- how a part is taken apart by a lawful split, with a leaf found for each child from the part's leaf
pub branch_is : (s : Setting) (part : List Cell) (leaf : Leaf) (b : Branch) (w : Witness) → IsSetting s → IsOpen (tangent_problem s) part leaf → IsTangentOf s.instance.market.assets leaf w → IsTrue (lawful_split part b.split) → IsLeafFor s (child_cells part b.split First) w b.first.leaf → IsLeafFor s (child_cells part b.split Second) w b.second.leaf → ShowsSo (tangent_problem s) (child_cells part b.split First) b.first → ShowsSo (tangent_problem s) (child_cells part b.split Second) b.second → IsBranch (tangent_problem s) part leaf b
branch_is s part leaf b w is o t l one two f g = record {
  lawful = l;
  first_fits = leaf_fits s (child_cells part b.split First) w b.first.leaf one;
  second_fits = leaf_fits s (child_cells part b.split Second) w b.second.leaf two;
  first_no_less = child_shows s is part o.part_is b.split First l leaf b.first.leaf w o.fits t one;
  second_no_less = child_shows s is part o.part_is b.split Second l leaf b.second.leaf w o.fits t two;
  first_shows = f;
  second_shows = g;
}
