-- The order of what tangents show goes by theta.
use Rattle.std.proofs.Common.{◌≡◌, ℕ, ◌≤◌, true, List, Option, Some, None, ℤ, pos, ◌≤ℤ◌, refl, sym, ap, subst}
use Rattle.std.proofs.lemmas.Int.{ints}
use Rattle.std.proofs.Common.{arith}
use Rattle.gap_box.specs.declared.cell.Cell.{Cell}
use Rattle.gap_box.specs.Cells.{AreCells}
use Rattle.gap_box.specs.Parts.{can_meet, IsPick}
use Rattle.gap_instance.specs.Objective.{objective}
use Rattle.gap_model.specs.declared.shown.Shown.{Shown}
use Rattle.gap_model.specs.declared.shown.Shown.TheVariants.{Nothing, AtLeast, Empty}
use Rattle.gap_model.specs.Settings.{Setting, IsSetting}
use Rattle.gap_model.specs.Theta.{theta}
use Rattle.gap_model.specs.Order.{ShownLe}
use Rattle.gap_model.specs.Limits.{meets_limits}
use Rattle.gap_model.specs.Leaves.{tangent_shows}
use Rattle.gap_model.proofs.LeafLaws.{sixty_fourth_grows, sixty_fourth_least}
use Rattle.gap_model.proofs.LagLaws.{lag_below}
use Rattle.gap_model.proofs.LimitLaws.{meets_true}
use Rattle.gap_model.proofs.ThetaLaws.{theta_is, theta_some, theta_least}
use Rattle.gap_tangent.specs.Lines.{or_zero, alpha_curve}
use Rattle.gap_leaf.specs.Showing.{tangent_shown, NoLessThanAt}
use Rattle.gap_leaf.specs.Candidates.{IsMostAt}

pub under_empty : (a : Shown) → ShownLe a Empty
under_empty Nothing = tt
under_empty (AtLeast b) = tt
under_empty Empty = tt

pub under_is : (a b : Shown) → b ≡ Empty → ShownLe a b
under_is a b e = subst (λ (c : Shown). ShownLe a c) (sym e) (under_empty a)

pub no_less_empty : (s : Setting) (part : List Cell) (y : ℕ → ℤ) (b : Shown) → b ≡ Empty → NoLessThanAt s part y b
unfolding NoLessThanAt
no_less_empty s part y b e = λ alpha h. under_is (tangent_shown s part y alpha (pos 0)) b e

-- a part whose count can be met
pub record IsCounted (s : Setting) (part : List Cell) : Type 0 where
  pub valid : AreCells part
  pub order : s.instance.held ≤ s.instance.held_most
  pub counted : can_meet part s.instance.held s.instance.held_most ≡ true

some_by : (o : Option ℤ) (t : ℤ) → o ≡ Some t → o ≡ Some (or_zero o)
some_by None t e = cc
some_by (Some u) t e = refl

-- theta is there, and is what the curve says
pub theta_there : (s : Setting) (part : List Cell) (y : ℕ → ℤ) (alpha tau : ℤ) → IsCounted s part → theta s part y alpha tau ≡ Some (alpha_curve s part y tau alpha)
theta_there s part y alpha tau h =
    let w = theta_some s part y alpha tau h.valid h.order h.counted in
    some_by (theta s part y alpha tau) w.0 (theta_is s part y alpha tau w.0 w.1)

pub shown_there : (s : Setting) (part : List Cell) (y : ℕ → ℤ) (alpha tau : ℤ) → IsCounted s part → tangent_shown s part y alpha tau ≡ tangent_shows (Some (alpha_curve s part y tau alpha))
shown_there s part y alpha tau h = ap tangent_shows (theta_there s part y alpha tau h)

pub shown_le : (s : Setting) (part : List Cell) (y z : ℕ → ℤ) (a b alpha tau : ℤ) → IsCounted s part → alpha_curve s part y b a ≤ℤ alpha_curve s part z tau alpha → ShownLe (tangent_shown s part y a b) (tangent_shown s part z alpha tau)
shown_le s part y z a b alpha tau h le =
    subst (λ (c : Shown). ShownLe c (tangent_shown s part z alpha tau)) (sym (shown_there s part y a b h))
    (subst (λ (c : Shown). ShownLe (tangent_shows (Some (alpha_curve s part y b a))) c) (sym (shown_there s part z alpha tau h))
    (sixty_fourth_grows (alpha_curve s part y b a) (alpha_curve s part z tau alpha) le))

pub no_less_most : (s : Setting) (part : List Cell) (y z : ℕ → ℤ) (alpha tau : ℤ) → IsCounted s part → IsMostAt s part y (alpha_curve s part z tau alpha) → NoLessThanAt s part y (tangent_shown s part z alpha tau)
unfolding NoLessThanAt IsMostAt
no_less_most s part y z alpha tau h m = λ a l. shown_le s part y z a (pos 0) alpha tau h (m a l)

-- no tangent shows more than what a list of the part that meets the limits costs
pub shown_below : (s : Setting) (part : List Cell) (y : ℕ → ℤ) (alpha tau : ℤ) (x : List ℕ) → IsSetting s → IsCounted s part → pos 0 ≤ℤ tau → IsPick part s.instance.held s.instance.held_most x → meets_limits s.instance x ≡ true → ShownLe (tangent_shown s part y alpha tau) (AtLeast (objective s.instance s.p s.q x))
shown_below s part y alpha tau x is h t p m =
    let e = theta_there s part y alpha tau h in
    let l = (theta_least s part y alpha tau (alpha_curve s part y tau alpha) e).below x p in
    let b = lag_below s y alpha tau x is t (meets_true s.instance x m) in
    subst (λ (c : Shown). ShownLe c (AtLeast (objective s.instance s.p s.q x))) (sym (ap tangent_shows e))
    (sixty_fourth_least (alpha_curve s part y tau alpha) (objective s.instance s.p s.q x) (through _ _ _ l b))
  where
    through : (a b c : ℤ) → a ≤ℤ b → b ≤ℤ c → a ≤ℤ c
    through a b c p q = omega (arith, ints)

pub no_less_below : (s : Setting) (part : List Cell) (y : ℕ → ℤ) (b : Shown) (x : List ℕ) → IsSetting s → IsCounted s part → IsPick part s.instance.held s.instance.held_most x → meets_limits s.instance x ≡ true → b ≡ AtLeast (objective s.instance s.p s.q x) → NoLessThanAt s part y b
unfolding NoLessThanAt
no_less_below s part y b x is h p m e =
    λ alpha l. subst (λ (c : Shown). ShownLe (tangent_shown s part y alpha (pos 0)) c) (sym e) (shown_below s part y alpha (pos 0) x is h (omega (arith, ints)) p m)
