-- The tangent bound is a priced one, and so keeps the laws of bounds.

use Rattle.std.proofs.Common.{◌≡◌, ℕ, ◌*◌, ◌≤◌, true, false, ◌&&◌, leb, List, sum, sum_by, Option, Some, None, ◌⊎◌, inl, inr, ℤ, pos, negsuc, ◌-ℤ◌, ◌*ℤ◌, ◌≤ℤ◌, ◌<ℤ◌, refl, ap, ◌∙◌, subst, arith}
use Rattle.std.proofs.Math.IntN.{zero-*ℤ}
use Rattle.std.proofs.Math.Path.{fun_ext}
use Rattle.std.proofs.lemmas.Int.{ints, by_lt_z}
use Rattle.std.proofs.lemmas.Bool.{and_parts, and_from, le-leb}
use Rattle.gap_base.proofs.Lists.{sum_places}
use Rattle.gap_base.proofs.Ring.{linear}
use Rattle.gap_box.specs.declared.cell.Cell.{Cell}
use Rattle.gap_box.specs.Parts.{IsPick, root_cells}
use Rattle.gap_instance.specs.Instances.{InstanceValue}
use Rattle.gap_instance.specs.Limits.{sum_of, turnover_of, MeetsLimits}
use Rattle.gap_instance.specs.Objective.{objective}
use Rattle.gap_model.specs.declared.leaf.Entry.{Entry}
use Rattle.gap_model.specs.declared.leaf.Leaf.{Leaf}
use Rattle.gap_model.specs.declared.leaf.Leaf.TheVariants.{Count, Void, Tangent}
use Rattle.gap_model.specs.declared.shown.Shown.{Shown}
use Rattle.gap_model.specs.Settings.{Setting, IsSetting}
use Rattle.gap_model.specs.Lagrangian.{turnover_term, void_lag}
use Rattle.gap_model.specs.Theta.{theta, void_theta}
use Rattle.gap_model.specs.Limits.{meets_limits}
use Rattle.gap_model.specs.Leaves.{eighths_at, entries_from, ascend, are_multipliers, in_range, shows}
use Rattle.gap_model.specs.Tight.{is_tangent}
use Rattle.gap_model.specs.Problems.{IsTangentAt, IsBound, tangent_problem}
use Rattle.gap_model.specs.Priced.{priced_shows, is_void, tangent_price, tangent_prices, Charges, IsExactAt, IsPriced}
use Rattle.gap_model.proofs.LagLaws.{void_lag_is, void_lag_below, lag_below, lag_exact}
use Rattle.gap_model.proofs.LimitLaws.{meets_true, picked, pick_keeps, unmet}
use Rattle.gap_model.proofs.LeafLaws.{tau_not_negative, entries_of_lots, entries_ascend, entries_sum}
use Rattle.gap_model.proofs.SizeLaws.{objective_size}
use Rattle.gap_model.proofs.PricedLaws.{priced_lawful}

-- ---- below
tangent_multipliers : (s : Setting) (y : List Entry) (alpha tau : ℤ) → (ascend 0 s.instance.market.assets y && (leb (sum_by (λ (e : Entry). e.eighths) y) (8 * s.instance.lots) && are_multipliers s.instance.turnover alpha tau)) ≡ true → pos 0 ≤ℤ tau
tangent_multipliers s y alpha tau e =
    let a = and_parts (ascend 0 s.instance.market.assets y) _ e in
    let b = and_parts (leb (sum_by (λ (e : Entry). e.eighths) y) (8 * s.instance.lots)) _ a.1 in
    tau_not_negative s.instance.turnover alpha tau b.1

tangent_below : (s : Setting) (leaf : Leaf) (x : List ℕ) → IsSetting s → is_tangent leaf ≡ true → in_range s leaf ≡ true → MeetsLimits s.instance x → tangent_price s leaf x ≤ℤ (pos 64 *ℤ objective s.instance s.p s.q x)
tangent_below s Count x is t r m = cc
tangent_below s (Void alpha tau third) x is t r m = cc
tangent_below s (Tangent y alpha tau third) x is t r m = lag_below s (eighths_at y.now) alpha tau x is (tangent_multipliers s y.now alpha tau r) m

tangent_paid : (s : Setting) (leaf : Leaf) (x : List ℕ) → is_void leaf ≡ true → in_range s leaf ≡ true → MeetsLimits s.instance x → tangent_price s leaf x ≤ℤ pos 0
tangent_paid s Count x t r m = cc
tangent_paid s (Void alpha tau third) x t r m = void_lag_below s alpha tau x (tau_not_negative s.instance.turnover alpha tau r) m
tangent_paid s (Tangent y alpha tau third) x t r m = cc

-- ---- exact
zero_multipliers : (o : Option ℕ) → are_multipliers o (pos 0) (pos 0) ≡ true
zero_multipliers None = refl
zero_multipliers (Some t) = refl

exact_in_range : (s : Setting) (y : List Entry) (x : List ℕ) → MeetsLimits s.instance x → y ≡ entries_from 0 x → (ascend 0 s.instance.market.assets y && (leb (sum_by (λ (e : Entry). e.eighths) y) (8 * s.instance.lots) && are_multipliers s.instance.turnover (pos 0) (pos 0))) ≡ true
exact_in_range s y x m e = rw e (and_from (ascend 0 s.instance.market.assets (entries_from 0 x)) _ (entries_ascend 0 s.instance.market.assets x (let n = m.assets_are in omega arith)) (and_from (leb (sum_by (λ (d : Entry). d.eighths) (entries_from 0 x)) (8 * s.instance.lots)) _ (le-leb _ _ (sum_bound (entries_sum 0 x) (same_lots m))) (zero_multipliers s.instance.turnover)))
  where
    same_pos : (a b : ℕ) → pos a ≡ pos b → a ≡ b
    same_pos a b e = cc

    same_lots : MeetsLimits s.instance x → sum x ≡ s.instance.lots
    same_lots m = same_pos (sum x) s.instance.lots (sum_places x ∙ ap (λ n. sum_of n x) m.assets_are ∙ m.lots_are)

    sum_bound : sum_by (λ (d : Entry). d.eighths) (entries_from 0 x) ≡ 8 * sum x → sum x ≡ s.instance.lots → sum_by (λ (d : Entry). d.eighths) (entries_from 0 x) ≤ 8 * s.instance.lots
    sum_bound p q = omega arith

tangent_exact : (s : Setting) (leaf : Leaf) (x : List ℕ) → MeetsLimits s.instance x → IsTangentAt x leaf → IsExactAt (tangent_prices s) x leaf
tangent_exact s Count x m t = absurd t
tangent_exact s (Void alpha tau third) x m t = absurd t
tangent_exact s (Tangent y alpha tau third) x m t = rw (t.1, t.2, t.3) (record {
  said = record { in_range = exact_in_range s y.now x m t.0; says = refl };
  exact = lag_exact s (eighths_at y.now) x (λ i p. ap (λ (z : List Entry). eighths_at z i) t.0 ∙ entries_of_lots x i);
})

-- ---- charged
one_multipliers : (o : Option ℕ) → are_multipliers o (pos 1) (pos 0) ≡ true
one_multipliers None = refl
one_multipliers (Some t) = refl

minus_multipliers : (o : Option ℕ) → are_multipliers o (negsuc 0) (pos 0) ≡ true
minus_multipliers None = refl
minus_multipliers (Some t) = refl

tau_multipliers : (o : Option ℕ) (t : ℕ) → o ≡ Some t → are_multipliers o (pos 0) (pos 1) ≡ true
tau_multipliers None t e = cc
tau_multipliers (Some u) t e = refl

no_turnover : (I : InstanceValue) (o : Option ℕ) (x : List ℕ) → turnover_term I o (pos 0) x ≡ pos 0
no_turnover I None x = refl
no_turnover I (Some t) x = zero-*ℤ (turnover_of I.market.assets I.present x -ℤ pos t)

above_sum : (s : Setting) (x : List ℕ) → pos s.instance.lots <ℤ sum_of s.instance.market.assets x → pos 0 <ℤ void_lag s (pos 1) (pos 0) x
above_sum s x h = let a = void_lag_is s (pos 1) (pos 0) x in let b = no_turnover s.instance s.instance.turnover x in omega (arith, ints)

below_sum : (s : Setting) (x : List ℕ) → sum_of s.instance.market.assets x <ℤ pos s.instance.lots → pos 0 <ℤ void_lag s (negsuc 0) (pos 0) x
below_sum s x h = let a = void_lag_is s (negsuc 0) (pos 0) x in let b = no_turnover s.instance s.instance.turnover x in omega (arith, ints)

one_turnover : (I : InstanceValue) (o : Option ℕ) (t : ℕ) (x : List ℕ) → o ≡ Some t → turnover_term I o (pos 1) x ≡ turnover_of I.market.assets I.present x -ℤ pos t
one_turnover I None t x e = cc
one_turnover I (Some u) t x e = let q : u ≡ t = cc in rw q (omega (arith, ints))

above_turnover : (s : Setting) (t : ℕ) (x : List ℕ) → s.instance.turnover ≡ Some t → pos t <ℤ turnover_of s.instance.market.assets s.instance.present x → pos 0 <ℤ void_lag s (pos 0) (pos 1) x
above_turnover s t x e h = let a = void_lag_is s (pos 0) (pos 1) x in let b = one_turnover s.instance s.instance.turnover t x e in let c = zero-*ℤ (sum_of s.instance.market.assets x -ℤ pos s.instance.lots) in omega (arith, linear)

charges : (s : Setting) (x : List ℕ) (alpha tau : ℤ) → are_multipliers s.instance.turnover alpha tau ≡ true → pos 0 <ℤ void_lag s alpha tau x → Charges (tangent_prices s) x (Void alpha tau (pos 0))
charges s x alpha tau r p = record { said = record { in_range = r; says = refl }; positive = p }

tangent_charged : (s : Setting) (x : List ℕ) → IsSetting s → IsPick (root_cells s.instance.least s.instance.greatest) s.instance.held s.instance.held_most x → meets_limits s.instance x ≡ false → Charges (tangent_prices s) x (Void (pos 1) (pos 0) (pos 0)) ⊎ Charges (tangent_prices s) x (Void (negsuc 0) (pos 0) (pos 0)) ⊎ Charges (tangent_prices s) x (Void (pos 0) (pos 1) (pos 0))
tangent_charged s x is h e =
    let keeps = pick_keeps s.instance x is.instance_is h in
    by_lt_z (pos s.instance.lots) (sum_of s.instance.market.assets x)
    (λ (p : pos s.instance.lots <ℤ sum_of s.instance.market.assets x). inl (charges s x (pos 1) (pos 0) (one_multipliers s.instance.turnover) (above_sum s x p)))
    (λ (p : sum_of s.instance.market.assets x ≤ℤ pos s.instance.lots).
    by_lt_z (sum_of s.instance.market.assets x) (pos s.instance.lots)
    (λ (q : sum_of s.instance.market.assets x <ℤ pos s.instance.lots). inr (inl (charges s x (negsuc 0) (pos 0) (minus_multipliers s.instance.turnover) (below_sum s x q))))
    (λ (q : pos s.instance.lots ≤ℤ sum_of s.instance.market.assets x).
    let u = unmet s.instance x keeps e (omega (arith, ints)) in
    inr (inr (charges s x (pos 0) (pos 1) (tau_multipliers s.instance.turnover u.0 u.1) (above_turnover s u.0 x u.1 u.2)))))

-- ---- the laws
pub tangent_priced : (s : Setting) → IsSetting s → IsPriced (tangent_prices s)
tangent_priced s is = record {
  range = is.instance_is.limits_are.held_range;
  picked = λ x e. picked s.instance x is.instance_is (meets_true s.instance x e);
  sizes = λ x e. objective_size s.instance s.p s.q x is.instance_is is.p_most is.q_most (meets_true s.instance x e);
  counts = refl;
  below = λ leaf x t r e. tangent_below s leaf x is t r.in_range (meets_true s.instance x e);
  paid = λ leaf x t r e. tangent_paid s leaf x t r.in_range (meets_true s.instance x e);
  exact = λ leaf x e t. tangent_exact s leaf x (meets_true s.instance x e) t;
  charged = λ x h e. (pos 0, tangent_charged s x is h e);
}

-- what a leaf shows is what its prices show
pub shows_priced : (s : Setting) (part : List Cell) (leaf : Leaf) → priced_shows (tangent_prices s) part leaf ≡ shows s part leaf
unfolding shows priced_shows theta void_theta
shows_priced s part Count = refl
shows_priced s part (Void alpha tau third) = refl
shows_priced s part (Tangent y alpha tau third) = refl

pub tangent_lawful : (s : Setting) → IsSetting s → IsBound (tangent_problem s)
tangent_lawful s is =
    let e : priced_shows (tangent_prices s) ≡ shows s = fun_ext λ part. fun_ext λ leaf. shows_priced s part leaf in
    subst (λ (f : List Cell → Leaf → Shown). IsBound (record (tangent_problem s) { shows = f })) e (priced_lawful (tangent_prices s) (tangent_priced s is))
