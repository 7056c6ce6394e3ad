-- A least cost at a multiplier is a line through theta that is nowhere below it.

use Rattle.std.proofs.Common.{◌≡◌, ℕ, ◌<◌, ◌≤◌, Bool, true, false, List, length, slice_index_or, take, Option, Some, None, ℤ, pos, ◌+ℤ◌, ◌-ℤ◌, ◌*ℤ◌, neg_ℤ, ◌≤ℤ◌, refl, sym, ap, ◌∙◌, subst, arith}
use Rattle.std.proofs.lemmas.Int.{ints}
use Rattle.std.proofs.lemmas.List.{get_or-take}
use Rattle.gap_base.specs.Sums.{sum_below, at}
use Rattle.gap_base.specs.Lots.{lots_at}
use Rattle.gap_base.proofs.Ring.{expand, linear}
use Rattle.gap_base.proofs.SumLaws.{sum_same}
use Rattle.gap_box.specs.declared.cell.Cell.{Cell}
use Rattle.gap_box.specs.Cells.{AreCells}
use Rattle.gap_box.specs.Parts.{can_meet, IsPick}
use Rattle.gap_instance.specs.Instances.{InstanceValue}
use Rattle.gap_lines.specs.declared.line.Line.{Line}
use Rattle.gap_lines.specs.Lines.{height, on, IsLine}
use Rattle.gap_model.specs.Settings.{Setting, IsSetting}
use Rattle.gap_model.specs.Lagrangian.{lag, void_lag}
use Rattle.gap_model.specs.Theta.{theta, void_theta, IsLeastPick}
use Rattle.gap_model.proofs.ThetaLaws.{theta_is, theta_some, void_theta_is}
use Rattle.gap_price.specs.declared.costs.Varied.TheVariants.{Lots, Distance}
use Rattle.gap_price.specs.Costs.{asset_cost}
use Rattle.gap_price.specs.Curves.{CurveValue, costs_of as price_costs, weights_of, IsLeastAt}
use Rattle.gap_price.proofs.CurveLaws.{priced_are}
use Rattle.gap_price.proofs.OfferLaws.{priced_is}
use Rattle.gap_price.specs.Offers.{priced_of}
use Rattle.gap_tangent.specs.Lines.{or_zero, alpha_curve, tau_curve, curve_at, IsCostLine, IsCurveOf}
use Rattle.gap_tangent.specs.Terms.{costs_of, turnover_price, limits_price, AreTermsAt}
use Rattle.gap_tangent.proofs.TermLaws.{lag_terms, void_terms, costs_are}

-- ---- the costs of gap_price are those of the terms
zero_plus : (z : ℤ) → pos 0 +ℤ z ≡ z
zero_plus z = omega (arith, ints)

taken : (n : ℕ) (xs : List ℤ) (i : ℕ) → i < n → at (take n xs) i ≡ at xs i
taken n xs i h = get_or-take n xs i (pos 0) h

pub alpha_costs : (I : InstanceValue) (slopes bends : List ℤ) (alpha tau : ℤ) (cells : List Cell) (x : List ℕ) → length cells ≡ I.market.assets → price_costs (curve_at I slopes bends (pos 0) tau Lots cells) x +ℤ alpha *ℤ weights_of (curve_at I slopes bends (pos 0) tau Lots cells) x ≡ costs_of I slopes bends alpha tau x
alpha_costs I slopes bends alpha tau cells x e =
    let c = curve_at I slopes bends (pos 0) tau Lots cells in
    let n = I.market.assets in
    priced_are c alpha x
    ∙ sum_same (length cells) (λ i. priced_of c alpha i (slice_index_or x i 0)) (λ i. asset_cost (at slopes i +ℤ alpha) (at bends i) tau (lots_at I.present i) (lots_at x i)) (λ i l. let h : i < n = omega arith in priced_is c alpha i Lots (lots_at x i) ∙ ap (λ z. asset_cost (z +ℤ (pos 0 +ℤ alpha)) (at (take n bends) i) tau (lots_at I.present i) (lots_at x i)) (taken n slopes i h) ∙ ap (λ z. asset_cost (at slopes i +ℤ z) (at (take n bends) i) tau (lots_at I.present i) (lots_at x i)) (zero_plus alpha) ∙ ap (λ z. asset_cost (at slopes i +ℤ alpha) z tau (lots_at I.present i) (lots_at x i)) (taken n bends i h))
    ∙ ap (λ (m : ℕ). sum_below m (λ i. asset_cost (at slopes i +ℤ alpha) (at bends i) tau (lots_at I.present i) (lots_at x i))) e
    ∙ sym (costs_are I slopes bends alpha tau x)

pub tau_costs : (I : InstanceValue) (slopes bends : List ℤ) (alpha tau : ℤ) (cells : List Cell) (x : List ℕ) → length cells ≡ I.market.assets → price_costs (curve_at I slopes bends alpha (pos 0) Distance cells) x +ℤ tau *ℤ weights_of (curve_at I slopes bends alpha (pos 0) Distance cells) x ≡ costs_of I slopes bends alpha tau x
tau_costs I slopes bends alpha tau cells x e =
    let c = curve_at I slopes bends alpha (pos 0) Distance cells in
    let n = I.market.assets in
    priced_are c tau x
    ∙ sum_same (length cells) (λ i. priced_of c tau i (slice_index_or x i 0)) (λ i. asset_cost (at slopes i +ℤ alpha) (at bends i) tau (lots_at I.present i) (lots_at x i)) (λ i l. let h : i < n = omega arith in priced_is c tau i Distance (lots_at x i) ∙ ap (λ z. asset_cost (z +ℤ alpha) (at (take n bends) i) (pos 0 +ℤ tau) (lots_at I.present i) (lots_at x i)) (taken n slopes i h) ∙ ap (λ z. asset_cost (at slopes i +ℤ alpha) z (pos 0 +ℤ tau) (lots_at I.present i) (lots_at x i)) (taken n bends i h) ∙ ap (λ z. asset_cost (at slopes i +ℤ alpha) (at bends i) z (lots_at I.present i) (lots_at x i)) (zero_plus tau))
    ∙ ap (λ (m : ℕ). sum_below m (λ i. asset_cost (at slopes i +ℤ alpha) (at bends i) tau (lots_at I.present i) (lots_at x i))) e
    ∙ sym (costs_are I slopes bends alpha tau x)

-- ---- lines
pub met_by : (b : Bool) → (b ≡ false → ⊥) → b ≡ true
met_by true h = refl
met_by false h = absurd (h refl)

height_is : (place value slope b : ℤ) → height place value slope b ≡ value +ℤ ((b -ℤ place) *ℤ slope)
unfolding height
height_is place value slope b = refl

pick_over : (c : CurveValue) (cells : List Cell) (fewest most : ℕ) (x : List ℕ) → c.cells ≡ cells → c.fewest ≡ fewest → c.most ≡ most → IsPick c.cells c.fewest c.most x → IsPick cells fewest most x
pick_over c cells fewest most x e f g p = subst (λ (z : List Cell). IsPick z fewest most x) e (subst (λ (n : ℕ). IsPick c.cells n most x) f (subst (λ (n : ℕ). IsPick c.cells c.fewest n x) g p))

pick_under : (c : CurveValue) (cells : List Cell) (fewest most : ℕ) (x : List ℕ) → c.cells ≡ cells → c.fewest ≡ fewest → c.most ≡ most → IsPick cells fewest most x → IsPick c.cells c.fewest c.most x
pick_under c cells fewest most x e f g p = subst (λ (z : List Cell). IsPick z c.fewest c.most x) (sym e) (subst (λ (n : ℕ). IsPick cells n c.most x) (sym f) (subst (λ (n : ℕ). IsPick cells fewest n x) (sym g) p))

-- a line from a least cost at a multiplier
pub cost_line : (c : CurveValue) (fixed : ℤ) (limit : ℕ) (m cost weight price : ℤ) (l : Line) → l.place ≡ m → IsLeastAt c m cost weight → price ≡ m *ℤ pos limit → l.value ≡ (fixed -ℤ price) +ℤ cost → l.slope ≡ weight -ℤ pos limit → IsCostLine c fixed limit l
cost_line c fixed limit m cost weight price l e least p v w = record { cost = cost; weight = weight; least = subst (λ (z : ℤ). IsLeastAt c z cost weight) (sym e) least; value_is = v ∙ ap (λ z. (fixed -ℤ z) +ℤ cost) (p ∙ ap (λ z. z *ℤ pos limit) (sym e)); slope_is = w }

-- the value of a cost line is the least of f at its place
pub least_at_line : (f : ℤ → List ℕ → ℤ) (cells : List Cell) (fewest most : ℕ) (c : CurveValue) (fixed : ℤ) (limit : ℕ) (l : Line) → IsCurveOf f cells fewest most c fixed limit → IsCostLine c fixed limit l → IsLeastPick (f l.place) cells fewest most l.value
least_at_line f cells fewest most c fixed limit l kept line = record {
  reached = let r = line.least.reached in (r.0, pick_over c cells fewest most r.0 kept.cells_are kept.fewest_is kept.most_is r.1, same_value _ _ _ _ _ (kept.terms l.place r.0) r.2 line.value_is);
  below = λ x p. lower _ _ _ _ _ line.value_is (line.least.below x (pick_under c cells fewest most x kept.cells_are kept.fewest_is kept.most_is p)) (kept.terms l.place x);
}
  where
    same_value : (v k g cost value : ℤ) → v ≡ k +ℤ g → g ≡ cost → value ≡ k +ℤ cost → v ≡ value
    same_value v k g cost value e h i = omega (arith, linear)

    lower : (value k cost g v : ℤ) → value ≡ k +ℤ cost → cost ≤ℤ g → v ≡ k +ℤ g → value ≤ℤ v
    lower value k cost g v e h i = omega (arith, linear)

grown : (fixed a b limit costs weights : ℤ) → (fixed +ℤ neg_ℤ (b *ℤ limit)) +ℤ (costs +ℤ b *ℤ weights) ≡ ((fixed +ℤ neg_ℤ (a *ℤ limit)) +ℤ (costs +ℤ a *ℤ weights)) +ℤ ((b +ℤ neg_ℤ a) *ℤ (weights +ℤ neg_ℤ limit))
grown fixed a b limit costs weights = simp expand (omega (arith, linear))

least_one : (f : List ℕ → ℤ) (cells : List Cell) (fewest most : ℕ) (t u : ℤ) → IsLeastPick f cells fewest most t → IsLeastPick f cells fewest most u → t ≡ u
least_one f cells fewest most t u p q = one _ _ _ _ p.reached.2 q.reached.2 (p.below q.reached.0 q.reached.1) (q.below p.reached.0 p.reached.1)
  where
    one : (a b t u : ℤ) → a ≡ t → b ≡ u → t ≤ℤ b → u ≤ℤ a → t ≡ u
    one a b t u e g h k = omega (arith, ints)

-- a cost line is one of the curve of the least of f
pub line_from : (f : ℤ → List ℕ → ℤ) (value : ℤ → ℤ) (cells : List Cell) (fewest most : ℕ) (c : CurveValue) (fixed : ℤ) (limit : ℕ) (l : Line) → IsCurveOf f cells fewest most c fixed limit → ((m : ℤ) → IsLeastPick (f m) cells fewest most (value m)) → IsCostLine c fixed limit l → IsLine value l
line_from f value cells fewest most c fixed limit l kept least line = record {
  exact = least_one (f l.place) cells fewest most (value l.place) l.value (least l.place) here;
  above = λ b. above_at b;
}
  where
    here : IsLeastPick (f l.place) cells fewest most l.value
    here = least_at_line f cells fewest most c fixed limit l kept line

    above_by : (t fb cost k value d w slope h : ℤ) → t ≤ℤ fb → fb ≡ (k +ℤ cost) +ℤ d *ℤ w → value ≡ k +ℤ cost → w ≡ slope → h ≡ value +ℤ d *ℤ slope → t ≤ℤ h
    above_by t fb cost k value d w slope h p q r e g = let z : d *ℤ w ≡ d *ℤ slope = ap (λ y. d *ℤ y) e in omega (arith, linear)

    above_at : (b : ℤ) → value b ≤ℤ on l b
    above_at b =
        let r = line.least.reached in
        let x = r.0 in
        let p = pick_over c cells fewest most x kept.cells_are kept.fewest_is kept.most_is r.1 in
        let q = kept.terms b x ∙ grown fixed l.place b (pos limit) (price_costs c x) (weights_of c x) ∙ ap (λ z. ((fixed -ℤ (l.place *ℤ pos limit)) +ℤ z) +ℤ ((b -ℤ l.place) *ℤ (weights_of c x -ℤ pos limit))) r.2 in
        above_by (value b) (f b x) line.cost (fixed -ℤ (l.place *ℤ pos limit)) l.value (b -ℤ l.place) (weights_of c x -ℤ pos limit) l.slope (on l b) ((least b).below x p) q line.value_is (ap (λ z. z -ℤ pos limit) r.3 ∙ sym line.slope_is) (height_is l.place l.value l.slope b)

-- ---- the Lagrangian over a multiplier is a curve of costs
pub alpha_terms : (s : Setting) (y : ℕ → ℤ) (slopes bends : List ℤ) (constant tau fixed : ℤ) (part : List Cell) (limit : ℕ) (c : CurveValue) → IsSetting s → length part ≡ s.instance.market.assets → AreTermsAt s y slopes bends constant → (s.instance.turnover ≡ None → tau ≡ pos 0) → can_meet part s.instance.held s.instance.held_most ≡ true → c ≡ curve_at s.instance slopes bends (pos 0) tau Lots part → fixed ≡ constant -ℤ turnover_price s.instance.turnover tau → limit ≡ s.instance.lots → IsCurveOf (λ m x. lag s y m tau x) part s.instance.held s.instance.held_most c fixed limit
alpha_terms s y slopes bends constant tau fixed part limit c is n terms unset met e f g =
    let I = s.instance in
    let k = curve_at I slopes bends (pos 0) tau Lots part in
    let at_lots : IsCurveOf (λ m x. lag s y m tau x) part I.held I.held_most k fixed I.lots = record {
      terms = λ m x. joined _ _ _ _ _ _ _ (lag_terms s y slopes bends constant m tau x is.instance_is.market_is terms unset) (alpha_costs I slopes bends m tau part x n) f;
      cells_are = refl;
      fewest_is = refl;
      most_is = refl;
      order = is.instance_is.limits_are.held_range;
      counted = met;
    } in
    subst (λ (z : CurveValue). IsCurveOf (λ m x. lag s y m tau x) part I.held I.held_most z fixed limit) (sym e) (subst (λ (z : ℕ). IsCurveOf (λ m x. lag s y m tau x) part I.held I.held_most k fixed z) (sym g) at_lots)
  where
    joined : (l k a t cs g fx : ℤ) → l ≡ (k -ℤ (a +ℤ t)) +ℤ cs → g ≡ cs → fx ≡ k -ℤ t → l ≡ (fx -ℤ a) +ℤ g
    joined l k a t cs g fx p q r = omega (arith, linear)

pub tau_terms : (s : Setting) (y : ℕ → ℤ) (slopes bends : List ℤ) (constant alpha fixed : ℤ) (part : List Cell) (limit : ℕ) (c : CurveValue) → IsSetting s → length part ≡ s.instance.market.assets → AreTermsAt s y slopes bends constant → s.instance.turnover ≡ Some limit → can_meet part s.instance.held s.instance.held_most ≡ true → c ≡ curve_at s.instance slopes bends alpha (pos 0) Distance part → fixed ≡ constant -ℤ (alpha *ℤ pos s.instance.lots) → IsCurveOf (λ m x. lag s y alpha m x) part s.instance.held s.instance.held_most c fixed limit
tau_terms s y slopes bends constant alpha fixed part limit c is n terms o met e f =
    let I = s.instance in
    subst (λ (z : CurveValue). IsCurveOf (λ m x. lag s y alpha m x) part I.held I.held_most z fixed limit) (sym e) (record {
      terms = λ m x. joined _ _ _ _ _ _ _ _ (lag_terms s y slopes bends constant alpha m x is.instance_is.market_is terms (λ q. let w = sym o ∙ q in cc)) (tau_costs I slopes bends alpha m part x n) f (ap (λ (t : Option ℕ). turnover_price t m) o);
      cells_are = refl;
      fewest_is = refl;
      most_is = refl;
      order = is.instance_is.limits_are.held_range;
      counted = met;
    })
  where
    joined : (l k a t cs g fx u : ℤ) → l ≡ (k -ℤ (a +ℤ t)) +ℤ cs → g ≡ cs → fx ≡ k -ℤ a → t ≡ u → l ≡ (fx -ℤ u) +ℤ g
    joined l k a t cs g fx u p q r h = omega (arith, linear)

pub void_alpha_terms : (s : Setting) (slopes bends : List ℤ) (tau fixed : ℤ) (part : List Cell) (limit : ℕ) (c : CurveValue) → IsSetting s → length part ≡ s.instance.market.assets → ((i : ℕ) → at slopes i ≡ pos 0) → ((i : ℕ) → at bends i ≡ pos 0) → (s.instance.turnover ≡ None → tau ≡ pos 0) → can_meet part s.instance.held s.instance.held_most ≡ true → c ≡ curve_at s.instance slopes bends (pos 0) tau Lots part → fixed ≡ pos 0 -ℤ turnover_price s.instance.turnover tau → limit ≡ s.instance.lots → IsCurveOf (λ m x. void_lag s m tau x) part s.instance.held s.instance.held_most c fixed limit
void_alpha_terms s slopes bends tau fixed part limit c is n hs hb unset met e f g =
    let I = s.instance in
    let k = curve_at I slopes bends (pos 0) tau Lots part in
    let at_lots : IsCurveOf (λ m x. void_lag s m tau x) part I.held I.held_most k fixed I.lots = record {
      terms = λ m x. joined _ _ _ _ _ _ (void_terms s slopes bends m tau x hs hb unset) (alpha_costs I slopes bends m tau part x n) f;
      cells_are = refl;
      fewest_is = refl;
      most_is = refl;
      order = is.instance_is.limits_are.held_range;
      counted = met;
    } in
    subst (λ (z : CurveValue). IsCurveOf (λ m x. void_lag s m tau x) part I.held I.held_most z fixed limit) (sym e) (subst (λ (z : ℕ). IsCurveOf (λ m x. void_lag s m tau x) part I.held I.held_most k fixed z) (sym g) at_lots)
  where
    joined : (l a t cs g fx : ℤ) → l ≡ (pos 0 -ℤ (a +ℤ t)) +ℤ cs → g ≡ cs → fx ≡ pos 0 -ℤ t → l ≡ (fx -ℤ a) +ℤ g
    joined l a t cs g fx p q r = omega (arith, linear)

-- ---- theta, where the count can be met
pub theta_over_alpha : (s : Setting) (part : List Cell) (y : ℕ → ℤ) (tau : ℤ) → AreCells part → s.instance.held ≤ s.instance.held_most → can_meet part s.instance.held s.instance.held_most ≡ true → (m : ℤ) → IsLeastPick (lag s y m tau) part s.instance.held s.instance.held_most (alpha_curve s part y tau m)
theta_over_alpha s part y tau valid order met m =
    let t = theta_some s part y m tau valid order met in
    subst (λ (z : ℤ). IsLeastPick (lag s y m tau) part s.instance.held s.instance.held_most z) (sym (ap or_zero (theta_is s part y m tau t.0 t.1))) t.1

pub theta_over_tau : (s : Setting) (part : List Cell) (y : ℕ → ℤ) (alpha : ℤ) → AreCells part → s.instance.held ≤ s.instance.held_most → can_meet part s.instance.held s.instance.held_most ≡ true → (m : ℤ) → IsLeastPick (lag s y alpha m) part s.instance.held s.instance.held_most (tau_curve s part y alpha m)
theta_over_tau s part y alpha valid order met m =
    let t = theta_some s part y alpha m valid order met in
    subst (λ (z : ℤ). IsLeastPick (lag s y alpha m) part s.instance.held s.instance.held_most z) (sym (ap or_zero (theta_is s part y alpha m t.0 t.1))) t.1

-- theta is the value of a line of its curve
pub theta_at_line : (s : Setting) (part : List Cell) (y : ℕ → ℤ) (alpha tau : ℤ) (l : Line) → AreCells part → s.instance.held ≤ s.instance.held_most → can_meet part s.instance.held s.instance.held_most ≡ true → l.place ≡ alpha → IsLine (alpha_curve s part y tau) l → Some l.value ≡ theta s part y alpha tau
theta_at_line s part y alpha tau l valid order met e line =
    let t = theta_some s part y alpha tau valid order met in
    let f = theta_is s part y alpha tau t.0 t.1 in
    let g : t.0 ≡ l.value = sym (ap or_zero f) ∙ ap (λ z. or_zero (theta s part y z tau)) (sym e) ∙ line.exact in
    ap Some (sym g) ∙ sym f

pub void_theta_at_line : (s : Setting) (part : List Cell) (alpha tau fixed : ℤ) (c : CurveValue) (limit : ℕ) (l : Line) → l.place ≡ alpha → IsCurveOf (λ m x. void_lag s m tau x) part s.instance.held s.instance.held_most c fixed limit → IsCostLine c fixed limit l → Some l.value ≡ void_theta s part alpha tau
void_theta_at_line s part alpha tau fixed c limit l e kept line = sym (void_theta_is s part alpha tau l.value (subst (λ (z : ℤ). IsLeastPick (void_lag s z tau) part s.instance.held s.instance.held_most l.value) e (least_at_line (λ m x. void_lag s m tau x) part s.instance.held s.instance.held_most c fixed limit l kept line)))
