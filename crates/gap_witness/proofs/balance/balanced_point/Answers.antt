use Rattle.std.proofs.Common.{◌≡◌, ℕ, ◌+◌, ◌-◌, ◌*◌, ◌<◌, ◌≤◌, min, List, [], ◌∷◌, ◌++◌, length, take, refl, sym, ap, ◌∙◌, arith, length-set, rules}
use Rattle.std.specs.Prelude.{slice_set}
use Rattle.std.proofs.lemmas.Grind.{take-set_at, common_steps}
use Rattle.std.proofs.Math.Seq.{take-length}
use Rattle.std.proofs.lemmas.Bool.Decides.{nat_tests}
use Rattle.gap_witness.specs.Places.{table}
use Rattle.gap_witness.specs.Points.{balanced, clamped, lower_end, upper_end, first_point}
use Rattle.gap_witness.specs.Frames.{setting_in, choice_in}
use Rattle.gap_witness.proofs.PlaceLaws.{table_none, table_more, left_none, left_more, zeros_most, set_most}
use Rattle.gap_witness.proofs.balance.balanced_point.Goals as goal

written : (v v' a a' m m' b b' s s' x z : ℕ) → v ≡ v' → x ≡ min a m → a ≡ a' → m ≡ m' → z ≡ min b s → b ≡ b' → s ≡ s' → (v + x) - z ≡ (v' + min a' m') - min b' s'
written v v' a a' m m' b b' s s' x z ev ex ea em ez eb es = rw (ev, ex, ea, em, ez, eb, es) refl

put_next : (n i w : ℕ) (y : List ℕ) (f : ℕ → ℕ) → i < length y → take i y ≡ table i f → w ≡ f i → (z : List ℕ) → z ≡ slice_set y i w → take (i + 1) z ≡ table (i + 1) f
put_next n i w y f l e v z q = ap (take (i + 1)) q ∙ take-set_at y i (i + 1) w refl l ∙ ap (λ (xs : List ℕ). xs ++ w ∷ []) e ∙ ap (λ (u : ℕ). table i f ++ u ∷ []) v ∙ sym (table_more i f)

raised_most : (v u a m x z : ℕ) → v ≤ 80000 → u ≤ 80000 → a ≡ u - v → x ≡ min a m → (v + x) - z ≤ 80000
raised_most v u a m x z h k e f = omega arith

pub loop-i-init : goal.loop-i-init
loop-i-init c =
    let l = c.budget-budget.ensures.value in
    let t = c.total-sum.ensures.value in
    let m = c.saturating_sub-missing.ensures in
    let s = c.saturating_sub-surplus.ensures in
    let z = c.zeros-y.ensures in
    let e = c.len.ensures.length in
    record {
      most = zeros_most c.zeros-y.result _ z;
      count = ap length z ∙ search (rules, common_steps);
      made = sym (table_none _);
      missing_is = left_none _ c.saturating_sub-missing.result _ (omega arith);
      surplus_is = left_none _ c.saturating_sub-surplus.result _ (omega arith);
    }

pub loop-i-preserved : goal.loop-i-preserved
loop-i-preserved c =
    let i = c.loop-i.invariant in
    let n = i.count in
    let e = c.len-i-end.ensures.length in
    let t = c.loop-i-test.true in
    let there : c.loop-i.i < length c.loop-i.y = first_of (omega arith, grind (arith, nat_tests)) in
    let o = choice_in c.args.frame.now in
    let hint = c.args.hint.now in
    let k = c.loop-i.i in
    let v = c.brought-v.ensures.value in
    let u = c.upper.ensures.value in
    let w = c.lower.ensures.value in
    let sa = c.saturating_sub-above.ensures in
    let sb = c.saturating_sub-below.ensures in
    let a : c.saturating_sub-above.result ≡ upper_end o k - clamped o hint k = sa ∙ ap (λ (x : ℕ). x - c.brought-v.result) u ∙ ap (λ (x : ℕ). upper_end o k - x) v in
    let b : c.saturating_sub-below.result ≡ clamped o hint k - lower_end o k = sb ∙ ap (λ (x : ℕ). x - c.lower.result) v ∙ ap (λ (x : ℕ). clamped o hint k - x) w in
    record {
      most = set_most c.loop-i.y c.set.new.self k _ 80000 there (raised_most c.brought-v.result c.upper.result c.saturating_sub-above.result c.loop-i.missing c.min.result c.min-in-loop-i.result c.brought-v.ensures.most c.upper.ensures.most sa c.min.ensures) i.most c.set.ensures;
      count = ap length c.set.ensures ∙ length-set _ _ _ ∙ n;
      made = put_next 0 k _ c.loop-i.y (balanced o _ (clamped o hint)) there i.made (written c.brought-v.result _ c.saturating_sub-above.result _ c.loop-i.missing _ c.saturating_sub-below.result _ c.loop-i.surplus _ c.min.result c.min-in-loop-i.result v c.min.ensures a i.missing_is c.min-in-loop-i.ensures b i.surplus_is) c.set.new.self c.set.ensures;
      missing_is = left_more _ c.loop-i.missing _ k c.saturating_sub-above.result _ i.missing_is a c.saturating_sub-missing-in-loop-i.ensures;
      surplus_is = left_more _ c.loop-i.surplus _ k c.saturating_sub-below.result _ i.surplus_is b c.saturating_sub-surplus-in-loop-i.ensures;
    }

pub returns-clause-value : goal.returns-clause-value
unfolding first_point
returns-clause-value c =
    let i = c.loop-i.invariant in
    let n = i.count in
    let e = c.len-i-end.ensures.length in
    let t = c.loop-i-test.false in
    let x = c.loop-i.auto in
    let ends : c.loop-i.i ≡ length c.args.frame.now.part.now = first_of (omega arith, grind (arith, nat_tests)) in
    sym (take-length c.loop-i.y) ∙ ap (λ (k : ℕ). take k c.loop-i.y) (n ∙ sym ends) ∙ i.made ∙ ap (λ (k : ℕ). table k (balanced (choice_in c.args.frame.now) (8 * (setting_in c.args.frame.now).instance.lots) (clamped (choice_in c.args.frame.now) c.args.hint.now))) ends
