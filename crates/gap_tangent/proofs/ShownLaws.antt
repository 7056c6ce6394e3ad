-- What code tells of the third multiplier and of the 64th part, and what leaves in range say.

use Rattle.std.proofs.Common.{◌≡◌, ℕ, zero, suc, ◌*◌, ◌≤◌, Bool, true, ◌&&◌, leb, List, sum_by, eqb, length, Option, Some, None, is_some, not, IsNone, ◌↔◌, FitsSigned, of_z, ℤ, pos, negsuc, ◌*ℤ◌, ◌≤ℤ◌, refl, sym, ◌∙◌, arith}
use Rattle.std.proofs.lemmas.Int.{ints}
use Rattle.std.proofs.lemmas.Bool.{and_parts, leb-true, eq-eqb, ne_eqb, false_from_ne_true, true≢false, not-true, not-false}
use Rattle.std.specs.Int.{w128}
use Rattle.gap_box.specs.Parts.{root_cells}
use Rattle.gap_box.proofs.PartLaws.{length-root}
use Rattle.gap_instance.specs.Instances.{InstanceValue, IsInstance}
use Rattle.gap_instance.specs.Limits.{MeetsLimits}
use Rattle.gap_instance.specs.declared.keeps.Broken.{Broken}
use Rattle.gap_model.specs.Limits.{meets_limits}
use Rattle.gap_model.proofs.LimitLaws.{meets_true, meets_from}
use Rattle.gap_model.specs.declared.leaf.Entry.{Entry}
use Rattle.gap_model.specs.Settings.{Setting}
use Rattle.gap_model.specs.Leaves.{is_zero, ascend, are_multipliers, AreEntries, AreMultipliers}
use Rattle.gap_model.proofs.LeafLaws.{entries_are, multipliers_are}

-- a tangent leaf in range
pub record IsTangentInRange (s : Setting) (y : List Entry) (alpha tau : ℤ) : Type 0 where
  pub entries : AreEntries s.instance.market.assets y
  pub most : sum_by (λ (e : Entry). e.eighths) y ≤ 8 * s.instance.lots
  pub multipliers : AreMultipliers s.instance.turnover alpha tau

pub tangent_in_range : (s : Setting) (y : List Entry) (alpha tau : ℤ) → (ascend 0 s.instance.market.assets y && (leb (sum_by (λ (e : Entry). e.eighths) y) (8 * s.instance.lots) && are_multipliers s.instance.turnover alpha tau)) ≡ true → IsTangentInRange s y alpha tau
tangent_in_range s y alpha tau e =
    let a = and_parts (ascend 0 s.instance.market.assets y) _ e in
    let b = and_parts (leb (sum_by (λ (e : Entry). e.eighths) y) (8 * s.instance.lots)) _ a.1 in
    record { entries = entries_are _ y a.0; most = leb-true _ _ b.0; multipliers = multipliers_are _ alpha tau b.1 }

-- the test of a machine number for 0
pub zero_is : (z : ℤ) → FitsSigned w128 z → eqb (of_z w128 z) 0 ≡ is_zero z
zero_is (pos zero) h = eq-eqb 0 0 refl
zero_is (pos (suc n)) h = ne_eqb (suc n) 0 (λ e. omega arith)
zero_is (negsuc n) h = let s = h.sfits in ne_eqb _ 0 (λ e. omega arith)

-- the first broken limit is none exactly where the test of the limits holds
pub keeps_from : (I : InstanceValue) (x : List ℕ) (o : Option Broken) (b : Bool) → is_some o ≡ not b → (IsNone o ↔ MeetsLimits I x) → b ≡ meets_limits I x
keeps_from I x None b e h = not-false b (sym e) ∙ sym (meets_from I x (h.0 refl))
keeps_from I x (Some k) b e h = not-true b (sym e) ∙ sym (false_from_ne_true (meets_limits I x) (λ m. true≢false (h.1 (meets_true I x m))))

pub root_count : (I : InstanceValue) → IsInstance I → length (root_cells I.least I.greatest) ≡ I.market.assets
root_count I is = length-root I.least I.greatest (is.limits_are.least_within.count ∙ sym is.limits_are.greatest_within.count) ∙ is.limits_are.least_within.count
