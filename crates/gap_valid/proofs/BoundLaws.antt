-- A valid certificate bounds: what it tells of each weight is right.

use Rattle.std.proofs.Common.{◌≡◌, ℕ, true, false, List, [], ◌∷◌, map, All, Contains, Option, Some, None, ℤ, refl, sym, subst}
use Rattle.std.specs.Option.{ForSome}
use Rattle.std.proofs.lemmas.List.Elements.{All-contains, All-map, All-weaker, All-head, All-tail}
use Rattle.gap_base.specs.declared.weight.Weight.{Weight}
use Rattle.gap_base.specs.declared.witness.Witness.{Witness}
use Rattle.gap_instance.specs.Limits.{MeetsLimits}
use Rattle.gap_instance.specs.Objective.{cov_of, objective}
use Rattle.gap_psd.specs.Shifts.{IsDominantShift}
use Rattle.gap_model.specs.declared.outcome.Best.{Best}
use Rattle.gap_model.specs.declared.shown.Shown.{Shown}
use Rattle.gap_model.specs.declared.shown.Shown.TheVariants.{AtLeast, Empty}
use Rattle.gap_model.specs.Settings.{Setting, IsSetting}
use Rattle.gap_model.specs.Order.{ShownLe}
use Rattle.gap_model.specs.Outcomes.{IsRight, IsToldRight, HasNone, IsLowerBound}
use Rattle.gap_model.proofs.LimitLaws.{picked}
use Rattle.gap_tangent.proofs.SettingLaws.{setting_is}
use Rattle.gap_cert.specs.Certificates.{tangent, CertClaim, closed, none, open_at, unfound, CertHead, CertSection, Certificate}
use Rattle.gap_valid.specs.Heads.{market_in, instance_in, shift_in, setting_in, root_in, IsHead}
use Rattle.gap_valid.specs.CertTrees.{cert_splits, PlacedLeaf, cert_leaves, placed_shows, least_shown, overall_shows, shown_bound, IsWitness, has_point}
use Rattle.gap_valid.specs.Valid.{IsWeight, IsRightLeaf, IsClosed, IsClaimRight, is_open, IsValidSection, IsValid}
use Rattle.gap_valid.specs.Verdicts.{outcome_in, told_in, verdict_of}
use Rattle.gap_valid.proofs.HeadLaws.{instance_is, shift_is, root_is}
use Rattle.gap_model.proofs.OrderLaws.{shown_le_trans}
use Rattle.gap_valid.proofs.ShownLaws.{le_both, greater_most}
use Rattle.gap_valid.proofs.TreeLaws.{leaf_below, least_below}

same_assets : (h : CertHead) → (instance_in h).market.assets ≡ (shift_in h).assets
unfolding instance_in shift_in market_in
same_assets h = refl

setting_holds : (h : CertHead) (w : Weight) → IsHead h → IsDominantShift (cov_of (instance_in h).market) (shift_in h) → IsWeight w → IsSetting (setting_in h w)
setting_holds h w is d weight = setting_is (instance_in h) (shift_in h) w (instance_is h is) (shift_is h is) (same_assets h) d weight.within weight.most

-- ---- what a section's tree shows is right for every list that meets the limits
least_right_for : (h : CertHead) (s : CertSection) (x : List ℕ) → IsHead h → IsSetting (setting_in h s.weight) → IsValidSection h s → MeetsLimits (instance_in h) x → ShownLe (least_shown (map (placed_shows (setting_in h s.weight)) (cert_leaves (root_in h) s.tree))) (AtLeast (objective (instance_in h) s.weight.p s.weight.q x))
least_right_for h s x is set v m =
    least_below (setting_in h s.weight) (root_in h) s.tree x set (root_is h is) m (picked (instance_in h) x (instance_is h is) m).inside v.formed
    (λ placed c. (All-contains (IsRightLeaf (setting_in h s.weight)) (cert_leaves (root_in h) s.tree) placed v.leaves_are c).ranges)

overall_right_for : (h : CertHead) (w : Weight) (overall : Option Witness) (x : List ℕ) → IsHead h → IsSetting (setting_in h w) → ForSome overall (IsWitness (instance_in h)) → MeetsLimits (instance_in h) x → ShownLe (overall_shows (setting_in h w) (root_in h) overall) (AtLeast (objective (instance_in h) w.p w.q x))
overall_right_for h w None x is set o m = tt
overall_right_for h w (Some y) x is set o m = leaf_below (setting_in h w) (root_in h) (tangent y) x set (root_is h is) m (picked (instance_in h) x (instance_is h is) m).inside (o y refl)

bound_right_for : (h : CertHead) (s : CertSection) (overall : Option Witness) (x : List ℕ) → IsHead h → IsSetting (setting_in h s.weight) → IsValidSection h s → ForSome overall (IsWitness (instance_in h)) → MeetsLimits (instance_in h) x → ShownLe (shown_bound (setting_in h s.weight) (root_in h) overall s.tree) (AtLeast (objective (instance_in h) s.weight.p s.weight.q x))
unfolding shown_bound
bound_right_for h s overall x is set v o m = greater_most _ _ _ (overall_right_for h s.weight overall x is set o m) (least_right_for h s x is set v m)

-- a number that is shown is no more than the objective of any list that meets the limits
lower_bound : (h : CertHead) (s : CertSection) (overall : Option Witness) (v : ℤ) → IsHead h → IsSetting (setting_in h s.weight) → IsValidSection h s → ForSome overall (IsWitness (instance_in h)) → ShownLe (AtLeast v) (shown_bound (setting_in h s.weight) (root_in h) overall s.tree) → IsLowerBound (instance_in h) s.weight.p s.weight.q v
lower_bound h s overall v is set valid o shown x m = shown_le_trans (AtLeast v) (shown_bound (setting_in h s.weight) (root_in h) overall s.tree) (AtLeast (objective (instance_in h) s.weight.p s.weight.q x)) shown (bound_right_for h s overall x is set valid o m)

-- ---- where no leaf has a tangent point each of them shows Empty, so no list meets the limits
all_empty : (s : Setting) (leaves : List PlacedLeaf) → All (IsRightLeaf s) leaves → All (λ placed. has_point placed.leaf ≡ false) leaves → least_shown (map (placed_shows s) leaves) ≡ Empty
all_empty s [] right no_point = refl
all_empty s (placed ∷ leaves) right no_point =
    rw ((All-head (IsRightLeaf s) placed leaves right).empty (All-head (λ (p : PlacedLeaf). has_point p.leaf ≡ false) placed leaves no_point))
    (all_empty s leaves (All-tail (IsRightLeaf s) placed leaves right) (All-tail (λ (p : PlacedLeaf). has_point p.leaf ≡ false) placed leaves no_point))

no_list : (h : CertHead) (s : CertSection) → IsHead h → IsSetting (setting_in h s.weight) → IsValidSection h s → All (λ placed. has_point placed.leaf ≡ false) (cert_leaves (root_in h) s.tree) → HasNone (instance_in h)
no_list h s is set v no_point x m = subst (λ (a : Shown). ShownLe a (AtLeast (objective (instance_in h) s.weight.p s.weight.q x))) (all_empty (setting_in h s.weight) (cert_leaves (root_in h) s.tree) v.leaves_are no_point) (least_right_for h s x is set v m)

-- ---- what a section tells is right
claim_right : (h : CertHead) (s : CertSection) (claim : CertClaim) → IsHead h → IsSetting (setting_in h s.weight) → IsValidSection h s → IsClaimRight h s.weight s.tree claim → IsRight (instance_in h) s.weight.p s.weight.q (outcome_in claim)
claim_right h s (closed best overall) is set v c = (c.portfolio, lower_bound h s overall best.value is set v c.overall_is c.shown)
claim_right h s none is set v c = no_list h s is set v c
claim_right h s (open_at best bound overall) is set v c = (lower_bound h s overall bound is set v c.said.overall_is c.shown, (c.portfolio, c.below))
claim_right h s (unfound bound overall) is set v c = (lower_bound h s overall bound is set v c.said.overall_is c.shown, tt)

section_right : (h : CertHead) (s : CertSection) → IsHead h → IsDominantShift (cov_of (instance_in h).market) (shift_in h) → IsValidSection h s → IsToldRight (instance_in h) (told_in s)
section_right h s is d v = claim_right h s s.claim is (setting_holds h s.weight is d v.weight_is) v v.claim_is

pub told_right : (c : Certificate) → IsValid c → All (IsToldRight (instance_in c.head)) (verdict_of c).sections
told_right c v = All-map (IsToldRight (instance_in c.head)) told_in c.sections (All-weaker (IsValidSection c.head) (λ s. IsToldRight (instance_in c.head) (told_in s)) (λ s p. section_right c.head s v.head_is v.dominant p) c.sections v.sections_are)

-- ---- a closed section shows exactly its objective
closed_section : (h : CertHead) (s : CertSection) (best : Best) (overall : Option Witness) → IsHead h → IsDominantShift (cov_of (instance_in h).market) (shift_in h) → IsValidSection h s → IsClosed h s.weight s.tree best overall → shown_bound (setting_in h s.weight) (root_in h) overall s.tree ≡ AtLeast best.value
closed_section h s best overall is d v c =
    let set = setting_holds h s.weight is d v.weight_is in
    let below = bound_right_for h s overall best.lots is set v c.overall_is c.portfolio.meets in
    le_both _ (AtLeast best.value) (subst (λ (z : ℤ). ShownLe (shown_bound (setting_in h s.weight) (root_in h) overall s.tree) (AtLeast z)) (sym c.portfolio.value_is) below) c.shown

pub closed_shows : (c : Certificate) (s : CertSection) (best : Best) (overall : Option Witness) → IsValid c → Contains c.sections s → s.claim ≡ closed best overall → shown_bound (setting_in c.head s.weight) (root_in c.head) overall s.tree ≡ AtLeast best.value
closed_shows c s best overall v i e =
    let valid = All-contains (IsValidSection c.head) c.sections s v.sections_are i in
    closed_section c.head s best overall v.head_is v.dominant valid (subst (IsClaimRight c.head s.weight s.tree) e valid.claim_is)

-- ---- the tree of an open section has as many splits as the budget
claim_spent : (h : CertHead) (s : CertSection) (claim : CertClaim) → IsClaimRight h s.weight s.tree claim → is_open claim ≡ true → cert_splits s.tree ≡ h.nodes
claim_spent h s (closed best overall) c e = cc
claim_spent h s none c e = cc
claim_spent h s (open_at best bound overall) c e = c.spent
claim_spent h s (unfound bound overall) c e = c.spent

pub open_spent : (c : Certificate) (s : CertSection) → IsValid c → Contains c.sections s → is_open s.claim ≡ true → cert_splits s.tree ≡ c.head.nodes
open_spent c s v i e = claim_spent c.head s s.claim (All-contains (IsValidSection c.head) c.sections s v.sections_are i).claim_is e
