-- Each list of a part is in the part of exactly one leaf of a tree there, and what the leaves show is right for it.

use Rattle.std.proofs.Common.{◌≡◌, ℕ, ◌+◌, Bool, true, false, cond, ◌⊎◌, inl, inr, List, [], ◌∷◌, ◌++◌, map, sum_by, Contains, IsTrue, Option, Some, None, ℤ, pos, ◌*ℤ◌, ◌≤ℤ◌, int_lt, refl, ap, arith}
use Rattle.std.proofs.lemmas.Int.{ints}
use Rattle.std.proofs.lemmas.List.{map-append}
use Rattle.std.proofs.lemmas.List.Sums.{sum_by-append}
use Rattle.std.proofs.lemmas.List.Elements.{Contains-append_left, Contains-append_right}
use Rattle.gap_base.specs.Lots.{lots_at}
use Rattle.gap_box.specs.declared.cell.Cell.{Cell}
use Rattle.gap_box.specs.declared.split.Side.TheVariants.{First, Second}
use Rattle.gap_box.specs.Cells.{AreCells}
use Rattle.gap_box.specs.Parts.{in_part, indicator, can_meet, IsPick}
use Rattle.gap_box.specs.Splits.{child_cells}
use Rattle.gap_box.proofs.CountLaws.{pick_meets}
use Rattle.gap_box.proofs.SplitLaws.{child_once, child_are}
use Rattle.gap_instance.specs.Limits.{MeetsLimits}
use Rattle.gap_instance.specs.Objective.{objective}
use Rattle.gap_model.specs.declared.leaf.Leaf.{Leaf}
use Rattle.gap_model.specs.declared.leaf.Leaf.TheVariants.{Count, Void, Tangent}
use Rattle.gap_model.specs.declared.shown.Shown.{Shown}
use Rattle.gap_model.specs.declared.shown.Shown.TheVariants.{Nothing, AtLeast, Empty}
use Rattle.gap_model.specs.Settings.{Setting, IsSetting}
use Rattle.gap_model.specs.Lagrangian.{lag}
use Rattle.gap_model.specs.Theta.{theta, void_theta}
use Rattle.gap_model.specs.Order.{ShownLe}
use Rattle.gap_model.specs.Leaves.{eighths_at, void_shows, tangent_shows, shows}
use Rattle.gap_model.proofs.LimitLaws.{picked}
use Rattle.gap_model.proofs.LagLaws.{lag_below, void_lag_below, lag_same}
use Rattle.gap_model.proofs.LeafLaws.{sixty_fourth_least}
use Rattle.gap_model.proofs.ThetaLaws.{theta_least, void_theta_least, theta_none_iff, void_theta_none_iff, theta_from_same}
use Rattle.gap_cert.specs.Certificates.{CertLeaf, count, void, tangent, CertTree, tip, fork}
use Rattle.gap_valid.specs.CertTrees.{IsFormed, PlacedLeaf, cert_leaves, leaf_shows, placed_shows, least_shown, IsLeafIn, IsSameLeaf}
use Rattle.gap_model.proofs.OrderLaws.{shown_le_trans}
use Rattle.gap_valid.proofs.ShownLaws.{lesser_left, least_left, least_right, contains_first}

-- ---- each list is in the part of exactly one leaf
pub covered : (part : List Cell) (tree : CertTree) (x : List ℕ) → AreCells part → IsFormed part tree → sum_by (λ (placed : PlacedLeaf). indicator (in_part placed.part x)) (cert_leaves part tree) ≡ indicator (in_part part x)
covered part (tip leaf) x cells f = omega arith
covered part (fork split first second) x cells f =
    let a = covered (child_cells part split First) first x (child_are part split First cells f.0) f.1 in
    let b = covered (child_cells part split Second) second x (child_are part split Second cells f.0) f.2 in
    let c = child_once part split cells f.0 x in
    let d = sum_by-append (λ (placed : PlacedLeaf). indicator (in_part placed.part x)) (cert_leaves (child_cells part split First) first) (cert_leaves (child_cells part split Second) second) in
    omega arith

-- ---- what one leaf shows of a list that meets the limits
picked_here : (s : Setting) (part : List Cell) (x : List ℕ) → IsSetting s → MeetsLimits s.instance x → IsTrue (in_part part x) → IsPick part s.instance.held s.instance.held_most x
picked_here s part x is m i = let p = picked s.instance x is.instance_is m in record { inside = i; few = p.few; many = p.many }

met : (s : Setting) (part : List Cell) (x : List ℕ) → IsSetting s → AreCells part → MeetsLimits s.instance x → IsTrue (in_part part x) → can_meet part s.instance.held s.instance.held_most ≡ true
met s part x is cells m i = pick_meets part s.instance.held s.instance.held_most x cells (picked_here s part x is m i)

nothing_shown : (t v : ℤ) → t ≤ℤ pos 0 → ShownLe (void_shows (Some t)) (AtLeast v)
nothing_shown t v h = by_test (int_lt (pos 0) t) (grind (arith, ints))
  where
    by_test : (b : Bool) → b ≡ false → ShownLe (cond b Empty Nothing) (AtLeast v)
    by_test true e = absurd (cc)
    by_test false e = tt

void_below : (s : Setting) (part : List Cell) (alpha tau : ℤ) (x : List ℕ) → IsSetting s → AreCells part → MeetsLimits s.instance x → IsTrue (in_part part x) → pos 0 ≤ℤ tau → (v : ℤ) (o : Option ℤ) → void_theta s part alpha tau ≡ o → ShownLe (void_shows o) (AtLeast v)
void_below s part alpha tau x is cells m i t v None e =
    absurd (both (met s part x is cells m i) ((void_theta_none_iff s part alpha tau cells is.instance_is.limits_are.held_range).0 e))
  where
    both : {b : Bool} → b ≡ true → b ≡ false → ⊥
    both p q = cc
void_below s part alpha tau x is cells m i t v (Some u) e =
    let a = (void_theta_least s part alpha tau u e).below x (picked_here s part x is m i) in
    let b = void_lag_below s alpha tau x t m in
    nothing_shown u v (omega (arith, ints))

tangent_below : (s : Setting) (part : List Cell) (y : ℕ → ℤ) (alpha tau : ℤ) (x : List ℕ) → IsSetting s → AreCells part → MeetsLimits s.instance x → IsTrue (in_part part x) → pos 0 ≤ℤ tau → (o : Option ℤ) → theta s part y alpha tau ≡ o → ShownLe (tangent_shows o) (AtLeast (objective s.instance s.p s.q x))
tangent_below s part y alpha tau x is cells m i t None e =
    absurd (both (met s part x is cells m i) ((theta_none_iff s part y alpha tau cells is.instance_is.limits_are.held_range).0 e))
  where
    both : {b : Bool} → b ≡ true → b ≡ false → ⊥
    both p q = cc
tangent_below s part y alpha tau x is cells m i t (Some u) e =
    let a = (theta_least s part y alpha tau u e).below x (picked_here s part x is m i) in
    let b = lag_below s y alpha tau x is t m in
    sixty_fourth_least u (objective s.instance s.p s.q x) (between u (lag s y alpha tau x) (pos 64 *ℤ objective s.instance s.p s.q x) a b)
  where
    between : (u v w : ℤ) → u ≤ℤ v → v ≤ℤ w → u ≤ℤ w
    between u v w p q = omega (arith, ints)

pub leaf_below : (s : Setting) (part : List Cell) (leaf : CertLeaf) (x : List ℕ) → IsSetting s → AreCells part → MeetsLimits s.instance x → IsTrue (in_part part x) → IsLeafIn s.instance leaf → ShownLe (leaf_shows s part leaf) (AtLeast (objective s.instance s.p s.q x))
unfolding leaf_shows
leaf_below s part count x is cells m i l = rw (met s part x is cells m i) tt
leaf_below s part (void alpha tau) x is cells m i l = void_below s part alpha tau x is cells m i l.tau_least (objective s.instance s.p s.q x) (void_theta s part alpha tau) refl
leaf_below s part (tangent w) x is cells m i l = tangent_below s part (lots_at w.y) w.alpha w.tau x is cells m i l.multipliers.tau_least (theta s part (lots_at w.y) w.alpha w.tau) refl

-- ---- the least that the leaves of a tree show is right for each list of the part
one_side : (p q r : Bool) → indicator p ≡ indicator q + indicator r → p ≡ true → (q ≡ true) ⊎ (r ≡ true)
one_side p true r e h = inl refl
one_side p false true e h = inr refl
one_side true false false e h = absurd (omega arith)
one_side false false false e h = cc

-- the least of two lists is no more than a bound of the least of one of them
least_of_sides : {P Q : Type 0} (firsts seconds : List Shown) (bound : Shown) → P ⊎ Q → (P → ShownLe (least_shown firsts) bound) → (Q → ShownLe (least_shown seconds) bound) → ShownLe (least_shown (firsts ++ seconds)) bound
least_of_sides firsts seconds bound (inl p) f g = shown_le_trans (least_shown (firsts ++ seconds)) (least_shown firsts) bound (least_left firsts seconds) (f p)
least_of_sides firsts seconds bound (inr q) f g = shown_le_trans (least_shown (firsts ++ seconds)) (least_shown seconds) bound (least_right firsts seconds) (g q)

pub least_below : (s : Setting) (part : List Cell) (tree : CertTree) (x : List ℕ) → IsSetting s → AreCells part → MeetsLimits s.instance x → IsTrue (in_part part x) → IsFormed part tree → ((placed : PlacedLeaf) → Contains (cert_leaves part tree) placed → IsLeafIn s.instance placed.leaf) → ShownLe (least_shown (map (placed_shows s) (cert_leaves part tree))) (AtLeast (objective s.instance s.p s.q x))
least_below s part (tip leaf) x is cells m i f l =
    shown_le_trans (least_shown (leaf_shows s part leaf ∷ [])) (leaf_shows s part leaf) (AtLeast (objective s.instance s.p s.q x)) (lesser_left (leaf_shows s part leaf) Empty)
    (leaf_below s part leaf x is cells m i (l (record { part = part; leaf = leaf }) (contains_first (record { part = part; leaf = leaf }) [])))
least_below s part (fork split first second) x is cells m i f l =
    rw (map-append (placed_shows s) (cert_leaves (child_cells part split First) first) (cert_leaves (child_cells part split Second) second))
    (least_of_sides (map (placed_shows s) (cert_leaves (child_cells part split First) first)) (map (placed_shows s) (cert_leaves (child_cells part split Second) second)) (AtLeast (objective s.instance s.p s.q x)) (one_side _ _ _ (child_once part split cells f.0 x) i)
    (λ h. least_below s (child_cells part split First) first x is (child_are part split First cells f.0) m h f.1 (λ placed c. l placed (Contains-append_left (cert_leaves (child_cells part split First) first) (cert_leaves (child_cells part split Second) second) placed c)))
    (λ h. least_below s (child_cells part split Second) second x is (child_are part split Second cells f.0) m h f.2 (λ placed c. l placed (Contains-append_right (cert_leaves (child_cells part split First) first) (cert_leaves (child_cells part split Second) second) placed c))))

-- ---- the same leaf of the tangent bound
pub same_shown : (s : Setting) (part : List Cell) (leaf : CertLeaf) (same : Leaf) → IsSameLeaf s leaf same → shows s part same ≡ leaf_shows s part leaf
unfolding shows leaf_shows
same_shown s part count Count h = refl
same_shown s part count (Void alpha tau third) h = absurd h
same_shown s part count (Tangent y alpha tau third) h = absurd h
same_shown s part (void a t) Count h = absurd h
same_shown s part (void a t) (Void alpha tau third) h = rw (h.0, h.1, h.2) refl
same_shown s part (void a t) (Tangent y alpha tau third) h = absurd h
same_shown s part (tangent w) Count h = absurd h
same_shown s part (tangent w) (Void alpha tau third) h = absurd h
same_shown s part (tangent w) (Tangent y alpha tau third) h =
    rw (h.1, h.2, h.3) (ap tangent_shows (theta_from_same s part (eighths_at y.now) (lots_at w.y) w.alpha w.tau (λ x. lag_same s (eighths_at y.now) (lots_at w.y) w.alpha w.tau x h.0)))
