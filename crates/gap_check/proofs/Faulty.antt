-- An item that is at fault isn't right.
use Rattle.std.proofs.Common.{◌≡◌, ℕ, inl, inr, Some, ℤ, pos, ◌<ℤ◌, ◌≤ℤ◌, refl, sym, ap, ◌∙◌, subst, arith}
use Rattle.std.proofs.lemmas.Int.{ints}
use Rattle.gap_instance.proofs.LimitLaws.{broken_not_kept}
use Rattle.gap_model.specs.declared.shown.Shown.TheVariants.{AtLeast, Empty}
use Rattle.gap_model.specs.declared.cert_fault.CertFault.{CertFault}
use Rattle.gap_model.specs.Leaves.{void_shows}
use Rattle.gap_model.specs.Order.{ShownLe}
use Rattle.gap_cert.specs.declared.field.Field.{Field}
use Rattle.gap_cert.specs.declared.field.Field.TheVariants as field
use Rattle.gap_cert.specs.Certificates.{CertHead, CertLeaf, count, void, tangent}
use Rattle.gap_valid.specs.CertTrees.{leaf_shows}
use Rattle.gap_valid.specs.Heads.{instance_in}
use Rattle.gap_judge.specs.Progress.{Progress, with_leaf, with_diagonal}
use Rattle.gap_judge.specs.Faults.{IsItemRight, IsItemFault, IsDominantHead, IsShiftFault, IsLeafRight, IsLeafFault, IsEndFault, IsWeak, EndsWell, IsWrongLeaf, IsRightNext}

apart : (a b : ℤ) → a <ℤ b → b ≤ℤ a → ⊥
apart a b h k = grind (arith, ints)

pub row_apart : (d o x y : ℤ) → d ≡ x → o ≡ y → d <ℤ o → y ≤ℤ x → ⊥
row_apart d o x y e f h k = apart d o h (rw e (rw f k))

shift_apart : (h : CertHead) (behind : ℕ) (f : CertFault) → IsShiftFault h behind f → IsDominantHead h → ⊥
shift_apart h behind f w d = row_apart w.row.diagonal w.row.others _ _ w.first.is_row.diagonal_is w.first.is_row.others_are w.first.outweighed (d w.row.row w.first.is_row.below)

void_nothing : (t : ℤ) → t ≤ℤ pos 0 → void_shows (Some t) ≡ Empty → ⊥
void_nothing t h e = grind (arith, ints)

pub wrong_leaf : (p : Progress) (leaf : CertLeaf) (place : ℕ) (f : CertFault) → IsWrongLeaf p leaf place f → IsRightNext p leaf → ⊥
unfolding leaf_shows
wrong_leaf p count place f w r = let a = sym w.0 ∙ r refl in cc
wrong_leaf p (void alpha tau) place f w r = void_nothing w.0 w.2 (ap void_shows (sym w.1) ∙ r refl)
wrong_leaf p (tangent v) place f w r = w

weak_apart : (p : Progress) (behind : ℕ) (f : CertFault) → IsWeak p behind f → EndsWell p → ⊥
weak_apart p behind f w e = apart w.found w.claimed w.weak (subst (ShownLe (AtLeast w.claimed)) w.found_is (e.shown w.claimed w.claimed_is))

end_apart : (p : Progress) (behind : ℕ) (f : CertFault) → IsEndFault p behind f → EndsWell p → ⊥
end_apart p behind f (inl w) e = let a = e.spent w.is_open in omega (arith, a, w.fewer)
end_apart p behind f (inr w) e = weak_apart p behind f w e

leaf_apart : (p : Progress) (leaf : CertLeaf) (place behind : ℕ) (f : CertFault) → IsLeafFault p leaf place behind f → IsLeafRight p leaf → ⊥
leaf_apart p leaf place behind f (inl w) r = wrong_leaf p leaf place f w r.right
leaf_apart p leaf place behind f (inr w) r = end_apart (with_leaf p leaf) behind f w.2 (r.ends w.1)

bound_apart : (a b : ℤ) → a ≤ℤ b → b <ℤ a → ⊥
bound_apart a b h k = grind (arith, ints)

pub fault_apart : (p : Progress) (item : Field) (place behind : ℕ) (f : CertFault) → IsItemFault p item place behind f → IsItemRight p item → ⊥
unfolding IsItemFault IsItemRight
fault_apart p (field.Head n lots held held_most turnover nodes) place behind f w r = w
fault_apart p (field.Asset mean dev least greatest present) place behind f w r = w
fault_apart p (field.Correlation rho) place behind f w r = w
fault_apart p (field.FactorEntry v) place behind f w r = w
fault_apart p (field.ShiftEntry d) place behind f w r = shift_apart (with_diagonal p.head d) behind f w.1 (r w.0)
fault_apart p (field.Sections number) place behind f w r = w
fault_apart p (field.SectionStart a b outcome) place behind f w r = w
fault_apart p (field.Portfolio x) place behind f w r = broken_not_kept (instance_in p.head) x w.broken w.first r
fault_apart p (field.Objective value) place behind f w r = w.other r
fault_apart p (field.Bound value) place behind f w r = bound_apart w.best.value value w.above (r w.is_open w.best w.best_is)
fault_apart p (field.Overall v) place behind f w r = w
fault_apart p field.CountLeaf place behind f w r = leaf_apart p count place behind f w r
fault_apart p (field.VoidLeaf alpha tau) place behind f w r = leaf_apart p (void alpha tau) place behind f w r
fault_apart p (field.TangentLeaf v) place behind f w r = leaf_apart p (tangent v) place behind f w r
fault_apart p (field.Split split) place behind f (inl w) r = omega (arith, w.0, r.within)
fault_apart p (field.Split split) place behind f (inr w) r = w.1 r.lawful
fault_apart p field.End place behind f w r = w
