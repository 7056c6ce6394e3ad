-- An item has one fault.
use Rattle.std.proofs.Common.{◌≡◌, ℕ, ◌<◌, ◌≤◌, ◌⊎◌, inl, inr, List, Option, Some, ℤ, refl, sym, ap, ◌∙◌, arith}
use Rattle.std.proofs.lemmas.Bool.{cases_lt}
use Rattle.gap_base.specs.declared.row.Row.{Row}
use Rattle.gap_instance.specs.Instances.{InstanceValue}
use Rattle.gap_instance.specs.Limits.{HoldsOutside, CountsAreMet, IsFirstWhere, IsFirstBroken}
use Rattle.gap_instance.specs.Objective.{cov_of}
use Rattle.gap_instance.specs.declared.keeps.Broken.{Broken}
use Rattle.gap_instance.specs.declared.keeps.Broken.TheVariants.{Length, Lots, Held, Least, Greatest, Turnover}
use Rattle.gap_psd.specs.Shifts.{ShiftValue, IsFirstRow, rest}
use Rattle.gap_psd.specs.Forms.{others}
use Rattle.gap_model.specs.declared.outcome.Best.{Best}
use Rattle.gap_model.specs.declared.shown.Shown.TheVariants.{AtLeast}
use Rattle.gap_model.specs.declared.cert_fault.CertFault.{CertFault}
use Rattle.gap_model.specs.declared.cert_fault.CertKind.{CertKind}
use Rattle.gap_model.specs.declared.cert_fault.CertKind.TheVariants as kind
use Rattle.gap_cert.specs.declared.field.Field.{Field}
use Rattle.gap_cert.specs.declared.field.Field.TheVariants as field
use Rattle.gap_cert.specs.Certificates.{CertHead, CertLeaf, count, void, tangent}
use Rattle.gap_valid.specs.Heads.{instance_in, shift_in}
use Rattle.gap_judge.specs.Progress.{Progress, with_leaf, with_diagonal}
use Rattle.gap_judge.specs.Faults.{IsItemFault, IsShiftFault, IsBoundFault, IsLeafFault, IsEndFault, IsFewSplits, IsWeak, IsWrongLeaf, factor_place}
use Rattle.gap_check.proofs.Faulty.{row_apart, wrong_leaf}

-- ---- one thing that is first

one_of : (a b : ℕ) → (a < b → ⊥) → (b < a → ⊥) → a ≡ b
one_of a b h k = by (cases_lt a b)
  where
    by : (a < b) ⊎ (b ≤ a) → a ≡ b
    by (inl l) = absurd (h l)
    by (inr l) = under (cases_lt b a) l
      where
        under : (b < a) ⊎ (a ≤ b) → b ≤ a → a ≡ b
        under (inl m) l = absurd (k m)
        under (inr m) l = omega (arith, l, m)

first_once : (P : ℕ → Type 0) (n i j : ℕ) → IsFirstWhere P n i → IsFirstWhere P n j → i ≡ j
first_once P n i j h k = one_of i j (λ l. k.before i l h.here) (λ l. h.before j l k.here)

row_with : ℕ → ℤ → ℤ → Row
row_with row diagonal others = record { row = row; diagonal = diagonal; others = others }

first_apart : (C : ℕ → ℕ → ℤ) (s : ShiftValue) (a b : Row) → IsFirstRow C s a → IsFirstRow C s b → a.row < b.row → ⊥
first_apart C s a b h k l = row_apart a.diagonal a.others _ _ h.is_row.diagonal_is h.is_row.others_are h.outweighed (k.dominant_before a.row l)

row_once : (C : ℕ → ℕ → ℤ) (s : ShiftValue) (a b : Row) → IsFirstRow C s a → IsFirstRow C s b → a ≡ b
unfolding row_with
row_once C s a b h k =
    let e : a.row ≡ b.row = one_of a.row b.row (first_apart C s a b h k) (first_apart C s b a k h) in
    let d : a.diagonal ≡ b.diagonal = h.is_row.diagonal_is ∙ ap (λ (i : ℕ). rest C s i i) e ∙ sym k.is_row.diagonal_is in
    let o : a.others ≡ b.others = h.is_row.others_are ∙ ap (λ (i : ℕ). others s.assets (rest C s) i) e ∙ sym k.is_row.others_are in
    ap (λ (i : ℕ). row_with i a.diagonal a.others) e ∙ ap (λ (z : ℤ). row_with b.row z a.others) d ∙ ap (λ (z : ℤ). row_with b.row b.diagonal z) o

outside_or_met : (I : InstanceValue) (x : List ℕ) → HoldsOutside I x → CountsAreMet I x → ⊥
outside_or_met I x (inl few) k = let a = k.fewest in omega arith
outside_or_met I x (inr many) k = let a = k.many in omega arith

broken_once : (I : InstanceValue) (x : List ℕ) (a b : Broken) → IsFirstBroken I x a → IsFirstBroken I x b → a ≡ b
broken_once I x Length Length h k = refl
broken_once I x Length Lots h k = absurd (h k.0)
broken_once I x Length Held h k = absurd (h k.0)
broken_once I x Length (Least j) h k = absurd (h k.0.assets_are)
broken_once I x Length (Greatest j) h k = absurd (h k.0.assets_are)
broken_once I x Length Turnover h k = absurd (h k.0.assets_are)
broken_once I x Lots Length h k = absurd (k h.0)
broken_once I x Lots Lots h k = refl
broken_once I x Lots Held h k = absurd (h.1 k.1)
broken_once I x Lots (Least j) h k = absurd (h.1 k.0.lots_are)
broken_once I x Lots (Greatest j) h k = absurd (h.1 k.0.lots_are)
broken_once I x Lots Turnover h k = absurd (h.1 k.0.lots_are)
broken_once I x Held Length h k = absurd (k h.0)
broken_once I x Held Lots h k = absurd (k.1 h.1)
broken_once I x Held Held h k = refl
broken_once I x Held (Least j) h k = absurd (outside_or_met I x h.2 k.0)
broken_once I x Held (Greatest j) h k = absurd (outside_or_met I x h.2 k.0)
broken_once I x Held Turnover h k = absurd (outside_or_met I x h.2 k.0)
broken_once I x (Least i) Length h k = absurd (k h.0.assets_are)
broken_once I x (Least i) Lots h k = absurd (k.1 h.0.lots_are)
broken_once I x (Least i) Held h k = absurd (outside_or_met I x k.2 h.0)
broken_once I x (Least i) (Least j) h k = ap Least (first_once _ I.market.assets i j h.1 k.1)
broken_once I x (Least i) (Greatest j) h k = absurd (k.1 i h.1.below h.1.here)
broken_once I x (Least i) Turnover h k = absurd (k.1 i h.1.below h.1.here)
broken_once I x (Greatest i) Length h k = absurd (k h.0.assets_are)
broken_once I x (Greatest i) Lots h k = absurd (k.1 h.0.lots_are)
broken_once I x (Greatest i) Held h k = absurd (outside_or_met I x k.2 h.0)
broken_once I x (Greatest i) (Least j) h k = absurd (h.1 j k.1.below k.1.here)
broken_once I x (Greatest i) (Greatest j) h k = ap Greatest (first_once _ I.market.assets i j h.2 k.2)
broken_once I x (Greatest i) Turnover h k = absurd (k.2 i h.2.below h.2.here)
broken_once I x Turnover Length h k = absurd (k h.0.assets_are)
broken_once I x Turnover Lots h k = absurd (k.1 h.0.lots_are)
broken_once I x Turnover Held h k = absurd (outside_or_met I x k.2 h.0)
broken_once I x Turnover (Least j) h k = absurd (h.1 j k.1.below k.1.here)
broken_once I x Turnover (Greatest j) h k = absurd (h.2 j k.2.below k.2.here)
broken_once I x Turnover Turnover h k = refl

-- ---- one fault of an item

abbrev at : ℕ → CertKind → CertFault
at place k = record { place = place; kind = k }

shift_once : (h : CertHead) (behind : ℕ) (f g : CertFault) → IsShiftFault h behind f → IsShiftFault h behind g → f ≡ g
shift_once h behind f g a b =
    a.fault_is ∙ ap (λ (row : Row). at (factor_place h.n behind) (kind.Shift row)) (row_once (cov_of (instance_in h).market) (shift_in h) a.row b.row a.first b.first) ∙ sym b.fault_is

some_once : {A : Type 0} (o : Option A) (a b : A) → o ≡ Some a → o ≡ Some b → a ≡ b
some_once o a b e f = let g = sym e ∙ f in cc

bound_once : (p : Progress) (value : ℤ) (place : ℕ) (f g : CertFault) → IsBoundFault p value place f → IsBoundFault p value place g → f ≡ g
bound_once p value place f g a b =
    a.fault_is ∙ ap (λ (best : Best). at place (kind.NotOpen best.value value)) (some_once p.best a.best b.best a.best_is b.best_is) ∙ sym b.fault_is

wrong_once : (p : Progress) (leaf : CertLeaf) (place : ℕ) (f g : CertFault) → IsWrongLeaf p leaf place f → IsWrongLeaf p leaf place g → f ≡ g
wrong_once p count place f g a b = a.1 ∙ sym b.1
wrong_once p (void alpha tau) place f g a b = a.3 ∙ ap (λ (t : ℤ). at place (kind.Void t)) (some_once _ a.0 b.0 a.1 b.1) ∙ sym b.3
wrong_once p (tangent w) place f g a b = absurd a

few_or_spent : (p : Progress) (behind : ℕ) (f g : CertFault) → IsFewSplits p behind f → IsWeak p behind g → ⊥
few_or_spent p behind f g a b = let s = b.spent a.is_open in omega (arith, s, a.fewer)

at_least_once : (a b : ℤ) → AtLeast a ≡ AtLeast b → a ≡ b
at_least_once a b e = cc

weak_once : (p : Progress) (behind : ℕ) (f g : CertFault) → IsWeak p behind f → IsWeak p behind g → f ≡ g
weak_once p behind f g a b =
    a.fault_is ∙ ap (λ (z : ℤ). at behind (kind.Weak z a.claimed)) (at_least_once a.found b.found (sym a.found_is ∙ b.found_is))
    ∙ ap (λ (z : ℤ). at behind (kind.Weak b.found z)) (some_once _ a.claimed b.claimed a.claimed_is b.claimed_is) ∙ sym b.fault_is

end_once : (p : Progress) (behind : ℕ) (f g : CertFault) → IsEndFault p behind f → IsEndFault p behind g → f ≡ g
end_once p behind f g (inl a) (inl b) = a.fault_is ∙ sym b.fault_is
end_once p behind f g (inl a) (inr b) = absurd (few_or_spent p behind f g a b)
end_once p behind f g (inr a) (inl b) = absurd (few_or_spent p behind g f b a)
end_once p behind f g (inr a) (inr b) = weak_once p behind f g a b

leaf_once : (p : Progress) (leaf : CertLeaf) (place behind : ℕ) (f g : CertFault) → IsLeafFault p leaf place behind f → IsLeafFault p leaf place behind g → f ≡ g
leaf_once p leaf place behind f g (inl a) (inl b) = wrong_once p leaf place f g a b
leaf_once p leaf place behind f g (inl a) (inr b) = absurd (wrong_leaf p leaf place f a b.0)
leaf_once p leaf place behind f g (inr a) (inl b) = absurd (wrong_leaf p leaf place g b a.0)
leaf_once p leaf place behind f g (inr a) (inr b) = end_once (with_leaf p leaf) behind f g a.2 b.2

pub fault_once : (p : Progress) (item : Field) (place behind : ℕ) (f g : CertFault) → IsItemFault p item place behind f → IsItemFault p item place behind g → f ≡ g
unfolding IsItemFault
fault_once p (field.Head n lots held held_most turnover nodes) place behind f g a b = absurd a
fault_once p (field.Asset mean dev least greatest present) place behind f g a b = absurd a
fault_once p (field.Correlation rho) place behind f g a b = absurd a
fault_once p (field.FactorEntry v) place behind f g a b = absurd a
fault_once p (field.ShiftEntry d) place behind f g a b = shift_once (with_diagonal p.head d) behind f g a.1 b.1
fault_once p (field.Sections number) place behind f g a b = absurd a
fault_once p (field.SectionStart x y outcome) place behind f g a b = absurd a
fault_once p (field.Portfolio x) place behind f g a b =
    a.fault_is ∙ ap (λ (broken : Broken). at place (kind.Portfolio broken)) (broken_once (instance_in p.head) x a.broken b.broken a.first b.first) ∙ sym b.fault_is
fault_once p (field.Objective value) place behind f g a b = a.fault_is ∙ sym b.fault_is
fault_once p (field.Bound value) place behind f g a b = bound_once p value place f g a b
fault_once p (field.Overall v) place behind f g a b = absurd a
fault_once p field.CountLeaf place behind f g a b = leaf_once p count place behind f g a b
fault_once p (field.VoidLeaf alpha tau) place behind f g a b = leaf_once p (void alpha tau) place behind f g a b
fault_once p (field.TangentLeaf v) place behind f g a b = leaf_once p (tangent v) place behind f g a b
fault_once p (field.Split split) place behind f g (inl a) (inl b) = a.1 ∙ sym b.1
fault_once p (field.Split split) place behind f g (inl a) (inr b) = let m = a.0 in let n = b.0 in absurd (omega (arith, m, n))
fault_once p (field.Split split) place behind f g (inr a) (inl b) = let m = a.0 in let n = b.0 in absurd (omega (arith, m, n))
fault_once p (field.Split split) place behind f g (inr a) (inr b) = a.2 ∙ sym b.2
fault_once p field.End place behind f g a b = absurd a
