-- What the judge's steps need of a head and of its instance, and what a leaf leads to.
use Rattle.std.proofs.Common.{◌≡◌, ◌≢◌, ◌↔◌, ℕ, suc, ◌+◌, ◌<◌, ◌≤◌, ◌⊎◌, inl, inr, Bool, true, false, List, [], ◌∷◌, drop, length, slice_get, slice_index_or, Option, Some, None, is_none, is_some, not, Result, Ok, Err, OnOk, IfErr, IsSome, IsTrue, All, int_lt, ℤ, pos, ◌≤ℤ◌, ◌<ℤ◌, refl, sym, ap, ◌∙◌, subst, arith}
use Rattle.std.specs.Option.{ForSome, option_copied}
use denote.Bor.{Bor}
use Rattle.std.proofs.lemmas.Int.{ints}
use Rattle.std.proofs.lemmas.List.Elements.{All-head}
use Rattle.gap_base.specs.declared.weight.Weight.{Weight}
use Rattle.gap_base.specs.declared.witness.Witness.{Witness}
use Rattle.gap_box.specs.declared.cell.Cell.{Cell}
use Rattle.gap_box.specs.Parts.{IsWithin, can_meet, root_cells}
use Rattle.gap_instance.specs.Instances.{InstanceValue, AreBetween, IsInstance}
use Rattle.gap_instance.specs.Limits.{MeetsLimits}
use Rattle.gap_psd.specs.Shifts.{ShiftValue}
use Rattle.gap_model.specs.declared.shown.Shown.{Shown}
use Rattle.gap_model.specs.declared.shown.Shown.TheVariants.{Nothing, AtLeast, Empty}
use Rattle.gap_model.specs.declared.cert_fault.CertFault.{CertFault}
use Rattle.gap_model.specs.declared.cert_fault.CertKind.TheVariants as kind
use Rattle.gap_model.specs.Leaves.{AreMultipliers, tangent_shows}
use Rattle.gap_model.specs.Theta.{void_theta, theta}
use Rattle.gap_cert.specs.declared.field.Field.TheVariants as field
use Rattle.gap_cert.specs.Certificates.{CertHead, CertLeaf, count, void, tangent}
use Rattle.gap_model.specs.Settings.{Setting}
use Rattle.gap_tangent.specs.Bounds.{setting_with}
use Rattle.gap_tangent.specs.Kept.{AreTermsOf}
use Rattle.gap_valid.specs.Heads.{instance_in, shift_in, market_in, root_in, setting_in, IsHead}
use Rattle.gap_valid.specs.CertTrees.{leaf_shows, lesser_shown, has_point, IsWitness, IsLeafIn}
use Rattle.gap_valid.specs.Valid.{IsWeight}
use Rattle.gap_valid.proofs.HeadLaws.{instance_is}
use Rattle.gap_judge.specs.declared.basis.Basis.{Basis}
use Rattle.gap_judge.specs.declared.kept.Kept.{Kept}
use Rattle.gap_judge.specs.Kept.{IsKeptOver, IsKept}
use Rattle.gap_judge.specs.declared.stop.CertStop.{CertStop}
use Rattle.gap_judge.specs.declared.stop.CertStop.TheVariants.{Fault, OutOfMemory}
use Rattle.gap_judge.specs.Progress.{Progress, with_diagonal, first_part, setting_now, shown_next, with_shown, with_told, told_when, behind_shown}
use Rattle.gap_judge.specs.Faults.{IsItemRight, IsDominantHead, EndsWell, IsLeafRight, IsLeafFault, IsEndFault}
use Rattle.gap_judge.specs.Ready.{IsPartOf, IsNodeDue, IsLeafDue}
use Rattle.gap_judge.specs.Stops.{IsBasisOf, IsSound, IsLastStop, IsLeafStop, lots_or_none}

-- nothing is at the first place exactly where a list is empty
pub first_none : {X : Type 0} (xs : List X) → IsTrue (is_none (slice_get xs 0)) ↔ (xs ≡ [])
first_none [] = (λ t. refl, λ e. refl)
first_none (x ∷ xs) = (λ t. cc, λ e. cc)

-- ---- answers

pub on_ok : {A E P Q : Type 0} (r : Result A E) → (P → Q) → OnOk r P → OnOk r Q
on_ok (Ok a) f h = f h
on_ok (Err e) f h = h

pub if_err : {A E : Type 0} (P Q : E → Type 0) (r : Result A E) → ((e : E) → P e → Q e) → IfErr r P → IfErr r Q
if_err P Q (Ok a) f h = h
if_err P Q (Err e) f h = f e h

-- ---- the head's instance

pub sound_for : (h : CertHead) (I : InstanceValue) (s : ShiftValue) (root : List Cell) (w : Weight) → IsBasisOf h I s root → IsWeight w → IsSound I s w
unfolding instance_in shift_in market_in
sound_for h I s root w b weight = rw b.instance_is (rw b.shift_is (record { same = refl; dominant = b.dominant; weight_is = weight }))

pub within_root : (h : CertHead) (I : InstanceValue) (s : ShiftValue) (root part : List Cell) → IsBasisOf h I s root → IsPartOf h part → IsWithin part (root_cells I.least I.greatest)
within_root h I s root part b w = rw b.instance_is w.0

pub root_within : (h : CertHead) (I : InstanceValue) (s : ShiftValue) (root : List Cell) → IsBasisOf h I s root → IsWithin root (root_cells I.least I.greatest)
root_within h I s root b = rw b.instance_is (rw b.root_is (record { same_length = refl; inside = λ x k. k }))

pub multipliers_for : (h : CertHead) (I : InstanceValue) (s : ShiftValue) (root : List Cell) (w : Witness) → IsBasisOf h I s root → IsWitness (instance_in h) w → AreMultipliers I.turnover w.alpha w.tau
multipliers_for h I s root w b m = rw b.instance_is m.multipliers

none_of : (n : ℕ) → 2 ≤ n → length {A = ℕ} [] ≡ n → ⊥
none_of n h e = omega (arith, h, e)

pub lots_there : (h : CertHead) (o : Option (List ℕ)) → IsHead h → MeetsLimits (instance_in h) (lots_or_none o) → IsSome o
unfolding instance_in market_in
lots_there h None is m = absurd (none_of h.n is.few m.assets_are)
lots_there h (Some x) is m = refl

pub lots_between : (h : CertHead) (I : InstanceValue) (s : ShiftValue) (root : List Cell) (x : List ℕ) → IsBasisOf h I s root → MeetsLimits (instance_in h) x → AreBetween I.market.assets 0 10000 x
lots_between h I s root x b m =
    let i = (instance_is h b.head_is).limits_are in
    rw b.instance_is (record { count = m.assets_are; least = λ k l. omega arith; most = λ k l. omega (arith, m.greatest_kept k l, i.greatest_within.most k l, i.lots_most) })

-- ---- what is kept of a witness

pub kept_over : (o : Option Basis) (basis : Basis) (kept : Option Kept) → o ≡ Some basis → IsKept o kept → IsKeptOver basis.instance basis.shift kept
kept_over o basis kept e h = subst (λ (b : Option Basis). IsKept b kept) e h

pub kept_by : (o : Option Basis) (basis : Basis) (kept : Option Kept) → o ≡ Some basis → IsKeptOver basis.instance basis.shift kept → IsKept o kept
kept_by o basis kept e h = subst (λ (b : Option Basis). IsKept b kept) (sym e) h

-- terms kept under a weight are those of every bound over the same instance and shift under it
pub kept_for : (I : InstanceValue) (s : ShiftValue) (o : Option Kept) (w : Weight) (S : Setting) → IsKeptOver I s o → S ≡ setting_with I s w → ForSome o (λ k. k.weight ≡ w → AreTermsOf S k.terms)
kept_for I s o w S h e = λ k is weight. subst (λ (z : Setting). AreTermsOf z k.terms) (sym e) (subst (λ (v : Weight). AreTermsOf (setting_with I s v) k.terms) weight (subst (λ (x : Option Kept). IsKeptOver I s x) is h))

-- ---- leaves

part_first : (h : CertHead) (parts : List (List Cell)) → 0 < length parts → All (IsPartOf h) parts → IsPartOf h (first_part parts)
part_first h [] some a = absurd (omega arith)
part_first h (part ∷ parts) some a = All-head (IsPartOf h) part parts a

pub next_within : (I : InstanceValue) (s : ShiftValue) (root : List Cell) (p : Progress) → IsBasisOf p.head I s root → IsNodeDue p → IsWithin (first_part p.parts) (root_cells I.least I.greatest)
next_within I s root p b d = within_root p.head I s root (first_part p.parts) b (part_first p.head p.parts d.some d.parts_are)

-- what the next leaf shows, by the instance and the shift
pub shown_by_basis : (I : InstanceValue) (s : ShiftValue) (root : List Cell) (p : Progress) (leaf : CertLeaf) → IsBasisOf p.head I s root → leaf_shows (setting_with I s p.weight) (first_part p.parts) leaf ≡ shown_next p leaf
shown_by_basis I s root p leaf b = rw b.instance_is (rw b.shift_is refl)

pub count_shown : (I : InstanceValue) (s : ShiftValue) (root : List Cell) (p : Progress) → IsBasisOf p.head I s root → can_meet (first_part p.parts) I.held I.held_most ≡ true → shown_next p count ≡ Nothing
unfolding leaf_shows
count_shown I s root p b e = sym (shown_by_basis I s root p count b) ∙ rw e refl

pub count_empty : (I : InstanceValue) (s : ShiftValue) (root : List Cell) (p : Progress) → IsBasisOf p.head I s root → can_meet (first_part p.parts) I.held I.held_most ≡ false → shown_next p count ≡ Empty
unfolding leaf_shows
count_empty I s root p b e = sym (shown_by_basis I s root p count b) ∙ rw e refl

pub void_by_basis : (I : InstanceValue) (s : ShiftValue) (root : List Cell) (p : Progress) (alpha tau : ℤ) → IsBasisOf p.head I s root → void_theta (setting_with I s p.weight) (first_part p.parts) alpha tau ≡ void_theta (setting_now p) (first_part p.parts) alpha tau
void_by_basis I s root p alpha tau b = rw b.instance_is (rw b.shift_is refl)

above_zero : (t : ℤ) → (t ≤ℤ pos 0 → ⊥) → int_lt (pos 0) t ≡ true
above_zero t h = grind (arith, ints)

pub void_empty : (p : Progress) (alpha tau : ℤ) (t : Option ℤ) → void_theta (setting_now p) (first_part p.parts) alpha tau ≡ t → ((z : ℤ) → t ≡ Some z → z ≤ℤ pos 0 → ⊥) → shown_next p (void alpha tau) ≡ Empty
unfolding leaf_shows
void_empty p alpha tau None e h = rw e refl
void_empty p alpha tau (Some z) e h = rw e (rw (above_zero z (h z refl)) refl)

tangent_some : (t : Option ℤ) → tangent_shows t ≢ Nothing
tangent_some None = λ e. cc
tangent_some (Some t) = λ e. cc

pub tangent_shown_some : (I : InstanceValue) (s : ShiftValue) (w : Weight) (part : List Cell) (v : Witness) (r : Shown) → r ≡ leaf_shows (setting_with I s w) part (tangent v) → r ≢ Nothing
unfolding leaf_shows
tangent_shown_some I s w part v r e = rw e (tangent_some _)

-- ---- behind a leaf

pub parts_behind : (p : Progress) (parts : List (List Cell)) (least shown : Shown) → parts ≡ drop 1 p.parts → least ≡ lesser_shown p.least shown → (record p { parts = parts; least = least }) ≡ with_shown p shown
parts_behind p parts least shown e f = rw e (rw f refl)

pub told_last : (p q : Progress) (shown : Shown) → drop 1 p.parts ≡ [] → q ≡ with_told (with_shown p shown) → q ≡ behind_shown p shown
unfolding behind_shown
told_last p q shown e f = f ∙ sym (ap (λ (parts : List (List Cell)). told_when parts (with_shown p shown)) e)

told_never : (parts : List (List Cell)) (p : Progress) → (parts ≡ [] → ⊥) → told_when parts p ≡ p
told_never [] p h = absurd (h refl)
told_never (part ∷ parts) p h = refl

pub told_later : (p q : Progress) (shown : Shown) → (drop 1 p.parts ≡ [] → ⊥) → q ≡ with_shown p shown → q ≡ behind_shown p shown
unfolding behind_shown
told_later p q shown h f = f ∙ sym (told_never (drop 1 p.parts) (with_shown p shown) h)

pub leaf_right : (p : Progress) (leaf : CertLeaf) (shown : Shown) → shown ≡ shown_next p leaf → (has_point leaf ≡ false → shown ≡ Empty) → (drop 1 p.parts ≡ [] → EndsWell (with_shown p shown)) → IsLeafRight p leaf
leaf_right p leaf shown e empty ends = record { right = λ h. sym e ∙ empty h; ends = λ z. subst (λ (s : Shown). EndsWell (with_shown p s)) e (ends z) }

pub leaf_stop : (p : Progress) (leaf : CertLeaf) (shown : Shown) (place behind : ℕ) (stop : CertStop) → shown ≡ shown_next p leaf → (has_point leaf ≡ false → shown ≡ Empty) → IsLastStop p shown behind stop → IsLeafStop p leaf place behind stop
leaf_stop p leaf shown place behind (Fault f) e empty h = inr (λ k. sym e ∙ empty k, h.0, subst (λ (s : Shown). IsEndFault (with_shown p s) behind f) e h.1)
leaf_stop p leaf shown place behind OutOfMemory e empty h = tt

pub behind_same : (p q : Progress) (leaf : CertLeaf) (shown : Shown) → shown ≡ shown_next p leaf → q ≡ behind_shown p shown → q ≡ behind_shown p (shown_next p leaf)
behind_same p q leaf shown e f = f ∙ ap (behind_shown p) e

-- a count leaf where the count can be met
pub count_stop : (I : InstanceValue) (s : ShiftValue) (root : List Cell) (p : Progress) (place behind : ℕ) → IsBasisOf p.head I s root → can_meet (first_part p.parts) I.held I.held_most ≡ true → IsLeafFault p count place behind (record { place = place; kind = kind.Count })
count_stop I s root p place behind b e = inl (count_shown I s root p b e, refl)

pub void_stop : (p : Progress) (alpha tau t : ℤ) (place behind : ℕ) → void_theta (setting_now p) (first_part p.parts) alpha tau ≡ Some t → t ≤ℤ pos 0 → IsLeafFault p (void alpha tau) place behind (record { place = place; kind = kind.Void t })
void_stop p alpha tau t place behind e h = inl (t, e, h, refl)

true_of : (b : Bool) → false ≡ not b → b ≡ true
true_of true h = refl
true_of false h = cc

-- no part is next exactly where none is to come
pub none_next : {T : Type 0} (o : Option (Bor T)) (b : Bool) (xs ys : List T) → option_copied o ≡ slice_get xs 0 → is_some o ≡ not b → xs ≡ ys → IsTrue b ↔ (ys ≡ [])
none_next None b [] ys e n m = (λ t. sym m, λ z. true_of b n)
none_next None b (x ∷ xs) ys e n m = cc
none_next (Some r) b [] ys e n m = cc
none_next (Some r) true (x ∷ xs) ys e n m = cc
none_next (Some r) false (x ∷ xs) ys e n m = (λ t. cc, λ z. let k = m ∙ z in cc)

-- the last entry of D is right where the head that it ends has a basis
pub diagonal_right : (p : Progress) (h : CertHead) (d : ℤ) (I : InstanceValue) (s : ShiftValue) (root : List Cell) → h ≡ with_diagonal p.head d → IsBasisOf h I s root → IsItemRight p (field.ShiftEntry d)
unfolding IsItemRight
diagonal_right p h d I s root e b = λ full. subst IsDominantHead e b.dominant
