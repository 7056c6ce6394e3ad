-- What the void leaves that are tried say.
use Rattle.std.proofs.Common.{◌≡◌, ◌≢◌, ℕ, zero, suc, ◌≤◌, Bool, true, false, cond, ltb, List, length, sum, ◌⊎◌, inl, inr, Option, Some, None, ℤ, pos, negsuc, ◌-ℤ◌, ◌*ℤ◌, ◌≤ℤ◌, ◌<ℤ◌, unsigned_abs, refl, sym, ap, ◌∙◌, subst, arith}
use Rattle.std.specs.Prelude.{IsSome, int_lt}
use Rattle.std.proofs.lemmas.Int.{ints, by_lt_z}
use Rattle.std.proofs.lemmas.Bool.{false≢true, lt-ltb}
use Rattle.std.proofs.lemmas.Bool.Decides.{nat_tests}
use Rattle.gap_box.specs.declared.cell.Cell.{Cell}
use Rattle.gap_box.specs.Parts.{IsSingle}
use Rattle.gap_model.specs.declared.leaf.Leaf.TheVariants.{Void}
use Rattle.gap_model.specs.declared.shown.Shown.{Shown}
use Rattle.gap_model.specs.declared.shown.Shown.TheVariants.{Nothing, AtLeast, Empty}
use Rattle.gap_model.specs.Settings.{Setting, IsSetting}
use Rattle.gap_model.specs.Lagrangian.{void_lag}
use Rattle.gap_model.specs.Theta.{void_theta, IsVoidTheta}
use Rattle.gap_model.specs.Limits.{meets_limits}
use Rattle.gap_model.specs.Leaves.{shows, void_shows, is_zero, AreMultipliers}
use Rattle.gap_model.specs.Problems.{IsPart, ShowsEmpty, tangent_problem}
use Rattle.gap_model.proofs.BoundLaws.{tangent_lawful}
use Rattle.gap_model.proofs.LeafLaws.{multipliers_are}
use Rattle.gap_tangent.proofs.LotsLaws.{void_lag_of_lots, pick_length}
use Rattle.gap_witness.proofs.VoidLaws.{void_shown}
use Rattle.gap_leaf.specs.declared.multipliers.Multipliers.{Multipliers}
use Rattle.gap_leaf.specs.Voids.{IsVoidTry, void_for, is_empty, is_void_empty, turned_void, first_void}

-- ---- what is shown is Empty, or isn't
empty_by : (a : Shown) → is_empty a ≡ true → a ≡ Empty
empty_by Nothing e = cc
empty_by (AtLeast b) e = cc
empty_by Empty e = refl

pub empty_is : (s : Setting) (part : List Cell) (alpha tau : ℤ) → is_void_empty s part alpha tau ≡ true → shows s part (Void alpha tau (pos 0)) ≡ Empty
unfolding is_void_empty
empty_is s part alpha tau e = empty_by (shows s part (Void alpha tau (pos 0))) e

pub not_empty : (s : Setting) (part : List Cell) (alpha tau : ℤ) → is_void_empty s part alpha tau ≡ false → shows s part (Void alpha tau (pos 0)) ≢ Empty
unfolding is_void_empty
not_empty s part alpha tau e = λ h. apart (sym e ∙ ap is_empty h)
  where
    apart : false ≡ true → ⊥
    apart e = cc

-- ---- the multipliers that are tried are in range
one_or_less : (alpha : ℤ) → unsigned_abs alpha ≡ 1 → (alpha ≡ pos 1) ⊎ (alpha ≡ negsuc 0)
one_or_less (pos n) e = inl (omega (arith, ints))
one_or_less (negsuc n) e = inr (omega (arith, ints))

at_most_one : (alpha : ℤ) → unsigned_abs alpha ≤ 1 → (alpha ≡ pos 0) ⊎ (alpha ≡ pos 1) ⊎ (alpha ≡ negsuc 0)
at_most_one (pos zero) e = inl refl
at_most_one (pos (suc n)) e = inr (inl (omega (arith, ints)))
at_most_one (negsuc n) e = inr (inr (omega (arith, ints)))

pub plain_in_range : (o : Option ℕ) (alpha : ℤ) → unsigned_abs alpha ≡ 1 → AreMultipliers o alpha (pos 0)
plain_in_range o alpha e = record { alpha_most = omega arith; tau_least = omega (arith, ints); tau_most = omega (arith, ints); tau_unset = λ n. refl }

pub turned_in_range : (o : Option ℕ) (t : ℕ) (alpha : ℤ) → o ≡ Some t → unsigned_abs alpha ≤ 1 → AreMultipliers o alpha (pos 1)
turned_in_range o t alpha q e = record { alpha_most = omega arith; tau_least = omega (arith, ints); tau_most = omega (arith, ints); tau_unset = λ n. cc }

-- ---- what is found is tried
pub record IsFound (s : Setting) (part : List Cell) (m : Multipliers) : Type 0 where
  pub multipliers : AreMultipliers s.instance.turnover m.alpha m.tau
  pub empty : shows s part (Void m.alpha m.tau (pos 0)) ≡ Empty

some_is : (a b : Multipliers) → Some a ≡ Some b → a ≡ b
some_is a b e = cc

none_some : {P : Type 0} (b : Multipliers) → (let A : Type 0 = Option Multipliers in ◌≡◌ {A = A} None (Some b)) → P
none_some b e = cc

found_at : (s : Setting) (part : List Cell) (alpha tau : ℤ) (m : Multipliers) → AreMultipliers s.instance.turnover alpha tau → is_void_empty s part alpha tau ≡ true → Some (record { alpha = alpha; tau = tau }) ≡ Some m → IsFound s part m
found_at s part alpha tau m r e q = subst (λ (n : Multipliers). IsFound s part n) (some_is (record { alpha = alpha; tau = tau }) m q) (record { multipliers = r; empty = empty_is s part alpha tau e })

-- one test of a chain
found_by : (s : Setting) (part : List Cell) (alpha tau : ℤ) (rest : Option Multipliers) (m : Multipliers) (b : Bool) → AreMultipliers s.instance.turnover alpha tau → is_void_empty s part alpha tau ≡ b → (rest ≡ Some m → IsFound s part m) → cond b (Some (record { alpha = alpha; tau = tau })) rest ≡ Some m → IsFound s part m
found_by s part alpha tau rest m true r e go q = found_at s part alpha tau m r e q
found_by s part alpha tau rest m false r e go q = go q

turned_found : (s : Setting) (part : List Cell) (o : Option ℕ) (m : Multipliers) → s.instance.turnover ≡ o → turned_void s part o ≡ Some m → IsFound s part m
turned_found s part None m e q = none_some m q
turned_found s part (Some t) m e q =
    found_by s part (pos 0) (pos 1) _ m (is_void_empty s part (pos 0) (pos 1)) (turned_in_range s.instance.turnover t (pos 0) e (omega (arith, ints))) refl
    (λ r. found_by s part (pos 1) (pos 1) _ m (is_void_empty s part (pos 1) (pos 1)) (turned_in_range s.instance.turnover t (pos 1) e (omega (arith, ints))) refl
    (λ v. found_by s part (negsuc 0) (pos 1) None m (is_void_empty s part (negsuc 0) (pos 1)) (turned_in_range s.instance.turnover t (negsuc 0) e (omega (arith, ints))) refl (λ n. none_some m n) v) r) q

pub void_found : (s : Setting) (part : List Cell) (m : Multipliers) → first_void s part ≡ Some m → IsFound s part m
void_found s part m q =
    found_by s part (pos 1) (pos 0) _ m (is_void_empty s part (pos 1) (pos 0)) (plain_in_range s.instance.turnover (pos 1) (omega (arith, ints))) refl
    (λ r. found_by s part (negsuc 0) (pos 0) _ m (is_void_empty s part (negsuc 0) (pos 0)) (plain_in_range s.instance.turnover (negsuc 0) (omega (arith, ints))) refl (turned_found s part s.instance.turnover m refl) r) q

-- ---- where none is found none shows Empty
none_by : (m : Multipliers) (rest : Option Multipliers) (b : Bool) → cond b (Some m) rest ≡ None → (b ≡ false) × (rest ≡ None)
none_by m rest true e = cc
none_by m rest false e = (refl, e)

turned_none : (s : Setting) (part : List Cell) (o : Option ℕ) (t : ℕ) (alpha : ℤ) → o ≡ Some t → turned_void s part o ≡ None → (alpha ≡ pos 0) ⊎ (alpha ≡ pos 1) ⊎ (alpha ≡ negsuc 0) → is_void_empty s part alpha (pos 1) ≡ false
turned_none s part None t alpha e q w = cc
turned_none s part (Some u) t alpha e q w =
    let a = none_by _ _ (is_void_empty s part (pos 0) (pos 1)) q in
    let b = none_by _ _ (is_void_empty s part (pos 1) (pos 1)) a.1 in
    let d = none_by _ _ (is_void_empty s part (negsuc 0) (pos 1)) b.1 in
    by_alpha alpha a.0 b.0 d.0 w
  where
    by_alpha : (alpha : ℤ) → is_void_empty s part (pos 0) (pos 1) ≡ false → is_void_empty s part (pos 1) (pos 1) ≡ false → is_void_empty s part (negsuc 0) (pos 1) ≡ false → (alpha ≡ pos 0) ⊎ (alpha ≡ pos 1) ⊎ (alpha ≡ negsuc 0) → is_void_empty s part alpha (pos 1) ≡ false
    by_alpha alpha a b d (inl e) = ap (λ (z : ℤ). is_void_empty s part z (pos 1)) e ∙ a
    by_alpha alpha a b d (inr (inl e)) = ap (λ (z : ℤ). is_void_empty s part z (pos 1)) e ∙ b
    by_alpha alpha a b d (inr (inr e)) = ap (λ (z : ℤ). is_void_empty s part z (pos 1)) e ∙ d

-- what holds where none is found
pub record HasNoVoid (s : Setting) (part : List Cell) : Type 0 where
  pub above : is_void_empty s part (pos 1) (pos 0) ≡ false
  pub below : is_void_empty s part (negsuc 0) (pos 0) ≡ false
  pub turned : (t : ℕ) (alpha : ℤ) → s.instance.turnover ≡ Some t → (alpha ≡ pos 0) ⊎ (alpha ≡ pos 1) ⊎ (alpha ≡ negsuc 0) → is_void_empty s part alpha (pos 1) ≡ false

pub none_found : (s : Setting) (part : List Cell) → first_void s part ≡ None → HasNoVoid s part
none_found s part q =
    let a = none_by _ _ (is_void_empty s part (pos 1) (pos 0)) q in
    let b = none_by _ _ (is_void_empty s part (negsuc 0) (pos 0)) a.1 in
    record { above = a.0; below = b.0; turned = λ t alpha e w. turned_none s part s.instance.turnover t alpha e b.1 w }

some_of : (o : Option ℕ) → IsSome o → (t : ℕ) × (o ≡ Some t)
some_of None h = absurd (false≢true h)
some_of (Some t) h = (t, refl)

pub no_try : (s : Setting) (part : List Cell) (alpha tau : ℤ) → HasNoVoid s part → IsVoidTry s.instance.turnover alpha tau → shows s part (Void alpha tau (pos 0)) ≢ Empty
no_try s part alpha tau h (inl w) = not_empty s part alpha tau (ap (is_void_empty s part alpha) w.1 ∙ by_alpha (one_or_less alpha w.0))
  where
    by_alpha : (alpha ≡ pos 1) ⊎ (alpha ≡ negsuc 0) → is_void_empty s part alpha (pos 0) ≡ false
    by_alpha (inl e) = ap (λ (z : ℤ). is_void_empty s part z (pos 0)) e ∙ h.above
    by_alpha (inr e) = ap (λ (z : ℤ). is_void_empty s part z (pos 0)) e ∙ h.below
no_try s part alpha tau h (inr w) =
    let t = some_of s.instance.turnover w.2 in
    not_empty s part alpha tau (ap (is_void_empty s part alpha) w.1 ∙ h.turned t.0 alpha t.1 (at_most_one alpha w.0))

-- ---- on a part with one list
single_theta : (s : Setting) (part : List Cell) (alpha tau : ℤ) (x : List ℕ) → IsSingle part s.instance.held s.instance.held_most x → IsVoidTheta s part alpha tau (void_lag s alpha tau x)
single_theta s part alpha tau x h = record {
  reached = (x, h.pick, refl);
  below = λ z p. subst (λ (y : List ℕ). void_lag s alpha tau x ≤ℤ void_lag s alpha tau y) (sym (h.only z p)) (omega (arith, ints));
}

empty_test : (v : ℤ) → is_empty (void_shows (Some v)) ≡ int_lt (pos 0) v
empty_test v = by_test (int_lt (pos 0) v)
  where
    by_test : (b : Bool) → is_empty (cond b Empty Nothing) ≡ b
    by_test true = refl
    by_test false = refl

single_test : (s : Setting) (part : List Cell) (alpha : ℤ) (x : List ℕ) → length part ≡ s.instance.market.assets → IsSingle part s.instance.held s.instance.held_most x → is_void_empty s part alpha (pos 0) ≡ int_lt (pos 0) (alpha *ℤ (pos (sum x) -ℤ pos s.instance.lots))
unfolding is_void_empty
single_test s part alpha x n h =
    ap is_empty (void_shown s part alpha (pos 0) (void_lag s alpha (pos 0) x) (single_theta s part alpha (pos 0) x h))
    ∙ empty_test (void_lag s alpha (pos 0) x)
    ∙ ap (int_lt (pos 0)) (void_lag_of_lots s alpha x (pick_length s part x n h.pick))

above_test : (a b : ℕ) → int_lt (pos 0) (pos 1 *ℤ (pos a -ℤ pos b)) ≡ ltb b a
above_test a b = by_lt_z (pos b) (pos a) (λ l. yes (pos 1 *ℤ (pos a -ℤ pos b)) (omega (arith, ints)) ∙ sym (lt-ltb b a (omega (arith, ints)))) (λ l. no (pos 1 *ℤ (pos a -ℤ pos b)) (omega (arith, ints)) ∙ sym (least b a (omega (arith, ints))))
  where
    yes : (z : ℤ) → pos 0 <ℤ z → int_lt (pos 0) z ≡ true
    yes z h = grind (arith, ints)

    no : (z : ℤ) → z ≤ℤ pos 0 → int_lt (pos 0) z ≡ false
    no z h = grind (arith, ints)

    least : (m n : ℕ) → n ≤ m → ltb m n ≡ false
    least m n h = grind (arith, nat_tests)

below_test : (a b : ℕ) → int_lt (pos 0) (negsuc 0 *ℤ (pos a -ℤ pos b)) ≡ ltb a b
below_test a b = ap (int_lt (pos 0)) (turned a b) ∙ above_test b a
  where
    turned : (a b : ℕ) → negsuc 0 *ℤ (pos a -ℤ pos b) ≡ pos 1 *ℤ (pos b -ℤ pos a)
    turned a b = omega (arith, ints)

pub single_above : (s : Setting) (part : List Cell) (x : List ℕ) → length part ≡ s.instance.market.assets → IsSingle part s.instance.held s.instance.held_most x → is_void_empty s part (pos 1) (pos 0) ≡ ltb s.instance.lots (sum x)
single_above s part x n h = single_test s part (pos 1) x n h ∙ above_test (sum x) s.instance.lots

pub single_below : (s : Setting) (part : List Cell) (x : List ℕ) → length part ≡ s.instance.market.assets → IsSingle part s.instance.held s.instance.held_most x → is_void_empty s part (negsuc 0) (pos 0) ≡ ltb (sum x) s.instance.lots
single_below s part x n h = single_test s part (negsuc 0) x n h ∙ below_test (sum x) s.instance.lots

third_away : (s : Setting) (part : List Cell) (alpha tau third : ℤ) → shows s part (Void alpha tau third) ≡ Empty → shows s part (Void alpha tau (pos 0)) ≡ Empty
unfolding shows
third_away s part alpha tau third e = by_third (is_zero third) e
  where
    by_third : (b : Bool) → cond b (void_shows (void_theta s part alpha tau)) Nothing ≡ Empty → void_shows (void_theta s part alpha tau) ≡ Empty
    by_third true e = e
    by_third false e = cc

is_empty_of : (s : Setting) (part : List Cell) (alpha tau third : ℤ) → shows s part (Void alpha tau third) ≡ Empty → is_void_empty s part alpha tau ≡ true
unfolding is_void_empty
is_empty_of s part alpha tau third e = ap is_empty (third_away s part alpha tau third e)

both : {P : Type 0} (b : Bool) → b ≡ true → b ≡ false → P
both b e f = absurd (apart (sym e ∙ f))
  where
    apart : true ≡ false → ⊥
    apart e = cc

limited_of : (o : Option ℕ) (alpha : ℤ) → AreMultipliers o alpha (pos 1) → (t : ℕ) × (o ≡ Some t)
limited_of None alpha h = let e = h.tau_unset refl in absurd (omega (arith, ints))
limited_of (Some t) alpha h = (t, refl)

-- the void leaf of the turnover alone shows Empty where the list has L lots and doesn't meet the limits
pub single_turned : (s : Setting) (part : List Cell) (x : List ℕ) → IsSetting s → IsPart (tangent_problem s) part → length part ≡ s.instance.market.assets → IsSingle part s.instance.held s.instance.held_most x → meets_limits s.instance x ≡ false → is_void_empty s part (pos 1) (pos 0) ≡ false → is_void_empty s part (negsuc 0) (pos 0) ≡ false → (t : ℕ) × (s.instance.turnover ≡ Some t) × (is_void_empty s part (pos 0) (pos 1) ≡ true)
single_turned s part x is p n h m a b =
    let w = (tangent_lawful s is).empty part x p h m in
    by_leaf w.0 w.1
  where
    by_leaf : (third : ℤ) → ShowsEmpty (tangent_problem s) part (Void (pos 1) (pos 0) third) ⊎ ShowsEmpty (tangent_problem s) part (Void (negsuc 0) (pos 0) third) ⊎ ShowsEmpty (tangent_problem s) part (Void (pos 0) (pos 1) third) → (t : ℕ) × (s.instance.turnover ≡ Some t) × (is_void_empty s part (pos 0) (pos 1) ≡ true)
    by_leaf third (inl e) = both (is_void_empty s part (pos 1) (pos 0)) (is_empty_of s part (pos 1) (pos 0) third e.empty) a
    by_leaf third (inr (inl e)) = both (is_void_empty s part (negsuc 0) (pos 0)) (is_empty_of s part (negsuc 0) (pos 0) third e.empty) b
    by_leaf third (inr (inr e)) = let t = limited_of s.instance.turnover (pos 0) (multipliers_are s.instance.turnover (pos 0) (pos 1) e.in_range) in (t.0, t.1, is_empty_of s part (pos 0) (pos 1) third e.empty)

pub single_meets : (s : Setting) (part : List Cell) (x : List ℕ) → IsSetting s → IsPart (tangent_problem s) part → length part ≡ s.instance.market.assets → IsSingle part s.instance.held s.instance.held_most x → HasNoVoid s part → meets_limits s.instance x ≡ true
single_meets s part x is p n h v = by_meets (meets_limits s.instance x) refl
  where
    by_meets : (b : Bool) → meets_limits s.instance x ≡ b → meets_limits s.instance x ≡ true
    by_meets true e = e
    by_meets false e = let w = single_turned s part x is p n h e v.above v.below in both (is_void_empty s part (pos 0) (pos 1)) w.2 (v.turned w.0 (pos 0) w.1 (inl refl))

void_same : (m n : Multipliers) → (let A : Type 0 = Option Multipliers in ◌≡◌ {A = A} (Some m) (Some n)) → Void n.alpha n.tau (pos 0) ≡ Void m.alpha m.tau (pos 0)
void_same m n e = cc

yes : (b : Bool) (x y : Option Multipliers) → b ≡ true → cond b x y ≡ x
yes b x y e = rw e refl

no : (b : Bool) (x y : Option Multipliers) → b ≡ false → cond b x y ≡ y
no b x y e = rw e refl

-- what is found there is the void leaf for the list
pub found_for : (s : Setting) (part : List Cell) (x : List ℕ) (m : Multipliers) → IsSetting s → IsPart (tangent_problem s) part → length part ≡ s.instance.market.assets → IsSingle part s.instance.held s.instance.held_most x → meets_limits s.instance x ≡ false → first_void s part ≡ Some m → Void m.alpha m.tau (pos 0) ≡ void_for s.instance x
found_for s part x m is p n h e q = by_tests (ltb s.instance.lots (sum x)) (ltb (sum x) s.instance.lots) (single_above s part x n h) (single_below s part x n h) q
  where
    by_tests : (a b : Bool) → is_void_empty s part (pos 1) (pos 0) ≡ a → is_void_empty s part (negsuc 0) (pos 0) ≡ b → first_void s part ≡ Some m → Void m.alpha m.tau (pos 0) ≡ cond a (Void (pos 1) (pos 0) (pos 0)) (cond b (Void (negsuc 0) (pos 0) (pos 0)) (Void (pos 0) (pos 1) (pos 0)))
    by_tests true b u v q = void_same (record { alpha = pos 1; tau = pos 0 }) m (sym (yes _ _ _ u) ∙ q)
    by_tests false true u v q = void_same (record { alpha = negsuc 0; tau = pos 0 }) m (sym (no _ _ _ u ∙ yes _ _ _ v) ∙ q)
    by_tests false false u v q =
        let w = single_turned s part x is p n h e u v in
        void_same (record { alpha = pos 0; tau = pos 1 }) m (sym (no _ _ _ u ∙ (no _ _ _ v ∙ (ap (turned_void s part) w.1 ∙ yes _ _ _ w.2))) ∙ q)
