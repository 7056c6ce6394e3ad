-- The test of the limits decides them, and the lists that meet them are lists of the root that hold from K1 to K2 assets.

use Rattle.std.proofs.Common.{◌≡◌, ℕ, zero, suc, ◌<◌, ◌≤◌, Bool, true, false, ◌&&◌, ◌||◌, cond, ltb, leb, eqb, List, [], ◌∷◌, length, slice_index_or, sum, Option, Some, None, ◌⊎◌, inl, inr, pos, ◌≤ℤ◌, ◌<ℤ◌, refl, sym, ap, ◌∙◌, arith, subst}
use Rattle.std.proofs.lemmas.Int.{ints}
use Rattle.std.proofs.lemmas.Bool.Decides.{nat_tests}
use Rattle.std.proofs.lemmas.Bool.{and_parts, and_from, eqb-true, eq-eqb, leb-true, le-leb, or_cases, cases_eq, false≢true}
use Rattle.std.specs.Option.{ForSome}
use Rattle.gap_base.specs.Sums.{sum_below, count_if, natural_at}
use Rattle.gap_base.proofs.Lists.{sum_places, count_places}
use Rattle.gap_box.specs.declared.cell.Cell.{Cell}
use Rattle.gap_box.specs.declared.cell.Cell.TheVariants.{Out, Free}
use Rattle.gap_box.specs.Cells.{in_cell}
use Rattle.gap_box.specs.Parts.{in_part, held_count, IsPick, root_cell, root_cells}
use Rattle.gap_box.proofs.PartLaws.{length-root, root-at}
use Rattle.gap_instance.specs.Instances.{InstanceValue, IsInstance}
use Rattle.gap_instance.specs.Limits.{sum_of, held_of, turnover_of, MeetsLimits}
use Rattle.gap_model.specs.Limits.{all_below, keeps_range, keeps_turnover, meets_limits}

-- ---- a test at each place
pub all_at : (n : ℕ) (p : ℕ → Bool) → all_below n p ≡ true → (i : ℕ) → i < n → p i ≡ true
all_at zero p e i h = absurd (omega arith)
all_at (suc n) p e i h = let r = and_parts (all_below n p) (p n) e in all_step r.1 (λ g. all_at n p r.0 i g) (cases_eq i n)
  where
    all_step : p n ≡ true → (i < n → p i ≡ true) → (i ≡ n) ⊎ (i ≡ n → ⊥) → p i ≡ true
    all_step here go (inl q) = ap p q ∙ here
    all_step here go (inr q) = go (omega (arith, q))

pub all_from : (n : ℕ) (p : ℕ → Bool) → ((i : ℕ) → i < n → p i ≡ true) → all_below n p ≡ true
all_from zero p h = refl
all_from (suc n) p h = and_from (all_below n p) (p n) (all_from n p (λ i g. h i (omega arith))) (h n (omega arith))

-- ---- the test decides the limits
same_sum : (n : ℕ) (x : List ℕ) → length x ≡ n → pos (sum x) ≡ sum_of n x
same_sum n x e = sum_places x ∙ ap (λ m. sum_below m (natural_at x)) e

turnover_true : (I : InstanceValue) (o : Option ℕ) (x : List ℕ) → keeps_turnover I o x ≡ true → ForSome o (λ t. turnover_of I.market.assets I.present x ≤ℤ pos t)
turnover_true I None x e t q = cc
turnover_true I (Some u) x e t q = let r : turnover_of I.market.assets I.present x ≤ℤ pos u = grind (arith, ints) in let s : u ≡ t = cc in subst (λ (w : ℕ). turnover_of I.market.assets I.present x ≤ℤ pos w) s r

turnover_from : (I : InstanceValue) (o : Option ℕ) (x : List ℕ) → ForSome o (λ t. turnover_of I.market.assets I.present x ≤ℤ pos t) → keeps_turnover I o x ≡ true
turnover_from I None x h = refl
turnover_from I (Some u) x h = let r = h u refl in grind (arith, ints)

turnover_false : (I : InstanceValue) (o : Option ℕ) (x : List ℕ) → keeps_turnover I o x ≡ false → (t : ℕ) × (o ≡ Some t) × (pos t <ℤ turnover_of I.market.assets I.present x)
turnover_false I None x e = cc
turnover_false I (Some u) x e = (u, refl, grind (arith, ints))

range_least : (I : InstanceValue) (x : List ℕ) (i : ℕ) → keeps_range I x i ≡ true → 0 < slice_index_or x i 0 → slice_index_or I.least i 0 ≤ slice_index_or x i 0
range_least I x i e h = least_by (slice_index_or x i 0) (slice_index_or I.least i 0) (slice_index_or I.greatest i 0) e h
  where
    least_by : (v l u : ℕ) → (leb v u && (eqb v 0 || leb l v)) ≡ true → 0 < v → l ≤ v
    least_by v l u e h = grind (arith, nat_tests)

range_greatest : (I : InstanceValue) (x : List ℕ) (i : ℕ) → keeps_range I x i ≡ true → slice_index_or x i 0 ≤ slice_index_or I.greatest i 0
range_greatest I x i e = greatest_by (slice_index_or x i 0) (slice_index_or I.least i 0) (slice_index_or I.greatest i 0) e
  where
    greatest_by : (v l u : ℕ) → (leb v u && (eqb v 0 || leb l v)) ≡ true → v ≤ u
    greatest_by v l u e = grind (arith, nat_tests)

range_from : (v l u : ℕ) → v ≤ u → (0 < v → l ≤ v) → (leb v u && (eqb v 0 || leb l v)) ≡ true
range_from zero l u h k = grind (arith, nat_tests)
range_from (suc v) l u h k = let r = k (omega arith) in grind (arith, nat_tests)

pub meets_true : (I : InstanceValue) (x : List ℕ) → meets_limits I x ≡ true → MeetsLimits I x
unfolding meets_limits
meets_true I x e =
    let a = and_parts (eqb (length x) I.market.assets) (eqb (sum x) I.lots && ((leb I.held (held_of I.market.assets x) && leb (held_of I.market.assets x) I.held_most) && (all_below I.market.assets (keeps_range I x) && keeps_turnover I I.turnover x))) e in
    let b = and_parts (eqb (sum x) I.lots) ((leb I.held (held_of I.market.assets x) && leb (held_of I.market.assets x) I.held_most) && (all_below I.market.assets (keeps_range I x) && keeps_turnover I I.turnover x)) a.1 in
    let c = and_parts (leb I.held (held_of I.market.assets x) && leb (held_of I.market.assets x) I.held_most) (all_below I.market.assets (keeps_range I x) && keeps_turnover I I.turnover x) b.1 in
    let r = and_parts (leb I.held (held_of I.market.assets x)) (leb (held_of I.market.assets x) I.held_most) c.0 in
    let d = and_parts (all_below I.market.assets (keeps_range I x)) (keeps_turnover I I.turnover x) c.1 in
    let n = eqb-true (length x) I.market.assets a.0 in
    record {
      assets_are = n;
      lots_are = sym (same_sum I.market.assets x n) ∙ ap pos (eqb-true (sum x) I.lots b.0);
      fewest = leb-true I.held (held_of I.market.assets x) r.0;
      many = leb-true (held_of I.market.assets x) I.held_most r.1;
      least_kept = λ i h k. range_least I x i (all_at I.market.assets (keeps_range I x) d.0 i h) k;
      greatest_kept = λ i h. range_greatest I x i (all_at I.market.assets (keeps_range I x) d.0 i h);
      turnover_kept = turnover_true I I.turnover x d.1;
    }

same_pos : (a b : ℕ) → pos a ≡ pos b → a ≡ b
same_pos a b e = cc

pub meets_from : (I : InstanceValue) (x : List ℕ) → MeetsLimits I x → meets_limits I x ≡ true
unfolding meets_limits
meets_from I x m =
    let s = same_pos (sum x) I.lots (same_sum I.market.assets x m.assets_are ∙ m.lots_are) in
    and_from (eqb (length x) I.market.assets) _ (eq-eqb _ _ m.assets_are)
    (and_from (eqb (sum x) I.lots) _ (eq-eqb _ _ s)
    (and_from (leb I.held (held_of I.market.assets x) && leb (held_of I.market.assets x) I.held_most) _ (and_from (leb I.held (held_of I.market.assets x)) (leb (held_of I.market.assets x) I.held_most) (le-leb _ _ m.fewest) (le-leb _ _ m.many))
    (and_from (all_below I.market.assets (keeps_range I x)) _ (all_from I.market.assets (keeps_range I x) (λ i h. range_from _ _ _ (m.greatest_kept i h) (λ k. m.least_kept i h k)))
    (turnover_from I I.turnover x m.turnover_kept))))

-- ---- lists of a part, by place
pub in_part_from : (cells : List Cell) (x : List ℕ) → length cells ≡ length x → ((k : ℕ) → k < length x → in_cell (slice_index_or cells k Out) (slice_index_or x k 0) ≡ true) → in_part cells x ≡ true
in_part_from [] [] e h = refl
in_part_from [] (v ∷ x) e h = absurd (omega arith)
in_part_from (c ∷ cells) [] e h = absurd (omega arith)
in_part_from (c ∷ cells) (v ∷ x) e h = and_from (in_cell c v) (in_part cells x) (h 0 (omega arith)) (in_part_from cells x (omega arith) (λ k p. h (suc k) (omega arith)))

pub in_part_length : (cells : List Cell) (x : List ℕ) → in_part cells x ≡ true → length cells ≡ length x
in_part_length [] [] e = refl
in_part_length [] (v ∷ x) e = cc
in_part_length (c ∷ cells) [] e = cc
in_part_length (c ∷ cells) (v ∷ x) e = ap suc (in_part_length cells x ((and_parts (in_cell c v) (in_part cells x) e).1))

pub in_part_at : (cells : List Cell) (x : List ℕ) → in_part cells x ≡ true → (k : ℕ) → k < length x → in_cell (slice_index_or cells k Out) (slice_index_or x k 0) ≡ true
in_part_at [] [] e k h = absurd (omega arith)
in_part_at [] (v ∷ x) e k h = cc
in_part_at (c ∷ cells) [] e k h = cc
in_part_at (c ∷ cells) (v ∷ x) e zero h = (and_parts (in_cell c v) (in_part cells x) e).0
in_part_at (c ∷ cells) (v ∷ x) e (suc k) h = in_part_at cells x ((and_parts (in_cell c v) (in_part cells x) e).1) k (omega arith)

-- a number between the limits of an asset is one of the root's cell, and only such
root_has : (l u v : ℕ) → v ≤ u → (0 < v → l ≤ v) → in_cell (root_cell l u) v ≡ true
root_has l u v h k = has_by (ltb u l) refl (cases_eq v 0)
  where
    has_by : (t : Bool) → ltb u l ≡ t → (v ≡ 0) ⊎ (v ≡ 0 → ⊥) → in_cell (cond t Out (Free l u)) v ≡ true
    has_by true e (inl z) = grind (arith, nat_tests)
    has_by true e (inr z) = let r = k (omega (arith, z)) in grind (arith, nat_tests)
    has_by false e (inl z) = grind (arith, nat_tests)
    has_by false e (inr z) = let r = k (omega (arith, z)) in grind (arith, nat_tests)

root_in : (l u v : ℕ) → in_cell (root_cell l u) v ≡ true → (v ≤ u) × (0 < v → l ≤ v)
root_in l u v e = in_by (ltb u l) e
  where
    in_by : (t : Bool) → in_cell (cond t Out (Free l u)) v ≡ true → (v ≤ u) × (0 < v → l ≤ v)
    in_by true e = let z : v ≡ 0 = grind (arith, nat_tests) in (omega arith, λ h. absurd (omega arith))
    in_by false e = free_by (or_cases (eqb v 0) (leb l v && leb v u) e)
      where
        free_by : (eqb v 0 ≡ true) ⊎ ((leb l v && leb v u) ≡ true) → (v ≤ u) × (0 < v → l ≤ v)
        free_by (inl f) = let z : v ≡ 0 = eqb-true v 0 f in (omega arith, λ h. absurd (omega arith))
        free_by (inr f) = let r = and_parts (leb l v) (leb v u) f in let a = leb-true l v r.0 in let b = leb-true v u r.1 in (b, λ h. a)

same_held : (I : InstanceValue) (x : List ℕ) → length x ≡ I.market.assets → held_count x ≡ held_of I.market.assets x
same_held I x e = count_places (λ v. ltb 0 v) x ∙ ap (λ n. count_if n (λ i. ltb 0 (slice_index_or x i 0))) e

-- a list that meets the limits is one of the root's, and holds from K1 to K2 assets
pub picked : (I : InstanceValue) (x : List ℕ) → IsInstance I → MeetsLimits I x → IsPick (root_cells I.least I.greatest) I.held I.held_most x
picked I x is m =
    let nl = is.limits_are.least_within.count in
    let nu = is.limits_are.greatest_within.count in
    let same : length I.least ≡ length I.greatest = nl ∙ sym nu in
    let n = length-root I.least I.greatest same in
    record {
      inside = in_part_from (root_cells I.least I.greatest) x (n ∙ nl ∙ sym m.assets_are) (λ k h. let g : k < I.market.assets = let e = m.assets_are in omega arith in let j : k < length I.least = omega arith in rw (root-at I.least I.greatest same k j) (root_has (slice_index_or I.least k 0) (slice_index_or I.greatest k 0) (slice_index_or x k 0) (m.greatest_kept k g) (λ p. m.least_kept k g p)));
      few = subst (λ (n : ℕ). I.held ≤ n) (sym (same_held I x m.assets_are)) m.fewest;
      many = subst (λ (n : ℕ). n ≤ I.held_most) (sym (same_held I x m.assets_are)) m.many;
    }

-- a list of the root that holds from K1 to K2 assets keeps the limits of the assets
pub record KeepsRanges (I : InstanceValue) (x : List ℕ) : Type 0 where
  pub assets_are : length x ≡ I.market.assets
  pub fewest : I.held ≤ held_of I.market.assets x
  pub many : held_of I.market.assets x ≤ I.held_most
  pub least_kept : (i : ℕ) → i < I.market.assets → 0 < slice_index_or x i 0 → slice_index_or I.least i 0 ≤ slice_index_or x i 0
  pub greatest_kept : (i : ℕ) → i < I.market.assets → slice_index_or x i 0 ≤ slice_index_or I.greatest i 0

pub pick_keeps : (I : InstanceValue) (x : List ℕ) → IsInstance I → IsPick (root_cells I.least I.greatest) I.held I.held_most x → KeepsRanges I x
pick_keeps I x is p =
    let nl = is.limits_are.least_within.count in
    let nu = is.limits_are.greatest_within.count in
    let same : length I.least ≡ length I.greatest = nl ∙ sym nu in
    let n = length-root I.least I.greatest same in
    let e : length x ≡ I.market.assets = sym (in_part_length (root_cells I.least I.greatest) x p.inside) ∙ n ∙ nl in
    let each : (k : ℕ) → k < I.market.assets → (slice_index_or x k 0 ≤ slice_index_or I.greatest k 0) × (0 < slice_index_or x k 0 → slice_index_or I.least k 0 ≤ slice_index_or x k 0) = λ k h. root_in (slice_index_or I.least k 0) (slice_index_or I.greatest k 0) (slice_index_or x k 0) (rw (root-at I.least I.greatest same k (omega arith)) at (in_part_at (root_cells I.least I.greatest) x p.inside k (omega arith))) in
    record {
      assets_are = e;
      fewest = subst (λ (n : ℕ). I.held ≤ n) (same_held I x e) p.few;
      many = subst (λ (n : ℕ). n ≤ I.held_most) (same_held I x e) p.many;
      least_kept = λ i h k. (each i h).1 k;
      greatest_kept = λ i h. (each i h).0;
    }

-- such a list that does not meet the limits has another sum, or turns too much
pub unmet : (I : InstanceValue) (x : List ℕ) → KeepsRanges I x → meets_limits I x ≡ false → sum_of I.market.assets x ≡ pos I.lots → (t : ℕ) × (I.turnover ≡ Some t) × (pos t <ℤ turnover_of I.market.assets I.present x)
unmet I x r e s = unmet_by (keeps_turnover I I.turnover x) refl
  where
    unmet_by : (b : Bool) → keeps_turnover I I.turnover x ≡ b → (t : ℕ) × (I.turnover ≡ Some t) × (pos t <ℤ turnover_of I.market.assets I.present x)
    unmet_by false q = turnover_false I I.turnover x q
    unmet_by true q =
        let m = meets_from I x (record { assets_are = r.assets_are; lots_are = s; fewest = r.fewest; many = r.many; least_kept = r.least_kept; greatest_kept = r.greatest_kept; turnover_kept = turnover_true I I.turnover x q }) in
        absurd (false≢true (sym e ∙ m))
