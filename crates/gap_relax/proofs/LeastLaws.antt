-- What the least costs of some cells, for each number of free ones held, become by one more cell.

use Rattle.std.proofs.Common.{◌≡◌, ℕ, zero, suc, ◌+◌, ◌-◌, ◌<◌, ◌≤◌, Bool, true, false, ◌&&◌, ◌==◌, cond, if◌then◌else◌, List, length, ℤ, pos, ◌+ℤ◌, ◌≤ℤ◌, ◌<ℤ◌, refl, sym, ap, ◌∙◌, subst, ◌⊎◌, inl, inr, arith, ltb, leb}
use Rattle.std.proofs.lemmas.Int.{ints}
use Rattle.std.proofs.lemmas.Bool.{cases_eq, ltb-true}
use Rattle.std.proofs.lemmas.Bool.Decides.{nat_tests}
use Rattle.gap_base.specs.Sums.{sum_below, count_if}
use Rattle.gap_base.proofs.Ring.{if_same, if_other}
use Rattle.gap_base.proofs.SumLaws.{sum_none, sum_more, sum_same}
use Rattle.gap_base.proofs.Counts.{count_none, count_more, count_same, count_implied}
use Rattle.gap_box.specs.declared.cell.Cell.{Cell}
use Rattle.gap_box.specs.declared.cell.Cell.TheVariants.{Out, Held, Free}
use Rattle.gap_box.specs.Cells.{is_held, is_free}
use Rattle.gap_box.specs.Parts.{helds, frees}
use Rattle.gap_relax.specs.Choices.{cell_at, allows, total, IsLeastWay}
use Rattle.gap_relax.proofs.Places.{count_at}
use Rattle.gap_relax.proofs.WayLaws.{choice_counts, meet_bounds}
use Rattle.gap_relax.specs.Rows.{Ways, HoldsFree, IsLeastFree, AreLeast}

-- ---- one more place of a way
-- a way with a place decided anew
abbrev with_place : (ℕ → Bool) → ℕ → Bool → ℕ → Bool
with_place held n b k = if k == n then b else held k

at_place : (held : ℕ → Bool) (n : ℕ) (b : Bool) → with_place held n b n ≡ b
at_place held n b = if_same n n b (held n) refl

off_place : (held : ℕ → Bool) (n : ℕ) (b : Bool) (k : ℕ) → k < n → with_place held n b k ≡ held k
off_place held n b k l = if_other k n b (held k) (λ e. omega arith)

total_with : (n : ℕ) (h o : ℕ → ℤ) (held : ℕ → Bool) (b : Bool) → total (n + 1) h o (with_place held n b) ≡ total n h o held +ℤ (if b then h n else o n)
total_with n h o held b =
    sum_more n (λ i. if with_place held n b i then h i else o i)
    ∙ ap (λ (x : ℤ). x +ℤ (if with_place held n b n then h n else o n)) (sum_same n (λ i. if with_place held n b i then h i else o i) (λ i. if held i then h i else o i) (λ k l. ap (λ (t : Bool). if t then h k else o k) (off_place held n b k l)))
    ∙ ap (λ (t : Bool). total n h o held +ℤ (if t then h n else o n)) (at_place held n b)

count_with : (cells : List Cell) (n : ℕ) (held : ℕ → Bool) (b : Bool) → count_if (n + 1) (λ i. is_free (cell_at cells i) && with_place held n b i) ≡ count_if n (λ i. is_free (cell_at cells i) && held i) + cond (is_free (cell_at cells n) && b) 1 0
count_with cells n held b =
    count_more n (λ i. is_free (cell_at cells i) && with_place held n b i)
    ∙ ap (λ (m : ℕ). m + cond (is_free (cell_at cells n) && with_place held n b n) 1 0) (count_same n (λ i. is_free (cell_at cells i) && with_place held n b i) (λ i. is_free (cell_at cells i) && held i) (λ k l. ap (λ (t : Bool). is_free (cell_at cells k) && t) (off_place held n b k l)))
    ∙ ap (λ (t : Bool). count_if n (λ i. is_free (cell_at cells i) && held i) + cond (is_free (cell_at cells n) && t) 1 0) (at_place held n b)

-- a way over one more place, where it is allowed there
way_with : (cells : List Cell) (n j m : ℕ) (held : ℕ → Bool) (b : Bool) → HoldsFree cells n j held → allows (cell_at cells n) b ≡ true → m ≡ j + cond (is_free (cell_at cells n) && b) 1 0 → HoldsFree cells (n + 1) m (with_place held n b)
way_with cells n j m held b h a e = record {
  allowed = λ i l. here i l (cases_eq i n);
  count = count_with cells n held b ∙ ap (λ (c : ℕ). c + cond (is_free (cell_at cells n) && b) 1 0) h.count ∙ sym e;
}
  where
    here : (i : ℕ) → i < n + 1 → (i ≡ n) ⊎ (i ≡ n → ⊥) → allows (cell_at cells i) (with_place held n b i) ≡ true
    here i l (inl f) = subst (λ (k : ℕ). allows (cell_at cells k) (with_place held n b k) ≡ true) (sym f) (ap (λ (t : Bool). allows (cell_at cells n) t) (at_place held n b) ∙ a)
    here i l (inr f) = ap (λ (t : Bool). allows (cell_at cells i) t) (off_place held n b i (omega (arith, f))) ∙ h.allowed i (omega (arith, f))

-- the same way without the last place
way_less : (cells : List Cell) (n j m : ℕ) (held : ℕ → Bool) → HoldsFree cells (n + 1) m held → m ≡ j + cond (is_free (cell_at cells n) && held n) 1 0 → HoldsFree cells n j held
way_less cells n j m held h e = record {
  allowed = λ i l. h.allowed i (omega arith);
  count = let a = count_more n (λ i. is_free (cell_at cells i) && held i) in let b = h.count in omega arith;
}

total_more : (n : ℕ) (h o : ℕ → ℤ) (held : ℕ → Bool) → total (n + 1) h o held ≡ total n h o held +ℤ (if held n then h n else o n)
total_more n h o held = sum_more n (λ i. if held i then h i else o i)

-- ---- a cell that isn't free
-- what a cell that isn't free allows
fixed_by : (cell : Cell) (b : Bool) → is_free cell ≡ false → allows cell b ≡ true → b ≡ is_held cell
fixed_by Out true f a = cc
fixed_by Out false f a = refl
fixed_by (Held l u) true f a = refl
fixed_by (Held l u) false f a = cc
fixed_by (Free l u) b f a = cc

fixed_allowed : (cell : Cell) → is_free cell ≡ false → allows cell (is_held cell) ≡ true
fixed_allowed Out f = refl
fixed_allowed (Held l u) f = refl
fixed_allowed (Free l u) f = cc

none_free : (b t : Bool) → b ≡ false → cond {A = ℕ} (b && t) 1 0 ≡ 0
none_free b t e = rw e refl

add_last : (b s c v : ℤ) → (b +ℤ s) +ℤ c ≡ (b +ℤ c) +ℤ s
add_last b s c v = omega (arith, ints)

fixed_least : (w : Ways) (n j : ℕ) (value slope cost grade : ℤ) → is_free (cell_at w.cells n) ≡ false → cost ≡ (if is_held (cell_at w.cells n) then w.held_cost n else w.out_cost n) → grade ≡ (if is_held (cell_at w.cells n) then w.held_slope n else w.out_slope n) → IsLeastFree w n j value slope → IsLeastFree w (n + 1) j (value +ℤ cost) (slope +ℤ grade)
fixed_least w n j value slope cost grade f c g h =
    let b = is_held (cell_at w.cells n) in
    let r = h.reached in
    let e : j ≡ j + cond (is_free (cell_at w.cells n) && b) 1 0 = let z = none_free (is_free (cell_at w.cells n)) b f in omega arith in
    record {
      reached = (with_place r.0 n b, way_with w.cells n j j r.0 b r.1 (fixed_allowed (cell_at w.cells n) f) e, let t = total_with n w.held_cost w.out_cost r.0 b in let u = r.2 in summed _ _ _ _ _ t u c, let t = total_with n w.held_slope w.out_slope r.0 b in let u = r.3 in summed _ _ _ _ _ t u g);
      below = λ held p.
          let z = none_free (is_free (cell_at w.cells n)) (held n) f in
          let q = h.below held (way_less w.cells n j j held p (omega arith)) in
          let t = total_more n w.held_cost w.out_cost held in
          let s = fixed_by (cell_at w.cells n) (held n) f (p.allowed n (omega arith)) in
          let u : (if held n then w.held_cost n else w.out_cost n) ≡ cost = ap (λ (b : Bool). if b then w.held_cost n else w.out_cost n) s ∙ sym c in
          passed _ _ _ _ _ t u q;
    }
  where
    summed : (t s x c v : ℤ) → t ≡ s +ℤ x → s ≡ v → c ≡ x → t ≡ v +ℤ c
    summed t s x c v d e f = omega (arith, ints)

    passed : (t s x c v : ℤ) → t ≡ s +ℤ x → x ≡ c → v ≤ℤ s → (v +ℤ c) ≤ℤ t
    passed t s x c v d e f = omega (arith, ints)

pub least_fixed : (w : Ways) (n count most : ℕ) (value slope cost grade : ℤ) (d s : ℕ → ℤ) → is_free (cell_at w.cells n) ≡ false → cost ≡ (if is_held (cell_at w.cells n) then w.held_cost n else w.out_cost n) → grade ≡ (if is_held (cell_at w.cells n) then w.held_slope n else w.out_slope n) → AreLeast w n count most value slope d s → AreLeast w (n + 1) count most (value +ℤ cost) (slope +ℤ grade) d s
least_fixed w n count most value slope cost grade d s f c g h = record {
  rising = h.rising;
  all = λ j l k. let a = count_more n (λ i. is_free (cell_at w.cells i)) in let z : cond {A = ℕ} (is_free (cell_at w.cells n)) 1 0 ≡ 0 = rw f refl in h.all j l (omega arith);
  least = λ j l. subst (λ (x : ℤ). IsLeastFree w (n + 1) j x ((slope +ℤ grade) +ℤ sum_below j s)) (add_last value (sum_below j d) cost value) (subst (λ (x : ℤ). IsLeastFree w (n + 1) j ((value +ℤ sum_below j d) +ℤ cost) x) (add_last slope (sum_below j s) grade slope) (fixed_least w n j (value +ℤ sum_below j d) (slope +ℤ sum_below j s) cost grade f c g (h.least j l)));
}

-- ---- none is seen
pub least_none : (w : Ways) (most : ℕ) (d s : ℕ → ℤ) → AreLeast w 0 0 most (pos 0) (pos 0) d s
least_none w most d s = record {
  rising = λ j k l m. absurd (omega arith);
  all = λ j l k. let a = count_none (λ i. is_free (cell_at w.cells i)) in omega arith;
  least = λ j l. let z : j ≡ 0 = omega arith in subst (λ (m : ℕ). IsLeastFree w 0 m (pos 0 +ℤ sum_below m d) (pos 0 +ℤ sum_below m s)) (sym z) (rw (sum_none d, sum_none s) (record {
    reached = ((λ i. false), record { allowed = λ i l. absurd (omega arith); count = count_none (λ i. is_free (cell_at w.cells i) && false) }, sum_none (λ i. w.out_cost i), sum_none (λ i. w.out_slope i));
    below = λ held p. let e = sum_none (λ i. if held i then w.held_cost i else w.out_cost i) in omega (arith, ints);
  }));
}

-- ---- a free cell
-- no way over one more place, which is free, is below a number that none of the two kinds is below
free_below : (w : Ways) (n j : ℕ) (v : ℤ) → is_free (cell_at w.cells n) ≡ true
    → ((held : ℕ → Bool) → HoldsFree w.cells n j held → v ≤ℤ (total n w.held_cost w.out_cost held +ℤ w.out_cost n))
    → ((i : ℕ) → j ≡ i + 1 → (held : ℕ → Bool) → HoldsFree w.cells n i held → v ≤ℤ (total n w.held_cost w.out_cost held +ℤ w.held_cost n))
    → (held : ℕ → Bool) → HoldsFree w.cells (n + 1) j held → v ≤ℤ total (n + 1) w.held_cost w.out_cost held
free_below w n j v f without with held p = by_last (held n) refl
  where
    one_of : (b t u : Bool) → b ≡ true → t ≡ u → cond {A = ℕ} (b && t) 1 0 ≡ cond u 1 0
    one_of b t u e g = rw (e, g) refl

    passed : (t s x : ℤ) → t ≡ s +ℤ x → v ≤ℤ (s +ℤ x) → v ≤ℤ t
    passed t s x e h = omega (arith, ints)

    by_last : (b : Bool) → held n ≡ b → v ≤ℤ total (n + 1) w.held_cost w.out_cost held
    by_last false e =
        let z = one_of (is_free (cell_at w.cells n)) (held n) false f e in
        let t = total_more n w.held_cost w.out_cost held ∙ ap (λ (b : Bool). total n w.held_cost w.out_cost held +ℤ (if b then w.held_cost n else w.out_cost n)) e in
        passed (total (n + 1) w.held_cost w.out_cost held) (total n w.held_cost w.out_cost held) (w.out_cost n) t (without held (way_less w.cells n j j held p (omega arith)))
    by_last true e =
        let z = one_of (is_free (cell_at w.cells n)) (held n) true f e in
        let c = count_more n (λ i. is_free (cell_at w.cells i) && held i) in
        let q = p.count in
        let t = total_more n w.held_cost w.out_cost held ∙ ap (λ (b : Bool). total n w.held_cost w.out_cost held +ℤ (if b then w.held_cost n else w.out_cost n)) e in
        passed (total (n + 1) w.held_cost w.out_cost held) (total n w.held_cost w.out_cost held) (w.held_cost n) t (with (j - 1) (omega arith) held (way_less w.cells n (j - 1) j held p (omega arith)))

free_allowed : (cell : Cell) (b : Bool) → is_free cell ≡ true → allows cell b ≡ true
free_allowed Out b f = cc
free_allowed (Held l u) b f = cc
free_allowed (Free l u) b f = refl

-- a way that has a value and a slope, with one more place that is free
free_reached : (w : Ways) (n i j : ℕ) (value slope cost grade : ℤ) (b : Bool) → is_free (cell_at w.cells n) ≡ true → j ≡ i + cond b 1 0 → cost ≡ (if b then w.held_cost n else w.out_cost n) → grade ≡ (if b then w.held_slope n else w.out_slope n) → IsLeastFree w n i value slope
    → (held : ℕ → Bool) × HoldsFree w.cells (n + 1) j held × (total (n + 1) w.held_cost w.out_cost held ≡ value +ℤ cost) × (total (n + 1) w.held_slope w.out_slope held ≡ slope +ℤ grade)
free_reached w n i j value slope cost grade b f e c g h =
    let r = h.reached in
    let z : cond {A = ℕ} (is_free (cell_at w.cells n) && b) 1 0 ≡ cond b 1 0 = rw f refl in
    (with_place r.0 n b, way_with w.cells n i j r.0 b r.1 (free_allowed (cell_at w.cells n) b f) (omega arith), let t = total_with n w.held_cost w.out_cost r.0 b in let u = r.2 in summed _ _ _ _ _ t u c, let t = total_with n w.held_slope w.out_slope r.0 b in let u = r.3 in summed _ _ _ _ _ t u g)
  where
    summed : (t s x c v : ℤ) → t ≡ s +ℤ x → s ≡ v → c ≡ x → t ≡ v +ℤ c
    summed t s x c v d e f = omega (arith, ints)

pub le_or_lt : (m n : ℕ) → (m ≤ n) ⊎ (n < m)
le_or_lt m n = by_test (ltb n m) refl
  where
    by_test : (t : Bool) → ltb n m ≡ t → (m ≤ n) ⊎ (n < m)
    by_test true e = inr (ltb-true n m e)
    by_test false e = inl (grind (arith, nat_tests))

-- numbers after one was put among them
pub record ArePut (d e : ℕ → ℤ) (place kept : ℕ) (x : ℤ) : Type 0 where
  pub before : (k : ℕ) → k < place → k < kept → e k ≡ d k
  pub here : place < kept → e place ≡ x
  pub after : (k : ℕ) → place < k → k < kept → e k ≡ d (k - 1)

-- the sums of the first ones, in front of the place and behind it
sum_before : (d e : ℕ → ℤ) (place kept m : ℕ) (x : ℤ) → ArePut d e place kept x → m ≤ place → m ≤ kept → sum_below m e ≡ sum_below m d
sum_before d e place kept m x p l k = sum_same m e d (λ i h. p.before i (omega arith) (omega arith))

sum_after : (d e : ℕ → ℤ) (place kept m : ℕ) (x : ℤ) → ArePut d e place kept x → place ≤ m → m < kept → sum_below (m + 1) e ≡ sum_below m d +ℤ x
sum_after d e place kept zero x p l k =
    let z : place ≡ 0 = omega arith in
    let a = sum_more 0 e in
    let b = sum_none e in
    let c = sum_none d in
    let h = subst (λ (q : ℕ). e q ≡ x) z (p.here (omega arith)) in
    first _ _ _ _ _ a b c h
  where
    first : (t s u y x : ℤ) → t ≡ s +ℤ y → s ≡ pos 0 → u ≡ pos 0 → y ≡ x → t ≡ u +ℤ x
    first t s u y x a b c h = omega (arith, ints)
sum_after d e place kept (suc m) x p l k = by_place (λ h g. sum_after d e place kept m x p h g) (cases_eq place (suc m))
  where
    here_is : (t s u y x : ℤ) → t ≡ s +ℤ y → s ≡ u → y ≡ x → t ≡ u +ℤ x
    here_is t s u y x a b h = omega (arith, ints)

    moved_is : (t s u v y g x : ℤ) → t ≡ s +ℤ y → s ≡ u +ℤ x → v ≡ u +ℤ g → y ≡ g → t ≡ v +ℤ x
    moved_is t s u v y g x a b c h = omega (arith, ints)

    by_place : (place ≤ m → m < kept → sum_below (m + 1) e ≡ sum_below m d +ℤ x) → (place ≡ suc m) ⊎ (place ≡ suc m → ⊥) → sum_below (suc m + 1) e ≡ sum_below (suc m) d +ℤ x
    by_place go (inl q) = here_is (sum_below (suc m + 1) e) (sum_below (suc m) e) (sum_below (suc m) d) (e (suc m)) x (sum_more (suc m) e) (sum_before d e place kept (suc m) x p (omega (arith, q)) (omega arith)) (subst (λ (i : ℕ). e i ≡ x) q (p.here (omega arith)))
    by_place go (inr q) =
        let r = go (omega (arith, q)) (omega arith) in
        let s : sum_below (suc m) e ≡ sum_below m d +ℤ x = subst (λ (i : ℕ). sum_below i e ≡ sum_below m d +ℤ x) (omega arith) r in
        let t : sum_below (suc m) d ≡ sum_below m d +ℤ d m = subst (λ (i : ℕ). sum_below i d ≡ sum_below m d +ℤ d m) (omega arith) (sum_more m d) in
        let u : e (suc m) ≡ d m = p.after (suc m) (omega (arith, q)) (omega arith) ∙ ap d (omega arith) in
        moved_is (sum_below (suc m + 1) e) (sum_below (suc m) e) (sum_below m d) (sum_below (suc m) d) (e (suc m)) (d m) x (sum_more (suc m) e) s t u

-- the order is kept
pub put_rising : (d e : ℕ → ℤ) (place count kept : ℕ) (x : ℤ) → ((j k : ℕ) → j ≤ k → k < count → d j ≤ℤ d k) → ArePut d e place kept x → kept ≤ count + 1 → ((k : ℕ) → k < place → d k ≤ℤ x) → ((k : ℕ) → place ≤ k → k < count → x ≤ℤ d k) → place ≤ count → (j k : ℕ) → j ≤ k → k < kept → e j ≤ℤ e k
put_rising d e place count kept x rising p few low high there j k l h = by_places (places j) (places k)
  where
    places : (i : ℕ) → (i < place) ⊎ ((i ≡ place) ⊎ (place < i))
    places i = by_equal (cases_eq i place)
      where
        by_equal : (i ≡ place) ⊎ (i ≡ place → ⊥) → (i < place) ⊎ ((i ≡ place) ⊎ (place < i))
        by_equal (inl q) = inr (inl q)
        by_equal (inr q) = by_order (le_or_lt place i)
          where
            by_order : (place ≤ i) ⊎ (i < place) → (i < place) ⊎ ((i ≡ place) ⊎ (place < i))
            by_order (inl r) = inr (inr (omega (arith, q)))
            by_order (inr r) = inl r

    joined : (a b c f : ℤ) → a ≡ b → c ≡ f → b ≤ℤ f → a ≤ℤ c
    joined a b c f p q r = omega (arith, ints)

    here : (i : ℕ) → i ≡ place → i < kept → e i ≡ x
    here i q r = subst (λ (m : ℕ). e m ≡ x) (sym q) (p.here (omega (arith, q)))

    by_places : (j < place) ⊎ ((j ≡ place) ⊎ (place < j)) → (k < place) ⊎ ((k ≡ place) ⊎ (place < k)) → e j ≤ℤ e k
    by_places (inl a) (inl b) = joined (e j) (d j) (e k) (d k) (p.before j a (omega arith)) (p.before k b h) (rising j k l (omega arith))
    by_places (inl a) (inr (inl b)) = joined (e j) (d j) (e k) x (p.before j a (omega arith)) (here k b h) (low j a)
    by_places (inl a) (inr (inr b)) = joined (e j) (d j) (e k) (d (k - 1)) (p.before j a (omega arith)) (p.after k b h) (rising j (k - 1) (omega arith) (omega arith))
    by_places (inr (inl a)) (inl b) = absurd (omega (arith, a))
    by_places (inr (inl a)) (inr (inl b)) = joined (e j) x (e k) x (here j a (omega arith)) (here k b h) (omega (arith, ints))
    by_places (inr (inl a)) (inr (inr b)) = joined (e j) x (e k) (d (k - 1)) (here j a (omega arith)) (p.after k b h) (high (k - 1) (omega arith) (omega arith))
    by_places (inr (inr a)) (inl b) = absurd (omega arith)
    by_places (inr (inr a)) (inr (inl b)) = absurd (omega (arith, b))
    by_places (inr (inr a)) (inr (inr b)) = joined (e j) (d (j - 1)) (e k) (d (k - 1)) (p.after j a (omega arith)) (p.after k b h) (rising (j - 1) (k - 1) (omega arith) (omega arith))

-- the least cost with one more place, which is free: in front of the place where its extra is put the ways without it, from
-- there on those with it
free_least : (w : Ways) (n count most place kept j : ℕ) (value slope x y cost grade : ℤ) (d s e t : ℕ → ℤ) → is_free (cell_at w.cells n) ≡ true → w.out_cost n ≡ cost → w.out_slope n ≡ grade → w.held_cost n ≡ cost +ℤ x → w.held_slope n ≡ grade +ℤ y
    → AreLeast w n count most value slope d s → ArePut d e place kept x → ArePut s t place kept y → kept ≤ count + 1 → kept ≤ most → place ≤ count → ((k : ℕ) → k < place → d k ≤ℤ x) → ((k : ℕ) → place ≤ k → k < count → x ≤ℤ d k) → j ≤ kept
    → IsLeastFree w (n + 1) j ((value +ℤ cost) +ℤ sum_below j e) ((slope +ℤ grade) +ℤ sum_below j t)
free_least w n count most place kept j value slope x y cost grade d s e t f oc os hc hs h p q few room there low high l = by_order (le_or_lt j place)
  where
    -- in front of the place
    without_is : (v b c r u : ℤ) → r ≡ u → (v +ℤ u) +ℤ c ≡ (v +ℤ c) +ℤ r
    without_is v b c r u a = omega (arith, ints)

    -- behind it
    with_is : (v c x r u : ℤ) → r ≡ u +ℤ x → (v +ℤ u) +ℤ (c +ℤ x) ≡ (v +ℤ c) +ℤ r
    with_is v c x r u a = omega (arith, ints)

    low_out : (v c r u z o : ℤ) → r ≡ u → o ≡ c → (v +ℤ u) ≤ℤ z → ((v +ℤ c) +ℤ r) ≤ℤ (z +ℤ o)
    low_out v c r u z o a b g = omega (arith, ints)

    low_held : (v c x r u b y z o : ℤ) → r ≡ u → u ≡ b +ℤ y → y ≤ℤ x → o ≡ c +ℤ x → (v +ℤ b) ≤ℤ z → ((v +ℤ c) +ℤ r) ≤ℤ (z +ℤ o)
    low_held v c x r u b y z o a g i k m = omega (arith, ints)

    high_held : (v c x r u z o : ℤ) → r ≡ u +ℤ x → o ≡ c +ℤ x → (v +ℤ u) ≤ℤ z → ((v +ℤ c) +ℤ r) ≤ℤ (z +ℤ o)
    high_held v c x r u z o a b g = omega (arith, ints)

    high_out : (v c x r u b y z o : ℤ) → r ≡ u +ℤ x → b ≡ u +ℤ y → x ≤ℤ y → o ≡ c → (v +ℤ b) ≤ℤ z → ((v +ℤ c) +ℤ r) ≤ℤ (z +ℤ o)
    high_out v c x r u b y z o a g i k m = omega (arith, ints)

    front : j ≤ place → IsLeastFree w (n + 1) j ((value +ℤ cost) +ℤ sum_below j e) ((slope +ℤ grade) +ℤ sum_below j t)
    front o =
        let se = sum_before d e place kept j x p o l in
        let st = sum_before s t place kept j y q o l in
        let r = free_reached w n j j (value +ℤ sum_below j d) (slope +ℤ sum_below j s) cost grade false f (omega arith) (sym oc) (sym os) (h.least j (omega arith)) in
        record {
          reached = (r.0, r.1, r.2 ∙ without_is value value cost (sum_below j e) (sum_below j d) se, r.3 ∙ without_is slope slope grade (sum_below j t) (sum_below j s) st);
          below = free_below w n j ((value +ℤ cost) +ℤ sum_below j e) f
              (λ held a. low_out value cost (sum_below j e) (sum_below j d) (total n w.held_cost w.out_cost held) (w.out_cost n) se oc ((h.least j (omega arith)).below held a))
              (λ i z held a. low_held value cost x (sum_below j e) (sum_below j d) (sum_below i d) (d i) (total n w.held_cost w.out_cost held) (w.held_cost n) se (subst (λ (m : ℕ). sum_below m d ≡ sum_below i d +ℤ d i) (sym z) (sum_more i d)) (low i (omega (arith, z))) hc ((h.least i (omega (arith, z))).below held a));
        }

    behind : (i : ℕ) → j ≡ i + 1 → place ≤ i → IsLeastFree w (n + 1) j ((value +ℤ cost) +ℤ sum_below j e) ((slope +ℤ grade) +ℤ sum_below j t)
    behind i z o =
        let se : sum_below j e ≡ sum_below i d +ℤ x = subst (λ (m : ℕ). sum_below m e ≡ sum_below i d +ℤ x) (sym z) (sum_after d e place kept i x p o (omega (arith, z))) in
        let st : sum_below j t ≡ sum_below i s +ℤ y = subst (λ (m : ℕ). sum_below m t ≡ sum_below i s +ℤ y) (sym z) (sum_after s t place kept i y q o (omega (arith, z))) in
        let r = free_reached w n i j (value +ℤ sum_below i d) (slope +ℤ sum_below i s) (cost +ℤ x) (grade +ℤ y) true f (omega (arith, z)) (sym hc) (sym hs) (h.least i (omega (arith, z))) in
        record {
          reached = (r.0, r.1, r.2 ∙ with_is value cost x (sum_below j e) (sum_below i d) se, r.3 ∙ with_is slope grade y (sum_below j t) (sum_below i s) st);
          below = free_below w n j ((value +ℤ cost) +ℤ sum_below j e) f
              (λ held a.
              let c = a.count in
              let b = count_implied n (λ k. is_free (cell_at w.cells k) && held k) (λ k. is_free (cell_at w.cells k)) (λ k g u. both_true (is_free (cell_at w.cells k)) (held k) u) in
              let m = h.all j (omega arith) (omega arith) in
              high_out value cost x (sum_below j e) (sum_below i d) (sum_below j d) (d i) (total n w.held_cost w.out_cost held) (w.out_cost n) se (subst (λ (m : ℕ). sum_below m d ≡ sum_below i d +ℤ d i) (sym z) (sum_more i d)) (high i o (omega (arith, z))) oc ((h.least j m).below held a))
              (λ k u held a. let v : k ≡ i = omega (arith, z) in high_held value cost x (sum_below j e) (sum_below i d) (total n w.held_cost w.out_cost held) (w.held_cost n) se hc ((h.least i (omega (arith, z))).below held (subst (λ (m : ℕ). HoldsFree w.cells n m held) v a)));
        }
      where
        both_true : (a b : Bool) → (a && b) ≡ true → a ≡ true
        both_true true b u = refl
        both_true false b u = cc

    by_order : (j ≤ place) ⊎ (place < j) → IsLeastFree w (n + 1) j ((value +ℤ cost) +ℤ sum_below j e) ((slope +ℤ grade) +ℤ sum_below j t)
    by_order (inl o) = front o
    by_order (inr o) = behind (j - 1) (omega arith) (omega arith)

-- one more free cell
pub least_offered : (w : Ways) (n count most place kept : ℕ) (value slope x y cost grade : ℤ) (d s e t : ℕ → ℤ) → is_free (cell_at w.cells n) ≡ true → w.out_cost n ≡ cost → w.out_slope n ≡ grade → w.held_cost n ≡ cost +ℤ x → w.held_slope n ≡ grade +ℤ y
    → AreLeast w n count most value slope d s → ArePut d e place kept x → ArePut s t place kept y → kept ≤ count + 1 → (count < most → kept ≡ count + 1) → (most ≤ count → kept ≡ count) → kept ≤ most → place ≤ count → ((k : ℕ) → k + 1 ≡ place → d k ≤ℤ x) → ((k : ℕ) → place ≤ k → k < count → x ≤ℤ d k)
    → AreLeast w (n + 1) kept most (value +ℤ cost) (slope +ℤ grade) e t
least_offered w n count most place kept value slope x y cost grade d s e t f oc os hc hs h p q few more same room there low high = record {
  rising = put_rising d e place count kept x h.rising p few low_all high there;
  all = λ j l k. all_by j l k (le_or_lt most count);
  least = λ j l. free_least w n count most place kept j value slope x y cost grade d s e t f oc os hc hs h p q few room there low_all high l;
}
  where
    order : (a b c : ℤ) → a ≤ℤ b → b ≤ℤ c → a ≤ℤ c
    order a b c g i = omega (arith, ints)

    low_all : (k : ℕ) → k < place → d k ≤ℤ x
    low_all k l = order (d k) (d (place - 1)) x (h.rising k (place - 1) (omega arith) (omega arith)) (low (place - 1) (omega arith))

    all_by : (j : ℕ) → j ≤ most → j ≤ count_if (n + 1) (λ i. is_free (cell_at w.cells i)) → (most ≤ count) ⊎ (count < most) → j ≤ kept
    all_by j l k (inl o) = let z = same o in omega arith
    all_by j l k (inr o) =
        let z = more o in
        let a = count_more n (λ i. is_free (cell_at w.cells i)) in
        let b : cond {A = ℕ} (is_free (cell_at w.cells n)) 1 0 ≡ 1 = rw f refl in
        let c = h.all (j - 1) (omega arith) (omega arith) in
        omega arith

-- ---- the least of all numbers of free cells
-- a sum doesn't fall by terms that aren't negative, nor rise by negative ones
sum_up : (d : ℕ → ℤ) (j m : ℕ) → j ≤ m → ((k : ℕ) → j ≤ k → k < m → pos 0 ≤ℤ d k) → sum_below j d ≤ℤ sum_below m d
sum_up d j zero l h = let z : j ≡ 0 = omega arith in subst (λ (i : ℕ). sum_below i d ≤ℤ sum_below 0 d) (sym z) (omega (arith, ints))
sum_up d j (suc m) l h = by_equal (λ a. sum_up d j m a (λ k b c. h k b (omega arith))) (cases_eq j (suc m))
  where
    grown : (a b c t : ℤ) → a ≤ℤ b → c ≡ b +ℤ t → pos 0 ≤ℤ t → a ≤ℤ c
    grown a b c t p q r = omega (arith, ints)

    by_equal : (j ≤ m → sum_below j d ≤ℤ sum_below m d) → (j ≡ suc m) ⊎ (j ≡ suc m → ⊥) → sum_below j d ≤ℤ sum_below (suc m) d
    by_equal go (inl e) = subst (λ (i : ℕ). sum_below i d ≤ℤ sum_below (suc m) d) (sym e) (omega (arith, ints))
    by_equal go (inr e) = grown (sum_below j d) (sum_below m d) (sum_below (suc m) d) (d m) (go (omega (arith, e))) (subst (λ (i : ℕ). sum_below i d ≡ sum_below m d +ℤ d m) (omega arith) (sum_more m d)) (h m (omega (arith, e)) (omega arith))

sum_down : (d : ℕ → ℤ) (j m : ℕ) → j ≤ m → ((k : ℕ) → j ≤ k → k < m → d k <ℤ pos 0) → sum_below m d ≤ℤ sum_below j d
sum_down d j zero l h = let z : j ≡ 0 = omega arith in subst (λ (i : ℕ). sum_below 0 d ≤ℤ sum_below i d) (sym z) (omega (arith, ints))
sum_down d j (suc m) l h = by_equal (λ a. sum_down d j m a (λ k b c. h k b (omega arith))) (cases_eq j (suc m))
  where
    fallen : (a b c t : ℤ) → b ≤ℤ a → c ≡ b +ℤ t → t <ℤ pos 0 → c ≤ℤ a
    fallen a b c t p q r = omega (arith, ints)

    by_equal : (j ≤ m → sum_below m d ≤ℤ sum_below j d) → (j ≡ suc m) ⊎ (j ≡ suc m → ⊥) → sum_below (suc m) d ≤ℤ sum_below j d
    by_equal go (inl e) = subst (λ (i : ℕ). sum_below (suc m) d ≤ℤ sum_below i d) (sym e) (omega (arith, ints))
    by_equal go (inr e) = fallen (sum_below j d) (sum_below m d) (sum_below (suc m) d) (d m) (go (omega (arith, e))) (subst (λ (i : ℕ). sum_below i d ≡ sum_below m d +ℤ d m) (omega arith) (sum_more m d)) (h m (omega (arith, e)) (omega arith))

first_least : (d : ℕ → ℤ) (fewest count j m : ℕ) → ((i k : ℕ) → i ≤ k → k < count → d i ≤ℤ d k) → fewest ≤ m → m ≤ count → j ≤ count → ((k : ℕ) → fewest ≤ k → k < j → d k <ℤ pos 0) → (j < count → pos 0 ≤ℤ d j) → sum_below j d ≤ℤ sum_below m d
first_least d fewest count j m rising few many top cheaper dearer = by_order (le_or_lt j m)
  where
    order : (a b : ℤ) → pos 0 ≤ℤ a → a ≤ℤ b → pos 0 ≤ℤ b
    order a b g i = omega (arith, ints)

    by_order : (j ≤ m) ⊎ (m < j) → sum_below j d ≤ℤ sum_below m d
    by_order (inl l) = sum_up d j m l (λ k a b. order (d j) (d k) (dearer (omega arith)) (rising j k a (omega arith)))
    by_order (inr l) = sum_down d m j (omega arith) (λ k a b. cheaper k (omega arith) b)

pub least_chosen : (w : Ways) (n count few most j : ℕ) (value slope sum slopes : ℤ) (d s : ℕ → ℤ) → n ≡ length w.cells → (leb (helds w.cells) w.most && leb w.fewest (helds w.cells + frees w.cells)) ≡ true → few ≡ w.fewest - helds w.cells → most ≡ w.most - helds w.cells → few ≤ most → count ≤ most → AreLeast w n count most value slope d s
    → (few ≤ count → few ≤ j) → j ≤ count → ((k : ℕ) → few ≤ k → k < j → d k <ℤ pos 0) → (j < count → pos 0 ≤ℤ d j) → sum ≡ value +ℤ sum_below j d → slopes ≡ slope +ℤ sum_below j s
    → IsLeastWay w.cells w.held_cost w.out_cost w.held_slope w.out_slope w.fewest w.most sum slopes
least_chosen w n count few most j value slope sum slopes d s size met fewest_are most_are order room h least_few many cheaper dearer sum_is slopes_are =
    let bounds = meet_bounds (helds w.cells) w.most w.fewest (helds w.cells + frees w.cells) met in
    let frees_are = count_at is_free Out w.cells in
    let all = h.all few order (let b = bounds.1 in subst (λ (m : ℕ). few ≤ count_if m (λ i. is_free (cell_at w.cells i))) (sym size) (omega arith)) in
    let low = least_few all in
    let top = bounds.0 in
    let r = (subst (λ (m : ℕ). IsLeastFree w m j (value +ℤ sum_below j d) (slope +ℤ sum_below j s)) size (h.least j many)).reached in
    let counts = choice_counts w.cells r.0 r.1.allowed in
    let held_is = r.1.count in
    record {
      reached = (r.0, record { allowed = r.1.allowed; few = omega arith; many = omega arith }, r.2 ∙ sym sum_is, r.3 ∙ sym slopes_are);
      below = λ b choice.
          let m = count_if (length w.cells) (λ i. is_free (cell_at w.cells i) && b i) in
          let held_are = choice_counts w.cells b choice.allowed in
          let least = choice.few in
          let greatest = choice.many in
          let free = count_implied (length w.cells) (λ k. is_free (cell_at w.cells k) && b k) (λ k. is_free (cell_at w.cells k)) (λ k g u. first_true (is_free (cell_at w.cells k)) (b k) u) in
          let few_here : few ≤ m = omega arith in
          let kept : m ≤ count = h.all m (omega arith) (subst (λ (q : ℕ). m ≤ count_if q (λ i. is_free (cell_at w.cells i))) (sym size) free) in
          let f = first_least d few count j m h.rising few_here kept many cheaper dearer in
          let g = (subst (λ (q : ℕ). IsLeastFree w q m (value +ℤ sum_below m d) (slope +ℤ sum_below m s)) size (h.least m kept)).below b (record { allowed = choice.allowed; count = refl }) in
          joined sum value (sum_below j d) (sum_below m d) (total (length w.cells) w.held_cost w.out_cost b) sum_is f g;
    }
  where
    first_true : (a b : Bool) → (a && b) ≡ true → a ≡ true
    first_true true b u = refl
    first_true false b u = cc

    joined : (t v a b z : ℤ) → t ≡ v +ℤ a → a ≤ℤ b → (v +ℤ b) ≤ℤ z → t ≤ℤ z
    joined t v a b z p q r = omega (arith, ints)
