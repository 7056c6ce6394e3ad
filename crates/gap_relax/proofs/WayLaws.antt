-- The way that a price of the differences gives costs least.

use Rattle.std.proofs.Common.{◌≡◌, ℕ, zero, suc, ◌+◌, ◌-◌, ◌*◌, ◌<◌, ◌≤◌, ◌^◌, Bool, true, false, not, cond, ◌&&◌, ◌||◌, ltb, leb, if◌then◌else◌, List, length, take, replicate, slice_index_or, ℤ, pos, ◌+ℤ◌, ◌-ℤ◌, ◌*ℤ◌, ◌≤ℤ◌, int_lt, unsigned_abs, refl, sym, ◌∙◌, ap, subst, arith, add-one, to_z, of_z, mul-le-mul_right}
use Rattle.std.specs.Int.{w128}
use Rattle.std.proofs.lemmas.Int.{ints, to_z-of_z}
use Rattle.std.proofs.lemmas.Bool.Decides.{nat_tests}
use Rattle.gap_base.specs.Sums.{count_if, at}
use Rattle.gap_base.proofs.Machine.{back_of, fits_of, add_step, passed_two}
use Rattle.gap_base.proofs.Ring.{linear}
use Rattle.gap_base.proofs.SumLaws.{sum_le, sum-add}
use Rattle.gap_base.proofs.Counts.{count_none, count_more}
use Rattle.gap_box.specs.declared.cell.Cell.{Cell}
use Rattle.gap_box.specs.declared.cell.Cell.TheVariants.{Out, Held, Free}
use Rattle.gap_box.specs.Cells.{is_held, is_free}
use Rattle.gap_box.specs.Parts.{helds}
use Rattle.gap_relax.specs.Choices.{cell_at, allows, total, IsLeastChoice, IsLeastWay}
use Rattle.gap_relax.specs.Partings.{takes, IsParted}
use Rattle.gap_relax.specs.Differences.{difference, free_differences, IsShare, holds_at, is_tied, way}
use Rattle.gap_relax.proofs.Places.{count_at, count_free}
use Rattle.gap_relax.proofs.Prices.{count_two, sum_price}
use Rattle.gap_relax.proofs.PartingLaws.{not_both, taken_low, left_high, price_order}

-- ---- how many free cells the way holds
way_step : (free below above : Bool) (ties tied counts c : ℕ) → c + (ties - tied) ≡ counts + ties → (below ≡ true → above ≡ false) → (c + cond (free && (below || (not above && ltb 0 (ties - tied)))) 1 0) + (ties - (tied + cond (free && (not below && not above)) 1 0)) ≡ (counts + cond (free && below) 1 0) + ties
way_step false below above ties tied counts c e h = omega arith
way_step true true true ties tied counts c e h = let a = h refl in cc
way_step true true false ties tied counts c e h = omega arith
way_step true false true ties tied counts c e h = omega arith
way_step true false false ties tied counts c e h = grind (arith, nat_tests)

-- a free cell is held as its difference says, and another isn't free
free_way : (cell : Cell) (price x : ℤ) (left : ℕ) → (is_free cell && holds_at cell price x left) ≡ (is_free cell && takes price x left)
free_way Out price x left = refl
free_way (Held l u) price x left = refl
free_way (Free l u) price x left = refl

way_counts : (n : ℕ) (cells : List Cell) (held_cost out_cost : List ℤ) (price : ℤ) (ties : ℕ) → count_if n (λ i. is_free (cell_at cells i) && way cells held_cost out_cost price ties i) + (ties - count_if n (is_tied cells held_cost out_cost price)) ≡ count_if n (λ i. is_free (cell_at cells i) && int_lt (difference held_cost out_cost i) price) + ties
way_counts zero cells held_cost out_cost price ties =
    let a = count_none (λ i. is_free (cell_at cells i) && way cells held_cost out_cost price ties i) in
    let b = count_none (is_tied cells held_cost out_cost price) in
    let c = count_none (λ i. is_free (cell_at cells i) && int_lt (difference held_cost out_cost i) price) in
    omega arith
way_counts (suc n) cells held_cost out_cost price ties =
    let d = difference held_cost out_cost in
    let p = λ (i : ℕ). is_free (cell_at cells i) && way cells held_cost out_cost price ties i in
    let q = is_tied cells held_cost out_cost price in
    let r = λ (i : ℕ). is_free (cell_at cells i) && int_lt (d i) price in
    let f = free_way (cell_at cells n) price (d n) (ties - count_if n q) in
    let a : count_if (suc n) p ≡ count_if n p + cond (is_free (cell_at cells n) && takes price (d n) (ties - count_if n q)) 1 0 = rw (← add-one n) (count_more n p ∙ ap (λ (t : Bool). count_if n p + cond t 1 0) f) in
    let b : count_if (suc n) q ≡ count_if n q + cond (q n) 1 0 = rw (← add-one n) (count_more n q) in
    let c : count_if (suc n) r ≡ count_if n r + cond (r n) 1 0 = rw (← add-one n) (count_more n r) in
    let s = way_step (is_free (cell_at cells n)) (int_lt (d n) price) (int_lt price (d n)) ties (count_if n q) (count_if n r) (count_if n p) (way_counts n cells held_cost out_cost price ties) (not_both (d n) price) in
    rw (a, b, c) s

free_apart : (free below above : Bool) → (below ≡ true → above ≡ false) → cond {A = ℕ} (free && not above) 1 0 ≡ cond (free && below) 1 0 + cond (free && (not below && not above)) 1 0
free_apart false below above h = refl
free_apart true true true h = let a = h refl in cc
free_apart true true false h = refl
free_apart true false true h = refl
free_apart true false false h = refl

-- a count over the differences is one over the places
places_of : (t : ℤ → Bool) (cells : List Cell) (held_cost out_cost : List ℤ) → count_if (length (free_differences (length cells) cells held_cost out_cost)) (λ k. t (at (free_differences (length cells) cells held_cost out_cost) k)) ≡ count_if (length cells) (λ i. is_free (cell_at cells i) && t (difference held_cost out_cost i))
places_of t cells held_cost out_cost = sym (count_at t (pos 0) (free_differences (length cells) cells held_cost out_cost)) ∙ count_free t (length cells) cells held_cost out_cost

-- as many free cells are held as the share says
way_free : (cells : List Cell) (held_cost out_cost : List ℤ) (fewest most : ℕ) (price : ℤ) (ties : ℕ) → (s : IsShare cells held_cost out_cost fewest most price ties) → count_if (length cells) (λ i. is_free (cell_at cells i) && way cells held_cost out_cost price ties i) ≡ s.count
way_free cells held_cost out_cost fewest most price ties s =
    let n = length cells in
    let d = difference held_cost out_cost in
    let a = way_counts n cells held_cost out_cost price ties in
    let b = places_of (λ x. int_lt x price) cells held_cost out_cost in
    let c = places_of (λ x. not (int_lt price x)) cells held_cost out_cost in
    let e = count_two n (λ i. is_free (cell_at cells i) && not (int_lt price (d i))) (λ i. is_free (cell_at cells i) && int_lt (d i) price) (is_tied cells held_cost out_cost price) (λ i l. free_apart (is_free (cell_at cells i)) (int_lt (d i) price) (int_lt price (d i)) (not_both (d i) price)) in
    let low = s.parted.around.low in
    let high = s.parted.around.high in
    let t = s.ties_are in
    omega arith

held_two : (cell : Cell) (b : Bool) → allows cell b ≡ true → cond {A = ℕ} b 1 0 ≡ cond (is_held cell) 1 0 + cond (is_free cell && b) 1 0
held_two Out true e = cc
held_two Out false e = refl
held_two (Held l u) true e = refl
held_two (Held l u) false e = cc
held_two (Free l u) true e = refl
held_two (Free l u) false e = refl

-- a way holds the cells that must be held, and some free ones
pub choice_counts : (cells : List Cell) (held : ℕ → Bool) → ((i : ℕ) → i < length cells → allows (cell_at cells i) (held i) ≡ true) → count_if (length cells) held ≡ helds cells + count_if (length cells) (λ i. is_free (cell_at cells i) && held i)
choice_counts cells held h =
    let a = count_two (length cells) held (λ i. is_held (cell_at cells i)) (λ i. is_free (cell_at cells i) && held i) (λ i l. held_two (cell_at cells i) (held i) (h i l)) in
    let b = count_at is_held Out cells in
    omega arith

way_allowed : (cell : Cell) (price x : ℤ) (left : ℕ) → allows cell (holds_at cell price x left) ≡ true
way_allowed Out price x left = refl
way_allowed (Held l u) price x left = refl
way_allowed (Free l u) price x left = refl

-- where the count can be met
pub meet_bounds : (helds most fewest all : ℕ) → (leb helds most && leb fewest all) ≡ true → (helds ≤ most) × (fewest ≤ all)
meet_bounds helds most fewest all e = (grind (arith, nat_tests), grind (arith, nat_tests))

-- a price that parts the differences gives a share
pub share_is : (cells : List Cell) (held_cost out_cost : List ℤ) (fewest most few many : ℕ) (price : ℤ) (count below : ℕ) (xs : List ℤ) → xs ≡ free_differences (length cells) cells held_cost out_cost → few ≡ fewest - helds cells → many ≡ most - helds cells → IsParted (length xs) few many (at xs) price count → below ≡ count_if (length xs) (λ k. int_lt (at xs k) price) → IsShare cells held_cost out_cost fewest most price (count - below)
share_is cells held_cost out_cost fewest most few many price count below xs e f m p b =
    let a = subst (λ (ys : List ℤ). IsParted (length ys) few many (at ys) price count) e p in
    let d = subst (λ (k : ℕ). IsParted (length (free_differences (length cells) cells held_cost out_cost)) k many (at (free_differences (length cells) cells held_cost out_cost)) price count) f a in
    record {
      count = count;
      parted = subst (λ (k : ℕ). IsParted (length (free_differences (length cells) cells held_cost out_cost)) (fewest - helds cells) k (at (free_differences (length cells) cells held_cost out_cost)) price count) m d;
      ties_are = ap (λ (k : ℕ). count - k) (b ∙ ap (λ (ys : List ℤ). count_if (length ys) (λ k. int_lt (at ys k) price)) e);
    }

-- ---- an exchange at the price
exchange_cell : (cell : Cell) (b : Bool) (h o price : ℤ) (left : ℕ) → allows cell b ≡ true → ((if holds_at cell price (h -ℤ o) left then h else o) +ℤ (if is_free cell && b then price else pos 0)) ≤ℤ ((if b then h else o) +ℤ (if is_free cell && holds_at cell price (h -ℤ o) left then price else pos 0))
exchange_cell Out true h o price left e = cc
exchange_cell Out false h o price left e = omega (arith, ints)
exchange_cell (Held l u) true h o price left e = omega (arith, ints)
exchange_cell (Held l u) false h o price left e = cc
exchange_cell (Free l u) b h o price left e = exchange_free (takes price (h -ℤ o) left) b refl
  where
    exchange_free : (t b : Bool) → takes price (h -ℤ o) left ≡ t → ((if t then h else o) +ℤ (if b then price else pos 0)) ≤ℤ ((if b then h else o) +ℤ (if t then price else pos 0))
    exchange_free true true q = omega (arith, ints)
    exchange_free false false q = omega (arith, ints)
    exchange_free true false q = let a = taken_low price (h -ℤ o) left q in omega (arith, ints)
    exchange_free false true q = let a = left_high price (h -ℤ o) left q in omega (arith, ints)

exchanged : (cells : List Cell) (held_cost out_cost : List ℤ) (price : ℤ) (ties : ℕ) (b : ℕ → Bool) → ((i : ℕ) → i < length cells → allows (cell_at cells i) (b i) ≡ true) →
    (total (length cells) (at held_cost) (at out_cost) (way cells held_cost out_cost price ties) +ℤ pos (count_if (length cells) (λ i. is_free (cell_at cells i) && b i)) *ℤ price)
    ≤ℤ (total (length cells) (at held_cost) (at out_cost) b +ℤ pos (count_if (length cells) (λ i. is_free (cell_at cells i) && way cells held_cost out_cost price ties i)) *ℤ price)
exchanged cells held_cost out_cost price ties b h =
    let n = length cells in
    let w = way cells held_cost out_cost price ties in
    let wf = λ (i : ℕ). is_free (cell_at cells i) && w i in
    let bf = λ (i : ℕ). is_free (cell_at cells i) && b i in
    let a = sum_le n (λ i. (if w i then at held_cost i else at out_cost i) +ℤ (if bf i then price else pos 0)) (λ i. (if b i then at held_cost i else at out_cost i) +ℤ (if wf i then price else pos 0)) (λ i l. exchange_cell (cell_at cells i) (b i) (at held_cost i) (at out_cost i) price (ties - count_if i (is_tied cells held_cost out_cost price)) (h i l)) in
    let c = sum-add n (λ i. if w i then at held_cost i else at out_cost i) (λ i. if bf i then price else pos 0) in
    let e = sum-add n (λ i. if b i then at held_cost i else at out_cost i) (λ i. if wf i then price else pos 0) in
    let f = sum_price n bf price in
    let g = sum_price n wf price in
    joined _ _ _ _ _ _ _ _ a c e f g
  where
    joined : (l r pd bd bp pp bq pq : ℤ) → l ≤ℤ r → l ≡ pd +ℤ bp → r ≡ bd +ℤ pp → bp ≡ bq → pp ≡ pq → (pd +ℤ bq) ≤ℤ (bd +ℤ pq)
    joined l r pd bd bp pp bq pq a c e f g = omega (arith, linear)

-- ---- the way costs least
pub least_way : (cells : List Cell) (held_cost out_cost held_slope out_slope : List ℤ) (fewest most : ℕ) (price : ℤ) (ties : ℕ) (value slope : ℤ) → helds cells ≤ most → IsShare cells held_cost out_cost fewest most price ties → value ≡ total (length cells) (at held_cost) (at out_cost) (way cells held_cost out_cost price ties) → slope ≡ total (length cells) (at held_slope) (at out_slope) (way cells held_cost out_cost price ties) → IsLeastWay cells (at held_cost) (at out_cost) (at held_slope) (at out_slope) fewest most value slope
least_way cells held_cost out_cost held_slope out_slope fewest most price ties value slope room s v g =
    let w = way cells held_cost out_cost price ties in
    let allowed : (i : ℕ) → i < length cells → allows (cell_at cells i) (w i) ≡ true = λ i l. way_allowed (cell_at cells i) price (difference held_cost out_cost i) (ties - count_if i (is_tied cells held_cost out_cost price)) in
    let free = way_free cells held_cost out_cost fewest most price ties s in
    let all = choice_counts cells w allowed in
    let few = s.parted.few in
    let many = s.parted.many in
    record {
      reached = (w, record { allowed = allowed; few = omega arith; many = omega arith }, sym v, sym g);
      below = λ b choice.
          let counts = choice_counts cells b choice.allowed in
          let least = choice.few in
          let greatest = choice.many in
          subst (λ (z : ℤ). z ≤ℤ total (length cells) (at held_cost) (at out_cost) b) (sym v)
          (price_order (count_if (length cells) (λ i. is_free (cell_at cells i) && w i)) (count_if (length cells) (λ i. is_free (cell_at cells i) && b i)) price _ _
          (λ n. let q = s.parted.negative n in omega arith) (λ n. let q = s.parted.positive n in omega arith)
          (exchanged cells held_cost out_cost price ties b choice.allowed));
    }

-- its value is the least over all ways
pub way_choice : (cells : List Cell) (held_cost out_cost held_slope out_slope : ℕ → ℤ) (fewest most : ℕ) (value slope : ℤ) → IsLeastWay cells held_cost out_cost held_slope out_slope fewest most value slope → IsLeastChoice cells held_cost out_cost fewest most value
way_choice cells held_cost out_cost held_slope out_slope fewest most value slope w = let r = w.reached in record { reached = (r.0, r.1, r.2); below = w.below }

-- no slopes are small ones
pub no_slopes : (n m k b : ℕ) → unsigned_abs (slice_index_or (take n (replicate m (pos 0))) k (pos 0)) ≤ b
no_slopes zero m k b = omega arith
no_slopes (suc n) zero k b = omega arith
no_slopes (suc n) (suc m) zero b = omega arith
no_slopes (suc n) (suc m) (suc k) b = no_slopes n m k b

-- ---- the loop that adds a way up
total_number : (t : Bool) (held : ℕ → Bool) (i : ℕ) (x y z : ℤ) (h o : ℕ → ℤ) → t ≡ held i → x ≡ h i → y ≡ o i → z ≡ (if t then x else y) → z ≡ (if held i then h i else o i)
total_number t held i x y z h o e f g is = is ∙ ap (λ (b : Bool). if b then x else y) e ∙ ap (λ q. if held i then q else y) f ∙ ap (λ q. if held i then h i else q) g

-- one more cell, where the sum went through bits
pub total_more : (n b : ℕ) (held : ℕ → Bool) (h o : ℕ → ℤ) (t : Bool) (sum x y term : ℤ) → n < 256 → 256 * b < 2 ^ 127 → unsigned_abs sum ≤ n * b → unsigned_abs term ≤ b → sum ≡ total n h o held → t ≡ held n → x ≡ h n → y ≡ o n → term ≡ (if t then x else y)
    → (to_z w128 (of_z w128 (sum +ℤ to_z w128 (of_z w128 term))) ≡ total (n + 1) h o held) × (unsigned_abs (to_z w128 (of_z w128 (sum +ℤ to_z w128 (of_z w128 term)))) ≤ (n + 1) * b)
total_more n b held h o t sum x y term few fit small here value chosen xs ys is =
    let m : b ≤ 256 * b = omega arith in
    let clean = back_of term b here (omega arith) in
    let size = passed_two n b sum term small here in
    let more : (n + 1) * b ≤ 256 * b = mul-le-mul_right b (omega arith) in
    let fits = fits_of (sum +ℤ term) (256 * b) (omega arith) fit in
    let back = to_z-of_z w128 (sum +ℤ term) fits in
    let next = add_step n (λ i. if held i then h i else o i) sum term value (total_number t held n x y term h o chosen xs ys is) in
    rw clean (rw back (next, size))
