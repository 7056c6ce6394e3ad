-- What a row has seen after one more cell.

use Rattle.std.proofs.Common.{◌≡◌, ℕ, ◌+◌, ◌*◌, ◌^◌, ◌<◌, ◌≤◌, Bool, true, false, if◌then◌else◌, List, ℤ, ◌+ℤ◌, ◌-ℤ◌, refl, sym, ap, ◌∙◌, subst, arith, unsigned_abs, to_z, of_z, mul-le-mul_right, add-mul}
use Rattle.std.proofs.lemmas.Int.{ints, to_z-of_z}
use Rattle.std.specs.Int.{w128}
use Rattle.gap_base.specs.Sums.{sum_below}
use Rattle.gap_base.proofs.Machine.{fits_of, back_of, unsigned_abs-+ℤ}
use Rattle.gap_base.proofs.SumLaws.{sum_more}
use Rattle.gap_box.specs.declared.cell.Cell.{Cell}
use Rattle.gap_box.specs.declared.cell.Cell.TheVariants.{Out, Held, Free}
use Rattle.gap_box.specs.Cells.{is_held, is_free}
use Rattle.gap_relax.specs.Choices.{cell_at}
use Rattle.gap_relax.specs.declared.extra.Extra.{Extra}
use Rattle.gap_relax.specs.declared.row.LeastRow.{LeastRow}
use Rattle.gap_relax.specs.Rows.{Ways, IsKept, difference_at, slope_at}
use Rattle.gap_relax.specs.SoFar.{HasSeen}
use Rattle.gap_relax.proofs.LeastLaws.{ArePut, least_fixed, least_offered}

held_fixed : (cell : Cell) → is_held cell ≡ true → is_free cell ≡ false
held_fixed Out e = refl
held_fixed (Held l u) e = refl
held_fixed (Free l u) e = cc

-- what a cell that isn't free costs goes to the base
seen_fixed : (w : Ways) (old new : LeastRow) (cost grade : ℤ) → is_free (cell_at w.cells old.seen) ≡ false → cost ≡ (if is_held (cell_at w.cells old.seen) then w.held_cost old.seen else w.out_cost old.seen) → grade ≡ (if is_held (cell_at w.cells old.seen) then w.held_slope old.seen else w.out_slope old.seen)
    → new.seen ≡ old.seen + 1 → new.value ≡ old.value +ℤ cost → new.slope ≡ old.slope +ℤ grade → new.fewest ≡ old.fewest → new.most ≡ old.most → new.count ≡ old.count → new.extras ≡ old.extras → HasSeen w old → HasSeen w new
seen_fixed w old new cost grade f c g es ev el ef em ec ee h = record {
  fewest_are = ef ∙ h.fewest_are;
  most_are = em ∙ h.most_are;
  least = rw (es, ev, el, em, ec, ee) (least_fixed w old.seen old.count old.most old.value old.slope cost grade (difference_at old.extras) (slope_at old.extras) f c g h.least);
}

pub seen_held : (w : Ways) (old new : LeastRow) (cost grade : ℤ) → is_held (cell_at w.cells old.seen) ≡ true → w.held_cost old.seen ≡ cost → w.held_slope old.seen ≡ grade
    → new.seen ≡ old.seen + 1 → new.value ≡ old.value +ℤ cost → new.slope ≡ old.slope +ℤ grade → new.fewest ≡ old.fewest → new.most ≡ old.most → new.count ≡ old.count → new.extras ≡ old.extras → HasSeen w old → HasSeen w new
seen_held w old new cost grade k c g = seen_fixed w old new cost grade (held_fixed (cell_at w.cells old.seen) k) (sym c ∙ sym (ap (λ (b : Bool). if b then w.held_cost old.seen else w.out_cost old.seen) k)) (sym g ∙ sym (ap (λ (b : Bool). if b then w.held_slope old.seen else w.out_slope old.seen) k))

pub seen_out : (w : Ways) (old new : LeastRow) (cost grade : ℤ) → cell_at w.cells old.seen ≡ Out → w.out_cost old.seen ≡ cost → w.out_slope old.seen ≡ grade
    → new.seen ≡ old.seen + 1 → new.value ≡ old.value +ℤ cost → new.slope ≡ old.slope +ℤ grade → new.fewest ≡ old.fewest → new.most ≡ old.most → new.count ≡ old.count → new.extras ≡ old.extras → HasSeen w old → HasSeen w new
seen_out w old new cost grade k c g = seen_fixed w old new cost grade (ap is_free k) (sym c ∙ sym (ap (λ (q : Cell). if is_held q then w.held_cost old.seen else w.out_cost old.seen) k)) (sym g ∙ sym (ap (λ (q : Cell). if is_held q then w.held_slope old.seen else w.out_slope old.seen) k))

differences_put : (old new : List Extra) (count kept most : ℕ) (extra : Extra) → (p : IsKept old new count kept most extra) → ArePut (difference_at old) (difference_at new) p.place kept extra.difference
differences_put old new count kept most extra p = record {
  before = λ k l m. ap (λ (x : Extra). x.difference) (p.before k l m);
  here = λ l. ap (λ (x : Extra). x.difference) (p.here l);
  after = λ k l m. ap (λ (x : Extra). x.difference) (p.after k l m);
}

slopes_put : (old new : List Extra) (count kept most : ℕ) (extra : Extra) → (p : IsKept old new count kept most extra) → ArePut (slope_at old) (slope_at new) p.place kept extra.slope
slopes_put old new count kept most extra p = record {
  before = λ k l m. ap (λ (x : Extra). x.slope) (p.before k l m);
  here = λ l. ap (λ (x : Extra). x.slope) (p.here l);
  after = λ k l m. ap (λ (x : Extra). x.slope) (p.after k l m);
}

parted : (h o x : ℤ) → x ≡ h -ℤ o → h ≡ o +ℤ x
parted h o x e = omega (arith, ints)

-- what a free cell costs where it isn't held goes to the base, and the extra to the row
pub seen_offered : (w : Ways) (old mid new : LeastRow) (extra : Extra) (held_cost held_slope out_cost out_slope : ℤ) → is_free (cell_at w.cells old.seen) ≡ true → w.held_cost old.seen ≡ held_cost → w.held_slope old.seen ≡ held_slope → w.out_cost old.seen ≡ out_cost → w.out_slope old.seen ≡ out_slope
    → extra.difference ≡ held_cost -ℤ out_cost → extra.slope ≡ held_slope -ℤ out_slope
    → mid.fewest ≡ old.fewest → mid.most ≡ old.most → mid.count ≡ old.count → mid.extras ≡ old.extras
    → new.seen ≡ old.seen + 1 → new.value ≡ old.value +ℤ out_cost → new.slope ≡ old.slope +ℤ out_slope → new.fewest ≡ mid.fewest → new.most ≡ mid.most → IsKept mid.extras new.extras mid.count new.count mid.most extra → new.count ≤ mid.most → HasSeen w old → HasSeen w new
seen_offered w old mid new extra held_cost held_slope out_cost out_slope f hc hs oc os d s ef em ec ee es ev el gf gm k room h =
    let a = subst (λ (xs : List Extra). IsKept xs new.extras mid.count new.count mid.most extra) ee k in
    let b = subst (λ (n : ℕ). IsKept old.extras new.extras n new.count mid.most extra) ec a in
    let p = subst (λ (n : ℕ). IsKept old.extras new.extras old.count new.count n extra) em b in
    let q = subst (λ (n : ℕ). new.count ≤ n) em room in
    let m : new.most ≡ old.most = gm ∙ em in
    record {
      fewest_are = gf ∙ ef ∙ h.fewest_are;
      most_are = m ∙ h.most_are;
      least = rw (es, ev, el, m) (least_offered w old.seen old.count old.most p.place new.count old.value old.slope extra.difference extra.slope out_cost out_slope (difference_at old.extras) (slope_at old.extras) (difference_at new.extras) (slope_at new.extras) f oc os (hc ∙ parted held_cost out_cost extra.difference d) (hs ∙ parted held_slope out_slope extra.slope s) h.least (differences_put old.extras new.extras old.count new.count old.most extra p) (slopes_put old.extras new.extras old.count new.count old.most extra p) p.few p.more p.same q p.there p.low p.high);
    }

-- ---- the loop that adds up the first ones
pub sum_next : (k c b : ℕ) (base sum term : ℤ) (f : ℕ → ℤ) → sum ≡ base +ℤ sum_below k f → term ≡ f k → unsigned_abs sum ≤ c + k * b → unsigned_abs term ≤ b → k < 32 → c + 32 * b < 2 ^ 127
    → (to_z w128 (of_z w128 (sum +ℤ to_z w128 (of_z w128 term))) ≡ base +ℤ sum_below (k + 1) f) × (unsigned_abs (to_z w128 (of_z w128 (sum +ℤ to_z w128 (of_z w128 term)))) ≤ c + (k + 1) * b)
sum_next k c b base sum term f is here small size few fit =
    let clean = back_of term b size (omega arith) in
    let more : (k + 1) * b ≤ 32 * b = mul-le-mul_right b (omega arith) in
    let step : (k + 1) * b ≡ k * b + b = add-mul k 1 b ∙ omega arith in
    let a = unsigned_abs-+ℤ sum term in
    let here_small : unsigned_abs (sum +ℤ term) ≤ c + (k + 1) * b = omega arith in
    let fits = fits_of (sum +ℤ term) (c + 32 * b) (omega arith) fit in
    let back = to_z-of_z w128 (sum +ℤ term) fits in
    let s = sum_more k f in
    rw clean (rw back (grown sum term base (sum_below k f) (sum_below (k + 1) f) (f k) is here s, here_small))
  where
    grown : (x t b u v y : ℤ) → x ≡ b +ℤ u → t ≡ y → v ≡ u +ℤ y → x +ℤ t ≡ b +ℤ v
    grown x t b u v y p q r = omega (arith, ints)
