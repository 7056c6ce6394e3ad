-- A leaf that fits its part is right on it in the words of certificates, and shows the same.

use Rattle.std.proofs.Common.{◌≡◌, ◌≢◌, ℕ, zero, suc, ◌<◌, Bool, true, false, cond, eqb, List, [], ◌∷◌, length, Option, Some, None, ℤ, pos, negsuc, int_lt, unsigned_abs, refl, sym, ap, ◌∙◌, arith}
use Rattle.std.proofs.lemmas.List.FromFn.{length-map-range_with_len, get_or-map-range_with_len}
use Rattle.gap_base.specs.Lots.{lots_at}
use Rattle.gap_box.specs.declared.cell.Cell.{Cell}
use Rattle.gap_model.specs.declared.leaf.Entry.{Entry}
use Rattle.gap_model.specs.declared.leaf.Leaf.{Leaf}
use Rattle.gap_model.specs.declared.leaf.Leaf.TheVariants.{Count, Void, Tangent}
use Rattle.gap_model.specs.declared.shown.Shown.TheVariants.{Nothing, Empty}
use Rattle.gap_model.specs.Settings.{Setting}
use Rattle.gap_model.specs.Problems.{tangent_problem}
use Rattle.gap_model.specs.Leaves.{eighths_at, in_range, shows, count_shows, void_shows}
use Rattle.gap_model.specs.Theta.{void_theta}
use Rattle.gap_box.specs.Parts.{can_meet}
use Rattle.gap_model.proofs.LeafLaws.{multipliers_are}
use Rattle.gap_tangent.proofs.ShownLaws.{tangent_in_range}
use Rattle.gap_tangent.proofs.EntryLaws.{point_is}
use Rattle.gap_search.specs.Boards.{FitsPart}
use Rattle.gap_cert.specs.Certificates.{CertLeaf, count, void, tangent}
use Rattle.gap_valid.specs.CertTrees.{leaf_shows, IsLeafIn, has_point, IsSameLeaf}
use Rattle.gap_valid.specs.Valid.{IsRightLeaf}
use Rattle.gap_valid.proofs.TreeLaws.{same_shown}
use Rattle.gap_solved.specs.Solveds.{dense, cert_leaf_of}
use Rattle.gap_solve.proofs.TreeLaws.{placed_of}

-- ---- entries as a list with a number for each asset
size_again : (b : Bool) (k : ℕ) (z : ℤ) → pos (unsigned_abs z) ≡ z → pos (unsigned_abs (cond b (pos k) z)) ≡ cond b (pos k) z
size_again true k z e = refl
size_again false k z e = e

not_negative : (y : List Entry) (i : ℕ) → pos (unsigned_abs (eighths_at y i)) ≡ eighths_at y i
not_negative [] i = refl
not_negative (e ∷ y) i = size_again (eqb e.asset i) e.eighths (eighths_at y i) (not_negative y i)

pub length-dense : (n : ℕ) (y : List Entry) → length (dense n y) ≡ n
unfolding dense
length-dense n y = length-map-range_with_len (λ i. unsigned_abs (eighths_at y i)) 0 n

pub dense_at : (n : ℕ) (y : List Entry) (i : ℕ) → i < n → lots_at (dense n y) i ≡ eighths_at y i
unfolding dense
dense_at n y i l = ap pos (get_or-map-range_with_len (λ i. unsigned_abs (eighths_at y i)) 0 n i i 0 l (omega arith)) ∙ not_negative y i

-- ---- the third multiplier
void_third : (s : Setting) (part : List Cell) (alpha tau third : ℤ) → shows s part (Void alpha tau third) ≢ Nothing → third ≡ pos 0
unfolding shows
void_third s part alpha tau (pos zero) h = refl
void_third s part alpha tau (pos (suc n)) h = absurd (h refl)
void_third s part alpha tau (negsuc n) h = absurd (h refl)

abbrev third_is : Leaf → Type 0
third_is Count = Unit {0}
third_is (Void alpha tau third) = third ≡ pos 0
third_is (Tangent y alpha tau third) = third ≡ pos 0

tangent_third : (s : Setting) (part : List Cell) (leaf : Leaf) → shows s part leaf ≢ Nothing → third_is leaf
unfolding shows
tangent_third s part Count h = tt
tangent_third s part (Void alpha tau third) h = void_third s part alpha tau third h
tangent_third s part (Tangent y alpha tau (pos zero)) h = refl
tangent_third s part (Tangent y alpha tau (pos (suc n))) h = absurd (h refl)
tangent_third s part (Tangent y alpha tau (negsuc n)) h = absurd (h refl)

-- ---- a leaf that fits
module _ (s : Setting) (part : List Cell) where
  pub same_leaf : (leaf : Leaf) → FitsPart (tangent_problem s) part leaf → IsSameLeaf s (cert_leaf_of s.instance.market.assets leaf) leaf
  same_leaf Count h = tt
  same_leaf (Void alpha tau third) h = (refl, refl, tangent_third s part (Void alpha tau third) h.tight.something)
  same_leaf (Tangent y alpha tau third) h = (λ i l. sym (dense_at s.instance.market.assets y.now i l), refl, refl, tangent_third s part (Tangent y alpha tau third) h.tight.something)

  pub shows_same : (leaf : Leaf) → FitsPart (tangent_problem s) part leaf → shows s part leaf ≡ leaf_shows s part (cert_leaf_of s.instance.market.assets leaf)
  shows_same leaf h = same_shown s part (cert_leaf_of s.instance.market.assets leaf) leaf (same_leaf leaf h)

  ranges_are : (leaf : Leaf) → in_range s leaf ≡ true → IsLeafIn s.instance (cert_leaf_of s.instance.market.assets leaf)
  ranges_are Count e = tt
  ranges_are (Void alpha tau third) e = multipliers_are s.instance.turnover alpha tau e
  ranges_are (Tangent y alpha tau third) e =
      let r = tangent_in_range s y.now alpha tau e in
      record {
        point = point_is s.instance y.now (dense s.instance.market.assets y.now) r.entries r.most (length-dense s.instance.market.assets y.now) (λ i l. dense_at s.instance.market.assets y.now i l);
        multipliers = r.multipliers;
      }

  empty_count : (b : Bool) → count_shows b ≢ Nothing → count_shows b ≡ Empty
  empty_count true h = absurd (h refl)
  empty_count false h = refl

  empty_test : (b : Bool) → cond b Empty Nothing ≢ Nothing → cond b Empty Nothing ≡ Empty
  empty_test true h = refl
  empty_test false h = absurd (h refl)

  empty_void : (o : Option ℤ) → void_shows o ≢ Nothing → void_shows o ≡ Empty
  empty_void None h = refl
  empty_void (Some t) h = empty_test (int_lt (pos 0) t) h

  empty_leaf : (leaf : CertLeaf) → has_point leaf ≡ false → leaf_shows s part leaf ≢ Nothing → leaf_shows s part leaf ≡ Empty
  unfolding leaf_shows
  empty_leaf count e h = empty_count (can_meet part s.instance.held s.instance.held_most) h
  empty_leaf (void alpha tau) e h = empty_void (void_theta s part alpha tau) h
  empty_leaf (tangent w) e h = absurd cc

  pub right_leaf : (leaf : Leaf) → FitsPart (tangent_problem s) part leaf → IsRightLeaf s (placed_of s.instance.market.assets part leaf)
  right_leaf leaf h = record {
    ranges = ranges_are leaf h.in_range;
    empty = λ e. empty_leaf (cert_leaf_of s.instance.market.assets leaf) e (λ z. h.tight.something (shows_same leaf h ∙ z));
  }

  pub no_point : (leaf : Leaf) → FitsPart (tangent_problem s) part leaf → shows s part leaf ≡ Empty → has_point (cert_leaf_of s.instance.market.assets leaf) ≡ false
  no_point Count h e = refl
  no_point (Void alpha tau third) h e = refl
  no_point (Tangent y alpha tau third) h e = absurd (h.tight.tangent refl e)
