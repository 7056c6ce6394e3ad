-- The numbers of a valid certificate are in their ranges.
use Rattle.std.proofs.Common.{◌≡◌, ℕ, ◌<◌, ◌≤◌, ◌&&◌, ltb, leb, true, false, ◌⊎◌, inl, inr, List, [], ◌∷◌, ◌++◌, length, slice_index_or, All, IsTrue, Option, ℤ, refl, sym, ap, ◌∙◌, subst, arith}
use Rattle.std.proofs.lemmas.Bool.{cases_lt}
use Rattle.std.proofs.lemmas.Bool.Decides.{nat_tests}
use Rattle.std.proofs.lemmas.List.{get_or_past}
use Rattle.std.proofs.lemmas.List.Elements.{All-head, All-tail, All-cons, All-nil, All-weaker}
use Rattle.gap_base.specs.declared.weight.Weight.{Weight}
use Rattle.gap_base.specs.declared.witness.Witness.{Witness}
use Rattle.gap_base.proofs.Lists.{count_places}
use Rattle.gap_box.specs.declared.cell.Cell.{Cell}
use Rattle.gap_box.specs.declared.cell.Cell.TheVariants.{Out, Held as MustHold, Free}
use Rattle.gap_box.specs.declared.split.Split.{Split}
use Rattle.gap_box.specs.declared.split.Split.TheVariants.{Held, Lots}
use Rattle.gap_box.specs.declared.split.Side.TheVariants.{First, Second}
use Rattle.gap_box.specs.Cells.{IsCell, AreCells, is_free}
use Rattle.gap_box.specs.Parts.{held_count}
use Rattle.gap_box.specs.Splits.{can_cut, lawful_split, child_cells}
use Rattle.gap_box.proofs.SplitLaws.{length-child, child_are}
use Rattle.gap_box.proofs.CellLaws.{place_in}
use Rattle.gap_instance.specs.Limits.{MeetsLimits, held_of}
use Rattle.gap_instance.specs.Objective.{objective}
use Rattle.gap_model.specs.declared.outcome.Best.{Best}
use Rattle.gap_model.specs.Outcomes.{IsPortfolio}
use Rattle.gap_model.proofs.SizeLaws.{objective_size}
use Rattle.gap_tangent.proofs.ShownLaws.{root_count}
use Rattle.gap_cert.specs.Bytes.{IsSigned}
use Rattle.gap_cert.specs.Certificates.{CertLeaf, count, void, tangent, CertTree, tip, fork, CertHead, CertClaim, closed, none, open_at, unfound, CertSection, Certificate}
use Rattle.gap_valid.specs.Heads.{market_in, instance_in, setting_in, root_in, IsHead}
use Rattle.gap_valid.specs.CertTrees.{IsFormed, PlacedLeaf, cert_leaves, has_point}
use Rattle.gap_valid.specs.Valid.{IsWeight, IsRightLeaf, IsClaimRight, IsValidSection, IsValid}
use Rattle.gap_valid.proofs.HeadLaws.{instance_is, root_is}
use Rattle.gap_valid.specs.Writable.{IsWritten, IsWritableClaim, MayStand, IsSplitOf, IsWritableTree, IsWritableSection, IsWritable}
use Rattle.gap_valid.proofs.Items.{signed_small, room_16}

-- ---- portfolios
assets_of : (h : CertHead) → (instance_in h).market.assets ≡ h.n
unfolding instance_in market_in
assets_of h = refl

held_few : (h : CertHead) (k : ℕ) → (instance_in h).held ≤ k → h.held ≤ k
unfolding instance_in
held_few h k l = l

held_many : (h : CertHead) (k : ℕ) → k ≤ (instance_in h).held_most → k ≤ h.held_most
unfolding instance_in
held_many h k l = l

held_is : (x : List ℕ) (n : ℕ) → length x ≡ n → held_count x ≡ held_of n x
held_is x n e = count_places (λ v. ltb 0 v) x ∙ ap (λ (k : ℕ). held_of k x) e

lots_small : (h : CertHead) (x : List ℕ) → IsHead h → MeetsLimits (instance_in h) x → (i : ℕ) → slice_index_or x i 0 ≤ 10000
lots_small h x is m i = by_place (cases_lt i (length x))
  where
    by_place : (i < length x) ⊎ (length x ≤ i) → slice_index_or x i 0 ≤ 10000
    by_place (inl l) =
        let here : i < (instance_in h).market.assets = rw m.assets_are at l in
        let limits = (instance_is h is).limits_are in
        let a = m.greatest_kept i here in
        let b = limits.greatest_within.most i here in
        let c = limits.lots_most in
        omega arith
    by_place (inr l) = let e = get_or_past x i 0 l in omega (arith, e)

written : (h : CertHead) (w : Weight) (best : Best) → IsHead h → IsWeight w → IsPortfolio (instance_in h) w.p w.q best → IsWritten h best
written h w best is q p =
    let m = p.meets in
    let e = held_is best.lots (instance_in h).market.assets m.assets_are in
    let s = objective_size (instance_in h) w.p w.q best.lots (instance_is h is) q.within q.most m in
    record {
      lots_are = record {
        assets_are = m.assets_are ∙ assets_of h;
        most = lots_small h best.lots is m;
        fewest = held_few h (held_count best.lots) (subst (λ (k : ℕ). (instance_in h).held ≤ k) (sym e) m.fewest);
        many = held_many h (held_count best.lots) (subst (λ (k : ℕ). k ≤ (instance_in h).held_most) (sym e) m.many);
      };
      value_fits = subst (IsSigned 16) (sym p.value_is) (signed_small 16 1000000000000000000000000000000 (objective (instance_in h) w.p w.q best.lots) (omega arith) s (room_16 1000000000000000000000000000000 (omega arith)));
    }

claim_in : (h : CertHead) (w : Weight) (tree : CertTree) (claim : CertClaim) → IsHead h → IsWeight w → IsClaimRight h w tree claim → IsWritableClaim h claim
claim_in h w tree (closed best overall) is q c = (written h w best is q c.portfolio, c.overall_is)
claim_in h w tree none is q c = tt
claim_in h w tree (open_at best bound overall) is q c = (written h w best is q c.portfolio, c.said)
claim_in h w tree (unfound bound overall) is q c = c.said

-- ---- splits
cut_below : (l t u : ℕ) → (leb l t && ltb t u) ≡ true → t < u
cut_below l t u h = grind (arith, nat_tests)

cut_small : (cell : Cell) (t : ℕ) → IsCell cell → can_cut cell t ≡ true → t ≤ 65535
cut_small Out t c h = cc
cut_small (MustHold l u) t c h = let b = cut_below l t u h in let m = c.2 in omega arith
cut_small (Free l u) t c h = cc

split_in : (cells : List Cell) (n : ℕ) (split : Split) → length cells ≡ n → AreCells cells → IsTrue (lawful_split cells split) → IsSplitOf n split
split_in cells n (Held i) e c l = let p = place_in cells i is_free refl l in omega arith
split_in cells n (Lots i t) e c l = let p = place_in cells i (λ (cell : Cell). can_cut cell t) refl l in (omega arith, cut_small (slice_index_or cells i Out) t (c.each i) l)

-- ---- trees
all_left : {X : Type 0} (P : X → Type 0) (xs ys : List X) → All P (xs ++ ys) → All P xs
all_left P [] ys a = All-nil P
all_left P (x ∷ xs) ys a = All-cons P x xs (All-head P x (xs ++ ys) a) (all_left P xs ys (All-tail P x (xs ++ ys) a))

all_right : {X : Type 0} (P : X → Type 0) (xs ys : List X) → All P (xs ++ ys) → All P ys
all_right P [] ys a = a
all_right P (x ∷ xs) ys a = all_right P xs ys (All-tail P x (xs ++ ys) a)

abbrev Stands : CertClaim → PlacedLeaf → Type 0
Stands claim placed = MayStand claim placed.leaf

tree_in : (h : CertHead) (w : Weight) (claim : CertClaim) (part : List Cell) (tree : CertTree) → length part ≡ h.n → AreCells part → IsFormed part tree →
    All (IsRightLeaf (setting_in h w)) (cert_leaves part tree) → All (Stands claim) (cert_leaves part tree) → IsWritableTree h claim tree
tree_in h w claim part (tip leaf) e c f r s =
    let here : PlacedLeaf = record { part = part; leaf = leaf } in
    ((All-head (IsRightLeaf (setting_in h w)) here [] r).ranges, All-head (Stands claim) here [] s)
tree_in h w claim part (fork split first second) e c f r s =
    let a = child_cells part split First in
    let b = child_cells part split Second in
    let x = cert_leaves a first in
    let y = cert_leaves b second in (
      split_in part h.n split e c f.0,
      tree_in h w claim a first (length-child part split First ∙ e) (child_are part split First c f.0) f.1 (all_left (IsRightLeaf (setting_in h w)) x y r) (all_left (Stands claim) x y s),
      tree_in h w claim b second (length-child part split Second ∙ e) (child_are part split Second c f.0) f.2 (all_right (IsRightLeaf (setting_in h w)) x y r) (all_right (Stands claim) x y s),
    )

stands_closed : (best : Best) (o : Option Witness) (leaf : CertLeaf) → MayStand (closed best o) leaf
stands_closed best o count = tt
stands_closed best o (void alpha tau) = tt
stands_closed best o (tangent w) = tt

stands_open : (best : Best) (bound : ℤ) (o : Option Witness) (leaf : CertLeaf) → MayStand (open_at best bound o) leaf
stands_open best bound o count = tt
stands_open best bound o (void alpha tau) = tt
stands_open best bound o (tangent w) = tt

stands_unfound : (bound : ℤ) (o : Option Witness) (leaf : CertLeaf) → MayStand (unfound bound o) leaf
stands_unfound bound o count = tt
stands_unfound bound o (void alpha tau) = tt
stands_unfound bound o (tangent w) = tt

stands_none : (leaf : CertLeaf) → has_point leaf ≡ false → MayStand none leaf
stands_none count e = tt
stands_none (void alpha tau) e = tt
stands_none (tangent w) e = cc

leaves_stand : (h : CertHead) (w : Weight) (tree : CertTree) (claim : CertClaim) → IsClaimRight h w tree claim → All (Stands claim) (cert_leaves (root_in h) tree)
leaves_stand h w tree (closed best overall) c = λ k d l. stands_closed best overall _
leaves_stand h w tree none c = All-weaker (λ (p : PlacedLeaf). has_point p.leaf ≡ false) (Stands none) (λ p e. stands_none p.leaf e) (cert_leaves (root_in h) tree) c
leaves_stand h w tree (open_at best bound overall) c = λ k d l. stands_open best bound overall _
leaves_stand h w tree (unfound bound overall) c = λ k d l. stands_unfound bound overall _

-- ---- sections
-- the numbers of a section that is valid under a head are in their ranges
pub section_in : (h : CertHead) (s : CertSection) → IsHead h → IsValidSection h s → IsWritableSection h s
section_in h s is v = record {
  weight_is = v.weight_is;
  claim_is = claim_in h s.weight s.tree s.claim is v.weight_is v.claim_is;
  tree_is = tree_in h s.weight s.claim (root_in h) s.tree (root_count (instance_in h) (instance_is h is) ∙ assets_of h) (root_is h is) v.formed v.leaves_are (leaves_stand h s.weight s.tree s.claim v.claim_is);
}

pub writable : (c : Certificate) → IsValid c → IsWritable c
writable c v = record { head_is = v.head_is; some = v.some; few = v.few; sections_are = All-weaker (IsValidSection c.head) (IsWritableSection c.head) (λ s. section_in c.head s v.head_is) c.sections v.sections_are }
