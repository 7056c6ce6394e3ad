-- How a line narrows a bracket, and when a search has ended.
use Rattle.std.proofs.Common.{◌≡◌, ℤ, pos, ◌+ℤ◌, ◌-ℤ◌, ◌≤ℤ◌, ◌<ℤ◌, ◌⊎◌, inl, inr, arith, subst, sym, FitsSigned, to_z, of_z}
use Rattle.std.specs.Int.{w128}
use Rattle.std.proofs.lemmas.Int.{ints, by_lt_z, to_z-of_z}
use Rattle.gap_lines.specs.declared.line.Line.{Line}
use Rattle.gap_lines.specs.Lines.{on, IsLine}
use Rattle.gap_lines.specs.Brackets.{IsBracket, IsTop}
use Rattle.gap_lines.proofs.LineLaws.{height_up, height_down, before_rising, after_falling}

at_most : (x y z : ℤ) → x ≤ℤ y → y ≤ℤ z → x ≤ℤ z
at_most x y z h k = omega (arith, ints)

-- new ends, where a line found between the old ones bounds what lies newly outside them
pub narrow : (value : ℤ → ℤ) (low high below above below2 above2 : ℤ) (rise fall top line rise2 fall2 top2 : Line) →
    IsBracket value low high below above rise fall top → IsLine value line →
    below <ℤ line.place → line.place <ℤ above →
    below ≤ℤ below2 → above2 ≤ℤ above → below2 <ℤ above2 →
    (top2 ≡ top) ⊎ (top2 ≡ line) → top.value ≤ℤ top2.value → line.value ≤ℤ top2.value →
    ((t : ℤ) → below <ℤ t → t ≤ℤ below2 → value t ≤ℤ line.value) → ((t : ℤ) → above2 ≤ℤ t → t <ℤ above → value t ≤ℤ line.value) →
    IsLine value rise2 → IsLine value fall2 →
    IsBracket value low high below2 above2 rise2 fall2 top2
narrow value low high below above below2 above2 rise fall top line rise2 fall2 top2 b is p q lb la o which ht hl newly_before newly_after r f =
    let bf = b.from in
    let bt = b.to in
    record {
      from = at_most (low -ℤ pos 1) below below2 bf lb;
      to = at_most above2 above (high +ℤ pos 1) la bt;
      order = o;
      before = λ t l k. by_lt_z below t (λ h. at_most (value t) line.value top2.value (newly_before t h k) hl) (λ h. at_most (value t) top.value top2.value (b.before t l h) ht);
      after = λ t l k. by_lt_z t above (λ h. at_most (value t) line.value top2.value (newly_after t l h) hl) (λ h. at_most (value t) top.value top2.value (b.after t h k) ht);
      rise_line = r;
      fall_line = f;
      top_line = chosen (λ (l : Line). IsLine value l) which b.top_line is;
      top_from = chosen (λ (l : Line). low ≤ℤ l.place) which b.top_from (inner_from low below line.place bf p);
      top_to = chosen (λ (l : Line). l.place ≤ℤ high) which b.top_to (inner_to high above line.place bt q);
    }
  where
    chosen : (P : Line → Type 0) → (top2 ≡ top) ⊎ (top2 ≡ line) → P top → P line → P top2
    chosen P (inl e) x y = subst P (sym e) x
    chosen P (inr e) x y = subst P (sym e) y

    inner_from : (low below place : ℤ) → (low -ℤ pos 1) ≤ℤ below → below <ℤ place → low ≤ℤ place
    inner_from low below place h k = omega (arith, ints)

    inner_to : (high above place : ℤ) → above ≤ℤ (high +ℤ pos 1) → place <ℤ above → place ≤ℤ high
    inner_to high above place h k = omega (arith, ints)

-- a line that rises bounds the curve before it, one that falls behind it, and a level one on both sides
pub narrow_rising : (value : ℤ → ℤ) (low high below above : ℤ) (rise fall top line top2 : Line) → IsBracket value low high below above rise fall top → IsLine value line → below <ℤ line.place → line.place <ℤ above → pos 0 <ℤ line.slope → (top2 ≡ top) ⊎ (top2 ≡ line) → top.value ≤ℤ top2.value → line.value ≤ℤ top2.value → IsBracket value low high line.place above line fall top2
narrow_rising value low high below above rise fall top line top2 b is p q s which ht hl =
    narrow value low high below above line.place above rise fall top line line fall top2 b is p q (omega (arith, ints)) (omega (arith, ints)) q which ht hl
    (λ t h k. before_rising value line is (omega (arith, ints)) t k)
    (λ t h k. absurd (omega (arith, ints)))
    is
    b.fall_line

pub narrow_falling : (value : ℤ → ℤ) (low high below above : ℤ) (rise fall top line top2 : Line) → IsBracket value low high below above rise fall top → IsLine value line → below <ℤ line.place → line.place <ℤ above → line.slope <ℤ pos 0 → (top2 ≡ top) ⊎ (top2 ≡ line) → top.value ≤ℤ top2.value → line.value ≤ℤ top2.value → IsBracket value low high below line.place rise line top2
narrow_falling value low high below above rise fall top line top2 b is p q s which ht hl =
    narrow value low high below above below line.place rise fall top line rise line top2 b is p q (omega (arith, ints)) (omega (arith, ints)) p which ht hl
    (λ t h k. absurd (omega (arith, ints)))
    (λ t h k. after_falling value line is (omega (arith, ints)) t h)
    b.rise_line
    is

pub narrow_level : (value : ℤ → ℤ) (low high below above : ℤ) (rise fall top line top2 : Line) → IsBracket value low high below above rise fall top → IsLine value line → below <ℤ line.place → line.place <ℤ above → line.slope ≤ℤ pos 0 → pos 0 ≤ℤ line.slope → (top2 ≡ top) ⊎ (top2 ≡ line) → top.value ≤ℤ top2.value → line.value ≤ℤ top2.value → IsBracket value low high line.place (line.place +ℤ pos 1) rise fall top2
narrow_level value low high below above rise fall top line top2 b is p q s r which ht hl =
    narrow value low high below above line.place (line.place +ℤ pos 1) rise fall top line rise fall top2 b is p q (omega (arith, ints)) (omega (arith, ints)) (omega (arith, ints)) which ht hl
    (λ t h k. before_rising value line is r t k)
    (λ t h k. after_falling value line is s t (omega (arith, ints)))
    b.rise_line
    b.fall_line

-- before any place was passed
pub all_open : (value : ℤ → ℤ) (low high : ℤ) (line : Line) → IsLine value line → low ≤ℤ line.place → line.place ≤ℤ high → IsBracket value low high (low -ℤ pos 1) (high +ℤ pos 1) line line line
all_open value low high line is l h = record {
  from = omega (arith, ints);
  to = omega (arith, ints);
  order = omega (arith, ints);
  before = λ t p q. absurd (omega (arith, ints));
  after = λ t p q. absurd (omega (arith, ints));
  rise_line = is;
  fall_line = is;
  top_line = is;
  top_from = l;
  top_to = h;
}

-- a rising line bounds the curve up to a cut, and a falling one behind it
pub settled : (value : ℤ → ℤ) (rise fall : Line) (cut most : ℤ) → IsLine value rise → IsLine value fall → pos 0 <ℤ rise.slope → fall.slope <ℤ pos 0 → on rise cut ≤ℤ most → on fall (cut +ℤ pos 1) ≤ℤ most → (t : ℤ) → value t ≤ℤ most
settled value rise fall cut most r f s d h k t =
    by_lt_z cut t
    (λ l. at_most (value t) (on fall t) most (f.above t) (at_most (on fall t) (on fall (cut +ℤ pos 1)) most (height_down fall.place fall.value fall.slope (cut +ℤ pos 1) t (weak d) (next l)) k))
    (λ l. at_most (value t) (on rise t) most (r.above t) (at_most (on rise t) (on rise cut) most (height_up rise.place rise.value rise.slope t cut (weak s) l) h))
  where
    weak : {x y : ℤ} → x <ℤ y → x ≤ℤ y
    weak h = omega (arith, ints)

    next : {x y : ℤ} → x <ℤ y → (x +ℤ pos 1) ≤ℤ y
    next h = omega (arith, ints)

-- a bracket with no place left
pub closed_top : (value : ℤ → ℤ) (low high below above : ℤ) (rise fall top : Line) → IsBracket value low high below above rise fall top → above ≤ℤ (below +ℤ pos 1) → IsTop value low high top
closed_top value low high below above rise fall top b c = record {
  line = b.top_line;
  from = b.top_from;
  to = b.top_to;
  most = λ t l h. by_lt_z below t (λ k. b.after t (reached below above t c k) h) (λ k. b.before t l k);
}
  where
    reached : (below above t : ℤ) → above ≤ℤ (below +ℤ pos 1) → below <ℤ t → above ≤ℤ t
    reached below above t c k = omega (arith, ints)

-- a bracket whose lines allow no more than its top
pub settled_top : (value : ℤ → ℤ) (low high below above : ℤ) (rise fall top : Line) → IsBracket value low high below above rise fall top → ((t : ℤ) → value t ≤ℤ top.value) → IsTop value low high top
settled_top value low high below above rise fall top b m = record {
  line = b.top_line;
  from = b.top_from;
  to = b.top_to;
  most = λ t l h. m t;
}

-- the ends of the range as machine numbers
pub top_back : (value : ℤ → ℤ) (low high : ℤ) (top : Line) → FitsSigned w128 low → FitsSigned w128 high → IsTop value (to_z w128 (of_z w128 low)) (to_z w128 (of_z w128 high)) top → IsTop value low high top
top_back value low high top fl fh t = subst (λ (x : ℤ). IsTop value low x top) (to_z-of_z w128 high fh) (subst (λ (x : ℤ). IsTop value x (to_z w128 (of_z w128 high)) top) (to_z-of_z w128 low fl) t)
