-- What code tells of offers, and that the cheapest of the candidates is least over a cell's range.

use Rattle.std.proofs.Common.{◌≡◌, ℕ, ◌*◌, ◌+◌, ◌<◌, ◌≤◌, Bool, true, false, ◌&&◌, ltb, if◌then◌else◌, List, length, slice_index_or, slice_set, ℤ, pos, ◌+ℤ◌, ◌-ℤ◌, ◌*ℤ◌, neg_ℤ, ◌≤ℤ◌, ◌<ℤ◌, int_lt, unsigned_abs, refl, sym, ap, ◌∙◌, subst, ◌⊎◌, inl, inr, arith}
use Rattle.std.proofs.lemmas.Int.{ints}
use Rattle.std.proofs.lemmas.Bool.{and_parts, and_from, lt-ltb, ltb-true, cases_eq}
use Rattle.gap_base.specs.Sums.{at, abs_z, AreWithin}
use Rattle.gap_base.specs.Lots.{lots_at}
use Rattle.gap_base.proofs.Machine.{unsigned_abs-product_le}
use Rattle.gap_base.proofs.Ring.{linear, expand}
use Rattle.gap_box.specs.declared.cell.Cell.{Cell}
use Rattle.gap_box.specs.declared.cell.Cell.TheVariants.{Out, Held, Free}
use Rattle.gap_box.specs.Cells.{IsCell, AreCells}
use Rattle.gap_relax.specs.Choices.{cell_at, IsLeastWay}
use Rattle.gap_relax.proofs.Order.{lt_tells, lt_not}
use Rattle.gap_price.specs.declared.asset.AssetCost.{AssetCost}
use Rattle.gap_price.specs.declared.candidates.Candidate.{Candidate}
use Rattle.gap_price.specs.declared.costs.Varied.{Varied}
use Rattle.gap_price.specs.declared.costs.Varied.TheVariants.{Lots, Distance}
use Rattle.gap_price.specs.declared.offer.Offer.{Offer}
use Rattle.gap_price.specs.Costs.{asset_cost}
use Rattle.gap_price.specs.Curves.{CurveValue, cost_of, weight_of, price_by, lot_under, distance_under, varied_price, IsLeastAt}
use Rattle.gap_price.specs.Offers.{cost_by, priced_of, weighed_of, at_lots, cheaper, cheapest, offer_with, offer_held, least_offer, none_offer, held_value, held_weight, out_value, out_weight, AreCosts, AreTabled, IsPlain, plain_cost, end_lots}
use Rattle.gap_price.proofs.OneAsset.{cost_least, bow_least, bare_is, away_is, bow_none, ends_test}
use Rattle.gap_price.proofs.Tables.{table_more}
use Rattle.gap_price.proofs.CurveLaws.{IsBest, IsBestOf, least_of_ways, value_within, slope_within}

-- ---- the cost under the multiplier is that of an asset with another price
lots_price : (line less t a d m v : ℤ) → ((((line +ℤ t) *ℤ v) +ℤ neg_ℤ less) +ℤ (d *ℤ a)) +ℤ m *ℤ v ≡ (((line +ℤ (t +ℤ m)) *ℤ v) +ℤ neg_ℤ less) +ℤ (d *ℤ a)
lots_price line less t a d m v = simp expand (omega (arith, linear))

distance_price : (line less a d m : ℤ) → ((line +ℤ neg_ℤ less) +ℤ (d *ℤ a)) +ℤ m *ℤ a ≡ (line +ℤ neg_ℤ less) +ℤ ((d +ℤ m) *ℤ a)
distance_price line less a d m = simp expand (omega (arith, linear))

-- the prices of the asset i under the multiplier
abbrev line_of : CurveValue → ℤ → ℕ → Varied → ℤ
line_of k m i varied = at k.costs.linear i +ℤ lot_under varied k.costs m

abbrev away_of : CurveValue → ℤ → Varied → ℤ
away_of k m varied = distance_under varied k.costs m

pub priced_is : (k : CurveValue) (m : ℤ) (i : ℕ) (varied : Varied) (v : ℤ) → cost_of k.costs i v +ℤ m *ℤ weight_of varied (lots_at k.costs.present i) v ≡ asset_cost (line_of k m i varied) (at k.costs.bends i) (away_of k m varied) (lots_at k.costs.present i) v
priced_is k m i Lots v = lots_price (at k.costs.linear i) (at k.costs.bends i *ℤ (v *ℤ v)) k.costs.lot_price (abs_z (v -ℤ lots_at k.costs.present i)) k.costs.distance_price m v
priced_is k m i Distance v = distance_price ((at k.costs.linear i +ℤ k.costs.lot_price) *ℤ v) (at k.costs.bends i *ℤ (v *ℤ v)) (abs_z (v -ℤ lots_at k.costs.present i)) k.costs.distance_price m

-- an asset with these prices costs so much
pub cost_is : (k : CurveValue) (m : ℤ) (i : ℕ) (a : AssetCost) → a.linear ≡ at k.costs.linear i +ℤ lot_under k.varied k.costs m → a.bend ≡ at k.costs.bends i → a.price ≡ distance_under k.varied k.costs m → a.present ≡ slice_index_or k.costs.present i 0 → (v : ℕ) → cost_by a v ≡ priced_of k m i v
cost_is k m i a e f g h v =
    ap (λ z. asset_cost z a.bend a.price (pos a.present) (pos v)) e
    ∙ ap (λ z. asset_cost (line_of k m i k.varied) z a.price (pos a.present) (pos v)) f
    ∙ ap (λ z. asset_cost (line_of k m i k.varied) (at k.costs.bends i) z (pos a.present) (pos v)) g
    ∙ ap (λ (n : ℕ). asset_cost (line_of k m i k.varied) (at k.costs.bends i) (away_of k m k.varied) (pos n) (pos v)) h
    ∙ sym (priced_is k m i k.varied (pos v))

-- ---- the cheapest candidate is least
cheaper_low : (a b : Candidate) → ((cheaper a b).cost ≤ℤ a.cost) × ((cheaper a b).cost ≤ℤ b.cost)
cheaper_low a b = low_by (int_lt b.cost a.cost) (lt_tells b.cost a.cost)
  where
    low_by : (t : Bool) → ((t ≡ true) × (b.cost <ℤ a.cost)) ⊎ ((t ≡ false) × (a.cost ≤ℤ b.cost)) → ((if t then b else a).cost ≤ℤ a.cost) × ((if t then b else a).cost ≤ℤ b.cost)
    low_by true (inl h) = let g = h.1 in (omega (arith, ints), omega (arith, ints))
    low_by true (inr h) = let g = h.0 in cc
    low_by false (inl h) = let g = h.0 in cc
    low_by false (inr h) = let g = h.1 in (omega (arith, ints), omega (arith, ints))

-- a candidate of l to u lots
record IsAmong (g : ℕ → ℤ) (l u : ℕ) (c : Candidate) : Type 0 where
  from : l ≤ c.lots
  to : c.lots ≤ u
  cost : g c.lots ≡ c.cost

at_among : (g : ℕ → ℤ) (l u v : ℕ) → l ≤ v → v ≤ u → IsAmong g l u (at_lots g v)
at_among g l u v h k = record { from = h; to = k; cost = refl }

cheaper_among : (g : ℕ → ℤ) (l u : ℕ) (a b : Candidate) → IsAmong g l u a → IsAmong g l u b → IsAmong g l u (cheaper a b)
cheaper_among g l u a b p q = by_test (int_lt b.cost a.cost)
  where
    by_test : (t : Bool) → IsAmong g l u (if t then b else a)
    by_test true = q
    by_test false = p

-- the cheapest is one of l to u lots, and costs no more than l, than u, and than the present lots between them
record IsCheapest (g : ℕ → ℤ) (l u b : ℕ) (c : Candidate) : Type 0 where
  among : IsAmong g l u c
  first : c.cost ≤ℤ g l
  last : c.cost ≤ℤ g u
  inner : l < b → b < u → c.cost ≤ℤ g b

le_le : (x y z : ℤ) → x ≤ℤ y → y ≤ℤ z → x ≤ℤ z
le_le x y z h k = omega (arith, ints)

cheapest_is : (g : ℕ → ℤ) (l u b : ℕ) → l ≤ u → IsCheapest g l u b (cheapest g l u b)
cheapest_is g l u b h = by_test (ltb l b && ltb b u) refl
  where
    ends_among : IsAmong g l u (cheaper (at_lots g l) (at_lots g u))
    ends_among = cheaper_among g l u (at_lots g l) (at_lots g u) (at_among g l u l (omega arith) h) (at_among g l u u h (omega arith))

    by_test : (t : Bool) → (ltb l b && ltb b u) ≡ t → IsCheapest g l u b (if t then cheaper (cheaper (at_lots g l) (at_lots g u)) (at_lots g b) else cheaper (at_lots g l) (at_lots g u))
    by_test true e =
        let A = at_lots g l in
        let B = at_lots g u in
        let C = at_lots g b in
        let r = and_parts (ltb l b) (ltb b u) e in
        let lb : l < b = ltb-true l b r.0 in
        let bu : b < u = ltb-true b u r.1 in
        let p = cheaper_low A B in
        let q = cheaper_low (cheaper A B) C in
        record {
          among = cheaper_among g l u (cheaper A B) C ends_among (at_among g l u b (omega arith) (omega arith));
          first = le_le _ _ _ q.0 p.0;
          last = le_le _ _ _ q.0 p.1;
          inner = λ x y. q.1;
        }
    by_test false e =
        let p = cheaper_low (at_lots g l) (at_lots g u) in
        record {
          among = ends_among;
          first = p.0;
          last = p.1;
          inner = λ x y. let i = and_from (ltb l b) (ltb b u) (lt-ltb l b x) (lt-ltb b u y) in cc;
        }

pub cheapest_most : (g : ℕ → ℤ) (l u b : ℕ) → l ≤ u → (cheapest g l u b).lots ≤ u
cheapest_most g l u b h = (cheapest_is g l u b h).among.to

pub cheapest_best : (k : CurveValue) (m : ℤ) (i l u : ℕ) → pos 0 ≤ℤ at k.costs.bends i → l ≤ u → IsBest (priced_of k m i) (weighed_of k i) l u (cheapest (priced_of k m i) l u (slice_index_or k.costs.present i 0)).cost (weighed_of k i (cheapest (priced_of k m i) l u (slice_index_or k.costs.present i 0)).lots)
cheapest_best k m i l u s h =
    let b = slice_index_or k.costs.present i 0 in
    let c = cheapest_is (priced_of k m i) l u b h in
    let r = (cheapest (priced_of k m i) l u b).cost in
    record {
      reached = ((cheapest (priced_of k m i) l u b).lots, c.among.from, c.among.to, c.among.cost, refl);
      below = λ v x y. let e = priced_is k m i k.varied (pos v) in subst (λ (z : ℤ). r ≤ℤ z) (sym e) (cost_least (line_of k m i k.varied) (at k.costs.bends i) (away_of k m k.varied) (pos b) (pos l) (pos u) (pos v) r s (omega (arith, ints)) (omega (arith, ints)) (subst (λ (z : ℤ). r ≤ℤ z) (priced_is k m i k.varied (pos l)) c.first) (subst (λ (z : ℤ). r ≤ℤ z) (priced_is k m i k.varied (pos u)) c.last) (λ lb bu. subst (λ (z : ℤ). r ≤ℤ z) (priced_is k m i k.varied (pos b)) (c.inner (omega (arith, ints)) (omega (arith, ints)))));
    }

pub offer_best : (k : CurveValue) (m : ℤ) (i : ℕ) (cell : Cell) → IsCell cell → pos 0 ≤ℤ at k.costs.bends i → IsBestOf cell (priced_of k m i) (weighed_of k i) (least_offer k m i cell).value (least_offer k m i cell).weight
offer_best k m i Out c s = tt
offer_best k m i (Held l u) c s = cheapest_best k m i l u s c.1
offer_best k m i (Free l u) c s = cheapest_best k m i l u s c.1

-- ---- offers at equal costs are equal
cheapest_same : (f g : ℕ → ℤ) (l u b : ℕ) → ((v : ℕ) → f v ≡ g v) → cheapest f l u b ≡ cheapest g l u b
cheapest_same f g l u b e =
    let c : (v : ℕ) → at_lots f v ≡ at_lots g v = λ v. ap (λ z. record { lots = v; cost = z }) (e v) in
    ap (λ (x : Candidate). if ltb l b && ltb b u then cheaper (cheaper x (at_lots f u)) (at_lots f b) else cheaper x (at_lots f u)) (c l)
    ∙ ap (λ (x : Candidate). if ltb l b && ltb b u then cheaper (cheaper (at_lots g l) x) (at_lots f b) else cheaper (at_lots g l) x) (c u)
    ∙ ap (λ (x : Candidate). if ltb l b && ltb b u then cheaper (cheaper (at_lots g l) (at_lots g u)) x else cheaper (at_lots g l) (at_lots g u)) (c b)

held_same : (varied : Varied) (b : ℕ) (f g : ℕ → ℤ) (cell : Cell) → ((v : ℕ) → f v ≡ g v) → offer_held varied b f cell ≡ offer_held varied b g cell
held_same varied b f g Out e = refl
held_same varied b f g (Held l u) e = ap (offer_with varied b) (cheapest_same f g l u b e)
held_same varied b f g (Free l u) e = ap (offer_with varied b) (cheapest_same f g l u b e)

pub held_is : (k : CurveValue) (m : ℤ) (i b : ℕ) (f : ℕ → ℤ) (cell : Cell) (o : Offer) → ((v : ℕ) → f v ≡ priced_of k m i v) → b ≡ slice_index_or k.costs.present i 0 → o ≡ offer_held k.varied b f cell → o ≡ least_offer k m i cell
held_is k m i b f cell o e g h = h ∙ held_same k.varied b f (priced_of k m i) cell e ∙ ap (λ (n : ℕ). offer_held k.varied n (priced_of k m i) cell) g

pub out_is : (k : CurveValue) (m : ℤ) (i b : ℕ) (f : ℕ → ℤ) (o : Offer) → ((v : ℕ) → f v ≡ priced_of k m i v) → b ≡ slice_index_or k.costs.present i 0 → o ≡ offer_with k.varied b (at_lots f 0) → o ≡ none_offer k m i
out_is k m i b f o e g h = h ∙ ap (λ z. offer_with k.varied b (record { lots = 0; cost = z })) (e 0) ∙ ap (λ (n : ℕ). offer_with k.varied n (at_lots (priced_of k m i) 0)) g

-- ---- sizes
away_small : (v b : ℕ) → v ≤ 10000 → b ≤ 10000 → unsigned_abs (abs_z (pos v -ℤ pos b)) ≤ 10000
away_small v b h k = let e : unsigned_abs (pos v -ℤ pos b) ≤ 10000 = omega (arith, ints) in e

cost_small : (line bend away : ℤ) (b v : ℕ) → unsigned_abs line ≤ 1201000000000000000000000000000 → unsigned_abs bend ≤ 6400000000000000000000000 → unsigned_abs away ≤ 1001000000000000000000000000000 → b ≤ 10000 → v ≤ 10000 → unsigned_abs (asset_cost line bend away (pos b) (pos v)) ≤ 23000000000000000000000000000000000
cost_small line bend away b v hl hb ha kb kv =
    let p = unsigned_abs-product_le line (pos v) 1201000000000000000000000000000 10000 hl (omega (arith, ints)) in
    let s = unsigned_abs-product_le (pos v) (pos v) 10000 10000 (omega (arith, ints)) (omega (arith, ints)) in
    let q = unsigned_abs-product_le bend (pos v *ℤ pos v) 6400000000000000000000000 100000000 hb s in
    let d = away_small v b kv kb in
    let r = unsigned_abs-product_le away (abs_z (pos v -ℤ pos b)) 1001000000000000000000000000000 10000 ha d in
    three (line *ℤ pos v) (bend *ℤ (pos v *ℤ pos v)) (away *ℤ abs_z (pos v -ℤ pos b)) p q r
  where
    three : (x y z : ℤ) → unsigned_abs x ≤ 1201000000000000000000000000000 * 10000 → unsigned_abs y ≤ 6400000000000000000000000 * 100000000 → unsigned_abs z ≤ 1001000000000000000000000000000 * 10000 → unsigned_abs ((x -ℤ y) +ℤ z) ≤ 23000000000000000000000000000000000
    three x y z h k l = omega (arith, ints)

line_small : (k : CurveValue) (m : ℤ) (i n : ℕ) (varied : Varied) → AreCosts k.costs n → i < n → unsigned_abs (price_by varied k.costs +ℤ m) ≤ 1001000000000000000000000000000 → unsigned_abs (line_of k m i varied) ≤ 1201000000000000000000000000000
line_small k m i n Lots c l h = let a = c.linear_small i l in omega (arith, ints)
line_small k m i n Distance c l h = let a = c.linear_small i l in let b = c.lot_small in omega (arith, ints)

away_price_small : (k : CurveValue) (m : ℤ) (n : ℕ) (varied : Varied) → AreCosts k.costs n → unsigned_abs (price_by varied k.costs +ℤ m) ≤ 1001000000000000000000000000000 → unsigned_abs (away_of k m varied) ≤ 1001000000000000000000000000000
away_price_small k m n Lots c h = c.distance_small
away_price_small k m n Distance c h = h

pub priced_small : (k : CurveValue) (m : ℤ) (i n v : ℕ) → AreCosts k.costs n → i < n → unsigned_abs (varied_price k +ℤ m) ≤ 1001000000000000000000000000000 → v ≤ 10000 → unsigned_abs (priced_of k m i v) ≤ 23000000000000000000000000000000000
priced_small k m i n v c l h kv = subst (λ (z : ℤ). unsigned_abs z ≤ 23000000000000000000000000000000000) (sym (priced_is k m i k.varied (pos v))) (cost_small (line_of k m i k.varied) (at k.costs.bends i) (away_of k m k.varied) (slice_index_or k.costs.present i 0) v (line_small k m i n k.varied c l h) (c.bends_small i l) (away_price_small k m n k.varied c h) (c.present_most i) kv)

pub weighed_small : (k : CurveValue) (i v : ℕ) → slice_index_or k.costs.present i 0 ≤ 10000 → v ≤ 10000 → unsigned_abs (weighed_of k i v) ≤ 10000
weighed_small k i v h kv = small_by k.varied
  where
    small_by : (varied : Varied) → unsigned_abs (weight_of varied (lots_at k.costs.present i) (pos v)) ≤ 10000
    small_by Lots = omega (arith, ints)
    small_by Distance = away_small v (slice_index_or k.costs.present i 0) kv h

-- the sizes of what each place costs and weighs
best_small : (k : CurveValue) (m : ℤ) (i n l u : ℕ) (value weight : ℤ) → AreCosts k.costs n → i < n → unsigned_abs (varied_price k +ℤ m) ≤ 1001000000000000000000000000000 → u ≤ 10000 → IsBest (priced_of k m i) (weighed_of k i) l u value weight → (unsigned_abs value ≤ 23000000000000000000000000000000000) × (unsigned_abs weight ≤ 10000)
best_small k m i n l u value weight c h p q best =
    let r = best.reached in
    let few = r.2 in
    (subst (λ (z : ℤ). unsigned_abs z ≤ 23000000000000000000000000000000000) r.3 (priced_small k m i n r.0 c h p (omega arith)), subst (λ (z : ℤ). unsigned_abs z ≤ 10000) r.4 (weighed_small k i r.0 (c.present_most i) (omega arith)))

pub offer_small : (k : CurveValue) (m : ℤ) (i n : ℕ) (cell : Cell) → AreCosts k.costs n → i < n → unsigned_abs (varied_price k +ℤ m) ≤ 1001000000000000000000000000000 → IsCell cell → (unsigned_abs (least_offer k m i cell).value ≤ 23000000000000000000000000000000000) × (unsigned_abs (least_offer k m i cell).weight ≤ 10000)
offer_small k m i n Out c h p v = (omega (arith, ints), omega (arith, ints))
offer_small k m i n (Held l u) c h p v = best_small k m i n l u (least_offer k m i (Held l u)).value (least_offer k m i (Held l u)).weight c h p v.2 (cheapest_best k m i l u (c.bends_signs i h) v.1)
offer_small k m i n (Free l u) c h p v = best_small k m i n l u (least_offer k m i (Free l u)).value (least_offer k m i (Free l u)).weight c h p v.2 (cheapest_best k m i l u (c.bends_signs i h) v.1)

pub end_sizes : (k : CurveValue) (m : ℤ) (i l u : ℕ) → AreCosts k.costs (length k.cells) → i < length k.cells → unsigned_abs (varied_price k +ℤ m) ≤ 1001000000000000000000000000000 → 1 ≤ l → l ≤ u → u ≤ 10000 → unsigned_abs (least_offer k m i (Held l u)).value ≤ 30000000000000000000000000000000000
end_sizes k m i l u c h p least order most = let s = (offer_small k m i (length k.cells) (Held l u) c h p (least, order, most)).0 in omega arith

pub held_sizes : (k : CurveValue) (m : ℤ) (i : ℕ) (o : Offer) → AreCosts k.costs (length k.cells) → i < length k.cells → unsigned_abs (varied_price k +ℤ m) ≤ 1001000000000000000000000000000 → IsCell (cell_at k.cells i) → o ≡ least_offer k m i (cell_at k.cells i) → (unsigned_abs o.value ≤ 30000000000000000000000000000000000) × (unsigned_abs o.weight ≤ 20000)
held_sizes k m i o c h p v e =
    let s = offer_small k m i (length k.cells) (cell_at k.cells i) c h p v in
    let a = s.0 in
    let b = s.1 in
    (subst (λ (x : Offer). unsigned_abs x.value ≤ 30000000000000000000000000000000000) (sym e) (omega arith), subst (λ (x : Offer). unsigned_abs x.weight ≤ 20000) (sym e) (omega arith))

pub out_sizes : (k : CurveValue) (m : ℤ) (i : ℕ) (o : Offer) → AreCosts k.costs (length k.cells) → i < length k.cells → unsigned_abs (varied_price k +ℤ m) ≤ 1001000000000000000000000000000 → o ≡ none_offer k m i → (unsigned_abs o.value ≤ 30000000000000000000000000000000000) × (unsigned_abs o.weight ≤ 20000)
out_sizes k m i o c h p e =
    let a = priced_small k m i (length k.cells) 0 c h p (omega arith) in
    let b = weighed_small k i 0 (c.present_most i) (omega arith) in
    (subst (λ (x : Offer). unsigned_abs x.value ≤ 30000000000000000000000000000000000) (sym e) (omega arith), subst (λ (x : Offer). unsigned_abs x.weight ≤ 20000) (sym e) (omega arith))

-- what the offers at a place tell of the ways
pub held_tells : (k : CurveValue) (m : ℤ) (i j : ℕ) (o : Offer) → j ≡ i → o ≡ least_offer k m i (cell_at k.cells i) → (held_value k m j ≡ o.value) × (held_weight k m j ≡ o.weight)
held_tells k m i j o e p = (ap (held_value k m) e ∙ ap (λ (x : Offer). x.value) (sym p), ap (held_weight k m) e ∙ ap (λ (x : Offer). x.weight) (sym p))

pub out_tells : (k : CurveValue) (m : ℤ) (i j : ℕ) (o : Offer) → j ≡ i → o ≡ none_offer k m i → (out_value k m j ≡ o.value) × (out_weight k m j ≡ o.weight)
out_tells k m i j o e p = (ap (out_value k m) e ∙ ap (λ (x : Offer). x.value) (sym p), ap (out_weight k m) e ∙ ap (λ (x : Offer). x.weight) (sym p))

-- ---- where a lot of distance is the same as one more lot, the better end is the cheapest candidate
pub priced_plain : (k : CurveValue) (m : ℤ) (i v : ℕ) → IsPlain k i → priced_of k m i v ≡ plain_cost (line_of k m i k.varied +ℤ away_of k m k.varied) (at k.costs.bends i) v
priced_plain k m i v (inl bare) =
    let line = line_of k m i k.varied in
    let bend = at k.costs.bends i in
    let free : away_of k m k.varied ≡ pos 0 = ap (λ x. distance_under x k.costs m) bare.by_lots ∙ bare.free in
    priced_is k m i k.varied (pos v)
    ∙ ap (λ z. asset_cost line bend z (lots_at k.costs.present i) (pos v)) free
    ∙ bare_is line bend (lots_at k.costs.present i) (pos v)
    ∙ ap (λ z. plain_cost z bend v) (added line (away_of k m k.varied) free)
  where
    added : (x y : ℤ) → y ≡ pos 0 → x ≡ x +ℤ y
    added x y e = omega (arith, ints)
priced_plain k m i v (inr none) =
    let line = line_of k m i k.varied in
    let bend = at k.costs.bends i in
    priced_is k m i k.varied (pos v)
    ∙ ap (λ (n : ℕ). asset_cost line bend (away_of k m k.varied) (pos n) (pos v)) none
    ∙ away_is line bend (away_of k m k.varied) v

pub weighed_plain : (k : CurveValue) (i v : ℕ) → IsPlain k i → weighed_of k i v ≡ pos v
weighed_plain k i v (inl bare) = ap (λ x. weight_of x (lots_at k.costs.present i) (pos v)) bare.by_lots
weighed_plain k i v (inr none) = ap (λ (n : ℕ). weight_of k.varied (pos n) (pos v)) none ∙ by_varied k.varied
  where
    by_varied : (varied : Varied) → weight_of varied (pos 0) (pos v) ≡ pos v
    by_varied Lots = refl
    by_varied Distance = omega (arith, ints)

-- where it isn't held, it costs and weighs nothing
pub plain_none : (k : CurveValue) (m : ℤ) (i j : ℕ) → j ≡ i → IsPlain k i → (out_value k m j ≡ pos 0) × (out_weight k m j ≡ pos 0)
plain_none k m i j e plain = (ap (out_value k m) e ∙ priced_plain k m i 0 plain ∙ bow_none (line_of k m i k.varied +ℤ away_of k m k.varied) (at k.costs.bends i), ap (out_weight k m) e ∙ weighed_plain k i 0 plain)

-- the better end of a cost that bows is the cheaper one, and no cost between is less
end_cheaper : (g : ℕ → ℤ) (c d : ℤ) (l u : ℕ) → l ≤ u → ((v : ℕ) → g v ≡ plain_cost c d v) → at_lots g (end_lots c d l u) ≡ cheaper (at_lots g l) (at_lots g u)
end_cheaper g c d l u h same = by_order (cases_eq l u)
  where
    alike : (s t : Bool) (n : ℕ) → at_lots g (if s then n else n) ≡ (if t then at_lots g n else at_lots g n)
    alike true true n = refl
    alike true false n = refl
    alike false true n = refl
    alike false false n = refl

    chosen : (s t : Bool) → s ≡ t → at_lots g (if s then u else l) ≡ (if t then at_lots g u else at_lots g l)
    chosen true true e = refl
    chosen false false e = refl
    chosen true false e = cc
    chosen false true e = cc

    by_order : (l ≡ u) ⊎ (l ≡ u → ⊥) → at_lots g (end_lots c d l u) ≡ cheaper (at_lots g l) (at_lots g u)
    by_order (inl e) = subst (λ (n : ℕ). at_lots g (end_lots c d l n) ≡ cheaper (at_lots g l) (at_lots g n)) e (alike (int_lt c (d *ℤ pos (l + l))) (int_lt (g l) (g l)) l)
    by_order (inr n) = chosen (int_lt c (d *ℤ pos (l + u))) (int_lt (g u) (g l)) (ends_test c d l u (omega (arith, n)) ∙ ap (λ z. int_lt z (plain_cost c d l)) (sym (same u)) ∙ ap (int_lt (g u)) (sym (same l)))

cheapest_ends : (g : ℕ → ℤ) (c d : ℤ) (l u b : ℕ) → pos 0 ≤ℤ d → ((v : ℕ) → g v ≡ plain_cost c d v) → cheapest g l u b ≡ cheaper (at_lots g l) (at_lots g u)
cheapest_ends g c d l u b s same = by_test (ltb l b && ltb b u) refl
  where
    kept : (x y : Candidate) → x.cost ≤ℤ y.cost → cheaper x y ≡ x
    kept x y h = ap (λ (t : Bool). if t then y else x) (lt_not y.cost x.cost h)

    by_test : (t : Bool) → (ltb l b && ltb b u) ≡ t → (if t then cheaper (cheaper (at_lots g l) (at_lots g u)) (at_lots g b) else cheaper (at_lots g l) (at_lots g u)) ≡ cheaper (at_lots g l) (at_lots g u)
    by_test false e = refl
    by_test true e =
        let r = and_parts (ltb l b) (ltb b u) e in
        let lb : l < b = ltb-true l b r.0 in
        let bu : b < u = ltb-true b u r.1 in
        let p = cheaper_low (at_lots g l) (at_lots g u) in
        let low = (cheaper (at_lots g l) (at_lots g u)).cost in
        kept (cheaper (at_lots g l) (at_lots g u)) (at_lots g b) (subst (λ (z : ℤ). low ≤ℤ z) (sym (same b)) (bow_least c d (pos l) (pos b) (pos u) low s (omega (arith, ints)) (omega (arith, ints)) (subst (λ (z : ℤ). low ≤ℤ z) (same l) p.0) (subst (λ (z : ℤ). low ≤ℤ z) (same u) p.1)))

-- what the better end costs is the least offer
pub end_is : (k : CurveValue) (m : ℤ) (i l u : ℕ) (line bend : ℤ) (x : Candidate) (o : Offer) → IsPlain k i → pos 0 ≤ℤ at k.costs.bends i → l ≤ u → line ≡ (at k.costs.linear i +ℤ lot_under k.varied k.costs m) +ℤ distance_under k.varied k.costs m → bend ≡ at k.costs.bends i → x ≡ at_lots (plain_cost line bend) (end_lots line bend l u) → o ≡ offer_with Lots 0 x → o ≡ least_offer k m i (Held l u)
end_is k m i l u line bend x o plain s h d e p q =
    let g = priced_of k m i in
    let L = line_of k m i k.varied +ℤ away_of k m k.varied in
    let B = at k.costs.bends i in
    let b = slice_index_or k.costs.present i 0 in
    let same : (v : ℕ) → g v ≡ plain_cost L B v = λ v. priced_plain k m i v plain in
    let a = ap (λ z. at_lots (plain_cost z bend) (end_lots z bend l u)) d ∙ ap (λ z. at_lots (plain_cost L z) (end_lots L z l u)) e in
    let n = ap (λ z. record { lots = end_lots L B l u; cost = z }) (sym (same (end_lots L B l u))) in
    let c = p ∙ a ∙ n ∙ end_cheaper g L B l u h same ∙ sym (cheapest_ends g L B l u b s same) in
    q ∙ ap (offer_with Lots 0) c ∙ ap (λ z. record { value = (cheapest g l u b).cost; weight = z }) (sym (weighed_plain k i (cheapest g l u b).lots plain))

-- ---- what a whole curve says
pub tabled_none : (k : CurveValue) (m : ℤ) (held out held_weights out_weights : List ℤ) → AreTabled k m 0 held out held_weights out_weights
tabled_none k m held out held_weights out_weights = record { held_are = λ i h. absurd (omega arith); out_are = λ i h. absurd (omega arith); held_weigh = λ i h. absurd (omega arith); out_weigh = λ i h. absurd (omega arith) }

pub tabled_more : (k : CurveValue) (m : ℤ) (i j : ℕ) (held out held_weights out_weights : List ℤ) (holding leaving : Offer) → j ≡ i → i < length held → i < length out → i < length held_weights → i < length out_weights → AreTabled k m i held out held_weights out_weights → holding ≡ least_offer k m i (cell_at k.cells i) → leaving ≡ none_offer k m i → AreTabled k m (i + 1) (slice_set held j holding.value) (slice_set out j leaving.value) (slice_set held_weights j holding.weight) (slice_set out_weights j leaving.weight)
tabled_more k m i j held out held_weights out_weights holding leaving e h1 h2 h3 h4 t p q = record {
  held_are = table_more (held_value k m) held i j holding.value e h1 t.held_are (ap (λ (x : Offer). x.value) p);
  out_are = table_more (out_value k m) out i j leaving.value e h2 t.out_are (ap (λ (x : Offer). x.value) q);
  held_weigh = table_more (held_weight k m) held_weights i j holding.weight e h3 t.held_weigh (ap (λ (x : Offer). x.weight) p);
  out_weigh = table_more (out_weight k m) out_weights i j leaving.weight e h4 t.out_weigh (ap (λ (x : Offer). x.weight) q);
}

within_by : (xs : List ℤ) (f : ℕ → ℤ) (n b c : ℕ) → length xs ≡ n → b ≤ c → ((i : ℕ) → i < n → at xs i ≡ f i) → ((i : ℕ) → i < n → unsigned_abs (f i) ≤ b) → AreWithin c xs
within_by xs f n b c e h same small = λ i l. let g = small i (omega arith) in subst (λ (z : ℤ). unsigned_abs z ≤ c) (sym (same i (omega arith))) (omega arith)

pub held_within : (k : CurveValue) (m : ℤ) (held : List ℤ) → AreCells k.cells → AreCosts k.costs (length k.cells) → unsigned_abs (varied_price k +ℤ m) ≤ 1001000000000000000000000000000 → length held ≡ length k.cells → ((i : ℕ) → i < length k.cells → at held i ≡ held_value k m i) → AreWithin 30000000000000000000000000000000000 held
held_within k m held valid c p e same = within_by held (held_value k m) (length k.cells) 23000000000000000000000000000000000 30000000000000000000000000000000000 e (omega arith) same (λ i l. (offer_small k m i (length k.cells) (cell_at k.cells i) c l p (valid.each i)).0)

pub out_within : (k : CurveValue) (m : ℤ) (out : List ℤ) → AreCosts k.costs (length k.cells) → unsigned_abs (varied_price k +ℤ m) ≤ 1001000000000000000000000000000 → length out ≡ length k.cells → ((i : ℕ) → i < length k.cells → at out i ≡ out_value k m i) → AreWithin 30000000000000000000000000000000000 out
out_within k m out c p e same = within_by out (out_value k m) (length k.cells) 23000000000000000000000000000000000 30000000000000000000000000000000000 e (omega arith) same (λ i l. priced_small k m i (length k.cells) 0 c l p (omega arith))

pub held_flat : (k : CurveValue) (m : ℤ) (xs : List ℤ) → AreCells k.cells → AreCosts k.costs (length k.cells) → unsigned_abs (varied_price k +ℤ m) ≤ 1001000000000000000000000000000 → length xs ≡ length k.cells → ((i : ℕ) → i < length k.cells → at xs i ≡ held_weight k m i) → AreWithin 20000 xs
held_flat k m xs valid c p e same = within_by xs (held_weight k m) (length k.cells) 10000 20000 e (omega arith) same (λ i l. (offer_small k m i (length k.cells) (cell_at k.cells i) c l p (valid.each i)).1)

pub out_flat : (k : CurveValue) (m : ℤ) (xs : List ℤ) → AreCosts k.costs (length k.cells) → length xs ≡ length k.cells → ((i : ℕ) → i < length k.cells → at xs i ≡ out_weight k m i) → AreWithin 20000 xs
out_flat k m xs c e same = within_by xs (out_weight k m) (length k.cells) 10000 20000 e (omega arith) same (λ i l. weighed_small k i 0 (c.present_most i) (omega arith))

pub least_tabled : (k : CurveValue) (m : ℤ) (held out held_weights out_weights : List ℤ) (value slope : ℤ) → AreCells k.cells → AreCosts k.costs (length k.cells) → AreTabled k m (length k.cells) held out held_weights out_weights → IsLeastWay k.cells (at held) (at out) (at held_weights) (at out_weights) k.fewest k.most value slope → IsLeastAt k m value slope
least_tabled k m held out held_weights out_weights value slope valid c t least =
    let best : (i : ℕ) → i < length k.cells → IsBestOf (cell_at k.cells i) (priced_of k m i) (weighed_of k i) (at held i) (at held_weights i) = λ i l. subst (λ (z : ℤ). IsBestOf (cell_at k.cells i) (priced_of k m i) (weighed_of k i) z (at held_weights i)) (sym (t.held_are i l)) (subst (λ (z : ℤ). IsBestOf (cell_at k.cells i) (priced_of k m i) (weighed_of k i) (held_value k m i) z) (sym (t.held_weigh i l)) (offer_best k m i (cell_at k.cells i) (valid.each i) (c.bends_signs i l))) in
    least_of_ways k m (at held) (at out) (at held_weights) (at out_weights) value slope valid best t.out_are t.out_weigh least

pub least_shown : (k : CurveValue) (m : ℤ) (value slope : ℤ) → AreCells k.cells → AreCosts k.costs (length k.cells) → IsLeastWay k.cells (held_value k m) (out_value k m) (held_weight k m) (out_weight k m) k.fewest k.most value slope → IsLeastAt k m value slope
least_shown k m value slope valid c least = least_of_ways k m (held_value k m) (out_value k m) (held_weight k m) (out_weight k m) value slope valid (λ i l. offer_best k m i (cell_at k.cells i) (valid.each i) (c.bends_signs i l)) (λ i l. refl) (λ i l. refl) least

pub least_sizes : (k : CurveValue) (m value slope : ℤ) → AreCells k.cells → length k.cells ≤ 256 → AreCosts k.costs (length k.cells) → unsigned_abs (varied_price k +ℤ m) ≤ 1001000000000000000000000000000 → IsLeastAt k m value slope → (unsigned_abs value ≤ 256 * 23000000000000000000000000000000000) × (unsigned_abs slope ≤ 256 * 10000)
least_sizes k m value slope valid few c p least =
    let a = value_within k m value slope 23000000000000000000000000000000000 valid (λ i v l h. priced_small k m i (length k.cells) v c l p h) least in
    let b = slope_within k m value slope 10000 valid (λ i v l h. weighed_small k i v (c.present_most i) h) least in
    (omega arith, omega arith)
