-- What holding an asset costs under a multiplier. Own to portgap.

use Rattle.std.specs.Prelude.{◌≡◌, ℕ, ◌+◌, ◌⊎◌, ◌<◌, ◌≤◌, true, ◌&&◌, ltb, if◌then◌else◌, List, length, slice_index_or, ℤ, pos, ◌+ℤ◌, ◌-ℤ◌, ◌*ℤ◌, ◌≤ℤ◌, int_lt, unsigned_abs}
use Rattle.gap_base.specs.Sums.{at}
use Rattle.gap_base.specs.Lots.{lots_at}
use Rattle.gap_box.specs.declared.cell.Cell.{Cell}
use Rattle.gap_box.specs.declared.cell.Cell.TheVariants.{Out, Held, Free}
use Rattle.gap_box.specs.Parts.{can_meet, helds}
use Rattle.gap_relax.specs.Choices.{cell_at}
use Rattle.gap_relax.specs.Rows.{Ways}
use Rattle.gap_price.specs.declared.asset.AssetCost.{AssetCost}
use Rattle.gap_price.specs.declared.candidates.Candidate.{Candidate}
use Rattle.gap_price.specs.declared.costs.Varied.{Varied}
use Rattle.gap_price.specs.declared.costs.Varied.TheVariants.{Lots as ByLots}
use Rattle.gap_price.specs.declared.offer.Offer.{Offer}
use Rattle.gap_price.specs.Costs.{asset_cost, most_linear, most_bend, most_price}
use Rattle.gap_price.specs.Curves.{CostsValue, CurveValue, cost_of, weight_of}

-- the cost of v lots of an asset
abbrev pub cost_by : AssetCost → ℕ → ℤ
cost_by a v = asset_cost a.linear a.bend a.price (pos a.present) (pos v)

-- the cost of v lots of the asset i under the multiplier, and what a unit of the multiplier adds to it
abbrev pub priced_of : CurveValue → ℤ → ℕ → ℕ → ℤ
priced_of c multiplier i v = cost_of c.costs i (pos v) +ℤ multiplier *ℤ weight_of c.varied (lots_at c.costs.present i) (pos v)

abbrev pub weighed_of : CurveValue → ℕ → ℕ → ℤ
weighed_of c i v = weight_of c.varied (lots_at c.costs.present i) (pos v)

-- a number of lots with its cost
abbrev pub at_lots : (ℕ → ℤ) → ℕ → Candidate
at_lots cost v = record { lots = v; cost = cost v }

-- the cheaper of two
abbrev pub cheaper : Candidate → Candidate → Candidate
cheaper a b = if int_lt b.cost a.cost then b else a

-- the cheapest of l lots, of u lots and of the b present ones where these lie between
abbrev pub cheapest : (ℕ → ℤ) → ℕ → ℕ → ℕ → Candidate
cheapest cost l u b =
    if ltb l b && ltb b u then cheaper (cheaper (at_lots cost l) (at_lots cost u)) (at_lots cost b)
    else cheaper (at_lots cost l) (at_lots cost u)

-- the offer of a candidate where b lots are present
abbrev pub offer_with : Varied → ℕ → Candidate → Offer
offer_with varied b c = record { value = c.cost; weight = weight_of varied (pos b) (pos c.lots) }

-- the cheapest offer of a cell that can be held; nothing of one that is out
abbrev pub offer_held : Varied → ℕ → (ℕ → ℤ) → Cell → Offer
offer_held varied b cost Out = record { value = pos 0; weight = pos 0 }
offer_held varied b cost (Held l u) = offer_with varied b (cheapest cost l u b)
offer_held varied b cost (Free l u) = offer_with varied b (cheapest cost l u b)

-- the offers of the asset i: of holding it as its cell allows, and of not holding it
abbrev pub least_offer : CurveValue → ℤ → ℕ → Cell → Offer
least_offer c multiplier i cell = offer_held c.varied (slice_index_or c.costs.present i 0) (priced_of c multiplier i) cell

abbrev pub none_offer : CurveValue → ℤ → ℕ → Offer
none_offer c multiplier i = offer_with c.varied (slice_index_or c.costs.present i 0) (at_lots (priced_of c multiplier i) 0)

-- distance has no price, whatever the multiplier
pub record IsBare (c : CurveValue) : Type 0 where
  pub by_lots : c.varied ≡ ByLots
  pub free : c.costs.distance_price ≡ pos 0

-- a lot of distance of the asset i is the same as one more lot, or distance has no price
abbrev pub IsPlain : CurveValue → ℕ → Type 0
IsPlain c i = IsBare c ⊎ (slice_index_or c.costs.present i 0 ≡ 0)

-- the cost of v lots by a price of each, less what a square takes off
abbrev pub plain_cost : ℤ → ℤ → ℕ → ℤ
plain_cost line bend v = (line *ℤ pos v) -ℤ (bend *ℤ (pos v *ℤ pos v))

-- the end of l to u lots at which that is least: a lot more costs the price less what the square takes off for it
abbrev pub end_lots : ℤ → ℤ → ℕ → ℕ → ℕ
end_lots line bend l u = if int_lt line (bend *ℤ pos (l + u)) then u else l

-- the costs of holding each place's asset and of not holding it under a multiplier, and their weights
abbrev pub held_value : CurveValue → ℤ → ℕ → ℤ
held_value c multiplier i = (least_offer c multiplier i (cell_at c.cells i)).value

abbrev pub held_weight : CurveValue → ℤ → ℕ → ℤ
held_weight c multiplier i = (least_offer c multiplier i (cell_at c.cells i)).weight

abbrev pub out_value : CurveValue → ℤ → ℕ → ℤ
out_value c multiplier i = (none_offer c multiplier i).value

abbrev pub out_weight : CurveValue → ℤ → ℕ → ℤ
out_weight c multiplier i = (none_offer c multiplier i).weight

-- tables of what the assets of the first places cost at the multiplier, held and not, and of what that weighs
pub record AreTabled (c : CurveValue) (multiplier : ℤ) (count : ℕ) (held out held_weights out_weights : List ℤ) : Type
    0 where
  pub held_are : (i : ℕ) → i < count → at held i ≡ held_value c multiplier i
  pub out_are : (i : ℕ) → i < count → at out i ≡ out_value c multiplier i
  pub held_weigh : (i : ℕ) → i < count → at held_weights i ≡ held_weight c multiplier i
  pub out_weigh : (i : ℕ) → i < count → at out_weights i ≡ out_weight c multiplier i

-- the cells with what each costs and weighs at the multiplier, held and not
abbrev pub ways_of : CurveValue → ℤ → Ways
ways_of c multiplier = record {
  cells = c.cells;
  held_cost = held_value c multiplier;
  out_cost = out_value c multiplier;
  held_slope = held_weight c multiplier;
  out_slope = out_weight c multiplier;
  fewest = c.fewest;
  most = c.most;
}

-- costs have a number for each cell, in their ranges
pub record AreCosts (c : CostsValue) (count : ℕ) : Type 0 where
  pub linear_length : length c.linear ≡ count
  pub bends_length : length c.bends ≡ count
  pub present_length : length c.present ≡ count
  pub linear_small : (i : ℕ) → i < count → unsigned_abs (at c.linear i) ≤ most_linear
  pub bends_small : (i : ℕ) → i < count → unsigned_abs (at c.bends i) ≤ most_bend
  pub bends_signs : (i : ℕ) → i < count → pos 0 ≤ℤ at c.bends i
  pub present_most : (i : ℕ) → slice_index_or c.present i 0 ≤ 10000
  pub lot_small : unsigned_abs c.lot_price ≤ most_price
  pub distance_small : unsigned_abs c.distance_price ≤ most_price

-- what a curve keeps: its costs are in their ranges, its count can be met, and so many cells must be held
pub record IsCurve (c : CurveValue) (held : ℕ) : Type 0 where
  pub costs_are : AreCosts c.costs (length c.cells)
  pub order : c.fewest ≤ c.most
  pub counted : can_meet c.cells c.fewest c.most ≡ true
  pub held_is : held ≡ helds c.cells
