-- The least cost of a part's lists under a multiplier. Own to portgap.

use Rattle.std.specs.Prelude.{◌≡◌, ℕ, List, length, ℤ, ◌+ℤ◌, ◌-ℤ◌, ◌*ℤ◌, ◌≤ℤ◌}
use Rattle.gap_base.specs.Sums.{sum_below, at, abs_z}
use Rattle.gap_base.specs.Lots.{lots_at}
use Rattle.gap_box.specs.declared.cell.Cell.{Cell}
use Rattle.gap_box.specs.Parts.{IsPick}
use Rattle.gap_price.specs.declared.costs.Costs.{Costs}
use Rattle.gap_price.specs.declared.costs.Varied.{Varied}
use Rattle.gap_price.specs.declared.costs.Varied.TheVariants.{Lots, Distance}
use Rattle.gap_price.specs.Costs.{asset_cost}

-- what the lots of single assets cost: a price of each lot and what a square takes off for each asset, the present lots,
-- and prices of a lot and of a lot of distance for all assets
pub record CostsValue : Type 0 where
  pub linear : List ℤ
  pub bends : List ℤ
  pub present : List ℕ
  pub lot_price : ℤ
  pub distance_price : ℤ

-- costs, to which price a multiplier is added, and over which lists: those of a part that hold from `fewest` to `most`
-- assets
pub record CurveValue : Type 0 where
  pub costs : CostsValue
  pub varied : Varied
  pub cells : List Cell
  pub fewest : ℕ
  pub most : ℕ

-- the same from the values that code hands in
abbrev pub costs_with : Costs → CostsValue
costs_with c =
    record {
      linear = c.linear.now;
      bends = c.bends.now;
      present = c.present.now;
      lot_price = c.lot_price;
      distance_price = c.distance_price;
    }

abbrev pub curve_with : Costs → Varied → List Cell → ℕ → ℕ → CurveValue
curve_with c varied cells fewest most =
    record { costs = costs_with c; varied = varied; cells = cells; fewest = fewest; most = most }

-- the price that varies
abbrev pub price_by : Varied → CostsValue → ℤ
price_by Lots c = c.lot_price
price_by Distance c = c.distance_price

-- the price of a lot and that of a lot of distance that all assets share, under a multiplier
abbrev pub lot_under : Varied → CostsValue → ℤ → ℤ
lot_under Lots c multiplier = c.lot_price +ℤ multiplier
lot_under Distance c multiplier = c.lot_price

abbrev pub distance_under : Varied → CostsValue → ℤ → ℤ
distance_under Lots c multiplier = c.distance_price
distance_under Distance c multiplier = c.distance_price +ℤ multiplier

-- what a unit of the multiplier adds to the cost of v lots where b are present: v, or the distance of v from b
abbrev pub weight_of : Varied → ℤ → ℤ → ℤ
weight_of Lots b v = v
weight_of Distance b v = abs_z (v -ℤ b)

-- the cost of v lots of the asset i without the multiplier
abbrev pub cost_of : CostsValue → ℕ → ℤ → ℤ
cost_of c i v = asset_cost (at c.linear i +ℤ c.lot_price) (at c.bends i) c.distance_price (lots_at c.present i) v

-- the cost of a list without the multiplier, and what a unit of the multiplier adds to it
unfoldable pub costs_of : CurveValue → List ℕ → ℤ
costs_of c x = sum_below (length c.cells) (λ i. cost_of c.costs i (lots_at x i))

unfoldable pub weights_of : CurveValue → List ℕ → ℤ
weights_of c x = sum_below (length c.cells) (λ i. weight_of c.varied (lots_at c.costs.present i) (lots_at x i))

-- the price that the multiplier is added to
abbrev pub varied_price : CurveValue → ℤ
varied_price c = price_by c.varied c.costs

-- a value and a slope at a multiplier: they are the cost and the weight of one of the lists, and no such list costs less
pub record IsLeastAt (c : CurveValue) (multiplier value slope : ℤ) : Type 0 where
  pub reached : (x : List ℕ) × IsPick c.cells c.fewest c.most x
      × ((costs_of c x +ℤ multiplier *ℤ weights_of c x) ≡ value) × (weights_of c x ≡ slope)
  pub below : (x : List ℕ) → IsPick c.cells c.fewest c.most x → value ≤ℤ (costs_of c x +ℤ multiplier *ℤ weights_of c x)
