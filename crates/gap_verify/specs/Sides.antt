-- What a certificate says, and what a market and a job say, field by field. Own to portgap.

use Rattle.std.specs.Prelude.{ℕ, zero, suc, ◌+◌, ◌-◌, List, [], ◌∷◌, ◌++◌, map, length, slice_index_or}
use Rattle.gap_base.specs.declared.job.Job.{Job}
use Rattle.gap_base.specs.declared.weight.Weight.{Weight}
use Rattle.gap_base.specs.Markets.{MarketValue, mean_of, deviation_of, rho_of}
use Rattle.gap_instance.specs.Instances.{InstanceValue, instance_of}
use Rattle.gap_model.specs.declared.outcome.Told.{Told}
use Rattle.gap_verify.specs.declared.field.Field.{Field}
use Rattle.gap_verify.specs.declared.field.Field.TheVariants as field
use Rattle.gap_verify.specs.declared.said.Said.{Said}
use Rattle.gap_verify.specs.declared.said.Said.TheVariants.{Number, Signed, Range, Limit, Fraction}

-- one of the two sides that are compared: an instance, the budget of splits and the weights in order
pub record Side : Type 0 where
  pub instance : InstanceValue
  pub nodes : ℕ
  pub weights : List Weight

-- the side of a certificate: its instance, its budget, and the weights of what its sections tell
abbrev pub side_of_certificate : InstanceValue → ℕ → List Told → Side
side_of_certificate I nodes told = record { instance = I; nodes = nodes; weights = map (λ (t : Told). t.weight) told }

-- the side of a market and a job
abbrev pub side_of_job : MarketValue → Job → Side
side_of_job market job = record { instance = instance_of market job; nodes = job.nodes; weights = job.weights }

-- the weight at a place, counted from 0
abbrev pub weight_at : List Weight → ℕ → Weight
weight_at weights k = slice_index_or weights k (record { p = 0; q = 1 })

-- what a side says of a field; the number of held assets is a range
unfoldable pub said_of : Side → Field → Said
said_of s field.Assets = Number s.instance.market.assets
said_of s field.Lots = Number s.instance.lots
said_of s field.Held = Range s.instance.held s.instance.held_most
said_of s field.Turnover = Limit s.instance.turnover
said_of s field.Nodes = Number s.nodes
said_of s (field.Mean i) = Signed (mean_of s.instance.market i)
said_of s (field.Deviation i) = Number (deviation_of s.instance.market i)
said_of s (field.Least i) = Number (slice_index_or s.instance.least i 0)
said_of s (field.Greatest i) = Number (slice_index_or s.instance.greatest i 0)
said_of s (field.Present i) = Number (slice_index_or s.instance.present i 0)
said_of s (field.Correlation i j) = Signed (rho_of s.instance.market i j)
said_of s field.Weights = Number (length s.weights)
said_of s (field.Weight k) = Fraction (weight_at s.weights k)

-- the fields of the groups below a number, one group behind another
unfoldable pub groups_below : (ℕ → List Field) → ℕ → List Field
groups_below group zero = []
groups_below group (suc i) = groups_below group i ++ group i

-- the fields that say neither an asset nor a weight
abbrev pub first_fields : List Field
first_fields = field.Assets ∷ field.Lots ∷ field.Held ∷ field.Turnover ∷ field.Nodes ∷ []

-- the fields of asset i
abbrev pub asset_fields : ℕ → List Field
asset_fields i = field.Mean i ∷ field.Deviation i ∷ field.Least i ∷ field.Greatest i ∷ field.Present i ∷ []

-- the field of asset i and the asset that is k places behind the next one
abbrev pub pair_fields : ℕ → ℕ → List Field
pair_fields i k = field.Correlation i (suc i + k) ∷ []

-- the fields of the pairs of asset i of n with each asset behind it
abbrev pub row_fields : ℕ → ℕ → List Field
row_fields n i = groups_below (pair_fields i) (n - suc i)

-- the field of the weight at place k
abbrev pub weight_fields : ℕ → List Field
weight_fields k = field.Weight k ∷ []

-- all fields of n assets and so many weights in their order: the single ones, those of each asset, each pair i < j by i
-- and then j, how many weights there are, and each weight
unfoldable pub fields_of : ℕ → ℕ → List Field
fields_of n count =
    first_fields ++ (groups_below asset_fields n
    ++ (groups_below (row_fields n) n ++ (field.Weights ∷ groups_below weight_fields count)))
