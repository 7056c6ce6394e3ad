-- A market and an instance as the head of a certificate says them: without the number of rounded numerals, and with
-- nothing on the diagonal of the table of correlations, which stands for nothing. Own to portgap.

use Rattle.std.specs.Prelude.{◌≡◌, ℕ, ◌==◌, if◌then◌else◌, ℤ, pos}
use Rattle.gap_base.specs.Markets.{MarketValue, rho_of}
use Rattle.gap_instance.specs.Instances.{InstanceValue}
use Rattle.gap_valid.specs.Heads.{table}

-- what the table of correlations has for two assets: their correlation, and 0 for an asset with itself
abbrev pub said_rho : MarketValue → ℕ → ℕ → ℤ
said_rho m i j = if i == j then pos 0 else rho_of m i j

-- the same market as a head says it
unfoldable pub said_market : MarketValue → MarketValue
said_market m = record m { correlations = table m.assets (said_rho m); rounded = 0 }

-- the same instance as a head says it
unfoldable pub said_instance : InstanceValue → InstanceValue
said_instance I = record I { market = said_market I.market }

-- an instance is as a head says it
abbrev pub IsSaid : InstanceValue → Type 0
IsSaid I = I ≡ said_instance I
