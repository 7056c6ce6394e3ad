-- What stands while a market is generated. Own to portgap.
use Rattle.std.specs.Prelude.{◌≡◌, ◌≢◌, ℕ, ◌*◌, ◌<◌, ◌≤◌, List, length, slice_index_or, ℤ, pos}
use Rattle.gap_base.specs.Markets.{MarketValue, mean_of, deviation_of, rho_of}
use Rattle.rand_pcg.specs.Lcg.{Lcg, advance}
use Rattle.rand_pcg.specs.Pcg.{multiplier_64}
use Rattle.gap_gen.specs.Demo.{load_of, drawn_mean, drawn_deviation}

-- a market has the means, deviations and correlations of another, but for those of the asset i with assets before it
pub record KeepsAssets (m k : MarketValue) (i : ℕ) : Type 0 where
  pub assets : k.assets ≡ m.assets
  pub means : k.means ≡ m.means
  pub deviations : k.deviations ≡ m.deviations
  pub rounded : k.rounded ≡ m.rounded
  pub correlations : (a b : ℕ) → a < i → b < i → rho_of k a b ≡ rho_of m a b

-- the asset i is tied to each of the first j by the product of their loads
pub record AreTied (m : MarketValue) (loads : List ℕ) (i j : ℕ) : Type 0 where
  pub one_way : (b : ℕ) → b < j → rho_of m i b ≡ pos (slice_index_or loads i 0 * slice_index_or loads b 0)
  pub other_way : (b : ℕ) → b < j → rho_of m b i ≡ pos (slice_index_or loads i 0 * slice_index_or loads b 0)

-- what was drawn for an asset is what the words of g give for the asset i
pub record IsAsset (g : Lcg) (i load : ℕ) (mean : ℤ) (deviation : ℕ) : Type 0 where
  pub load_is : load ≡ load_of g i
  pub mean_is : mean ≡ drawn_mean g i
  pub deviation_is : deviation ≡ drawn_deviation g i

-- a generator stands where the words of g for the asset i begin
abbrev pub stands_at : Lcg → ℕ → Lcg → Type 0
stands_at g i words = words ≡ advance 64 multiplier_64 (3 * i) g

-- the first i of n assets are those that the words of g give
pub record AreDrawn (g : Lcg) (n : ℕ) (m : MarketValue) (loads : List ℕ) (i : ℕ) : Type 0 where
  pub assets : m.assets ≡ n
  pub places : length loads ≡ n
  pub rounded : m.rounded ≡ 0
  pub means : (k : ℕ) → k < i → mean_of m k ≡ drawn_mean g k
  pub deviations : (k : ℕ) → k < i → deviation_of m k ≡ drawn_deviation g k
  pub drawn : (k : ℕ) → k < i → slice_index_or loads k 0 ≡ load_of g k
  pub small : (k : ℕ) → slice_index_or loads k 0 ≤ 900
  pub correlations : (a b : ℕ) → a < i → b < i → a ≢ b → rho_of m a b ≡ pos (load_of g a * load_of g b)
