-- The market that a number generates: a market of one factor, from the words of PCG32 (O'Neill, "PCG: a family of simple
-- fast space-efficient statistically good algorithms for random number generation"). The choice of numbers is own to
-- portgap.
use Rattle.std.specs.Prelude.{◌≡◌, ◌≢◌, ℕ, ◌+◌, ◌*◌, ◌%◌, ◌<◌, ℤ, pos, ◌-ℤ◌}
use Rattle.gap_base.specs.Markets.{MarketValue, mean_of, deviation_of, rho_of}
use Rattle.rand_core.specs.Pcg32Seed.{pcg32_seed}
use Rattle.rand_pcg.specs.Lcg.{Lcg, advance}
use Rattle.rand_pcg.specs.Pcg.{multiplier_64, pcg32, pcg32_of_seed}

-- the generator of words that a number seeds
abbrev pub generator_of : ℕ → Lcg
generator_of number = pcg32_of_seed (pcg32_seed 16 number)

-- the word that a generator gives after k words
abbrev pub word_after : Lcg → ℕ → ℕ
word_after g k = (pcg32 (advance 64 multiplier_64 k g)).0

-- three words are drawn for each asset in order: its load on the one factor, in thousandths, its mean return and the
-- deviation of its return, in millionths
abbrev pub load_of : Lcg → ℕ → ℕ
load_of g i = 200 + word_after g (3 * i) % 701

abbrev pub drawn_mean : Lcg → ℕ → ℤ
drawn_mean g i = pos (word_after g (3 * i + 1) % 10001) -ℤ pos 2000

abbrev pub drawn_deviation : Lcg → ℕ → ℕ
drawn_deviation g i = 20000 + word_after g (3 * i + 2) % 60001

-- a market is the one of n assets that a number generates: the correlation of two assets is the product of their loads,
-- and no numeral was rounded
pub record IsGenerated (number n : ℕ) (m : MarketValue) : Type 0 where
  pub assets : m.assets ≡ n
  pub means : (i : ℕ) → i < n → mean_of m i ≡ drawn_mean (generator_of number) i
  pub deviations : (i : ℕ) → i < n → deviation_of m i ≡ drawn_deviation (generator_of number) i
  pub correlations : (i j : ℕ) → i < n → j < n → i ≢ j
      → rho_of m i j ≡ pos (load_of (generator_of number) i * load_of (generator_of number) j)
  pub rounded : m.rounded ≡ 0
