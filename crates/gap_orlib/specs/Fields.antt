-- The market of the bytes in the words of the file: the means and the deviations, the triples, each pair
-- of assets, and how many numerals were rounded. The order of the items is the OR-Library's; the rest is
-- own to portgap.
use Rattle.std.specs.Prelude.{ℕ, ℤ, pos, ◌+◌, ◌-◌, ◌*◌, ◌%◌, ◌<◌, ◌≤◌, ◌≡◌, ◌⊎◌, Bool, false, not, ◌==◌, ◌&&◌, ◌||◌, nat_le, List, [], length, slice_index_or, Some, Result, Ok, Err}
use Rattle.gap_base.specs.Sums.{count_if}
use Rattle.gap_base.specs.Numerals.{numeral_of}
use Rattle.gap_base.specs.declared.numeral_fault.Rounded.{Rounded}
use Rattle.gap_base.specs.declared.numeral_fault.NumeralFault.{NumeralFault}
use Rattle.gap_base.specs.Markets.{MarketValue, IsMarket, mean_of, deviation_of, rho_of}
use Rattle.gap_orlib.specs.Tokens.{Token, tokens}
use Rattle.gap_orlib.specs.Sheets.{whole}
use Rattle.gap_orlib.specs.Ports.{limit}

-- the bytes of the token with this number, from 0; none where there is no such token. Own to portgap.
abbrev pub text_at : List Token → ℕ → List ℕ
text_at ts k = (slice_index_or ts k (record { place = 0; text = [] })).text

-- a numeral has this value, in millionths. Own to portgap.
abbrev pub HasValue : Result Rounded NumeralFault → ℤ → Type 0
HasValue (Ok r) v = r.value ≡ v
HasValue (Err e) v = ⊥

-- a token is a numeral of this value. Own to portgap.
abbrev pub IsValue : List Token → ℕ → ℤ → Type 0
IsValue ts k v = HasValue (numeral_of (text_at ts k)) v

-- a token is the number of asset i of n: assets are counted from 1 in a file, and from 0 here. Own to
-- portgap.
pub record IsAsset (ts : List Token) (k n i : ℕ) : Type 0 where
  pub number : whole (text_at ts k) ≡ Some (i + 1)
  pub there : i < n

-- the number of the first token of triple t, behind the count and the n means and deviations. Own to
-- portgap.
abbrev pub triple_at : ℕ → ℕ → ℕ
triple_at n t = 2 * n + 1 + 3 * t

-- triple t is whole, and gives assets i and j this correlation. Own to portgap.
pub record IsTriple (ts : List Token) (n t i j : ℕ) (v : ℤ) : Type 0 where
  pub ends : triple_at n t + 2 < length ts
  pub first : IsAsset ts (triple_at n t) n i
  pub second : IsAsset ts (triple_at n t + 1) n j
  pub value : IsValue ts (triple_at n t + 2) v

-- the same, whichever way round it names them. Own to portgap.
abbrev pub NamesPair : List Token → ℕ → ℕ → ℕ → ℕ → ℤ → Type 0
NamesPair ts n t i j v = IsTriple ts n t i j v ⊎ IsTriple ts n t j i v

-- whether a token is to be a mean, a deviation or a correlation. Own to portgap.
abbrev pub is_value_place : ℕ → ℕ → Bool
is_value_place n k = nat_le 1 k && (nat_le k (2 * n) || (k - (2 * n + 1)) % 3 == 2)

-- whether a numeral was rounded. Own to portgap.
abbrev pub is_inexact : Result Rounded NumeralFault → Bool
is_inexact (Ok r) = not r.exact
is_inexact (Err e) = false

-- whether a token is a mean, a deviation or a correlation that was rounded. Own to portgap.
abbrev pub is_rounded : List Token → ℕ → ℕ → Bool
is_rounded ts n k = is_value_place n k && is_inexact (numeral_of (text_at ts k))

-- the bytes are a file of this market: token 0 is the number of assets; tokens 2k+1 and 2k+2 are the mean
-- and the deviation of asset k; the rest are whole triples, each of which gives two assets their
-- correlation (1 where they are one asset); each pair of different assets stands in one of them; and the
-- rounded numerals among these are counted, repeated ones too. Own to portgap, over the OR-Library's order.
pub record IsMarketOf (bytes : List ℕ) (m : MarketValue) : Type 0 where
  pub size : length bytes ≤ limit
  pub count : whole (text_at (tokens bytes) 0) ≡ Some m.assets
  pub market : IsMarket m
  pub means : (k : ℕ) → k < m.assets → IsValue (tokens bytes) (2 * k + 1) (mean_of m k)
  pub deviations : (k : ℕ) → k < m.assets → IsValue (tokens bytes) (2 * k + 2) (pos (deviation_of m k))
  pub triples : ℕ
  pub whole_triples : length (tokens bytes) ≡ triple_at m.assets triples
  pub each_triple : (t : ℕ) → t < triples → (i : ℕ) × (j : ℕ) × IsTriple (tokens bytes) m.assets t i j (rho_of m i j)
  pub each_pair : (i j : ℕ) → i < j → j < m.assets → (t : ℕ) × NamesPair (tokens bytes) m.assets t i j (rho_of m i j)
  pub rounded : m.rounded ≡ count_if (length (tokens bytes)) (is_rounded (tokens bytes) m.assets)

-- two markets have the same values: the same assets, means, deviations and correlations of each two, and as many rounded
-- numerals; the diagonal of the correlations stands for nothing. Own to portgap.
pub record HaveSameValues (m k : MarketValue) : Type 0 where
  pub assets : m.assets ≡ k.assets
  pub means : (i : ℕ) → i < m.assets → mean_of m i ≡ mean_of k i
  pub deviations : (i : ℕ) → i < m.assets → deviation_of m i ≡ deviation_of k i
  pub rhos : (i j : ℕ) → i < m.assets → j < m.assets → rho_of m i j ≡ rho_of k i j
  pub rounded : m.rounded ≡ k.rounded
