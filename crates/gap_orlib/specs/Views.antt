-- What a reader's fields say, and what always holds of them. Own to portgap.
use Rattle.std.specs.Prelude.{ℕ, ◌*◌, ◌<◌, ◌≤◌, ◌≡◌, length}
use Rattle.gap_orlib.specs.declared.wanted.Wanted.{Wanted}
use Rattle.gap_orlib.specs.declared.wanted.Wanted.TheVariants.{Mean, Deviation, First, Second, Correlation}
use Rattle.gap_orlib.specs.Sheets.{Sheet}

-- the assets that the next token is about are assets of the market. Own to portgap.
abbrev pub AreAssets : ℕ → Wanted → Type 0
AreAssets n (Mean k) = k < n
AreAssets n (Deviation k) = k < n
AreAssets n First = Unit {0}
AreAssets n (Second i) = i < n
AreAssets n (Correlation i j) = (i < n) × (j < n)

-- what always holds of a sheet: a mark for each pair, and assets that are there. Own to portgap.
pub record IsSheet (s : Sheet) : Type 0 where
  pub few : 2 ≤ s.market.assets
  pub many : s.market.assets ≤ 256
  pub marks : length s.seen ≡ s.market.assets * s.market.assets
  pub wanted : AreAssets s.market.assets s.next
