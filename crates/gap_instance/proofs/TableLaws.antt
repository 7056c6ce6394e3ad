-- Laws of the table of covariances.
use Rattle.std.proofs.Common.{◌≡◌, ℕ, ◌+◌, ◌*◌, ◌<◌, ◌≤◌, List, [], ◌∷◌, ◌++◌, length, ℤ, pos, ◌⊎◌, inl, inr, sym, ap, ◌∙◌, arith, length-append}
use Rattle.std.proofs.Math.ListN.{get_or-append}
use Rattle.std.proofs.Math.Seq.{get_or-append_seam}
use Rattle.std.proofs.lemmas.Bool.{cases_lt}
use Rattle.std.proofs.lemmas.Nat.{mul-add-lt}
use Rattle.gap_base.specs.Sums.{at}
use Rattle.gap_base.specs.Markets.{MarketValue}
use Rattle.gap_base.proofs.MarketLaws.{place_row, place_column}
use Rattle.gap_instance.specs.Objective.{cov_of}
use Rattle.gap_instance.specs.Tables.{IsTableBefore, IsTable}

-- nothing is in the empty table
pub IsTableBefore-empty : (m : MarketValue) (table : List ℤ) → table ≡ [] → IsTableBefore m (0 * m.assets) table
IsTableBefore-empty m table e = rw e (record { size = omega arith; entries = λ i j h k. absurd (omega arith) })

entry_pushed : (m : MarketValue) (i j : ℕ) (table : List ℤ) (v : ℤ) → j < m.assets → IsTableBefore m (i * m.assets + j) table → v ≡ cov_of m i j → (a b : ℕ) → b < m.assets → a * m.assets + b < i * m.assets + (j + 1) → (a * m.assets + b < i * m.assets + j) ⊎ (i * m.assets + j ≤ a * m.assets + b) → at (table ++ v ∷ []) (a * m.assets + b) ≡ cov_of m a b
entry_pushed m i j table v p before e a b q r (inl old) = get_or-append table (v ∷ []) (pos 0) (a * m.assets + b) (rw before.size old) ∙ before.entries a b q old
entry_pushed m i j table v p before e a b q r (inr new) =
    let same : a * m.assets + b ≡ i * m.assets + j = omega arith in
    let row : a ≡ i = place_row m.assets a b i j q p same in
    let column : b ≡ j = place_column m.assets a b i j q p same in
    let place : a * m.assets + b ≡ length table = same ∙ sym before.size in
    rw place (get_or-append_seam table v [] (pos 0)) ∙ e ∙ ap (λ k. cov_of m k j) (sym row) ∙ ap (λ k. cov_of m a k) (sym column)

-- one more entry
pub IsTableBefore-push : (m : MarketValue) (i j : ℕ) (table : List ℤ) (v : ℤ) → j < m.assets → IsTableBefore m (i * m.assets + j) table → v ≡ cov_of m i j → IsTableBefore m (i * m.assets + (j + 1)) (table ++ v ∷ [])
IsTableBefore-push m i j table v p before e = record {
  size = length-append table (v ∷ []) ∙ (let s = before.size in omega arith);
  entries = λ a b q r. entry_pushed m i j table v p before e a b q r (cases_lt (a * m.assets + b) (i * m.assets + j));
}

-- a row is whole where all its entries are there
pub IsTableBefore-row : (m : MarketValue) (i j : ℕ) (table : List ℤ) → j ≡ m.assets → IsTableBefore m (i * m.assets + j) table → IsTableBefore m ((i + 1) * m.assets) table
IsTableBefore-row m i j table e before = let p : i * m.assets + j ≡ (i + 1) * m.assets = omega arith in rw p at before

-- a row is begun where those before it are whole
pub IsTableBefore-begin : (m : MarketValue) (i : ℕ) (table : List ℤ) → IsTableBefore m (i * m.assets) table → IsTableBefore m (i * m.assets + 0) table
IsTableBefore-begin m i table before = let p : i * m.assets ≡ i * m.assets + 0 = omega arith in rw p at before

-- a place of the table is inside it
pub IsTable-inside : (m : MarketValue) (table : List ℤ) → IsTable m table → (i j : ℕ) → i < m.assets → j < m.assets → i * m.assets + j < length table
IsTable-inside m table whole i j p q = rw whole.size (mul-add-lt i m.assets j m.assets p q)

-- for loops that fill the table
pub ruleset table_steps = (IsTableBefore-empty, IsTableBefore-push, IsTableBefore-row, IsTableBefore-begin)
