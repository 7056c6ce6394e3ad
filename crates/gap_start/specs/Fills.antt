-- Lists that hold a given set of assets, and how they come to their sum. Own to portgap.
use Rattle.std.specs.Prelude.{◌≡◌, ℕ, zero, suc, ◌+◌, ◌-◌, ◌<◌, ◌≤◌, Bool, cond, List, length, slice_index_or, slice_set, Option, None, Some, ℤ, pos, neg_ℤ, ◌+ℤ◌, ◌≤ℤ◌, ◌<ℤ◌, ◌⊎◌}
use Rattle.gap_base.specs.Lots.{lots_at}
use Rattle.gap_instance.specs.Instances.{InstanceValue}
use Rattle.gap_instance.specs.Limits.{sum_of, turnover_of}
use Rattle.gap_instance.specs.Objective.{objective}
use Rattle.gap_instance.specs.Orders.{sum_held}
use Rattle.gap_instance.specs.Selections.{is_marked}
use Rattle.gap_start.specs.declared.fill.Change.{Change}

-- x holds the assets that are marked, each within its limits, and no other
pub record HoldsWithin (I : InstanceValue) (marks x : List ℕ) : Type 0 where
  pub size : length x ≡ I.market.assets
  pub least : (i : ℕ) → i < I.market.assets → 0 < slice_index_or marks i 0
      → slice_index_or I.least i 0 ≤ slice_index_or x i 0
  pub most : (i : ℕ) → i < I.market.assets → 0 < slice_index_or marks i 0
      → slice_index_or x i 0 ≤ slice_index_or I.greatest i 0
  pub others : (i : ℕ) → i < I.market.assets → slice_index_or marks i 0 ≡ 0 → slice_index_or x i 0 ≡ 0

-- a marked asset can get one lot more (up), or give one (not up)
abbrev pub CanGo : InstanceValue → List ℕ → List ℕ → Bool → ℕ → Type 0
CanGo I marks x up i =
    (0 < slice_index_or marks i 0)
    × (cond up (slice_index_or x i 0) (slice_index_or I.least i 0)
    < cond up (slice_index_or I.greatest i 0) (slice_index_or x i 0))

-- the lots after it
abbrev pub gone : Bool → ℕ → ℕ
gone up v = cond up (v + 1) (v - 1)

-- no asset below n can go
abbrev pub IsStuck : InstanceValue → List ℕ → List ℕ → Bool → ℕ → Type 0
IsStuck I marks x up n = (i : ℕ) → i < n → CanGo I marks x up i → ⊥

-- one lot more (up), or one less, brings asset i nearer to its present lots
abbrev pub IsNearer : InstanceValue → List ℕ → Bool → ℕ → Type 0
IsNearer I x up i =
    cond up (slice_index_or x i 0) (slice_index_or I.present i 0)
    < cond up (slice_index_or I.present i 0) (slice_index_or x i 0)

-- a turnover limit is set, and some asset that can go is brought nearer to its present lots
abbrev pub SomeComesNearer : InstanceValue → List ℕ → List ℕ → Bool → Type 0
SomeComesNearer I marks x up =
    (t : ℕ) × (I.turnover ≡ Some t) × ((i : ℕ) × (i < I.market.assets) × CanGo I marks x up i × IsNearer I x up i)

-- an asset is looked at: it can go, and is brought nearer to its present lots where a turnover limit is set and one can be
pub record IsLookedAt (I : InstanceValue) (marks x : List ℕ) (up : Bool) (i : ℕ) : Type 0 where
  pub go : CanGo I marks x up i
  pub nearer : SomeComesNearer I marks x up → IsNearer I x up i

-- the list after asset i got one lot more, or one less
abbrev pub changed_at : List ℕ → Bool → ℕ → List ℕ
changed_at x up i = slice_set x i (gone up (slice_index_or x i 0))

-- of the assets below n that are looked at, i is the one that leads to the least objective, and the first of equal ones
pub record IsBestToGo (I : InstanceValue) (p q : ℕ) (marks x : List ℕ) (up : Bool) (n i : ℕ) : Type 0 where
  pub inside : i < n
  pub looked : IsLookedAt I marks x up i
  pub least : (j : ℕ) → j < n → IsLookedAt I marks x up j
      → objective I p q (changed_at x up i) ≤ℤ objective I p q (changed_at x up j)
  pub first : (j : ℕ) → j < i → IsLookedAt I marks x up j
      → objective I p q (changed_at x up i) <ℤ objective I p q (changed_at x up j)

-- what is known of the assets below n: the one that leads to the least objective with that objective, or none is looked at
abbrev pub IsSoFar : InstanceValue → ℕ → ℕ → List ℕ → List ℕ → Bool → ℕ → Option Change → Type 0
IsSoFar I p q marks x up n None = (i : ℕ) → i < n → IsLookedAt I marks x up i → ⊥
IsSoFar I p q marks x up n (Some change) =
    IsBestToGo I p q marks x up n change.asset × (change.value ≡ objective I p q (changed_at x up change.asset))

-- y is x after one lot was added, or taken, where it leads to the least objective; x itself where no asset can go
abbrev pub IsStep : InstanceValue → ℕ → ℕ → List ℕ → Bool → List ℕ → List ℕ → Type 0
IsStep I p q marks up x y =
    ((i : ℕ) × IsBestToGo I p q marks x up I.market.assets i × (y ≡ changed_at x up i))
    ⊎ (IsStuck I marks x up I.market.assets × (y ≡ x))

-- y is x after n such steps
unfoldable pub IsBrought : InstanceValue → ℕ → ℕ → List ℕ → Bool → ℕ → List ℕ → List ℕ → Type 0
IsBrought I p q marks up zero x y = y ≡ x
IsBrought I p q marks up (suc n) x y = (z : List ℕ) × IsBrought I p q marks up n x z × IsStep I p q marks up z y

-- wherever an asset can go on, it leads away from its present lots
abbrev pub LeadsAway : InstanceValue → List ℕ → Bool → List ℕ → Type 0
LeadsAway I marks up x =
    (i : ℕ) → i < I.market.assets → CanGo I marks x up i
    → cond up (slice_index_or I.present i 0) (slice_index_or x i 0)
    ≤ cond up (slice_index_or x i 0) (slice_index_or I.present i 0)

-- so many lots, added or taken
abbrev pub toward : Bool → ℕ → ℤ
toward up n = cond up (pos n) (neg_ℤ (pos n))

-- so many lots can be added to the sum of the marked assets, or taken
abbrev pub RoomFor : InstanceValue → List ℕ → Bool → List ℕ → ℕ → Type 0
RoomFor I marks up x n =
    (cond up (sum_of I.market.assets x) (sum_held I (is_marked marks) (lots_at I.least)) +ℤ pos n)
    ≤ℤ cond up (sum_held I (is_marked marks) (lots_at I.greatest)) (sum_of I.market.assets x)

-- y is x after n lots were added or taken: so is the sum, and the turnover grew by as many where each led away
pub record IsFilled (I : InstanceValue) (marks : List ℕ) (up : Bool) (x : List ℕ) (n : ℕ) (y : List ℕ) : Type 0 where
  pub within : HoldsWithin I marks y
  pub sum : sum_of I.market.assets y ≡ sum_of I.market.assets x +ℤ toward up n
  pub turnover : LeadsAway I marks up x
      → LeadsAway I marks up y
      × (turnover_of I.market.assets I.present y ≡ turnover_of I.market.assets I.present x +ℤ pos n)

-- y is x brought to the sum L lot by lot, as far as the marked assets can go
pub record IsBroughtToSum (I : InstanceValue) (p q : ℕ) (marks x y : List ℕ) : Type 0 where
  pub up : Bool
  pub missing : ℕ
  pub way : sum_of I.market.assets x +ℤ toward up missing ≡ pos I.lots
  pub brought : IsBrought I p q marks up missing x y
