-- Lists that a search starts from. Own to portgap.
use Rattle.std.specs.Prelude.{◌≡◌, ℕ, ◌<◌, ◌≤◌, List, length, slice_index_or, ◌≤ℤ◌}
use Rattle.gap_base.specs.Sums.{count_if}
use Rattle.gap_instance.specs.declared.order.By.{By}
use Rattle.gap_instance.specs.declared.order.By.TheVariants.{Key, Least, Greatest}
use Rattle.gap_instance.specs.Instances.{InstanceValue, IsInstance}
use Rattle.gap_instance.specs.Limits.{MeetsLimits}
use Rattle.gap_instance.specs.Neighbours.{HasNoBetterNeighbour}
use Rattle.gap_instance.specs.Objective.{objective}
use Rattle.gap_instance.specs.Orders.{CanBeHeld, first_lots, holds, HeldGiveList, GivesList, SomeOrderGives}
use Rattle.gap_instance.specs.Selections.{is_marked}
use Rattle.gap_start.specs.Fills.{IsBroughtToSum}

-- a start: some order gives a list, and x meets the limits and has no better neighbour
pub record IsStart (I : InstanceValue) (p q : ℕ) (x : List ℕ) : Type 0 where
  pub gives : SomeOrderGives I p q
  pub meets : MeetsLimits I x
  pub best : HasNoBetterNeighbour I p q x

-- the first k assets of an order are marked, and no other of n
pub record AreMarks (n : ℕ) (order : List ℕ) (k : ℕ) (marks : List ℕ) : Type 0 where
  pub size : length marks ≡ n
  pub marked : (i : ℕ) → i < n → is_marked marks i ≡ holds order k i
  pub count : count_if n (is_marked marks) ≡ k
  pub from : (i : ℕ) → 0 < slice_index_or marks i 0 → (m : ℕ) × (m < k) × (slice_index_or order m 0 ≡ i)

-- from K1 to K2 assets are marked, and each can be held
pub record AreFirst (I : InstanceValue) (marks : List ℕ) : Type 0 where
  pub size : length marks ≡ I.market.assets
  pub known : IsInstance I
  pub held : (i : ℕ) → i < I.market.assets → 0 < slice_index_or marks i 0 → CanBeHeld I i
  pub fewest : I.held ≤ count_if I.market.assets (is_marked marks)
  pub most : count_if I.market.assets (is_marked marks) ≤ I.held_most

-- the list with what each marked asset gets at first
pub record IsFirstList (I : InstanceValue) (marks x : List ℕ) : Type 0 where
  pub size : length x ≡ I.market.assets
  pub held : (i : ℕ) → i < I.market.assets → 0 < slice_index_or marks i 0 → slice_index_or x i 0 ≡ first_lots I I.turnover i
  pub others : (i : ℕ) → i < I.market.assets → slice_index_or marks i 0 ≡ 0 → slice_index_or x i 0 ≡ 0

-- x is a start with the marked assets, no worse than their first list brought to the sum L
pub record IsStartOf (I : InstanceValue) (p q : ℕ) (marks x : List ℕ) : Type 0 where
  pub gives : HeldGiveList I (is_marked marks)
  pub meets : MeetsLimits I x
  pub best : HasNoBetterNeighbour I p q x
  pub first : List ℕ
  pub given : List ℕ
  pub first_is : IsFirstList I marks first
  pub brought : IsBroughtToSum I p q marks first given
  pub better : objective I p q x ≤ℤ objective I p q given

-- the list that the first k assets of an order give: what each of them gets at first, brought to the sum L
pub record IsGiven (I : InstanceValue) (p q : ℕ) (by : By) (k : ℕ) (x : List ℕ) : Type 0 where
  pub order : List ℕ
  pub gives : GivesList I p q by k order
  pub marks : List ℕ
  pub marks_are : AreMarks I.market.assets order k marks
  pub first : List ℕ
  pub first_is : IsFirstList I marks first
  pub brought : IsBroughtToSum I p q marks first x

-- the place of an order among the three: by key, by least, by greatest
abbrev pub turn_of : By → ℕ
turn_of Key = 0
turn_of Least = 1
turn_of Greatest = 2

-- x comes from the list that an order gives with k assets, and has no greater objective
pub record IsStartBy (I : InstanceValue) (p q : ℕ) (by : By) (k : ℕ) (x : List ℕ) : Type 0 where
  pub start : IsStart I p q x
  pub given : List ℕ
  pub given_is : IsGiven I p q by k given
  pub better : objective I p q x ≤ℤ objective I p q given

-- no order whose turn is before n gives a list with k assets
abbrev pub NoneGivesBefore : InstanceValue → ℕ → ℕ → ℕ → ℕ → Type 0
NoneGivesBefore I p q n k = (by : By) (order : List ℕ) → turn_of by < n → GivesList I p q by k order → ⊥

-- x is the start with k assets: from the first order that gives a list with as many
pub record IsStartWith (I : InstanceValue) (p q k : ℕ) (x : List ℕ) : Type 0 where
  pub by : By
  pub from : IsStartBy I p q by k x
  pub first : NoneGivesBefore I p q (turn_of by) k

-- x is the first start: with the least number of assets in K1..K2 with which an order gives a list
pub record IsFirstStart (I : InstanceValue) (p q : ℕ) (x : List ℕ) : Type 0 where
  pub count : ℕ
  pub fewest : I.held ≤ count
  pub from : IsStartWith I p q count x
  pub fewer : (k : ℕ) → I.held ≤ k → k < count → NoneGivesBefore I p q 3 k
