-- What the lists of a job say, in the words of their entries: which entry is the first at fault, and for each asset what
-- the entry that names it says. Own to portgap.
use Rattle.std.specs.Prelude.{◌≡◌, ◌⊎◌, ℕ, ◌+◌, ◌<◌, ◌≤◌, ◌&&◌, ◌==◌, not, Bool, nat_le, Option, Some, None, Result, Ok, Err, if◌then◌else◌, List, [], ◌∷◌, length, take, map, slice_index_or}
use Rattle.std.specs.Option.{is_some}
use Rattle.serde_json.specs.Data.{Data, null, Items}
use Rattle.serde_json.specs.Find.{as_array}
use Rattle.gap_base.specs.declared.weight.Weight.{Weight}
use Rattle.gap_job.specs.declared.fault.Key.TheVariants as key
use Rattle.gap_job.specs.declared.fault.JobFault.{JobFault}
use Rattle.gap_job.specs.declared.fault.JobFault.TheVariants.{Kind, Range, Asset}
use Rattle.gap_job.specs.declared.entry.Two.{Two}
use Rattle.gap_job.specs.declared.entry.Three.{Three}
use Rattle.gap_job.specs.declared.limits.Limits.{Limits}
use Rattle.gap_job.specs.declared.present.Present.{Present}
use Rattle.gap_job.specs.Numbers.{list_of}
use Rattle.gap_job.specs.Entries.{two_of, three_of}

-- an entry of a list, by its place; null beyond the end
abbrev pub entry_at : List Data → ℕ → Data
entry_at ds k = slice_index_or ds k null

-- what is wrong with an entry behind others, if something is
abbrev pub Wrong : Type 0
Wrong = List Data → Data → Option JobFault

-- each entry is without fault behind those before it
abbrev pub AreSound : Wrong → List Data → Type 0
AreSound wrong ds = (k : ℕ) → k < length ds → wrong (take k ds) (entry_at ds k) ≡ None

-- the first entry that is at fault has this fault
pub record IsFirstFault (wrong : Wrong) (ds : List Data) (f : JobFault) : Type 0 where
  pub place : ℕ
  pub there : place < length ds
  pub sound : (k : ℕ) → k < place → wrong (take k ds) (entry_at ds k) ≡ None
  pub fault : wrong (take place ds) (entry_at ds place) ≡ Some f

-- the first of a list of entries that names an asset, by its number from 1
abbrev pub chosen : {T : Type 0} → (T → ℕ) → ℕ → Option T → Option T → Option T
chosen asset a None later = later
chosen asset a (Some e) later = if asset e == a then Some e else later

abbrev pub entry_for : {T : Type 0} → (Data → Option T) → (T → ℕ) → ℕ → List Data → Option T
entry_for parse asset a [] = None
entry_for parse asset a (d ∷ ds) = chosen asset a (parse d) (entry_for parse asset a ds)

abbrev pub limits_for : ℕ → List Data → Option Three
limits_for a ds = entry_for three_of (λ e. e.first) a ds

abbrev pub present_for : ℕ → List Data → Option Two
present_for a ds = entry_for two_of (λ e. e.first) a ds

-- what an entry says, or a number to take where there is none
abbrev pub said : {T : Type 0} → (T → ℕ) → ℕ → Option T → ℕ
said number absent None = absent
said number absent (Some e) = number e

-- a number from low to high
abbrev pub is_within : ℕ → ℕ → ℕ → Bool
is_within low high v = nat_le low v && nat_le v high

-- what is wrong with an entry of `limits` for n assets, if something is: it isn't three whole numbers; it names no asset,
-- or one that is named already; a limit is out of 1..lots
unfoldable pub limits_fault : ℕ → ℕ → Bool → Option Three → Option JobFault
limits_fault n lots taken None = Some (Kind key.Limits)
limits_fault n lots taken (Some e) =
    if not (is_within 1 n e.first && not taken) then Some (Asset key.Limits)
    else (if is_within 1 lots e.second && is_within 1 lots e.third then None else Some (Range key.Limits))

abbrev pub asset_of : {T : Type 0} → (T → ℕ) → Option T → ℕ
asset_of asset None = 0
asset_of asset (Some e) = asset e

abbrev pub limits_wrong : ℕ → ℕ → Wrong
limits_wrong n lots before d =
    limits_fault n lots (is_some (limits_for (asset_of (λ e. e.first) (three_of d)) before)) (three_of d)

-- what is wrong with an entry of `present` for n assets, if something is: it isn't two whole numbers; it names no asset,
-- or one that is named already; its lots are above 10000
unfoldable pub present_fault : ℕ → Bool → Option Two → Option JobFault
present_fault n taken None = Some (Kind key.Present)
present_fault n taken (Some e) =
    if not (is_within 1 n e.first && not taken) then Some (Asset key.Present)
    else (if nat_le e.second 10000 then None else Some (Range key.Present))

abbrev pub present_wrong : ℕ → Wrong
present_wrong n before d =
    present_fault n (is_some (present_for (asset_of (λ e. e.first) (two_of d)) before)) (two_of d)

-- what is wrong with an entry of `weights`, if something is: it isn't two whole numbers; the second isn't in 1..100 or
-- the first is above it
unfoldable pub weight_fault : Option Two → Option JobFault
weight_fault None = Some (Kind key.Weights)
weight_fault (Some e) = if is_within 1 100 e.second && nat_le e.first e.second then None else Some (Range key.Weights)

abbrev pub weight_wrong : Wrong
weight_wrong before d = weight_fault (two_of d)

-- the limits of each of n assets are those of the entry that names it, or else those for all
pub record AreLimits (n least greatest : ℕ) (ds : List Data) (lows highs : List ℕ) : Type 0 where
  pub least_length : length lows ≡ n
  pub greatest_length : length highs ≡ n
  pub least_is : (i : ℕ) → i < n → slice_index_or lows i 0 ≡ said (λ e. e.second) least (limits_for (i + 1) ds)
  pub greatest_is : (i : ℕ) → i < n → slice_index_or highs i 0 ≡ said (λ e. e.third) greatest (limits_for (i + 1) ds)

-- the lots of each of n assets at present are those of the entry that names it, or else 0
pub record ArePresent (n : ℕ) (ds : List Data) (lots : List ℕ) : Type 0 where
  pub lots_length : length lots ≡ n
  pub lots_are : (i : ℕ) → i < n → slice_index_or lots i 0 ≡ said (λ e. e.second) 0 (present_for (i + 1) ds)

-- the weights are the entries, one for one
abbrev pub AreWeights : List Data → List Weight → Type 0
AreWeights ds ws = map two_of ds ≡ map (λ w. Some (record { first = w.p; second = w.q })) ws

-- the values of a list that may be absent, where it is one
abbrev pub listed : Option Items → Option (List Data)
listed None = None
listed (Some items) = Some (list_of items)

abbrev pub values_of : Option Data → Option (List Data)
values_of None = Some []
values_of (Some d) = listed (as_array d)

-- an answer for the value at `limits`: where each entry is sound, what they say; else the first fault
abbrev pub TellsLimits : ℕ → ℕ → ℕ → ℕ → Option (List Data) → Result Limits JobFault → Type 0
TellsLimits n lots least greatest None r = r ≡ Err (Kind key.Limits)
TellsLimits n lots least greatest (Some ds) (Ok s) =
    AreSound (limits_wrong n lots) ds × AreLimits n least greatest ds s.least s.greatest
TellsLimits n lots least greatest (Some ds) (Err f) = IsFirstFault (limits_wrong n lots) ds f

-- the same at `present`
abbrev pub TellsPresent : ℕ → Option (List Data) → Result Present JobFault → Type 0
TellsPresent n None r = r ≡ Err (Kind key.Present)
TellsPresent n (Some ds) (Ok s) = AreSound (present_wrong n) ds × ArePresent n ds s.lots
TellsPresent n (Some ds) (Err f) = IsFirstFault (present_wrong n) ds f

-- the same at `weights`, which has to stand and to have 1 to 101 entries
abbrev pub TellsWeights : Option (List Data) → Result (List Weight) JobFault → Type 0
TellsWeights None r = r ≡ Err (Kind key.Weights)
TellsWeights (Some ds) (Ok ws) = (1 ≤ length ds) × (length ds ≤ 101) × AreSound weight_wrong ds × AreWeights ds ws
TellsWeights (Some ds) (Err f) =
    ((1 ≤ length ds) × (length ds ≤ 101) × IsFirstFault weight_wrong ds f)
    ⊎ (((length ds ≡ 0) ⊎ (101 < length ds)) × (f ≡ Range key.Weights))
