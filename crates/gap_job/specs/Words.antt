-- A job in the words of its file: what stands at each key. Own to portgap.
use Rattle.std.specs.Prelude.{◌≡◌, ℕ, ◌≤◌, Option, Some, unwrap_or, option_and_then, List, [], codes}
use Rattle.serde_json.specs.Data.{Data}
use Rattle.serde_json.specs.Find.{get}
use Rattle.gap_base.specs.declared.job.Job.{Job}
use Rattle.gap_job.specs.Numbers.{number_of}
use Rattle.gap_job.specs.Held.{bounds_of}
use Rattle.gap_job.specs.Sayings.{AreSound, limits_wrong, present_wrong, weight_wrong, AreLimits, ArePresent, AreWeights, values_of}

-- the whole number at a key, if one stands there
abbrev pub number_said : List ℕ → Data → Option ℕ
number_said name d = option_and_then number_of (get name d)

-- the entries of the list at a key: none where the key is absent
abbrev pub entries_said : List ℕ → Data → List Data
entries_said name d = unwrap_or (values_of (get name d)) []

-- an object is this job of n assets: each number is the one at its key, or the one to take where the key is absent, and is
-- in its range; each list is sound, and says what its entries do
pub record SaysJob (n : ℕ) (d : Data) (job : Job) : Type 0 where
  pub lots_is : number_said (codes "lots") d ≡ Some job.lots
  pub lots_least : 1 ≤ job.lots
  pub lots_most : job.lots ≤ 10000
  pub held_is : option_and_then bounds_of (get (codes "held") d) ≡ Some (record { first = job.held; second = job.held_most })
  pub held_least : 1 ≤ job.held
  pub held_order : job.held ≤ job.held_most
  pub held_most : job.held_most ≤ n
  pub limits_sound : AreSound (limits_wrong n job.lots) (entries_said (codes "limits") d)
  pub limits_are : AreLimits n (unwrap_or (number_said (codes "least") d) 1)
      (unwrap_or (number_said (codes "greatest") d) job.lots)
      (entries_said (codes "limits") d) job.least job.greatest
  pub present_sound : AreSound (present_wrong n) (entries_said (codes "present") d)
  pub present_is : ArePresent n (entries_said (codes "present") d) job.present
  pub turnover_is : job.turnover ≡ number_said (codes "turnover") d
  pub weights_sound : AreSound weight_wrong (entries_said (codes "weights") d)
  pub weights_are : AreWeights (entries_said (codes "weights") d) job.weights
  pub nodes_are : job.nodes ≡ unwrap_or (number_said (codes "nodes") d) 1000
  pub workers_are : job.workers ≡ unwrap_or (number_said (codes "workers") d) 1
