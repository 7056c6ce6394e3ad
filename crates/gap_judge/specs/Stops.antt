-- What an answer of the judge means, and what the judge keeps. Own to portgap.

use Rattle.std.specs.Prelude.{◌≡◌, ℕ, ◌<◌, List, [], map, drop, length, Option, Some, None}
use Rattle.gap_base.specs.declared.job.Job.{Job}
use Rattle.gap_base.specs.declared.weight.Weight.{Weight}
use Rattle.gap_box.specs.declared.cell.Cell.{Cell}
use Rattle.gap_instance.specs.Instances.{InstanceValue}
use Rattle.gap_instance.specs.Objective.{cov_of}
use Rattle.gap_psd.specs.Shifts.{ShiftValue, IsDominantShift}
use Rattle.gap_model.specs.declared.shown.Shown.{Shown}
use Rattle.gap_cert.specs.declared.field.Field.{Field}
use Rattle.gap_cert.specs.declared.field.Field.TheVariants as field
use Rattle.gap_cert.specs.Certificates.{CertHead, CertLeaf}
use Rattle.gap_valid.specs.Heads.{instance_in, shift_in, root_in, IsHead}
use Rattle.gap_valid.specs.Valid.{IsWeight}
use Rattle.gap_judge.specs.declared.basis.Basis.{Basis}
use Rattle.gap_judge.specs.declared.stop.CertStop.{CertStop}
use Rattle.gap_judge.specs.declared.stop.CertStop.TheVariants.{Fault, OutOfMemory}
use Rattle.gap_judge.specs.Progress.{Progress, with_shown}
use Rattle.gap_judge.specs.Faults.{IsItemFault, IsShiftFault, IsLeafFault, IsEndFault, IsDominantHead}

-- an item is at fault, or memory was refused
abbrev pub IsStop : Progress → Field → (place behind : ℕ) → CertStop → Type 0
IsStop p item place behind (Fault f) = IsItemFault p item place behind f
IsStop p item place behind OutOfMemory = Unit {0}

-- the instance and the shift of a whole head, which is dominant
pub record IsBasisOf (h : CertHead) (I : InstanceValue) (s : ShiftValue) (root : List Cell) : Type 0 where
  pub head_is : IsHead h
  pub instance_is : I ≡ instance_in h
  pub shift_is : s ≡ shift_in h
  pub root_is : root ≡ root_in h
  pub dominant : IsDominantHead h

-- the instance and the shift are there exactly where the head is whole
abbrev pub IsBased : CertHead → Option Basis → Type 0
IsBased h None = length h.diagonal < h.n
IsBased h (Some basis) = IsBasisOf h basis.instance basis.shift basis.root

-- the shift of a head isn't dominant, or memory was refused
abbrev pub IsShiftStop : CertHead → ℕ → CertStop → Type 0
IsShiftStop h behind (Fault f) = IsShiftFault h behind f
IsShiftStop h behind OutOfMemory = Unit {0}

-- a job has the limits of a head
pub record IsJobOf (h : CertHead) (job : Job) : Type 0 where
  pub lots_are : job.lots ≡ h.lots
  pub held_is : job.held ≡ h.held
  pub held_most_is : job.held_most ≡ h.held_most
  pub least_is : job.least ≡ map (λ a. a.least) h.assets
  pub greatest_is : job.greatest ≡ map (λ a. a.greatest) h.assets
  pub present_is : job.present ≡ map (λ a. a.present) h.assets
  pub turnover_is : job.turnover ≡ h.turnover

-- what a bound needs of an instance, a shift and a weight
pub record IsSound (I : InstanceValue) (s : ShiftValue) (w : Weight) : Type 0 where
  pub same : I.market.assets ≡ s.assets
  pub dominant : IsDominantShift (cov_of I.market) s
  pub weight_is : IsWeight w

-- the section whose tree is whole is at fault, or memory was refused
abbrev pub IsEndStop : Progress → ℕ → CertStop → Type 0
IsEndStop p behind (Fault f) = IsEndFault p behind f
IsEndStop p behind OutOfMemory = Unit {0}

-- the same, of a leaf that shows so much
abbrev pub IsLastStop : Progress → Shown → ℕ → CertStop → Type 0
IsLastStop p shown behind (Fault f) = (drop 1 p.parts ≡ []) × IsEndFault (with_shown p shown) behind f
IsLastStop p shown behind OutOfMemory = Unit {0}

-- a leaf is at fault, or memory was refused
abbrev pub IsLeafStop : Progress → CertLeaf → (place behind : ℕ) → CertStop → Type 0
IsLeafStop p leaf place behind (Fault f) = IsLeafFault p leaf place behind f
IsLeafStop p leaf place behind OutOfMemory = Unit {0}

-- the lots of a portfolio, where one came
abbrev pub lots_or_none : Option (List ℕ) → List ℕ
lots_or_none None = []
lots_or_none (Some x) = x

-- the parts to come of a walk, where one was begun
abbrev pub parts_or_none : Option (List (List Cell)) → List (List Cell)
parts_or_none None = []
parts_or_none (Some parts) = parts

-- an item that isn't one of the head
abbrev pub IsBehindHead : Field → Type 0
IsBehindHead (field.Head n lots held held_most turnover nodes) = ⊥
IsBehindHead (field.Asset mean dev least greatest present) = ⊥
IsBehindHead (field.Correlation rho) = ⊥
IsBehindHead (field.FactorEntry r) = ⊥
IsBehindHead (field.ShiftEntry d) = ⊥
IsBehindHead _ = Unit {0}

-- a node of a tree, or the number of sections
abbrev pub IsNode : Field → Type 0
IsNode (field.Sections number) = Unit {0}
IsNode field.CountLeaf = Unit {0}
IsNode (field.VoidLeaf alpha tau) = Unit {0}
IsNode (field.TangentLeaf w) = Unit {0}
IsNode (field.Split split) = Unit {0}
IsNode _ = ⊥
