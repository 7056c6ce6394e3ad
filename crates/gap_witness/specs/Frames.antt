-- What the rounds of a tangent point work on, as the setting and the choice of its definition. Own to portgap.
use Rattle.std.specs.Prelude.{◌≡◌, ◌≢◌, ℕ, ◌<◌, ◌≤◌, List, length, slice_index_or, ℤ, pos, ◌+◌, ◌*◌, ◌*ℤ◌, unsigned_abs}
use Rattle.gap_base.specs.Sums.{at}
use Rattle.gap_model.specs.Settings.{Setting}
use Rattle.gap_tangent.specs.Seen.{setting_of}
use Rattle.gap_witness.specs.declared.frame.Frame.{Frame}
use Rattle.gap_witness.specs.declared.moving.Move.{Move}
use Rattle.gap_witness.specs.declared.ranges.Ranges.{Ranges}
use Rattle.gap_witness.specs.Points.{Choice, lower_end, upper_end, shifted_by}

abbrev pub setting_in : Frame → Setting
setting_in f = setting_of f.mv.now

abbrev pub choice_in : Frame → Choice
choice_in f =
    record {
      cells = f.part.now;
      fewest = (setting_of f.mv.now).instance.held;
      most = (setting_of f.mv.now).instance.held_most;
    }

-- what the range of an asset takes off its gradient: p D_i times the sum of its ends
abbrev pub level : Setting → Choice → ℕ → ℤ
level s c i = pos (s.p * (lower_end c i + upper_end c i)) *ℤ at s.shift i

-- a point after a move
abbrev pub moved_by : List ℕ → Move → List ℕ
moved_by y m = shifted_by y m.eighths m.from m.to

-- a move between two of n assets, of no more than the one has
pub record CanMove (n : ℕ) (y : List ℕ) (m : Move) : Type 0 where
  pub giver : m.from < n
  pub taker : m.to < n
  pub apart : m.from ≢ m.to
  pub enough : m.eighths ≤ slice_index_or y m.from 0

-- rows have the ends of all ranges, and what these take off the gradients
pub record AreRanges (f : Frame) (r : Ranges) : Type 0 where
  pub lowers_are : (k : ℕ) → k < length f.part.now → slice_index_or r.lowers k 0 ≡ lower_end (choice_in f) k
  pub uppers_are : (k : ℕ) → k < length f.part.now → slice_index_or r.uppers k 0 ≡ upper_end (choice_in f) k
  pub levels_are : (k : ℕ) → k < length f.part.now → at r.levels k ≡ level (setting_in f) (choice_in f) k
  pub levels_small : (k : ℕ) → k < length f.part.now → unsigned_abs (at r.levels k) ≤ 16000000000000000000000000000
