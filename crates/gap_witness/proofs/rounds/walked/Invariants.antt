use Rattle.std.proofs.Common.{◌≡◌, ◌-◌, ◌*◌, length}
use Rattle.gap_witness.specs.Points.{next, rounds}
use Rattle.gap_witness.specs.Frames.{setting_in, choice_in}
use Rattle.gap_witness.proofs.rounds.walked.Given as goal

abbrev pub invariant-loop-turn : goal.invariant-loop-turn
invariant-loop-turn l = record {
  setting_is : l.point.setting ≡ setting_in l.frame;
  left : rounds (8 * length l.frame.part.now - l.turn) (next (setting_in l.frame) (choice_in l.frame)) l.point.eighths ≡ rounds (8 * length l.frame.part.now) (next (setting_in l.frame) (choice_in l.frame)) l.fn.first.eighths;
}
