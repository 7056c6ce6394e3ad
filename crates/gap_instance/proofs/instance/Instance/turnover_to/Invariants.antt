use Rattle.std.proofs.Common.{◌≡◌, ◌*◌, ◌≤◌, pos}
use Rattle.gap_instance.specs.Limits.{turnover_of}
use Rattle.gap_instance.proofs.instance.Instance.turnover_to.Given as goal

abbrev pub invariant-loop-place : goal.invariant-loop-place
invariant-loop-place l = record { sum_so_far : pos l.total ≡ turnover_of l.place l.self.present l.x; small : l.total ≤ l.place * 65535 }
