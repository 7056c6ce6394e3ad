-- The lists are the same exactly where they are behind the numbers that were compared.
use Rattle.std.proofs.Common.{◌≡◌, drop, length}
use Rattle.gap_cert.specs.Fields.{same_numbers}
use Rattle.gap_cert.proofs.repeats.is_same_list.Given as goal

abbrev pub invariant-loop-i : goal.invariant-loop-i
invariant-loop-i l = (same_numbers l.x l.y ≡ same_numbers (drop l.i l.x) (drop l.i l.y)) × (length l.x ≡ length l.y)
