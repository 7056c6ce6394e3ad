use Rattle.std.proofs.Common.{◌≡◌, slice_index_or}
use Rattle.gap_base.specs.Lots.{lots_at}
use Rattle.gap_box.specs.declared.cell.Cell.TheVariants.{Out}
use Rattle.gap_box.specs.Cells.{is_free}
use Rattle.gap_witness.specs.Places.{first_greatest}
use Rattle.gap_witness.proofs.splitting.fullest_free.Given as goal

abbrev pub invariant-loop-i : goal.invariant-loop-i
invariant-loop-i l = l.found ≡ first_greatest l.i (λ k. is_free (slice_index_or l.part k Out)) (lots_at l.y)
