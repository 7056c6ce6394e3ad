use Rattle.std.proofs.Common.{ℕ, sym, slice_index_or, ◌∙◌}
use Rattle.gap_base.specs.Lots.{lots_at}
use Rattle.gap_box.specs.declared.cell.Cell.TheVariants.{Out}
use Rattle.gap_box.specs.Cells.{is_free}
use Rattle.std.proofs.Common.{length}
use Rattle.gap_witness.proofs.PlaceLaws.{found_none, found_some}
use Rattle.gap_witness.proofs.CutLaws.{settled_count, settled_none, not_settled, none_free, some_free}
use Rattle.gap_witness.proofs.splitting.unsettled.Goals as goal

pub returns-then-held_cells-most-clause-none : goal.returns-then-held_cells-most-clause-none
returns-then-held_cells-most-clause-none c = λ e. settled_count c.args.part.now c.args.most (sym c.held_cells.ensures.count ∙ c.if-held_cells-most.true)

pub returns-clause-some : goal.returns-clause-some
returns-clause-some c = λ i e.
    let part = c.args.part.now in
    let g = found_some (length part) (λ (k : ℕ). is_free (slice_index_or part k Out)) (lots_at c.args.y.now) i (sym c.fullest_free.ensures ∙ e) in
    (not_settled part c.args.most (λ q. c.if-held_cells-most.false (c.held_cells.ensures.count ∙ q)) (some_free part i g.allowed), g)

pub returns-clause-none : goal.returns-clause-none
returns-clause-none c = λ e.
    let part = c.args.part.now in
    settled_none part c.args.most (none_free part (found_none (length part) (λ (k : ℕ). is_free (slice_index_or part k Out)) (lots_at c.args.y.now) (sym c.fullest_free.ensures ∙ e)))
