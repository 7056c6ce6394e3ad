use Rattle.std.proofs.Common.{ℕ, Bool, Option, slice_index_or, refl, sym, ap, ◌∙◌}
use Rattle.gap_base.specs.Lots.{lots_at}
use Rattle.gap_box.specs.declared.cell.Cell.TheVariants.{Out}
use Rattle.gap_box.specs.Cells.{is_free}
use Rattle.gap_witness.specs.Places.{later, first_greatest}
use Rattle.gap_witness.proofs.PlaceLaws.{found_some, one_more}
use Rattle.gap_witness.proofs.splitting.fullest_free.Goals as goal

pub loop-i-init : goal.loop-i-init
unfolding first_greatest
loop-i-init c = refl

pub fuller-found-requires-clause-before : goal.fuller-found-requires-clause-before
fuller-found-requires-clause-before c = λ k e.
    (found_some c.loop-i.i (λ k. is_free (slice_index_or c.args.part.now k Out)) (lots_at c.args.y.now) k (sym c.loop-i.invariant ∙ e)).below

pub loop-i-preserved : goal.loop-i-preserved
loop-i-preserved c =
    let i = c.loop-i.i in
    let p = λ (k : ℕ). is_free (slice_index_or c.args.part.now k Out) in
    let f = lots_at c.args.y.now in
    c.fuller-found.ensures
    ∙ ap (λ (b : Bool). later b f i c.loop-i.found) (c.may_be_held.ensures ∙ ap is_free c.cell.ensures.or_out)
    ∙ ap (λ (o : Option ℕ). later (p i) f i o) c.loop-i.invariant
    ∙ one_more i p f
