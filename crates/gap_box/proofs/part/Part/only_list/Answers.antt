use Rattle.std.proofs.Common.{◌≡◌, None, slice_index_or, sym, ◌∙◌, arith}
use Rattle.gap_box.specs.declared.cell.Cell.TheVariants.{Out}
use Rattle.gap_box.specs.Only.{only_number}
use Rattle.gap_box.proofs.SingleLaws.{only_all, only_gap}
use Rattle.gap_box.proofs.part.Part.only_list.Goals as goal

pub returns-in_err-only_lots : goal.returns-in_err-only_lots
returns-in_err-only_lots c =
    let w : c.only_lots.result ≡ None = c.in_err-only_lots.was in
    let e : only_number c.args.free_held (slice_index_or c.args.self.now c.loop-i.i Out) ≡ None = rw (← c.cell.ensures.or_out) (sym c.only_lots.ensures ∙ w) in
    c.from_residual.ensures ∙ sym (only_gap c.args.free_held c.args.self.now c.loop-i.i (omega arith) e)

pub returns : goal.returns
returns c = sym (only_all c.args.free_held c.args.self.now c.loop-i.x c.loop-i.invariant.same_length (λ k p. c.loop-i.invariant.done k (omega arith)))
