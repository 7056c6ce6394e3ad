use Rattle.gap_writer.proofs.Headed.{assembled}
use Rattle.gap_writer.proofs.heads.put_head.Goals as goal

pub returns : goal.returns
returns c = λ last.
    assembled c.args.inst.now c.args.shift.now c.args.nodes c.args.sections c.n.result c.lots.result c.held.result c.held_most.result c.turnover.result c.requires
    c.n.ensures.value c.lots.ensures.value c.held.ensures.value c.held_most.ensures.value c.turnover.ensures.value
    c.args.out.now.items c.put_field.new.out.items c.put_lines.new.out.items c.put_correlations.new.out.items c.put_rows.new.out.items c.put_diagonal.new.out.items c.put_u8.new.out.items
    c.in_ok-put_field.ensures c.in_ok-put_lines.ensures c.in_ok-put_correlations.ensures c.in_ok-put_rows.ensures c.in_ok-put_diagonal.ensures c.in_ok-put_u8.ensures last
