use Rattle.std.proofs.Common.{◌≡◌, ap, ◌∙◌, sym, arith}
use Rattle.gap_judge.proofs.PairLaws.{row_there}
use Rattle.gap_judge.proofs.built.entry_of.Goals as goal

pub factor-requires : goal.factor-requires
factor-requires c =
    let h = c.args.head.now in
    omega (arith, c.row_place.ensures, row_there h.n c.args.i c.args.k c.requires.column c.requires.row, c.requires.head_is.factor_count)
