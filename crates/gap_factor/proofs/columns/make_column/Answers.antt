use Rattle.std.proofs.Common.{◌≡◌, false, true, sym, ◌∙◌, arith}
use Rattle.gap_instance.specs.Objective.{cov_of}
use Rattle.gap_factor.proofs.ColumnLaws.{rounded_taken, rounded_cleared, beside_trans}
use Rattle.gap_factor.proofs.columns.make_column.Goals as goal

pub returns-then-not-try_column-clause-rounded : goal.returns-then-not-try_column-clause-rounded
returns-then-not-try_column-clause-rounded c =
    let none : false ≡ c.try_column.result = cc in
    let e = c.try_column.ensures.kept.assets in
    rounded_cleared (cov_of c.args.inst.now.market) c.args.shift.now c.clear_column.new.shift c.args.j c.requires.column (beside_trans c.args.shift.now c.try_column.new.shift c.clear_column.new.shift c.args.j c.try_column.ensures.kept c.clear_column.ensures.kept) (none ∙ c.try_column.ensures.taken) (λ a l. c.clear_column.ensures.cleared a (omega arith))

pub returns-else-not-try_column-clause-rounded : goal.returns-else-not-try_column-clause-rounded
returns-else-not-try_column-clause-rounded c =
    let taken : true ≡ c.try_column.result = cc in
    rounded_taken (cov_of c.args.inst.now.market) c.args.shift.now c.try_column.new.shift c.args.j c.requires.column c.try_column.ensures.kept (taken ∙ c.try_column.ensures.taken) (c.try_column.ensures.filled (sym taken))
