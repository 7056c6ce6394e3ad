use Rattle.std.proofs.Common.{w32, FitsSigned, arith}
use Rattle.gap_verify.specs.declared.field.Field.TheVariants.{Correlation}
use Rattle.gap_verify.specs.Sides.{said_of}
use Rattle.gap_verify.proofs.SaidSame.{signed_along}
use Rattle.gap_verify.proofs.sides.Sides.pair.Goals as goal

pub returns : goal.returns
unfolding said_of
returns c =
    let s = c.rho.ensures.small in
    let t = c.rho-2.ensures.size in
    let one : FitsSigned w32 c.rho.result = record { sfits = omega arith } in
    let other : FitsSigned w32 c.rho-2.result = record { sfits = omega arith } in
    signed_along (Correlation c.args.i c.args.j) c.rho.result _ c.rho-2.result _ c.compared.result c.compared.ensures one other c.rho.ensures.value c.rho-2.ensures.value
