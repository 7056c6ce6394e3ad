use Rattle.std.proofs.Common.{◌≡◌, ℕ, ◌++◌, subst, arith}
use Rattle.gap_psd.specs.Shifts.{r_of}
use Rattle.gap_valid.specs.HeadOf.{rows_below}
use Rattle.gap_writer.specs.HeadBytes.{numbers_bytes}
use Rattle.gap_writer.proofs.Headed.{rows_none, rows_on}
use Rattle.gap_writer.proofs.heads.put_rows.Goals as goal

pub loop-i-init : goal.loop-i-init
loop-i-init c = rows_none (r_of c.args.shift.now) c.args.out.now.items

pub loop-i-preserved : goal.loop-i-preserved
loop-i-preserved c = rows_on (r_of c.args.shift.now) c.loop-i.i c.args.out.now.items c.loop-i.out.items c.put_row.new.out.items c.loop-i.invariant c.in_ok-put_row.ensures

pub returns : goal.returns
returns c =
    let e : c.loop-i.i ≡ c.args.shift.now.assets = omega arith in
    subst (λ (k : ℕ). c.loop-i.out.items ≡ c.args.out.now.items ++ numbers_bytes 8 (rows_below (r_of c.args.shift.now) k)) e c.loop-i.invariant
