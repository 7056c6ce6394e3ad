use Rattle.std.proofs.Common.{◌≡◌, ℕ, ◌++◌, map, subst, arith}
use Rattle.std.specs.List.{range_with_len}
use Rattle.gap_valid.specs.HeadOf.{asset_line}
use Rattle.gap_writer.specs.HeadBytes.{lines_bytes}
use Rattle.gap_writer.proofs.Headed.{no_lines, lines_on}
use Rattle.gap_writer.proofs.heads.put_lines.Goals as goal

pub loop-i-init : goal.loop-i-init
loop-i-init c = no_lines c.args.out.now.items

pub loop-i-preserved : goal.loop-i-preserved
loop-i-preserved c = lines_on c.args.inst.now c.args.out.now.items c.loop-i.out.items c.put_line.new.out.items c.loop-i.i c.loop-i.invariant c.in_ok-put_line.ensures

pub returns : goal.returns
returns c =
    let e : c.loop-i.i ≡ c.args.inst.now.market.assets = omega arith in
    subst (λ (k : ℕ). c.loop-i.out.items ≡ c.args.out.now.items ++ lines_bytes (map (asset_line c.args.inst.now) (range_with_len 0 k))) e c.loop-i.invariant
