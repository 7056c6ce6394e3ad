use Rattle.std.proofs.Common.{◌≡◌, ℕ, ◌++◌, subst, arith}
use Rattle.gap_base.specs.Markets.{rho_of}
use Rattle.gap_valid.specs.HeadOf.{pairs_below}
use Rattle.gap_writer.specs.HeadBytes.{numbers_bytes}
use Rattle.gap_writer.proofs.Headed.{pairs_none, pairs_on}
use Rattle.gap_writer.proofs.heads.put_correlations.Goals as goal

pub loop-i-init : goal.loop-i-init
loop-i-init c = pairs_none c.args.inst.now.market.assets (rho_of c.args.inst.now.market) c.args.out.now.items

pub loop-i-preserved : goal.loop-i-preserved
loop-i-preserved c = pairs_on c.args.inst.now.market.assets (rho_of c.args.inst.now.market) c.loop-i.i c.args.out.now.items c.loop-i.out.items c.put_pairs.new.out.items c.loop-i.invariant c.in_ok-put_pairs.ensures

pub returns : goal.returns
returns c =
    let e : c.loop-i.i ≡ c.args.inst.now.market.assets = omega arith in
    subst (λ (k : ℕ). c.loop-i.out.items ≡ c.args.out.now.items ++ numbers_bytes 4 (pairs_below c.args.inst.now.market.assets (rho_of c.args.inst.now.market) k)) e c.loop-i.invariant
