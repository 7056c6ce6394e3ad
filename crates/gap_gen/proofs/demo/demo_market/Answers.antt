-- Nothing is drawn before the loop, and each turn draws one asset.
use Rattle.std.proofs.Common.{rules, ◌≡◌, replicate, ◌∙◌}
use Rattle.gap_gen.specs.Demo.{generator_of}
use Rattle.gap_gen.proofs.DrawLaws.{drawn_start, start_here}
use Rattle.gap_gen.proofs.demo.demo_market.Goals as goal

pub loop-i-init : goal.loop-i-init
loop-i-init c =
    let loads : c.in_ok-loads.loads.items ≡ replicate c.from.result 0 = search rules in
    (drawn_start (generator_of c.args.number) c.args.n c.in_ok-market.market c.in_ok-loads.loads.items c.from.result c.in_ok-market.ensures loads c.from.ensures, c.seed_from_u64-words.ensures ∙ start_here (generator_of c.args.number))

pub loop-i-preserved : goal.loop-i-preserved
loop-i-preserved c = (
  c.add_asset.ensures (generator_of c.args.number) c.args.n c.loop-i.invariant.0 (c.next_asset-asset.ensures.asset (generator_of c.args.number) c.loop-i.i c.loop-i.invariant.1),
  c.next_asset-asset.ensures.after (generator_of c.args.number) c.loop-i.i c.loop-i.invariant.1,
)
