-- The market and the loads are those with one more asset.
use Rattle.std.proofs.Common.{◌≡◌, ℕ, List, slice_set, ap, sym, subst, ◌∙◌, ℤ, w32, FitsSigned, arith}
use Rattle.std.proofs.lemmas.Int.{to_z-of_z}
use Rattle.gap_base.specs.Markets.{MarketValue, with_mean, with_deviation}
use Rattle.gap_gen.specs.Draws.{AreTied}
use Rattle.gap_gen.proofs.DrawLaws.{drawn_step}
use Rattle.gap_gen.proofs.demo.add_asset.Goals as goal

tied_at : (m : MarketValue) (loads now : List ℕ) (p i load : ℕ) → now ≡ slice_set loads p load → p ≡ i → AreTied m now i i → AreTied m (slice_set loads i load) i i
tied_at m loads now p i load q e h = subst (λ (k : ℕ). AreTied m (slice_set loads k load) i i) e (subst (λ (l : List ℕ). AreTied m l i i) q h)

pub returns : goal.returns
returns c = λ g n was asset.
    let s = c.args.asset.mean_size in
    let fm : FitsSigned w32 c.args.asset.mean = record { sfits = omega arith } in
    let e : c.set_dev.new.self ≡ with_deviation (with_mean c.args.market.now c.args.i c.args.asset.mean) c.args.i c.args.asset.deviation =
    c.set_dev.ensures
    ∙ ap (λ (m : MarketValue). with_deviation m c.args.i c.args.asset.deviation) (c.set_mean.ensures ∙ ap (λ (z : ℤ). with_mean c.args.market.now c.args.i z) (to_z-of_z w32 c.args.asset.mean fm)) in
    rw c.from.ensures
    (drawn_step g n c.args.i c.args.market.now c.tie.new.market c.args.loads.now.items c.args.asset.load c.args.asset.mean c.args.asset.deviation
    c.n-assets.ensures.market c.requires.asset_in c.args.asset.load_most (rw (sym e) c.tie.ensures.kept)
    (tied_at c.tie.new.market c.args.loads.now.items c.deref.result.now c.from.result c.args.i c.args.asset.load c.deref.ensures.value c.from.ensures c.tie.ensures.tied) was asset)
