use Rattle.std.proofs.Common.{◌≡◌, ◌≤◌, ℕ, ℤ, ap, ◌∙◌, sym, w32, FitsSigned, unsigned_abs, arith}
use Rattle.std.proofs.lemmas.Int.{to_z-of_z}
use Rattle.gap_base.specs.Markets.{MarketValue, with_mean, with_deviation, mean_of, deviation_of}
use Rattle.gap_valid.proofs.Saying.{said_asset}
use Rattle.gap_valid.proofs.said.say_asset.Goals as goal

pub say_pairs-requires-clause-before : goal.say_pairs-requires-clause-before
say_pairs-requires-clause-before c =
    let m = c.args.market.now in
    let s = c.mean.ensures.size in
    let fits : FitsSigned w32 c.mean.result = record { sfits = omega arith } in
    let mean : c.set_mean.new.self ≡ with_mean c.args.said.now c.args.i (mean_of m c.args.i) =
    c.set_mean.ensures ∙ ap (λ (z : ℤ). with_mean c.args.said.now c.args.i z) (to_z-of_z w32 c.mean.result fits ∙ c.mean.ensures.value) in
    let both : c.set_dev.new.self ≡ with_deviation (with_mean c.args.said.now c.args.i (mean_of m c.args.i)) c.args.i (deviation_of m c.args.i) =
    c.set_dev.ensures ∙ ap (λ (k : MarketValue). with_deviation k c.args.i c.dev.result) mean ∙ ap (λ (d : ℕ). with_deviation (with_mean c.args.said.now c.args.i (mean_of m c.args.i)) c.args.i d) c.dev.ensures.value in
    let mean_size : unsigned_abs (mean_of m c.args.i) ≤ 1000000 = rw (sym c.mean.ensures.value) s in
    let deviation_size : deviation_of m c.args.i ≤ 1000000 = rw (sym c.dev.ensures.value) c.dev.ensures.size in
    rw both (said_asset m c.args.said.now c.args.i mean_size deviation_size c.requires.asset_in c.requires.before)
