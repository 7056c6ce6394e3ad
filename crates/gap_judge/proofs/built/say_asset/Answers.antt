use Rattle.std.proofs.Common.{◌≡◌, ◌≤◌, ℕ, ℤ, ap, ◌∙◌, sym, w32, FitsSigned, unsigned_abs, arith}
use Rattle.std.proofs.lemmas.Int.{to_z-of_z}
use Rattle.gap_base.specs.Markets.{MarketValue, with_mean, with_deviation, mean_of, deviation_of}
use Rattle.gap_valid.proofs.Saying.{said_asset}
use Rattle.gap_valid.specs.Heads.{market_in}
use Rattle.gap_judge.specs.Lines.{asset_line}
use Rattle.gap_judge.proofs.BuiltLaws.{mean_at, deviation_at, line_is}
use Rattle.gap_judge.proofs.built.say_asset.Goals as goal

pub say_pairs-requires-clause-before : goal.say_pairs-requires-clause-before
unfolding market_in
say_pairs-requires-clause-before c =
    let m = market_in c.args.head.now in
    let i = c.args.i in
    let line = asset_line c.line-line.result in
    let is = line_is c.args.head.now i line c.requires.head_is c.line-line.ensures in
    let a = mean_at c.args.head.now i line c.line-line.ensures in
    let d = deviation_at c.args.head.now i line c.line-line.ensures in
    let small = is.mean_most in
    let fits : FitsSigned w32 c.line-line.result.mean = record { sfits = omega arith } in
    let mean : c.set_mean.new.self ≡ with_mean c.args.market.now i (mean_of m i) =
    c.set_mean.ensures ∙ ap (λ (z : ℤ). with_mean c.args.market.now i z) (to_z-of_z w32 c.line-line.result.mean fits ∙ sym a) in
    let both : c.set_dev.new.self ≡ with_deviation (with_mean c.args.market.now i (mean_of m i)) i (deviation_of m i) =
    c.set_dev.ensures ∙ ap (λ (k : MarketValue). with_deviation k i c.line-line.result.dev) mean ∙ ap (λ (v : ℕ). with_deviation (with_mean c.args.market.now i (mean_of m i)) i v) (sym d) in
    let mean_size : unsigned_abs (mean_of m i) ≤ 1000000 = rw a is.mean_most in
    let deviation_size : deviation_of m i ≤ 1000000 = rw d is.dev_most in
    rw both (said_asset m c.args.market.now i mean_size deviation_size c.requires.asset_in c.requires.before)
