use Rattle.std.proofs.Common.{◌≡◌, ◌≤◌, ℤ, ap, ◌∙◌, sym, w32, FitsSigned, unsigned_abs, arith}
use Rattle.std.proofs.lemmas.Int.{to_z-of_z}
use Rattle.gap_base.specs.Markets.{with_rho, rho_of}
use Rattle.gap_valid.proofs.Saying.{said_pair}
use Rattle.gap_valid.specs.Heads.{market_in}
use Rattle.gap_judge.proofs.built.say_pairs.Goals as goal

pub loop-j-preserved : goal.loop-j-preserved
unfolding market_in
loop-j-preserved c =
    let m = market_in c.args.head.now in
    let s = c.rho_between.ensures.small in
    let fits : FitsSigned w32 c.rho_between.result = record { sfits = omega arith } in
    let e : c.set_rho.new.self ≡ with_rho c.loop-j.market c.args.i c.loop-j.j (rho_of m c.args.i c.loop-j.j) =
    c.set_rho.ensures.value ∙ ap (λ (z : ℤ). with_rho c.loop-j.market c.args.i c.loop-j.j z) (to_z-of_z w32 c.rho_between.result fits ∙ c.rho_between.ensures.value) in
    let size : unsigned_abs (rho_of m c.args.i c.loop-j.j) ≤ 1000000 = rw (sym c.rho_between.ensures.value) s in
    rw e (said_pair m c.loop-j.market c.args.i c.loop-j.j size c.requires.asset_in c.loop-j-test.true c.loop-j.invariant)
