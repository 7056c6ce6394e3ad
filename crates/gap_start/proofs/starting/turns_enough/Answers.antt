use Rattle.std.proofs.Common.{◌≡◌, pos, subst, ℕ, ◌+◌, ◌-◌}
use Rattle.gap_instance.specs.Limits.{sum_of, turnover_of}
use Rattle.gap_start.proofs.StartLaws.{turned}
use Rattle.gap_start.proofs.starting.turns_enough.Goals as goal

pub returns-in-Some : goal.returns-in-Some
returns-in-Some c =
    let I = c.args.inst.now in
    let x = c.args.first.now in
    let sum : pos c.total_of.result ≡ sum_of I.market.assets x = subst (λ (n : ℕ). pos c.total_of.result ≡ sum_of n x) c.requires c.total_of.ensures.value in
    let apart : c.abs_diff.result ≡ (c.total_of.result - I.lots) + (I.lots - c.total_of.result) = rw (c.from.ensures, c.lots.ensures.value) at c.abs_diff.ensures in
    turned I.turnover (turnover_of I.market.assets I.present x) (sum_of I.market.assets x) c.in-Some.most c.turnover_to.result c.total_of.result I.lots c.abs_diff.result c.in-Some.ensures.value c.turnover_to.ensures.value sum apart
