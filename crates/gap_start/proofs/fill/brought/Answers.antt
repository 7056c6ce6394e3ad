use Rattle.std.proofs.Common.{◌≡◌, ◌∙◌, ℕ, nat_lt, pos, ap, subst}
use Rattle.gap_instance.specs.Limits.{sum_of}
use Rattle.gap_start.proofs.FillLaws.{way_of}
use Rattle.gap_start.proofs.fill.brought.Goals as goal

pub returns-clause-brought : goal.returns-clause-brought
returns-clause-brought c =
    let I = c.args.inst.now in
    let x = c.args.first.now in
    let brought = rw c.new-holding.ensures at c.bring.ensures.brought in
    let sum : pos c.total_of-total.result ≡ sum_of I.market.assets x = subst (λ (n : ℕ). pos c.total_of-total.result ≡ sum_of n x) c.requires.first.count c.total_of-total.ensures.value in
    let lots : c.from-lots.result ≡ I.lots = c.from-lots.ensures ∙ c.lots.ensures.value in
    record {
      up = nat_lt c.total_of-total.result c.from-lots.result;
      missing = c.abs_diff.result;
      way = way_of c.total_of-total.result c.from-lots.result c.abs_diff.result (sum_of I.market.assets x) sum c.abs_diff.ensures ∙ ap pos lots;
      brought = brought;
    }
