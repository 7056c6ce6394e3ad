use Rattle.std.proofs.Common.{◌∙◌}
use Rattle.gap_relax.specs.Rows.{difference_at, slope_at}
use Rattle.gap_relax.proofs.LeastLaws.{least_none}
use Rattle.gap_relax.proofs.row.LeastRow.new.Goals as goal

pub returns-clause-least : goal.returns-clause-least
returns-clause-least c = λ w f m. record {
  fewest_are = c.from.ensures ∙ f;
  most_are = c.from-2.ensures ∙ m;
  least = least_none w c.from-2.result (difference_at c.no_extras.result) (slope_at c.no_extras.result);
}
