use Rattle.gap_model.proofs.LeafLaws.{multipliers_are, multipliers_from, entries_are, entries_from_facts}
use Rattle.gap_model.proofs.laws.ranges_are_decided.Goals as goal

pub returns-clause-multipliers : goal.returns-clause-multipliers
returns-clause-multipliers c = λ turnover alpha tau. (multipliers_are turnover alpha tau, multipliers_from turnover alpha tau)

pub returns-clause-entries : goal.returns-clause-entries
returns-clause-entries c = λ n y. (entries_are n y, entries_from_facts n y)
