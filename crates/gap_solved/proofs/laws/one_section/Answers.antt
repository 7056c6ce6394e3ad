use Rattle.std.proofs.lemmas.Option.{slice_get_within}
use Rattle.gap_tree.proofs.GrownLaws.{has_tree}
use Rattle.gap_solved.proofs.SectionLaws.{section_of, one_section}
use Rattle.gap_solved.proofs.laws.one_section.Goals as goal

pub returns-clause-exists : goal.returns-clause-exists
returns-clause-exists c = λ n solved h. section_of n solved (has_tree solved.nodes h 0 (slice_get_within solved.nodes 0 h.root.0 h.root.1))

pub returns-clause-unique : goal.returns-clause-unique
returns-clause-unique c = λ n solved s t h k. one_section n solved s t h k
