use Rattle.gap_top.proofs.CompleteLaws.{done_or_memory, refused_or_memory}
use Rattle.gap_top.proofs.laws.answers_are_complete.Goals as goal

pub returns-clause-done : goal.returns-clause-done
returns-clause-done c = done_or_memory

pub returns-clause-refused : goal.returns-clause-refused
returns-clause-refused c = refused_or_memory
