use Rattle.gap_job.proofs.Sayings.{sound_or_fault, one_fault}
use Rattle.gap_job.proofs.LimitsSaid.{limits_told}
use Rattle.gap_job.proofs.PresentSaid.{present_told, weights_told}
use Rattle.gap_job.proofs.law.lists_say_what_their_entries_do.Goals as goal

pub returns-clause-exclusive : goal.returns-clause-exclusive
returns-clause-exclusive c = sound_or_fault

pub returns-clause-one_fault : goal.returns-clause-one_fault
returns-clause-one_fault c = one_fault

pub returns-clause-limits : goal.returns-clause-limits
returns-clause-limits c = limits_told

pub returns-clause-present : goal.returns-clause-present
returns-clause-present c = present_told

pub returns-clause-weights : goal.returns-clause-weights
returns-clause-weights c = weights_told
