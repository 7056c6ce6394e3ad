use Rattle.gap_valid.proofs.HeadOfLaws.{head_is, instance_said_in, said_stands, nodes_stand, diagonal_stands, triangle_stands, dominant_stays}
use Rattle.gap_valid.proofs.head_laws.heads_say_instances.Goals as goal

pub returns-clause-head : goal.returns-clause-head
returns-clause-head c = head_is

pub returns-clause-instance : goal.returns-clause-instance
returns-clause-instance c = instance_said_in

pub returns-clause-said : goal.returns-clause-said
returns-clause-said c = said_stands

pub returns-clause-nodes : goal.returns-clause-nodes
returns-clause-nodes c = nodes_stand

pub returns-clause-diagonal : goal.returns-clause-diagonal
returns-clause-diagonal c = diagonal_stands

pub returns-clause-triangle : goal.returns-clause-triangle
returns-clause-triangle c = triangle_stands

pub returns-clause-dominant : goal.returns-clause-dominant
returns-clause-dominant c = dominant_stays
