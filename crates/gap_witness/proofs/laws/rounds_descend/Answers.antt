use Rattle.gap_witness.proofs.DescentLaws.{quadratic_moved, quadratic_lowered, quadratic_point}
use Rattle.gap_witness.proofs.laws.rounds_descend.Goals as goal

pub returns-clause-moved : goal.returns-clause-moved
returns-clause-moved c = λ s o y t i j h m. quadratic_moved s o y t i j h m

pub returns-clause-lowered : goal.returns-clause-lowered
returns-clause-lowered c = λ s o y z h e. quadratic_lowered s o y z h e

pub returns-clause-point : goal.returns-clause-point
returns-clause-point c = λ s o hint h. quadratic_point s o hint h
