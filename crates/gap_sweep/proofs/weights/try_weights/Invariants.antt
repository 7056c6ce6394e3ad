use Rattle.gap_sweep.specs.Steps.{SweptTo}
use Rattle.gap_sweep.proofs.weights.try_weights.Given as goal

abbrev pub invariant-loop-k : goal.invariant-loop-k
invariant-loop-k g l = SweptTo l.inst l.shift l.nodes l.weights l.k l.carried l.name
    (g.F.Files.files l.fn.files) (g.S.Sink.sink l.fn.out) (g.F.Files.files l.files) (g.S.Sink.sink l.out)
