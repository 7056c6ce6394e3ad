use Rattle.std.proofs.Common.{List, ℕ, take, Ok}
use Rattle.gap_files.specs.Outside.{FilesNow}
use Rattle.gap_files.specs.Marks.{prints}
use Rattle.gap_files.specs.Steps.{Step}
use Rattle.gap_sweep.specs.Texts.{front_text}
use Rattle.gap_sweep.proofs.rows.print_rows.Given as goal

abbrev pub invariant-loop-k : goal.invariant-loop-k
invariant-loop-k g l = (name : List ℕ) (files : FilesNow) → Step name files (g.S.Sink.sink l.fn.out) files (g.S.Sink.sink l.out)
    (prints (front_text l.lots l.carried.rows.items (take l.k l.carried.numbers.items) (take l.k l.carried.rows.items))) (Ok tt)
