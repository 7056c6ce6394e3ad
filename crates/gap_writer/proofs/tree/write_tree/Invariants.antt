use Rattle.std.proofs.Common.{ℕ, List, ◌<◌, length}
use Rattle.gap_files.specs.Outside.{SinkNow}
use Rattle.gap_writer.specs.Filled.{Owes, Pours, root_stack, weight_of}
use Rattle.gap_writer.proofs.tree.write_tree.Given as goal

abbrev pub invariant-loop-node : goal.invariant-loop-node
invariant-loop-node g l = record {
  pours : (sink : SinkNow) (all : List ℕ) → Owes l.inst.market.assets l.tree.nodes root_stack l.fn.writer all →
      Pours l.inst.market.assets l.tree.nodes l.name (g.F.Files.files l.fn.files) (g.F.Files.files l.files) sink all l.stack.items l.writer;
  some : 0 < length l.writer.bytes;
}

abbrev pub decreases-loop-node : goal.decreases-loop-node
decreases-loop-node g l = weight_of (length l.tree.nodes) l.stack.items
