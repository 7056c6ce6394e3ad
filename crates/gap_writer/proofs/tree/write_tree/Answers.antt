use Rattle.std.proofs.Common.{◌≡◌, [], ◌<◌, List, ℕ, length, sym, subst, arith}
use Rattle.std.proofs.lemmas.List.{nil_from_length}
use Rattle.std.proofs.lemmas.Result.{err_from_is_err_and}
use Rattle.gap_box.specs.declared.node.NodeId.{NodeId}
use Rattle.gap_files.specs.Drains.{Flows}
use Rattle.gap_files.proofs.DrainLaws.{flows_none}
use Rattle.gap_writer.specs.Filled.{Owes, root_stack, weight_of}
use Rattle.gap_writer.proofs.Pouring.{poured, broken, refused, nothing_waits}
use Rattle.gap_writer.proofs.tree.write_tree.Goals as goal

pub returns-in_err-push_root-clause-drains : goal.returns-in_err-push_root-clause-drains
returns-in_err-push_root-clause-drains g c = λ sink all owes.
    let p = err_from_is_err_and c.from_residual.result c.from_residual.ensures.1 in
    rw (p.1, p.2) (refused c.args.inst.now.market.assets c.args.tree.now.nodes c.args.name.now (g.F.Files.files c.args.files.now) (g.F.Files.files c.args.files.now) sink all root_stack c.args.writer.now all owes c.requires.some
    (flows_none c.args.name.now (g.F.Files.files c.args.files.now) sink all))

pub loop-node-init : goal.loop-node-init
loop-node-init g c = record {
  pours = λ sink all owes. record {
    left = all;
    owes = subst (λ (x : List NodeId). Owes c.args.inst.now.market.assets c.args.tree.now.nodes x c.args.writer.now all) (sym c.in_ok-push_root.ensures) owes;
    flows = flows_none c.args.name.now (g.F.Files.files c.args.files.now) sink all;
  };
  some = c.requires.some;
}

pub returns-in_err-write_node-clause-drains : goal.returns-in_err-write_node-clause-drains
returns-in_err-write_node-clause-drains g c = λ sink all owes.
    let p = err_from_is_err_and c.from_residual-in_err-write_node.result c.from_residual-in_err-write_node.ensures.1 in
    let q = c.loop-node.invariant.pours sink all owes in
    rw (p.1, p.2) (refused c.args.inst.now.market.assets c.args.tree.now.nodes c.args.name.now (g.F.Files.files c.args.files.now) (g.F.Files.files c.loop-node.files) sink all c.loop-node.stack.items c.loop-node.writer q.left q.owes c.loop-node.invariant.some q.flows)

pub returns-in_err-drain-clause-drains : goal.returns-in_err-drain-clause-drains
returns-in_err-drain-clause-drains g c = λ sink all owes.
    let p = err_from_is_err_and c.from_residual-in_err-drain.result c.from_residual-in_err-drain.ensures.1 in
    let q = c.loop-node.invariant.pours sink all owes in
    let o = c.in_ok-write_node.ensures.owes q.left (subst (λ (x : List NodeId). Owes c.args.inst.now.market.assets c.args.tree.now.nodes x c.loop-node.writer q.left) c.in-Some.ensures.items q.owes) in
    rw (p.1, p.2) (broken c.args.inst.now.market.assets c.args.tree.now.nodes c.args.name.now (g.F.Files.files c.args.files.now) (g.F.Files.files c.loop-node.files) (g.F.Files.files c.drain.new.files) sink all c.write_node.new.stack.items c.write_node.new.writer q.left c.in_err-drain.field-0.0 o q.flows (c.in_err-drain.ensures.drains sink))

pub loop-node-preserved : goal.loop-node-preserved
loop-node-preserved g c = record {
  pours = λ sink all owes.
      let q = c.loop-node.invariant.pours sink all owes in
      let o = c.in_ok-write_node.ensures.owes q.left (subst (λ (x : List NodeId). Owes c.args.inst.now.market.assets c.args.tree.now.nodes x c.loop-node.writer q.left) c.in-Some.ensures.items q.owes) in
      poured c.args.inst.now.market.assets c.args.tree.now.nodes c.args.name.now (g.F.Files.files c.args.files.now) (g.F.Files.files c.loop-node.files) (g.F.Files.files c.drain.new.files) sink all c.write_node.new.stack.items c.write_node.new.writer c.drain.new.writer q.left o q.flows (c.in_ok-drain.ensures.drains sink) c.in_ok-drain.ensures.last;
  some = c.in_ok-drain.ensures.some;
}

pub loop-node-smaller : goal.loop-node-smaller
loop-node-smaller g c = subst (λ (x : List NodeId). weight_of (length c.args.tree.now.nodes) c.write_node.new.stack.items < weight_of (length c.args.tree.now.nodes) x) (sym c.in-Some.ensures.items) c.in_ok-write_node.ensures.lighter

pub returns-clause-drains : goal.returns-clause-drains
returns-clause-drains g c = λ sink all owes.
    let q = c.loop-node.invariant.pours sink all owes in
    let e : c.loop-node.stack.items ≡ [] = nil_from_length c.loop-node.stack.items (omega (arith, c.in_default.ensures.cases, c.loop-node.stack.ok)) in
    let o = subst (λ (x : List NodeId). Owes c.args.inst.now.market.assets c.args.tree.now.nodes x c.loop-node.writer q.left) e q.owes in
    subst (λ (x : List ℕ). Flows c.args.name.now (g.F.Files.files c.args.files.now) (g.F.Files.files c.loop-node.files) sink all x) (nothing_waits c.args.inst.now.market.assets c.args.tree.now.nodes c.loop-node.writer q.left o) q.flows
