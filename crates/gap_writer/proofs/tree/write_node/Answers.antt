use Rattle.gap_writer.proofs.Waiting.{node_written, lighter}
use Rattle.gap_writer.proofs.tree.write_node.Goals as goal

pub returns-clause-owes : goal.returns-clause-owes
returns-clause-owes c = λ all o.
    node_written c.args.inst.now.market.assets c.args.tree.now.nodes c.args.stack.now.items c.push_children.new.stack.items c.args.node c.args.writer.now c.write_item.new.writer all
    c.in_ok-write_item.ensures.split c.in_ok-write_item.ensures.leaf c.in_ok-push_children.ensures o

pub returns-clause-lighter : goal.returns-clause-lighter
returns-clause-lighter c = lighter c.args.tree.now.nodes c.args.stack.now.items c.push_children.new.stack.items c.args.node c.nodes-nodes.ensures.tree c.in_ok-push_children.ensures
