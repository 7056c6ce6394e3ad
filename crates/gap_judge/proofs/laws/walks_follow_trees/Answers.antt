-- Walks along trees.
use Rattle.std.proofs.Common.{[]}
use Rattle.gap_judge.proofs.TreeWalks.{shows, node_count, whole}
use Rattle.gap_judge.proofs.laws.walks_follow_trees.Goals as goal

pub returns-clause-parts : goal.returns-clause-parts
returns-clause-parts c = λ root tree i h. shows root [] tree i h

pub returns-clause-nodes : goal.returns-clause-nodes
returns-clause-nodes c = node_count

pub returns-clause-whole : goal.returns-clause-whole
returns-clause-whole c = λ root tree. whole root [] tree
