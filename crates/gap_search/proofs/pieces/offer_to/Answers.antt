use Rattle.std.proofs.Common.{◌≡◌, true, rules}
use Rattle.gap_search.proofs.PieceLaws.{meets_length, meets_most}
use Rattle.gap_search.proofs.pieces.offer_to.Goals as goal

pub value-value-requires-clause-same_length : goal.value-value-requires-clause-same_length
value-value-requires-clause-same_length g c =
    let m : (g.B.NodeBound.problem c.args.bound.now).meets c.args.x.now ≡ true = search rules in
    meets_length (g.B.NodeBound.problem c.args.bound.now) c.args.x.now (g.met.B.NodeBound.lawful c.args.bound.now) m

pub value-value-requires-clause-most : goal.value-value-requires-clause-most
value-value-requires-clause-most g c =
    let m : (g.B.NodeBound.problem c.args.bound.now).meets c.args.x.now ≡ true = search rules in
    meets_most (g.B.NodeBound.problem c.args.bound.now) c.args.x.now (g.met.B.NodeBound.lawful c.args.bound.now) c.requires m
