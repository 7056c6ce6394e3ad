use Rattle.std.proofs.Common.{List, subst, sym, ◌≡◌, rules}
use Rattle.gap_box.specs.Parts.{IsWithin}
use Rattle.gap_box.specs.Splits.{child_cells}
use Rattle.gap_box.specs.declared.cell.Cell.{Cell}
use Rattle.gap_box.proofs.SplitLaws.{child_once, child_sum, child_within}
use Rattle.gap_box.proofs.part.Part.child.Goals as goal

pub returns-in-Held-clause-once : goal.returns-in-Held-clause-once
returns-in-Held-clause-once c = child_once c.args.self.now c.args.split c.len-count.ensures.valid c.requires

pub returns-in-Held-clause-sum : goal.returns-in-Held-clause-sum
returns-in-Held-clause-sum c = child_sum c.args.self.now c.args.split c.len-count.ensures.valid c.requires

pub returns-in-Held-clause-within : goal.returns-in-Held-clause-within
returns-in-Held-clause-within c =
    let e : c.with.result ≡ child_cells c.args.self.now c.args.split c.args.side = search rules in
    subst (λ (q : List Cell). IsWithin q c.args.self.now) (sym e) (child_within c.args.self.now c.args.split c.args.side c.len-count.ensures.valid c.requires)

pub returns-in-Lots-clause-once : goal.returns-in-Lots-clause-once
returns-in-Lots-clause-once c = child_once c.args.self.now c.args.split c.len-count.ensures.valid c.requires

pub returns-in-Lots-clause-sum : goal.returns-in-Lots-clause-sum
returns-in-Lots-clause-sum c = child_sum c.args.self.now c.args.split c.len-count.ensures.valid c.requires

pub returns-in-Lots-clause-within : goal.returns-in-Lots-clause-within
returns-in-Lots-clause-within c =
    let e : c.with-in-Lots.result ≡ child_cells c.args.self.now c.args.split c.args.side = search rules in
    subst (λ (q : List Cell). IsWithin q c.args.self.now) (sym e) (child_within c.args.self.now c.args.split c.args.side c.len-count.ensures.valid c.requires)
