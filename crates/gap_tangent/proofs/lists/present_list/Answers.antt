use Rattle.std.proofs.Common.{ℕ, ◌+◌, List, sym, ◌∙◌, subst, arith}
use Rattle.std.proofs.lemmas.List.{length-replicate}
use Rattle.gap_tangent.proofs.CopyLaws.{IsCopied, copied_none, copied_more, copied_all}
use Rattle.gap_tangent.proofs.lists.present_list.Goals as goal

pub loop-i-init : goal.loop-i-init
loop-i-init c = let I = c.args.inst.now in subst (λ (y : List ℕ). IsCopied I.market.assets I.present 0 y) (sym c.zeros-list.ensures) (copied_none I.market.assets I.present _ (length-replicate c.n.result 0 ∙ c.n.ensures.value))

pub loop-i-preserved : goal.loop-i-preserved
loop-i-preserved c = let I = c.args.inst.now in subst (λ (y : List ℕ). IsCopied I.market.assets I.present (c.loop-i.i + 1) y) (sym c.set.ensures) (copied_more I.market.assets I.present c.loop-i.i c.loop-i.list c.present.result (omega arith) c.loop-i.invariant c.present.ensures.value)

pub returns : goal.returns
returns c = let I = c.args.inst.now in copied_all I.market.assets I.present c.loop-i.i c.loop-i.list (omega arith) c.n.ensures.instance.limits_are.present_within.count c.loop-i.invariant
