use Rattle.gap_tangent.proofs.CopyLaws.{IsCopied}
use Rattle.gap_tangent.proofs.lists.present_list.Given as goal

abbrev pub invariant-loop-i : goal.invariant-loop-i
invariant-loop-i l = IsCopied l.inst.market.assets l.inst.present l.i l.list
