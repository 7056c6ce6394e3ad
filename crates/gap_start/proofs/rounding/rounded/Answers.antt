use Rattle.std.specs.Prelude.{IfSome}
use Rattle.std.proofs.Common.{List, ℕ, Option, None, Some, ◌≤ℤ◌, subst}
use Rattle.gap_instance.specs.Limits.{MeetsLimits}
use Rattle.gap_instance.specs.Objective.{objective}
use Rattle.gap_start.specs.Roundings.{IsRounding}
use Rattle.gap_start.proofs.rounding.rounded.Goals as goal

-- what follows from a fact of the value, if there is one
followed : (o : Option (List ℕ)) (P Q : List ℕ → Type 0) → ((z : List ℕ) → P z → Q z) → IfSome o P → IfSome o Q
followed None P Q f h = h
followed (Some z) P Q f h = f z h

pub returns-clause-none : goal.returns-clause-none
returns-clause-none c =
    let list = c.rounding_of-list.result in (
      λ e x is meets. c.polished.ensures.none.0 e (subst (MeetsLimits c.args.inst.now) (c.rounding_of-list.ensures.only x list is c.rounding_of-list.ensures.rounding) meets),
      λ h. c.polished.ensures.none.1 (h list c.rounding_of-list.ensures.rounding),
    )

pub returns-clause-better : goal.returns-clause-better
returns-clause-better c =
    let I = c.args.inst.now in
    let p = c.args.w.p in
    let q = c.args.w.q in
    let list = c.rounding_of-list.result in
    followed c.polished.result
    (λ z. objective I p q z ≤ℤ objective I p q list)
    (λ z. (x : List ℕ) → IsRounding I p q c.args.part.now c.args.y.now x → objective I p q z ≤ℤ objective I p q x)
    (λ z low x is. subst (λ (y : List ℕ). objective I p q z ≤ℤ objective I p q y) (c.rounding_of-list.ensures.only list x c.rounding_of-list.ensures.rounding is) low)
    c.polished.ensures.better
