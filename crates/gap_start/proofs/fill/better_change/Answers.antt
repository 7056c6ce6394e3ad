use Rattle.std.proofs.Common.{◌≡◌, ◌<ℤ◌, ◌≤ℤ◌, Option, subst, refl, arith}
use Rattle.std.proofs.lemmas.Int.{to_z-of_z, ints}
use Rattle.std.specs.Int.{w128}
use Rattle.gap_instance.specs.Objective.{objective}
use Rattle.gap_start.specs.declared.fill.Change.{Change}
use Rattle.gap_start.specs.Fills.{IsSoFar, changed_at}
use Rattle.gap_start.proofs.FillLaws.{sofar_skipped, best_better, best_kept}
use Rattle.gap_start.proofs.fill.better_change.Goals as goal

pub returns-then-not-is_looked_at : goal.returns-then-not-is_looked_at
returns-then-not-is_looked_at c =
    let h = c.args.h.now in
    sofar_skipped h.instance h.weight.p h.weight.q c.args.marks.now h.lots c.args.up c.args.i c.args.best c.requires.below (λ look. let e = c.if-not-is_looked_at.ensures.looked.1 look in cc)

pub returns-then-value-other : goal.returns-then-value-other
returns-then-value-other c =
    let h = c.args.h.now in
    let sofar = subst (λ (o : Option Change). IsSoFar h.instance h.weight.p h.weight.q c.args.marks.now h.lots c.args.up c.args.i o) c.in-Some.is c.requires.below in
    let back = to_z-of_z w128 c.put_value-value.result (record { sfits = c.put_value-value.type_inv }) in
    let is : c.put_value-value.result ≡ objective h.instance h.weight.p h.weight.q (changed_at h.lots c.args.up c.args.i) = rw c.changed.ensures.value at c.put_value-value.ensures in
    let other = sofar.1 in
    let lower : objective h.instance h.weight.p h.weight.q (changed_at h.lots c.args.up c.args.i) <ℤ objective h.instance h.weight.p h.weight.q (changed_at h.lots c.args.up c.in-Some.other.asset) = let l = c.if-value-other.true in grind (arith, ints) in
    (best_better h.instance h.weight.p h.weight.q c.args.marks.now h.lots c.args.up c.args.i c.in-Some.other.asset sofar.0 (c.if-not-is_looked_at.ensures.looked.0 refl) lower, rw back is)

pub returns-else-value-other : goal.returns-else-value-other
returns-else-value-other c =
    let h = c.args.h.now in
    let sofar = subst (λ (o : Option Change). IsSoFar h.instance h.weight.p h.weight.q c.args.marks.now h.lots c.args.up c.args.i o) c.in-Some.is c.requires.below in
    let back = to_z-of_z w128 c.put_value-value.result (record { sfits = c.put_value-value.type_inv }) in
    let is : c.put_value-value.result ≡ objective h.instance h.weight.p h.weight.q (changed_at h.lots c.args.up c.args.i) = rw c.changed.ensures.value at c.put_value-value.ensures in
    let other = sofar.1 in
    let higher : objective h.instance h.weight.p h.weight.q (changed_at h.lots c.args.up c.in-Some.other.asset) ≤ℤ objective h.instance h.weight.p h.weight.q (changed_at h.lots c.args.up c.args.i) = let l = c.if-value-other.false in grind (arith, ints) in
    (best_kept h.instance h.weight.p h.weight.q c.args.marks.now h.lots c.args.up c.args.i c.in-Some.other.asset sofar.0 higher, other)
