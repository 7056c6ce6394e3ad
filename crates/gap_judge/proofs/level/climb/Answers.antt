-- A level is left for its second side, or for the one above.
use Rattle.std.proofs.Common.{ℕ, sym, ap, ◌∙◌, slice_set, arith}
use Rattle.std.proofs.lemmas.List.{nil_from_length}
use Rattle.gap_judge.proofs.WalkLaws.{climb_second, climb_up, climb_kept, climb_end}
use Rattle.gap_judge.proofs.level.climb.Goals as goal

pub returns-then-level-clause-next : goal.returns-then-level-clause-next
returns-then-level-clause-next c =
    climb_second c.loop-level.part c.put.new.self c.narrow.new.self c.pop.new.self.items c.loop-level.levels.items c.push_reserved.new.self.items c.in-Some.level c.loop-level.invariant.kept c.in-Some.ensures.items
    c.push_reserved.ensures.items c.if-level.true (c.put.ensures ∙ ap (λ (i : ℕ). slice_set c.loop-level.part i c.in-Some.level.replaced) c.asset_of.ensures) c.narrow.ensures ∙ c.loop-level.invariant.same

pub loop-level-preserved : goal.loop-level-preserved
loop-level-preserved c =
    let back = c.put.ensures ∙ ap (λ (i : ℕ). slice_set c.loop-level.part i c.in-Some.level.replaced) c.asset_of.ensures in
    record {
      same = climb_up c.loop-level.part c.put.new.self c.pop.new.self.items c.loop-level.levels.items c.in-Some.level c.in-Some.ensures.items c.if-level.false back ∙ c.loop-level.invariant.same;
      kept = climb_kept c.loop-level.part c.put.new.self c.pop.new.self.items c.loop-level.levels.items c.in-Some.level c.loop-level.invariant.kept c.in-Some.ensures.items back;
    }

pub returns-clause-next : goal.returns-clause-next
returns-clause-next c = sym (sym c.loop-level.invariant.same ∙ climb_end c.loop-level.part c.loop-level.levels.items (nil_from_length c.loop-level.levels.items (omega (arith, c.in_default.ensures.cases, c.loop-level.levels.ok))))
