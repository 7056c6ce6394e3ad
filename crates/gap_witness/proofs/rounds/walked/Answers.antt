use Rattle.std.proofs.Common.{◌≡◌, ℕ, ◌+◌, ◌-◌, ◌*◌, ◌<◌, List, length, Option, Some, None, sym, ap, ◌∙◌, subst, arith}
use Rattle.std.specs.Prelude.{option_map}
use Rattle.std.proofs.lemmas.Bool.Decides.{nat_tests}
use Rattle.gap_model.specs.Settings.{Setting}
use Rattle.gap_tangent.specs.Points.{PointValue}
use Rattle.gap_witness.specs.declared.moving.Move.{Move}
use Rattle.gap_witness.specs.Points.{next, rounds}
use Rattle.gap_witness.specs.Frames.{setting_in, choice_in, moved_by}
use Rattle.gap_witness.proofs.WalkLaws.{rounds_step, rounds_end, rounds_over}
use Rattle.gap_witness.proofs.rounds.walked.Goals as goal

point_is : (p : PointValue) (s : Setting) (y : List ℕ) → p.setting ≡ s → p.eighths ≡ y → p ≡ record { setting = s; eighths = y }
point_is p s y e f = ap (λ (z : Setting). record { setting = z; eighths = p.eighths }) e ∙ ap (λ (z : List ℕ). record { setting = s; eighths = z }) f

pub loop-turn-init : goal.loop-turn-init
loop-turn-init c =
    let n = 8 * length c.args.frame.now.part.now in
    let go = next (setting_in c.args.frame.now) (choice_in c.args.frame.now) in
    record { setting_is = c.requires; left = let e : n - 0 ≡ n = omega arith in ap (λ (m : ℕ). rounds m go c.args.first.eighths) e }

pub returns-in-None : goal.returns-in-None
returns-in-None c =
    let i = c.loop-turn.invariant in
    let n = 8 * length c.args.frame.now.part.now in
    let go = next (setting_in c.args.frame.now) (choice_in c.args.frame.now) in
    let t = c.loop-turn-test.true in
    let l = c.len-turn-end.ensures.length in
    let there : c.loop-turn.turn < 8 * length c.args.frame.now.part.now = first_of (omega arith, grind (arith, nat_tests)) in
    let ended : go c.loop-turn.point.eighths ≡ None = sym c.next_move.ensures.value ∙ ap (option_map (moved_by c.loop-turn.point.eighths)) c.in-None.is in
    point_is c.loop-turn.point (setting_in c.args.frame.now) _ i.setting_is (rounds_end n c.loop-turn.turn go c.loop-turn.point.eighths there ended ∙ i.left)

pub loop-turn-preserved : goal.loop-turn-preserved
loop-turn-preserved c =
    let i = c.loop-turn.invariant in
    let n = 8 * length c.args.frame.now.part.now in
    let go = next (setting_in c.args.frame.now) (choice_in c.args.frame.now) in
    let y = c.loop-turn.point.eighths in
    let t = c.loop-turn-test.true in
    let l = c.len-turn-end.ensures.length in
    let there : c.loop-turn.turn < 8 * length c.args.frame.now.part.now = first_of (omega arith, grind (arith, nat_tests)) in
    let went : go y ≡ Some (moved_by y c.in-Some.step) = sym c.next_move.ensures.value ∙ ap (option_map (moved_by y)) c.in-Some.is in
    let e = ap (λ (p : PointValue). p.eighths) c.give.ensures in
    record {
      setting_is = ap (λ (p : PointValue). p.setting) c.give.ensures ∙ i.setting_is;
      left = ap (rounds (n - (c.loop-turn.turn + 1)) go) e ∙ (rounds_step n c.loop-turn.turn go y (moved_by y c.in-Some.step) there went ∙ i.left);
    }

pub returns : goal.returns
returns c =
    let i = c.loop-turn.invariant in
    let go = next (setting_in c.args.frame.now) (choice_in c.args.frame.now) in
    let t = c.loop-turn-test.false in
    let l = c.len-turn-end.ensures.length in
    let x = c.loop-turn.auto in
    let ends : 8 * length c.args.frame.now.part.now ≡ c.loop-turn.turn = first_of (omega arith, grind (arith, nat_tests)) in
    point_is c.loop-turn.point (setting_in c.args.frame.now) _ i.setting_is (rounds_over (8 * length c.args.frame.now.part.now) c.loop-turn.turn go c.loop-turn.point.eighths ends ∙ i.left)
