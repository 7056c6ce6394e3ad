use Rattle.std.proofs.Common.{ℕ, ◌≤◌, FitsSigned, arith, refl}
use Rattle.std.specs.Int.{w128}
use Rattle.gap_lines.proofs.Sizes.{size_back}
use Rattle.gap_lines.proofs.BracketLaws.{settled_top, closed_top, top_back}
use Rattle.gap_lines.proofs.search.highest.Goals as goal

le_step : {n : ℕ} → n ≤ 1000000000000000000000000000000 → n ≤ 10000000000000000000000000000000
le_step h = omega arith

pub loop-bracket-init : goal.loop-bracket-init
loop-bracket-init g c = record {
  bracket_is = c.opened-bracket.ensures (g.C.Curve.value c.args.curve.now) c.probe-first.ensures.line;
  step_small = size_back c.args.stride 10000000000000000000000000000000 c.ranges.stride (le_step c.requires.stride_small);
}

pub next_place-requires-clause-step : goal.next_place-requires-clause-step
next_place-requires-clause-step g c = c.loop-bracket.invariant.step_small

pub returns-in-None-clause-top : goal.returns-in-None-clause-top
returns-in-None-clause-top g c =
    let o = c.loop-bracket.bracket in
    let value = g.C.Curve.value c.args.curve.now in
    let b = c.loop-bracket.invariant.bracket_is in
    top_back value c.args.low c.args.high o.top c.ranges.low c.ranges.high (settled_top value _ _ o.below o.above o.rise o.fall o.top b (c.in-None.ensures value b.rise_line b.fall_line))

pub returns-in-None-clause-rise : goal.returns-in-None-clause-rise
returns-in-None-clause-rise g c = c.loop-bracket.invariant.bracket_is.rise_line

pub returns-in-None-clause-fall : goal.returns-in-None-clause-fall
returns-in-None-clause-fall g c = c.loop-bracket.invariant.bracket_is.fall_line

pub longer-step-requires : goal.longer-step-requires
longer-step-requires g c = c.loop-bracket.invariant.step_small

pub loop-bracket-smaller : goal.loop-bracket-smaller
loop-bracket-smaller g c = c.narrowed-bracket.ensures.less

pub loop-bracket-preserved : goal.loop-bracket-preserved
loop-bracket-preserved g c =
    let f : FitsSigned w128 c.longer-step.result = record { sfits = c.longer-step.type_inv } in
    record {
      bracket_is = c.narrowed-bracket.ensures.bracket (g.C.Curve.value c.args.curve.now) _ _ c.loop-bracket.invariant.bracket_is c.probe-line.ensures.line;
      step_small = size_back c.longer-step.result 10000000000000000000000000000000 f c.longer-step.ensures;
    }

pub returns-clause-top : goal.returns-clause-top
returns-clause-top g c =
    let o = c.loop-bracket.bracket in
    let value = g.C.Curve.value c.args.curve.now in
    top_back value c.args.low c.args.high o.top c.ranges.low c.ranges.high (closed_top value _ _ o.below o.above o.rise o.fall o.top c.loop-bracket.invariant.bracket_is (c.loop-bracket-test.ensures.closed refl))

pub returns-clause-rise : goal.returns-clause-rise
returns-clause-rise g c = c.loop-bracket.invariant.bracket_is.rise_line

pub returns-clause-fall : goal.returns-clause-fall
returns-clause-fall g c = c.loop-bracket.invariant.bracket_is.fall_line
