use Rattle.std.proofs.Common.{◌≤ℤ◌, ◌<ℤ◌, ℤ, pos, ◌+ℤ◌, ◌-ℤ◌, FitsSigned, arith, subst}
use Rattle.std.specs.Int.{w128}
use Rattle.std.proofs.lemmas.Int.{ints, to_z-of_z}
use Rattle.gap_lines.proofs.Sizes.{apart_fits, short_of, not_short_of, few_steps, after_steps_fits, after_steps_more, after_steps_back, steps_most, slope_fits, place_fits}
use Rattle.gap_lines.proofs.LineLaws.{below_reach}
use Rattle.gap_lines.proofs.heights.reach_within.Goals as goal

before_next : (b a k : ℤ) → b <ℤ ((a +ℤ k) +ℤ pos 1) → b ≤ℤ (a +ℤ k)
before_next b a k h = omega (arith, ints)

within_steps : (b a t k : ℤ) → b <ℤ t → (t -ℤ a) ≤ℤ k → b ≤ℤ (a +ℤ k)
within_steps b a t k h l = omega (arith, ints)

past : (a k : ℤ) → pos 0 ≤ℤ k → a <ℤ ((a +ℤ k) +ℤ pos 1)
past a k h = omega (arith, ints)

ends : (a t k : ℤ) → k <ℤ (t -ℤ a) → ((a +ℤ k) +ℤ pos 1) ≤ℤ t
ends a t k h = omega (arith, ints)

pub overflow_sub-top-3 : goal.overflow_sub-top-3
overflow_sub-top-3 c = apart_fits c.args.top.now.place c.args.line.now.place c.args.top.now.place_small c.args.line.now.place_small

pub overflow_add-result : goal.overflow_add-result
overflow_add-result c =
    let l = c.args.line.now in
    let t = c.args.top.now in
    let k = c.steps_in-steps.result in
    let f : FitsSigned w128 k = record { sfits = c.steps_in-steps.type_inv } in
    let s = short_of l.place t.place k l.place_small t.place_small f c.if-steps-top.true in
    after_steps_fits l.place k l.place_small c.steps_in-steps.ensures.least (few_steps l.place t.place k l.place_small t.place_small s)

pub overflow_add-result-then-steps-top : goal.overflow_add-result-then-steps-top
overflow_add-result-then-steps-top c =
    let l = c.args.line.now in
    let t = c.args.top.now in
    let k = c.steps_in-steps.result in
    let f : FitsSigned w128 k = record { sfits = c.steps_in-steps.type_inv } in
    let s = short_of l.place t.place k l.place_small t.place_small f c.if-steps-top.true in
    after_steps_more l.place k l.place_small c.steps_in-steps.ensures.least (few_steps l.place t.place k l.place_small t.place_small s)

pub returns-then-steps-top-clause-past : goal.returns-then-steps-top-clause-past
returns-then-steps-top-clause-past c =
    let l = c.args.line.now in
    let t = c.args.top.now in
    let k = c.steps_in-steps.result in
    let f : FitsSigned w128 k = record { sfits = c.steps_in-steps.type_inv } in
    let s = short_of l.place t.place k l.place_small t.place_small f c.if-steps-top.true in
    rw (after_steps_back l.place k l.place_small c.steps_in-steps.ensures.least (few_steps l.place t.place k l.place_small t.place_small s)) (past l.place k c.steps_in-steps.ensures.least)

pub returns-then-steps-top-clause-within : goal.returns-then-steps-top-clause-within
returns-then-steps-top-clause-within c =
    let l = c.args.line.now in
    let t = c.args.top.now in
    let k = c.steps_in-steps.result in
    let f : FitsSigned w128 k = record { sfits = c.steps_in-steps.type_inv } in
    let s = short_of l.place t.place k l.place_small t.place_small f c.if-steps-top.true in
    rw (after_steps_back l.place k l.place_small c.steps_in-steps.ensures.least (few_steps l.place t.place k l.place_small t.place_small s)) (ends l.place t.place k s)

pub returns-then-steps-top-clause-below : goal.returns-then-steps-top-clause-below
returns-then-steps-top-clause-below c = λ b h.
    let l = c.args.line.now in
    let t = c.args.top.now in
    let k = c.steps_in-steps.result in
    let f : FitsSigned w128 k = record { sfits = c.steps_in-steps.type_inv } in
    let s = short_of l.place t.place k l.place_small t.place_small f c.if-steps-top.true in
    let e = after_steps_back l.place k l.place_small c.steps_in-steps.ensures.least (few_steps l.place t.place k l.place_small t.place_small s) in
    let m = steps_most k l.slope t.value l.value (slope_fits l) t.value_small l.value_small c.steps_in-steps.ensures.most in
    below_reach l.place l.value l.slope k t.value b c.requires.rising m (before_next b l.place k (subst (λ (z : ℤ). b <ℤ z) e h))

pub returns-else-steps-top-clause-below : goal.returns-else-steps-top-clause-below
returns-else-steps-top-clause-below c = λ b h.
    let l = c.args.line.now in
    let t = c.args.top.now in
    let k = c.steps_in-steps.result in
    let f : FitsSigned w128 k = record { sfits = c.steps_in-steps.type_inv } in
    let s = not_short_of l.place t.place k l.place_small t.place_small f c.if-steps-top.false in
    let m = steps_most k l.slope t.value l.value (slope_fits l) t.value_small l.value_small c.steps_in-steps.ensures.most in
    below_reach l.place l.value l.slope k t.value b c.requires.rising m (within_steps b l.place t.place k (subst (λ (z : ℤ). b <ℤ z) (to_z-of_z w128 t.place (place_fits t)) h) s)
