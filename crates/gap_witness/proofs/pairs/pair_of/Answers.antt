use Rattle.std.proofs.Common.{◌≡◌, ℕ, Bool, Option, length, slice_index_or, neg_ℤ, refl, sym, ap, ◌∙◌, arith, List}
use Rattle.std.specs.Prelude.{ltb}
use Rattle.std.proofs.lemmas.Bool.Decides.{nat_tests}
use Rattle.gap_witness.specs.Places.{later, first_greatest}
use Rattle.gap_witness.specs.Points.{lower_end, upper_end, gradient}
use Rattle.gap_witness.specs.Frames.{setting_in, choice_in}
use Rattle.gap_witness.proofs.PlaceLaws.{found_some, one_more}
use Rattle.gap_witness.proofs.pairs.pair_of.Goals as goal

pub loop-i-init : goal.loop-i-init
unfolding first_greatest
loop-i-init c = record { gives = refl; takes = refl }

pub steeper-giver-requires-clause-before : goal.steeper-giver-requires-clause-before
steeper-giver-requires-clause-before c =
    let s = setting_in c.args.frame.now in
    let o = choice_in c.args.frame.now in
    let y = c.args.point.now.eighths in
    λ k e. (found_some c.loop-i.i (λ (i : ℕ). ltb (lower_end o i) (slice_index_or y i 0)) (gradient s o y) k (sym c.loop-i.invariant.gives ∙ e)).below

pub flatter-taker-requires-clause-before : goal.flatter-taker-requires-clause-before
flatter-taker-requires-clause-before c =
    let s = setting_in c.args.frame.now in
    let o = choice_in c.args.frame.now in
    let y = c.args.point.now.eighths in
    λ k e. (found_some c.loop-i.i (λ (i : ℕ). ltb (slice_index_or y i 0) (upper_end o i)) (λ (j : ℕ). neg_ℤ (gradient s o y j)) k (sym c.loop-i.invariant.takes ∙ e)).below

pub loop-i-preserved : goal.loop-i-preserved
loop-i-preserved c =
    let n = c.loop-i.i in
    let s = setting_in c.args.frame.now in
    let o = choice_in c.args.frame.now in
    let y = c.args.point.now.eighths in
    let p = λ (i : ℕ). ltb (lower_end o i) (slice_index_or y i 0) in
    let q = λ (i : ℕ). ltb (slice_index_or y i 0) (upper_end o i) in
    let f = gradient s o y in
    let g = λ (j : ℕ). neg_ℤ (gradient s o y j) in
    let gives = c.may_give-gives.ensures ∙ ap (λ (x : List ℕ). ltb (lower_end o n) (slice_index_or x n 0)) c.eighths.ensures.value in
    let takes = c.may_take-takes.ensures ∙ ap (λ (x : List ℕ). ltb (slice_index_or x n 0) (upper_end o n)) c.eighths-in-loop-i.ensures.value in
    record {
      gives =
          c.steeper-giver.ensures
          ∙ (ap (λ (b : Bool). later b f n c.loop-i.giver) gives
          ∙ (ap (λ (t : Option ℕ). later (p n) f n t) c.loop-i.invariant.gives
          ∙ one_more n p f));
      takes =
          c.flatter-taker.ensures
          ∙ (ap (λ (b : Bool). later b g n c.loop-i.taker) takes
          ∙ (ap (λ (t : Option ℕ). later (q n) g n t) c.loop-i.invariant.takes
          ∙ one_more n q g));
    }

pub returns-clause-taker : goal.returns-clause-taker
returns-clause-taker c =
    let s = setting_in c.args.frame.now in
    let o = choice_in c.args.frame.now in
    let y = c.args.point.now.eighths in
    let e = c.len-i-end.ensures.length in
    let t = c.loop-i-test.false in
    let x = c.loop-i.auto in
    let ends : c.loop-i.i ≡ length c.args.frame.now.part.now = first_of (omega arith, grind (arith, nat_tests)) in
    c.loop-i.invariant.takes ∙ ap (λ (n : ℕ). first_greatest n (λ (j : ℕ). ltb (slice_index_or y j 0) (upper_end o j)) (λ (j : ℕ). neg_ℤ (gradient s o y j))) ends
