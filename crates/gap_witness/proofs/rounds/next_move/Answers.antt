use Rattle.std.proofs.Common.{◌≡◌, ◌≢◌, ℕ, ◌<◌, List, length, slice_index_or, Option, Some, None, neg_ℤ, sym, ap, ◌∙◌, subst, arith, refl}
use Rattle.std.specs.Prelude.{ltb, option_map}
use Rattle.gap_model.specs.Settings.{Setting}
use Rattle.gap_witness.specs.Places.{first_greatest, IsFirstGreatest}
use Rattle.gap_witness.specs.Points.{Choice, lower_end, upper_end, gradient, giver, taker, exchange, next_from, next}
use Rattle.gap_witness.specs.Frames.{setting_in, choice_in, moved_by}
use Rattle.gap_witness.proofs.PlaceLaws.{found_some, below_is}
use Rattle.gap_witness.proofs.RoundLaws.{taker_is, taker_none, taker_self}
use Rattle.gap_witness.proofs.rounds.next_move.Goals as goal

none_of : (o : Option ℕ) → ((j : ℕ) → o ≡ Some j → ⊥) → o ≡ None
none_of None h = refl
none_of (Some j) h = absurd (h j refl)

-- the pair that was found gives the asset that gives and the one that takes
found_giver : (s : Setting) (o : Choice) (y : List ℕ) (g : Option ℕ) (i : ℕ) → g ≡ giver s o y → g ≡ Some i → giver s o y ≡ Some i
found_giver s o y g i e f = sym e ∙ f

gives_at : (s : Setting) (o : Choice) (y : List ℕ) (i : ℕ) → giver s o y ≡ Some i → IsFirstGreatest (length o.cells) (λ k. ltb (lower_end o k) (slice_index_or y k 0)) (gradient s o y) i
gives_at s o y i e = found_some (length o.cells) (λ k. ltb (lower_end o k) (slice_index_or y k 0)) (gradient s o y) i e

takes_at : (s : Setting) (o : Choice) (y : List ℕ) (t : Option ℕ) (j : ℕ) → t ≡ first_greatest (length o.cells) (λ k. ltb (slice_index_or y k 0) (upper_end o k)) (λ k. neg_ℤ (gradient s o y k)) → t ≡ Some j → IsFirstGreatest (length o.cells) (λ k. ltb (slice_index_or y k 0) (upper_end o k)) (λ k. neg_ℤ (gradient s o y k)) j
takes_at s o y t j e f = found_some (length o.cells) (λ k. ltb (slice_index_or y k 0) (upper_end o k)) (λ k. neg_ℤ (gradient s o y k)) j (sym e ∙ f)

next_is : (s : Setting) (o : Choice) (y : List ℕ) (i : ℕ) → giver s o y ≡ Some i → next s o y ≡ exchange s o y i (taker s o y i)
next_is s o y i e = ap (next_from s o y) e

pub returns-in_default-taker-clause-value : goal.returns-in_default-taker-clause-value
returns-in_default-taker-clause-value c =
    let s = setting_in c.args.frame.now in
    let o = choice_in c.args.frame.now in
    let y = c.args.point.now.eighths in
    let i = c.in-Some.i in
    let g = found_giver s o y c.pair_of-pair.result.giver i c.pair_of-pair.ensures.giver c.in-Some.is in
    let t = taker_none s o y i (sym c.pair_of-pair.ensures.taker ∙ none_of c.pair_of-pair.result.taker c.in_default-taker.not-Some) in
    sym (next_is s o y i g ∙ ap (exchange s o y i) t)

pub returns-then-i-j-clause-value : goal.returns-then-i-j-clause-value
returns-then-i-j-clause-value c =
    let s = setting_in c.args.frame.now in
    let o = choice_in c.args.frame.now in
    let y = c.args.point.now.eighths in
    let i = c.in-Some.i in
    let j = c.in-Some-taker.j in
    let g = found_giver s o y c.pair_of-pair.result.giver i c.pair_of-pair.ensures.giver c.in-Some.is in
    let q : j ≡ i = omega arith in
    let t = taker_self s o y i (sym c.pair_of-pair.ensures.taker ∙ c.in-Some-taker.is ∙ ap Some q) in
    t ∙ sym (next_is s o y i g)

pub gap_at-gap-requires-clause-giver : goal.gap_at-gap-requires-clause-giver
gap_at-gap-requires-clause-giver c =
    let s = setting_in c.args.frame.now in
    let o = choice_in c.args.frame.now in
    let y = c.args.point.now.eighths in
    (gives_at s o y c.in-Some.i (found_giver s o y c.pair_of-pair.result.giver c.in-Some.i c.pair_of-pair.ensures.giver c.in-Some.is)).below

pub gap_at-gap-requires-clause-taker : goal.gap_at-gap-requires-clause-taker
gap_at-gap-requires-clause-taker c = (takes_at (setting_in c.args.frame.now) (choice_in c.args.frame.now) c.args.point.now.eighths c.pair_of-pair.result.taker c.in-Some-taker.j c.pair_of-pair.ensures.taker c.in-Some-taker.is).below

pub move_between-requires-clause-giver : goal.move_between-requires-clause-giver
move_between-requires-clause-giver c =
    let s = setting_in c.args.frame.now in
    let o = choice_in c.args.frame.now in
    let y = c.args.point.now.eighths in
    (gives_at s o y c.in-Some.i (found_giver s o y c.pair_of-pair.result.giver c.in-Some.i c.pair_of-pair.ensures.giver c.in-Some.is)).below

pub move_between-requires-clause-taker : goal.move_between-requires-clause-taker
move_between-requires-clause-taker c = (takes_at (setting_in c.args.frame.now) (choice_in c.args.frame.now) c.args.point.now.eighths c.pair_of-pair.result.taker c.in-Some-taker.j c.pair_of-pair.ensures.taker c.in-Some-taker.is).below

pub move_between-requires-clause-gives : goal.move_between-requires-clause-gives
move_between-requires-clause-gives c =
    let s = setting_in c.args.frame.now in
    let o = choice_in c.args.frame.now in
    let y = c.args.point.now.eighths in
    let i = c.in-Some.i in
    let g = (gives_at s o y i (found_giver s o y c.pair_of-pair.result.giver i c.pair_of-pair.ensures.giver c.in-Some.is)).allowed in
    subst (λ (x : List ℕ). lower_end o i < slice_index_or x i 0) (sym c.eighths-y.ensures.value) (below_is (lower_end o i) (slice_index_or y i 0) g)

pub move_between-requires-clause-takes : goal.move_between-requires-clause-takes
move_between-requires-clause-takes c =
    let o = choice_in c.args.frame.now in
    let y = c.args.point.now.eighths in
    let j = c.in-Some-taker.j in
    let t = (takes_at (setting_in c.args.frame.now) o y c.pair_of-pair.result.taker j c.pair_of-pair.ensures.taker c.in-Some-taker.is).allowed in
    subst (λ (x : List ℕ). slice_index_or x j 0 < upper_end o j) (sym c.eighths-y.ensures.value) (below_is (slice_index_or y j 0) (upper_end o j) t)

pub returns-clause-value : goal.returns-clause-value
returns-clause-value c =
    let s = setting_in c.args.frame.now in
    let o = choice_in c.args.frame.now in
    let y = c.args.point.now.eighths in
    let i = c.in-Some.i in
    let j = c.in-Some-taker.j in
    let g = found_giver s o y c.pair_of-pair.result.giver i c.pair_of-pair.ensures.giver c.in-Some.is in
    let other : j ≢ i = λ e. c.if-i-j.false (sym e) in
    let t = taker_is s o y i j other (sym c.pair_of-pair.ensures.taker ∙ c.in-Some-taker.is) in
    let m = subst (λ (x : List ℕ). option_map (moved_by x) c.move_between.result ≡ exchange s o x i (Some j)) c.eighths-y.ensures.value c.move_between.ensures.value in
    m ∙ sym (next_is s o y i g ∙ ap (exchange s o y i) t)
