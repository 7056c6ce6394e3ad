-- Rounds by fuel.
use Rattle.std.proofs.Common.{◌≡◌, ℕ, ◌+◌, ◌-◌, ◌<◌, List, Option, Some, None, refl, sym, ap, ◌∙◌, arith, add-one}
use Rattle.gap_witness.specs.Points.{after, rounds}

pub rounds_none : (step : List ℕ → Option (List ℕ)) (y : List ℕ) → rounds 0 step y ≡ y
unfolding rounds
rounds_none step y = refl

pub rounds_more : (n : ℕ) (step : List ℕ → Option (List ℕ)) (y : List ℕ) → rounds (n + 1) step y ≡ after (step y) y (rounds n step)
unfolding rounds
rounds_more n step y = rw (add-one n) refl

-- a round that is made, and one that ends them
pub rounds_step : (most k : ℕ) (step : List ℕ → Option (List ℕ)) (y z : List ℕ) → k < most → step y ≡ Some z → rounds (most - (k + 1)) step z ≡ rounds (most - k) step y
rounds_step most k step y z l e =
    let n : most - k ≡ (most - (k + 1)) + 1 = omega arith in
    sym (ap (λ (m : ℕ). rounds m step y) n ∙ rounds_more (most - (k + 1)) step y ∙ ap (λ (o : Option (List ℕ)). after o y (rounds (most - (k + 1)) step)) e)

pub rounds_end : (most k : ℕ) (step : List ℕ → Option (List ℕ)) (y : List ℕ) → k < most → step y ≡ None → y ≡ rounds (most - k) step y
rounds_end most k step y l e =
    let n : most - k ≡ (most - (k + 1)) + 1 = omega arith in
    sym (ap (λ (m : ℕ). rounds m step y) n ∙ rounds_more (most - (k + 1)) step y ∙ ap (λ (o : Option (List ℕ)). after o y (rounds (most - (k + 1)) step)) e)

pub rounds_over : (most k : ℕ) (step : List ℕ → Option (List ℕ)) (y : List ℕ) → most ≡ k → y ≡ rounds (most - k) step y
rounds_over most k step y e = let n : most - k ≡ 0 = omega arith in sym (ap (λ (m : ℕ). rounds m step y) n ∙ rounds_none step y)
