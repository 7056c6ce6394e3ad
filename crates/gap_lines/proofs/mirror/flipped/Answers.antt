use Rattle.std.proofs.Common.{ℕ, ◌≤◌, arith}
use Rattle.std.specs.Int.{w128}
use Rattle.std.proofs.lemmas.Int.{to_z-of_z}
use Rattle.gap_lines.proofs.Sizes.{value_fits, neg_back}
use Rattle.gap_lines.proofs.BestLaws.{flip_line, flip_back}
use Rattle.gap_lines.proofs.mirror.flipped.Goals as goal

le_place : {n : ℕ} → n ≤ 10000000 → n ≤ 1000000000000000000000000000000
le_place h = omega arith

pub returns-clause-forth : goal.returns-clause-forth
returns-clause-forth c = λ value is.
    let l = c.args.line.now in
    flip_line value l _ (neg_back l.place l.place_small) (to_z-of_z w128 l.value (value_fits l)) (neg_back l.slope (le_place l.slope_small)) is

pub returns-clause-back : goal.returns-clause-back
returns-clause-back c = λ value is.
    let l = c.args.line.now in
    flip_back value l _ (neg_back l.place l.place_small) (to_z-of_z w128 l.value (value_fits l)) (neg_back l.slope (le_place l.slope_small)) is
