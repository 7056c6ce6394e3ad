use Rattle.std.proofs.Common.{ℕ, ◌≤◌, lit<, arith}
use Rattle.std.specs.Int.{w128}
use Rattle.std.proofs.lemmas.Int.{to_z-of_z}
use Rattle.gap_base.proofs.Machine.{fits_of}
use Rattle.gap_lines.proofs.Sizes.{place_fits, rises, rises_not, falls, falls_not, over_back}
use Rattle.gap_lines.proofs.BracketLaws.{narrow_rising, narrow_falling, narrow_level}
use Rattle.gap_lines.proofs.bracket.narrowed.Goals as goal

pub returns-then-line-gt0-clause-bracket : goal.returns-then-line-gt0-clause-bracket
returns-then-line-gt0-clause-bracket c = λ value low high b is.
    let o = c.args.bracket.now in
    let l = c.args.line.now in
    let h = c.higher-top.ensures in
    let fa = fits_of o.above 1000000000000000000000000000001 o.above_small (lit< tt) in
    rw (to_z-of_z w128 l.place (place_fits l), to_z-of_z w128 o.above fa)
    (narrow_rising value low high o.below o.above o.rise o.fall o.top l c.higher-top.result b is c.requires.after c.requires.before (rises l c.if-line-gt0.true) h.which h.first h.second)

pub returns-then-line-lt0-clause-bracket : goal.returns-then-line-lt0-clause-bracket
returns-then-line-lt0-clause-bracket c = λ value low high b is.
    let o = c.args.bracket.now in
    let l = c.args.line.now in
    let h = c.higher-top.ensures in
    let fb = fits_of o.below 1000000000000000000000000000001 o.below_small (lit< tt) in
    rw (to_z-of_z w128 l.place (place_fits l), to_z-of_z w128 o.below fb)
    (narrow_falling value low high o.below o.above o.rise o.fall o.top l c.higher-top.result b is c.requires.after c.requires.before (falls l c.if-line-lt0.true) h.which h.first h.second)

pub returns-clause-bracket : goal.returns-clause-bracket
returns-clause-bracket c = λ value low high b is.
    let o = c.args.bracket.now in
    let l = c.args.line.now in
    let h = c.higher-top.ensures in
    rw (over_back l.place (le_more l.place_small), to_z-of_z w128 l.place (place_fits l))
    (narrow_level value low high o.below o.above o.rise o.fall o.top l c.higher-top.result b is c.requires.after c.requires.before (rises_not l c.if-line-gt0.false) (falls_not l c.if-line-lt0.false) h.which h.first h.second)
  where
    le_more : {n : ℕ} → n ≤ 1000000000000000000000000000000 → n ≤ 1000000000000000000000000000001
    le_more h = omega arith
