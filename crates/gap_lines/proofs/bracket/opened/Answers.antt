use Rattle.std.proofs.Common.{ℕ, ◌≤◌, arith}
use Rattle.gap_lines.proofs.Sizes.{under_back, over_back}
use Rattle.gap_lines.proofs.BracketLaws.{all_open}
use Rattle.gap_lines.proofs.bracket.opened.Goals as goal

pub returns : goal.returns
returns c = λ value is.
    c.narrowed.ensures.bracket value c.args.low c.args.high
    (rw (under_back c.args.low (le_more c.requires.low), over_back c.args.high (le_more c.requires.high)) (all_open value c.args.low c.args.high c.args.line.now is c.requires.from c.requires.to))
    is
  where
    le_more : {n : ℕ} → n ≤ 1000000000000000000000000000000 → n ≤ 1000000000000000000000000000001
    le_more h = omega arith
