use Rattle.std.proofs.Common.{◌≡◌, ◌*◌, ◌<◌, ◌∙◌, sym, false}
use Rattle.gap_orlib.specs.Ports.{is_missing}
use Rattle.gap_orlib.proofs.Firsts.{first_next}
use Rattle.gap_orlib.proofs.table.missing.Goals as goal

-- src/table.rt:111:5
pub loop-at-preserved : goal.loop-at-preserved
loop-at-preserved c =
    let below : c.loop-at.at < c.args.n * c.args.n = rw c.from-count.ensures at c.loop-at-test.true in
    let stood : is_missing c.args.n c.args.seen.now c.loop-at.at ≡ false = rw (← c.from-count.ensures) (sym c.is_missing.ensures ∙ c.if-is_missing.false) in
    first_next (c.args.n * c.args.n) c.loop-at.at (is_missing c.args.n c.args.seen.now) below stood ∙ c.loop-at.invariant
