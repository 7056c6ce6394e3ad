use Rattle.std.proofs.Common.{◌≡◌, ℕ, suc, ◌-◌, List, length, unsigned_abs, sym, ap, subst, arith}
use Rattle.std.proofs.lemmas.List.{length-replicate}
use Rattle.std.proofs.lemmas.List.FromFn.{fill_by_all}
use Rattle.gap_model.specs.Leaves.{eighths_at}
use Rattle.gap_solved.specs.Solveds.{dense}
use Rattle.gap_tangent.proofs.EntryLaws.{IsFilled, filled_none, zeros_lots}
use Rattle.gap_writer.proofs.Entries.{filled_by}
use Rattle.gap_writer.proofs.leaves.point_of.Goals as goal

pub loop-left-init : goal.loop-left-init
loop-left-init c = subst (λ (y : List ℕ). IsFilled c.args.n c.args.entries.now (length c.args.entries.now) y) (sym c.zeros-y.ensures) (filled_none c.args.n c.args.entries.now _ (length-replicate c.args.n 0) (zeros_lots c.args.n))

pub loop-left-preserved : goal.loop-left-preserved
loop-left-preserved c =
    let left = c.loop-left.left in
    let e : left ≡ suc (left - 1) = omega arith in
    let inv = subst (λ (k : ℕ). IsFilled c.args.n c.args.entries.now k c.loop-left.y) e c.loop-left.invariant in
    filled_by c.args.n c.args.entries.now (left - 1) c.loop-left.y c.put_entry.new.y c.entry_at-entry.result inv c.entry_at-entry.ensures c.put_entry.ensures.count c.put_entry.ensures.numbers

pub returns : goal.returns
unfolding dense
returns c =
    let e : c.loop-left.left ≡ 0 = omega arith in
    let f = subst (λ (k : ℕ). IsFilled c.args.n c.args.entries.now k c.loop-left.y) e c.loop-left.invariant in
    fill_by_all (λ (i : ℕ). unsigned_abs (eighths_at c.args.entries.now i)) c.loop-left.y c.args.n 0 f.count (λ k h. ap unsigned_abs (f.numbers k h))
