use Rattle.std.proofs.Common.{◌≡◌, ℕ, ◌+◌, length, List, ℤ, FitsSigned, sym, ◌∙◌, ap, subst, arith}
use Rattle.std.proofs.lemmas.Int.{to_z-of_z}
use Rattle.std.proofs.lemmas.List.{length-take-le}
use Rattle.std.specs.Int.{w128}
use Rattle.gap_base.specs.Sums.{at}
use Rattle.gap_relax.specs.Partings.{IsAround, HasLeast}
use Rattle.gap_relax.proofs.RowLaws.{least_with, length_with, row_around, row_start}
use Rattle.gap_relax.proofs.parting.nth_in_row.Goals as goal

pub loop-i-init : goal.loop-i-init
loop-i-init c =
    let after = c.copy_from_slice.ensures.after in
    record {
      room = ap (λ (xs : List ℤ). length xs) after ∙ length-take-le (length c.args.row.now) c.args.numbers.now c.requires.most;
      there = c.place_of_greatest-top.ensures.there;
      greatest = c.place_of_greatest-top.ensures.greatest;
      least = subst (λ (xs : List ℤ). HasLeast (length c.args.row.now) (at c.args.numbers.now) xs) (sym after) (row_start c.args.numbers.now (length c.args.row.now) c.requires.most);
    }

pub loop-i-preserved : goal.loop-i-preserved
loop-i-preserved c =
    let fit : FitsSigned w128 c.number_at-number.result = record { sfits = c.number_at-number.type_inv } in
    let inv = c.loop-i.invariant in
    let row = simp to_z-of_z at c.kept_with-top.ensures.row in
    let least = least_with c.loop-i.i (at c.args.numbers.now) c.loop-i.row c.loop-i.top c.number_at-number.result inv.there inv.greatest c.number_at-number.ensures inv.least in
    record {
      room = ap (λ (xs : List ℤ). length xs) row ∙ length_with c.loop-i.row c.loop-i.top c.number_at-number.result ∙ inv.room;
      there = c.kept_with-top.ensures.there;
      greatest = c.kept_with-top.ensures.greatest inv.greatest;
      least = subst (λ (xs : List ℤ). HasLeast (c.loop-i.i + 1) (at c.args.numbers.now) xs) (sym row) least;
    }

pub returns : goal.returns
returns c =
    let fit : FitsSigned w128 c.number_at-last.result = record { sfits = c.number_at-last.type_inv } in
    let inv = c.loop-i.invariant in
    let end : c.loop-i.i ≡ length c.args.numbers.now = omega (arith, c.loop-i.auto.i-end, c.loop-i-test.false, c.requires.most) in
    let least = subst (λ (n : ℕ). HasLeast n (at c.args.numbers.now) c.loop-i.row) end inv.least in
    let around = subst (λ (k : ℕ). IsAround (length c.args.numbers.now) (at c.args.numbers.now) k (at c.loop-i.row c.loop-i.top)) inv.room (row_around (length c.args.numbers.now) (at c.args.numbers.now) c.loop-i.row c.loop-i.top inv.there inv.greatest least) in
    simp to_z-of_z (subst (λ (z : ℤ). IsAround (length c.args.numbers.now) (at c.args.numbers.now) (length c.args.row.now) z) (sym c.number_at-last.ensures) around)
