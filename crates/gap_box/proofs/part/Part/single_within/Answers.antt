use Rattle.std.proofs.Common.{◌≡◌, ◌≢◌, ℕ, ◌+◌, Bool, true, false, cond, refl, ◌∙◌, ◌⊎◌, inl, inr, List, arith, ◌↔◌, None, Some}
use Rattle.std.proofs.lemmas.Bool.{cases_eq}
use Rattle.gap_box.specs.declared.cell.Cell.{Cell}
use Rattle.gap_box.specs.Cells.{AreCells}
use Rattle.gap_box.specs.Parts.{helds, frees, IsSingle}
use Rattle.gap_box.proofs.SingleLaws.{AreEnds, single_by, single_no, ends_apart, held_of}
use Rattle.gap_box.proofs.part.Part.single_within.Goals as goal

-- how many are held where all that are free are, or none
held_by : (b : Bool) (cells : List Cell) (all held : ℕ) → held ≡ helds cells → all ≡ helds cells + frees cells → cond b all held ≡ held_of b cells
held_by true cells all held h a = a
held_by false cells all held h a = omega arith

-- without such a number there isn't one list alone
none_alone : (cells : List Cell) (fewest most low high : ℕ) → AreCells cells → AreEnds cells fewest most low high → (low ≡ high → (low ≢ helds cells) × (low ≢ helds cells + frees cells)) → (low ≡ high) ⊎ (low ≡ high → ⊥) → (x : List ℕ) → (None ≡ Some x) ↔ IsSingle cells fewest most x
none_alone cells fewest most low high valid ends none (inl e) = let n = none e in single_no cells fewest most low valid (record { low_is = ends.low_is; high_is = e ∙ ends.high_is }) n.0 n.1
none_alone cells fewest most low high valid ends none (inr m) = ends_apart cells fewest most low high valid ends m

pub returns-in-Some : goal.returns-in-Some
returns-in-Some c =
    let pick = c.in-Some.ensures.some in
    let all : c.held_cells-held.result + c.free_cells.result ≡ helds c.args.self.now + frees c.args.self.now = omega arith in
    single_by c.in-Some.free_held c.args.self.now c.args.fewest c.args.most c.max.result c.only_list.result c.len-count.ensures.valid
    (record { low_is = omega arith; high_is = omega arith }) c.only_list.ensures (pick.1 ∙ held_by c.in-Some.free_held c.args.self.now (c.held_cells-held.result + c.free_cells.result) c.held_cells-held.result c.held_cells-held.ensures.count all)

pub returns-in-None : goal.returns-in-None
returns-in-None c =
    let none = c.in-None.ensures.none refl in
    none_alone c.args.self.now c.args.fewest c.args.most c.max.result c.min.result c.len-count.ensures.valid
    (record { low_is = omega arith; high_is = omega arith }) (λ e. let n = none e in (let a = n.0 in omega (arith, a), let b = n.1 in omega (arith, b))) (cases_eq c.max.result c.min.result)
