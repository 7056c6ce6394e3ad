use Rattle.std.proofs.Common.{◌≡◌, ℕ, ◌+◌, ◌-◌, ◌<◌, suc, Option, Some, None, sym, ap, ◌∙◌, arith}
use Rattle.gap_verify.specs.declared.difference.Difference.{Difference}
use Rattle.gap_verify.specs.declared.field.Field.TheVariants.{Correlation}
use Rattle.gap_verify.specs.Sides.{Side, side_of_certificate, side_of_job, pair_fields}
use Rattle.gap_verify.specs.Differences.{difference_at, first_in}
use Rattle.gap_verify.proofs.FirstLaws.{groups_none, groups_more, groups_found, one_found}
use Rattle.gap_verify.proofs.sides.Sides.row.Goals as goal

-- the pair of i and j is the one at the place of j behind i
pair_there : (a b : Side) (i j : ℕ) (r : Option Difference) → i < j → r ≡ difference_at a b (Correlation i j) → first_in a b (pair_fields i (j - suc i)) ≡ r
pair_there a b i j r l e =
    let there : j ≡ suc i + (j - suc i) = omega arith in
    one_found a b (Correlation i (suc i + (j - suc i))) r (e ∙ ap (λ (k : ℕ). difference_at a b (Correlation i k)) there)

pub loop-j-init : goal.loop-j-init
loop-j-init c =
    let none : c.args.i + 1 - suc c.args.i ≡ 0 = omega arith in
    rw none (groups_none (side_of_certificate c.args.self.now.found.now c.args.self.now.nodes c.args.self.now.told.now) (side_of_job c.args.self.now.market.now c.args.self.now.job.now) (pair_fields c.args.i))

pub returns-in-Some : goal.returns-in-Some
returns-in-Some c =
    let e = c.n-n.ensures.value in
    let low = c.loop-j.auto.j in
    let high = c.loop-j-test.true in
    sym (groups_found (side_of_certificate c.args.self.now.found.now c.args.self.now.nodes c.args.self.now.told.now) (side_of_job c.args.self.now.market.now c.args.self.now.job.now) (pair_fields c.args.i) (c.args.self.now.market.now.assets - suc c.args.i) (c.loop-j.j - suc c.args.i) c.in-Some.difference (omega arith) c.loop-j.invariant
    (pair_there (side_of_certificate c.args.self.now.found.now c.args.self.now.nodes c.args.self.now.told.now) (side_of_job c.args.self.now.market.now c.args.self.now.job.now) c.args.i c.loop-j.j (Some c.in-Some.difference) (omega arith) c.in-Some.ensures))

pub loop-j-preserved : goal.loop-j-preserved
loop-j-preserved c =
    let low = c.loop-j.auto.j in
    let next : c.loop-j.j + 1 - suc c.args.i ≡ (c.loop-j.j - suc c.args.i) + 1 = omega arith in
    rw next (groups_more (side_of_certificate c.args.self.now.found.now c.args.self.now.nodes c.args.self.now.told.now) (side_of_job c.args.self.now.market.now c.args.self.now.job.now) (pair_fields c.args.i) (c.loop-j.j - suc c.args.i) c.loop-j.invariant
    (pair_there (side_of_certificate c.args.self.now.found.now c.args.self.now.nodes c.args.self.now.told.now) (side_of_job c.args.self.now.market.now c.args.self.now.job.now) c.args.i c.loop-j.j None (omega arith) c.in-None.ensures))
