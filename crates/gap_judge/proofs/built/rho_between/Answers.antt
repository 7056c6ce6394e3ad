use Rattle.std.proofs.Common.{◌≡◌, ℕ, ap, ◌∙◌, sym, w32, FitsSigned, arith}
use Rattle.std.proofs.lemmas.Int.{to_z-of_z}
use Rattle.gap_base.specs.Sums.{at}
use Rattle.gap_valid.specs.Heads.{pair_number}
use Rattle.gap_valid.proofs.HeadLaws.{turned_rho}
use Rattle.gap_judge.proofs.PairLaws.{pair_there}
use Rattle.gap_judge.proofs.built.rho_between.Goals as goal

pub correlation-requires : goal.correlation-requires
correlation-requires c =
    let h = c.args.head.now in
    let e = c.pair_place.ensures ∙ ap (λ (n : ℕ). pair_number n c.args.j c.args.i) c.n.ensures in
    omega (arith, e, pair_there h.n c.args.j c.args.i c.requires.first c.requires.second, c.requires.head_is.correlations_count)

pub returns-clause-value : goal.returns-clause-value
returns-clause-value c =
    let h = c.args.head.now in
    let e = c.pair_place.ensures ∙ ap (λ (n : ℕ). pair_number n c.args.j c.args.i) c.n.ensures in
    let fits : FitsSigned w32 c.correlation.result = record { sfits = c.correlation.type_inv } in
    to_z-of_z w32 c.correlation.result fits ∙ c.correlation.ensures ∙ ap (at h.correlations) e ∙ sym (turned_rho h c.args.j c.args.i c.requires.first c.requires.second)
