use Rattle.std.proofs.Common.{sym, ◌∙◌}
use Rattle.std.proofs.lemmas.List.{length-map}
use Rattle.gap_model.specs.declared.outcome.Told.{Told}
use Rattle.gap_verify.specs.Sides.{side_of_certificate, side_of_job}
use Rattle.gap_verify.proofs.FirstLaws.{all_first, all_assets, all_pairs, all_count, all_weights}
use Rattle.gap_verify.proofs.SideLaws.{assets_agree, count_agree}
use Rattle.gap_verify.proofs.sides.Sides.all.Goals as goal

pub returns-in-Some : goal.returns-in-Some
returns-in-Some c = sym (all_first (side_of_certificate c.args.self.now.found.now c.args.self.now.nodes c.args.self.now.told.now) (side_of_job c.args.self.now.market.now c.args.self.now.job.now) c.in-Some.difference (sym c.in-Some.ensures))

pub assets-requires : goal.assets-requires
assets-requires c = record { same = assets_agree (side_of_certificate c.args.self.now.found.now c.args.self.now.nodes c.args.self.now.told.now) (side_of_job c.args.self.now.market.now c.args.self.now.job.now) (sym c.in-None.ensures) }

pub returns-in-Some-assets : goal.returns-in-Some-assets
returns-in-Some-assets c = sym (all_assets (side_of_certificate c.args.self.now.found.now c.args.self.now.nodes c.args.self.now.told.now) (side_of_job c.args.self.now.market.now c.args.self.now.job.now) c.in-Some-assets.difference (sym c.in-None.ensures) (sym c.in-Some-assets.ensures))

pub pairs-requires : goal.pairs-requires
pairs-requires c = record { same = assets_agree (side_of_certificate c.args.self.now.found.now c.args.self.now.nodes c.args.self.now.told.now) (side_of_job c.args.self.now.market.now c.args.self.now.job.now) (sym c.in-None.ensures) }

pub returns-in-Some-pairs : goal.returns-in-Some-pairs
returns-in-Some-pairs c = sym (all_pairs (side_of_certificate c.args.self.now.found.now c.args.self.now.nodes c.args.self.now.told.now) (side_of_job c.args.self.now.market.now c.args.self.now.job.now) c.in-Some-pairs.difference (sym c.in-None.ensures) (sym c.in-None-assets.ensures) (sym c.in-Some-pairs.ensures))

pub returns-in-Some-count : goal.returns-in-Some-count
returns-in-Some-count c =
    sym (all_count (side_of_certificate c.args.self.now.found.now c.args.self.now.nodes c.args.self.now.told.now) (side_of_job c.args.self.now.market.now c.args.self.now.job.now) c.in-Some-count.difference (sym c.in-None.ensures) (sym c.in-None-assets.ensures) (sym c.in-None-pairs.ensures) (sym c.in-Some-count.ensures))

pub weights-requires : goal.weights-requires
weights-requires c = sym (length-map c.args.self.now.told.now (λ (t : Told). t.weight)) ∙ count_agree (side_of_certificate c.args.self.now.found.now c.args.self.now.nodes c.args.self.now.told.now) (side_of_job c.args.self.now.market.now c.args.self.now.job.now) (sym c.in-None-count.ensures)

pub returns : goal.returns
returns c =
    c.weights.ensures ∙ sym (all_weights (side_of_certificate c.args.self.now.found.now c.args.self.now.nodes c.args.self.now.told.now) (side_of_job c.args.self.now.market.now c.args.self.now.job.now) (sym c.in-None.ensures) (sym c.in-None-assets.ensures) (sym c.in-None-pairs.ensures) (sym c.in-None-count.ensures))
