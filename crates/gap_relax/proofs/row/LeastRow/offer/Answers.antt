use Rattle.std.proofs.Common.{FitsSigned, ◌≤◌, refl, ◌∙◌, subst, ℕ, rules}
use Rattle.std.proofs.lemmas.Int.{to_z-of_z}
use Rattle.std.specs.Int.{w128}
use Rattle.gap_relax.proofs.Order.{lt_false}
use Rattle.gap_relax.proofs.ExtraLaws.{kept_barred}
use Rattle.gap_relax.proofs.SeenLaws.{seen_offered}
use Rattle.gap_relax.proofs.row.LeastRow.offer.Goals as goal

pub returns-then-extra-self-clause-least : goal.returns-then-extra-self-clause-least
returns-then-extra-self-clause-least c =
    let fc = c.ranges.held_cost in
    let fs = c.ranges.held_slope in
    let fo = c.ranges.out_cost in
    let fp = c.ranges.out_slope in
    let e = simp to_z-of_z at c.add.ensures in
    let x = simp to_z-of_z at c.extra_of-extra.ensures in
    let k = c.keep.ensures in
    let room = subst (λ (n : ℕ). c.keep.new.self.count ≤ n) k.most c.keep.new.self.count_few in
    λ w h f p q r s. seen_offered w c.args.self.now c.add.new.self c.keep.new.self c.extra_of-extra.result c.args.held_cost c.args.held_slope c.args.out_cost c.args.out_slope f p q r s x.difference x.slope e.fewest e.most e.count e.extras (k.seen ∙ e.seen) (k.value ∙ e.value) (k.slope ∙ e.slope) k.fewest k.most k.kept room h

pub returns-else-extra-self-clause-least : goal.returns-else-extra-self-clause-least
returns-else-extra-self-clause-least c =
    let fc = c.ranges.held_cost in
    let fs = c.ranges.held_slope in
    let fo = c.ranges.out_cost in
    let fp = c.ranges.out_slope in
    let e = simp to_z-of_z at c.add.ensures in
    let x = simp to_z-of_z at c.extra_of-extra.ensures in
    let row = c.add.new.self in
    let extra = c.extra_of-extra.result in
    let fx : FitsSigned w128 extra.difference = search rules in
    let fb : FitsSigned w128 row.bar = search rules in
    let least = simp to_z-of_z at c.if-extra-self.false in
    let k = kept_barred row.extras row.count row.most extra row.bar row.barred x.small row.count_few (lt_false extra.difference row.bar least) in
    λ w h f p q r s. seen_offered w c.args.self.now row row extra c.args.held_cost c.args.held_slope c.args.out_cost c.args.out_slope f p q r s x.difference x.slope e.fewest e.most e.count e.extras e.seen e.value e.slope refl refl k row.count_few h
