use Rattle.std.proofs.Common.{◌<◌, length, ap, sym, get_or}
use Rattle.std.proofs.lemmas.List.{get_or-map}
use Rattle.std.proofs.lemmas.Option.{get_or_from_slice_get}
use Rattle.gap_base.specs.declared.weight.Weight.{Weight}
use Rattle.gap_model.specs.declared.outcome.Told.{Told}
use Rattle.gap_verify.specs.declared.field.Field.TheVariants.{Weight as Chosen}
use Rattle.gap_verify.specs.declared.said.Said.TheVariants.{Fraction}
use Rattle.gap_verify.specs.Sides.{said_of}
use Rattle.gap_verify.proofs.SaidSame.{compared_along}
use Rattle.gap_verify.proofs.sides.Sides.weight.Goals as goal

pub returns : goal.returns
unfolding said_of
returns c =
    let told = c.args.self.now.told.now in
    let read : Weight = (get_or told c.from.result c.index-self-from.result).weight in
    let same : c.args.k < length told = c.requires.told_in in
    compared_along (Chosen c.args.k) (Fraction read) _ (Fraction c.get.result) _ c.compared.result c.compared.ensures
    (ap Fraction (rw c.from.ensures (sym (get_or-map (λ (t : Told). t.weight) told c.args.k c.index-self-from.result (record { p = 0; q = 1 }) same))))
    (ap Fraction (sym (get_or_from_slice_get c.args.self.now.job.now.weights c.args.k c.get.result (record { p = 0; q = 1 }) c.get.ensures)))
