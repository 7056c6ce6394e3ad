use Rattle.std.proofs.Common.{length, sym, ◌∙◌}
use Rattle.std.proofs.lemmas.List.{length-map}
use Rattle.gap_model.specs.declared.outcome.Told.{Told}
use Rattle.gap_verify.specs.declared.field.Field.TheVariants.{Weights}
use Rattle.gap_verify.specs.Sides.{said_of}
use Rattle.gap_verify.proofs.SaidSame.{numbers_along}
use Rattle.gap_verify.proofs.sides.Sides.count.Goals as goal

pub returns : goal.returns
unfolding said_of
returns c =
    let told = c.args.self.now.told.now in
    numbers_along Weights (length told) _ c.from.result _ c.compared.result c.compared.ensures (sym (length-map told (λ (t : Told). t.weight))) (c.from.ensures ∙ c.len.ensures.length)
