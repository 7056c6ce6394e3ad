use Rattle.std.proofs.Common.{◌≡◌, ◌↔◌, Err, sym, subst, ◌∙◌}
use Rattle.gap_base.specs.NumeralViews.{parts_view}
use Rattle.gap_base.proofs.NumeralParts.{parts_are_digits, numeral_from}
use Rattle.gap_base.proofs.Spelled.{spelled_value, none_spelled, none_value}
use Rattle.gap_base.proofs.Unspelled.{shape_exactly}
use Rattle.gap_base.specs.Numerals.{Parts}
use Rattle.gap_base.specs.Spellings.{Spells}
use Rattle.gap_base.specs.declared.numeral_fault.NumeralFault.TheVariants.{Shape}
use Rattle.gap_base.proofs.numeral.read_numeral.Goals as goal

-- src/numeral.rt:128:1
pub returns-in-Some-clause-value : goal.returns-in-Some-clause-value
returns-in-Some-clause-value c =
    c.valued.ensures (parts_are_digits c.args.token.now (parts_view c.in-Some.p) c.in-Some.ensures)
    ∙ numeral_from c.args.token.now (parts_view c.in-Some.p) c.in-Some.ensures

pub returns-in-Some-clause-spelled : goal.returns-in-Some-clause-spelled
returns-in-Some-clause-spelled c p s =
    c.valued.ensures (parts_are_digits c.args.token.now (parts_view c.in-Some.p) c.in-Some.ensures)
    ∙ numeral_from c.args.token.now (parts_view c.in-Some.p) c.in-Some.ensures ∙ spelled_value c.args.token.now p s

pub returns-in-None-clause-spelled : goal.returns-in-None-clause-spelled
returns-in-None-clause-spelled c p s = absurd (none_spelled c.args.token.now p c.in-None.ensures s)

pub returns-in-Some-clause-shape : goal.returns-in-Some-clause-shape
returns-in-Some-clause-shape c =
    subst (λ r. (r ≡ Err Shape) ↔ ((p : Parts) → Spells c.args.token.now p → ⊥))
    (sym (c.valued.ensures (parts_are_digits c.args.token.now (parts_view c.in-Some.p) c.in-Some.ensures) ∙ numeral_from c.args.token.now (parts_view c.in-Some.p) c.in-Some.ensures))
    (shape_exactly c.args.token.now)

pub returns-in-None-clause-shape : goal.returns-in-None-clause-shape
returns-in-None-clause-shape c =
    subst (λ r. (r ≡ Err Shape) ↔ ((p : Parts) → Spells c.args.token.now p → ⊥)) (sym (none_value c.args.token.now c.in-None.ensures)) (shape_exactly c.args.token.now)
