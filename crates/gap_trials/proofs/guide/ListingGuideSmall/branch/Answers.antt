use Rattle.std.proofs.Common.{List, sym, ap, ◌∙◌, subst}
use Rattle.gap_box.specs.declared.cell.Cell.{Cell}
use Rattle.gap_box.specs.declared.split.Side.TheVariants.{First, Second}
use Rattle.gap_box.specs.Splits.{lawful_split, child_cells}
use Rattle.gap_model.specs.declared.shown.Shown.{Shown}
use Rattle.gap_model.specs.Order.{ShownLe}
use Rattle.gap_model.specs.Showing.{ShowsSo}
use Rattle.gap_search.specs.Boards.{FitsPart}
use Rattle.gap_trials.specs.Small.{small}
use Rattle.gap_trials.proofs.guide.ListingGuideSmall.branch.Goals as goal

pub returns-clause-fits_first : goal.returns-clause-fits_first
returns-clause-fits_first c = subst (λ (z : List Cell). FitsPart (small c.args.bound.now.seed c.args.bound.now.lots) z c.in-Some-leaf_for.first.leaf) (c.child-one.ensures.cells ∙ ap (λ (z : List Cell). child_cells z c.in-Some.split First) c.part-part.ensures) c.in-Some-leaf_for.ensures.fits

pub returns-clause-fits_second : goal.returns-clause-fits_second
returns-clause-fits_second c = subst (λ (z : List Cell). FitsPart (small c.args.bound.now.seed c.args.bound.now.lots) z c.in-Some-leaf_for-2.second.leaf) (c.child-two.ensures.cells ∙ ap (λ (z : List Cell). child_cells z c.in-Some.split Second) c.part-part.ensures) c.in-Some-leaf_for-2.ensures.fits

pub returns-clause-branch : goal.returns-clause-branch
returns-clause-branch c =
    let p = small c.args.bound.now.seed c.args.bound.now.lots in
    let here = c.part-part.ensures in
    let was = c.shown-was.ensures ∙ ap (λ (z : List Cell). p.shows z c.args.leaf.now) here in
    let one = c.in-Some-leaf_for in
    let two = c.in-Some-leaf_for-2 in
    let first = c.child-one.ensures.cells ∙ ap (λ (z : List Cell). child_cells z c.in-Some.split First) here in
    let second = c.child-two.ensures.cells ∙ ap (λ (z : List Cell). child_cells z c.in-Some.split Second) here in
    record {
      lawful = ap (λ (z : List Cell). lawful_split z c.in-Some.split) (sym here) ∙ sym c.lawful.ensures ∙ c.if-not-lawful.false;
      first_fits = subst (λ (z : List Cell). FitsPart p z one.first.leaf) first one.ensures.fits;
      second_fits = subst (λ (z : List Cell). FitsPart p z two.second.leaf) second two.ensures.fits;
      first_no_less = subst (λ (z : Shown). ShownLe z (p.shows (child_cells c.args.ticket.now.part c.in-Some.split First) one.first.leaf)) was (subst (λ (z : List Cell). ShownLe c.shown-was.result (p.shows z one.first.leaf)) first one.ensures.no_less);
      second_no_less = subst (λ (z : Shown). ShownLe z (p.shows (child_cells c.args.ticket.now.part c.in-Some.split Second) two.second.leaf)) was (subst (λ (z : List Cell). ShownLe c.shown-was.result (p.shows z two.second.leaf)) second two.ensures.no_less);
      first_shows = subst (λ (z : List Cell). ShowsSo p z one.first) first one.ensures.shows;
      second_shows = subst (λ (z : List Cell). ShowsSo p z two.second) second two.ensures.shows;
    }
