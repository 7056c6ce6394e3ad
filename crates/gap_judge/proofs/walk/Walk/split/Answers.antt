-- Both sides come in the place of the part.
use Rattle.std.proofs.Common.{◌≡◌, ℕ, Bool, true, false, List, [], ◌∷◌, ◌++◌, reverse, slice_index_or, refl, sym, ap, ◌∙◌, subst}
use Rattle.gap_box.specs.declared.cell.Cell.{Cell}
use Rattle.gap_box.specs.declared.cell.Cell.TheVariants.{Out}
use Rattle.gap_box.specs.declared.split.Split.{Split}
use Rattle.gap_box.specs.declared.split.Side.TheVariants.{First}
use Rattle.gap_box.specs.Narrow.{asset_of, narrowed}
use Rattle.gap_judge.specs.declared.level.Level.{Level}
use Rattle.gap_judge.specs.Walks.{parts_to_come, splits_first, IsLawfulNext}
use Rattle.gap_judge.proofs.WalkLaws.{split_next}
use Rattle.gap_judge.proofs.walk.Walk.split.Goals as goal

-- a split of a walk that isn't whole
by_whole : (whole : Bool) (cells new : List Cell) (s : Split) (cell : Cell) (levels pushed : List Level) → IsLawfulNext (parts_to_come whole cells levels) s → cell ≡ slice_index_or cells (asset_of s) Out →
    (r : List Level) → levels ≡ reverse r → pushed ≡ r ++ record { split = s; replaced = cell; in_first = true } ∷ [] → new ≡ narrowed cells s First → parts_to_come whole new (reverse pushed) ≡ splits_first (parts_to_come whole cells levels) s
by_whole true cells new s cell levels pushed h e r k p n = cc
by_whole false cells new s cell levels pushed h e r k p n =
    split_next cells new s cell r pushed h e p n ∙ ap (λ (l : List Level). splits_first (parts_to_come false cells l) s) (sym k)

pub returns-clause-ok : goal.returns-clause-ok
returns-clause-ok c =
    let w = c.self.inside.whole in
    let l = reverse c.self.inside.levels.items in
    by_whole w c.self.inside.part c.narrow.new.self c.args.split c.cell-replaced.result l c.push.new.self.items
    (subst (λ (v : List (List Cell)). IsLawfulNext v c.args.split) (sym c.self.view_is) c.requires)
    (c.cell-replaced.ensures.or_out ∙ ap (λ (i : ℕ). slice_index_or c.self.inside.part i Out) c.asset_of.ensures) c.self.inside.levels.items refl c.in_ok-push.ensures.items c.narrow.ensures
    ∙ ap (λ (v : List (List Cell)). splits_first v c.args.split) c.self.view_is
