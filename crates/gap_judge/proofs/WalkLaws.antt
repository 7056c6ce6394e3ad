-- The parts to come behind a climb and a split.
use Rattle.std.proofs.Common.{◌≡◌, ℕ, zero, suc, ◌<◌, Bool, true, false, List, [], ◌∷◌, ◌++◌, length, reverse, slice_index_or, slice_set, IsTrue, refl, sym, ap, ◌∙◌, subst, arith, length-set, get_or-set_same}
use Rattle.std.proofs.lemmas.List.{reverse-append, set-set, set-get_or}
use Rattle.gap_box.specs.declared.cell.Cell.{Cell}
use Rattle.gap_box.specs.declared.cell.Cell.TheVariants.{Out}
use Rattle.gap_box.specs.declared.split.Split.{Split}
use Rattle.gap_box.specs.declared.split.Split.TheVariants.{Held as Hold, Lots as Cut}
use Rattle.gap_box.specs.declared.split.Side.{Side}
use Rattle.gap_box.specs.declared.split.Side.TheVariants.{First, Second}
use Rattle.gap_box.specs.Cells.{IsCell, is_free}
use Rattle.gap_box.specs.Splits.{lawful_split, can_cut, child_cells}
use Rattle.gap_box.specs.Narrow.{asset_of, narrowed}
use Rattle.gap_box.proofs.NarrowLaws.{narrowed_child}
use Rattle.gap_judge.specs.declared.level.Level.{Level}
use Rattle.gap_judge.specs.Walks.{around, pending, lawful_cell, IsLevel, AreLevels}

pub below : (cells : List Cell) (i : ℕ) → is_free (slice_index_or cells i Out) ≡ true → i < length cells
below [] i e = cc
below (c ∷ cells) zero e = omega arith
below (c ∷ cells) (suc i) e = let h = below cells i e in omega (arith, h)

pub cut_below : (cells : List Cell) (i t : ℕ) → can_cut (slice_index_or cells i Out) t ≡ true → i < length cells
cut_below [] i t e = cc
cut_below (c ∷ cells) zero t e = omega arith
cut_below (c ∷ cells) (suc i) t e = let h = cut_below cells i t e in omega (arith, h)

-- a lawful split speaks of an asset that is there
pub lawful_there : (cells : List Cell) (s : Split) → IsTrue (lawful_split cells s) → asset_of s < length cells
lawful_there cells (Hold i) e = below cells i e
lawful_there cells (Cut i t) e = cut_below cells i t e

-- a split is lawful by the cell of its asset alone
by_cell : (cells : List Cell) (s : Split) → lawful_split cells s ≡ lawful_cell s (slice_index_or cells (asset_of s) Out)
by_cell cells (Hold i) = refl
by_cell cells (Cut i t) = refl

pub lawful_around : (part : List Cell) (level : Level) → IsLevel (length part) level → IsTrue (lawful_split (around part level) level.split)
lawful_around part level h =
    let e : slice_index_or (around part level) (asset_of level.split) Out ≡ level.replaced = get_or-set_same part (asset_of level.split) level.replaced Out h.there in
    by_cell (around part level) level.split ∙ ap (lawful_cell level.split) e ∙ h.lawful

-- the cell that a split replaces, put back
child_back : (cells : List Cell) (s : Split) (a : Side) → slice_set (child_cells cells s a) (asset_of s) (slice_index_or cells (asset_of s) Out) ≡ cells
child_back cells (Hold i) a = set-set cells i _ _ ∙ set-get_or cells i Out
child_back cells (Cut i t) a = set-set cells i _ _ ∙ set-get_or cells i Out

abbrev level_of : Split → Cell → Bool → Level
level_of s c first = record { split = s; replaced = c; in_first = first }

-- the level that a split makes
pub entered : (cells : List Cell) (s : Split) → IsCell (slice_index_or cells (asset_of s) Out) → IsTrue (lawful_split cells s) → IsLevel (length cells) (level_of s (slice_index_or cells (asset_of s) Out) true)
entered cells s v e = record { there = lawful_there cells s e; cell = v; lawful = sym (by_cell cells s) ∙ e }

-- behind a split the second side is to come, and then what was
pub split_pending : (cells new : List Cell) (s : Split) (levels : List Level) → IsTrue (lawful_split cells s) → new ≡ narrowed cells s First →
    new ∷ pending new (level_of s (slice_index_or cells (asset_of s) Out) true ∷ levels) ≡ child_cells cells s First ∷ child_cells cells s Second ∷ pending cells levels
unfolding pending
split_pending cells new s levels e q =
    let n : new ≡ child_cells cells s First = q ∙ narrowed_child cells s First e in
    let b : slice_set new (asset_of s) (slice_index_or cells (asset_of s) Out) ≡ cells = ap (λ (l : List Cell). slice_set l (asset_of s) (slice_index_or cells (asset_of s) Out)) n ∙ child_back cells s First in
    ap (λ (l : List Cell). l ∷ child_cells (slice_set new (asset_of s) (slice_index_or cells (asset_of s) Out)) s Second ∷ pending (slice_set new (asset_of s) (slice_index_or cells (asset_of s) Out)) levels) n
    ∙ ap (λ (l : List Cell). child_cells cells s First ∷ child_cells l s Second ∷ pending l levels) b

-- the levels above a node on the first side, where it is left for the second
pub second_pending : (part back new : List Cell) (level : Level) (levels : List Level) → IsLevel (length part) level → level.in_first ≡ true →
    back ≡ around part level → new ≡ narrowed back level.split Second →
    new ∷ pending new (level_of level.split level.replaced false ∷ levels) ≡ pending part (level ∷ levels)
unfolding pending
second_pending part back new level levels h f p q =
    let l = lawful_around part level h in
    let e : new ≡ child_cells (around part level) level.split Second = q ∙ ap (λ (c : List Cell). narrowed c level.split Second) p ∙ narrowed_child (around part level) level.split Second l in
    let r : slice_index_or (around part level) (asset_of level.split) Out ≡ level.replaced = get_or-set_same part (asset_of level.split) level.replaced Out h.there in
    let b : slice_set new (asset_of level.split) level.replaced ≡ around part level =
    ap (λ (c : List Cell). slice_set c (asset_of level.split) level.replaced) e ∙ ap (slice_set (child_cells (around part level) level.split Second) (asset_of level.split)) (sym r) ∙ child_back (around part level) level.split Second in
    rw f (ap (λ (c : List Cell). c ∷ pending (slice_set new (asset_of level.split) level.replaced) levels) e ∙ ap (λ (c : List Cell). child_cells (around part level) level.split Second ∷ pending c levels) b)

-- the levels above a node on the second side
pub first_pending : (part back : List Cell) (level : Level) (levels : List Level) → level.in_first ≡ false → back ≡ around part level → pending back levels ≡ pending part (level ∷ levels)
unfolding pending
first_pending part back level levels f p = rw f (ap (λ (c : List Cell). pending c levels) p)

pub none_pending : (part : List Cell) → pending part [] ≡ []
unfolding pending
none_pending part = refl

-- the levels, the inmost first, of which the last was taken or put
pub reverse_last : (rest levels : List Level) (level : Level) → levels ≡ rest ++ level ∷ [] → reverse levels ≡ level ∷ reverse rest
reverse_last rest levels level e = ap reverse e ∙ reverse-append rest (level ∷ [])

-- the levels below the inmost one, over as many assets
levels_below : (part back : List Cell) (rest levels : List Level) (level : Level) → AreLevels (length part) (reverse levels) → levels ≡ rest ++ level ∷ [] → IsLevel (length part) level × AreLevels (length part) (reverse rest)
levels_below part back rest levels level h e = subst (AreLevels (length part)) (reverse_last rest levels level e) h

-- where a level is left for its second side
pub climb_second : (part back new : List Cell) (rest levels pushed : List Level) (level : Level) → AreLevels (length part) (reverse levels) → levels ≡ rest ++ level ∷ [] →
    pushed ≡ rest ++ level_of level.split level.replaced false ∷ [] → level.in_first ≡ true → back ≡ around part level → new ≡ narrowed back level.split Second → new ∷ pending new (reverse pushed) ≡ pending part (reverse levels)
climb_second part back new rest levels pushed level h e p f b n =
    ap (λ (l : List Level). new ∷ pending new l) (reverse_last rest pushed (level_of level.split level.replaced false) p)
    ∙ second_pending part back new level (reverse rest) (levels_below part back rest levels level h e).0 f b n ∙ ap (pending part) (sym (reverse_last rest levels level e))

-- where a level is left for the one above it
pub climb_up : (part back : List Cell) (rest levels : List Level) (level : Level) → levels ≡ rest ++ level ∷ [] → level.in_first ≡ false → back ≡ around part level → pending back (reverse rest) ≡ pending part (reverse levels)
climb_up part back rest levels level e f b = first_pending part back level (reverse rest) f b ∙ ap (pending part) (sym (reverse_last rest levels level e))

pub climb_kept : (part back : List Cell) (rest levels : List Level) (level : Level) → AreLevels (length part) (reverse levels) → levels ≡ rest ++ level ∷ [] → back ≡ around part level → AreLevels (length back) (reverse rest)
climb_kept part back rest levels level h e b =
    let l : length back ≡ length part = ap length b ∙ length-set part (asset_of level.split) level.replaced in
    subst (λ (n : ℕ). AreLevels n (reverse rest)) (sym l) (levels_below part back rest levels level h e).1

-- where no level is left
pub climb_end : (part : List Cell) (levels : List Level) → levels ≡ [] → pending part (reverse levels) ≡ []
climb_end part levels e = ap (λ (l : List Level). pending part (reverse l)) e ∙ none_pending part

-- behind a split
pub split_next : (cells new : List Cell) (s : Split) (cell : Cell) (levels pushed : List Level) → IsTrue (lawful_split cells s) → cell ≡ slice_index_or cells (asset_of s) Out → pushed ≡ levels ++ level_of s cell true ∷ [] → new ≡ narrowed cells s First →
    new ∷ pending new (reverse pushed) ≡ child_cells cells s First ∷ child_cells cells s Second ∷ pending cells (reverse levels)
split_next cells new s cell levels pushed h e p n =
    ap (λ (l : List Level). new ∷ pending new l) (reverse_last levels pushed (level_of s cell true) p ∙ ap (λ (c : Cell). level_of s c true ∷ reverse levels) e) ∙ split_pending cells new s (reverse levels) h n
