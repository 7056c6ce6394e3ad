-- The parts of a tree's nodes, and those that are to come where the tree is read in order. Own to portgap.

use Rattle.std.specs.Prelude.{ℕ, ◌<◌, Bool, true, false, if◌then◌else◌, List, [], ◌∷◌, ◌++◌, drop, fold, slice_set, IsTrue}
use Rattle.gap_box.specs.declared.cell.Cell.{Cell}
use Rattle.gap_box.specs.declared.split.Split.{Split}
use Rattle.gap_box.specs.declared.split.Split.TheVariants.{Held as Hold, Lots as Cut}
use Rattle.gap_box.specs.declared.split.Side.TheVariants.{First, Second}
use Rattle.gap_box.specs.Cells.{IsCell, is_free}
use Rattle.gap_box.specs.Splits.{lawful_split, can_cut, child_cells}
use Rattle.gap_box.specs.Narrow.{asset_of}
use Rattle.gap_cert.specs.declared.field.Field.{Field}
use Rattle.gap_cert.specs.declared.field.Field.TheVariants as field
use Rattle.gap_cert.specs.Certificates.{CertTree, tip, fork}
use Rattle.gap_judge.specs.declared.level.Level.{Level}

-- the parts of a tree's nodes where its root has a part, each node before those of its first side and these before those
-- of its second
unfoldable pub node_parts : List Cell → CertTree → List (List Cell)
node_parts part (tip leaf) = part ∷ []
node_parts part (fork split first second) =
    part ∷ (node_parts (child_cells part split First) first ++ node_parts (child_cells part split Second) second)

-- the parts to come behind a split: both of its sides' in the place of the first
abbrev pub splits_first : List (List Cell) → Split → List (List Cell)
splits_first [] split = []
splits_first (part ∷ parts) split = child_cells part split First ∷ child_cells part split Second ∷ parts

-- a split is lawful at the first of the parts to come
abbrev pub IsLawfulNext : List (List Cell) → Split → Type 0
IsLawfulNext [] split = IsTrue false
IsLawfulNext (part ∷ parts) split = IsTrue (lawful_split part split)

-- the parts to come behind an item of a tree
abbrev pub behind_item : List (List Cell) → Field → List (List Cell)
behind_item parts (field.Split split) = splits_first parts split
behind_item parts _ = drop 1 parts

-- the parts to come behind items
abbrev pub walked : List (List Cell) → List Field → List (List Cell)
walked parts fields = fold behind_item parts fields

-- the part at a level, from a part below it: with the cell that its split made smaller
abbrev pub around : List Cell → Level → List Cell
around part level = slice_set part (asset_of level.split) level.replaced

-- the parts to come behind a node's, from the levels above it, the inmost first: the second side of each on whose first
-- side the node is
unfoldable pub pending : List Cell → List Level → List (List Cell)
pending part [] = []
pending part (level ∷ levels) =
    if level.in_first then child_cells (around part level) level.split Second ∷ pending (around part level) levels
    else pending (around part level) levels

-- the parts to come, a node's first, where the tree isn't whole
abbrev pub parts_to_come : Bool → List Cell → List Level → List (List Cell)
parts_to_come true part levels = []
parts_to_come false part levels = part ∷ pending part levels

-- is a split lawful at a part with this cell?
abbrev pub lawful_cell : Split → Cell → Bool
lawful_cell (Hold i) cell = is_free cell
lawful_cell (Cut i t) cell = can_cut cell t

-- a level of a tree over so many assets: its split speaks of one of them, and is lawful at the cell that it replaced
pub record IsLevel (n : ℕ) (level : Level) : Type 0 where
  pub there : asset_of level.split < n
  pub cell : IsCell level.replaced
  pub lawful : IsTrue (lawful_cell level.split level.replaced)

abbrev pub AreLevels : ℕ → List Level → Type 0
AreLevels n [] = Unit {0}
AreLevels n (level ∷ levels) = IsLevel n level × AreLevels n levels
