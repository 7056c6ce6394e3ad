-- Parts that have a tangent point. Own to portgap.
use Rattle.std.specs.Prelude.{◌≡◌, ◌≢◌, true, List, pos, negsuc}
use Rattle.gap_box.specs.declared.cell.Cell.{Cell}
use Rattle.gap_box.specs.Parts.{can_meet}
use Rattle.gap_model.specs.declared.leaf.Leaf.TheVariants.{Void}
use Rattle.gap_model.specs.declared.shown.Shown.TheVariants.{Empty}
use Rattle.gap_model.specs.Settings.{Setting}
use Rattle.gap_model.specs.Leaves.{shows}

-- the count can be met, and of the lists that meet it neither all have a sum above L nor all one below L
pub record HasTangentPoint (s : Setting) (part : List Cell) : Type 0 where
  pub counted : can_meet part s.instance.held s.instance.held_most ≡ true
  pub not_above : shows s part (Void (pos 1) (pos 0) (pos 0)) ≢ Empty
  pub not_below : shows s part (Void (negsuc 0) (pos 0) (pos 0)) ≢ Empty
