-- The order of what leaves show.

use Rattle.std.proofs.Common.{ℤ, ◌≤ℤ◌, arith}
use Rattle.std.proofs.lemmas.Int.{ints}
use Rattle.gap_model.specs.declared.shown.Shown.{Shown}
use Rattle.gap_model.specs.declared.shown.Shown.TheVariants.{Nothing, AtLeast, Empty}
use Rattle.gap_model.specs.Order.{ShownLe}

pub shown_le_trans : (a b c : Shown) → ShownLe a b → ShownLe b c → ShownLe a c
shown_le_trans Nothing b c p q = tt
shown_le_trans (AtLeast x) Nothing c p q = absurd p
shown_le_trans (AtLeast x) (AtLeast y) Nothing p q = absurd q
shown_le_trans (AtLeast x) (AtLeast y) (AtLeast z) p q = omega (arith, ints)
shown_le_trans (AtLeast x) (AtLeast y) Empty p q = tt
shown_le_trans (AtLeast x) Empty Nothing p q = absurd q
shown_le_trans (AtLeast x) Empty (AtLeast z) p q = absurd q
shown_le_trans (AtLeast x) Empty Empty p q = tt
shown_le_trans Empty Nothing c p q = absurd p
shown_le_trans Empty (AtLeast y) c p q = absurd p
shown_le_trans Empty Empty c p q = q
