-- When a leaf of the small bound is tight.

use Rattle.std.proofs.Common.{◌≡◌, ◌≢◌, ◌↔◌, ℕ, Bool, true, false, cond, List, Option, Some, None, ℤ, refl, sym, ap, ◌∙◌, arith}
use Rattle.gap_box.specs.declared.cell.Cell.{Cell}
use Rattle.gap_box.specs.Cells.{AreCells}
use Rattle.gap_box.specs.Parts.{can_meet, IsPick, IsSingle}
use Rattle.gap_box.proofs.CountLaws.{meets_pick, pick_meets}
use Rattle.gap_model.specs.declared.leaf.Leaf.{Leaf}
use Rattle.gap_model.specs.declared.shown.Shown.{Shown}
use Rattle.gap_model.specs.declared.shown.Shown.TheVariants.{Nothing, AtLeast, Empty}
use Rattle.gap_model.specs.Tight.{is_tangent, IsTight}
use Rattle.gap_trials.specs.Small.{small_meets, cost_of, small}

-- what is told of an only list
abbrev pub told : ℕ → ℕ → List ℕ → Shown
told seed lots x = cond (small_meets lots x) (AtLeast (cost_of seed x)) Empty

clash : false ≡ true → ⊥
clash e = cc

told_something : (seed lots : ℕ) (x : List ℕ) → told seed lots x ≢ Nothing
told_something seed lots x e = by_test (small_meets lots x) e where
  by_test : (b : Bool) → cond b (AtLeast (cost_of seed x)) Empty ≡ Nothing → ⊥
  by_test true q = cc
  by_test false q = cc

-- a leaf that shows of the only list what is told of it is tight
pub tight_single : (seed lots : ℕ) (part : List Cell) (leaf : Leaf) (shown : Shown) (x : List ℕ) → IsSingle part 1 2 x → shown ≡ (small seed lots).shows part leaf → shown ≡ told seed lots x → (is_tangent leaf ≡ true → shown ≢ Empty) → IsTight (small seed lots) part leaf
tight_single seed lots part leaf shown x s e t h = record {
  none = λ out. absurd (out x s.pick);
  broken = λ z r m. here ∙ told_no (sym (ap (small_meets lots) (s.only z r.pick)) ∙ m);
  single = λ z r m. here ∙ told_yes (sym (ap (small_meets lots) (s.only z r.pick)) ∙ m) ∙ ap (λ (y : List ℕ). AtLeast (cost_of seed y)) (sym (s.only z r.pick));
  something = λ q. told_something seed lots x (sym here ∙ q);
  tangent = λ q z. h q (e ∙ z);
} where
  here : (small seed lots).shows part leaf ≡ told seed lots x
  here = sym e ∙ t

  told_no : small_meets lots x ≡ false → told seed lots x ≡ Empty
  told_no m = rw m refl

  told_yes : small_meets lots x ≡ true → told seed lots x ≡ AtLeast (cost_of seed x)
  told_yes m = rw m refl

-- a part has no single list where none was found
pub no_single : (part : List Cell) (found : Option (List ℕ)) → ((x : List ℕ) → (found ≡ Some x) ↔ IsSingle part 1 2 x) → found ≡ None → (x : List ℕ) → IsSingle part 1 2 x → ⊥
no_single part found h e x s = wrong (sym e ∙ (h x).1 s) where
  wrong : None ≡ Some x → ⊥
  wrong z = cc

-- a leaf that shows a number is tight where there is more than one list
pub tight_many : (seed lots : ℕ) (part : List Cell) (leaf : Leaf) (shown : Shown) → AreCells part → can_meet part 1 2 ≡ true → ((x : List ℕ) → IsSingle part 1 2 x → ⊥) → shown ≡ (small seed lots).shows part leaf → (v : ℤ) × (shown ≡ AtLeast v) → IsTight (small seed lots) part leaf
tight_many seed lots part leaf shown a m many e n = record {
  none = λ out. (let x = meets_pick part 1 2 a (omega arith) m in absurd (out x.0 x.1));
  broken = λ z r q. absurd (many z r);
  single = λ z r q. absurd (many z r);
  something = λ q. number (sym n.1 ∙ e ∙ q);
  tangent = λ q z. not_empty (sym n.1 ∙ e ∙ z);
} where
  number : AtLeast n.0 ≡ Nothing → ⊥
  number q = cc

  not_empty : AtLeast n.0 ≡ Empty → ⊥
  not_empty q = cc

-- a leaf that shows Empty is tight where the count can't be met
pub tight_empty : (seed lots : ℕ) (part : List Cell) (leaf : Leaf) (shown : Shown) → AreCells part → can_meet part 1 2 ≡ false → shown ≡ (small seed lots).shows part leaf → shown ≡ Empty → (is_tangent leaf ≡ true → shown ≢ Empty) → IsTight (small seed lots) part leaf
tight_empty seed lots part leaf shown a m e t h = record {
  none = λ out. sym e ∙ t;
  broken = λ z r q. absurd (no_pick z r.pick);
  single = λ z r q. absurd (no_pick z r.pick);
  something = λ q. number (sym t ∙ e ∙ q);
  tangent = λ q z. h q (e ∙ z);
} where
  no_pick : (z : List ℕ) → IsPick part 1 2 z → ⊥
  no_pick z p = clash (sym m ∙ pick_meets part 1 2 z a p)

  number : Empty ≡ Nothing → ⊥
  number q = cc
