-- The list of eighths that entries give.
use Rattle.std.proofs.Common.{◌≡◌, ℕ, suc, ◌<◌, ◌≤◌, ◌==◌, ◌⊎◌, inl, inr, if◌then◌else◌, List, length, slice_get, slice_set, Some, pos, sym, ap, ◌∙◌, arith}
use Rattle.std.proofs.lemmas.Bool.{cases_eq}
use Rattle.gap_base.specs.Lots.{lots_at}
use Rattle.gap_base.specs.Sums.{natural_at}
use Rattle.gap_base.proofs.Ring.{if_same, if_other}
use Rattle.gap_base.proofs.Lists.{natural_at-set}
use Rattle.gap_model.specs.declared.leaf.Entry.{Entry}
use Rattle.gap_model.specs.Leaves.{eighths_at}
use Rattle.gap_tangent.proofs.EntryLaws.{IsFilled, drop_here}
use Rattle.gap_writer.specs.Pieces.{entered}

-- one more entry, from behind
pub filled_by : (n : ℕ) (entries : List Entry) (left : ℕ) (y z : List ℕ) (e : Entry) → IsFilled n entries (suc left) y → slice_get entries left ≡ Some e → length z ≡ length y → ((i : ℕ) → i < length y → lots_at z i ≡ entered e i (lots_at y i)) → IsFilled n entries left z
filled_by n entries left y z e f h l p =
    let w = f.few in
    let q = f.count in
    record {
      few = omega arith;
      count = l ∙ q;
      numbers = λ i k. p i (omega arith) ∙ ap (entered e i) (f.numbers i k) ∙ ap (λ (d : List Entry). eighths_at d i) (sym (drop_here entries left e h));
    }

-- an entry's eighths at its asset
pub entry_put : (y : List ℕ) (e : Entry) (i : ℕ) → e.asset < length y → lots_at (slice_set y e.asset e.eighths) i ≡ entered e i (lots_at y i)
entry_put y e i h = natural_at-set y e.asset i e.eighths h ∙ by_place (cases_eq i e.asset)
  where
    by_place : (i ≡ e.asset) ⊎ (i ≡ e.asset → ⊥) → (if i == e.asset then pos e.eighths else natural_at y i) ≡ entered e i (natural_at y i)
    by_place (inl w) = if_same i e.asset (pos e.eighths) (natural_at y i) w ∙ sym (if_same e.asset i (pos e.eighths) (natural_at y i) (sym w))
    by_place (inr w) = if_other i e.asset (pos e.eighths) (natural_at y i) w ∙ sym (if_other e.asset i (pos e.eighths) (natural_at y i) (λ t. w (sym t)))

pub entry_none : (y : List ℕ) (e : Entry) (i : ℕ) → length y ≤ e.asset → i < length y → lots_at y i ≡ entered e i (lots_at y i)
entry_none y e i h k = sym (if_other e.asset i (pos e.eighths) (lots_at y i) (λ t. omega (arith, t)))
