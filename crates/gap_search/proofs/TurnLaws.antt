-- What workers hold after a turn.

use Rattle.std.proofs.Common.{◌≡◌, ℕ, suc, ◌+◌, ◌<◌, ◌⊎◌, inl, inr, List, [], ◌∷◌, length, slice_set, Option, Some, None, refl, sym, ap, ◌∙◌, subst, arith, length-set}
use Rattle.std.proofs.lemmas.Bool.{cases_eq}
use Rattle.std.proofs.lemmas.List.{set-get_or}
use Rattle.std.proofs.lemmas.List.Sums.{sum_by-cons}
use Rattle.gap_box.specs.declared.node.NodeId.{NodeId}
use Rattle.gap_model.specs.Problems.{Problem}
use Rattle.gap_search.specs.Boards.{Board, Claimed, node_held, one_held, tickets}
use Rattle.gap_search.specs.Steps.{Refusal, Claim}
use Rattle.gap_search.proofs.HeldLaws.{held_same, held_other, tickets_more}

-- who holds nothing lets nothing go
pub free_same : (held : List (Option NodeId)) (w : ℕ) → node_held held w ≡ None → held ≡ slice_set held w None
free_same held w e = sym (set-get_or held w None) ∙ ap (λ (o : Option NodeId). slice_set held w o) e

-- who claims a leaf holds one
pub claim_some : (p : Problem) (old : Board) (w : ℕ) (c : Claimed) (new : Board) → w < length old.held → Claim p old w (Some c) new → 0 < tickets new.held
claim_some p old w c new l s =
    let m = tickets_more old.held w c.node l s.1.free in
    let e : tickets new.held ≡ tickets (slice_set old.held w (Some c.node)) = ap (λ (b : Board). tickets b.held) s.3 in
    omega arith

pub claim_nodes : (p : Problem) (old : Board) (w : ℕ) (o : Option Claimed) (new : Board) → Claim p old w o new → new.nodes ≡ old.nodes
claim_nodes p old w None new s = ap (λ (b : Board). b.nodes) s.1
claim_nodes p old w (Some c) new s = ap (λ (b : Board). b.nodes) s.3

pub claim_places : (p : Problem) (old : Board) (w : ℕ) (o : Option Claimed) (new : Board) → Claim p old w o new → length new.held ≡ length old.held
claim_places p old w None new s = ap (λ (b : Board). length b.held) s.1
claim_places p old w (Some c) new s = ap (λ (b : Board). length b.held) s.3 ∙ length-set old.held w (Some c.node)

pub claim_budget : (p : Problem) (old : Board) (w : ℕ) (o : Option Claimed) (new : Board) → Claim p old w o new → new.budget ≡ old.budget
claim_budget p old w None new s = ap (λ (b : Board). b.budget) s.1
claim_budget p old w (Some c) new s = ap (λ (b : Board). b.budget) s.3

-- the workers before a number hold nothing
pub record AreFree (held : List (Option NodeId)) (n : ℕ) : Type 0 where
  pub each : (w : ℕ) → w < n → node_held held w ≡ None

pub free_next : (held new : List (Option NodeId)) (n : ℕ) → n < length held → new ≡ slice_set held n None → AreFree held n → AreFree new (n + 1)
free_next held new n l e h = subst (λ (z : List (Option NodeId)). AreFree z (n + 1)) (sym e) (record { each = λ w k. by_worker w k (cases_eq w n) }) where
  by_worker : (w : ℕ) → w < n + 1 → (w ≡ n) ⊎ (w ≡ n → ⊥) → node_held (slice_set held n None) w ≡ None
  by_worker w k (inl q) = ap (node_held (slice_set held n None)) q ∙ held_same held n None l
  by_worker w k (inr q) = held_other held n None w q ∙ h.each w (omega arith)

pub free_all : (held : List (Option NodeId)) → AreFree held (length held) → tickets held ≡ 0
free_all [] h = refl
free_all (o ∷ held) h =
    let r = free_all held (record { each = λ w l. h.each (suc w) (omega arith) }) in
    let e : one_held o ≡ 0 = ap one_held (h.each 0 (omega arith)) in
    let a = sum_by-cons one_held o held in
    omega arith

-- no worker before the next was granted a claim
pub none_next : {B : Type 0} (problem : B → Problem) (u v : B) (a b c : Board) (n : ℕ) → v ≡ u → (b ≡ a) × ((w : ℕ) → w < n → Refusal (problem u) a w) → c ≡ b → Refusal (problem v) b n → (c ≡ a) × ((w : ℕ) → w < n + 1 → Refusal (problem u) a w)
none_next problem u v a b c n e h f r = (f ∙ h.0, λ w l. by_worker w l (cases_eq w n)) where
  now : Refusal (problem u) a n
  now = subst (λ (z : Board). Refusal (problem u) z n) h.0 (subst (λ (z : _). Refusal (problem z) b n) e r)

  by_worker : (w : ℕ) → w < n + 1 → (w ≡ n) ⊎ (w ≡ n → ⊥) → Refusal (problem u) a w
  by_worker w l (inl q) = subst (λ (k : ℕ). Refusal (problem u) a k) (sym q) now
  by_worker w l (inr q) = h.1 w (omega arith)

-- the same refusals of a search with the same bound and as many workers
pub refusals_at : {B : Type 0} (problem : B → Problem) (u v : B) (b : Board) (m n : ℕ) → v ≡ u → n ≡ m → ((w : ℕ) → w < m → Refusal (problem u) b w) → (w : ℕ) → w < n → Refusal (problem v) b w
refusals_at problem u v b m n e f h w l = subst (λ (z : _). Refusal (problem z) b w) (sym e) (h w (omega arith))
