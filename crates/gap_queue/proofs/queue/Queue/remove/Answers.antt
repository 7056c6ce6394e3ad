use Rattle.std.proofs.Common.{◌≡◌, ◌≢◌, ℕ, ◌<◌, ◌≤◌, List, length, ◌⊎◌, inl, inr, Option, Some, None, sym, ap, ◌∙◌, arith, ℤ}
use Rattle.std.proofs.lemmas.Bool.{cases_lt}
use Rattle.std.proofs.lemmas.List.{get_or_past}
use Rattle.gap_queue.specs.Keys.{key_at}
use Rattle.gap_queue.proofs.HeapLaws.{has_before}
use Rattle.gap_queue.proofs.queue.Queue.remove.Goals as goal

some_less : (o : Option ℤ) (k : ℤ) → o ≡ Some k → o ≢ None
some_less o k e f = cc

key_there : (keys : List (Option ℤ)) (n : ℕ) (k : ℤ) → key_at keys n ≡ Some k → n < length keys
key_there keys n k e = by_length (cases_lt n (length keys)) where
  by_length : (n < length keys) ⊎ (length keys ≤ n) → n < length keys
  by_length (inl q) = q
  by_length (inr q) = absurd (clash (sym (get_or_past keys n None q) ∙ e)) where
    clash : None ≡ Some k → ⊥
    clash z = cc

pub take_out-requires-clause-some : goal.take_out-requires-clause-some
take_out-requires-clause-some c =
    let e : c.self.inside.keys.items ≡ c.args.self.now = c.self.view_is in
    let f : key_at c.self.inside.keys.items c.args.node.0 ≡ Some c.in-Some.field-0 = ap (λ (l : List (Option ℤ)). key_at l c.args.node.0) e ∙ sym c.key.ensures ∙ c.in-Some.is in
    let b = has_before _ _ _ _ c.args.node.0 c.self.invariant (key_there _ _ _ f) (some_less _ _ f) in
    omega arith

pub overflow_sub-self : goal.overflow_sub-self
overflow_sub-self c =
    let e : c.self.inside.keys.items ≡ c.args.self.now = c.self.view_is in
    let f : key_at c.self.inside.keys.items c.args.node.0 ≡ Some c.in-Some.field-0 = ap (λ (l : List (Option ℤ)). key_at l c.args.node.0) e ∙ sym c.key.ensures ∙ c.in-Some.is in
    let b = has_before _ _ _ _ c.args.node.0 c.self.invariant (key_there _ _ _ f) (some_less _ _ f) in
    omega arith
