use Rattle.std.proofs.Common.{◌≡◌, ℕ, ◌+◌, ◌<◌, List, [], ◌∷◌, ◌++◌, length, take, slice_index_or, sym, ap, ◌∙◌, arith, add-one, length-take}
use Rattle.std.proofs.Math.Seq.{take-suc}
use Rattle.gap_model.specs.declared.leaf.Entry.{Entry}
use Rattle.gap_leaf.specs.Entries.{point_entries}
use Rattle.gap_leaf.proofs.EntryLaws.{entries_more}
use Rattle.gap_leaf.proofs.placing.entries_of.Goals as goal

-- one number more
one_more : (y : List ℕ) (i v : ℕ) → i < length y → v ≡ slice_index_or y i 0 → take (i + 1) y ≡ take i y ++ v ∷ []
one_more y i v h e = rw (add-one i, take-suc y i 0 h) (ap (λ (n : ℕ). take i y ++ n ∷ []) (sym e))

entry_more : (before after : List Entry) (y : List ℕ) (i v : ℕ) → i < length y → v ≡ slice_index_or y i 0 → before ≡ point_entries 0 (take i y) → after ≡ before ++ point_entries i (v ∷ []) → after ≡ point_entries 0 (take (i + 1) y)
entry_more before after y i v h e b a =
    let l : 0 + length (take i y) ≡ i = omega (arith, length-take i y) in
    a ∙ (ap (λ (r : List Entry). r ++ point_entries i (v ∷ [])) b
    ∙ (ap (λ (k : ℕ). point_entries 0 (take i y) ++ point_entries k (v ∷ [])) (sym l)
    ∙ (sym (entries_more 0 (take i y) (v ∷ [])) ∙ ap (point_entries 0) (sym (one_more y i v h e)))))

pub loop-i-preserved : goal.loop-i-preserved
loop-i-preserved c = record {
  entries = entry_more _ _ c.args.y.now c.loop-i.i c.get.result (omega arith) c.get.ensures.or_zero c.loop-i.invariant.entries c.add_entry.ensures.entries;
  few = let a = c.add_entry.ensures.count in let b = c.loop-i.invariant.few in omega arith;
}
