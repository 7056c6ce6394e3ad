use Rattle.std.proofs.Common.{◌≡◌, ◌<◌, ℕ, map, length, slice_index_or}
use Rattle.gap_judge.proofs.built.greatest_of.Given as goal

abbrev pub invariant-loop-i : goal.invariant-loop-i
invariant-loop-i l = (length l.list ≡ l.head.n) × ((k : ℕ) → k < l.i → slice_index_or l.list k 0 ≡ slice_index_or (map (λ a. a.greatest) l.head.assets) k 0)
