-- Contents in memory, by name. Own to portgap.
use Rattle.std.specs.Prelude.{◌≡◌, ℕ, ◌-◌, min, List, ◌++◌, length, take, drop, Option}
use Rattle.std.specs.Option.{option_map}
use Rattle.std.specs.BTreeMap.{get_by_text}
use Rattle.gap_files.specs.declared.store.Store.{Store}

-- the content of a name in a store: None where the file is missing
abbrev pub content_in : Store → List ℕ → Option (List ℕ)
content_in store name = option_map (λ held. held.items) (get_by_text store.held name)

-- as much of the content from `at` on as fits into the buffer came into its front, and the rest of it stays
pub record Copies (held : List ℕ) (at : ℕ) (old new : List ℕ) (count : ℕ) : Type 0 where
  pub size : count ≡ min (length old) (length held - at)
  pub bytes : new ≡ take count (drop at held) ++ drop count old
