-- Names with a count each. Own to portgap.
use Rattle.std.specs.Prelude.{ℕ, List}
use Rattle.std.specs.Option.{unwrap_or}
use Rattle.std.specs.BTreeMap.{get_by_text}
use Rattle.gap_files.specs.declared.tally.Tally.{Tally}

-- the count of a name in a tally: 0 where the name isn't in it
abbrev pub count_of : Tally → List ℕ → ℕ
count_of tally name = unwrap_or (get_by_text tally.counts name) 0
