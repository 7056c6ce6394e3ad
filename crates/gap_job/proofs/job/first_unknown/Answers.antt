use Rattle.std.proofs.Common.{rules, tests, not, string_bytes}
use Rattle.std.proofs.lemmas.Iterator.Consumers.{YieldsList-from_rest}
use Rattle.std.proofs.lemmas.Iterator.Search.{position_from_yields_List}
use Rattle.std.specs.BTreeMap.{keys}
use Rattle.gap_job.specs.Jobs.{is_known}
use Rattle.gap_job.proofs.Readings.{position_or_len-map}
use Rattle.gap_job.proofs.job.first_unknown.Goals as goal

pub returns : goal.returns
returns c =
    rw (position_or_len-map (λ name. not (is_known name)) string_bytes (keys c.args.members.now))
    (position_from_yields_List (λ name. not (is_known (string_bytes name))) _ _ _ c.position.ensures.ran (YieldsList-from_rest _ c.keys.ensures.rest) (λ x b q k. search (rules, tests)))
