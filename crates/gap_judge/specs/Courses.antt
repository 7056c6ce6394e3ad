-- What the items say, from what is kept of them. Own to portgap.

use Rattle.gap_cert.specs.Certificates.{CertHead}
use Rattle.gap_judge.specs.declared.course.Course.{Course}
use Rattle.gap_judge.specs.Progress.{Progress}
use Rattle.gap_judge.specs.Stops.{lots_or_none, parts_or_none}

abbrev pub progress_at : CertHead → Course → Progress
progress_at h c = record {
  head = h;
  told = c.told.items;
  weight = c.weight;
  outcome = c.outcome;
  lots = lots_or_none c.lots;
  best = c.best;
  bound = c.bound;
  overall = c.overall;
  parts = parts_or_none c.walk;
  splits = c.splits;
  least = c.least;
  ended = c.ended;
}
