use Rattle.std.proofs.Common.{sym, ap, subst}
use Rattle.std.specs.Option.{ForSome}
use Rattle.gap_cert.specs.Certificates.{CertHead}
use Rattle.gap_valid.specs.Heads.{instance_in}
use Rattle.gap_valid.specs.CertTrees.{IsWitness}
use Rattle.gap_judge.specs.Progress.{Progress}
use Rattle.gap_judge.proofs.judge.Judge.take_witness.Goals as goal

pub take_overall-requires-clause-ranges : goal.take_overall-requires-clause-ranges
take_overall-requires-clause-ranges c = subst (λ (h : CertHead). ForSome c.args.w.now (IsWitness (instance_in h))) (sym (ap (λ (p : Progress). p.head) c.self.view_is)) c.requires.ranges
