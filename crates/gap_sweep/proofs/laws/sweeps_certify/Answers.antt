use Rattle.gap_sweep.proofs.SpellLaws.{finished_certifies}
use Rattle.gap_sweep.proofs.CertLaws.{certificate_valid, certificate_encoded}
use Rattle.gap_sweep.proofs.laws.sweeps_certify.Goals as goal

pub returns-clause-bytes : goal.returns-clause-bytes
returns-clause-bytes c = λ asked name f s g t runs. finished_certifies asked name f s g t runs.solves

pub returns-clause-valid : goal.returns-clause-valid
returns-clause-valid c = certificate_valid

pub returns-clause-encoded : goal.returns-clause-encoded
returns-clause-encoded c = certificate_encoded
