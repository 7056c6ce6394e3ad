-- Which bytes are accepted, and with which verdict. Own to portgap.

use Rattle.std.specs.Prelude.{◌≡◌, ℕ, List}
use Rattle.gap_cert.specs.declared.field.Version.{Version}
use Rattle.gap_cert.specs.Certificates.{Certificate, Encodes}
use Rattle.gap_valid.specs.Valid.{IsValid}
use Rattle.gap_valid.specs.Verdicts.{VerdictValue, verdict_of}

-- bytes encode a valid certificate, in one version or the other, and this is what it tells
pub record Accepted (fed : List ℕ) (v : VerdictValue) : Type 0 where
  pub version : Version
  pub certificate : Certificate
  pub encodes : Encodes version fed certificate
  pub valid : IsValid certificate
  pub verdict_is : v ≡ verdict_of certificate
