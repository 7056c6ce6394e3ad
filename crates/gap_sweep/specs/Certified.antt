-- What the file of a sweep holds: a certificate, or a proper front of one. Own to portgap.

use Rattle.std.specs.Prelude.{◌≡◌, ℕ, ◌+◌, ◌<◌, ◌≤◌, List, ◌++◌, length, map, Option, Some}
use Rattle.gap_instance.specs.Instances.{InstanceValue, IsInstance}
use Rattle.gap_psd.specs.Shifts.{ShiftValue}
use Rattle.gap_cert.specs.declared.field.Version.TheVariants.{Two}
use Rattle.gap_cert.specs.Certificates.{CertSection, Certificate, spelling}
use Rattle.gap_valid.specs.Said.{IsSaid}
use Rattle.gap_valid.specs.HeadOf.{head_of}
use Rattle.gap_sweep.specs.Asked.{Asked, Done}
use Rattle.gap_sweep.specs.Runs.{HasDone}

-- what a sweep is asked is in its ranges: the instance is one, as a certificate's head says it, the budget is at most
-- 100000,
-- and there are 1 to 101 weights
pub record IsAsked (asked : Asked) : Type 0 where
  pub instance_is : IsInstance asked.instance
  pub said : IsSaid asked.instance
  pub nodes_most : asked.nodes ≤ 100000
  pub some : 1 ≤ length asked.weights
  pub few : length asked.weights ≤ 101

-- the sections of weights that were done
abbrev pub sections_of : List Done → List CertSection
sections_of done = map (λ d. d.section) done

-- the certificate with the head of a sweep and these sections
abbrev pub certificate : Asked → ShiftValue → List CertSection → Certificate
certificate asked shift sections = record { head = head_of asked.instance shift asked.nodes; sections = sections }

-- bytes are a front of others, and not all of them
pub record IsProperFront (bytes whole : List ℕ) : Type 0 where
  pub rest : List ℕ
  pub left : 0 < length rest
  pub split : whole ≡ bytes ++ rest

-- the file of a sweep that did all: the certificate whose sections are those of the weights, in version 2
pub record IsCertified (asked : Asked) (now : Option (List ℕ)) : Type 0 where
  pub shift : ShiftValue
  pub done : List Done
  pub has_done : HasDone asked shift done
  pub all : length done ≡ length asked.weights
  pub bytes : now ≡ Some (spelling Two (certificate asked shift (sections_of done)))

-- the file of a sweep that stopped: whatever sections come behind those of the weights that were done, so that there is one
-- for each weight, it is a proper front of their certificate in version 2
pub record IsCut (asked : Asked) (now : Option (List ℕ)) : Type 0 where
  pub shift : ShiftValue
  pub done : List Done
  pub has_done : HasDone asked shift done
  pub bytes : List ℕ
  pub now_is : now ≡ Some bytes
  pub proper : (more : List CertSection) → length done + length more ≡ length asked.weights
      → IsProperFront bytes (spelling Two (certificate asked shift (sections_of done ++ more)))
