-- What NEW holds after an upgrade that stopped. Own to portgap.
use Rattle.std.specs.Prelude.{◌≡◌, ℕ, ◌⊎◌, List, [], Option, Some}
use Rattle.gap_cert.specs.Certificates.{Certificate}
use Rattle.gap_upgrade.specs.Upgrading.{HoldsFront}

-- a file holds what it held, or nothing, or a proper front of the encoding of a certificate in version 2
abbrev pub LeavesFront : Certificate → Option (List ℕ) → Option (List ℕ) → Type 0
LeavesFront c before now = (now ≡ before) ⊎ ((now ≡ Some []) ⊎ HoldsFront c now)
