-- Parts of a group as they are read: the first bytes, and one entry of a list. Own to portgap.

use Rattle.std.specs.Prelude.{ℕ, ◌+◌, if◌then◌else◌, nat_lt, nat_le, Result, Ok, Err}
use Rattle.gap_model.specs.declared.cert_fault.CertKind.TheVariants.{Magic, Range, Order}
use Rattle.gap_cert.specs.declared.field.Stop.{Stop}
use Rattle.gap_cert.specs.Formats.{Spot, natural_at, fault_back, ◌>>=◌}
use Rattle.gap_scan.specs.declared.groups.Entry.{Entry}

-- the first bytes read: the eighth
unfoldable pub version_at : Spot → Result (ℕ × Spot) Stop
version_at s =
    natural_at 1 Magic 71 71 s >>= λ a. natural_at 1 Magic 65 65 a.1 >>= λ b. natural_at 1 Magic 80 80 b.1 >>= λ c.
    natural_at 1 Magic 67 67 c.1 >>= λ d. natural_at 1 Magic 69 69 d.1 >>= λ e. natural_at 1 Magic 82 82 e.1 >>= λ f.
    natural_at 1 Magic 84 84 f.1 >>= λ g. natural_at 1 Magic 49 50 g.1

-- where an entry was read, its asset and number, and where the reading stands; or why not
unfoldable pub entry_at : (n width greatest most last total : ℕ) → Spot → Result (Entry × Spot) Stop
entry_at n width greatest most last total s =
    natural_at 2 Range 1 n s >>= λ a.
    (if nat_lt last a.0
    then (natural_at width Range 1 greatest a.1 >>= λ v.
    (if nat_le (total + v.0) most then Ok (record { asset = a.0; number = v.0 }, v.1) else Err
    (fault_back (2 + width) Range v.1)))
    else Err (fault_back 2 Order a.1))
