-- The bytes of the parts of items, in version 2. Own to portgap.

use Rattle.std.specs.Prelude.{ℕ, ◌==◌, if◌then◌else◌, cond, nat_lt, List, [], ◌++◌, ℤ, pos}
use Rattle.gap_base.specs.declared.weight.Weight.{Weight}
use Rattle.gap_model.specs.declared.outcome.Best.{Best}
use Rattle.gap_model.specs.declared.leaf.Entry.{Entry}
use Rattle.gap_cert.specs.declared.field.Version.TheVariants.{Two}
use Rattle.gap_cert.specs.Bytes.{be, signed_be}
use Rattle.gap_cert.specs.Fields.{portfolio_bytes, overall_bytes}
use Rattle.gap_cert.specs.Certificates.{CertClaim, closed, none, open_at, unfound}

-- an entry of a list: the asset's number and the number of lots or eighths, and nothing where that is 0
abbrev pub one_entry : (width asset v : ℕ) → List ℕ
one_entry width asset v = cond (nat_lt 0 v) (be 2 asset ++ be width v) []

-- 1 where a number is positive
abbrev pub one_held : ℕ → ℕ
one_held v = cond (nat_lt 0 v) 1 0

-- the weight of a section and the number of its outcome
abbrev pub start_bytes : Weight → ℕ → List ℕ
start_bytes weight outcome = be 1 weight.p ++ be 1 weight.q ++ be 1 outcome

-- a portfolio and its objective
abbrev pub best_bytes : Best → List ℕ
best_bytes best = portfolio_bytes Two best.lots ++ signed_be 16 best.value

-- what a section claims, behind the number of its outcome
abbrev pub claim_bytes : CertClaim → List ℕ
claim_bytes (closed best overall) = best_bytes best ++ overall_bytes overall
claim_bytes none = []
claim_bytes (open_at best bound overall) = best_bytes best ++ signed_be 16 bound ++ overall_bytes overall
claim_bytes (unfound bound overall) = signed_be 16 bound ++ overall_bytes overall

-- the eighths of an asset behind an entry that is read before the ones that gave it this many
abbrev pub entered : Entry → ℕ → ℤ → ℤ
entered e i v = if e.asset == i then pos e.eighths else v
