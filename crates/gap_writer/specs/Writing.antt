-- What a writer of certificates has, and what items add to it. Own to portgap.

use Rattle.std.specs.Prelude.{ℕ, List, [], ◌∷◌, ◌++◌, Option, None}
use Rattle.gap_base.specs.declared.witness.Witness.{Witness}
use Rattle.gap_cert.specs.declared.field.Version.TheVariants.{Two}
use Rattle.gap_cert.specs.declared.field.Field.{Field}
use Rattle.gap_cert.specs.declared.field.Field.TheVariants as field
use Rattle.gap_cert.specs.Fields.{bytes_of}
use Rattle.gap_cert.specs.Certificates.{last_behind, spelled}

-- the bytes that were written and not dropped, and the witness of the last tangent leaf of the tree that is being written
pub record Written : Type 0 where
  pub bytes : List ℕ
  pub last : Option Witness

-- before the first item
abbrev pub blank : Written
blank = record { bytes = []; last = None }

-- behind an item: its bytes in version 2 come behind those that are there
abbrev pub put : Written → Field → Written
put w field = record { bytes = w.bytes ++ bytes_of Two w.last field; last = last_behind w.last field }

-- the witness of the last tangent leaf behind items
abbrev pub last_of : Option Witness → List Field → Option Witness
last_of last [] = last
last_of last (field ∷ fields) = last_of (last_behind last field) fields

-- behind items: their bytes in version 2, one behind another, come behind those that are there
abbrev pub put_all : Written → List Field → Written
put_all w fields = record { bytes = w.bytes ++ spelled Two w.last fields; last = last_of w.last fields }

-- the bytes of the end mark
unfoldable pub end_bytes : List ℕ
end_bytes = spelled Two None (field.End ∷ [])
