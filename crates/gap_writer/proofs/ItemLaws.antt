-- Items that are written behind items, and the end mark.
use Rattle.std.proofs.Common.{◌≡◌, ℕ, ◌<◌, List, [], ◌∷◌, ◌++◌, length, length-append, Option, None, sym, ap, ◌∙◌, refl, arith}
use Rattle.std.proofs.lemmas.List.{append_assoc, append-nil}
use Rattle.gap_base.specs.declared.witness.Witness.{Witness}
use Rattle.gap_cert.specs.declared.field.Field.{Field}
use Rattle.gap_cert.specs.declared.field.Field.TheVariants as field
use Rattle.gap_cert.specs.declared.field.Version.TheVariants.{Two}
use Rattle.gap_cert.specs.Bytes.{be}
use Rattle.gap_cert.specs.Fields.{bytes_of, end_mark}
use Rattle.gap_cert.specs.Certificates.{last_behind, spelled}
use Rattle.gap_cert.proofs.Numbers.{length-be}
use Rattle.gap_writer.specs.Writing.{Written, blank, put, last_of, end_bytes}

-- items behind items
pub spelled_behind : (last : Option Witness) (a b : List Field) → spelled Two last (a ++ b) ≡ spelled Two last a ++ spelled Two (last_of last a) b
unfolding spelled
spelled_behind last [] b = refl
spelled_behind last (f ∷ a) b = ap (λ (x : List ℕ). bytes_of Two last f ++ x) (spelled_behind (last_behind last f) a b) ∙ sym (append_assoc (bytes_of Two last f) (spelled Two (last_behind last f) a) (spelled Two (last_of (last_behind last f) a) b))

-- the end mark has bytes
pub end_some : 0 < length end_bytes
unfolding end_bytes spelled
end_some = let l = length-append (be 4 end_mark) [] in let m = length-be 4 end_mark in omega arith

-- what a writer has behind the end mark alone
pub end_written : (w v : Written) (bytes : List ℕ) → w ≡ blank → v ≡ put w field.End → bytes ≡ v.bytes → bytes ≡ end_bytes
unfolding end_bytes spelled
end_written w v bytes start is read =
    read ∙ ap (λ (x : Written). x.bytes) is ∙ ap (λ (x : Written). (put x field.End).bytes) start ∙ sym (append-nil (be 4 end_mark))
