-- The head and the end mark of a certificate, appended to its file.
use Rattle.std.proofs.Common.{◌≡◌, ℕ, ◌<◌, List, [], ◌∷◌, ◌++◌, length, length-append, append-nil, Option, None, Result, Ok, Err, IsErr, refl, sym, ap, ◌∙◌, subst, arith}
use Rattle.gap_files.specs.Outside.{FilesNow, SinkNow}
use Rattle.gap_instance.specs.Instances.{InstanceValue}
use Rattle.gap_psd.specs.Shifts.{ShiftValue}
use Rattle.gap_cert.specs.declared.field.Version.TheVariants.{Two}
use Rattle.gap_cert.specs.declared.field.Field.TheVariants as field
use Rattle.gap_cert.specs.Bytes.{be}
use Rattle.gap_cert.specs.Fields.{end_mark}
use Rattle.gap_cert.specs.Certificates.{spelled, head_fields}
use Rattle.gap_cert.proofs.Numbers.{length-be}
use Rattle.gap_valid.specs.HeadOf.{head_of}
use Rattle.gap_writer.specs.Writing.{Written, blank, put, put_all, end_bytes}
use Rattle.gap_files.specs.Marks.{Mark, appends, streams, DidLess}
use Rattle.gap_files.specs.Steps.{Step, Closes}
use Rattle.gap_files.specs.declared.halt.Halt.{Halt}
use Rattle.gap_files.specs.declared.halt.Halt.TheVariants.{OutOfMemory}
use Rattle.gap_files.proofs.MarkLaws.{did_none, length-appends}
use Rattle.gap_files.proofs.StepLaws.{gives_up_at_once, step_same}
use Rattle.gap_sweep.specs.Texts.{head_bytes}

-- what a writer has behind the head
pub head_written : (I : InstanceValue) (shift : ShiftValue) (nodes count : ℕ) (w v : Written) (bytes : List ℕ) → w ≡ blank
    → v ≡ put_all w (head_fields (head_of I shift nodes) ++ field.Sections count ∷ []) → bytes ≡ v.bytes → bytes ≡ head_bytes I shift nodes count
unfolding head_bytes
head_written I shift nodes count w v bytes start is read =
    read ∙ ap (λ (x : Written). x.bytes) is ∙ ap (λ (x : Written). (put_all x (head_fields (head_of I shift nodes) ++ field.Sections count ∷ [])).bytes) start

-- the head was appended, or it stopped
pub head_appended : (I : InstanceValue) (shift : ShiftValue) (nodes count : ℕ) (name : List ℕ) (f g : FilesNow) (sink : SinkNow) (bytes : List ℕ) (r : Result (Unit {0}) Halt)
    → bytes ≡ head_bytes I shift nodes count → Step name f sink g sink (appends bytes) r → Step name f sink g sink (appends (head_bytes I shift nodes count)) r
head_appended I shift nodes count name f g sink bytes r same step = step_same name f sink g sink (appends bytes) (appends (head_bytes I shift nodes count)) r (ap appends same) step
