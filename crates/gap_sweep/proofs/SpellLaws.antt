-- The bytes that a sweep puts into its file, as those of a certificate.
use Rattle.std.proofs.Common.{◌≡◌, ℕ, ◌+◌, ◌<◌, ◌≤◌, inl, inr, ◌⊎◌, List, [], ◌∷◌, ◌++◌, length, length-append, map, append_assoc, append-nil, Option, Some, None, Ok, Err, refl, sym, ap, ◌∙◌, subst, arith}
use Rattle.std.specs.Option.{option_map, ForSome}
use Rattle.gap_base.specs.declared.witness.Witness.{Witness}
use Rattle.gap_files.specs.Outside.{FilesNow, SinkNow, bytes_of as content_bytes}
use Rattle.gap_instance.specs.Instances.{InstanceValue}
use Rattle.gap_psd.specs.Shifts.{ShiftValue}
use Rattle.gap_cert.specs.declared.field.Version.TheVariants.{Two}
use Rattle.gap_cert.specs.declared.field.Field.{Field}
use Rattle.gap_cert.specs.declared.field.Field.TheVariants as field
use Rattle.gap_cert.specs.Fields.{bytes_of}
use Rattle.gap_cert.specs.Certificates.{CertSection, head_fields, section_fields, sections_fields, fields_of, last_behind, spelled, spelling, Certificate}
use Rattle.gap_valid.specs.HeadOf.{head_of}
use Rattle.gap_writer.specs.Filled.{section_bytes}
use Rattle.gap_writer.specs.Writing.{last_of, end_bytes}
use Rattle.gap_writer.proofs.ItemLaws.{spelled_behind, end_some}
use Rattle.gap_solve.specs.Ends.{best_in}
use Rattle.gap_files.specs.Marks.{Mark, to_file, to_sink, appends, prints, filed, Streams, stream, streams, started, Did, DidFront, DidLess}
use Rattle.gap_files.specs.declared.halt.Halt.{Halt}
use Rattle.gap_files.specs.Steps.{IsUnstarted}
use Rattle.gap_files.proofs.MarkLaws.{filed-append, filed-appends, filed-prints, length-appends, last_filed}
use Rattle.gap_sweep.specs.Asked.{Asked, Done}
use Rattle.gap_sweep.specs.Texts.{head_bytes, market_text, weight_text, portfolio_text, frontier_text}
use Rattle.gap_sweep.specs.Traces.{opening_trace, weight_trace, weights_trace, closing_trace, begun_trace, whole_trace}
use Rattle.gap_sweep.specs.Runs.{HasDone, Finished, Stopped, under_way, at_the_end, Leaves, unstarted, stopped, Runs}
use Rattle.gap_sweep.specs.Certified.{sections_of, certificate, IsProperFront, IsCertified, IsCut}

-- the bytes of sections, one behind the other
abbrev pub sections_bytes : List CertSection → List ℕ
sections_bytes [] = []
sections_bytes (s ∷ sections) = section_bytes s ++ sections_bytes sections

sections_both : (a b : List CertSection) → sections_bytes (a ++ b) ≡ sections_bytes a ++ sections_bytes b
sections_both [] b = refl
sections_both (s ∷ a) b = ap (λ (x : List ℕ). section_bytes s ++ x) (sections_both a b) ∙ sym (append_assoc (section_bytes s) (sections_bytes a) (sections_bytes b))

-- the bytes of a section don't hang on what comes before it
section_anew : (last : Option Witness) (s : CertSection) → spelled Two last (section_fields s) ≡ section_bytes s
unfolding section_fields spelled
section_anew last s = refl

end_anew : (last : Option Witness) → spelled Two last (field.End ∷ []) ≡ end_bytes
unfolding end_bytes spelled
end_anew last = refl

spelled_sections : (last : Option Witness) (sections : List CertSection) → spelled Two last (sections_fields sections ++ (field.End ∷ [])) ≡ sections_bytes sections ++ end_bytes
unfolding sections_fields
spelled_sections last [] = end_anew last
spelled_sections last (s ∷ sections) =
    let a : List Field = section_fields s in
    let b : List Field = sections_fields sections ++ (field.End ∷ []) in
    ap (spelled Two last) (append_assoc a (sections_fields sections) (field.End ∷ [])) ∙ spelled_behind last a b
    ∙ ap (λ (x : List ℕ). x ++ spelled Two (last_of last a) b) (section_anew last s)
    ∙ ap (λ (x : List ℕ). section_bytes s ++ x) (spelled_sections (last_of last a) sections)
    ∙ sym (append_assoc (section_bytes s) (sections_bytes sections) end_bytes)

-- a certificate is spelled as its head, its sections and the end mark
spelled_whole : (asked : Asked) (shift : ShiftValue) (sections : List CertSection) (count : ℕ) → length sections ≡ count
    → spelling Two (certificate asked shift sections) ≡ head_bytes asked.instance shift asked.nodes count ++ (sections_bytes sections ++ end_bytes)
unfolding fields_of head_bytes
spelled_whole asked shift sections count same =
    let h : List Field = head_fields (head_of asked.instance shift asked.nodes) in
    let b : List Field = sections_fields sections ++ (field.End ∷ []) in
    let a : List Field = h ++ (field.Sections count ∷ []) in
    ap (λ (n : ℕ). spelled Two None (h ++ (field.Sections n ∷ b))) same
    ∙ ap (spelled Two None) (sym (append_assoc h (field.Sections count ∷ []) b))
    ∙ spelled_behind None a b
    ∙ ap (λ (x : List ℕ). spelled Two None a ++ x) (spelled_sections (last_of None a) sections)

filed_weight : (lots : ℕ) (d : Done) → filed (weight_trace lots d) ≡ section_bytes d.section
unfolding weight_trace
filed_weight lots d =
    let a : List Mark = appends (section_bytes d.section) in
    let b : List Mark = prints (weight_text lots d.solved) in
    let c : List Mark = prints (portfolio_text (best_in d.solved.outcome)) in
    filed-append (a ++ b) c ∙ ap (λ (x : List ℕ). filed (a ++ b) ++ x) (filed-prints (portfolio_text (best_in d.solved.outcome))) ∙ append-nil (filed (a ++ b))
    ∙ filed-append a b ∙ ap (λ (x : List ℕ). filed a ++ x) (filed-prints (weight_text lots d.solved)) ∙ append-nil (filed a) ∙ filed-appends (section_bytes d.section)

filed_weights : (lots : ℕ) (done : List Done) → filed (weights_trace lots done) ≡ sections_bytes (sections_of done)
filed_weights lots [] = refl
filed_weights lots (d ∷ done) =
    filed-append (weight_trace lots d) (weights_trace lots done) ∙ ap (λ (x : List ℕ). x ++ filed (weights_trace lots done)) (filed_weight lots d)
    ∙ ap (λ (x : List ℕ). section_bytes d.section ++ x) (filed_weights lots done)

filed_opening : (asked : Asked) (shift : ShiftValue) → filed (opening_trace asked shift) ≡ head_bytes asked.instance shift asked.nodes (length asked.weights)
unfolding opening_trace
filed_opening asked shift =
    let a : List Mark = appends (head_bytes asked.instance shift asked.nodes (length asked.weights)) in
    let text : List ℕ = market_text asked.style asked.instance asked.rounded shift in
    filed-append a (prints text) ∙ ap (λ (x : List ℕ). filed a ++ x) (filed-prints text) ∙ append-nil (filed a)
    ∙ filed-appends (head_bytes asked.instance shift asked.nodes (length asked.weights))

filed_closing : (I : InstanceValue) (asked : Asked) (done : List Done) → filed (closing_trace I asked.style done) ≡ end_bytes
unfolding closing_trace
filed_closing I asked done =
    filed-append (prints (frontier_text I asked.style done)) (appends end_bytes)
    ∙ ap (λ (x : List ℕ). x ++ filed (appends end_bytes)) (filed-prints (frontier_text I asked.style done)) ∙ filed-appends end_bytes

pub filed_begun : (asked : Asked) (shift : ShiftValue) (done : List Done)
    → filed (begun_trace asked shift done) ≡ head_bytes asked.instance shift asked.nodes (length asked.weights) ++ sections_bytes (sections_of done)
filed_begun asked shift done =
    filed-append (opening_trace asked shift) (weights_trace asked.instance.lots done)
    ∙ ap (λ (x : List ℕ). x ++ filed (weights_trace asked.instance.lots done)) (filed_opening asked shift)
    ∙ ap (λ (x : List ℕ). head_bytes asked.instance shift asked.nodes (length asked.weights) ++ x) (filed_weights asked.instance.lots done)

filed_whole : (asked : Asked) (shift : ShiftValue) (done : List Done) → filed (whole_trace asked shift done) ≡ filed (begun_trace asked shift done) ++ end_bytes
filed_whole asked shift done =
    filed-append (begun_trace asked shift done) (closing_trace asked.instance asked.style done)
    ∙ ap (λ (x : List ℕ). filed (begun_trace asked shift done) ++ x) (filed_closing asked.instance asked done)

length_sections : (done : List Done) → length (sections_of done) ≡ length done
length_sections [] = refl
length_sections (d ∷ done) = let e = length_sections done in omega arith

-- behind what was filed for the weights that were done come the other sections and the end mark
spelled_on : (asked : Asked) (shift : ShiftValue) (done : List Done) (more : List CertSection) → length done + length more ≡ length asked.weights
    → spelling Two (certificate asked shift (sections_of done ++ more)) ≡ filed (begun_trace asked shift done) ++ (sections_bytes more ++ end_bytes)
spelled_on asked shift done more count =
    let head : List ℕ = head_bytes asked.instance shift asked.nodes (length asked.weights) in
    let a : List ℕ = sections_bytes (sections_of done) in
    let b : List ℕ = sections_bytes more in
    let l = length_sections done in
    let m = length-append (sections_of done) more in
    spelled_whole asked shift (sections_of done ++ more) (length asked.weights) (omega arith)
    ∙ ap (λ (x : List ℕ). head ++ (x ++ end_bytes)) (sections_both (sections_of done) more)
    ∙ ap (λ (x : List ℕ). head ++ x) (append_assoc a b end_bytes)
    ∙ sym (append_assoc head a (b ++ end_bytes))
    ∙ ap (λ (x : List ℕ). x ++ (b ++ end_bytes)) (sym (filed_begun asked shift done))

-- all that is filed in a whole sweep is the certificate
pub spelled_all : (asked : Asked) (shift : ShiftValue) (done : List Done) → length done ≡ length asked.weights
    → filed (whole_trace asked shift done) ≡ spelling Two (certificate asked shift (sections_of done))
spelled_all asked shift done all =
    let none : length done + 0 ≡ length asked.weights = omega arith in
    filed_whole asked shift done ∙ sym (spelled_on asked shift done [] none)
    ∙ ap (λ (x : List CertSection). spelling Two (certificate asked shift x)) (append-nil (sections_of done))

-- what stands in the file behind its start
pub file_is : (name : List ℕ) (f : FilesNow) (s : SinkNow) (new : Streams) (trace : List Mark) (was : List ℕ) → stream name f ≡ Some was
    → Did (started name f s) new trace → new.file ≡ Some (filed trace)
file_is name f s new trace was told did = did.file [] (ap (option_map (λ (before : List ℕ). [])) told)

-- a sweep that did all has a certificate in its file
pub finished_certifies : (asked : Asked) (name : List ℕ) (f : FilesNow) (s : SinkNow) (g : FilesNow) (t : SinkNow)
    → Finished asked (started name f s) (streams name g t) → ForSome (stream name f) (λ was. IsCertified asked (stream name g))
finished_certifies asked name f s g t finished = λ was told. record {
  shift = finished.shift;
  done = finished.done;
  has_done = finished.has_done;
  all = finished.all;
  bytes = file_is name f s (streams name g t) (whole_trace asked finished.shift finished.done) was told finished.did
      ∙ ap Some (spelled_all asked finished.shift finished.done finished.all);
}

behind_some : (a b : List ℕ) → 0 < length b → 0 < length (a ++ b)
behind_some a b some = let l = length-append a b in omega arith

-- a front of what is filed without the end is a proper front of each certificate that goes on so
pub front_proper : (asked : Asked) (shift : ShiftValue) (done : List Done) (part rest : List Mark) → begun_trace asked shift done ≡ part ++ rest
    → (more : List CertSection) → length done + length more ≡ length asked.weights
    → IsProperFront (filed part) (spelling Two (certificate asked shift (sections_of done ++ more)))
front_proper asked shift done part rest split more count = record {
  rest = filed rest ++ (sections_bytes more ++ end_bytes);
  left = behind_some (filed rest) (sections_bytes more ++ end_bytes) (behind_some (sections_bytes more) end_bytes end_some);
  split = spelled_on asked shift done more count
      ∙ ap (λ (x : List ℕ). x ++ (sections_bytes more ++ end_bytes)) (ap filed split ∙ filed-append part rest)
      ∙ append_assoc (filed part) (filed rest) (sections_bytes more ++ end_bytes);
}

-- a proper front of the whole is a proper front of the certificate
pub less_proper : (asked : Asked) (shift : ShiftValue) (done : List Done) (part rest : List Mark) → 0 < length rest → whole_trace asked shift done ≡ part ++ rest
    → length done ≡ length asked.weights → IsProperFront (filed part) (spelling Two (certificate asked shift (sections_of done)))
unfolding closing_trace
less_proper asked shift done part rest left split all =
    let lines : List Mark = prints (frontier_text asked.instance asked.style done) in
    record {
      rest = filed rest;
      left = last_filed (begun_trace asked shift done ++ lines) part rest end_bytes end_some left
          (append_assoc (begun_trace asked shift done) lines (appends end_bytes) ∙ split);
      split = sym (spelled_all asked shift done all) ∙ ap filed split ∙ filed-append part rest;
    }

pub no_more : (asked : Asked) (shift : ShiftValue) (done : List Done) (bytes : List ℕ) → length done ≡ length asked.weights
    → IsProperFront bytes (spelling Two (certificate asked shift (sections_of done)))
    → (more : List CertSection) → length done + length more ≡ length asked.weights → IsProperFront bytes (spelling Two (certificate asked shift (sections_of done ++ more)))
no_more asked shift done bytes all proper [] count =
    subst (λ (x : List CertSection). IsProperFront bytes (spelling Two (certificate asked shift x))) (sym (append-nil (sections_of done))) proper
no_more asked shift done bytes all proper (s ∷ more) count = absurd (omega arith)

-- a sweep that stopped behind the start of its file has a proper front of a certificate there
pub stopped_cuts : (asked : Asked) (name : List ℕ) (f : FilesNow) (s : SinkNow) (new : Streams) (was : List ℕ) → stream name f ≡ Some was
    → Stopped asked (started name f s) new → IsCut asked new.file
stopped_cuts asked name f s new was told (under_way shift done has front) = record {
  shift = shift;
  done = done;
  has_done = has;
  bytes = filed front.part;
  now_is = file_is name f s new front.part was told front.did;
  proper = front_proper asked shift done front.part front.rest front.split;
}
stopped_cuts asked name f s new was told (at_the_end shift done has all less) = record {
  shift = shift;
  done = done;
  has_done = has;
  bytes = filed less.part;
  now_is = file_is name f s new less.part was told less.did;
  proper = no_more asked shift done (filed less.part) all (less_proper asked shift done less.part less.rest less.left less.split all);
}

-- what a sweep that stopped has left
pub leaves_cut : (asked : Asked) (name : List ℕ) (f : FilesNow) (s : SinkNow) (g : FilesNow) (t : SinkNow)
    → Leaves asked name f s g t → ForSome (stream name f) (λ was. IsUnstarted name f s g t ⊎ IsCut asked (stream name g))
leaves_cut asked name f s g t (unstarted left) = λ was told. inl left
leaves_cut asked name f s g t (stopped stop) = λ was told. inr (stopped_cuts asked name f s (streams name g t) was told stop)
