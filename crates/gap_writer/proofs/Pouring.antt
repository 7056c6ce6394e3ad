-- Bytes flow through a writer into a file.
use Rattle.std.proofs.Common.{◌≡◌, ℕ, ◌<◌, ◌≤◌, List, [], ◌∷◌, ◌++◌, length, take, drop, Option, None, Result, Ok, Err, IsErr, refl, sym, ap, ◌∙◌, subst, arith}
use Rattle.std.proofs.lemmas.List.{append_assoc, append-nil, length-append, length-take, take-append-drop}
use Rattle.gap_base.specs.declared.witness.Witness.{Witness}
use Rattle.gap_base.specs.declared.weight.Weight.{Weight}
use Rattle.gap_box.specs.declared.node.NodeId.{NodeId}
use Rattle.gap_model.specs.Nodes.{Node}
use Rattle.gap_cert.specs.declared.field.Field.{Field}
use Rattle.gap_cert.specs.declared.field.Version.TheVariants.{Two}
use Rattle.gap_cert.specs.Bytes.{be}
use Rattle.gap_cert.specs.Fields.{bytes_of}
use Rattle.gap_cert.specs.Certificates.{CertSection, CertClaim, claim_fields, claim_number, claim_of, opening_fields, tree_fields, section_fields, last_behind, spelled}
use Rattle.gap_cert.proofs.Numbers.{length-be}
use Rattle.gap_files.specs.Outside.{FilesNow, SinkNow}
use Rattle.gap_files.specs.declared.halt.Halt.{Halt}
use Rattle.gap_files.specs.declared.halt.Halt.TheVariants.{OutOfMemory}
use Rattle.gap_files.specs.Marks.{appends, streams, DidLess}
use Rattle.gap_files.specs.Steps.{Step}
use Rattle.gap_files.specs.Drains.{Flows, Breaks, Fills}
use Rattle.gap_files.proofs.DrainLaws.{flows_none, flows_put, flows_both, breaks_end, breaks_early, breaks_memory, flows_end}
use Rattle.gap_solved.specs.Solveds.{SolvedValue, IsSectionOf}
use Rattle.gap_writer.specs.Writing.{Written, blank, put_all, last_of}
use Rattle.gap_writer.proofs.Spelled.{opening_last}
use Rattle.gap_writer.proofs.ItemLaws.{spelled_behind}
use Rattle.gap_writer.specs.Filled.{section_bytes, due, Owes, Pours, root_stack}

some_behind : (a b : List ℕ) → 0 < length a → 0 < length (a ++ b)
some_behind a b h = let l = length-append a b in omega arith

pub opening_some : (last : Option Witness) (w : Weight) (claim : CertClaim) → 0 < length (spelled Two last (opening_fields w claim))
unfolding spelled
opening_some last w claim =
    let p = be 1 w.p in
    let q = be 1 w.q in
    let o = be 1 (claim_number claim) in
    some_behind ((p ++ q) ++ o) (spelled Two None (claim_fields claim)) (some_behind (p ++ q) o (some_behind p q (let l = length-be 1 w.p in omega arith)))

pub section_is : (s : CertSection) → section_bytes s ≡ spelled Two None (opening_fields s.weight s.claim) ++ spelled Two None (tree_fields s.tree)
unfolding section_fields
section_is s = spelled_behind None (opening_fields s.weight s.claim) (tree_fields s.tree) ∙ ap (λ (l : Option Witness). spelled Two None (opening_fields s.weight s.claim) ++ spelled Two l (tree_fields s.tree)) (opening_last None s.weight s.claim)

pub section_some : (s : CertSection) → 0 < length (section_bytes s)
section_some s = subst (λ (b : List ℕ). 0 < length b) (sym (section_is s)) (some_behind (spelled Two None (opening_fields s.weight s.claim)) (spelled Two None (tree_fields s.tree)) (opening_some None s.weight s.claim))

-- memory is refused before anything was appended
pub refused_at_once : (name : List ℕ) (f : FilesNow) (sink : SinkNow) (s : CertSection) → Breaks name f f sink (section_bytes s) OutOfMemory
refused_at_once name f sink s = breaks_memory name f f sink (section_bytes s) (section_bytes s) (section_some s) (flows_none name f sink (section_bytes s))

-- all of some bytes went, or a proper front of them
pub filled : (name : List ℕ) (f g : FilesNow) (sink : SinkNow) (bytes : List ℕ) (r : Result (Unit {0}) Halt) → 0 < length bytes → Step name f sink g sink (appends bytes) r →
    (IsErr r → 0 < length bytes → DidLess (streams name f sink) (streams name g sink) (appends bytes)) → Fills name f g sink bytes r
filled name f g sink bytes (Ok value) h step less = step
filled name f g sink bytes (Err halt) h step less = record { step = step; less = less refl h }

-- a front of bytes has so many
pub front_is : (n : ℕ) (bytes : List ℕ) → n ≤ length bytes → length (take n bytes) ≡ n
front_is n bytes h = length-take n bytes ∙ omega arith

-- the first piece went
pub piece_gone : (name : List ℕ) (f g : FilesNow) (sink : SinkNow) (bytes : List ℕ) (n : ℕ) → Step name f sink g sink (appends (take n bytes)) (Ok tt) → Flows name f g sink bytes (drop n bytes)
piece_gone name f g sink bytes n step = record { taken = take n bytes; split = sym (take-append-drop n bytes); step = step }

-- it stopped in the first piece
pub piece_broken : (name : List ℕ) (f g : FilesNow) (sink : SinkNow) (bytes : List ℕ) (n : ℕ) (halt : Halt) → Breaks name f g sink (take n bytes) halt → Breaks name f g sink bytes halt
piece_broken name f g sink bytes n halt b = subst (λ (x : List ℕ). Breaks name f g sink x halt) (take-append-drop n bytes) (breaks_early name f g sink (take n bytes) (drop n bytes) halt b)

-- what is due has something where the writer has
due_some : (w : Written) (fields : List Field) → 0 < length w.bytes → 0 < length (due w fields)
due_some w fields h = some_behind w.bytes (spelled Two w.last fields) h

-- bytes of the writer went, and nothing came in
pub poured : (n : ℕ) (nodes : List Node) (name : List ℕ) (f g h : FilesNow) (sink : SinkNow) (all : List ℕ) (stack : List NodeId) (w v : Written) (left : List ℕ) →
    Owes n nodes stack w left → Flows name f g sink all left → Flows name g h sink w.bytes v.bytes → v.last ≡ w.last → Pours n nodes name f h sink all stack v
poured n nodes name f g h sink all stack w v left o flows gone l =
    let more = spelled Two w.last o.fields in
    record {
      left = v.bytes ++ more;
      owes = record { fields = o.fields; waits = o.waits; all_is = ap (λ (x : Option Witness). v.bytes ++ spelled Two x o.fields) l };
      flows = flows_both name f g h sink all left (v.bytes ++ more) flows (subst (λ (x : List ℕ). Flows name g h sink x (v.bytes ++ more)) o.all_is (flows_put name g h sink w.bytes v.bytes more gone));
    }

-- it stopped in bytes of the writer
pub broken : (n : ℕ) (nodes : List Node) (name : List ℕ) (f g h : FilesNow) (sink : SinkNow) (all : List ℕ) (stack : List NodeId) (w : Written) (left : List ℕ) (halt : Halt) →
    Owes n nodes stack w left → Flows name f g sink all left → Breaks name g h sink w.bytes halt → Breaks name f h sink all halt
broken n nodes name f g h sink all stack w left halt o flows b =
    breaks_end name f g h sink all left halt flows (subst (λ (x : List ℕ). Breaks name g h sink x halt) o.all_is (breaks_early name g h sink w.bytes (spelled Two w.last o.fields) halt b))

-- memory was refused while the writer has something
pub refused : (n : ℕ) (nodes : List Node) (name : List ℕ) (f g : FilesNow) (sink : SinkNow) (all : List ℕ) (stack : List NodeId) (w : Written) (left : List ℕ) →
    Owes n nodes stack w left → 0 < length w.bytes → Flows name f g sink all left → Breaks name f g sink all OutOfMemory
refused n nodes name f g sink all stack w left o h flows = breaks_memory name f g sink all left (subst (λ (x : List ℕ). 0 < length x) o.all_is (due_some w o.fields h)) flows

-- nothing waits any more
pub nothing_waits : (n : ℕ) (nodes : List Node) (w : Written) (left : List ℕ) → Owes n nodes [] w left → left ≡ w.bytes
unfolding spelled
nothing_waits n nodes w left o = sym o.all_is ∙ ap (λ (x : List Field). due w x) o.waits ∙ append-nil w.bytes

-- the root alone waits, behind what a section says before its tree
pub root_owes : (n : ℕ) (solved : SolvedValue) (s : CertSection) (w : Written) → IsSectionOf n solved s → w ≡ put_all blank (opening_fields solved.weight (claim_of solved.outcome solved.overall)) → Owes n solved.nodes root_stack w (section_bytes s)
root_owes n solved s w i e =
    let opening = opening_fields solved.weight (claim_of solved.outcome solved.overall) in
    let same : opening_fields s.weight s.claim ≡ opening = ap (λ (x : Weight). opening_fields x s.claim) i.weight_is ∙ ap (opening_fields solved.weight) i.claim_is in
    record {
      fields = tree_fields s.tree;
      waits = ([], i.tree, refl, i.stands, ap tree_fields i.tree_is);
      all_is = ap (λ (x : Written). due x (tree_fields s.tree)) e
          ∙ ap (λ (l : Option Witness). spelled Two None opening ++ spelled Two l (tree_fields s.tree)) (opening_last None solved.weight (claim_of solved.outcome solved.overall))
          ∙ sym (section_is s ∙ ap (λ (x : List Field). spelled Two None x ++ spelled Two None (tree_fields s.tree)) same);
    }

pub blank_some : (w : Written) (weight : Weight) (claim : CertClaim) → w ≡ put_all blank (opening_fields weight claim) → 0 < length w.bytes
blank_some w weight claim e = subst (λ (x : Written). 0 < length x.bytes) (sym e) (opening_some None weight claim)

-- the last bytes went, or a proper front of them
pub fills_end : (name : List ℕ) (f g h : FilesNow) (sink : SinkNow) (all left : List ℕ) (r : Result (Unit {0}) Halt) → Flows name f g sink all left → Fills name g h sink left r → Fills name f h sink all r
fills_end name f g h sink all left (Ok value) flows step = flows_end name f g h sink all left (Ok value) flows step
fills_end name f g h sink all left (Err halt) flows b = breaks_end name f g h sink all left halt flows b
