-- The certificate of a sweep is valid.
use Rattle.std.proofs.Common.{◌≡◌, ℕ, ◌<◌, ◌≤◌, ℤ, List, [], ◌∷◌, length, map, Option, None, refl, sym, ap, ◌∙◌, subst, arith}
use Rattle.std.specs.List.{All}
use Rattle.std.proofs.lemmas.List.Elements.{All-nil, All-cons}
use Rattle.gap_base.specs.declared.weight.Weight.{Weight}
use Rattle.gap_instance.specs.Instances.{InstanceValue}
use Rattle.gap_instance.specs.Objective.{cov_of}
use Rattle.gap_psd.specs.Shifts.{ShiftValue, IsDominantShift}
use Rattle.gap_cert.specs.declared.field.Version.TheVariants.{Two}
use Rattle.gap_cert.specs.Certificates.{CertHead, CertSection, Certificate, spelling, Encodes}
use Rattle.gap_valid.specs.Heads.{instance_in, shift_in, IsHead}
use Rattle.gap_valid.specs.Valid.{IsValid, IsValidSection}
use Rattle.gap_valid.specs.HeadOf.{head_of, AreRanged}
use Rattle.gap_valid.proofs.HeadOfLaws.{head_is, said_stands, nodes_stand, diagonal_stands, dominant_stays}
use Rattle.gap_valid.proofs.Heads.{encodes}
use Rattle.gap_valid.proofs.Validity.{writable}
use Rattle.gap_sweep.specs.Asked.{Asked, Done, IsShiftOf, AreDone, portfolio}
use Rattle.gap_sweep.specs.Runs.{HasDone}
use Rattle.gap_sweep.specs.Certified.{IsAsked, sections_of, certificate}

pub ranged : (asked : Asked) (shift : ShiftValue) → IsAsked asked → IsShiftOf asked.instance shift → AreRanged asked.instance shift asked.nodes
ranged asked shift is shift_is = record {
  instance_is = is.instance_is;
  shift_is = shift_is.is_shift;
  same_assets = shift_is.assets_are;
  nodes_most = is.nodes_most;
}

-- each section is valid under a head of the instance, the shift and the budget
pub sections_valid : (I : InstanceValue) (shift : ShiftValue) (nodes : ℕ) (warm : Option (List ℕ)) (weights : List Weight) (done : List Done) (h : CertHead)
    → instance_in h ≡ I → (shift_in h).diagonal ≡ shift.diagonal → h.nodes ≡ nodes → AreDone I shift nodes warm weights done → All (IsValidSection h) (sections_of done)
sections_valid I shift nodes warm weights [] h instance diagonal budget right = All-nil (IsValidSection h)
sections_valid I shift nodes warm [] (d ∷ done) h instance diagonal budget right = absurd right
sections_valid I shift nodes warm (weight ∷ weights) (d ∷ done) h instance diagonal budget right =
    All-cons (IsValidSection h) d.section (sections_of done) (right.0.solved_is.valid d.section right.0.section_is h instance diagonal budget)
    (sections_valid I shift nodes (portfolio d) weights done h instance diagonal budget right.1)

pub sections_count : (done : List Done) → length (sections_of done) ≡ length done
sections_count [] = refl
sections_count (d ∷ done) = let e = sections_count done in omega arith

-- the head of a sweep is one, and its shift is dominant
pub head_valid : (asked : Asked) (shift : ShiftValue) → IsAsked asked → IsShiftOf asked.instance shift
    → IsHead (head_of asked.instance shift asked.nodes) × IsDominantShift (cov_of (instance_in (head_of asked.instance shift asked.nodes)).market) (shift_in (head_of asked.instance shift asked.nodes))
head_valid asked shift is shift_is =
    let r : AreRanged asked.instance shift asked.nodes = ranged asked shift is shift_is in
    let stands : instance_in (head_of asked.instance shift asked.nodes) ≡ asked.instance = said_stands asked.instance shift asked.nodes r is.said in (
      head_is asked.instance shift asked.nodes r,
      subst (λ (I : InstanceValue). IsDominantShift (cov_of I.market) (shift_in (head_of asked.instance shift asked.nodes))) (sym stands)
          (dominant_stays (cov_of asked.instance.market) asked.instance shift asked.nodes r shift_is.dominant),
    )

-- a certificate of sections that are valid under it is valid
pub valid_of : (asked : Asked) (shift : ShiftValue) (sections : List CertSection) → IsAsked asked → IsShiftOf asked.instance shift → 1 ≤ length sections → length sections ≤ 101
    → All (IsValidSection (head_of asked.instance shift asked.nodes)) sections → IsValid (certificate asked shift sections)
valid_of asked shift sections is shift_is some few valid =
    let head = head_valid asked shift is shift_is in
    record { head_is = head.0; dominant = head.1; some = some; few = few; sections_are = valid }

-- the certificate of a sweep that did all its weights is valid
pub certificate_valid : (asked : Asked) (shift : ShiftValue) (done : List Done) → IsAsked asked → HasDone asked shift done → length done ≡ length asked.weights
    → IsValid (certificate asked shift (sections_of done))
certificate_valid asked shift done is has all =
    let count = sections_count done in
    let some = is.some in
    let few = is.few in
    valid_of asked shift (sections_of done) is has.shift_is (omega arith) (omega arith)
    (sections_valid asked.instance shift asked.nodes None asked.weights done (head_of asked.instance shift asked.nodes)
    (said_stands asked.instance shift asked.nodes (ranged asked shift is has.shift_is) is.said)
    (diagonal_stands asked.instance shift asked.nodes) (nodes_stand asked.instance shift asked.nodes) has.right)

-- and its bytes are its encoding
pub certificate_encoded : (asked : Asked) (shift : ShiftValue) (done : List Done) → IsAsked asked → HasDone asked shift done → length done ≡ length asked.weights
    → Encodes Two (spelling Two (certificate asked shift (sections_of done))) (certificate asked shift (sections_of done))
certificate_encoded asked shift done is has all =
    encodes Two (certificate asked shift (sections_of done)) (writable (certificate asked shift (sections_of done)) (certificate_valid asked shift done is has all)) tt
