-- What the file of a certificate holds after a run.
use Rattle.std.proofs.Common.{◌≡◌, ℕ, ◌+◌, ◌≤◌, List, [], ◌∷◌, ◌++◌, length, map, append-nil, All, Option, Some, None, refl, sym, ap, ◌∙◌, subst, arith}
use Rattle.gap_base.specs.declared.job.Job.{Job}
use Rattle.gap_base.specs.declared.weight.Weight.{Weight}
use Rattle.gap_base.specs.Markets.{MarketValue}
use Rattle.gap_cert.specs.declared.field.Version.TheVariants.{Two}
use Rattle.gap_cert.specs.Certificates.{CertSection, spelling}
use Rattle.gap_valid.specs.HeadOf.{head_of, AreRanged}
use Rattle.gap_valid.specs.Said.{said_market}
use Rattle.gap_valid.proofs.HeadOfLaws.{said_stands, nodes_stand, diagonal_stands}
use Rattle.gap_instance.specs.Instances.{InstanceValue, instance_of}
use Rattle.gap_model.specs.declared.outcome.Told.{Told}
use Rattle.gap_psd.specs.Shifts.{ShiftValue}
use Rattle.gap_rule.specs.Steps.{IsReady}
use Rattle.gap_rule.specs.Tasks.{work_of}
use Rattle.gap_sweep.specs.declared.style.Style.{Style}
use Rattle.gap_sweep.specs.Asked.{Asked, Done, IsShiftOf, IsDone, AreDone, portfolio}
use Rattle.gap_sweep.specs.Certified.{IsAsked, sections_of, certificate, IsProperFront}
use Rattle.gap_sweep.specs.Runs.{HasDone}
use Rattle.gap_sweep.specs.Texts.{head_bytes}
use Rattle.gap_sweep.specs.Traces.{begun_trace}
use Rattle.gap_sweep.proofs.DoneLaws.{done_within}
use Rattle.gap_sweep.proofs.SpellLaws.{filed_begun}
use Rattle.gap_files.specs.Marks.{Mark, filed}
use Rattle.gap_files.proofs.MarkLaws.{filed-append}
use Rattle.gap_sweep.proofs.CertLaws.{ranged, sections_valid, certificate_valid, certificate_encoded}
use Rattle.gap_valid.specs.Valid.{IsValidSection, IsWeight}
use Rattle.gap_valid.specs.Verdicts.{told_in}
use Rattle.gap_top.specs.Holding.{HoldsCertificate, AreShort, HoldsFrontOf}
use Rattle.gap_top.specs.Working.{asked_for}
use Rattle.gap_top.proofs.ShortLaws.{short_head, short_behind}
use Rattle.gap_top.proofs.GoodLaws.{IsKnown, all_done, one_told}

-- work that is ready is what a sweep may be asked
pub is_asked : (style : Style) (m : MarketValue) (job : Job) → IsReady (work_of m job) → IsAsked (asked_for style (work_of m job))
is_asked style m job ready = record { instance_is = ready.instance_is; said = ready.said; nodes_most = ready.most_nodes; some = ready.some; few = ready.few }

-- the head of the certificate says the instance
stands : (style : Style) (m : MarketValue) (job : Job) (shift : ShiftValue) (done : List Done) → IsReady (work_of m job) → HasDone (asked_for style (work_of m job)) shift done
    → AreRanged (instance_of (said_market m) job) shift job.nodes
stands style m job shift done ready has = ranged (asked_for style (work_of m job)) shift (is_asked style m job ready) has.shift_is

-- the sections of the weights that were done are valid under it
pub are_valid : (style : Style) (m : MarketValue) (job : Job) (shift : ShiftValue) (done : List Done) → IsReady (work_of m job) → HasDone (asked_for style (work_of m job)) shift done
    → All (IsValidSection (head_of (instance_of (said_market m) job) shift job.nodes)) (sections_of done)
are_valid style m job shift done ready has =
    let I : InstanceValue = instance_of (said_market m) job in
    sections_valid I shift job.nodes None job.weights done (head_of I shift job.nodes) (said_stands I shift job.nodes (stands style m job shift done ready has) ready.said)
    (diagonal_stands I shift job.nodes) (nodes_stand I shift job.nodes) has.right

-- what is known of a closed weight
known_by : (m : MarketValue) (job : Job) (shift : ShiftValue) (warm : Option (List ℕ)) (weight : Weight) (d : Done) → AreRanged (instance_of (said_market m) job) shift job.nodes → IsReady (work_of m job)
    → IsDone (instance_of (said_market m) job) shift job.nodes warm weight d → IsKnown (instance_of m job) d
known_by m job shift warm weight d r ready done =
    let I : InstanceValue = instance_of (said_market m) job in
    record {
      weight_is = subst IsWeight done.section_is.weight_is
          (done.solved_is.valid d.section done.section_is (head_of I shift job.nodes) (said_stands I shift job.nodes r ready.said) (diagonal_stands I shift job.nodes) (nodes_stand I shift job.nodes)).weight_is;
      right = one_told m job shift warm weight d done;
    }

pub are_known : (style : Style) (m : MarketValue) (job : Job) (shift : ShiftValue) (done : List Done) → IsReady (work_of m job) → HasDone (asked_for style (work_of m job)) shift done → All (IsKnown (instance_of m job)) done
are_known style m job shift done ready has =
    all_done (IsKnown (instance_of m job)) (instance_of (said_market m) job) shift job.nodes None job.weights done
    (λ warm weight d one. known_by m job shift warm weight d (stands style m job shift done ready has) ready one) has.right

-- ---- the whole certificate

told_weights : (I : InstanceValue) (shift : ShiftValue) (nodes : ℕ) (warm : Option (List ℕ)) (weights : List Weight) (done : List Done) → AreDone I shift nodes warm weights done
    → map (λ (told : Told). told.weight) (map told_in (sections_of done)) ≡ map (λ (d : Done). d.solved.weight) done
told_weights I shift nodes warm weights [] right = refl
told_weights I shift nodes warm [] (d ∷ done) right = absurd right
told_weights I shift nodes warm (weight ∷ weights) (d ∷ done) right =
    ap (λ (w : Weight). w ∷ map (λ (told : Told). told.weight) (map told_in (sections_of done))) right.0.section_is.weight_is
    ∙ ap (λ (ws : List Weight). d.solved.weight ∷ ws) (told_weights I shift nodes (portfolio d) weights done right.1)

all_weights : (I : InstanceValue) (shift : ShiftValue) (nodes : ℕ) (weights rest : List Weight) (done : List Done) → AreDone I shift nodes None weights done
    → weights ≡ map (λ (d : Done). d.solved.weight) done ++ rest → rest ≡ [] → map (λ (told : Told). told.weight) (map told_in (sections_of done)) ≡ weights
all_weights I shift nodes weights rest done right first none =
    told_weights I shift nodes None weights done right
    ∙ sym (first ∙ ap (λ (ws : List Weight). map (λ (d : Done). d.solved.weight) done ++ ws) none ∙ append-nil (map (λ (d : Done). d.solved.weight) done))

pub holds_whole : (style : Style) (m : MarketValue) (job : Job) (shift : ShiftValue) (done : List Done) (rest : List Weight) (now : Option (List ℕ)) → IsReady (work_of m job)
    → HasDone (asked_for style (work_of m job)) shift done → length done ≡ length job.weights → job.weights ≡ map (λ (d : Done). d.solved.weight) done ++ rest → rest ≡ []
    → now ≡ Some (spelling Two (certificate (asked_for style (work_of m job)) shift (sections_of done)))
    → HoldsCertificate m job (certificate (asked_for style (work_of m job)) shift (sections_of done)) now
holds_whole style m job shift done rest now ready has all first none bytes =
    let asked : Asked = asked_for style (work_of m job) in
    let I : InstanceValue = instance_of (said_market m) job in
    record {
      bytes = bytes;
      encodes = certificate_encoded asked shift done (is_asked style m job ready) has all;
      valid = certificate_valid asked shift done (is_asked style m job ready) has all;
      of = record {
        instance_is = said_stands I shift job.nodes (stands style m job shift done ready has) ready.said;
        nodes_are = nodes_stand I shift job.nodes;
        weights_are = all_weights I shift job.nodes job.weights rest done has.right first none;
      };
    }

-- ---- a front of it

-- where no weight was done, these bytes are a front of the head
abbrev pub FrontOfHead : Asked → ShiftValue → List Done → List ℕ → Type 0
FrontOfHead asked shift [] bytes = (more : List ℕ) × (head_bytes asked.instance shift asked.nodes (length asked.weights) ≡ bytes ++ more)
FrontOfHead asked shift (d ∷ done) bytes = Unit {0}

short_front : (asked : Asked) (shift : ShiftValue) (done : List Done) (bytes : List ℕ) → IsAsked asked → IsShiftOf asked.instance shift → length done ≤ length asked.weights
    → All (IsValidSection (head_of asked.instance shift asked.nodes)) (sections_of done)
    → ((more : List CertSection) → length done + length more ≡ length asked.weights → IsProperFront bytes (spelling Two (certificate asked shift (sections_of done ++ more)))) → FrontOfHead asked shift done bytes → AreShort bytes
short_front asked shift [] bytes is shift_is within valid proper front = short_head asked shift bytes front.0 is shift_is front.1
short_front asked shift (d ∷ done) bytes is shift_is within valid proper front = short_behind asked shift d done bytes is shift_is within valid proper

pub holds_front : (style : Style) (m : MarketValue) (job : Job) (shift : ShiftValue) (done : List Done) (bytes : List ℕ) (now : Option (List ℕ)) → IsReady (work_of m job)
    → HasDone (asked_for style (work_of m job)) shift done → now ≡ Some bytes
    → ((more : List CertSection) → length done + length more ≡ length job.weights → IsProperFront bytes (spelling Two (certificate (asked_for style (work_of m job)) shift (sections_of done ++ more))))
    → FrontOfHead (asked_for style (work_of m job)) shift done bytes → HoldsFrontOf (asked_for style (work_of m job)) shift done now
holds_front style m job shift done bytes now ready has is proper front =
    let valid = are_valid style m job shift done ready has in
    record {
      bytes = bytes;
      now_is = is;
      proper = proper;
      valid = valid;
      short = short_front (asked_for style (work_of m job)) shift done bytes (is_asked style m job ready) has.shift_is
          (done_within (instance_of (said_market m) job) shift job.nodes None job.weights done has.right) valid proper front;
    }

-- what was filed of a sweep that has done no weight is a front of the head
pub begun_head : (asked : Asked) (shift : ShiftValue) (done : List Done) (part rest : List Mark) → begun_trace asked shift done ≡ part ++ rest → FrontOfHead asked shift done (filed part)
begun_head asked shift (d ∷ done) part rest split = tt
begun_head asked shift [] part rest split =
    (filed rest, sym (append-nil (head_bytes asked.instance shift asked.nodes (length asked.weights))) ∙ sym (filed_begun asked shift []) ∙ ap filed split ∙ filed-append part rest)

-- a sweep that did all its weights has done one
pub all_begun : (asked : Asked) (shift : ShiftValue) (done : List Done) (bytes : List ℕ) → 1 ≤ length asked.weights → length done ≡ length asked.weights → FrontOfHead asked shift done bytes
all_begun asked shift (d ∷ done) bytes some all = tt
all_begun asked shift [] bytes some all = absurd (omega arith)
