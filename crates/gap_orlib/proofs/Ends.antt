-- A reader's calls, by its fields: what a feed leaves, and what the end answers.
use Rattle.std.proofs.Common.{◌≡◌, ℕ, ◌+◌, ◌<◌, ◌≤◌, inr, true, nat_le, List, [], ◌∷◌, ◌++◌, length, refl, sym, ap, ◌∙◌, subst, arith, Option, Some, None, Result, Err}
use Rattle.std.proofs.lemmas.Bool.Decides.{nat_tests}
use Rattle.gap_base.specs.Markets.{MarketValue}
use Rattle.gap_orlib.specs.declared.fault.PortFault.{PortFault}
use Rattle.gap_orlib.specs.declared.fault.PortStop.{PortStop}
use Rattle.gap_orlib.specs.declared.fault.PortStop.TheVariants.{Fault, OutOfMemory}
use Rattle.gap_orlib.specs.declared.fault.PortKind.TheVariants.{Short, Count}
use Rattle.gap_orlib.specs.Sheets.{Sheet, begun, count_told, whole_in}
use Rattle.gap_orlib.specs.Ports.{limit, fault_at, placed, finished, port}
use Rattle.gap_orlib.specs.States.{Going, State, going, stopped, no_memory, HasRead, IsStopped, answer_of, Tells, with_last, end_of, over}
use Rattle.gap_orlib.specs.ReaderViews.{stands}
use Rattle.gap_orlib.specs.Answers.{NextIs}
use Rattle.gap_orlib.proofs.Histories.{read_on, end_told, over_stopped, over_no_memory}

stands_stopped : (begin : ℕ) (tail : List ℕ) (sheet : Option Sheet) (stop : PortStop) → IsStopped (stands begin tail sheet (Some stop))
stands_stopped begin tail sheet (Fault f) = tt
stands_stopped begin tail sheet OutOfMemory = tt

over_stuck : (s : State) (more : List ℕ) → IsStopped s → s ≡ over s more
over_stuck (going g) more h = absurd h
over_stuck (stopped f) more h = sym (over_stopped f more)
over_stuck no_memory more h = sym (over_no_memory more)

-- a reader that stopped was fed whatever comes
pub stuck_read : (begin : ℕ) (tail : List ℕ) (sheet : Option Sheet) (o : Option PortStop) (stop : PortStop) (s : State) (fed more : List ℕ)
    → stands begin tail sheet o ≡ s → o ≡ Some stop → HasRead s fed → HasRead s (fed ++ more)
stuck_read begin tail sheet o stop s fed more view is h =
    let there : stands begin tail sheet (Some stop) ≡ s = ap (λ (o : Option PortStop). stands begin tail sheet o) (sym is) ∙ view in
    let st : IsStopped s = subst IsStopped there (stands_stopped begin tail sheet stop) in
    read_on s s fed more (over_stuck s more st) h

-- a reader that goes on stands where the piece leads
pub goes_on : (begin : ℕ) (tail : List ℕ) (sheet : Option Sheet) (o : Option PortStop) (s t : State) (g : Going) (fed more : List ℕ)
    → stands begin tail sheet o ≡ s → o ≡ None → over (going (record { begin = begin; tail = tail; sheet = sheet })) more ≡ going g
    → t ≡ going g → HasRead s fed → HasRead t (fed ++ more)
goes_on begin tail sheet o s t g fed more view is told there h =
    let from : going (record { begin = begin; tail = tail; sheet = sheet }) ≡ s = ap (λ (o : Option PortStop). stands begin tail sheet o) (sym is) ∙ view in
    read_on s t fed more (there ∙ sym told ∙ ap (λ (x : State). over x more) from) h

-- a reader that stops stands at the fault that the piece leads to, or was refused memory
pub stops_there : (begin : ℕ) (tail : List ℕ) (sheet : Option Sheet) (o : Option PortStop) (s : State) (stop : PortStop) (g : Going)
    (begin' : ℕ) (tail' : List ℕ) (sheet' : Option Sheet) (fed more : List ℕ)
    → stands begin tail sheet o ≡ s → o ≡ None → NextIs (Err stop) g (over (going (record { begin = begin; tail = tail; sheet = sheet })) more)
    → HasRead s fed → HasRead (stands begin' tail' sheet' (Some stop)) (fed ++ more)
stops_there begin tail sheet o s (Fault f) g begin' tail' sheet' fed more view is told h =
    let from : going (record { begin = begin; tail = tail; sheet = sheet }) ≡ s = ap (λ (o : Option PortStop). stands begin tail sheet o) (sym is) ∙ view in
    read_on s (stopped f) fed more (sym told ∙ ap (λ (x : State). over x more) from) h
stops_there begin tail sheet o s OutOfMemory g begin' tail' sheet' fed more view is told h = inr refl

-- the end of a reader that stopped
pub ends_stopped : (begin : ℕ) (tail : List ℕ) (sheet : Option Sheet) (o : Option PortStop) (stop : PortStop) (s : State) (fed : List ℕ)
    → stands begin tail sheet o ≡ s → o ≡ Some stop → HasRead s fed → Tells (Err stop) (port fed)
ends_stopped begin tail sheet o OutOfMemory s fed view is h = tt
ends_stopped begin tail sheet o (Fault f) s fed view is h =
    let there : stopped f ≡ s = ap (λ (o : Option PortStop). stands begin tail sheet o) (sym is) ∙ view in
    sym (end_told s fed (Err f) h (ap end_of (sym there)))

-- the end of a reader that goes on
pub ends_going : (begin : ℕ) (tail : List ℕ) (sheet : Option Sheet) (o : Option PortStop) (s : State) (fed : List ℕ) (answer : Result MarketValue PortStop)
    → stands begin tail sheet o ≡ s → o ≡ None → Tells answer (finished (begin + length tail) (with_last begin tail sheet))
    → HasRead s fed → Tells answer (port fed)
ends_going begin tail sheet o s fed answer view is told h =
    let there : going (record { begin = begin; tail = tail; sheet = sheet }) ≡ s = ap (λ (o : Option PortStop). stands begin tail sheet o) (sym is) ∙ view in
    let e : finished (begin + length tail) (with_last begin tail sheet) ≡ port fed = end_told s fed (finished (begin + length tail) (with_last begin tail sheet)) h (ap end_of (sym there)) in
    subst (λ (r : Result MarketValue PortFault). Tells answer r) e told

in_limit : (n : ℕ) → n ≤ limit → nat_le n limit ≡ true
in_limit n h = grind (arith, nat_tests)

-- the end behind the first token alone
pub end_short : (begin n : ℕ) (tail : List ℕ) → 0 < length tail → begin + length tail ≤ limit → Some n ≡ whole_in 2 256 tail
    → finished (begin + length tail) (with_last begin tail None) ≡ Err (fault_at (begin + length tail) Short)
unfolding count_told
end_short begin n [] h w e = absurd (omega arith)
end_short begin n (x ∷ xs) h w e = ap (λ (o : Option ℕ). finished (begin + length (x ∷ xs)) (placed begin (begun o))) (sym e) ∙ rw (in_limit (begin + length (x ∷ xs)) w) refl

pub end_count : (begin : ℕ) (tail : List ℕ) → 0 < length tail → None ≡ whole_in 2 256 tail
    → finished (begin + length tail) (with_last begin tail None) ≡ Err (fault_at begin Count)
unfolding count_told
end_count begin [] h e = absurd (omega arith)
end_count begin (x ∷ xs) h e = ap (λ (o : Option ℕ). finished (begin + length (x ∷ xs)) (placed begin (begun o))) (sym e)

-- what a reader that stopped answers
pub answer_stands : (begin : ℕ) (tail : List ℕ) (sheet : Option Sheet) (stop : PortStop) → answer_of (stands begin tail sheet (Some stop)) ≡ Err stop
answer_stands begin tail sheet (Fault f) = refl
answer_stands begin tail sheet OutOfMemory = refl

pub answer_stopped : (begin : ℕ) (tail : List ℕ) (sheet : Option Sheet) (o : Option PortStop) (stop : PortStop) (s : State) → stands begin tail sheet o ≡ s → o ≡ Some stop → answer_of s ≡ Err stop
answer_stopped begin tail sheet o stop s view is =
    ap answer_of (sym view) ∙ ap (λ (o : Option PortStop). answer_of (stands begin tail sheet o)) is ∙ answer_stands begin tail sheet stop
