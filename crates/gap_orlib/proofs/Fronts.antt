-- More bytes than the limit are no market, and what they are is decided by the first of them.
use Rattle.std.proofs.Common.{◌≡◌, ℕ, ◌+◌, ◌<◌, inl, false, nat_le, List, ◌++◌, length, Option, Result, Ok, Err, refl, sym, ap, ◌∙◌, subst, arith}
use Rattle.std.proofs.lemmas.Bool.Decides.{nat_tests}
use Rattle.gap_orlib.specs.declared.fault.PortFault.{PortFault}
use Rattle.gap_orlib.specs.declared.fault.PortKind.TheVariants.{TooLong}
use Rattle.gap_orlib.specs.Sheets.{Sheet}
use Rattle.gap_orlib.specs.Ports.{limit, fault_at, judged, kept, port}
use Rattle.gap_orlib.specs.States.{Cut, cut, State, stopped, stated, state_of, HasRead, over}
use Rattle.gap_orlib.proofs.Runs.{cut_size}
use Rattle.gap_orlib.proofs.Histories.{has_read_more, over_stopped, end_told}

stated_late : (c : Cut) (r : Result (Option Sheet) PortFault) → nat_le (c.begin + length c.tail) limit ≡ false → (f : PortFault) × (stated c r ≡ stopped f)
stated_late c (Err f) h = (f, refl)
stated_late c (Ok s) h = (fault_at limit TooLong, rw h refl)

past_limit : (n : ℕ) → limit < n → nat_le n limit ≡ false
past_limit n h = grind (arith, nat_tests)

stops_late : (bytes : List ℕ) → limit < length bytes → (f : PortFault) × (state_of (cut bytes) ≡ stopped f)
unfolding state_of
stops_late bytes h =
    stated_late (cut bytes) (judged (kept (cut bytes).whole)) (ap (λ (n : ℕ). nat_le n limit) (cut_size bytes) ∙ past_limit (length bytes) h)

-- what bytes past the limit are doesn't depend on those behind
decided_late : (front more : List ℕ) (f : PortFault) → state_of (cut front) ≡ stopped f → port (front ++ more) ≡ Err f
decided_late front more f e =
    let read : HasRead (over (stopped f) more) (front ++ more) = has_read_more (stopped f) front more (inl (sym e)) in
    let stays : HasRead (stopped f) (front ++ more) = subst (λ (x : State). HasRead x (front ++ more)) (over_stopped f more) read in
    sym (end_told (stopped f) (front ++ more) (Err f) stays refl)

-- more bytes than the limit are no market
pub port_long : (bytes : List ℕ) → limit < length bytes → (f : PortFault) × (port bytes ≡ Err f)
port_long bytes h =
    let s : (f : PortFault) × (state_of (cut bytes) ≡ stopped f) = stops_late bytes h in
    (s.0, sym (end_told (stopped s.0) bytes (Err s.0) (inl (sym s.1)) refl))

-- what they are is decided by as many of them as pass the limit
pub port_front : (front more : List ℕ) → limit < length front → port (front ++ more) ≡ port front
port_front front more h =
    let s : (f : PortFault) × (state_of (cut front) ≡ stopped f) = stops_late front h in
    decided_late front more s.0 s.1 ∙ end_told (stopped s.0) front (Err s.0) (inl (sym s.1)) refl
