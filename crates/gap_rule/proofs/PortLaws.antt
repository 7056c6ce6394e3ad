-- What a reader of port files has read.
use Rattle.std.proofs.Common.{◌≡◌, ℕ, ◌+◌, ◌≤◌, inl, inr, Bool, true, false, nat_le, List, ◌++◌, length, refl, sym, ap, ◌∙◌, arith, if◌then◌else◌, Option, Some, Result, Ok, Err}
use Rattle.std.proofs.lemmas.Bool.Decides.{nat_tests}
use Rattle.gap_orlib.specs.declared.fault.PortFault.{PortFault}
use Rattle.gap_orlib.specs.declared.fault.PortStop.TheVariants.{Fault}
use Rattle.gap_orlib.specs.declared.fault.PortKind.TheVariants.{TooLong}
use Rattle.gap_orlib.specs.Sheets.{Sheet}
use Rattle.gap_orlib.specs.Ports.{limit, fault_at, port}
use Rattle.gap_orlib.specs.States.{Cut, cut, Going, State, going, stopped, no_memory, stated, state_of, HasRead, answer_of, end_of, over}
use Rattle.gap_orlib.proofs.Runs.{cut_size}
use Rattle.gap_orlib.proofs.Histories.{has_read_more, over_stopped, end_told}

-- a fault that was found over some bytes is that of any bytes that begin with them
pub refused_port : (s : State) (fed rest : List ℕ) (f : PortFault) → HasRead s fed → answer_of s ≡ Err (Fault f) → port (fed ++ rest) ≡ Err f
refused_port (going g) fed rest f h e = cc
refused_port (stopped k) fed rest f h e =
    let same : k ≡ f = cc in
    let more = has_read_more (stopped k) fed rest h in
    sym (end_told (over (stopped k) rest) (fed ++ rest) (Err f) more (ap end_of (over_stopped k rest) ∙ ap (λ (z : PortFault). Some (Err z)) same))
refused_port no_memory fed rest f h e = cc

within_test : (n : ℕ) → nat_le n limit ≡ true → n ≤ limit
within_test n e = grind (arith, nat_tests)

stated_bool : (b : Bool) (g k : Going) → going g ≡ (if b then going k else stopped (fault_at limit TooLong)) → b ≡ true
stated_bool true g k e = refl
stated_bool false g k e = cc

stated_going : (c : Cut) (r : Result (Option Sheet) PortFault) (g : Going) → going g ≡ stated c r → nat_le (c.begin + length c.tail) limit ≡ true
stated_going c (Err f) g e = cc
stated_going c (Ok s) g e = stated_bool (nat_le (c.begin + length c.tail) limit) g _ e

-- a reader that goes on was fed at most as many bytes as a port file may have
pub going_within : (s : State) (fed : List ℕ) → HasRead s fed → answer_of s ≡ Ok tt → length fed ≤ limit
unfolding state_of
going_within (going g) fed (inl e) h =
    let size = cut_size fed in
    let test = within_test _ (stated_going (cut fed) _ g e) in
    omega arith
going_within (going g) fed (inr e) h = cc
going_within (stopped k) fed r h = cc
going_within no_memory fed r h = cc
