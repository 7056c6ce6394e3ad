-- What a reader answers, in the words of the file.
use Rattle.std.proofs.Common.{◌≡◌, ℕ, ◌⊎◌, inl, inr, List, Result, Ok, Err, IfOk, IsOk, refl, sym, ap, subst, ◌∙◌, ◌++◌}
use Rattle.gap_base.specs.Markets.{MarketValue}
use Rattle.gap_orlib.specs.declared.fault.PortFault.{PortFault}
use Rattle.gap_orlib.specs.declared.fault.PortStop.{PortStop}
use Rattle.gap_orlib.specs.declared.fault.PortStop.TheVariants.{Fault, OutOfMemory}
use Rattle.gap_orlib.specs.Ports.{port}
use Rattle.gap_orlib.specs.States.{State, going, stopped, no_memory, HasRead, answer_of, Tells, over}
use Rattle.gap_orlib.specs.Fields.{IsMarketOf}
use Rattle.gap_orlib.specs.Faults.{IsFaultOf}
use Rattle.gap_orlib.proofs.MarketFields.{market_in_words}
use Rattle.gap_orlib.proofs.Reading.{file_is_read}
use Rattle.gap_orlib.proofs.FirstFault.{fault_in_words}
use Rattle.gap_orlib.proofs.Histories.{over_stopped, has_read_more, end_told}

-- an answer that tells what the definition does is a market in the words of the file
pub told_in_words : (answer : Result MarketValue PortStop) (fed : List ℕ) → Tells answer (port fed) → IfOk answer (IsMarketOf fed)
told_in_words (Ok m) fed h = market_in_words fed m h
told_in_words (Err stop) fed h = tt

no_fault : (f : PortFault) (k : MarketValue) → ◌≡◌ {A = Result MarketValue PortFault} (Err f) (Ok k) → ⊥
no_fault f k e = cc

-- a file of a market in its own words is answered as one, unless memory was refused
pub words_are_told : (answer : Result MarketValue PortStop) (fed : List ℕ) (m : MarketValue) → Tells answer (port fed) → IsMarketOf fed m → IsOk answer ⊎ (answer ≡ Err OutOfMemory)
words_are_told (Ok k) fed m h w = inl refl
words_are_told (Err OutOfMemory) fed m h w = inr refl
words_are_told (Err (Fault f)) fed m h w = let k : (k : MarketValue) × (port fed ≡ Ok k) = file_is_read fed m w in absurd (no_fault f k.0 (sym h ∙ k.1))

-- a fault that is answered is the first of the bytes, in the words of the file
pub fault_told : (answer : Result MarketValue PortStop) (fed : List ℕ) (f : PortFault) → Tells answer (port fed) → answer ≡ Err (Fault f) → IsFaultOf fed f
fault_told answer fed f h e = fault_in_words fed f (subst (λ (a : Result MarketValue PortStop). Tells a (port fed)) e h)

answer_stops : (s : State) (f : PortFault) → answer_of s ≡ Err (Fault f) → s ≡ stopped f
answer_stops (going g) f e = absurd (no_way f e)
  where
    no_way : (f : PortFault) → ◌≡◌ {A = Result (Unit {0}) PortStop} (Ok tt) (Err (Fault f)) → ⊥
    no_way f e = cc
answer_stops (stopped g) f e = ap stopped (same g f e)
  where
    same : (g f : PortFault) → ◌≡◌ {A = Result (Unit {0}) PortStop} (Err (Fault g)) (Err (Fault f)) → g ≡ f
    same g f e = cc
answer_stops no_memory f e = absurd (no_way f e)
  where
    no_way : (f : PortFault) → ◌≡◌ {A = Result (Unit {0}) PortStop} (Err OutOfMemory) (Err (Fault f)) → ⊥
    no_way f e = cc

-- a fault that a feed answers is that of the bytes, whatever comes behind them
pub decided_by : (s : State) (fed more : List ℕ) (f : PortFault) → HasRead s fed → answer_of s ≡ Err (Fault f) → port (fed ++ more) ≡ Err f
decided_by s fed more f h e =
    let at : s ≡ stopped f = answer_stops s f e in
    let read : HasRead (over (stopped f) more) (fed ++ more) = has_read_more (stopped f) fed more (subst (λ (x : State). HasRead x fed) at h) in
    let stays : HasRead (stopped f) (fed ++ more) = subst (λ (x : State). HasRead x (fed ++ more)) (over_stopped f more) read in
    sym (end_told (stopped f) (fed ++ more) (Err f) stays refl)
