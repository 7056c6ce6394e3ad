-- Where a checker stands, and what it answers at the end.
use Rattle.std.proofs.Common.{◌≡◌, ℕ, inl, inr, true, false, List, [], ◌++◌, length, All, Option, Some, None, Result, Ok, Err, refl, sym, ap, ◌∙◌, subst, arith, length-append}
use Rattle.gap_model.specs.declared.cert_fault.CertFault.{CertFault}
use Rattle.gap_model.specs.declared.cert_fault.CertKind.TheVariants as kind
use Rattle.gap_model.specs.Outcomes.{IsToldRight}
use Rattle.gap_cert.specs.declared.context.Phase.{Phase}
use Rattle.gap_cert.specs.declared.context.Phase.TheVariants as phase
use Rattle.gap_cert.specs.declared.context.Context.{Context}
use Rattle.gap_cert.specs.Bytes.{AreBytes}
use Rattle.gap_cert.specs.Formats.{natural_at}
use Rattle.gap_cert.specs.Contexts.{start, head_format}
use Rattle.gap_scan.specs.Scans.{Scan, fresh_scan, fed_more, next_of}
use Rattle.gap_scan.proofs.ScanLaws.{bytes_append}
use Rattle.gap_valid.specs.Heads.{IsHead}
use Rattle.gap_valid.specs.Verdicts.{VerdictValue}
use Rattle.gap_judge.specs.declared.stop.CertStop.{CertStop}
use Rattle.gap_judge.specs.declared.stop.CertStop.TheVariants as stop
use Rattle.gap_judge.specs.Progress.{Progress, fresh_progress}
use Rattle.gap_check.specs.Histories.{HasJudged, IsReadTo, IsFaultOf}
use Rattle.gap_check.specs.Stages.{IsStage, EndsAt, IsAt}
use Rattle.gap_check.specs.States.{State, HasRead}
use Rattle.gap_check.specs.Going.{IsOn, IsGoing, Reads, standing, FitsChecker}
use Rattle.gap_check.specs.Accepting.{Accepted}
use Rattle.gap_check.proofs.StageLaws.{starts_at}
use Rattle.gap_check.proofs.HistoryLaws.{judged_fresh, judged_longer, fault_stays}
use Rattle.gap_check.proofs.NextLaws.{none_stands}
use Rattle.gap_check.proofs.AcceptLaws.{verdict_at, accepted, bounds, completes, faultless}

-- ---- at the beginning

pub fresh_going : IsGoing fresh_scan fresh_progress 0
fresh_going = record { on = record { at = starts_at; bytes_are = tt; sound = refl }; fed_is = refl; most = omega arith }

pub fresh_read : IsReadTo fresh_scan fresh_progress []
unfolding next_of start head_format natural_at
fresh_read = record { items = judged_fresh; done = refl }

-- ---- behind the items

-- where there is no further item
pub none_on : (s new : Scan) (p : Progress) → IsOn s p → new ≡ (next_of s).stands → (next_of s).answer ≡ Ok None → IsOn new p
none_on s new p o e n = rw e (rw (none_stands s o.sound n) o)

pub none_read : (s new : Scan) (p : Progress) (seen : List ℕ) → IsOn s p → new ≡ (next_of s).stands → (next_of s).answer ≡ Ok None → HasJudged seen s p → IsReadTo new p seen
none_read s new p seen o e n h = rw e (rw (none_stands s o.sound n) (record { items = h; done = n }))

-- more bytes
pub fed_on : (s new : Scan) (p : Progress) (more : List ℕ) → AreBytes more → new ≡ fed_more s more → IsOn s p → IsOn new p
fed_on s new p more b e o = rw e (record { at = o.at; bytes_are = bytes_append s.rest more o.bytes_are b; sound = o.sound })

pub fed_judged : (s new : Scan) (p : Progress) (seen more : List ℕ) → AreBytes more → new ≡ fed_more s more → HasJudged seen s p → HasJudged (seen ++ more) new p
fed_judged s new p seen more b e h = rw e (judged_longer seen more s p b h)

-- ---- where a checker stands

-- a checker that stopped has the same fault, whatever is fed
pub stopped_read : (s : Scan) (p : Progress) (end : CertStop) (seen more : List ℕ) → AreBytes more → HasRead (standing s p (Some end)) seen → HasRead (standing s p (Some end)) (seen ++ more)
stopped_read s p (stop.Fault f) seen more b h = fault_stays seen more f b h
stopped_read s p stop.OutOfMemory seen more b h = tt

pub reads_on : (s : Scan) (p : Progress) (r : Result Unit CertStop) (seen : List ℕ) (u : Unit {0}) → r ≡ Ok u → Reads r seen s p → HasRead (standing s p None) seen
reads_on s p r seen u e h = subst (λ (r : Result Unit CertStop). Reads r seen s p) e h

pub reads_stop : (s t : Scan) (p q : Progress) (end : CertStop) (r : Result Unit CertStop) (seen : List ℕ) → r ≡ Err end → Reads r seen s p → HasRead (standing t q (Some end)) seen
reads_stop s t p q end r seen e h = by end (subst (λ (r : Result Unit CertStop). Reads r seen s p) e h)
  where
    by : (end : CertStop) → Reads (Err end) seen s p → HasRead (standing t q (Some end)) seen
    by (stop.Fault f) h = h
    by stop.OutOfMemory h = tt

-- ---- at the end

pub stop_all : (s : Scan) (p : Progress) (end : CertStop) (seen : List ℕ) (v : VerdictValue) → HasRead (standing s p (Some end)) seen → Accepted seen v → end ≡ stop.OutOfMemory
stop_all s p (stop.Fault f) seen v h a = absurd (faultless seen f v h a)
stop_all s p stop.OutOfMemory seen v h a = refl

pub stop_fault : (s : Scan) (p : Progress) (end : CertStop) (seen : List ℕ) (f : CertFault) → HasRead (standing s p (Some end)) seen → end ≡ stop.Fault f → IsFaultOf seen f
stop_fault s p end seen f h e = inl (subst (λ (k : CertStop). HasRead (standing s p (Some k)) seen) e h)

unended : (p : Progress) → p.ended ≡ false → p.ended ≡ true → ⊥
unended p e t = let a = sym e ∙ t in cc

-- the end mark came behind a whole head
ended_by : (q : Phase) (c : Context) (p : Progress) → IsStage q c p → EndsAt q p → p.ended ≡ true → IsHead p.head
unfolding IsStage
ended_by phase.Over c p i e t = i.head_is
ended_by phase.Head c p i e t = absurd (unended p e t)
ended_by phase.Assets c p i e t = absurd (unended p e t)
ended_by phase.Correlations c p i e t = absurd (unended p e t)
ended_by phase.Factor c p i e t = absurd (unended p e t)
ended_by phase.Diagonal c p i e t = absurd (unended p e t)
ended_by phase.Sections c p i e t = absurd (unended p e t)
ended_by phase.Section c p i e t = absurd (unended p e t)
ended_by phase.Portfolio c p i e t = absurd (unended p e t)
ended_by phase.Objective c p i e t = absurd (unended p e t)
ended_by phase.Bound c p i e t = absurd (unended p e t)
ended_by phase.Overall c p i e t = absurd (unended p e t)
ended_by phase.Node c p i e t = absurd (unended p e t)
ended_by phase.End c p i e t = absurd (unended p e t)

pub ended_head : (c : Context) (p : Progress) → IsAt c p → p.ended ≡ true → IsHead p.head
ended_head c p i t = ended_by c.phase c p i.stage i.ends t

-- whole bytes: accepted with this verdict, and with no other
pub whole_yes : (s : Scan) (p : Progress) (seen : List ℕ) → p.ended ≡ true → HasRead (standing s p None) seen → Accepted seen (verdict_at p)
whole_yes s p seen t h = accepted seen s p h t

pub whole_all : (s : Scan) (p : Progress) (seen : List ℕ) (v : VerdictValue) → HasRead (standing s p None) seen → Accepted seen v → v ≡ verdict_at p
whole_all s p seen v h a = (completes seen s p v h a).verdict_is

pub whole_bound : (s : Scan) (p : Progress) (seen : List ℕ) → p.ended ≡ true → HasRead (standing s p None) seen → All (IsToldRight (verdict_at p).instance) (verdict_at p).sections
whole_bound s p seen t h = bounds seen (verdict_at p) (accepted seen s p h t)

-- bytes that end before the end mark aren't accepted, and are cut off
pub short_none : (s : Scan) (p : Progress) (seen : List ℕ) (v : VerdictValue) → p.ended ≡ false → HasRead (standing s p None) seen → Accepted seen v → ⊥
short_none s p seen v t h a = unended p t (completes seen s p v h a).ended_is

pub short_fault : (s : Scan) (p : Progress) (fed : ℕ) (seen : List ℕ) (f : CertFault) → IsGoing s p fed → p.ended ≡ false → HasRead (standing s p None) seen → ◌≡◌ {A = Result Unit CertStop} (Err (stop.Fault (record { place = fed; kind = kind.Short }))) (Err (stop.Fault f)) → IsFaultOf seen f
short_fault s p fed seen f g t h e = inr (record { scan = s; progress = p; read = h; unended = unended p t; fault_is = sym (same f e) ∙ ap (λ (n : ℕ). record { place = n; kind = kind.Short }) (size fed g) })
  where
    same : (f : CertFault) → ◌≡◌ {A = Result Unit CertStop} (Err (stop.Fault (record { place = fed; kind = kind.Short }))) (Err (stop.Fault f)) → record { place = fed; kind = kind.Short } ≡ f
    same f e = cc

    size : (fed : ℕ) → IsGoing s p fed → fed ≡ length seen
    size fed g = omega (arith, g.fed_is, ap length h.items.scanned.fed_is, length-append h.items.scanned.bytes s.rest, h.items.scanned.place_is)

-- ---- the same, by what a checker's view is

pub stopped_more : (state : State) (s : Scan) (p : Progress) (o : Option CertStop) (end : CertStop) (seen more : List ℕ) → AreBytes more → standing s p o ≡ state → o ≡ Some end → HasRead state seen → HasRead state (seen ++ more)
stopped_more state s p o end seen more b v e h =
    let w : standing s p (Some end) ≡ state = ap (standing s p) (sym e) ∙ v in
    subst (λ (t : State). HasRead t (seen ++ more)) w (stopped_read s p end seen more b (subst (λ (t : State). HasRead t seen) (sym w) h))

pub stop_end : (state : State) (s : Scan) (p : Progress) (o : Option CertStop) (end : CertStop) (seen : List ℕ) (v : VerdictValue) → standing s p o ≡ state → o ≡ Some end → HasRead state seen → Accepted seen v → end ≡ stop.OutOfMemory
stop_end state s p o end seen v w e h a = stop_all s p end seen v (subst (λ (t : State). HasRead t seen) (sym (ap (standing s p) (sym e) ∙ w)) h) a

pub none_of : (o : Option CertStop) → ((end : CertStop) → o ≡ Some end → ⊥) → o ≡ None
none_of None h = refl
none_of (Some end) h = absurd (h end refl)

pub reading_on : (state : State) (s : Scan) (p : Progress) (o : Option CertStop) (seen : List ℕ) → standing s p o ≡ state → o ≡ None → HasRead state seen → HasRead (standing s p None) seen
reading_on state s p o seen w e h = subst (λ (t : State). HasRead t seen) (sym (ap (standing s p) (sym e) ∙ w)) h

pub going_head : (s : Scan) (p : Progress) (fed : ℕ) (o : Option CertStop) → FitsChecker s p fed o → o ≡ None → p.ended ≡ true → IsHead p.head
going_head s p fed o f e t = let g : IsGoing s p fed = subst (FitsChecker s p fed) e f in ended_head s.context p g.on.at t
