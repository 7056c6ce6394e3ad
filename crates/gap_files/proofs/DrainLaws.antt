-- Bytes that go into a file through a buffer.
use Rattle.std.proofs.Common.{◌≡◌, ℕ, ◌<◌, List, [], ◌++◌, length, append_assoc, Result, Ok, Err, refl, sym, ap, ◌∙◌, subst, arith}
use Rattle.gap_files.specs.Outside.{FilesNow, SinkNow}
use Rattle.gap_files.specs.Marks.{Mark, appends, streams, DidLess}
use Rattle.gap_files.specs.Steps.{Step}
use Rattle.gap_files.specs.Drains.{Flows, Breaks}
use Rattle.gap_files.specs.declared.halt.Halt.{Halt}
use Rattle.gap_files.specs.declared.halt.Halt.TheVariants.{OutOfMemory}
use Rattle.gap_files.proofs.MarkLaws.{appends-append, appends-none, length-appends, less_behind, less_of_more}
use Rattle.gap_files.proofs.StepLaws.{then_step, stops_early, gives_up, step_none, step_same}

-- nothing has gone yet
pub flows_none : (name : List ℕ) (f : FilesNow) (sink : SinkNow) (all : List ℕ) → Flows name f f sink all all
flows_none name f sink all = record {
  taken = [];
  split = refl;
  step = step_same name f sink f sink [] (appends []) (Ok tt) (sym appends-none) (step_none name f sink tt);
}

-- bytes come in behind those that are left
pub flows_put : (name : List ℕ) (f g : FilesNow) (sink : SinkNow) (all left bytes : List ℕ)
    → Flows name f g sink all left → Flows name f g sink (all ++ bytes) (left ++ bytes)
flows_put name f g sink all left bytes flows = record {
  taken = flows.taken;
  split = ap (λ (x : List ℕ). x ++ bytes) flows.split ∙ append_assoc flows.taken left bytes;
  step = flows.step;
}

-- what is left flows on
pub flows_both : (name : List ℕ) (f g h : FilesNow) (sink : SinkNow) (all left less : List ℕ)
    → Flows name f g sink all left → Flows name g h sink left less → Flows name f h sink all less
flows_both name f g h sink all left less first second = record {
  taken = first.taken ++ second.taken;
  split = first.split ∙ ap (λ (x : List ℕ). first.taken ++ x) second.split ∙ sym (append_assoc first.taken second.taken less);
  step = step_same name f sink h sink (appends first.taken ++ appends second.taken) (appends (first.taken ++ second.taken)) (Ok tt)
      (sym (appends-append first.taken second.taken))
      (then_step name f sink g sink h sink (appends first.taken) (appends second.taken) tt (Ok tt) first.step second.step);
}

-- a piece of what is left goes
pub flows_more : (name : List ℕ) (f g h : FilesNow) (sink : SinkNow) (all left piece less : List ℕ)
    → left ≡ piece ++ less → Flows name f g sink all left → Step name g sink h sink (appends piece) (Ok tt) → Flows name f h sink all less
flows_more name f g h sink all left piece less split flows step =
    flows_both name f g h sink all left less flows (record { taken = piece; split = split; step = step })

-- all that is left goes, or it stops
pub flows_end : (name : List ℕ) (f g h : FilesNow) (sink : SinkNow) (all left : List ℕ) (r : Result (Unit {0}) Halt)
    → Flows name f g sink all left → Step name g sink h sink (appends left) r → Step name f sink h sink (appends all) r
flows_end name f g h sink all left r flows step =
    step_same name f sink h sink (appends flows.taken ++ appends left) (appends all) r
    (sym (appends-append flows.taken left) ∙ ap appends (sym flows.split))
    (then_step name f sink g sink h sink (appends flows.taken) (appends left) tt r flows.step step)

-- a proper front of what is left goes
less_end : (name : List ℕ) (f g h : FilesNow) (sink : SinkNow) (all left : List ℕ)
    → Flows name f g sink all left → DidLess (streams name g sink) (streams name h sink) (appends left)
    → DidLess (streams name f sink) (streams name h sink) (appends all)
less_end name f g h sink all left flows less =
    subst (λ (x : List Mark). DidLess (streams name f sink) (streams name h sink) x)
    (sym (appends-append flows.taken left) ∙ ap appends (sym flows.split))
    (less_behind (streams name f sink) (streams name g sink) (streams name h sink) (appends flows.taken) (appends left) flows.step.does less)

-- it stops in what is left
pub breaks_end : (name : List ℕ) (f g h : FilesNow) (sink : SinkNow) (all left : List ℕ) (halt : Halt)
    → Flows name f g sink all left → Breaks name g h sink left halt → Breaks name f h sink all halt
breaks_end name f g h sink all left halt flows breaks = record {
  step = flows_end name f g h sink all left (Err halt) flows breaks.step;
  less = less_end name f g h sink all left flows breaks.less;
}

-- it stopped before bytes that come later
pub breaks_early : (name : List ℕ) (f g : FilesNow) (sink : SinkNow) (all more : List ℕ) (halt : Halt)
    → Breaks name f g sink all halt → Breaks name f g sink (all ++ more) halt
breaks_early name f g sink all more halt breaks = record {
  step = step_same name f sink g sink (appends all ++ appends more) (appends (all ++ more)) (Err halt) (sym (appends-append all more))
      (stops_early name f sink g sink (appends all) (appends more) halt breaks.step);
  less = subst (λ (x : List Mark). DidLess (streams name f sink) (streams name g sink) x) (sym (appends-append all more))
      (less_of_more (streams name f sink) (streams name g sink) (appends all) (appends more) breaks.less);
}

-- memory is refused while something is left
pub breaks_memory : (name : List ℕ) (f g : FilesNow) (sink : SinkNow) (all left : List ℕ)
    → 0 < length left → Flows name f g sink all left → Breaks name f g sink all OutOfMemory
breaks_memory name f g sink all left some flows =
    let same : appends flows.taken ++ appends left ≡ appends all = sym (appends-append flows.taken left) ∙ ap appends (sym flows.split) in
    let marks : length (appends left) ≡ length left = length-appends left in
    record {
      step = step_same name f sink g sink (appends flows.taken ++ appends left) (appends all) (Err OutOfMemory) same
          (gives_up name f sink g sink (appends flows.taken) (appends left) tt flows.step);
      less = subst (λ (x : List Mark). DidLess (streams name f sink) (streams name g sink) x) same (record {
        part = appends flows.taken;
        rest = appends left;
        split = refl;
        left = omega arith;
        did = flows.step.does;
      });
    }
