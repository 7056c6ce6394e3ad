-- A weight that is put out: its section, its line and the line of its lots.
use Rattle.std.proofs.Common.{◌≡◌, ℕ, List, ◌++◌, Option, Result, Ok, Err, sym, ap, ◌∙◌, subst}
use Rattle.gap_base.specs.declared.weight.Weight.{Weight}
use Rattle.gap_files.specs.Outside.{FilesNow, SinkNow}
use Rattle.gap_instance.specs.Instances.{InstanceValue}
use Rattle.gap_psd.specs.Shifts.{ShiftValue}
use Rattle.gap_cert.specs.Certificates.{CertSection}
use Rattle.gap_model.specs.declared.front.FrontRow.{FrontRow}
use Rattle.gap_model.specs.declared.outcome.Best.{Best}
use Rattle.gap_model.specs.declared.outcome.Outcome.{Outcome}
use Rattle.gap_writer.specs.Filled.{section_bytes}
use Rattle.gap_solved.specs.Solveds.{SolvedValue}
use Rattle.gap_solve.specs.Ends.{best_in}
use Rattle.gap_solve.specs.Solving.{IsSolved}
use Rattle.gap_files.specs.Marks.{Mark, appends, prints}
use Rattle.gap_files.specs.Drains.{Breaks, Fills}
use Rattle.gap_files.specs.Steps.{Step}
use Rattle.gap_files.specs.declared.halt.Halt.{Halt}
use Rattle.gap_files.proofs.StepLaws.{then_step, stops_early}
use Rattle.gap_sweep.specs.declared.carried.Carried.{Carried}
use Rattle.gap_sweep.specs.Asked.{lots_of}
use Rattle.gap_sweep.specs.Texts.{weight_text, portfolio_text, own_number, own_row}
use Rattle.gap_sweep.specs.Traces.{weight_trace}
use Rattle.gap_sweep.proofs.TryLaws.{Notes}

-- it stopped in the section
pub put_unfilled : (lots : ℕ) (solved : SolvedValue) (section : CertSection) (name : List ℕ) (f g : FilesNow) (s : SinkNow) (halt : Halt)
    → Breaks name f g s (section_bytes section) halt → Step name f s g s (weight_trace lots (record { solved = solved; section = section })) (Err halt)
unfolding weight_trace
put_unfilled lots solved section name f g s halt breaks =
    stops_early name f s g s (appends (section_bytes section) ++ prints (weight_text lots solved)) (prints (portfolio_text (best_in solved.outcome))) halt
    (stops_early name f s g s (appends (section_bytes section)) (prints (weight_text lots solved)) halt breaks.step)

-- it stopped in the line
pub put_unlined : (lots told : ℕ) (solved : SolvedValue) (section : CertSection) (name : List ℕ) (f g : FilesNow) (s t : SinkNow) (halt : Halt) → told ≡ lots
    → Step name f s g s (appends (section_bytes section)) (Ok tt) → Step name g s g t (prints (weight_text told solved)) (Err halt)
    → Step name f s g t (weight_trace lots (record { solved = solved; section = section })) (Err halt)
unfolding weight_trace
put_unlined lots told solved section name f g s t halt same first next =
    stops_early name f s g t (appends (section_bytes section) ++ prints (weight_text lots solved)) (prints (portfolio_text (best_in solved.outcome))) halt
    (then_step name f s g s g t (appends (section_bytes section)) (prints (weight_text lots solved)) tt (Err halt) first
    (subst (λ (n : ℕ). Step name g s g t (prints (weight_text n solved)) (Err halt)) same next))

-- it did all, or stopped in the line of the lots
pub put_all_out : (lots told : ℕ) (solved : SolvedValue) (outcome : Outcome) (section : CertSection) (name : List ℕ) (f g : FilesNow) (s t u : SinkNow) (r : Result (Unit {0}) Halt)
    → told ≡ lots → outcome ≡ solved.outcome
    → Step name f s g s (appends (section_bytes section)) (Ok tt) → Step name g s g t (prints (weight_text told solved)) (Ok tt)
    → Step name g t g u (prints (portfolio_text (best_in outcome))) r → Step name f s g u (weight_trace lots (record { solved = solved; section = section })) r
unfolding weight_trace
put_all_out lots told solved outcome section name f g s t u r same is first next last =
    then_step name f s g t g u (appends (section_bytes section) ++ prints (weight_text lots solved)) (prints (portfolio_text (best_in solved.outcome))) tt r
    (then_step name f s g s g t (appends (section_bytes section)) (prints (weight_text lots solved)) tt (Ok tt) first
    (subst (λ (n : ℕ). Step name g s g t (prints (weight_text n solved)) (Ok tt)) same next))
    (subst (λ (x : Outcome). Step name g t g u (prints (portfolio_text (best_in x))) r) is last)

-- the list that it began with is the one carried
pub solved_from : (I : InstanceValue) (shift : ShiftValue) (w : Weight) (nodes : ℕ) (warm carried : Option (List ℕ)) (solved : SolvedValue) → warm ≡ carried
    → IsSolved I shift w nodes warm solved → IsSolved I shift w nodes carried solved
solved_from I shift w nodes warm carried solved same solves = subst (λ (x : Option (List ℕ)). IsSolved I shift w nodes x solved) same solves

-- what is carried on, by what was read of the weight
pub notes_from : (I : InstanceValue) (number : ℕ) (weight read : Weight) (outcome told : Outcome) (best : Option Best) (old new : Carried)
    → read ≡ weight → best ≡ best_in told → told ≡ outcome → Notes I number read best old new → Notes I number weight (best_in outcome) old new
notes_from I number weight read outcome told best old new same is reads notes =
    subst (λ (w : Weight). Notes I number w (best_in outcome) old new) same
    (subst (λ (b : Option Best). Notes I number read b old new) (is ∙ ap best_in reads) notes)
