-- The headline, from the contract of `run`.
use Rattle.std.proofs.Common.{◌≡◌, ◌≢◌, ℕ, ◌≤◌, ◌⊎◌, inl, inr, Bool, true, false, nat_lt, List, [], ◌∷◌, length, append-nil, All, Some, None, Result, Ok, Err, if◌then◌else◌, refl, sym, ap, ◌∙◌, subst, arith}
use Rattle.std.specs.Option.{ForSome, option_map}
use Rattle.std.proofs.lemmas.Bool.Decides.{nat_tests}
use Rattle.gap_base.specs.declared.job.Job.{Job}
use Rattle.gap_base.specs.Markets.{MarketValue}
use Rattle.gap_files.specs.Outside.{FilesNow, SinkNow, SameEverywhere, bytes_of}
use Rattle.gap_valid.specs.Said.{said_market}
use Rattle.gap_instance.specs.Instances.{instance_of}
use Rattle.gap_job.specs.Jobs.{job_in}
use Rattle.gap_job.specs.declared.fault.JobFault.{JobFault}
use Rattle.gap_orlib.specs.Ports.{port as market_in}
use Rattle.gap_orlib.specs.declared.fault.PortFault.{PortFault}
use Rattle.gap_psd.specs.Shifts.{ShiftValue}
use Rattle.gap_rule.specs.Names.{AreTold, held}
use Rattle.gap_rule.specs.Rules.{Rules, After, RulesJob, RulesDemo, quick_ruling, refused_as}
use Rattle.gap_rule.specs.Steps.{CanBeDone, IsReady}
use Rattle.gap_rule.specs.Tasks.{quick_job, demo_job, work_of}
use Rattle.gap_rule.specs.declared.task.Task.{Task}
use Rattle.gap_rule.specs.declared.task.Task.TheVariants.{Quick, Solve, Demo}
use Rattle.gap_sweep.specs.declared.style.Style.{Style}
use Rattle.gap_sweep.specs.Asked.{Asked, Done}
use Rattle.gap_sweep.specs.Runs.{HasDone, Finished, Stopped, under_way, at_the_end, Leaves, unstarted, stopped, Solves as SweepEnds}
use Rattle.gap_sweep.specs.Texts.{frontier_text}
use Rattle.gap_sweep.specs.Traces.{begun_trace, whole_trace}
use Rattle.gap_sweep.proofs.SpellLaws.{spelled_all, file_is, front_proper, less_proper, no_more}
use Rattle.gap_tangent.specs.Bounds.{setting_with}
use Rattle.gap_files.specs.Marks.{filed, stream, streams, started}
use Rattle.gap_files.specs.Steps.{IsUnstarted}
use Rattle.gap_files.specs.declared.halt.Halt.{Halt}
use Rattle.gap_files.specs.declared.halt.Halt.TheVariants as halt
use Rattle.gap_files.proofs.MarkLaws.{front_of_less}
use Rattle.gap_words.specs.Forms.{FormValue, faulty, quick, solve, check, verify, demo, upgrade}
use Rattle.gap_words.specs.Names.{reads}
use Rattle.gap_words.specs.Refusals.{refusal_status}
use Rattle.gap_words.specs.declared.form.DemoWords.{DemoWords}
use Rattle.gap_words.specs.declared.form.QuickWords.{QuickWords}
use Rattle.gap_words.specs.declared.refusal.Refusal.{Refusal}
use Rattle.gap_words.specs.declared.refusal.Refusal.TheVariants.{Words, Port, Job as BadJob, HeldRange, Certificate as BadCertificate, Differs}
use Rattle.gap_top.specs.Answers.{Answers, IsUnruled, IsSettled, Comes, ReportsRefusal}
use Rattle.gap_top.specs.Headline.{AsksFor, Solves, style_of, solving, Headline}
use Rattle.gap_top.specs.Holding.{IsSectionOfDone, IsCertified}
use Rattle.gap_top.specs.Quality.{IsGood}
use Rattle.gap_top.specs.Reporting.{report, IsReported}
use Rattle.gap_top.specs.Saying.{IsSaidRight}
use Rattle.gap_top.specs.Statuses.{status_number, IsOneOf}
use Rattle.gap_top.specs.Working.{cert_in, source_in, ended_by, Sweeps, Does, Performs}
use Rattle.gap_top.specs.declared.stop.Stop.{Stop}
use Rattle.gap_top.proofs.AnswerLaws.{not_three, not_four}
use Rattle.gap_top.proofs.CertifiedLaws.{are_known, holds_whole, holds_front, begun_head, all_begun}
use Rattle.gap_top.proofs.GoodLaws.{are_first, all_done, one_said, one_section, one_good, in_order, frontier}
use Rattle.gap_top.proofs.RenewLaws.{not_zero, unruled_zero}
use Rattle.gap_top.proofs.ReportLaws.{reported_all, reported_front, whole_text, begun_front}

-- ---- what is asked for

-- a task of a command that solves
record IsFor (command : FormValue) (holds : List ℕ → List ℕ) (task : Task) : Type 0 where
  market : MarketValue
  job : Job
  asks : AsksFor command holds market job
  ready : CanBeDone task → IsReady (work_of market job)
  does : (source name : List ℕ) (f : FilesNow) (s : SinkNow) (g : FilesNow) (t : SinkNow) (r : Result (Unit {0}) Stop) → Does task source name f s g t r → Sweeps (solving command market job) name f s g t r

same_task : (a b : Task) → ◌≡◌ {A = Result Task Refusal} (Ok a) (Ok b) → a ≡ b
same_task a b e = cc

solve_for : (port job_file cert : List ℕ) (holds : List ℕ → List ℕ) (task : Task) (m : MarketValue) (job : Job) → market_in (holds port) ≡ Ok m → job_in m.assets (holds job_file) ≡ Ok job → task ≡ Solve (work_of m job)
    → IsFor (solve port job_file cert) holds task
solve_for port job_file cert holds task m job is job_is same = record {
  market = m;
  job = job;
  asks = (is, job_is);
  ready = λ can. subst CanBeDone same can;
  does = λ source name f s g t r does. subst (λ (x : Task). Does x source name f s g t r) same does;
}

solve_job : (port job_file cert : List ℕ) (holds : List ℕ → List ℕ) (task : Task) (m : MarketValue) (found : Result Job JobFault) → market_in (holds port) ≡ Ok m → job_in m.assets (holds job_file) ≡ found
    → After (refused_as BadJob found) (λ job r. r ≡ Ok (Solve (work_of m job))) (Ok task) → IsFor (solve port job_file cert) holds task
solve_job port job_file cert holds task m (Ok job) is job_is rules = solve_for port job_file cert holds task m job is job_is (same_task task (Solve (work_of m job)) rules)
solve_job port job_file cert holds task m (Err fault) is job_is rules = absurd (cc)

solve_market : (port job_file cert : List ℕ) (holds : List ℕ → List ℕ) (task : Task) (found : Result MarketValue PortFault) → market_in (holds port) ≡ found
    → After (refused_as Port found) (λ market. RulesJob market (holds job_file)) (Ok task) → IsFor (solve port job_file cert) holds task
solve_market port job_file cert holds task (Ok m) is rules = solve_job port job_file cert holds task m (job_in m.assets (holds job_file)) is refl rules
solve_market port job_file cert holds task (Err fault) is rules = absurd (cc)

quick_for : (port : List ℕ) (asked : QuickWords) (holds : List ℕ → List ℕ) (task : Task) (m : MarketValue) → market_in (holds port) ≡ Ok m → asked.held_most ≤ m.assets → task ≡ Quick (work_of m (quick_job m.assets asked))
    → IsFor (quick port asked) holds task
quick_for port asked holds task m is enough same = record {
  market = m;
  job = quick_job m.assets asked;
  asks = (is, enough, refl);
  ready = λ can. subst CanBeDone same can;
  does = λ source name f s g t r does. subst (λ (x : Task). Does x source name f s g t r) same does;
}

enough_by : (a h : ℕ) → nat_lt a h ≡ false → h ≤ a
enough_by a h e = grind (arith, nat_tests)

quick_ruled : (port : List ℕ) (asked : QuickWords) (holds : List ℕ → List ℕ) (task : Task) (m : MarketValue) (less : Bool) (refused : Refusal) → market_in (holds port) ≡ Ok m → nat_lt m.assets asked.held_most ≡ less
    → ◌≡◌ {A = Result Task Refusal} (Ok task) (if less then Err refused else Ok (Quick (work_of m (quick_job m.assets asked)))) → IsFor (quick port asked) holds task
quick_ruled port asked holds task m true refused is test rules = absurd (cc)
quick_ruled port asked holds task m false refused is test rules =
    quick_for port asked holds task m is (enough_by m.assets asked.held_most test) (same_task task (Quick (work_of m (quick_job m.assets asked))) rules)

quick_market : (port : List ℕ) (asked : QuickWords) (holds : List ℕ → List ℕ) (task : Task) (found : Result MarketValue PortFault) → market_in (holds port) ≡ found
    → After (refused_as Port found) (λ market r. r ≡ quick_ruling asked market) (Ok task) → IsFor (quick port asked) holds task
quick_market port asked holds task (Ok m) is rules = quick_ruled port asked holds task m (nat_lt m.assets asked.held_most) HeldRange is refl rules
quick_market port asked holds task (Err fault) is rules = absurd (cc)

demo_for : (asked : DemoWords) (holds : List ℕ → List ℕ) (task : Task) → (rules : RulesDemo asked (Ok task)) → task ≡ Demo (work_of rules.market (demo_job asked)) → IsFor (demo asked) holds task
demo_for asked holds task rules same = record {
  market = rules.market;
  job = demo_job asked;
  asks = (rules.market_is, rules.generated, refl);
  ready = λ can. subst CanBeDone same can;
  does = λ source name f s g t r does. subst (λ (x : Task). Does x source name f s g t r) same does;
}

asks_for : (command : FormValue) (holds : List ℕ → List ℕ) (task : Task) → Solves command → Rules command holds (Ok task) → IsFor command holds task
asks_for faulty holds task solves rules = absurd solves
asks_for (quick port asked) holds task solves rules = quick_market port asked holds task (market_in (holds port)) refl rules
asks_for (solve port job cert) holds task solves rules = solve_market port job cert holds task (market_in (holds port)) refl rules
asks_for (check cert) holds task solves rules = absurd solves
asks_for (verify port job cert) holds task solves rules = absurd solves
asks_for (demo asked) holds task solves rules = demo_for asked holds task rules (same_task task (Demo (work_of rules.market (demo_job asked))) rules.ruled)
asks_for (upgrade cert new) holds task solves rules = absurd solves

-- ---- what was done

-- what a run has put out, and what is known of it
record IsPutOut (command : FormValue) (m : MarketValue) (job : Job) (f : FilesNow) (s : SinkNow) (g : FilesNow) (t : SinkNow) (status : ℕ) : Type 0 where
  shift : ShiftValue
  done : List Done
  has_done : HasDone (solving command m job) shift done
  all : status ≡ 0 → length done ≡ length job.weights
  written : IsReported (report (style_of command) (instance_of m job) m.rounded shift done) s t status
  certified : ForSome (stream (cert_in command) f) (λ was. IsCertified m job (solving command m job) shift done (stream (cert_in command) g) status)

headline_by : (command : FormValue) (m : MarketValue) (job : Job) (f : FilesNow) (s : SinkNow) (g : FilesNow) (t : SinkNow) (status : ℕ) → AsksFor command (held f) m job → IsReady (work_of m job)
    → IsPutOut command m job f s g t status → Headline command f s g t status
headline_by command m job f s g t status asks ready out =
    let I = instance_of (said_market m) job in
    record {
      market = m;
      job = job;
      shift = out.shift;
      done = out.done;
      asked = asks;
      written = out.written;
      in_order = in_order I out.shift job.nodes job.weights out.done status out.has_done.right out.all;
      right = all_done (IsSaidRight (instance_of m job) job.nodes) I out.shift job.nodes None job.weights out.done
          (λ warm weight d one. one_said m job out.shift warm weight d one) out.has_done.right;
      certified = out.certified;
      good = all_done (λ d. IsGood (instance_of m job) (setting_with I out.shift d.solved.weight) job.nodes d) I out.shift job.nodes None job.weights out.done
          (λ warm weight d one. one_good m job out.shift job.nodes warm weight d ready.instance_is one) out.has_done.right;
      frontier = frontier m job out.shift job.nodes job.weights out.done ready.instance_is.limits_are.lots_least
          (are_known (style_of command) m job out.shift out.done ready out.has_done) out.has_done.right;
    }

sections_are : (command : FormValue) (m : MarketValue) (job : Job) (shift : ShiftValue) (done : List Done) → HasDone (solving command m job) shift done
    → All (λ d. IsSectionOfDone (setting_with (instance_of (said_market m) job) shift d.solved.weight) d) done
sections_are command m job shift done has =
    all_done (λ d. IsSectionOfDone (setting_with (instance_of (said_market m) job) shift d.solved.weight) d) (instance_of (said_market m) job) shift job.nodes None job.weights done
    (λ warm weight d one. one_section (instance_of (said_market m) job) shift job.nodes warm weight d one) has.right

-- the contents of a name that are told before are told at a later moment, where they stay
told_on : (name : List ℕ) (f m : FilesNow) (was : List ℕ) → SameEverywhere f.content m.content → stream name f ≡ Some was → stream name m ≡ Some was
told_on name f m was same told = ap (option_map bytes_of) (same name) ∙ told

-- all was put out
whole_out : (command : FormValue) (m : MarketValue) (job : Job) (f k : FilesNow) (s : SinkNow) (g : FilesNow) (t : SinkNow) → IsReady (work_of m job) → SameEverywhere f.content k.content
    → Finished (solving command m job) (started (cert_in command) k s) (streams (cert_in command) g t) → IsPutOut command m job f s g t 0
whole_out command m job f k s g t ready same finished =
    let style : Style = style_of command in
    let asked : Asked = solving command m job in
    let name : List ℕ = cert_in command in
    let I = instance_of (said_market m) job in
    let first = are_first I finished.shift job.nodes None job.weights finished.done finished.has_done.right in
    let order = in_order I finished.shift job.nodes job.weights finished.done 0 finished.has_done.right (λ zero. finished.all) in
    record {
      shift = finished.shift;
      done = finished.done;
      has_done = finished.has_done;
      all = λ zero. finished.all;
      written = reported_all (report style (instance_of m job) m.rounded finished.shift finished.done) (started name k s) (streams name g t) s t (whole_trace asked finished.shift finished.done) refl refl
          (whole_text style m job job.nodes m.rounded job.weights finished.shift finished.done) finished.did;
      certified = λ was told. record {
        shift_is = finished.has_done.shift_is;
        sections = sections_are command m job finished.shift finished.done finished.has_done;
        whole = λ zero. holds_whole style m job finished.shift finished.done order.rest (stream name g) ready finished.has_done finished.all order.first (order.all refl)
            (file_is name k s (streams name g t) (whole_trace asked finished.shift finished.done) was (told_on name f k was same told) finished.did
            ∙ ap Some (spelled_all asked finished.shift finished.done finished.all));
        front = λ not. absurd (not refl);
      };
    }

-- a front was put out
stopped_out : (command : FormValue) (m : MarketValue) (job : Job) (f k : FilesNow) (s : SinkNow) (g : FilesNow) (t : SinkNow) (status : ℕ) → IsReady (work_of m job) → SameEverywhere f.content k.content → status ≢ 0
    → Stopped (solving command m job) (started (cert_in command) k s) (streams (cert_in command) g t) → IsPutOut command m job f s g t status
stopped_out command m job f k s g t status ready same not (under_way shift done has front) =
    let style : Style = style_of command in
    let asked : Asked = solving command m job in
    let name : List ℕ = cert_in command in
    record {
      shift = shift;
      done = done;
      has_done = has;
      all = λ zero. absurd (not zero);
      written = reported_front (report style (instance_of m job) m.rounded shift done) (frontier_text (instance_of (said_market m) job) style done) (started name k s) (streams name g t) s t (begun_trace asked shift done) status not refl refl
          (begun_front style m job job.nodes m.rounded job.weights shift done) front;
      certified = λ was told. record {
        shift_is = has.shift_is;
        sections = sections_are command m job shift done has;
        whole = λ zero. absurd (not zero);
        front = λ other. holds_front style m job shift done (filed front.part) (stream name g) ready has
            (file_is name k s (streams name g t) front.part was (told_on name f k was same told) front.did)
            (front_proper asked shift done front.part front.rest front.split) (begun_head asked shift done front.part front.rest front.split);
      };
    }
stopped_out command m job f k s g t status ready same not (at_the_end shift done has all less) =
    let style : Style = style_of command in
    let asked : Asked = solving command m job in
    let name : List ℕ = cert_in command in
    record {
      shift = shift;
      done = done;
      has_done = has;
      all = λ zero. absurd (not zero);
      written = reported_front (report style (instance_of m job) m.rounded shift done) [] (started name k s) (streams name g t) s t (whole_trace asked shift done) status not refl refl
          (append-nil _ ∙ whole_text style m job job.nodes m.rounded job.weights shift done) (front_of_less (started name k s) (streams name g t) (whole_trace asked shift done) less);
      certified = λ was told. record {
        shift_is = has.shift_is;
        sections = sections_are command m job shift done has;
        whole = λ zero. absurd (not zero);
        front = λ other. holds_front style m job shift done (filed less.part) (stream name g) ready has
            (file_is name k s (streams name g t) less.part was (told_on name f k was same told) less.did)
            (no_more asked shift done (filed less.part) all (less_proper asked shift done less.part less.rest less.left less.split all)) (all_begun asked shift done (filed less.part) ready.some all);
      };
    }

-- ---- from the contract

-- nothing was begun: the file as it was or empty, and nothing printed
unbegun_on : (name : List ℕ) (f m : FilesNow) (s : SinkNow) (g : FilesNow) (t : SinkNow) → SameEverywhere f.content m.content → IsUnstarted name m s g t → IsUnstarted name f s g t
unbegun_on name f m s g t same un = record { file = λ before told. un.file before (same name ∙ told); sink = un.sink }

-- what came of a sweep
abbrev CameTo : FormValue → FilesNow → SinkNow → FilesNow → SinkNow → ℕ → Type 0
CameTo command f s g t status = ((status ≢ 0) × IsUnstarted (cert_in command) f s g t) ⊎ Headline command f s g t status

same_number : (command : FormValue) (f : FilesNow) (s : SinkNow) (g : FilesNow) (t : SinkNow) (a b : ℕ) → b ≡ a → CameTo command f s g t a → CameTo command f s g t b
same_number command f s g t a b e came = subst (CameTo command f s g t) (sym e) came

stopped_at : (command : FormValue) (m : MarketValue) (job : Job) (f k : FilesNow) (s : SinkNow) (g : FilesNow) (t : SinkNow) (status : ℕ) → AsksFor command (held f) m job → IsReady (work_of m job)
    → SameEverywhere f.content k.content → status ≢ 0 → Leaves (solving command m job) (cert_in command) k s g t → CameTo command f s g t status
stopped_at command m job f k s g t status asks ready same not (unstarted left) = inl (not, unbegun_on (cert_in command) f k s g t same left)
stopped_at command m job f k s g t status asks ready same not (stopped stop) = inr (headline_by command m job f s g t status asks ready (stopped_out command m job f k s g t status ready same not stop))

came_by : (command : FormValue) (m : MarketValue) (job : Job) (f k : FilesNow) (s : SinkNow) (g : FilesNow) (t : SinkNow) (swept : Result (Unit {0}) Halt) → AsksFor command (held f) m job → IsReady (work_of m job)
    → SameEverywhere f.content k.content → SweepEnds (solving command m job) (cert_in command) k s g t swept → CameTo command f s g t (status_number (ended_by swept))
came_by command m job f k s g t (Ok done) asks ready same ends = inr (headline_by command m job f s g t 0 asks ready (whole_out command m job f k s g t ready same ends))
came_by command m job f k s g t (Err halt.WriteFault) asks ready same ends = stopped_at command m job f k s g t 4 asks ready same (λ e. omega (arith, e)) ends
came_by command m job f k s g t (Err halt.OutOfMemory) asks ready same ends = stopped_at command m job f k s g t 1 asks ready same (λ e. omega (arith, e)) ends

performed_to : (command : FormValue) (f : FilesNow) (s : SinkNow) (g : FilesNow) (t : SinkNow) (status : ℕ) (task : Task) → IsFor command (held f) task → Performs task (source_in command) (cert_in command) f s g t status
    → CameTo command f s g t status
performed_to command f s g t status task is performs =
    let sweeps = is.does (source_in command) (cert_in command) performs.m s g t performs.result performs.does in
    same_number command f s g t (status_number (ended_by sweeps.swept)) status (performs.status_is ∙ ap status_number sweeps.ended)
    (came_by command is.market is.job f performs.m s g t sweeps.swept is.asks (is.ready performs.ready) performs.contents sweeps.runs.solves)

never_one : (why : Refusal) → 1 ≡ refusal_status why → ⊥
never_one Words e = omega arith
never_one (Port fault) e = omega arith
never_one (BadJob fault) e = omega arith
never_one HeldRange e = omega arith
never_one (BadCertificate fault) e = omega arith
never_one (Differs d) e = omega arith

-- a refusal has no status of a task but want of memory
unwritten_one : (name : List ℕ) (f : FilesNow) (s : SinkNow) (g : FilesNow) (t : SinkNow) (status : ℕ) (why : Refusal) → IsOneOf (0 ∷ 1 ∷ 3 ∷ 4 ∷ []) status → ReportsRefusal why s t status → SameEverywhere f.content g.content
    → (status ≢ 0) × IsUnstarted name f s g t
unwritten_one name f s g t status why one (inl own) same = absurd (apart why status own.0 one)
  where
    apart : (why : Refusal) (n : ℕ) → n ≡ refusal_status why → IsOneOf (0 ∷ 1 ∷ 3 ∷ 4 ∷ []) n → ⊥
    apart why n e (inl zero) = not_zero why (sym zero ∙ e)
    apart why n e (inr (inl one)) = never_one why (sym one ∙ e)
    apart why n e (inr (inr (inl three))) = not_three why (sym e ∙ three)
    apart why n e (inr (inr (inr (inl four)))) = not_four why (sym e ∙ four)
    apart why n e (inr (inr (inr (inr none)))) = none
unwritten_one name f s g t status why one (inr none) same = (λ zero. omega (arith, zero, none.0), record { file = λ before told. inl (same name ∙ told); sink = none.1 })

unruled_one : (name : List ℕ) (f : FilesNow) (s : SinkNow) (g : FilesNow) (t : SinkNow) (status : ℕ) → IsUnruled f s g t status → (status ≢ 0) × IsUnstarted name f s g t
unruled_one name f s g t status un =
    (λ zero. unruled_zero (subst (IsOneOf (1 ∷ 3 ∷ [])) zero un.status_is), record { file = λ before told. inl (un.contents name ∙ told); sink = λ before told. ap (λ (x : SinkNow). x.written) un.unwritten ∙ told })

settled_to : (command : FormValue) (f : FilesNow) (s : SinkNow) (g : FilesNow) (t : SinkNow) (status : ℕ) (ruling : Result Task Refusal) → Solves command → IsOneOf (0 ∷ 1 ∷ 3 ∷ 4 ∷ []) status → Rules command (held f) ruling
    → Comes ruling (source_in command) (cert_in command) f s g t status → CameTo command f s g t status
settled_to command f s g t status (Ok task) solves one rules comes = performed_to command f s g t status task (asks_for command (held f) task solves rules) comes
settled_to command f s g t status (Err why) solves one rules comes = inl (unwritten_one (cert_in command) f s g t status why one comes.0 comes.1)

answered_to : (command : FormValue) (f : FilesNow) (s : SinkNow) (g : FilesNow) (t : SinkNow) (status : ℕ) → Solves command → AreTold (reads command) f → IsOneOf (0 ∷ 1 ∷ 3 ∷ 4 ∷ []) status
    → Answers command f s g t status → CameTo command f s g t status
answered_to command f s g t status solves told one answers = by (answers.settled told)
  where
    by : IsUnruled f s g t status ⊎ IsSettled command (held f) f s g t status → CameTo command f s g t status
    by (inl un) = inl (unruled_one (cert_in command) f s g t status un)
    by (inr settled) = settled_to command f s g t status settled.ruling solves one settled.rules settled.comes

pub headline_done : (command : FormValue) (f : FilesNow) (s : SinkNow) (g : FilesNow) (t : SinkNow) → Solves command → AreTold (reads command) f → Answers command f s g t 0 → Headline command f s g t 0
headline_done command f s g t solves told answers = by (answered_to command f s g t 0 solves told (inl refl) answers)
  where
    by : CameTo command f s g t 0 → Headline command f s g t 0
    by (inl none) = absurd (none.0 refl)
    by (inr line) = line

pub headline_stopped : (command : FormValue) (f : FilesNow) (s : SinkNow) (g : FilesNow) (t : SinkNow) (status : ℕ) → Solves command → AreTold (reads command) f → IsOneOf (1 ∷ 3 ∷ 4 ∷ []) status → Answers command f s g t status
    → IsUnstarted (cert_in command) f s g t ⊎ Headline command f s g t status
headline_stopped command f s g t status solves told one answers = by (answered_to command f s g t status solves told (inr one) answers)
  where
    by : CameTo command f s g t status → IsUnstarted (cert_in command) f s g t ⊎ Headline command f s g t status
    by (inl none) = inl none.1
    by (inr line) = inr line
