-- One ruling: from the form of the words and the contents of the files, either one refusal or what is to be done. Own to
-- portgap.
use Rattle.std.specs.Prelude.{◌≡◌, ℕ, nat_lt, List, [], ◌∷◌, Some, Result, Ok, Err, if◌then◌else◌}
use Rattle.gap_base.specs.declared.job.Job.{Job}
use Rattle.gap_base.specs.Markets.{MarketValue, IsMarket}
use Rattle.gap_gen.specs.Demo.{IsGenerated}
use Rattle.gap_job.specs.Jobs.{job_in}
use Rattle.gap_orlib.specs.Ports.{port}
use Rattle.gap_valid.specs.Verdicts.{VerdictValue}
use Rattle.gap_words.specs.Forms.{FormValue, faulty, quick, solve, check, verify, demo, upgrade}
use Rattle.gap_words.specs.declared.form.DemoWords.{DemoWords}
use Rattle.gap_words.specs.declared.form.QuickWords.{QuickWords}
use Rattle.gap_words.specs.declared.refusal.Refusal.{Refusal}
use Rattle.gap_words.specs.declared.refusal.Refusal.TheVariants.{Words, Port, Job as BadJob, HeldRange, Differs}
use Rattle.gap_rule.specs.declared.task.Task.{Task}
use Rattle.gap_rule.specs.declared.task.Task.TheVariants.{Quick, Solve, Demo, Check, Verify, Upgrade}
use Rattle.gap_rule.specs.Certificates.{RulesCertificate, IsOfFiles, difference_from}
use Rattle.gap_rule.specs.Tasks.{quick_job, demo_job, work_of}

-- what follows where nothing was refused
infixl 10 ◌>>=◌
abbrev pub ◌>>=◌ : {A B : Type 0} → Result A Refusal → (A → Result B Refusal) → Result B Refusal
(Ok a) >>= next = next a
(Err why) >>= next = Err why

-- an answer, its fault being the cause of a refusal
abbrev pub refused_as : {T F : Type 0} → (F → Refusal) → Result T F → Result T Refusal
refused_as why (Ok value) = Ok value
refused_as why (Err fault) = Err (why fault)

-- the ruling of the bytes of a port file, and of those of a job file for n assets
abbrev pub market_ruling : List ℕ → Result MarketValue Refusal
market_ruling bytes = refused_as Port (port bytes)

abbrev pub job_ruling : ℕ → List ℕ → Result Job Refusal
job_ruling n bytes = refused_as BadJob (job_in n bytes)

-- the ruling of `quick` over its market: there are enough assets
abbrev pub quick_ruling : QuickWords → MarketValue → Result Task Refusal
quick_ruling asked market =
    if nat_lt market.assets asked.held_most then Err HeldRange else Ok
    (Quick (work_of market (quick_job market.assets asked)))

-- a ruling that goes on with what another one found, where it refused nothing
abbrev pub After : {A B : Type 0} → Result A Refusal → (A → Result B Refusal → Type 0) → Result B Refusal → Type 0
After (Ok a) next r = next a r
After (Err why) next r = r ≡ Err why

-- the ruling of `solve` over its market, by the bytes of its job file
abbrev pub RulesJob : MarketValue → List ℕ → Result Task Refusal → Type 0
RulesJob market bytes = After (job_ruling market.assets bytes) (λ job r. r ≡ Ok (Solve (work_of market job)))

-- a ruling that goes on with what a first one found that holds of more than one value, where that refused nothing
pub record GoesOn {A B : Type 0} (first : Result A Refusal → Type 0) (next : A → Result B Refusal → Type 0)
    (r : Result B Refusal) : Type 0 where
  pub found : Result A Refusal
  pub holds : first found
  pub after : After found next r

-- the ruling of `verify` over its market, its job and the verdict of its certificate: the certificate is of the two, or the
-- first difference
abbrev pub RulesClaim : MarketValue → Job → VerdictValue → Result Task Refusal → Type 0
RulesClaim market job v (Ok (Verify w)) = (w ≡ v) × IsOfFiles market job v
RulesClaim market job v (Err (Differs difference)) = difference_from market job v ≡ Some difference
RulesClaim market job v _ = ⊥

-- the ruling of `verify` over its market and its job, by the bytes of its certificate; and over its market, by those of its
-- job file and its certificate
abbrev pub RulesPair : MarketValue → Job → List ℕ → Result Task Refusal → Type 0
RulesPair market job bytes = GoesOn (RulesCertificate bytes) (RulesClaim market job)

abbrev pub RulesClaimed : MarketValue → List ℕ → List ℕ → Result Task Refusal → Type 0
RulesClaimed market bytes cert = After (job_ruling market.assets bytes) (λ job. RulesPair market job cert)

-- the ruling of `demo`: its weights are answered for a market that its number generates
pub record RulesDemo (asked : DemoWords) (r : Result Task Refusal) : Type 0 where
  pub market : MarketValue
  pub market_is : IsMarket market
  pub generated : IsGenerated asked.number asked.n market
  pub ruled : r ≡ Ok (Demo (work_of market (demo_job asked)))

-- what words ask for, over the bytes that files hold under each name: the first refusal in the order of words, port file,
-- job file, certificate and difference, or what is to be done
abbrev pub Rules : FormValue → (List ℕ → List ℕ) → Result Task Refusal → Type 0
Rules faulty holds = λ r. r ≡ Err Words
Rules (quick port asked) holds = After (market_ruling (holds port)) (λ market r. r ≡ quick_ruling asked market)
Rules (solve port job cert) holds = After (market_ruling (holds port)) (λ market. RulesJob market (holds job))
Rules (check cert) holds = GoesOn (RulesCertificate (holds cert)) (λ v r. r ≡ Ok (Check v))
Rules (verify port job cert) holds =
    After (market_ruling (holds port)) (λ market. RulesClaimed market (holds job) (holds cert))
Rules (demo asked) holds = RulesDemo asked
Rules (upgrade cert new) holds = GoesOn (RulesCertificate (holds cert)) (λ v r. r ≡ Ok (Upgrade v))

-- the names behind a ruling, which are looked at only where it refused nothing
abbrev pub behind : {A : Type 0} → Result A Refusal → (A → List (List ℕ)) → List (List ℕ)
behind (Ok a) names = names a
behind (Err why) names = []

-- the names that are looked at until it is ruled, in their order: a file behind a refused one isn't
abbrev pub looks : FormValue → (List ℕ → List ℕ) → List (List ℕ)
looks faulty holds = []
looks (quick port asked) holds = port ∷ []
looks (solve port job cert) holds = port ∷ behind (market_ruling (holds port)) (λ market. job ∷ [])
looks (check cert) holds = cert ∷ []
looks (verify port job cert) holds =
    port ∷ behind (market_ruling (holds port))
    (λ market. job ∷ behind (job_ruling market.assets (holds job)) (λ asked. cert ∷ []))
looks (demo asked) holds = []
looks (upgrade cert new) holds = cert ∷ []
