-- A number generates one market, as far as a certificate's head says it.
use Rattle.std.proofs.Common.{◌≡◌, ℕ, ◌<◌, ◌≤◌, List, [], ◌∷◌, All, ⊎_elim, ℤ, pos, Result, Ok, sym, ap, ◌∙◌, subst, arith}
use Rattle.std.proofs.lemmas.Bool.{cases_eq}
use Rattle.std.proofs.lemmas.List.Elements.{All-nil, All-cons}
use Rattle.gap_base.specs.declared.job.Job.{Job}
use Rattle.gap_base.specs.Markets.{MarketValue, IsMarket}
use Rattle.gap_gen.specs.Demo.{IsGenerated}
use Rattle.gap_valid.specs.Said.{said_market, said_rho}
use Rattle.gap_valid.proofs.Same.{list_same, table_same}
use Rattle.gap_valid.proofs.SaidLaws.{said_rho-two, said_rho-same}
use Rattle.gap_instance.specs.Instances.{instance_of}
use Rattle.gap_job.specs.Ranges.{IsWeight}
use Rattle.gap_valid.specs.Heads.{table}
use Rattle.gap_words.specs.declared.form.DemoWords.{DemoWords}
use Rattle.gap_words.specs.declared.refusal.Refusal.{Refusal}
use Rattle.gap_rule.specs.Rules.{RulesDemo}
use Rattle.gap_rule.specs.Steps.{IsLike, IsRuling}
use Rattle.gap_rule.specs.Tasks.{quarter, quarters, demo_job, work_of}
use Rattle.gap_rule.specs.declared.task.Task.{Task}
use Rattle.gap_rule.specs.declared.task.Task.TheVariants.{Demo}
use Rattle.gap_rule.specs.declared.task.Work.{Work}

entry_same : (number n : ℕ) (m k : MarketValue) → IsGenerated number n m → IsGenerated number n k → (i j : ℕ) → i < n → j < n → said_rho m i j ≡ said_rho k i j
entry_same number n m k a b i j p q =
    ⊎_elim
    (λ e. said_rho-same m i j e ∙ sym (said_rho-same k i j e))
    (λ ne. said_rho-two m i j ne ∙ a.correlations i j p q ne ∙ sym (b.correlations i j p q ne) ∙ sym (said_rho-two k i j ne))
    (cases_eq i j)

made_market : ℕ → List ℤ → List ℕ → List ℤ → MarketValue
made_market n means deviations correlations = record { assets = n; means = means; deviations = deviations; correlations = correlations; rounded = 0 }

made_market_same : (n n' : ℕ) (a a' : List ℤ) (b b' : List ℕ) (c c' : List ℤ) → n ≡ n' → a ≡ a' → b ≡ b' → c ≡ c' → made_market n a b c ≡ made_market n' a' b' c'
made_market_same n n' a a' b b' c c' en ea eb ec = cc

table_generated : (number n : ℕ) (m k : MarketValue) → IsGenerated number n m → IsGenerated number n k → table m.assets (said_rho m) ≡ table k.assets (said_rho k)
table_generated number n m k a b =
    ap (λ (x : ℕ). table x (said_rho m)) a.assets ∙ table_same n (said_rho m) (said_rho k) (entry_same number n m k a b) ∙ ap (λ (x : ℕ). table x (said_rho k)) (sym b.assets)

generated_once : (number n : ℕ) (m k : MarketValue) → IsMarket m → IsMarket k → IsGenerated number n m → IsGenerated number n k → said_market m ≡ said_market k
unfolding said_market made_market
generated_once number n m k am bm a b =
    made_market_same m.assets k.assets m.means k.means m.deviations k.deviations (table m.assets (said_rho m)) (table k.assets (said_rho k)) (a.assets ∙ sym b.assets)
    (list_same n (pos 0) m.means k.means (am.means_length ∙ a.assets) (bm.means_length ∙ b.assets) (λ i l. a.means i l ∙ sym (b.means i l)))
    (list_same {X = ℕ} n 0 m.deviations k.deviations (am.deviations_length ∙ a.assets) (bm.deviations_length ∙ b.assets) (λ i l. a.deviations i l ∙ sym (b.deviations i l)))
    (table_generated number n m k a b)

-- what is to be done for a said market and a job
abbrev work_for : Job → ℕ → MarketValue → Work
work_for job rounded said = record { inst = instance_of said job; rounded = rounded; weights = job.weights; nodes = job.nodes; workers = job.workers }

work_once : (asked : DemoWords) (m k : MarketValue) → IsMarket m → IsMarket k → IsGenerated asked.number asked.n m → IsGenerated asked.number asked.n k → work_of m (demo_job asked) ≡ work_of k (demo_job asked)
work_once asked m k am bm a b =
    ap (λ (r : ℕ). work_for (demo_job asked) r (said_market m)) (a.rounded ∙ sym b.rounded)
    ∙ ap (work_for (demo_job asked) k.rounded) (generated_once asked.number asked.n m k am bm a b)

-- the ruling of a generated market
pub ruled_generated : (asked : DemoWords) (m : MarketValue) (r : Result Task Refusal) → IsMarket m → IsGenerated asked.number asked.n m → r ≡ Ok (Demo (work_of m (demo_job asked))) → IsRuling (RulesDemo asked) r
ruled_generated asked m r is generated same = record {
  holds = record { market = m; market_is = is; generated = generated; ruled = same };
  only = λ other rules. subst (λ (x : Result Task Refusal). IsLike x other) (sym same)
      (subst (λ (x : Result Task Refusal). IsLike (Ok (Demo (work_of m (demo_job asked)))) x) (sym rules.ruled)
      (ap Demo (work_once asked m rules.market is rules.market_is generated rules.generated)));
}

quarter_is : (p : ℕ) → p ≤ 4 → IsWeight (quarter p)
quarter_is p l = record { least = omega arith; most = omega arith; within = l }

quarters_are : All IsWeight quarters
quarters_are =
    let last = All-cons IsWeight (quarter 4) [] (quarter_is 4 (omega arith)) (All-nil IsWeight) in
    let fourth = All-cons IsWeight (quarter 3) (quarter 4 ∷ []) (quarter_is 3 (omega arith)) last in
    let third = All-cons IsWeight (quarter 2) (quarter 3 ∷ quarter 4 ∷ []) (quarter_is 2 (omega arith)) fourth in
    let second = All-cons IsWeight (quarter 1) (quarter 2 ∷ quarter 3 ∷ quarter 4 ∷ []) (quarter_is 1 (omega arith)) third in
    All-cons IsWeight (quarter 0) (quarter 1 ∷ quarter 2 ∷ quarter 3 ∷ quarter 4 ∷ []) (quarter_is 0 (omega arith)) second
