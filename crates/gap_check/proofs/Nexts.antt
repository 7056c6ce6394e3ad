-- What the group says that comes next by the grammar, by the phase.
use Rattle.std.proofs.Common.{◌≡◌, ℕ, zero, suc, ◌-◌, ◌*◌, ◌≤◌, ◌⊎◌, inl, inr, ◌==◌, not, true, false, List, Option, Some, None, ℤ, pos, ◌≤ℤ◌, unsigned_abs, refl, sym, ap, arith}
use Rattle.std.specs.Option.{ForSome}
use Rattle.std.proofs.lemmas.Bool.Decides.{nat_tests}
use Rattle.std.proofs.lemmas.Int.{ints}
use Rattle.gap_base.specs.Sizes.{most_millionths, most_lots, most_turnover, most_multiplier, most_factor, most_diagonal, most_bound}
use Rattle.gap_base.specs.declared.witness.Witness.{Witness}
use Rattle.gap_box.specs.declared.split.Split.{Split}
use Rattle.gap_box.specs.declared.split.Split.TheVariants.{Held, Lots}
use Rattle.gap_model.specs.declared.cert_fault.CertKind.TheVariants.{Magic}
use Rattle.gap_model.specs.Leaves.{AreMultipliers}
use Rattle.gap_cert.specs.declared.field.Version.{Version}
use Rattle.gap_cert.specs.declared.field.Version.TheVariants.{One, Two}
use Rattle.gap_cert.specs.declared.field.Field.TheVariants as field
use Rattle.gap_cert.specs.declared.field.Group.{Group}
use Rattle.gap_cert.specs.declared.context.Phase.{Phase}
use Rattle.gap_cert.specs.declared.context.Phase.TheVariants as phase
use Rattle.gap_cert.specs.declared.context.Context.{Context}
use Rattle.gap_cert.specs.Formats.{Format, natural, says, Spells}
use Rattle.gap_cert.specs.Fields.{mark}
use Rattle.gap_cert.specs.Contexts.{version_of, held_most_format, turnover_when, turnover_format, head_end, head_limits, head_numbers, head_format, asset_format, start_format, portfolio_format, tau_most, multipliers_format, witness_format, witness_end, overall_when, overall_format, node_most, void_format, tangent_format, again_format, held_format, lots_split_format, node_behind, node_format, format_of}
use Rattle.gap_cert.specs.Certificates.{AssetLine, CertLeaf, count, void, tangent, asset_field, leaf_field, group_in}
use Rattle.gap_valid.specs.Heads.{IsAssetLine, IsDiagonal}
use Rattle.gap_valid.specs.CertTrees.{has_point}
use Rattle.gap_valid.specs.Valid.{IsWeight}
use Rattle.gap_check.specs.Stages.{IsWitnessAt}
use Rattle.gap_check.proofs.Yields.{Yields, yields_is, mark_yields, is_small, is_natural, fresh_yield, for_none, for_some}

-- ---- what comes next

pub record NextHead (g : Group) : Type 0 where
  pub n : ℕ
  pub lots : ℕ
  pub held : ℕ
  pub held_most : ℕ
  pub turnover : Option ℕ
  pub nodes : ℕ
  pub group_is : g ≡ group_in g.version (field.Head n lots held held_most turnover nodes)
  pub few : 2 ≤ n
  pub many : n ≤ 256
  pub lots_least : 1 ≤ lots
  pub lots_small : lots ≤ most_lots
  pub held_least : 1 ≤ held
  pub held_range : held ≤ held_most
  pub most_range : held_most ≤ n
  pub turnover_small : ForSome turnover (λ t. t ≤ most_turnover)
  pub nodes_small : nodes ≤ 100000

pub record NextAsset (c : Context) (g : Group) : Type 0 where
  pub line : AssetLine
  pub group_is : g ≡ group_in c.version (asset_field line)
  pub ranges : IsAssetLine c.lots line

pub record NextCorrelation (c : Context) (g : Group) : Type 0 where
  pub rho : ℤ
  pub group_is : g ≡ group_in c.version (field.Correlation rho)
  pub small : unsigned_abs rho ≤ most_millionths

pub record NextFactor (c : Context) (g : Group) : Type 0 where
  pub r : ℤ
  pub group_is : g ≡ group_in c.version (field.FactorEntry r)
  pub small : unsigned_abs r ≤ most_factor

pub record NextDiagonal (c : Context) (g : Group) : Type 0 where
  pub d : ℤ
  pub group_is : g ≡ group_in c.version (field.ShiftEntry d)
  pub ranges : IsDiagonal d

pub record NextSections (c : Context) (g : Group) : Type 0 where
  pub number : ℕ
  pub group_is : g ≡ group_in c.version (field.Sections number)
  pub some : 1 ≤ number
  pub few : number ≤ 101

pub record NextStart (c : Context) (g : Group) : Type 0 where
  pub p : ℕ
  pub q : ℕ
  pub outcome : ℕ
  pub group_is : g ≡ group_in c.version (field.SectionStart p q outcome)
  pub weight_is : IsWeight (record { p = p; q = q })
  pub least : 1 ≤ outcome
  pub most : outcome ≤ 4

pub record NextPortfolio (c : Context) (g : Group) : Type 0 where
  pub x : List ℕ
  pub group_is : g ≡ group_in c.version (field.Portfolio x)

pub record NextObjective (c : Context) (g : Group) : Type 0 where
  pub value : ℤ
  pub group_is : g ≡ group_in c.version (field.Objective value)

pub record NextBound (c : Context) (g : Group) : Type 0 where
  pub value : ℤ
  pub group_is : g ≡ group_in c.version (field.Bound value)
  pub small : unsigned_abs value ≤ most_bound

pub record NextOverall (c : Context) (g : Group) : Type 0 where
  pub overall : Option Witness
  pub group_is : g ≡ group_in c.version (field.Overall overall)
  pub ranges : ForSome overall (IsWitnessAt c.n c.lots c.turnover)

-- the numbers of a leaf are in their ranges
abbrev pub IsLeafAt : Context → CertLeaf → Type 0
IsLeafAt c count = Unit {0}
IsLeafAt c (void alpha tau) = AreMultipliers c.turnover alpha tau
IsLeafAt c (tangent w) = IsWitnessAt c.n c.lots c.turnover w

pub record NextLeaf (c : Context) (g : Group) : Type 0 where
  pub leaf : CertLeaf
  pub group_is : g ≡ group_in c.version (leaf_field leaf)
  pub ranges : IsLeafAt c leaf
  pub allowed : c.outcome ≡ 2 → has_point leaf ≡ false

pub record NextSplit (c : Context) (g : Group) : Type 0 where
  pub split : Split
  pub group_is : g ≡ group_in c.version (field.Split split)

abbrev pub NextNode : Context → Group → Type 0
NextNode c g = NextLeaf c g ⊎ NextSplit c g

pub record NextEnd (c : Context) (g : Group) : Type 0 where
  pub group_is : g ≡ group_in c.version field.End

abbrev pub Next : Phase → Context → Group → Type 0
Next phase.Head c g = NextHead g
Next phase.Assets c g = NextAsset c g
Next phase.Correlations c g = NextCorrelation c g
Next phase.Factor c g = NextFactor c g
Next phase.Diagonal c g = NextDiagonal c g
Next phase.Sections c g = NextSections c g
Next phase.Section c g = NextStart c g
Next phase.Portfolio c g = NextPortfolio c g
Next phase.Objective c g = NextObjective c g
Next phase.Bound c g = NextBound c g
Next phase.Overall c g = NextOverall c g
Next phase.Node c g = NextNode c g
Next phase.End c g = NextEnd c g
Next phase.Over c g = ⊥

-- ---- the head

turnover_yields : (P : Group → Type 0) (next : Option ℕ → Format) → ((t : Option ℕ) → ForSome t (λ t. t ≤ most_turnover) → Yields P (next t)) → Yields P (turnover_format next)
unfolding Yields
turnover_yields P next f = λ flag low high. by flag
  where
    by : (flag : ℕ) → Yields P (turnover_when flag next)
    by zero = f None (for_none _)
    by (suc flag) = λ t t_low t_high. f (Some t) (for_some (λ t. t ≤ most_turnover) t t_high)

most_yields : (P : Group → Type 0) (version : Version) (n held : ℕ) (next : ℕ → Format) → held ≤ n → ((m : ℕ) → held ≤ m → m ≤ n → Yields P (next m)) → Yields P (held_most_format version n held next)
unfolding Yields
most_yields P One n held next h f = f held (omega arith) h
most_yields P Two n held next h f = λ m low high. f m low high

numbers_yield : (version : Version) → Yields NextHead (head_numbers version)
unfolding Yields head_numbers head_limits head_end
numbers_yield version =
    λ n n_low n_high lots l_low l_high held h_low h_high.
    most_yields NextHead version n held (head_limits version n lots held) h_high
    (λ held_most m_low m_high. turnover_yields NextHead (head_end version n lots held held_most)
    (λ turnover t nodes d_low d_high. record {
      n = n;
      lots = lots;
      held = held;
      held_most = held_most;
      turnover = turnover;
      nodes = nodes;
      group_is = refl;
      few = n_low;
      many = n_high;
      lots_least = l_low;
      lots_small = l_high;
      held_least = h_low;
      held_range = m_low;
      most_range = m_high;
      turnover_small = t;
      nodes_small = d_high;
    }))

head_yields : Yields NextHead head_format
unfolding Yields head_format
head_yields = mark_yields NextHead mark (natural 1 Magic 49 50 (λ b. head_numbers (version_of b))) (λ b low high. numbers_yield (version_of b))

asset_yields : (c : Context) → Yields (NextAsset c) (asset_format c.version c.lots)
unfolding Yields asset_format
asset_yields c = λ mean m_low m_high dev d_low d_high least l_low l_high greatest g_low g_high present p_low p_high. record {
  line = record { mean = mean; dev = dev; least = least; greatest = greatest; present = present };
  group_is = refl;
  ranges = record { mean_most = is_small 999999 mean m_low m_high; dev_most = d_high; least_least = l_low; least_most = l_high; greatest_least = g_low; greatest_most = g_high; present_most = p_high };
}

start_yields : (c : Context) → Yields (NextStart c) (start_format c.version)
unfolding Yields start_format
start_yields c = λ p p_low p_high q q_low q_high outcome o_low o_high. record {
  p = p;
  q = q;
  outcome = outcome;
  group_is = refl;
  weight_is = record { least = omega (arith, q_low); most = q_high; within = omega (arith, q_low) };
  least = o_low;
  most = o_high;
}

portfolio_yields : (c : Context) (v : Version) → c.version ≡ v → Yields (NextPortfolio c) (portfolio_format v c.n c.held c.held_most)
unfolding Yields portfolio_format
portfolio_yields c One e = fresh_yield (NextPortfolio c) c.held c.n 2 10000 (10000 * c.held) (λ x. says (record { version = One; field = field.Portfolio x })) (λ x l s. record { x = x; group_is = ap (λ (v : Version). group_in v (field.Portfolio x)) (sym e) })
portfolio_yields c Two e = λ number low high. fresh_yield (NextPortfolio c) number c.n 2 10000 (10000 * number) (λ x. says (record { version = Two; field = field.Portfolio x })) (λ x l s. record { x = x; group_is = ap (λ (v : Version). group_in v (field.Portfolio x)) (sym e) })

-- ---- witnesses and nodes

at_zero : (tau : ℤ) → pos 0 ≤ℤ tau → tau ≤ℤ pos 0 → tau ≡ pos 0
at_zero tau low high = grind (arith, ints)

are_multipliers : (turnover : Option ℕ) (alpha tau : ℤ) → unsigned_abs alpha ≤ most_multiplier → pos 0 ≤ℤ tau → tau ≤ℤ pos (tau_most turnover) → AreMultipliers turnover alpha tau
are_multipliers None alpha tau a low high = record { alpha_most = a; tau_least = low; tau_most = is_natural most_multiplier tau low (grind (arith, ints)); tau_unset = λ e. at_zero tau low high }
are_multipliers (Some t) alpha tau a low high = record { alpha_most = a; tau_least = low; tau_most = is_natural most_multiplier tau low high; tau_unset = λ e. cc }

multipliers_yield : (P : Group → Type 0) (turnover : Option ℕ) (next : ℤ → ℤ → Format) → ((alpha tau : ℤ) → AreMultipliers turnover alpha tau → Yields P (next alpha tau)) → Yields P (multipliers_format turnover next)
unfolding Yields
multipliers_yield P turnover next f = λ alpha a_low a_high tau t_low t_high.
    f alpha tau (are_multipliers turnover alpha tau (is_small 999999999999999999999999999999 alpha a_low a_high) t_low t_high)

witness_yields : (P : Group → Type 0) (n lots : ℕ) (turnover : Option ℕ) (next : ℕ → Witness → Format) → ((number : ℕ) (w : Witness) → IsWitnessAt n lots turnover w → Yields P (next number w)) → Yields P (witness_format n lots turnover next)
unfolding Yields witness_format
witness_yields P n lots turnover next f =
    λ number low high. fresh_yield P number n 4 4294967295 (8 * lots) (λ y. multipliers_format turnover (λ alpha tau. next number (record { y = y; alpha = alpha; tau = tau })))
    (λ y l s. multipliers_yield P turnover (λ alpha tau. next number (record { y = y; alpha = alpha; tau = tau }))
    (λ alpha tau m. f number (record { y = y; alpha = alpha; tau = tau }) (record { count = l; most = s; multipliers = m })))

overall_yields : (c : Context) → Yields (NextOverall c) (overall_format c)
unfolding Yields overall_format witness_end
overall_yields c = λ flag low high. by flag
  where
    by : (flag : ℕ) → Yields (NextOverall c) (overall_when c flag)
    by zero = record { overall = None; group_is = refl; ranges = for_none _ }
    by (suc flag) = witness_yields (NextOverall c) c.n c.lots c.turnover (witness_end c false) (λ number w r. record { overall = Some w; group_is = refl; ranges = for_some (IsWitnessAt c.n c.lots c.turnover) w r })

not_two : (n : ℕ) → not (n == 2) ≡ true → n ≡ 2 → ⊥
not_two n h e = grind (arith, nat_tests)

tangent_yields : (c : Context) → Yields (NextNode c) (tangent_format c)
unfolding Yields tangent_format witness_end
tangent_yields c = λ allowed. witness_yields (NextNode c) c.n c.lots c.turnover (witness_end c true)
    (λ number w r fresh. inl (record { leaf = tangent w; group_is = refl; ranges = r; allowed = λ e. absurd (not_two c.outcome allowed e) }))

void_yields : (c : Context) → Yields (NextNode c) (void_format c)
unfolding Yields void_format
void_yields c = multipliers_yield (NextNode c) c.turnover (λ alpha tau. says (record { version = c.version; field = field.VoidLeaf alpha tau }))
    (λ alpha tau m. inl (record { leaf = void alpha tau; group_is = refl; ranges = m; allowed = λ e. refl }))

held_yields : (c : Context) → Yields (NextNode c) (held_format c)
unfolding Yields held_format
held_yields c = λ asset low high. inr (record { split = Held (asset - 1); group_is = refl })

lots_yield : (c : Context) → Yields (NextNode c) (lots_split_format c)
unfolding Yields lots_split_format
lots_yield c = λ asset low high t t_low t_high. inr (record { split = Lots (asset - 1) t; group_is = refl })

again_yields : (c : Context) (last : Option Witness) → ForSome last (IsWitnessAt c.n c.lots c.turnover) → not (c.outcome == 2) ≡ true → Yields (NextNode c) (again_format c.version last)
unfolding Yields
again_yields c None r allowed = λ e. cc
again_yields c (Some w) r allowed = inl (record { leaf = tangent w; group_is = refl; ranges = r w refl; allowed = λ e. absurd (not_two c.outcome allowed e) })

most_is : (version : Version) → node_most version ≤ 6
most_is One = omega arith
most_is Two = omega arith

behind_yields : (c : Context) (b : ℕ) → 1 ≤ b → b ≤ node_most c.version → ForSome c.last (IsWitnessAt c.n c.lots c.turnover) → Yields (NextNode c) (node_behind c b)
unfolding Yields node_behind
behind_yields c zero l h r = absurd (omega arith)
behind_yields c (suc zero) l h r = inl (record { leaf = count; group_is = refl; ranges = tt; allowed = λ e. refl })
behind_yields c (suc (suc zero)) l h r = void_yields c
behind_yields c (suc (suc (suc zero))) l h r = tangent_yields c
behind_yields c (suc (suc (suc (suc zero)))) l h r = held_yields c
behind_yields c (suc (suc (suc (suc (suc zero))))) l h r = lots_yield c
behind_yields c (suc (suc (suc (suc (suc (suc zero)))))) l h r = λ allowed. again_yields c c.last r allowed
behind_yields c (suc (suc (suc (suc (suc (suc (suc b))))))) l h r = let m = most_is c.version in absurd (omega arith)

node_yields : (c : Context) → ForSome c.last (IsWitnessAt c.n c.lots c.turnover) → Yields (NextNode c) (node_format c)
unfolding Yields node_format
node_yields c r = λ b low high. behind_yields c b low high r

-- the witness of the last tangent leaf is in its ranges, where a node comes
abbrev pub IsLastAt : Phase → Context → Type 0
IsLastAt phase.Node c = ForSome c.last (IsWitnessAt c.n c.lots c.turnover)
IsLastAt _ c = Unit {0}

yields_next : (p : Phase) (c : Context) → IsLastAt p c → Yields (Next p c) (format_of c p)
unfolding Yields
yields_next phase.Head c r = head_yields
yields_next phase.Assets c r = asset_yields c
yields_next phase.Correlations c r = λ rho low high. record { rho = rho; group_is = refl; small = is_small 999999 rho low high }
yields_next phase.Factor c r = λ v low high. record { r = v; group_is = refl; small = is_small 999999999999999 v low high }
yields_next phase.Diagonal c r = λ d low high. record { d = d; group_is = refl; ranges = record { least = low; most = is_natural most_diagonal d low high } }
yields_next phase.Sections c r = λ number low high. record { number = number; group_is = refl; some = low; few = high }
yields_next phase.Section c r = start_yields c
yields_next phase.Portfolio c r = portfolio_yields c c.version refl
yields_next phase.Objective c r = λ value low high. record { value = value; group_is = refl }
yields_next phase.Bound c r = λ value low high. record { value = value; group_is = refl; small = is_small 999999999999999999999999999999999999 value low high }
yields_next phase.Overall c r = overall_yields c
yields_next phase.Node c r = node_yields c r
yields_next phase.End c r = λ v low high. record { group_is = refl }
yields_next phase.Over c r = λ v low high. omega arith

-- what the group says that comes next
pub next_is : (c : Context) (g : Group) (bytes : List ℕ) → IsLastAt c.phase c → Spells (format_of c c.phase) g bytes → Next c.phase c g
next_is c g bytes r h = yields_is (Next c.phase c) (format_of c c.phase) g bytes (yields_next c.phase c r) h
