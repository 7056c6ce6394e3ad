-- The grammar of a certificate: which format comes next, by the items so far, and where each item leads. Own to portgap.

use Rattle.std.specs.Prelude.{◌≡◌, ◌≤◌, ◌<◌, ℕ, zero, suc, ◌+◌, ◌-◌, ◌*◌, ◌/◌, ◌^◌, ◌==◌, not, if◌then◌else◌, nat_lt, nat_le, max, Bool, true, false, List, [], ◌∷◌, ◌++◌, replicate, slice_set, Option, Some, None, ℤ, pos, negsuc}
use Rattle.gap_base.specs.Sizes.{most_millionths, most_lots, most_turnover, most_multiplier, most_factor, most_diagonal, most_bound}
use Rattle.gap_base.specs.declared.witness.Witness.{Witness}
use Rattle.gap_box.specs.declared.split.Split.TheVariants.{Held, Lots}
use Rattle.gap_box.specs.Narrow.{asset_of}
use Rattle.gap_model.specs.declared.cert_fault.CertKind.TheVariants.{Magic, Trail, Range, Order}
use Rattle.gap_cert.specs.declared.field.Version.{Version}
use Rattle.gap_cert.specs.declared.field.Version.TheVariants.{One, Two}
use Rattle.gap_cert.specs.declared.field.Field.{Field}
use Rattle.gap_cert.specs.declared.field.Field.TheVariants as field
use Rattle.gap_cert.specs.declared.field.Group.{Group}
use Rattle.gap_cert.specs.declared.context.Phase.{Phase}
use Rattle.gap_cert.specs.declared.context.Phase.TheVariants as phase
use Rattle.gap_cert.specs.declared.context.Context.{Context}
use Rattle.gap_cert.specs.Formats.{Format, natural, signed, guard, says, Spells}
use Rattle.gap_cert.specs.Fields.{mark, end_mark, repeated}

-- the greatest signed number of 16 bytes
abbrev pub most_signed : ℕ
most_signed = 2 ^ 127 - 1

-- a signed number of at most this size
abbrev pub sized : ℕ → ℕ → (ℤ → Format) → Format
sized width zero next = signed width (pos 0) (pos 0) next
sized width (suc n) next = signed width (negsuc n) (pos (suc n)) next

-- any signed number of 16 bytes
abbrev pub any_signed : (ℤ → Format) → Format
any_signed next = signed 16 (negsuc most_signed) (pos most_signed) next

-- the first bytes of a certificate
abbrev pub mark_format : List ℕ → Format → Format
mark_format [] format = format
mark_format (b ∷ bs) format = natural 1 Magic b b (λ _. mark_format bs format)

abbrev pub version_of : ℕ → Version
version_of b = if b == 50 then Two else One

-- in version 1 the most assets to hold are the fewest
abbrev pub held_most_format : Version → ℕ → ℕ → (ℕ → Format) → Format
held_most_format One n held next = next held
held_most_format Two n held next = natural 2 Range held n next

abbrev pub turnover_when : ℕ → (Option ℕ → Format) → Format
turnover_when zero next = next None
turnover_when (suc flag) next = natural 4 Range 0 most_turnover (λ t. next (Some t))

abbrev pub turnover_format : (Option ℕ → Format) → Format
turnover_format next = natural 1 Range 0 1 (λ flag. turnover_when flag next)

-- the numbers of a head behind the number of assets to hold
unfoldable pub head_end : Version → (n lots held held_most : ℕ) → Option ℕ → Format
head_end version n lots held held_most turnover =
    natural 4 Range 0 100000 (λ nodes. says
    (record { version = version; field = field.Head n lots held held_most turnover nodes }))

unfoldable pub head_limits : Version → (n lots held held_most : ℕ) → Format
head_limits version n lots held held_most = turnover_format (head_end version n lots held held_most)

unfoldable pub head_numbers : Version → Format
head_numbers version =
    natural 2 Range 2 256 (λ n. natural 2 Range 1 most_lots (λ lots. natural 2 Range 1 n (λ held.
    held_most_format version n held (λ held_most. head_limits version n lots held held_most))))

unfoldable pub head_format : Format
head_format = mark_format mark (natural 1 Magic 49 50 (λ b. head_numbers (version_of b)))

unfoldable pub asset_format : Version → ℕ → Format
asset_format version lots =
    sized 4 most_millionths (λ mean. natural 4 Range 0 most_millionths
    (λ dev. natural 2 Range 1 lots (λ least. natural 2 Range 1 lots (λ greatest.
    natural 2 Range 0 most_lots (λ present. says
    (record { version = version; field = field.Asset mean dev least greatest present }))))))

unfoldable pub start_format : Version → Format
start_format version =
    natural 1 Range 0 100 (λ p. natural 1 Range (max 1 p) 100 (λ q. natural 1 Range 1 4 (λ outcome.
    says (record { version = version; field = field.SectionStart p q outcome }))))

-- so many entries, each an asset above that of the entry before and a number from 1 to a greatest one, where all numbers
-- together are at most so many; the list so far is filled in
unfoldable pub entries_format : (count n width greatest most last total : ℕ) → List ℕ → (List ℕ → Format) → Format
entries_format zero n width greatest most last total x next = next x
entries_format (suc count) n width greatest most last total x next =
    natural 2 Range 1 n (λ asset. guard (nat_lt last asset) 2 Order (natural width Range 1 greatest (λ v.
    guard (nat_le (total + v) most) (2 + width) Range (
    entries_format count n width greatest most asset (total + v) (slice_set x (asset - 1) v) next))))

abbrev pub lots_end : Version → List ℕ → Format
lots_end version x = says (record { version = version; field = field.Portfolio x })

-- a portfolio's lots are at most 10000 each
abbrev pub lots_format : Version → ℕ → ℕ → Format
lots_format version n count = entries_format count n 2 10000 (10000 * count) 0 0 (replicate n 0) (lots_end version)

unfoldable pub portfolio_format : Version → ℕ → ℕ → ℕ → Format
portfolio_format One n held held_most = lots_format One n held
portfolio_format Two n held held_most = natural 2 Range held held_most (λ count. lots_format Two n count)

-- tau is 0 where no limit on turnover is set
abbrev pub tau_most : Option ℕ → ℕ
tau_most None = 0
tau_most (Some t) = most_multiplier

abbrev pub multipliers_format : Option ℕ → (ℤ → ℤ → Format) → Format
multipliers_format turnover next =
    sized 16 most_multiplier (λ alpha. signed 16 (pos 0) (pos (tau_most turnover)) (λ tau. next alpha tau))

-- the multipliers of a witness behind its entries
abbrev pub witness_tail : Option ℕ → (ℕ → Witness → Format) → ℕ → List ℕ → Format
witness_tail turnover next count y =
    multipliers_format turnover (λ alpha tau. next count (record { y = y; alpha = alpha; tau = tau }))

-- the entries of a witness and what follows them
abbrev pub eighths_format : ℕ → ℕ → Option ℕ → (ℕ → Witness → Format) → ℕ → Format
eighths_format n lots turnover next count =
    entries_format count n 4 4294967295 (8 * lots) 0 0 (replicate n 0) (witness_tail turnover next count)

-- a witness, and how many entries it has
unfoldable pub witness_format : ℕ → ℕ → Option ℕ → (ℕ → Witness → Format) → Format
witness_format n lots turnover next = natural 2 Range 0 n (eighths_format n lots turnover next)

-- what a witness says that was read: a tangent leaf, which in version 2 isn't that of the last one, or the witness for
-- the whole root
unfoldable pub witness_end : Context → Bool → ℕ → Witness → Format
witness_end c true count w =
    guard (not (repeated c.version c.last w)) (35 + 6 * count) Range
    (says (record { version = c.version; field = field.TangentLeaf w }))
witness_end c false count w = says (record { version = c.version; field = field.Overall (Some w) })

-- a witness, as a tangent leaf or for the whole root
abbrev pub witness_of : Context → Bool → Format
witness_of c leaf = witness_format c.n c.lots c.turnover (witness_end c leaf)

abbrev pub overall_when : Context → ℕ → Format
overall_when c zero = says (record { version = c.version; field = field.Overall None })
overall_when c (suc flag) = witness_of c false

unfoldable pub overall_format : Context → Format
overall_format c = natural 1 Range 0 1 (overall_when c)

-- the greatest first byte of a node
abbrev pub node_most : Version → ℕ
node_most One = 5
node_most Two = 6

unfoldable pub void_format : Context → Format
void_format c =
    multipliers_format c.turnover (λ alpha tau. says (record { version = c.version; field = field.VoidLeaf alpha tau }))

-- a tangent leaf isn't in a section without portfolios
unfoldable pub tangent_format : Context → Format
tangent_format c = guard (not (c.outcome == 2)) 1 Range (witness_of c true)

abbrev pub again_format : Version → Option Witness → Format
again_format version None = guard false 1 Range (says (record { version = version; field = field.CountLeaf }))
again_format version (Some w) = says (record { version = version; field = field.TangentLeaf w })

unfoldable pub held_format : Context → Format
held_format c =
    natural 2 Range 1 c.n (λ asset. says (record { version = c.version; field = field.Split (Held (asset - 1)) }))

unfoldable pub lots_split_format : Context → Format
lots_split_format c =
    natural 2 Range 1 c.n (λ asset. natural 2 Range 0 65535 (λ t.
    says (record { version = c.version; field = field.Split (Lots (asset - 1) t) })))

-- what follows the first byte of a node: 1 count, 2 void, 3 tangent, 4 and 5 a split, 6 the last tangent leaf again
unfoldable pub node_behind : Context → ℕ → Format
node_behind c b =
    if b == 1 then says (record { version = c.version; field = field.CountLeaf })
    else (if b == 2 then void_format c
    else (if b == 3 then tangent_format c
    else (if b == 4 then held_format c
    else (if b == 5 then lots_split_format c
    else guard (not (c.outcome == 2)) 1 Range (again_format c.version c.last)))))

unfoldable pub node_format : Context → Format
node_format c = natural 1 Range 1 (node_most c.version) (λ b. node_behind c b)

-- the format of the next item; behind the end mark each byte is at fault
abbrev pub format_of : Context → Phase → Format
format_of c phase.Head = head_format
format_of c phase.Assets = asset_format c.version c.lots
format_of c phase.Correlations =
    sized 4 most_millionths (λ rho. says (record { version = c.version; field = field.Correlation rho }))
format_of c phase.Factor = sized 8 most_factor (λ r. says (record { version = c.version; field = field.FactorEntry r }))
format_of c phase.Diagonal =
    signed 16 (pos 0) (pos most_diagonal) (λ d. says (record { version = c.version; field = field.ShiftEntry d }))
format_of c phase.Sections =
    natural 1 Range 1 101 (λ count. says (record { version = c.version; field = field.Sections count }))
format_of c phase.Section = start_format c.version
format_of c phase.Portfolio = portfolio_format c.version c.n c.held c.held_most
format_of c phase.Objective = any_signed (λ value. says (record { version = c.version; field = field.Objective value }))
format_of c phase.Bound = sized 16 most_bound (λ value. says (record { version = c.version; field = field.Bound value }))
format_of c phase.Overall = overall_format c
format_of c phase.Node = node_format c
format_of c phase.End = natural 4 Range end_mark end_mark (λ _. says (record { version = c.version; field = field.End }))
format_of c phase.Over = natural 1 Trail 1 0 (λ _. says (record { version = c.version; field = field.End }))

-- the phase with so many items
abbrev pub enters : Context → Phase → ℕ → Context
enters c next count = record c { phase = next; left = count }

-- behind an item of the present phase: the next one, or the next phase behind the last
abbrev pub steps : Context → Phase → ℕ → Context
steps c next count = if c.left == 1 then enters c next count else record c { left = c.left - 1 }

-- behind a leaf: the next tree, or the next section, or the end
abbrev pub behind_leaf : Context → Context
behind_leaf c =
    if c.left == 1
    then (if c.sections == 0 then enters c phase.End 1 else record (enters c phase.Section 1) { sections = c.sections - 1 })
    else record c { left = c.left - 1 }

abbrev pub behind_start : Context → ℕ → Context
behind_start c outcome =
    if outcome == 2 then enters c phase.Node 1
    else (if outcome == 4 then enters c phase.Bound 1 else enters c phase.Portfolio 1)

abbrev pub behind_objective : Context → Context
behind_objective c = if c.outcome == 3 then enters c phase.Bound 1 else enters c phase.Overall 1

-- where an item leads
unfoldable pub behind_field : Context → Field → Context
behind_field c (field.Head n lots held held_most turnover nodes) =
    record (enters c phase.Assets n) { n = n; lots = lots; held = held; held_most = held_most; turnover = turnover }
behind_field c (field.Asset mean dev least greatest present) = steps c phase.Correlations ((c.n * (c.n - 1)) / 2)
behind_field c (field.Correlation rho) = steps c phase.Factor ((c.n * (c.n + 1)) / 2)
behind_field c (field.FactorEntry r) = steps c phase.Diagonal c.n
behind_field c (field.ShiftEntry d) = steps c phase.Sections 1
behind_field c (field.Sections count) = record (enters c phase.Section 1) { sections = count - 1 }
behind_field c (field.SectionStart p q outcome) = record (behind_start c outcome) { outcome = outcome; last = None }
behind_field c (field.Portfolio x) = enters c phase.Objective 1
behind_field c (field.Objective value) = behind_objective c
behind_field c (field.Bound value) = enters c phase.Overall 1
behind_field c (field.Overall w) = enters c phase.Node 1
behind_field c field.CountLeaf = behind_leaf c
behind_field c (field.VoidLeaf alpha tau) = behind_leaf c
behind_field c (field.TangentLeaf w) = record (behind_leaf c) { last = Some w }
behind_field c (field.Split split) = record c { left = c.left + 1 }
behind_field c field.End = enters c phase.Over 1

-- where a group leads
abbrev pub after : Context → Group → Context
after c group = behind_field (record c { version = group.version }) group.field

-- before the first byte of a certificate
unfoldable pub start : Context
start = record {
  version = One;
  n = 2;
  lots = 1;
  held = 1;
  held_most = 1;
  turnover = None;
  phase = phase.Head;
  left = 1;
  sections = 0;
  outcome = 1;
  last = None;
}

-- bytes spell groups one behind another from one context to another
unfoldable pub Runs : Context → List Group → Context → List ℕ → Type 0
Runs c [] end bytes = (c ≡ end) × (bytes ≡ [])
Runs c (group ∷ groups) end bytes =
    (front : List ℕ) × (more : List ℕ) × Spells (format_of c c.phase) group front
    × Runs (after c group) groups end more × (bytes ≡ front ++ more)

-- what a context keeps: the ranges of the head's numbers
pub record IsContext (c : Context) : Type 0 where
  pub few : 2 ≤ c.n
  pub many : c.n ≤ 256
  pub lots_most : c.lots ≤ 10000
  pub held_most : c.held ≤ 256
  pub most_most : c.held_most ≤ 256

-- the numbers of a head are in their ranges, and a split speaks of one of at most 256 assets
abbrev pub IsFieldIn : Field → Type 0
IsFieldIn (field.Head n lots held held_most turnover nodes) =
    (2 ≤ n) × (n ≤ 256) × (lots ≤ 10000) × (held ≤ 256) × (held_most ≤ 256)
IsFieldIn (field.Split split) = asset_of split < 256
IsFieldIn _ = Unit {0}

-- how many trees more are to come behind an item than a tree less
abbrev pub split_count : Field → ℕ
split_count (field.Split split) = 1
split_count _ = 0
