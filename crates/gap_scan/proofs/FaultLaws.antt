-- Which kinds of fault the grammar names.
use Rattle.std.proofs.Common.{◌≡◌, ℕ, zero, suc, ◌+◌, ◌*◌, ◌-◌, ◌==◌, ◌&&◌, if◌then◌else◌, Bool, true, false, nat_lt, nat_le, int_le, List, [], ◌∷◌, length, take, replicate, slice_set, Option, Some, None, Result, Ok, Err, ℤ, IsTrue, refl, sym, ap, subst}
use Rattle.gap_base.specs.declared.witness.Witness.{Witness}
use Rattle.gap_model.specs.declared.cert_fault.CertFault.{CertFault}
use Rattle.gap_model.specs.declared.cert_fault.CertKind.{CertKind}
use Rattle.gap_model.specs.declared.cert_fault.CertKind.TheVariants.{Magic, Range}
use Rattle.gap_cert.specs.declared.field.Version.{Version}
use Rattle.gap_cert.specs.declared.field.Version.TheVariants.{One, Two}
use Rattle.gap_cert.specs.declared.field.Group.{Group}
use Rattle.gap_cert.specs.declared.field.Stop.{Stop}
use Rattle.gap_cert.specs.declared.field.Stop.TheVariants.{More, Fault}
use Rattle.gap_cert.specs.declared.context.Phase.{Phase}
use Rattle.gap_cert.specs.declared.context.Phase.TheVariants as phase
use Rattle.gap_cert.specs.declared.context.Context.{Context}
use Rattle.gap_cert.specs.Bytes.{value_of, signed_from}
use Rattle.gap_cert.specs.Formats.{Format, natural, signed, guard, says, Spot, read, natural_at, signed_at, behind, fault_back, ◌>>=◌}
use Rattle.gap_cert.specs.Fields.{mark}
use Rattle.gap_cert.specs.Contexts.{mark_format, version_of, held_most_format, turnover_when, head_end, head_limits, head_numbers, head_format, asset_format, start_format, entries_format, lots_end, lots_format, portfolio_format, witness_tail, witness_format, witness_end, overall_when, overall_format, void_format, tangent_format, again_format, held_format, lots_split_format, node_behind, node_format, format_of}
use Rattle.gap_scan.specs.Scans.{is_grammar_kind}

-- each fault that a format names is of the grammar
unfoldable pub Names : Format → Type 0
Names (natural w k lo hi next) = IsTrue (is_grammar_kind k) × ((v : ℕ) → Names (next v))
Names (signed w lo hi next) = (z : ℤ) → Names (next z)
Names (guard test back k F) = IsTrue (is_grammar_kind k) × Names F
Names (says said) = Unit {0}

fault_of : CertFault → Stop
fault_of f = Fault f

faults_same : (f g : CertFault) → ◌≡◌ {A = Stop} (Fault f) (Fault g) → f ≡ g
faults_same f g h = cc

errs_same : {A : Type 0} (e d : Stop) → ◌≡◌ {A = Result A Stop} (Err e) (Err d) → e ≡ d
errs_same e d h = cc

-- what a test may answer besides a value
of_test : {A : Type 0} (short good : Bool) (a : A) (place : ℕ) (k : CertKind) (f : CertFault) →
    (if short then Err More else (if good then Ok a else Err (Fault (record { place = place; kind = k })))) ≡ Err (Fault f) → f.kind ≡ k
of_test true good a place k f h = cc
of_test false true a place k f h = cc
of_test {A} false false a place k f h = sym (ap (λ (g : CertFault). g.kind) (faults_same (record { place = place; kind = k }) f (errs_same {A = A} (Fault (record { place = place; kind = k })) (Fault f) h)))

natural_kind : (w : ℕ) (k : CertKind) (lo hi : ℕ) (s : Spot) (f : CertFault) → natural_at w k lo hi s ≡ Err (Fault f) → f.kind ≡ k
unfolding natural_at
natural_kind w k lo hi s f h = of_test (nat_lt (length s.rest) w) (nat_le lo (value_of (take w s.rest)) && nat_le (value_of (take w s.rest)) hi) (value_of (take w s.rest), behind w s) s.place k f h

signed_kind : (w : ℕ) (lo hi : ℤ) (s : Spot) (f : CertFault) → signed_at w lo hi s ≡ Err (Fault f) → f.kind ≡ Range
unfolding signed_at
signed_kind w lo hi s f h =
    let n = signed_from w (value_of (take w s.rest)) in
    of_test (nat_lt (length s.rest) w) (int_le lo n && int_le n hi) (n, behind w s) s.place Range f h

of_kind : (k : CertKind) (f : CertFault) → f.kind ≡ k → IsTrue (is_grammar_kind k) → IsTrue (is_grammar_kind f.kind)
of_kind k f e h = subst (λ (j : CertKind). IsTrue (is_grammar_kind j)) (sym e) h

bind_fault : {A : Type 0} (m : Result A Stop) (g : A → Result (Group × Spot) Stop) (f : CertFault) → (m >>= g) ≡ Err (Fault f) →
    (m ≡ Err (Fault f) → IsTrue (is_grammar_kind f.kind)) → ((a : A) → g a ≡ Err (Fault f) → IsTrue (is_grammar_kind f.kind)) → IsTrue (is_grammar_kind f.kind)
bind_fault (Ok a) g f h first behind = behind a h
bind_fault {A} (Err e) g f h first behind = first (ap (λ (d : Stop). err {A = A} d) (errs_same {A = Group × Spot} e (Fault f) h))
  where
    err : {A : Type 0} → Stop → Result A Stop
    err d = Err d

-- a fault that is read is one of the format's
pub read_fault : (F : Format) (s : Spot) (f : CertFault) → Names F → read F s ≡ Err (Fault f) → IsTrue (is_grammar_kind f.kind)
unfolding Names
read_fault (natural w k lo hi next) s f n h =
    bind_fault (natural_at w k lo hi s) (λ r. read (next r.0) r.1) f h (λ e. of_kind k f (natural_kind w k lo hi s f e) n.0) (λ a e. read_fault (next a.0) a.1 f (n.1 a.0) e)
read_fault (signed w lo hi next) s f n h =
    bind_fault (signed_at w lo hi s) (λ r. read (next r.0) r.1) f h (λ e. of_kind Range f (signed_kind w lo hi s f e) refl) (λ a e. read_fault (next a.0) a.1 f (n a.0) e)
read_fault (guard true back k F) s f n h = read_fault F s f n.1 h
read_fault (guard false back k F) s f n h =
    of_kind k f (sym (ap (λ (g : CertFault). g.kind) (faults_same (record { place = s.place - back; kind = k }) f (errs_same {A = Group × Spot} (fault_back back k s) (Fault f) h)))) n.0
read_fault (says said) s f n h = cc

entries_named : (count n w greatest most last total : ℕ) (x : List ℕ) (next : List ℕ → Format) → ((y : List ℕ) → Names (next y)) → Names (entries_format count n w greatest most last total x next)
unfolding Names entries_format
entries_named zero n w greatest most last total x next h = h x
entries_named (suc count) n w greatest most last total x next h =
    (refl, λ asset. (refl, (refl, λ v. (refl, entries_named count n w greatest most asset (total + v) (slice_set x (asset - 1) v) next h))))

mark_named : (bs : List ℕ) (F : Format) → Names F → Names (mark_format bs F)
unfolding Names
mark_named [] F h = h
mark_named (b ∷ bs) F h = (refl, λ v. mark_named bs F h)

when_named : (flag : ℕ) (next : Option ℕ → Format) → ((t : Option ℕ) → Names (next t)) → Names (turnover_when flag next)
unfolding Names
when_named zero next h = h None
when_named (suc flag) next h = (refl, λ t. h (Some t))

limits_named : (version : Version) (n lots held held_most : ℕ) → Names (head_limits version n lots held held_most)
unfolding Names head_limits head_end
limits_named version n lots held held_most = (refl, λ flag. when_named flag (head_end version n lots held held_most) (λ t. (refl, λ nodes. tt)))

most_named : (version : Version) (n held : ℕ) (next : ℕ → Format) → ((m : ℕ) → Names (next m)) → Names (held_most_format version n held next)
unfolding Names
most_named One n held next h = h held
most_named Two n held next h = (refl, h)

numbers_named : (version : Version) → Names (head_numbers version)
unfolding Names head_numbers
numbers_named version = (refl, λ n. (refl, λ lots. (refl, λ held. most_named version n held (head_limits version n lots held) (λ m. limits_named version n lots held m))))

head_named : Names head_format
unfolding Names head_format
head_named = mark_named mark (natural 1 Magic 49 50 (λ b. head_numbers (version_of b))) (refl, λ b. numbers_named (version_of b))

asset_named : (version : Version) (lots : ℕ) → Names (asset_format version lots)
unfolding Names asset_format
asset_named version lots = λ mean. (refl, λ dev. (refl, λ least. (refl, λ greatest. (refl, λ present. tt))))

start_named : (version : Version) → Names (start_format version)
unfolding Names start_format
start_named version = (refl, λ p. (refl, λ q. (refl, λ outcome. tt)))

lots_named : (version : Version) (n count : ℕ) → Names (lots_format version n count)
unfolding Names
lots_named version n count = entries_named count n 2 10000 (10000 * count) 0 0 (replicate n 0) (lots_end version) (λ y. tt)

portfolio_named : (version : Version) (n held held_most : ℕ) → Names (portfolio_format version n held held_most)
unfolding Names portfolio_format
portfolio_named One n held held_most = lots_named One n held
portfolio_named Two n held held_most = (refl, λ count. lots_named Two n count)

witness_named : (n lots : ℕ) (turnover : Option ℕ) (next : ℕ → Witness → Format) → ((count : ℕ) (w : Witness) → Names (next count w)) → Names (witness_format n lots turnover next)
unfolding Names witness_format
witness_named n lots turnover next h =
    (refl, λ count. entries_named count n 4 4294967295 (8 * lots) 0 0 (replicate n 0) (witness_tail turnover next count) (λ y alpha tau. h count (record { y = y; alpha = alpha; tau = tau })))

end_named : (c : Context) (leaf : Bool) (count : ℕ) (w : Witness) → Names (witness_end c leaf count w)
unfolding Names witness_end
end_named c true count w = (refl, tt)
end_named c false count w = tt

overall_named : (c : Context) → Names (overall_format c)
unfolding Names overall_format
overall_named c = (refl, by)
  where
    by : (flag : ℕ) → Names (overall_when c flag)
    by zero = tt
    by (suc flag) = witness_named c.n c.lots c.turnover (witness_end c false) (λ count w. end_named c false count w)

void_named : (c : Context) → Names (void_format c)
unfolding Names void_format
void_named c = λ alpha tau. tt

tangent_named : (c : Context) → Names (tangent_format c)
unfolding Names tangent_format
tangent_named c = (refl, witness_named c.n c.lots c.turnover (witness_end c true) (λ count w. end_named c true count w))

held_named : (c : Context) → Names (held_format c)
unfolding Names held_format
held_named c = (refl, λ asset. tt)

cut_named : (c : Context) → Names (lots_split_format c)
unfolding Names lots_split_format
cut_named c = (refl, λ asset. (refl, λ t. tt))

again_named : (version : Version) (last : Option Witness) → Names (again_format version last)
unfolding Names
again_named version None = (refl, tt)
again_named version (Some w) = tt

if_named : (b : Bool) (F G : Format) → Names F → Names G → Names (if b then F else G)
if_named true F G h k = h
if_named false F G h k = k

behind_named : (c : Context) (b : ℕ) → Names (node_behind c b)
unfolding Names node_behind
behind_named c b =
    if_named (b == 1) _ _ tt (if_named (b == 2) _ _ (void_named c) (if_named (b == 3) _ _ (tangent_named c) (if_named (b == 4) _ _ (held_named c)
    (if_named (b == 5) _ _ (cut_named c) (refl, again_named c.version c.last)))))

node_named : (c : Context) → Names (node_format c)
unfolding Names node_format
node_named c = (refl, λ b. behind_named c b)

-- each format of the grammar names only its faults
pub are_named : (c : Context) (p : Phase) → Names (format_of c p)
unfolding Names
are_named c phase.Head = head_named
are_named c phase.Assets = asset_named c.version c.lots
are_named c phase.Correlations = λ z. tt
are_named c phase.Factor = λ z. tt
are_named c phase.Diagonal = λ z. tt
are_named c phase.Sections = (refl, λ v. tt)
are_named c phase.Section = start_named c.version
are_named c phase.Portfolio = portfolio_named c.version c.n c.held c.held_most
are_named c phase.Objective = λ z. tt
are_named c phase.Bound = λ z. tt
are_named c phase.Overall = overall_named c
are_named c phase.Node = node_named c
are_named c phase.End = (refl, λ v. tt)
are_named c phase.Over = (refl, λ v. tt)

-- a fault that is read of the next group is of the grammar
pub grammar_only : (c : Context) (s : Spot) (f : CertFault) → read (format_of c c.phase) s ≡ Err (Fault f) → IsTrue (is_grammar_kind f.kind)
grammar_only c s f h = read_fault (format_of c c.phase) s f (are_named c c.phase) h
