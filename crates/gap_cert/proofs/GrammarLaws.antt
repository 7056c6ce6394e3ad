-- Each format of the grammar spells its groups with the bytes of their fields.
use Rattle.std.proofs.Common.{◌≡◌, ℕ, zero, suc, ◌+◌, ◌*◌, ◌-◌, ◌<◌, ◌≤◌, ◌⊎◌, inl, inr, cond, ◌&&◌, ◌==◌, not, Bool, true, false, nat_lt, ltb, List, [], ◌∷◌, ◌++◌, length, replicate, slice_set, slice_index_or, Option, Some, None, ℤ, refl, sym, ap, ◌∙◌, subst, arith, length-set, get_or-set_other}
use Rattle.std.proofs.lemmas.List.{append_assoc, append-nil}
use Rattle.std.proofs.lemmas.List.Sums.{sum_by-cons}
use Rattle.std.proofs.lemmas.Bool.Decides.{nat_tests}
use Rattle.std.proofs.lemmas.Bool.{cases_eq}
use Rattle.std.proofs.lemmas.Int.{ints}
use Rattle.gap_model.specs.declared.cert_fault.CertKind.TheVariants.{Magic, Range}
use Rattle.std.specs.Ordering.{int_eq}
use Rattle.gap_base.specs.declared.witness.Witness.{Witness}
use Rattle.gap_box.specs.Parts.{held_count}
use Rattle.gap_cert.specs.declared.field.Version.{Version}
use Rattle.gap_cert.specs.declared.field.Version.TheVariants.{One, Two}
use Rattle.gap_cert.specs.declared.field.Field.TheVariants as field
use Rattle.gap_cert.specs.declared.field.Group.{Group}
use Rattle.gap_cert.specs.declared.context.Phase.{Phase}
use Rattle.gap_cert.specs.declared.context.Phase.TheVariants as phase
use Rattle.gap_cert.specs.declared.context.Context.{Context}
use Rattle.gap_cert.specs.Bytes.{be, signed_be}
use Rattle.gap_cert.specs.Formats.{Format, natural, says, Spells}
use Rattle.gap_cert.specs.Fields.{bytes_of, entry_bytes, witness_bytes, mark, mark_bytes, version_byte, held_most_bytes, turnover_bytes, same_numbers, same_witness, repeated, end_mark}
use Rattle.gap_cert.specs.Contexts.{mark_format, version_of, held_most_format, turnover_when, turnover_format, head_end, head_limits, head_numbers, head_format, asset_format, start_format, entries_format, portfolio_format, multipliers_format, witness_format, witness_end, overall_when, overall_format, node_most, void_format, tangent_format, again_format, held_format, lots_split_format, node_behind, node_format, format_of}
use Rattle.gap_cert.proofs.FormatLaws.{Faithful, faithful_is}

-- a format stays faithful where what came before is said otherwise
moved : (last : Option Witness) (F : Format) (a b : List ℕ) → a ≡ b → Faithful last F a → Faithful last F b
moved last F a b e f = subst (Faithful last F) e f

positive : (n : ℕ) → nat_lt 0 (suc n) ≡ true
positive n = grind (arith, nat_tests)

positive_too : (n : ℕ) → ltb 0 (suc n) ≡ true
positive_too n = grind (arith, nat_tests)

cond_true : {A : Type 0} (b : Bool) (s t : A) → b ≡ true → cond b s t ≡ s
cond_true b s t e = rw e refl

cond_false : {A : Type 0} (b : Bool) (s t : A) → b ≡ false → cond b s t ≡ t
cond_false b s t e = rw e refl

-- all numbers of a list from a place on are 0
abbrev ZerosFrom : ℕ → List ℕ → Type 0
ZerosFrom k x = (j : ℕ) → k ≤ j → slice_index_or x j 0 ≡ 0

entry_of_none : (w i : ℕ) (x : List ℕ) → entry_bytes w i (0 ∷ x) ≡ entry_bytes w (suc i) x
unfolding entry_bytes
entry_of_none w i x = refl

entry_of_some : (w i v : ℕ) (x : List ℕ) → 0 < v → entry_bytes w i (v ∷ x) ≡ (be 2 i ++ be w v) ++ entry_bytes w (suc i) x
unfolding entry_bytes
entry_of_some w i zero x h = absurd (omega arith)
entry_of_some w i (suc v) x h = cond_true (nat_lt 0 (suc v)) ((be 2 i ++ be w (suc v)) ++ entry_bytes w (suc i) x) (entry_bytes w (suc i) x) (positive v)

no_entry : (w i : ℕ) → entry_bytes w i [] ≡ []
unfolding entry_bytes
no_entry w i = refl

no_entries : (w i : ℕ) (x : List ℕ) → ZerosFrom 0 x → entry_bytes w i x ≡ []
no_entries w i [] h = no_entry w i
no_entries w i (v ∷ x) h = rw (h 0 (omega arith)) (entry_of_none w i x ∙ no_entries w (suc i) x (λ j k. h (suc j) (omega arith)))

-- the bytes of entries with one more behind them
placed_entry : (w i k v : ℕ) (x : List ℕ) → ZerosFrom k x → k < length x → 0 < v → entry_bytes w i (slice_set x k v) ≡ entry_bytes w i x ++ (be 2 (i + k) ++ be w v)
placed_entry w i k v [] z h p = absurd (omega arith)
placed_entry w i zero v (u ∷ x) z h p =
    let none = no_entries w (suc i) x (λ j k. z (suc j) (omega arith)) in
    let gone : entry_bytes w i (u ∷ x) ≡ [] = no_entries w i (u ∷ x) z in
    let at : i + 0 ≡ i = omega arith in
    entry_of_some w i v x p ∙ ap (λ (e : List ℕ). (be 2 i ++ be w v) ++ e) none ∙ append-nil (be 2 i ++ be w v) ∙ sym (ap (λ (e : List ℕ). e ++ (be 2 (i + 0) ++ be w v)) gone ∙ ap (λ (j : ℕ). be 2 j ++ be w v) at)
placed_entry w i (suc k) v (zero ∷ x) z h p =
    let rest = placed_entry w (suc i) k v x (λ j l. z (suc j) (omega arith)) (omega arith) p in
    let at : suc i + k ≡ i + suc k = omega arith in
    entry_of_none w i (slice_set x k v) ∙ rest ∙ ap (λ (j : ℕ). entry_bytes w (suc i) x ++ (be 2 j ++ be w v)) at ∙ ap (λ (e : List ℕ). e ++ (be 2 (i + suc k) ++ be w v)) (sym (entry_of_none w i x))
placed_entry w i (suc k) v (suc u ∷ x) z h p =
    let rest = placed_entry w (suc i) k v x (λ j l. z (suc j) (omega arith)) (omega arith) p in
    let at : suc i + k ≡ i + suc k = omega arith in
    let front = be 2 i ++ be w (suc u) in
    entry_of_some w i (suc u) (slice_set x k v) (omega arith) ∙ ap (λ (e : List ℕ). front ++ e) (rest ∙ ap (λ (j : ℕ). entry_bytes w (suc i) x ++ (be 2 j ++ be w v)) at) ∙ sym (append_assoc front (entry_bytes w (suc i) x) (be 2 (i + suc k) ++ be w v)) ∙ ap (λ (e : List ℕ). e ++ (be 2 (i + suc k) ++ be w v)) (sym (entry_of_some w i (suc u) x (omega arith)))

held_cons : (u : ℕ) (x : List ℕ) → held_count (u ∷ x) ≡ cond (ltb 0 u) 1 0 + held_count x
held_cons u x = sum_by-cons (λ n. cond (ltb 0 n) 1 0) u x

one_held : (v : ℕ) → 0 < v → cond {A = ℕ} (ltb 0 v) 1 0 ≡ 1
one_held zero h = absurd (omega arith)
one_held (suc v) h = cond_true {A = ℕ} (ltb 0 (suc v)) 1 0 (positive_too v)

-- one more number that isn't 0
placed_count : (k v : ℕ) (x : List ℕ) → slice_index_or x k 0 ≡ 0 → k < length x → 0 < v → held_count (slice_set x k v) ≡ held_count x + 1
placed_count k v [] z h p = absurd (omega arith)
placed_count zero v (u ∷ x) z h p =
    let a = held_cons v x in
    let b = held_cons 0 x in
    let c = one_held v p in
    rw z (omega (arith, a, b, c))
placed_count (suc k) v (u ∷ x) z h p =
    let a = held_cons u (slice_set x k v) in
    let b = held_cons u x in
    let c = placed_count k v x z (omega arith) p in omega (arith, a, b, c)

abbrev zeros : ℕ → List ℕ
zeros n = replicate n 0

zeros_of : (n j : ℕ) → slice_index_or (zeros n) j 0 ≡ 0
zeros_of zero j = refl
zeros_of (suc n) zero = refl
zeros_of (suc n) (suc j) = zeros_of n j

length_zeros : (n : ℕ) → length (zeros n) ≡ n
length_zeros zero = refl
length_zeros (suc n) = ap suc (length_zeros n)

none_held : (n : ℕ) → held_count (zeros n) ≡ 0
none_held zero = refl
none_held (suc n) = let a = held_cons 0 (zeros n) in let b = none_held n in omega (arith, a, b)

lt_from : (a b : ℕ) → nat_lt a b ≡ true → a < b
lt_from a b h = grind (arith, nat_tests)

zeros_behind : (asset v last : ℕ) (x : List ℕ) → ZerosFrom last x → last < asset → ZerosFrom asset (slice_set x (asset - 1) v)
zeros_behind asset v last x z h j k = get_or-set_other x (asset - 1) j v 0 (λ e. omega arith) ∙ z j (omega arith)

-- the bytes behind one more entry
entry_behind : (base before : List ℕ) (w asset v last n : ℕ) (x : List ℕ) → before ≡ base ++ entry_bytes w 1 x → length x ≡ n → ZerosFrom last x → last < asset → asset ≤ n → 0 < v → (before ++ be 2 asset) ++ be w v ≡ base ++ entry_bytes w 1 (slice_set x (asset - 1) v)
entry_behind base before w asset v last n x e l z h m p =
    let one = placed_entry w 1 (asset - 1) v x (λ j k. z j (omega arith)) (omega arith) p in
    let at : 1 + (asset - 1) ≡ asset = omega arith in
    append_assoc before (be 2 asset) (be w v) ∙ ap (λ (b : List ℕ). b ++ (be 2 asset ++ be w v)) e ∙ append_assoc base (entry_bytes w 1 x) (be 2 asset ++ be w v)
    ∙ ap (λ (b : List ℕ). base ++ b) (sym (one ∙ ap (λ (j : ℕ). entry_bytes w 1 x ++ (be 2 j ++ be w v)) at))

count_behind : (asset v last n count total : ℕ) (x : List ℕ) → length x ≡ n → ZerosFrom last x → last < asset → asset ≤ n → 0 < v → total ≡ held_count x + suc count → total ≡ held_count (slice_set x (asset - 1) v) + count
count_behind asset v last n count total x l z h m p e = let c = placed_count (asset - 1) v x (z (asset - 1) (omega arith)) (omega arith) p in omega (arith, c, e)

-- entries are spelled with the bytes of the list that they fill
entries_faithful : (last : Option Witness) (count n w greatest most from total all : ℕ) (x : List ℕ) (next : List ℕ → Format) (base before : List ℕ) →
    before ≡ base ++ entry_bytes w 1 x → length x ≡ n → ZerosFrom from x → all ≡ held_count x + count →
    ((y : List ℕ) → length y ≡ n → held_count y ≡ all → Faithful last (next y) (base ++ entry_bytes w 1 y)) →
    Faithful last (entries_format count n w greatest most from total x next) before
unfolding Faithful entries_format
entries_faithful last zero n w greatest most from total all x next base before e l z c f = moved last (next x) (base ++ entry_bytes w 1 x) before (sym e) (f x l (omega arith))
entries_faithful last (suc count) n w greatest most from total all x next base before e l z c f =
    λ asset low high above v v_low v_high fits.
    let h : from < asset = lt_from from asset above in
    entries_faithful last count n w greatest most asset (total + v) all (slice_set x (asset - 1) v) next base ((before ++ be 2 asset) ++ be w v)
    (entry_behind base before w asset v from n x e l z h high v_low) (length-set x (asset - 1) v ∙ l) (zeros_behind asset v from x z h) (count_behind asset v from n count all x l z h high v_low c) f

fresh_count : (n count : ℕ) → count ≡ held_count (zeros n) + count
fresh_count n count = let e = none_held n in omega (arith, e)

-- entries from a list of zeros on
fresh_entries : (last : Option Witness) (count n w greatest most : ℕ) (next : List ℕ → Format) (base : List ℕ) →
    ((y : List ℕ) → length y ≡ n → held_count y ≡ count → Faithful last (next y) (base ++ entry_bytes w 1 y)) →
    Faithful last (entries_format count n w greatest most 0 0 (zeros n) next) base
fresh_entries last count n w greatest most next base f =
    let none = no_entries w 1 (zeros n) (λ j k. zeros_of n j) in
    entries_faithful last count n w greatest most 0 0 count (zeros n) next base base (sym (append-nil base) ∙ ap (λ (b : List ℕ). base ++ b) (sym none)) (length_zeros n) (λ j k. zeros_of n j) (fresh_count n count) f

regroup : (a b c d e : List ℕ) → (((a ++ b) ++ c) ++ d) ++ e ≡ a ++ (((b ++ c) ++ d) ++ e)
regroup a b c d e = simp append_assoc

-- a witness is spelled with its bytes
witness_faithful : (last : Option Witness) (n lots : ℕ) (turnover : Option ℕ) (next : ℕ → Witness → Format) (before : List ℕ) →
    ((count : ℕ) (w : Witness) → Faithful last (next count w) (before ++ witness_bytes w)) → Faithful last (witness_format n lots turnover next) before
unfolding Faithful witness_format
witness_faithful last n lots turnover next before f =
    λ count low high. fresh_entries last count n 4 4294967295 (8 * lots) (λ y. multipliers_format turnover (λ alpha tau. next count (record { y = y; alpha = alpha; tau = tau }))) (before ++ be 2 count)
    (λ y l h alpha a_low a_high tau t_low t_high. moved last (next count (record { y = y; alpha = alpha; tau = tau })) (before ++ witness_bytes (record { y = y; alpha = alpha; tau = tau })) ((((before ++ be 2 count) ++ entry_bytes 4 1 y) ++ signed_be 16 alpha) ++ signed_be 16 tau)
    (ap (λ (k : ℕ). before ++ (((be 2 k ++ entry_bytes 4 1 y) ++ signed_be 16 alpha) ++ signed_be 16 tau)) h ∙ sym (regroup before (be 2 count) (entry_bytes 4 1 y) (signed_be 16 alpha) (signed_be 16 tau)))
    (f count (record { y = y; alpha = alpha; tau = tau })))

mark_faithful : (last : Option Witness) (bs : List ℕ) (F : Format) (before : List ℕ) → Faithful last F (before ++ mark_bytes bs) → Faithful last (mark_format bs F) before
unfolding Faithful
mark_faithful last [] F before f = moved last F (before ++ []) before (append-nil before) f
mark_faithful last (b ∷ bs) F before f =
    λ v low high. let e : v ≡ b = omega arith in
    mark_faithful last bs F (before ++ be 1 v) (moved last F (before ++ (be 1 b ++ mark_bytes bs)) ((before ++ be 1 v) ++ mark_bytes bs) (sym (append_assoc before (be 1 b) (mark_bytes bs)) ∙ ap (λ (k : ℕ). (before ++ be 1 k) ++ mark_bytes bs) (sym e)) f)

version_is : (b : ℕ) → 49 ≤ b → b ≤ 50 → b ≡ version_byte (version_of b)
version_is b low high = by (cases_eq b 50)
  where
    by : (b ≡ 50) ⊎ (b ≡ 50 → ⊥) → b ≡ version_byte (version_of b)
    by (inl e) = rw e refl
    by (inr n) = let e : b ≡ 49 = omega arith in rw e refl

turnover_faithful : (last : Option Witness) (next : Option ℕ → Format) (before : List ℕ) → ((t : Option ℕ) → Faithful last (next t) (before ++ turnover_bytes t)) → Faithful last (turnover_format next) before
unfolding Faithful
turnover_faithful last next before f = λ flag low high. by flag high
  where
    by : (flag : ℕ) → flag ≤ 1 → Faithful last (turnover_when flag next) (before ++ be 1 flag)
    by zero h = f None
    by (suc flag) h = λ t low high.
        let e : suc flag ≡ 1 = omega arith in
        moved last (next (Some t)) (before ++ (be 1 1 ++ be 4 t)) ((before ++ be 1 (suc flag)) ++ be 4 t) (sym (append_assoc before (be 1 1) (be 4 t)) ∙ ap (λ (k : ℕ). (before ++ be 1 k) ++ be 4 t) (sym e)) (f (Some t))

most_faithful : (last : Option Witness) (version : Version) (n held : ℕ) (next : ℕ → Format) (before : List ℕ) → ((m : ℕ) → Faithful last (next m) (before ++ held_most_bytes version m)) → Faithful last (held_most_format version n held next) before
unfolding Faithful
most_faithful last One n held next before f = moved last (next held) (before ++ []) before (append-nil before) (f held)
most_faithful last Two n held next before f = λ m low high. f m

limits_faithful : (last : Option Witness) (version : Version) (n lots held held_most : ℕ) (before : List ℕ) →
    before ≡ ((((mark_bytes mark ++ be 1 (version_byte version)) ++ be 2 n) ++ be 2 lots) ++ be 2 held) ++ held_most_bytes version held_most → Faithful last (head_limits version n lots held held_most) before
unfolding Faithful head_limits head_end
limits_faithful last version n lots held held_most before e =
    turnover_faithful last (head_end version n lots held held_most) before (λ turnover nodes d_low d_high. ap (λ (b : List ℕ). (b ++ turnover_bytes turnover) ++ be 4 nodes) e)

head_faithful_in : (last : Option Witness) (version : Version) → Faithful last (head_numbers version) (mark_bytes mark ++ be 1 (version_byte version))
unfolding Faithful head_numbers
head_faithful_in last version =
    λ n n_low n_high lots l_low l_high held h_low h_high.
    most_faithful last version n held (head_limits version n lots held) ((((mark_bytes mark ++ be 1 (version_byte version)) ++ be 2 n) ++ be 2 lots) ++ be 2 held)
    (λ held_most. limits_faithful last version n lots held held_most (((((mark_bytes mark ++ be 1 (version_byte version)) ++ be 2 n) ++ be 2 lots) ++ be 2 held) ++ held_most_bytes version held_most) refl)

head_faithful : (last : Option Witness) → Faithful last head_format []
unfolding Faithful head_format
head_faithful last =
    mark_faithful last mark (natural 1 Magic 49 50 (λ b. head_numbers (version_of b))) []
    (λ b low high. moved last (head_numbers (version_of b)) (mark_bytes mark ++ be 1 (version_byte (version_of b))) (mark_bytes mark ++ be 1 b) (ap (λ (k : ℕ). mark_bytes mark ++ be 1 k) (sym (version_is b low high))) (head_faithful_in last (version_of b)))

asset_faithful : (last : Option Witness) (version : Version) (lots : ℕ) → Faithful last (asset_format version lots) []
unfolding Faithful asset_format
asset_faithful last version lots = λ mean m_low m_high dev d_low d_high least l_low l_high greatest g_low g_high present p_low p_high. refl

start_faithful : (last : Option Witness) (version : Version) → Faithful last (start_format version) []
unfolding Faithful start_format
start_faithful last version = λ p p_low p_high q q_low q_high outcome o_low o_high. refl

portfolio_faithful : (last : Option Witness) (version : Version) (n held held_most : ℕ) → Faithful last (portfolio_format version n held held_most) []
unfolding Faithful portfolio_format
portfolio_faithful last One n held held_most = fresh_entries last held n 2 10000 (10000 * held) (λ x. says (record { version = One; field = field.Portfolio x })) [] (λ y l h. refl)
portfolio_faithful last Two n held held_most = λ count low high.
    fresh_entries last count n 2 10000 (10000 * count) (λ x. says (record { version = Two; field = field.Portfolio x })) (be 2 count) (λ y l h. ap (λ (k : ℕ). be 2 k ++ entry_bytes 2 1 y) (sym h))

overall_faithful : (c : Context) → Faithful c.last (overall_format c) []
unfolding Faithful overall_format witness_end
overall_faithful c = λ flag low high. by flag high
  where
    by : (flag : ℕ) → flag ≤ 1 → Faithful c.last (overall_when c flag) (be 1 flag)
    by zero h = refl
    by (suc flag) h =
        let e : suc flag ≡ 1 = omega arith in
        witness_faithful c.last c.n c.lots c.turnover (witness_end c false) (be 1 (suc flag)) (λ count w. ap (λ (k : ℕ). be 1 k ++ witness_bytes w) e)

void_faithful : (c : Context) → Faithful c.last (void_format c) (be 1 2)
unfolding Faithful void_format
void_faithful c = λ alpha a_low a_high tau t_low t_high. refl

not_from : (b : Bool) → not b ≡ true → b ≡ false
not_from true h = cc
not_from false h = refl

tangent_faithful : (c : Context) → Faithful c.last (tangent_format c) (be 1 3)
unfolding Faithful tangent_format witness_end
tangent_faithful c = λ allowed. witness_faithful c.last c.n c.lots c.turnover (witness_end c true) (be 1 3)
    (λ count w fresh. sym (cond_false (repeated c.version c.last w) (be 1 6) (be 1 3 ++ witness_bytes w) (not_from (repeated c.version c.last w) fresh)))

named : (asset : ℕ) → 1 ≤ asset → suc (asset - 1) ≡ asset
named asset h = omega arith

held_faithful : (c : Context) → Faithful c.last (held_format c) (be 1 4)
unfolding Faithful held_format
held_faithful c = λ asset low high. ap (λ (k : ℕ). be 1 4 ++ be 2 k) (sym (named asset low))

lots_faithful : (c : Context) → Faithful c.last (lots_split_format c) (be 1 5)
unfolding Faithful lots_split_format
lots_faithful c = λ asset low high t t_low t_high. ap (λ (k : ℕ). (be 1 5 ++ be 2 k) ++ be 2 t) (sym (named asset low))

same_number : (v : ℕ) → (v == v) ≡ true
same_number v = grind (arith, nat_tests)

and_both : (s t : Bool) → s ≡ true → t ≡ true → (s && t) ≡ true
and_both s t h k = rw h k

same_list : (x : List ℕ) → same_numbers x x ≡ true
same_list [] = refl
same_list (v ∷ x) = and_both (v == v) (same_numbers x x) (same_number v) (same_list x)

same_signed : (z : ℤ) → int_eq z z ≡ true
same_signed z = grind (arith, ints)

same_itself : (w : Witness) → same_witness w w ≡ true
unfolding same_witness
same_itself w = and_both (same_numbers w.y w.y) (int_eq w.alpha w.alpha && int_eq w.tau w.tau) (same_list w.y) (and_both (int_eq w.alpha w.alpha) (int_eq w.tau w.tau) (same_signed w.alpha) (same_signed w.tau))

again_faithful : (version : Version) (last : Option Witness) → 6 ≤ node_most version → Faithful last (again_format version last) (be 1 6)
unfolding Faithful
again_faithful version None h = λ e. cc
again_faithful One (Some w) h = absurd (omega arith)
again_faithful Two (Some w) h = sym (cond_true (same_witness w w) (be 1 6) (be 1 3 ++ witness_bytes w) (same_itself w))

most_is : (version : Version) → node_most version ≤ 6
most_is One = omega arith
most_is Two = omega arith

behind_faithful : (c : Context) (b : ℕ) → 1 ≤ b → b ≤ node_most c.version → Faithful c.last (node_behind c b) (be 1 b)
unfolding Faithful node_behind
behind_faithful c zero l h = absurd (omega arith)
behind_faithful c (suc zero) l h = refl
behind_faithful c (suc (suc zero)) l h = void_faithful c
behind_faithful c (suc (suc (suc zero))) l h = tangent_faithful c
behind_faithful c (suc (suc (suc (suc zero)))) l h = held_faithful c
behind_faithful c (suc (suc (suc (suc (suc zero))))) l h = lots_faithful c
behind_faithful c (suc (suc (suc (suc (suc (suc zero)))))) l h = λ allowed. again_faithful c.version c.last h
behind_faithful c (suc (suc (suc (suc (suc (suc (suc b))))))) l h = let m = most_is c.version in absurd (omega arith)

node_faithful : (c : Context) → Faithful c.last (node_format c) []
unfolding Faithful node_format
node_faithful c = λ b low high. behind_faithful c b low high

end_faithful : (last : Option Witness) (version : Version) → Faithful last (natural 4 Range end_mark end_mark (λ _. says (record { version = version; field = field.End }))) []
unfolding Faithful
end_faithful last version = λ v low high. let e : v ≡ end_mark = omega arith in ap (be 4) e

-- each format of the grammar is faithful
pub is_faithful : (c : Context) (p : Phase) → Faithful c.last (format_of c p) []
unfolding Faithful
is_faithful c phase.Head = head_faithful c.last
is_faithful c phase.Assets = asset_faithful c.last c.version c.lots
is_faithful c phase.Correlations = λ z low high. refl
is_faithful c phase.Factor = λ z low high. refl
is_faithful c phase.Diagonal = λ z low high. refl
is_faithful c phase.Sections = λ v low high. refl
is_faithful c phase.Section = start_faithful c.last c.version
is_faithful c phase.Portfolio = portfolio_faithful c.last c.version c.n c.held c.held_most
is_faithful c phase.Objective = λ z low high. refl
is_faithful c phase.Bound = λ z low high. refl
is_faithful c phase.Overall = overall_faithful c
is_faithful c phase.Node = node_faithful c
is_faithful c phase.End = end_faithful c.last c.version
is_faithful c phase.Over = λ v low high. absurd (omega arith)

-- bytes that spell a group where it comes are its bytes
pub bytes_are : (c : Context) (g : Group) (bytes : List ℕ) → Spells (format_of c c.phase) g bytes → bytes ≡ bytes_of g.version c.last g.field
bytes_are c g bytes h = faithful_is c.last (format_of c c.phase) g [] bytes (is_faithful c c.phase) h
