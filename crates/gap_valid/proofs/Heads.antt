-- Whole certificates are spelled: the head, and then the sections up to the end mark.
use Rattle.std.proofs.Common.{◌≡◌, ℕ, zero, suc, ◌+◌, ◌*◌, ◌-◌, ◌/◌, ◌<◌, ◌≤◌, List, [], ◌∷◌, ◌++◌, map, length, All, Option, Some, None, ℤ, pos, unsigned_abs, refl, sym, ap, ◌∙◌, subst, arith}
use Rattle.std.specs.Option.{ForSome}
use Rattle.std.proofs.lemmas.List.{length-map, append-nil}
use Rattle.std.proofs.lemmas.List.Elements.{All-head, All-tail}
use Rattle.gap_base.specs.Sizes.{most_millionths, most_lots, most_turnover, most_factor, most_diagonal}
use Rattle.gap_model.specs.declared.cert_fault.CertKind.TheVariants.{Magic, Range}
use Rattle.gap_cert.specs.declared.field.Version.{Version}
use Rattle.gap_cert.specs.declared.field.Version.TheVariants.{One, Two}
use Rattle.gap_cert.specs.declared.field.Field.{Field}
use Rattle.gap_cert.specs.declared.field.Field.TheVariants as field
use Rattle.gap_cert.specs.declared.field.Group.{Group}
use Rattle.gap_cert.specs.declared.context.Phase.TheVariants as phase
use Rattle.gap_cert.specs.declared.context.Context.{Context}
use Rattle.gap_cert.specs.Bytes.{AreBytes}
use Rattle.gap_cert.specs.Formats.{Format, natural, signed, guard, says, Spells}
use Rattle.gap_cert.specs.Fields.{mark, end_mark}
use Rattle.gap_cert.specs.Contexts.{Runs, mark_format, version_of, held_most_format, turnover_when, head_end, head_limits, head_numbers, head_format, asset_format, format_of, start, after, behind_field}
use Rattle.gap_cert.specs.Certificates.{AssetLine, CertHead, CertSection, Certificate, asset_field, head_fields, fields_of, sections_fields, group_in, Encodes, spelling}
use Rattle.gap_cert.proofs.WholeLaws.{encoding_is_spelling, one_encoding}
use Rattle.gap_valid.specs.Heads.{pairs_before, rows_before, IsAssetLine, IsDiagonal, IsHead}
use Rattle.gap_valid.specs.Writable.{IsWritable, IsWritableSection}
use Rattle.gap_valid.proofs.Items.{IsSpelled, natural_spelled, signed_spelled, says_spelled, sized_spelled, signed_small, high_size, fits_1, fits_2, fits_4, room_4, room_8, room_16}
use Rattle.gap_valid.proofs.Reaches.{Reaches, stays, step_to, both_reach, at, IsItem, every_of, items_reach_by}
use Rattle.gap_valid.proofs.Sections.{Allows, sections_reach}

-- ---- the first numbers of a head
mark_spelled : (bs : List ℕ) (F : Format) (g : Group) → AreBytes bs → IsSpelled F g → IsSpelled (mark_format bs F) g
mark_spelled [] F g b r = r
mark_spelled (x ∷ bs) F g b r = let l = b.0 in natural_spelled 1 Magic x x (λ _. mark_format bs F) g x (omega arith) (omega arith) (fits_1 x (omega arith)) (mark_spelled bs F g b.1 r)

limits_spelled : (v : Version) (n lots held most : ℕ) (turnover : Option ℕ) (nodes : ℕ) → ForSome turnover (λ t. t ≤ most_turnover) → nodes ≤ 100000 → IsSpelled (head_limits v n lots held most) (group_in v (field.Head n lots held most turnover nodes))
unfolding head_limits head_end
limits_spelled v n lots held most None nodes t d =
    let g = group_in v (field.Head n lots held most None nodes) in
    natural_spelled 1 Range 0 1 _ g 0 (omega arith) (omega arith) (fits_1 0 (omega arith))
    (natural_spelled 4 Range 0 100000 _ g nodes (omega arith) d (fits_4 nodes (omega arith)) (says_spelled g g refl))
limits_spelled v n lots held most (Some u) nodes t d =
    let g = group_in v (field.Head n lots held most (Some u) nodes) in
    let l : u ≤ 3000000 = t u refl in
    natural_spelled 1 Range 0 1 _ g 1 (omega arith) (omega arith) (fits_1 1 (omega arith))
    (natural_spelled 4 Range 0 most_turnover _ g u (omega arith) l (fits_4 u (omega arith))
    (natural_spelled 4 Range 0 100000 _ g nodes (omega arith) d (fits_4 nodes (omega arith)) (says_spelled g g refl)))

abbrev head_item : CertHead → Field
head_item h = field.Head h.n h.lots h.held h.held_most h.turnover h.nodes

most_spelled : (v : Version) (h : CertHead) → IsHead h → Allows v h → IsSpelled (held_most_format v h.n h.held (λ m. head_limits v h.n h.lots h.held m)) (group_in v (head_item h))
most_spelled One h is a =
    subst (λ (m : ℕ). IsSpelled (head_limits One h.n h.lots h.held m) (group_in One (head_item h))) (sym a) (limits_spelled One h.n h.lots h.held h.held_most h.turnover h.nodes is.turnover_most is.nodes_most)
most_spelled Two h is a =
    let m = is.many in
    let k = is.held_most in
    natural_spelled 2 Range h.held h.n (λ u. head_limits Two h.n h.lots h.held u) (group_in Two (head_item h)) h.held_most is.held_range k (fits_2 h.held_most (omega arith)) (limits_spelled Two h.n h.lots h.held h.held_most h.turnover h.nodes is.turnover_most is.nodes_most)

numbers_spelled : (v : Version) (h : CertHead) → IsHead h → Allows v h → IsSpelled (head_numbers v) (group_in v (head_item h))
unfolding head_numbers
numbers_spelled v h is a =
    let g = group_in v (head_item h) in
    let m = is.many in
    let k = is.held_most in
    let r = is.held_range in
    let l : h.lots ≤ 10000 = is.lots_most in
    natural_spelled 2 Range 2 256 _ g h.n is.few m (fits_2 h.n (omega arith))
    (natural_spelled 2 Range 1 most_lots _ g h.lots is.lots_least l (fits_2 h.lots (omega arith))
    (natural_spelled 2 Range 1 h.n _ g h.held is.held_least (omega arith) (fits_2 h.held (omega arith)) (most_spelled v h is a)))

version_spelled : (v : Version) (h : CertHead) → IsHead h → Allows v h → IsSpelled (natural 1 Magic 49 50 (λ b. head_numbers (version_of b))) (group_in v (head_item h))
version_spelled One h is a = natural_spelled 1 Magic 49 50 (λ b. head_numbers (version_of b)) (group_in One (head_item h)) 49 (omega arith) (omega arith) (fits_1 49 (omega arith)) (numbers_spelled One h is a)
version_spelled Two h is a = natural_spelled 1 Magic 49 50 (λ b. head_numbers (version_of b)) (group_in Two (head_item h)) 50 (omega arith) (omega arith) (fits_1 50 (omega arith)) (numbers_spelled Two h is a)

mark_are : AreBytes mark
mark_are = (omega arith, (omega arith, (omega arith, (omega arith, (omega arith, (omega arith, (omega arith, tt)))))))

head_spelled : (v : Version) (h : CertHead) → IsHead h → Allows v h → IsSpelled head_format (group_in v (head_item h))
unfolding head_format
head_spelled v h is a = mark_spelled mark (natural 1 Magic 49 50 (λ b. head_numbers (version_of b))) (group_in v (head_item h)) mark_are (version_spelled v h is a)

-- ---- the items behind them
asset_spelled : (v : Version) (lots : ℕ) (a : AssetLine) → lots ≤ 10000 → IsAssetLine lots a → IsSpelled (asset_format v lots) (group_in v (asset_field a))
unfolding asset_format
asset_spelled v lots a l is =
    let g = group_in v (asset_field a) in
    let d : a.dev ≤ 1000000 = is.dev_most in
    let e = is.least_most in
    let f = is.greatest_most in
    let p : a.present ≤ 10000 = is.present_most in
    sized_spelled 4 most_millionths _ g a.mean is.mean_most (signed_small 4 most_millionths a.mean (omega arith) is.mean_most (room_4 most_millionths (omega arith)))
    (natural_spelled 4 Range 0 most_millionths _ g a.dev (omega arith) d (fits_4 a.dev (omega arith))
    (natural_spelled 2 Range 1 lots _ g a.least is.least_least e (fits_2 a.least (omega arith))
    (natural_spelled 2 Range 1 lots _ g a.greatest is.greatest_least f (fits_2 a.greatest (omega arith))
    (natural_spelled 2 Range 0 most_lots _ g a.present (omega arith) p (fits_2 a.present (omega arith)) (says_spelled g g refl)))))

asset_item : (v : Version) (h : CertHead) → IsHead h → (a : AssetLine) → IsAssetLine h.lots a → IsItem v h phase.Assets phase.Correlations ((h.n * (h.n - 1)) / 2) (asset_field a)
unfolding behind_field
asset_item v h is a l = let m : h.lots ≤ 10000 = is.lots_most in record { spelled = λ left. asset_spelled v h.lots a m l; goes = λ left. refl }

rho_item : (v : Version) (h : CertHead) (rho : ℤ) → unsigned_abs rho ≤ most_millionths → IsItem v h phase.Correlations phase.Factor ((h.n * (h.n + 1)) / 2) (field.Correlation rho)
unfolding behind_field
rho_item v h rho s = record {
  spelled = λ left. sized_spelled 4 most_millionths (λ z. says (group_in v (field.Correlation z))) (group_in v (field.Correlation rho)) rho s (signed_small 4 most_millionths rho (omega arith) s (room_4 most_millionths (omega arith))) (says_spelled (group_in v (field.Correlation rho)) (group_in v (field.Correlation rho)) refl);
  goes = λ left. refl;
}

factor_item : (v : Version) (h : CertHead) (r : ℤ) → unsigned_abs r ≤ most_factor → IsItem v h phase.Factor phase.Diagonal h.n (field.FactorEntry r)
unfolding behind_field
factor_item v h r s = record {
  spelled = λ left. sized_spelled 8 most_factor (λ z. says (group_in v (field.FactorEntry z))) (group_in v (field.FactorEntry r)) r s (signed_small 8 most_factor r (omega arith) s (room_8 most_factor (omega arith))) (says_spelled (group_in v (field.FactorEntry r)) (group_in v (field.FactorEntry r)) refl);
  goes = λ left. refl;
}

diagonal_item : (v : Version) (h : CertHead) (d : ℤ) → IsDiagonal d → IsItem v h phase.Diagonal phase.Sections 1 (field.ShiftEntry d)
unfolding behind_field
diagonal_item v h d i = record {
  spelled = λ left. signed_spelled 16 (pos 0) (pos most_diagonal) (λ z. says (group_in v (field.ShiftEntry z))) (group_in v (field.ShiftEntry d)) d i.least (high_size most_diagonal d i.most) (signed_small 16 most_diagonal d (omega arith) i.most (room_16 most_diagonal (omega arith))) (says_spelled (group_in v (field.ShiftEntry d)) (group_in v (field.ShiftEntry d)) refl);
  goes = λ left. refl;
}

-- ---- how many pairs and entries there are
pairs_twice : (n k : ℕ) → k ≤ n → 2 * pairs_before n k + k * suc k ≡ 2 * (k * n)
pairs_twice n zero h = omega arith
pairs_twice n (suc k) h = let r = pairs_twice n k (omega arith) in omega (arith, r)

pairs_some : (n k : ℕ) → 2 ≤ n → 1 ≤ pairs_before n (suc k)
pairs_some n zero h = omega arith
pairs_some n (suc k) h = let r = pairs_some n k h in omega (arith, r)

pairs_half : (m : ℕ) → suc m * m ≡ 2 * pairs_before (suc m) (suc m)
pairs_half m = let r = pairs_twice (suc m) (suc m) (omega arith) in omega (arith, r)

pairs_are : (n : ℕ) → 2 ≤ n → (pairs_before n n ≡ (n * (n - 1)) / 2) × (0 < pairs_before n n)
pairs_are zero h = absurd (omega arith)
pairs_are (suc m) h =
    let e = pairs_half m in
    let f : suc m - 1 ≡ m = omega arith in
    let g = ap (λ (k : ℕ). suc m * k) f in
    let s = pairs_some (suc m) m h in
    (omega (arith, e, g), omega (arith, s))

rows_twice : (n : ℕ) → 2 * rows_before n ≡ n * (n + 1)
rows_twice zero = omega arith
rows_twice (suc n) = let r = rows_twice n in omega (arith, r)

rows_are : (n : ℕ) → 2 ≤ n → (rows_before n ≡ (n * (n + 1)) / 2) × (0 < rows_before n)
rows_are zero h = absurd (omega arith)
rows_are (suc n) h = let r = rows_twice (suc n) in (omega (arith, r), omega arith)

-- ---- a head
mapped : {A : Type 0} (f : A → Field) (xs : List A) (left : ℕ) → length xs ≡ left → length (map f xs) ≡ left
mapped f xs left e = length-map xs f ∙ e

head_reach : (v : Version) (h : CertHead) → IsHead h → Allows v h → Reaches v start (head_fields h) (at v h phase.Sections 1 0 1 None)
unfolding start head_fields behind_field
head_reach v h is a =
    let p = pairs_are h.n is.few in
    let r = rows_are h.n is.few in
    let f = is.few in
    let c0 = at v h phase.Assets h.n 0 1 None in
    let c1 = at v h phase.Correlations ((h.n * (h.n - 1)) / 2) 0 1 None in
    let c2 = at v h phase.Factor ((h.n * (h.n + 1)) / 2) 0 1 None in
    let c3 = at v h phase.Diagonal h.n 0 1 None in
    let c4 = at v h phase.Sections 1 0 1 None in
    let assets = map asset_field h.assets in
    let rhos = map field.Correlation h.correlations in
    let rows = map field.FactorEntry h.factor in
    let ds = map field.ShiftEntry h.diagonal in
    let s0 : Reaches v c0 assets c1 = items_reach_by v h phase.Assets phase.Correlations h.n ((h.n * (h.n - 1)) / 2) assets (mapped asset_field h.assets h.n is.assets_count) (omega arith) (every_of (IsAssetLine h.lots) (IsItem v h phase.Assets phase.Correlations ((h.n * (h.n - 1)) / 2)) asset_field h.assets (asset_item v h is) is.assets_are) in
    let s1 : Reaches v c1 rhos c2 = items_reach_by v h phase.Correlations phase.Factor ((h.n * (h.n - 1)) / 2) ((h.n * (h.n + 1)) / 2) rhos (mapped field.Correlation h.correlations ((h.n * (h.n - 1)) / 2) (is.correlations_count ∙ p.0)) (omega (arith, p.0, p.1)) (every_of (λ z. unsigned_abs z ≤ most_millionths) (IsItem v h phase.Correlations phase.Factor ((h.n * (h.n + 1)) / 2)) field.Correlation h.correlations (rho_item v h) is.correlations_are) in
    let s2 : Reaches v c2 rows c3 = items_reach_by v h phase.Factor phase.Diagonal ((h.n * (h.n + 1)) / 2) h.n rows (mapped field.FactorEntry h.factor ((h.n * (h.n + 1)) / 2) (is.factor_count ∙ r.0)) (omega (arith, r.0, r.1)) (every_of (λ z. unsigned_abs z ≤ most_factor) (IsItem v h phase.Factor phase.Diagonal h.n) field.FactorEntry h.factor (factor_item v h) is.factor_are) in
    let s3 : Reaches v c3 ds c4 = items_reach_by v h phase.Diagonal phase.Sections h.n 1 ds (mapped field.ShiftEntry h.diagonal h.n is.diagonal_count) (omega arith) (every_of IsDiagonal (IsItem v h phase.Diagonal phase.Sections 1) field.ShiftEntry h.diagonal (diagonal_item v h) is.diagonal_are) in
    step_to v start c0 c4 (head_item h) (((assets ++ rhos) ++ rows) ++ ds) (head_spelled v h is a) refl
    (both_reach v ((assets ++ rhos) ++ rows) ds c0 c3 c4 (both_reach v (assets ++ rhos) rows c0 c2 c3 (both_reach v assets rhos c0 c1 c2 s0 s1) s2) s3)

-- ---- the sections and the end mark
end_spelled : (v : Version) (c : Context) → c.version ≡ v → IsSpelled (format_of c phase.End) (group_in v field.End)
end_spelled v c e = natural_spelled 4 Range end_mark end_mark (λ _. says (record { version = c.version; field = field.End })) (group_in v field.End) end_mark (omega arith) (omega arith) (fits_4 end_mark (omega arith)) (says_spelled (group_in v field.End) (group_in c.version field.End) (ap (λ (u : Version). group_in u field.End) (sym e)))

count_spelled : (v : Version) (h : CertHead) (k : ℕ) → 1 ≤ k → k ≤ 101 → IsSpelled (format_of (at v h phase.Sections 1 0 1 None) phase.Sections) (group_in v (field.Sections k))
count_spelled v h k l m = natural_spelled 1 Range 1 101 (λ n. says (group_in v (field.Sections n))) (group_in v (field.Sections k)) k l m (fits_1 k (omega arith)) (says_spelled (group_in v (field.Sections k)) (group_in v (field.Sections k)) refl)

counted : (v : Version) (h : CertHead) (s : CertSection) (more : List CertSection) → after (at v h phase.Sections 1 0 1 None) (group_in v (field.Sections (length (s ∷ more)))) ≡ at v h phase.Section 1 (length more) 1 None
unfolding behind_field
counted v h s more = let e : suc (length more) - 1 ≡ length more = omega arith in ap (λ (k : ℕ). at v h phase.Section 1 k 1 None) e

-- sections from the number of them to the end mark
record Closed (v : Version) (h : CertHead) (sections : List CertSection) : Type 0 where
  end : Context
  reach : Reaches v (at v h phase.Sections 1 0 1 None) (field.Sections (length sections) ∷ (sections_fields sections ++ field.End ∷ [])) end
  over : end.phase ≡ phase.Over

closed_reach : (v : Version) (h : CertHead) (sections : List CertSection) → IsHead h → Allows v h → 1 ≤ length sections → length sections ≤ 101 → All (IsWritableSection h) sections → Closed v h sections
unfolding behind_field
closed_reach v h [] is a l m w = absurd (omega arith)
closed_reach v h (s ∷ more) is a l m w =
    let q = sections_reach v h s more 1 None is a (All-head (IsWritableSection h) s more w) (All-tail (IsWritableSection h) s more w) in
    let e = at v h phase.End 1 0 q.outcome q.last in
    let o = at v h phase.Over 1 0 q.outcome q.last in
    let tail : Reaches v e (field.End ∷ []) o = step_to v e o o field.End [] (end_spelled v e refl) refl (stays v o) in
    let body = both_reach v (sections_fields (s ∷ more)) (field.End ∷ []) (at v h phase.Section 1 (length more) 1 None) e o q.reach tail in
    record {
      end = o;
      reach = step_to v (at v h phase.Sections 1 0 1 None) (at v h phase.Section 1 (length more) 1 None) o (field.Sections (length (s ∷ more))) (sections_fields (s ∷ more) ++ field.End ∷ []) (count_spelled v h (length (s ∷ more)) l m) (counted v h s more) body;
      over = refl;
    }

whole_encodes : (v : Version) (c : Certificate) → IsWritable c → Allows v c.head → (bytes : List ℕ) × Encodes v bytes c
unfolding fields_of
whole_encodes v c w a =
    let k = closed_reach v c.head c.sections w.head_is a w.some w.few w.sections_are in
    let r = both_reach v (head_fields c.head) (field.Sections (length c.sections) ∷ (sections_fields c.sections ++ field.End ∷ [])) start (at v c.head phase.Sections 1 0 1 None) k.end (head_reach v c.head w.head_is a) k.reach in
    (r.bytes, record { end = k.end; run = r.runs; over = k.over })

-- a certificate whose numbers are in their ranges is encoded by its spelling
pub encodes : (v : Version) (c : Certificate) → IsWritable c → Allows v c.head → Encodes v (spelling v c) c
encodes v c w a =
    let e = whole_encodes v c w a in
    subst (λ (bytes : List ℕ). Encodes v bytes c) (encoding_is_spelling v e.0 c e.1) e.1

-- ---- what version 1 can't say
-- each group that a format says meets a condition
unfoldable Only : (Group → Type 0) → Format → Type 0
Only P (natural w k lo hi next) = (n : ℕ) → Only P (next n)
Only P (signed w lo hi next) = (z : ℤ) → Only P (next z)
Only P (guard test back k F) = Only P F
Only P (says said) = P said

only_is : (P : Group → Type 0) (F : Format) (g : Group) (bytes : List ℕ) → Only P F → Spells F g bytes → P g
unfolding Only Spells
only_is P (natural w k lo hi next) g bytes o s = only_is P (next s.value) g s.more (o s.value) s.behind
only_is P (signed w lo hi next) g bytes o s = only_is P (next s.value) g s.more (o s.value) s.behind
only_is P (guard test back k F) g bytes o s = only_is P F g bytes o s.1
only_is P (says said) g bytes o s = subst P (sym s.0) o

-- in version 1 the most assets to hold are the fewest
abbrev Alike : Version → Field → Type 0
Alike One (field.Head n lots held most turnover nodes) = held ≡ most
Alike One _ = Unit {0}
Alike Two _ = Unit {0}

abbrev IsAlike : Group → Type 0
IsAlike g = Alike g.version g.field

mark_only : (P : Group → Type 0) (bs : List ℕ) (F : Format) → Only P F → Only P (mark_format bs F)
unfolding Only
mark_only P [] F o = o
mark_only P (b ∷ bs) F o = λ n. mark_only P bs F o

limits_only : (v : Version) (n lots held most : ℕ) → ((turnover : Option ℕ) (nodes : ℕ) → Alike v (field.Head n lots held most turnover nodes)) → Only IsAlike (head_limits v n lots held most)
unfolding Only head_limits head_end
limits_only v n lots held most a = λ flag. by flag
  where
    by : (flag : ℕ) → Only IsAlike (turnover_when flag (head_end v n lots held most))
    by zero = λ nodes. a None nodes
    by (suc flag) = λ t nodes. a (Some t) nodes

numbers_only : (v : Version) → Only IsAlike (head_numbers v)
unfolding Only head_numbers
numbers_only One = λ n lots held. limits_only One n lots held held (λ turnover nodes. refl)
numbers_only Two = λ n lots held most. limits_only Two n lots held most (λ turnover nodes. tt)

head_only : Only IsAlike head_format
unfolding Only head_format
head_only = mark_only IsAlike mark (natural 1 Magic 49 50 (λ b. head_numbers (version_of b))) (λ b. numbers_only (version_of b))

pub held_alike : (c : Certificate) (bytes : List ℕ) → Encodes One bytes c → c.head.held ≡ c.head.held_most
unfolding Runs start fields_of head_fields
held_alike c bytes e = only_is IsAlike head_format (group_in One (head_item c.head)) e.run.0 head_only e.run.2

-- ---- encodings stand alone
pub one_alone : (v : Version) (a b : List ℕ) (c : Certificate) → Encodes v a c → Encodes v b c → a ≡ b
one_alone v a b c p q = encoding_is_spelling v a c p ∙ sym (encoding_is_spelling v b c q)

pub no_front : (v w : Version) (a more : List ℕ) (c d : Certificate) → Encodes v a c → Encodes w (a ++ more) d → more ≡ []
no_front v w a more c d p q = (one_encoding v w a (a ++ more) more [] c d p q (sym (append-nil (a ++ more)))).2
