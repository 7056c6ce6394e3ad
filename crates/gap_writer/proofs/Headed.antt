-- The bytes of a head, piece by piece.
use Rattle.std.proofs.Common.{◌≡◌, ℕ, suc, ◌+◌, ◌-◌, ◌<◌, List, [], ◌∷◌, ◌++◌, map, length, take, Option, None, ℤ, pos, refl, sym, ap, ◌∙◌, arith, add-one}
use Rattle.std.specs.List.{range_with_len}
use Rattle.std.proofs.lemmas.List.{append_assoc, append-nil, take_more}
use Rattle.std.proofs.lemmas.List.FromFn.{map-range_with_len_more}
use Rattle.gap_base.specs.declared.witness.Witness.{Witness}
use Rattle.gap_base.specs.Markets.{rho_of}
use Rattle.gap_base.specs.Sums.{at}
use Rattle.gap_instance.specs.Instances.{InstanceValue}
use Rattle.gap_psd.specs.Shifts.{ShiftValue, r_of}
use Rattle.gap_cert.specs.declared.field.Field.{Field}
use Rattle.gap_cert.specs.declared.field.Field.TheVariants as field
use Rattle.gap_cert.specs.declared.field.Version.TheVariants.{Two}
use Rattle.gap_cert.specs.Bytes.{be, signed_be}
use Rattle.gap_cert.specs.Fields.{bytes_of}
use Rattle.gap_cert.specs.Certificates.{AssetLine, CertHead, asset_field, head_fields, spelled}
use Rattle.gap_valid.specs.HeadOf.{asset_line, pairs_below, rows_below, head_of}
use Rattle.gap_writer.specs.HeadBytes.{line_bytes, lines_bytes, numbers_bytes}
use Rattle.gap_writer.specs.Writing.{last_of}

lines_more : (xs : List AssetLine) (a : AssetLine) → lines_bytes (xs ++ a ∷ []) ≡ lines_bytes xs ++ line_bytes a
unfolding lines_bytes
lines_more [] a = append-nil (line_bytes a)
lines_more (x ∷ xs) a = ap (λ (b : List ℕ). line_bytes x ++ b) (lines_more xs a) ∙ sym (append_assoc (line_bytes x) (lines_bytes xs) (line_bytes a))

numbers_both : (k : ℕ) (xs ys : List ℤ) → numbers_bytes k (xs ++ ys) ≡ numbers_bytes k xs ++ numbers_bytes k ys
unfolding numbers_bytes
numbers_both k [] ys = refl
numbers_both k (x ∷ xs) ys = ap (λ (b : List ℕ). signed_be k x ++ b) (numbers_both k xs ys) ∙ sym (append_assoc (signed_be k x) (numbers_bytes k xs) (numbers_bytes k ys))

numbers_one : (k : ℕ) (z : ℤ) → numbers_bytes k (z ∷ []) ≡ signed_be k z
unfolding numbers_bytes
numbers_one k z = append-nil (signed_be k z)

pub no_lines : (out : List ℕ) → out ≡ out ++ lines_bytes []
unfolding lines_bytes
no_lines out = sym (append-nil out)

pub no_numbers : (k : ℕ) (out : List ℕ) → out ≡ out ++ numbers_bytes k []
unfolding numbers_bytes
no_numbers k out = sym (append-nil out)

onto : (base out new more all : List ℕ) (piece : List ℕ) → out ≡ base ++ more → new ≡ out ++ piece → more ++ piece ≡ all → new ≡ base ++ all
onto base out new more all piece o n e = n ∙ ap (λ (b : List ℕ). b ++ piece) o ∙ append_assoc base more piece ∙ ap (λ (b : List ℕ). base ++ b) e

-- one more line
pub lines_on : (I : InstanceValue) (base out new : List ℕ) (i : ℕ) → out ≡ base ++ lines_bytes (map (asset_line I) (range_with_len 0 i)) → new ≡ out ++ line_bytes (asset_line I i) → new ≡ base ++ lines_bytes (map (asset_line I) (range_with_len 0 (i + 1)))
lines_on I base out new i o n =
    let more = map (asset_line I) (range_with_len 0 i) in
    onto base out new (lines_bytes more) (lines_bytes (map (asset_line I) (range_with_len 0 (i + 1)))) (line_bytes (asset_line I i)) o n
    (sym (ap lines_bytes (map-range_with_len_more (asset_line I) 0 i i (omega arith)) ∙ lines_more more (asset_line I i)))

-- one more number
pub numbers_on : (k : ℕ) (f : ℕ → ℤ) (a m j next : ℕ) (base out new : List ℕ) (z : ℤ) → a + m ≡ j → next ≡ m + 1 → z ≡ f j →
    out ≡ base ++ numbers_bytes k (map f (range_with_len a m)) → new ≡ out ++ signed_be k z → new ≡ base ++ numbers_bytes k (map f (range_with_len a next))
numbers_on k f a m j next base out new z p q e o n =
    let more = map f (range_with_len a m) in
    onto base out new (numbers_bytes k more) (numbers_bytes k (map f (range_with_len a next))) (signed_be k (f j)) o (n ∙ ap (λ (y : ℤ). out ++ signed_be k y) e)
    (sym (ap (λ (l : ℕ). numbers_bytes k (map f (range_with_len a l))) q ∙ ap (numbers_bytes k) (map-range_with_len_more f a m j p) ∙ numbers_both k more (f j ∷ []) ∙ ap (λ (b : List ℕ). numbers_bytes k more ++ b) (numbers_one k (f j))))

pub pairs_none : (n : ℕ) (f : ℕ → ℕ → ℤ) (out : List ℕ) → out ≡ out ++ numbers_bytes 4 (pairs_below n f 0)
unfolding pairs_below
pairs_none n f out = no_numbers 4 out

pairs_next : (n : ℕ) (f : ℕ → ℕ → ℤ) (i : ℕ) → numbers_bytes 4 (pairs_below n f (suc i)) ≡ numbers_bytes 4 (pairs_below n f i) ++ numbers_bytes 4 (map (f i) (range_with_len (suc i) (n - suc i)))
unfolding pairs_below
pairs_next n f i = numbers_both 4 (pairs_below n f i) (map (f i) (range_with_len (suc i) (n - suc i)))

-- the pairs of one more asset
pub pairs_on : (n : ℕ) (f : ℕ → ℕ → ℤ) (i : ℕ) (base out new : List ℕ) → out ≡ base ++ numbers_bytes 4 (pairs_below n f i) → new ≡ out ++ numbers_bytes 4 (map (f i) (range_with_len (suc i) (n - suc i))) → new ≡ base ++ numbers_bytes 4 (pairs_below n f (i + 1))
pairs_on n f i base out new o e =
    onto base out new (numbers_bytes 4 (pairs_below n f i)) (numbers_bytes 4 (pairs_below n f (i + 1))) (numbers_bytes 4 (map (f i) (range_with_len (suc i) (n - suc i)))) o e
    (sym (ap (λ (k : ℕ). numbers_bytes 4 (pairs_below n f k)) (add-one i) ∙ pairs_next n f i))

pub rows_none : (f : ℕ → ℕ → ℤ) (out : List ℕ) → out ≡ out ++ numbers_bytes 8 (rows_below f 0)
unfolding rows_below
rows_none f out = no_numbers 8 out

rows_next : (f : ℕ → ℕ → ℤ) (i : ℕ) → numbers_bytes 8 (rows_below f (suc i)) ≡ numbers_bytes 8 (rows_below f i) ++ numbers_bytes 8 (map (f i) (range_with_len 0 (suc i)))
unfolding rows_below
rows_next f i = numbers_both 8 (rows_below f i) (map (f i) (range_with_len 0 (suc i)))

-- one more row
pub rows_on : (f : ℕ → ℕ → ℤ) (i : ℕ) (base out new : List ℕ) → out ≡ base ++ numbers_bytes 8 (rows_below f i) → new ≡ out ++ numbers_bytes 8 (map (f i) (range_with_len 0 (suc i))) → new ≡ base ++ numbers_bytes 8 (rows_below f (i + 1))
rows_on f i base out new o e =
    onto base out new (numbers_bytes 8 (rows_below f i)) (numbers_bytes 8 (rows_below f (i + 1))) (numbers_bytes 8 (map (f i) (range_with_len 0 (suc i)))) o e
    (sym (ap (λ (k : ℕ). numbers_bytes 8 (rows_below f k)) (add-one i) ∙ rows_next f i))

-- one more number of the diagonal
pub diagonal_on : (xs : List ℤ) (i : ℕ) (base out new : List ℕ) (z : ℤ) → i < length xs → z ≡ at xs i → out ≡ base ++ numbers_bytes 16 (take i xs) → new ≡ out ++ signed_be 16 z → new ≡ base ++ numbers_bytes 16 (take (i + 1) xs)
diagonal_on xs i base out new z h e o n =
    onto base out new (numbers_bytes 16 (take i xs)) (numbers_bytes 16 (take (i + 1) xs)) (signed_be 16 (at xs i)) o (n ∙ ap (λ (y : ℤ). out ++ signed_be 16 y) e)
    (sym (ap (numbers_bytes 16) (take_more xs i (pos 0) h) ∙ numbers_both 16 (take i xs) (at xs i ∷ []) ∙ ap (λ (b : List ℕ). numbers_bytes 16 (take i xs) ++ b) (numbers_one 16 (at xs i))))

-- ---- the items of a head are spelled so
lines_spelled : (last : Option Witness) (lines : List AssetLine) (more : List Field) → (spelled Two last (map asset_field lines ++ more) ≡ lines_bytes lines ++ spelled Two last more) × (last_of last (map asset_field lines ++ more) ≡ last_of last more)
unfolding spelled lines_bytes
lines_spelled last [] more = (refl, refl)
lines_spelled last (a ∷ lines) more = let r = lines_spelled last lines more in (ap (λ (b : List ℕ). line_bytes a ++ b) r.0 ∙ sym (append_assoc (line_bytes a) (lines_bytes lines) (spelled Two last more)), r.1)

rhos_spelled : (last : Option Witness) (zs : List ℤ) (more : List Field) → (spelled Two last (map field.Correlation zs ++ more) ≡ numbers_bytes 4 zs ++ spelled Two last more) × (last_of last (map field.Correlation zs ++ more) ≡ last_of last more)
unfolding spelled numbers_bytes
rhos_spelled last [] more = (refl, refl)
rhos_spelled last (z ∷ zs) more = let r = rhos_spelled last zs more in (ap (λ (b : List ℕ). signed_be 4 z ++ b) r.0 ∙ sym (append_assoc (signed_be 4 z) (numbers_bytes 4 zs) (spelled Two last more)), r.1)

factors_spelled : (last : Option Witness) (zs : List ℤ) (more : List Field) → (spelled Two last (map field.FactorEntry zs ++ more) ≡ numbers_bytes 8 zs ++ spelled Two last more) × (last_of last (map field.FactorEntry zs ++ more) ≡ last_of last more)
unfolding spelled numbers_bytes
factors_spelled last [] more = (refl, refl)
factors_spelled last (z ∷ zs) more = let r = factors_spelled last zs more in (ap (λ (b : List ℕ). signed_be 8 z ++ b) r.0 ∙ sym (append_assoc (signed_be 8 z) (numbers_bytes 8 zs) (spelled Two last more)), r.1)

shifts_spelled : (last : Option Witness) (zs : List ℤ) (more : List Field) → (spelled Two last (map field.ShiftEntry zs ++ more) ≡ numbers_bytes 16 zs ++ spelled Two last more) × (last_of last (map field.ShiftEntry zs ++ more) ≡ last_of last more)
unfolding spelled numbers_bytes
shifts_spelled last [] more = (refl, refl)
shifts_spelled last (z ∷ zs) more = let r = shifts_spelled last zs more in (ap (λ (b : List ℕ). signed_be 16 z ++ b) r.0 ∙ sym (append_assoc (signed_be 16 z) (numbers_bytes 16 zs) (spelled Two last more)), r.1)

one_spelled : (last : Option Witness) (k : ℕ) → spelled Two last (field.Sections k ∷ []) ≡ be 1 k
unfolding spelled
one_spelled last k = append-nil (be 1 k)

regrouped : (a b c d e : List Field) → (((a ++ b) ++ c) ++ d) ++ e ≡ a ++ (b ++ (c ++ (d ++ e)))
regrouped a b c d e = simp append_assoc

abbrev behind_head : CertHead → ℕ → List Field
behind_head h k = map asset_field h.assets ++ (map field.Correlation h.correlations ++ (map field.FactorEntry h.factor ++ (map field.ShiftEntry h.diagonal ++ field.Sections k ∷ [])))

abbrev behind_bytes : CertHead → ℕ → List ℕ
behind_bytes h k = lines_bytes h.assets ++ (numbers_bytes 4 h.correlations ++ (numbers_bytes 8 h.factor ++ (numbers_bytes 16 h.diagonal ++ be 1 k)))

abbrev first_of : CertHead → Field
first_of h = field.Head h.n h.lots h.held h.held_most h.turnover h.nodes

fields_are : (h : CertHead) (k : ℕ) → head_fields h ++ field.Sections k ∷ [] ≡ first_of h ∷ behind_head h k
unfolding head_fields
fields_are h k = ap (λ (l : List Field). first_of h ∷ l) (regrouped (map asset_field h.assets) (map field.Correlation h.correlations) (map field.FactorEntry h.factor) (map field.ShiftEntry h.diagonal) (field.Sections k ∷ []))

behind_spelled : (h : CertHead) (k : ℕ) (last : Option Witness) → (spelled Two last (behind_head h k) ≡ behind_bytes h k) × (last_of last (behind_head h k) ≡ last)
behind_spelled h k last =
    let d = shifts_spelled last h.diagonal (field.Sections k ∷ []) in
    let c = factors_spelled last h.factor (map field.ShiftEntry h.diagonal ++ field.Sections k ∷ []) in
    let b = rhos_spelled last h.correlations (map field.FactorEntry h.factor ++ (map field.ShiftEntry h.diagonal ++ field.Sections k ∷ [])) in
    let a = lines_spelled last h.assets (map field.Correlation h.correlations ++ (map field.FactorEntry h.factor ++ (map field.ShiftEntry h.diagonal ++ field.Sections k ∷ []))) in (
      a.0 ∙ ap (λ (x : List ℕ). lines_bytes h.assets ++ x) (b.0 ∙ ap (λ (x : List ℕ). numbers_bytes 4 h.correlations ++ x) (c.0 ∙ ap (λ (x : List ℕ). numbers_bytes 8 h.factor ++ x) (d.0 ∙ ap (λ (x : List ℕ). numbers_bytes 16 h.diagonal ++ x) (one_spelled last k)))),
      a.1 ∙ b.1 ∙ c.1 ∙ d.1,
    )

pub head_spelled : (h : CertHead) (k : ℕ) (last : Option Witness) → spelled Two last (head_fields h ++ field.Sections k ∷ []) ≡ bytes_of Two None (first_of h) ++ behind_bytes h k
unfolding spelled
head_spelled h k last = ap (spelled Two last) (fields_are h k) ∙ ap (λ (x : List ℕ). bytes_of Two None (first_of h) ++ x) (behind_spelled h k last).0

pub head_last : (h : CertHead) (k : ℕ) (last : Option Witness) → last_of last (head_fields h ++ field.Sections k ∷ []) ≡ last
head_last h k last = ap (last_of last) (fields_are h k) ∙ (behind_spelled h k last).1

six : (o a b c d e f : List ℕ) → (((((o ++ a) ++ b) ++ c) ++ d) ++ e) ++ f ≡ o ++ (a ++ (b ++ (c ++ (d ++ (e ++ f)))))
six o a b c d e f = simp append_assoc

-- the pieces of a head are its spelling
pub headed : (I : InstanceValue) (S : ShiftValue) (nodes k : ℕ) (last : Option Witness) (out : List ℕ) →
    (((((out ++ bytes_of Two None (first_of (head_of I S nodes))) ++ lines_bytes (head_of I S nodes).assets) ++ numbers_bytes 4 (head_of I S nodes).correlations) ++ numbers_bytes 8 (head_of I S nodes).factor) ++ numbers_bytes 16 (head_of I S nodes).diagonal) ++ be 1 k
    ≡ out ++ spelled Two last (head_fields (head_of I S nodes) ++ field.Sections k ∷ [])
headed I S nodes k last out =
    let h = head_of I S nodes in
    six out (bytes_of Two None (first_of h)) (lines_bytes h.assets) (numbers_bytes 4 h.correlations) (numbers_bytes 8 h.factor) (numbers_bytes 16 h.diagonal) (be 1 k)
    ∙ ap (λ (x : List ℕ). out ++ x) (sym (head_spelled h k last))

pub assembled : (I : InstanceValue) (S : ShiftValue) (nodes k n lots held most : ℕ) (turnover : Option ℕ) → S.assets ≡ I.market.assets →
    n ≡ I.market.assets → lots ≡ I.lots → held ≡ I.held → most ≡ I.held_most → turnover ≡ I.turnover →
    (base a b c d e new : List ℕ) →
    a ≡ base ++ bytes_of Two None (field.Head n lots held most turnover nodes) →
    b ≡ a ++ lines_bytes (map (asset_line I) (range_with_len 0 I.market.assets)) →
    c ≡ b ++ numbers_bytes 4 (pairs_below I.market.assets (rho_of I.market) I.market.assets) →
    d ≡ c ++ numbers_bytes 8 (rows_below (r_of S) S.assets) →
    e ≡ d ++ numbers_bytes 16 S.diagonal →
    new ≡ e ++ be 1 k →
    (last : Option Witness) → new ≡ base ++ spelled Two last (head_fields (head_of I S nodes) ++ field.Sections k ∷ [])
unfolding head_of
assembled I S nodes k n lots held most turnover same en el eh em et base a b c d e new pa pb pc pd pe pn last =
    let lines = lines_bytes (map (asset_line I) (range_with_len 0 I.market.assets)) in
    let pairs = numbers_bytes 4 (pairs_below I.market.assets (rho_of I.market) I.market.assets) in
    let rows = numbers_bytes 8 (rows_below (r_of S) I.market.assets) in
    let ds = numbers_bytes 16 S.diagonal in
    let first : a ≡ base ++ bytes_of Two None (field.Head I.market.assets I.lots I.held I.held_most I.turnover nodes) = rw (en, el, eh, em, et) at pa in
    let rows_are : d ≡ c ++ rows = pd ∙ ap (λ (m : ℕ). c ++ numbers_bytes 8 (rows_below (r_of S) m)) same in
    pn ∙ ap (λ (x : List ℕ). x ++ be 1 k) (pe ∙ ap (λ (x : List ℕ). x ++ ds) (rows_are ∙ ap (λ (x : List ℕ). x ++ rows) (pc ∙ ap (λ (x : List ℕ). x ++ pairs) (pb ∙ ap (λ (x : List ℕ). x ++ lines) first))))
    ∙ headed I S nodes k last base
