-- Numbers and entries are written as their bytes.
use Rattle.std.proofs.Common.{◌≡◌, ℕ, zero, suc, ◌+◌, ◌*◌, ◌-◌, ◌/◌, ◌%◌, ◌^◌, ◌<◌, ◌≤◌, Bool, true, false, cond, ltb, nat_lt, List, [], ◌∷◌, ◌++◌, length, drop, slice_index_or, Option, None, ℤ, pos, negsuc, to_z, of_z, refl, sym, ap, ◌∙◌, arith, add-one}
use Rattle.std.proofs.Math.Nat.{add-mul, mul_assoc, mul_comm, pow-succ', div-one, mod-eq_of_lt}
use Rattle.std.proofs.Math.Facts.{Fits-of_z}
use Rattle.std.proofs.lemmas.Nat.{div-add-mod', mod_below, mul-add-lt, div-mul-add, mod-mul-add}
use mir.Val.{bits}
use Rattle.std.specs.Int.RustNames.{FitsSigned}
use Rattle.std.specs.Int.{Width, byte_at, bytes_high_first}
use Rattle.std.proofs.lemmas.List.{append_assoc, append-nil}
use Rattle.std.proofs.lemmas.List.Sums.{sum_by-cons}
use Rattle.std.proofs.lemmas.Int.{to_z-of_z}
use Rattle.gap_box.specs.Parts.{held_count}
use Rattle.gap_cert.specs.Bytes.{be, full, raw_of, signed_be}
use Rattle.gap_cert.specs.declared.field.Version.TheVariants.{Two}
use Rattle.gap_cert.specs.Fields.{entry_bytes, mark, mark_bytes, version_byte}
use Rattle.gap_cert.proofs.Numbers.{full_pos}
use Rattle.gap_base.specs.declared.weight.Weight.{Weight}
use Rattle.gap_base.specs.declared.witness.Witness.{Witness}
use Rattle.gap_cert.specs.Certificates.{CertClaim, closed, none, open_at, unfound, claim_number, opening_fields, spelled}
use Rattle.gap_writer.specs.Pieces.{one_entry, one_held, start_bytes, claim_bytes}
use Rattle.gap_writer.specs.Writing.{last_of}

full_pow : (k : ℕ) → full k ≡ 256 ^ k
unfolding full
full_pow zero = refl
full_pow (suc k) = ap (λ (f : ℕ). 256 * f) (full_pow k) ∙ sym (pow-succ' 256 k)

byte_is : (k n : ℕ) → byte_at k n ≡ n / full k % 256
unfolding full
byte_is zero n = ap (λ (m : ℕ). m % 256) (sym (div-one n))
byte_is (suc i) n = ap (λ (f : ℕ). n / f % 256) (sym (full_pow (suc i)))

-- a number by what is above 256 F, the byte above F, and what is below
placed : (a b f v : ℕ) → (a * 256 + b) * f + v ≡ a * (256 * f) + (b * f + v)
placed a b f v = let e = add-mul (a * 256) b f in let m = mul_assoc a 256 f in omega (arith, e, m)

whole : (F n : ℕ) → n ≡ n / F / 256 * (256 * F) + (n / F % 256 * F + n % F)
whole F n = sym (sym (placed (n / F / 256) (n / F % 256) F (n % F)) ∙ ap (λ (v : ℕ). v * F + n % F) (div-add-mod' (n / F) 256) ∙ div-add-mod' n F)

below : (F n : ℕ) → 0 < F → n / F % 256 * F + n % F < 256 * F
below F n p =
    let s = mul-add-lt (n / F % 256) F (n % F) 256 (mod_below (n / F) 256 (omega arith)) (mod_below n F p) in
    let m = mul_comm F 256 in
    omega (arith, s, m)

parts : (F n : ℕ) → 0 < F → n % (256 * F) ≡ n / F % 256 * F + n % F
parts F n p = ap (λ (v : ℕ). v % (256 * F)) (whole F n) ∙ mod-mul-add (n / F / 256) (256 * F) (n / F % 256 * F + n % F) (below F n p)

byte_above : (F n : ℕ) → 0 < F → n % (256 * F) / F ≡ n / F % 256
byte_above F n p = ap (λ (v : ℕ). v / F) (parts F n p) ∙ div-mul-add (n / F % 256) F (n % F) (mod_below n F p)

rest_below : (F n : ℕ) → 0 < F → n % (256 * F) % F ≡ n % F
rest_below F n p = ap (λ (v : ℕ). v % F) (parts F n p) ∙ mod-mul-add (n / F % 256) F (n % F) (mod_below n F p)

high_first : (k n : ℕ) → bytes_high_first k n ≡ be k (n % full k)
unfolding be full
high_first zero n = refl
high_first (suc k) n =
    ap (λ (b : ℕ). b ∷ bytes_high_first k n) (byte_is k n ∙ sym (byte_above (full k) n (full_pos k)))
    ∙ ap (λ (bs : List ℕ). n % (256 * full k) / full k ∷ bs) (high_first k n ∙ ap (be k) (sym (rest_below (full k) n (full_pos k))))

-- the lowest bytes of a number that has no more are its bytes
pub high_is : (k n : ℕ) → n < full k → bytes_high_first k n ≡ be k n
high_is k n h = high_first k n ∙ ap (be k) (mod-eq_of_lt h)

pub one_byte : (v : ℕ) → be 1 v ≡ v ∷ []
unfolding be full
one_byte v = ap (λ (b : ℕ). b ∷ []) (div-one v)

-- the first bytes
pub mark_is : mark_bytes mark ++ be 1 (version_byte Two) ≡ 71 ∷ 65 ∷ 80 ∷ 67 ∷ 69 ∷ 82 ∷ 84 ∷ 50 ∷ []
unfolding be full
mark_is = refl

pub two_bytes : (v : ℕ) → v < 2 ^ 16 → bytes_high_first 2 v ≡ be 2 v
unfolding full
two_bytes v h = high_is 2 v h

pub four_bytes : (v : ℕ) → v < 2 ^ 32 → bytes_high_first 4 v ≡ be 4 v
unfolding full
four_bytes v h = high_is 4 v h

raw_same : (w : Width) (k : ℕ) (z : ℤ) → full k ≡ 2 ^ bits w → of_z w z ≡ raw_of k z
unfolding raw_of
raw_same w k (pos n) e = refl
raw_same w k (negsuc n) e = ap (λ (p : ℕ). p - suc n) (sym e)

-- a signed number as its bytes
signed_bytes : (w : Width) (k : ℕ) (z : ℤ) → full k ≡ 2 ^ bits w → FitsSigned w z → bytes_high_first k (of_z w z) ≡ signed_be k z
signed_bytes w k z e f = high_is k (of_z w z) (rw e (Fits-of_z f).fits) ∙ ap (be k) (raw_same w k z e)

-- the same of a machine number
pub machine_bytes : (w : Width) (k : ℕ) (z : ℤ) → full k ≡ 2 ^ bits w → FitsSigned w z → bytes_high_first k (of_z w (to_z w (of_z w z))) ≡ signed_be k z
machine_bytes w k z e f = ap (λ (y : ℤ). bytes_high_first k (of_z w y)) (to_z-of_z w z f) ∙ signed_bytes w k z e f

-- ---- entries, one after another
first_entry : (b : Bool) (xs more : List ℕ) → cond b (xs ++ more) more ≡ cond b xs [] ++ more
first_entry true xs more = refl
first_entry false xs more = refl

entry_at : (width asset : ℕ) (x : List ℕ) (i : ℕ) → i < length x → entry_bytes width asset (drop i x) ≡ one_entry width asset (slice_index_or x i 0) ++ entry_bytes width (suc asset) (drop (suc i) x)
unfolding entry_bytes
entry_at width asset [] i h = absurd (omega arith)
entry_at width asset (v ∷ x) zero h = first_entry (nat_lt 0 v) (be 2 asset ++ be width v) (entry_bytes width (suc asset) x)
entry_at width asset (v ∷ x) (suc i) h = entry_at width asset x i (omega arith)

-- the entries from a place on are that of its asset and those behind it
pub entries_step : (width : ℕ) (x : List ℕ) (i : ℕ) → i < length x → entry_bytes width (i + 1) (drop i x) ≡ one_entry width (i + 1) (slice_index_or x i 0) ++ entry_bytes width (i + 1 + 1) (drop (i + 1) x)
entries_step width x i h = rw (add-one i, add-one (suc i)) (entry_at width (suc i) x i h)

pub entries_end : (width asset : ℕ) (x : List ℕ) (i : ℕ) → length x ≤ i → entry_bytes width asset (drop i x) ≡ []
unfolding entry_bytes
entries_end width asset [] zero h = refl
entries_end width asset [] (suc i) h = refl
entries_end width asset (v ∷ x) zero h = absurd (omega arith)
entries_end width asset (v ∷ x) (suc i) h = entries_end width asset x i (omega arith)

-- the entries so far, with one more
pub entries_on : (width : ℕ) (x out new rest : List ℕ) (i v : ℕ) → i < length x → v ≡ slice_index_or x i 0 → new ≡ out ++ one_entry width (i + 1) v → out ++ entry_bytes width (i + 1) (drop i x) ≡ rest → new ++ entry_bytes width (i + 1 + 1) (drop (i + 1) x) ≡ rest
entries_on width x out new rest i v h e n r =
    ap (λ (bs : List ℕ). bs ++ entry_bytes width (i + 1 + 1) (drop (i + 1) x)) (n ∙ ap (λ (u : ℕ). out ++ one_entry width (i + 1) u) e)
    ∙ append_assoc out (one_entry width (i + 1) (slice_index_or x i 0)) (entry_bytes width (i + 1 + 1) (drop (i + 1) x))
    ∙ ap (λ (bs : List ℕ). out ++ bs) (sym (entries_step width x i h)) ∙ r

pub entries_over : (width : ℕ) (x out rest : List ℕ) (i : ℕ) → length x ≤ i → out ++ entry_bytes width (i + 1) (drop i x) ≡ rest → out ≡ rest
entries_over width x out rest i h r = sym (append-nil out) ∙ ap (λ (bs : List ℕ). out ++ bs) (sym (entries_end width (i + 1) x i h)) ∙ r

-- ---- how many entries there are
count_at : (x : List ℕ) (i : ℕ) → i < length x → held_count (drop i x) ≡ one_held (slice_index_or x i 0) + held_count (drop (suc i) x)
count_at [] i h = absurd (omega arith)
count_at (v ∷ x) zero h = sum_by-cons (λ (n : ℕ). cond (ltb 0 n) 1 0) v x
count_at (v ∷ x) (suc i) h = count_at x i (omega arith)

pub count_step : (x : List ℕ) (i : ℕ) → i < length x → held_count (drop i x) ≡ one_held (slice_index_or x i 0) + held_count (drop (i + 1) x)
count_step x i h = rw add-one (count_at x i h)

pub count_end : (x : List ℕ) (i : ℕ) → length x ≤ i → held_count (drop i x) ≡ 0
count_end [] zero h = refl
count_end [] (suc i) h = refl
count_end (v ∷ x) zero h = absurd (omega arith)
count_end (v ∷ x) (suc i) h = count_end x i (omega arith)

-- the numbers counted so far, with one more
pub count_on : (x : List ℕ) (i count one total : ℕ) → i < length x → one ≡ one_held (slice_index_or x i 0) → count + held_count (drop i x) ≡ total → count + one + held_count (drop (i + 1) x) ≡ total
count_on x i count one total h e s = let c = count_step x i h in omega (arith, c, e, s)

pub count_over : (x : List ℕ) (i count total : ℕ) → length x ≤ i → count + held_count (drop i x) ≡ total → count ≡ total
count_over x i count total h s = let c = count_end x i h in omega (arith, c, s)

-- ---- what a section says before its tree
opening_spelled : (last : Option Witness) (w : Weight) (claim : CertClaim) → spelled Two last (opening_fields w claim) ≡ start_bytes w (claim_number claim) ++ claim_bytes claim
unfolding spelled
opening_spelled last w (closed best overall) = simp (append_assoc, append-nil)
opening_spelled last w none = simp (append_assoc, append-nil)
opening_spelled last w (open_at best bound overall) = simp (append_assoc, append-nil)
opening_spelled last w (unfound bound overall) = simp (append_assoc, append-nil)

pub opened : (out mid new : List ℕ) (w : Weight) (claim : CertClaim) (number : ℕ) (last : Option Witness) → number ≡ claim_number claim → mid ≡ out ++ start_bytes w number → new ≡ mid ++ claim_bytes claim → new ≡ out ++ spelled Two last (opening_fields w claim)
opened out mid new w claim number last e m n =
    n ∙ ap (λ (b : List ℕ). b ++ claim_bytes claim) (m ∙ ap (λ (k : ℕ). out ++ start_bytes w k) e) ∙ append_assoc out (start_bytes w (claim_number claim)) (claim_bytes claim)
    ∙ ap (λ (b : List ℕ). out ++ b) (sym (opening_spelled last w claim))

pub opening_last : (last : Option Witness) (w : Weight) (claim : CertClaim) → last_of last (opening_fields w claim) ≡ None
opening_last last w (closed best overall) = refl
opening_last last w none = refl
opening_last last w (open_at best bound overall) = refl
opening_last last w (unfound bound overall) = refl
