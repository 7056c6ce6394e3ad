-- What was read stays as it was where more bytes come.
use Rattle.std.proofs.Common.{◌≡◌, ℕ, zero, suc, ◌+◌, ◌≤◌, ◌&&◌, if◌then◌else◌, Bool, true, false, nat_lt, nat_le, int_le, List, [], ◌∷◌, ◌++◌, length, take, drop, Option, Some, None, Result, Ok, Err, ℤ, refl, sym, ap, ◌∙◌, arith}
use Rattle.std.proofs.lemmas.Bool.Decides.{nat_tests}
use Rattle.std.proofs.lemmas.List.{length-append, take-append-le}
use Rattle.gap_model.specs.declared.cert_fault.CertFault.{CertFault}
use Rattle.gap_model.specs.declared.cert_fault.CertKind.{CertKind}
use Rattle.gap_model.specs.declared.cert_fault.CertKind.TheVariants.{Range}
use Rattle.gap_cert.specs.declared.field.Group.{Group}
use Rattle.gap_cert.specs.declared.field.Stop.{Stop}
use Rattle.gap_cert.specs.declared.field.Stop.TheVariants.{More, Fault}
use Rattle.gap_cert.specs.Bytes.{value_of, signed_from}
use Rattle.gap_cert.specs.Formats.{Format, natural, signed, guard, says, Spot, read, natural_at, signed_at, behind, fault_here, Spells, ◌>>=◌}
use Rattle.gap_cert.specs.Contexts.{format_of}
use Rattle.gap_cert.proofs.FormatLaws.{reads}
use Rattle.gap_scan.specs.Scans.{Scan, next_of, next_by, answered, fed_more}

-- a spot with more bytes behind it
abbrev longer : Spot → List ℕ → Spot
longer s more = record s { rest = s.rest ++ more }

-- what was read, where more bytes stand behind it
abbrev widened : {A : Type 0} → Result (A × Spot) Stop → List ℕ → Result (A × Spot) Stop
widened (Ok r) more = Ok (r.0, longer r.1 more)
widened (Err e) more = Err e

widened_if : {A : Type 0} (b : Bool) (r : A × Spot) (e : Stop) (more : List ℕ) → (if b then Ok (r.0, longer r.1 more) else Err e) ≡ widened (if b then Ok r else Err e) more
widened_if true r e more = refl
widened_if false r e more = refl

err : {A : Type 0} → Stop → Result A Stop
err e = Err e

more_than : {A : Type 0} (b : Bool) (r : Result A Stop) → ((if b then Err More else r) ≡ Err More → ⊥) → b ≡ false
more_than true r refused = absurd (refused refl)
more_than false r refused = refl

drop-append-le : (n : ℕ) (xs ys : List ℕ) → n ≤ length xs → drop n (xs ++ ys) ≡ drop n xs ++ ys
drop-append-le zero xs ys h = refl
drop-append-le (suc n) [] ys h = absurd (omega arith)
drop-append-le (suc n) (x ∷ xs) ys h = drop-append-le n xs ys (omega arith)

not_below : (a b : ℕ) → nat_lt a b ≡ false → b ≤ a
not_below a b h = grind (arith, nat_tests)

at_least : (a b : ℕ) → b ≤ a → nat_lt a b ≡ false
at_least a b h = grind (arith, nat_tests)

natural_widened : (w : ℕ) (k : CertKind) (lo hi : ℕ) (s : Spot) (more : List ℕ) → nat_lt (length s.rest) w ≡ false → natural_at w k lo hi (longer s more) ≡ widened (natural_at w k lo hi s) more
unfolding natural_at
natural_widened w k lo hi s more e =
    let h = not_below (length s.rest) w e in
    let l = length-append s.rest more in
    let f : nat_lt (length (s.rest ++ more)) w ≡ false = at_least (length (s.rest ++ more)) w (omega (arith, l)) in
    let t = take-append-le w s.rest more h in
    let d = drop-append-le w s.rest more h in
    rw e (rw f (rw t (rw d (widened_if (nat_le lo (value_of (take w s.rest)) && nat_le (value_of (take w s.rest)) hi) (value_of (take w s.rest), behind w s) (fault_here k s) more))))

signed_widened : (w : ℕ) (lo hi : ℤ) (s : Spot) (more : List ℕ) → nat_lt (length s.rest) w ≡ false → signed_at w lo hi (longer s more) ≡ widened (signed_at w lo hi s) more
unfolding signed_at
signed_widened w lo hi s more e =
    let h = not_below (length s.rest) w e in
    let l = length-append s.rest more in
    let f : nat_lt (length (s.rest ++ more)) w ≡ false = at_least (length (s.rest ++ more)) w (omega (arith, l)) in
    let t = take-append-le w s.rest more h in
    let d = drop-append-le w s.rest more h in
    let n = signed_from w (value_of (take w s.rest)) in
    rw e (rw f (rw t (rw d (widened_if (int_le lo n && int_le n hi) (n, behind w s) (fault_here Range s) more))))

short_natural : (w : ℕ) (k : CertKind) (lo hi : ℕ) (s : Spot) → nat_lt (length s.rest) w ≡ true → natural_at w k lo hi s ≡ Err More
unfolding natural_at
short_natural w k lo hi s e = rw e refl

short_signed : (w : ℕ) (lo hi : ℤ) (s : Spot) → nat_lt (length s.rest) w ≡ true → signed_at w lo hi s ≡ Err More
unfolding signed_at
short_signed w lo hi s e = rw e refl

test_is : (b : Bool) → (b ≡ true → ⊥) → b ≡ false
test_is true refused = absurd (refused refl)
test_is false refused = refl

stopped : {A B : Type 0} (m : Result A Stop) (f : A → Result B Stop) (e : Stop) → m ≡ Err e → (m >>= f) ≡ Err e
stopped m f e h = rw h refl

bind_widened : {A : Type 0} (m n : Result (A × Spot) Stop) (f : A × Spot → Result (Group × Spot) Stop) (more : List ℕ) → n ≡ widened m more → ((m >>= f) ≡ Err More → ⊥) →
    ((a : A × Spot) → (f a ≡ Err More → ⊥) → f (a.0, longer a.1 more) ≡ widened (f a) more) → (n >>= f) ≡ widened (m >>= f) more
bind_widened (Ok a) n f more e refused g = rw e (g a refused)
bind_widened (Err x) n f more e refused g = rw e refl

-- a group or a fault that was read stays, whatever bytes come behind
pub read_more : (F : Format) (s : Spot) (more : List ℕ) → (read F s ≡ Err More → ⊥) → read F (longer s more) ≡ widened (read F s) more
read_more (natural w k lo hi next) s more refused =
    let b = test_is (nat_lt (length s.rest) w) (λ h. refused (stopped (natural_at w k lo hi s) (λ r. read (next r.0) r.1) More (short_natural w k lo hi s h))) in
    bind_widened (natural_at w k lo hi s) (natural_at w k lo hi (longer s more)) (λ r. read (next r.0) r.1) more (natural_widened w k lo hi s more b) refused (λ a n. read_more (next a.0) a.1 more n)
read_more (signed w lo hi next) s more refused =
    let b = test_is (nat_lt (length s.rest) w) (λ h. refused (stopped (signed_at w lo hi s) (λ r. read (next r.0) r.1) More (short_signed w lo hi s h))) in
    bind_widened (signed_at w lo hi s) (signed_at w lo hi (longer s more)) (λ r. read (next r.0) r.1) more (signed_widened w lo hi s more b) refused (λ a n. read_more (next a.0) a.1 more n)
read_more (guard true back k F) s more refused = read_more F s more refused
read_more (guard false back k F) s more refused = refl
read_more (says said) s more refused = refl

-- a scanner's answer, by what was read
given_more : (s : Scan) (more : List ℕ) (m n : Result (Group × Spot) Stop) → n ≡ widened m more → ((answered s m).answer ≡ Ok None → ⊥) → answered (fed_more s more) n ≡ record { answer = (answered s m).answer; stands = fed_more (answered s m).stands more }
given_more s more (Ok r) n e refused = rw e refl
given_more s more (Err More) n e refused = absurd (refused refl)
given_more s more (Err (Fault f)) n e refused = rw e refl

none_of : (s : Scan) (m : Result (Group × Spot) Stop) → m ≡ Err More → (answered s m).answer ≡ Ok None
none_of s m e = rw e refl

by_fault : (s : Scan) (f : Option CertFault) (more : List ℕ) → ((next_by s f).answer ≡ Ok None → ⊥) → next_by (fed_more s more) f ≡ record { answer = (next_by s f).answer; stands = fed_more (next_by s f).stands more }
by_fault s (Some f) more refused = refl
by_fault s None more refused =
    let F = format_of s.context s.context.phase in
    let spot : Spot = record { place = s.place; rest = s.rest } in
    given_more s more (read F spot) (read F (longer spot more)) (read_more F spot more (λ h. refused (none_of s (read F spot) h))) refused

-- an item or a fault that is answered is answered too where more bytes were fed before
pub answers_stay : (s : Scan) (more : List ℕ) → ((next_of s).answer ≡ Ok None → ⊥) → next_of (fed_more s more) ≡ record { answer = (next_of s).answer; stands = fed_more (next_of s).stands more }
unfolding next_of
answers_stay s more refused = by_fault s s.fault more refused

-- what was read where nothing is answered
read_short : (s : Scan) (m : Result (Group × Spot) Stop) (r : Group × Spot) → (answered s m).answer ≡ Ok None → m ≡ Ok r → ⊥
read_short s m r h e = let k : (answered s (Ok r)).answer ≡ Ok None = sym (ap (λ (n : Result (Group × Spot) Stop). (answered s n).answer) e) ∙ h in cc

by_none : (s : Scan) (f : Option CertFault) (r : Group × Spot) → (next_by s f).answer ≡ Ok None → read (format_of s.context s.context.phase) (record { place = s.place; rest = s.rest }) ≡ Ok r → ⊥
by_none s (Some f) r h e = cc
by_none s None r h e = read_short s (read (format_of s.context s.context.phase) (record { place = s.place; rest = s.rest })) r h e

-- where nothing is answered refused group is spelled
pub none_spelled : (s : Scan) (g : Group) (front behind : List ℕ) → (next_of s).answer ≡ Ok None → Spells (format_of s.context s.context.phase) g front → s.rest ≡ front ++ behind → ⊥
unfolding next_of
none_spelled s g front behind h sp e =
    let F = format_of s.context s.context.phase in
    let r = reads F g front behind s.place (s.place + length front) sp refl in
    by_none s s.fault (g, record { place = s.place + length front; rest = behind }) h (ap (λ (l : List ℕ). read F (record { place = s.place; rest = l })) e ∙ r)
