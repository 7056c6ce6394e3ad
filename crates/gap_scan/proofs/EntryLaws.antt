-- Entries of lists are read one by one.
use Rattle.std.proofs.Common.{◌≡◌, ℕ, suc, ◌+◌, ◌-◌, ◌<◌, ◌≤◌, if◌then◌else◌, Bool, true, false, nat_lt, nat_le, List, slice_set, Result, Ok, Err, refl, sym, ap, ◌∙◌, arith}
use Rattle.gap_cert.specs.declared.field.Group.{Group}
use Rattle.gap_cert.specs.declared.field.Stop.{Stop}
use Rattle.gap_scan.specs.declared.groups.Entry.{Entry}
use Rattle.gap_model.specs.declared.cert_fault.CertKind.TheVariants.{Range, Order}
use Rattle.gap_cert.specs.Formats.{Format, Spot, read, natural_at, fault_back, ◌>>=◌}
use Rattle.gap_cert.specs.Contexts.{entries_format}
use Rattle.gap_scan.specs.Steps.{entry_at}

tested : {A B : Type 0} (b : Bool) (a : A) (f : Stop) (k : A → Result B Stop) → (if b then k a else Err f) ≡ ((if b then Ok a else Err f) >>= k)
tested true a f k = refl
tested false a f k = refl

tested_number : {A B C : Type 0} (m : Result C Stop) (b : C → Bool) (a : C → A) (f : C → Stop) (k : A → Result B Stop) → (m >>= λ v. (if b v then k (a v) else Err (f v))) ≡ ((m >>= λ v. (if b v then Ok (a v) else Err (f v))) >>= k)
tested_number (Ok v) b a f k = tested (b v) (a v) (f v) k
tested_number (Err e) b a f k = refl

tested_behind : {A B C : Type 0} (t : Bool) (g : Stop) (m : Result C Stop) (b : C → Bool) (a : C → A) (f : C → Stop) (k : A → Result B Stop) →
    (if t then (m >>= λ v. (if b v then k (a v) else Err (f v))) else Err g) ≡ ((if t then (m >>= λ v. (if b v then Ok (a v) else Err (f v))) else Err g) >>= k)
tested_behind true g m b a f k = tested_number m b a f k
tested_behind false g m b a f k = refl

both : {A B C D : Type 0} (n : Result D Stop) (t : D → Bool) (g : D → Stop) (m : D → Result C Stop) (b : D → C → Bool) (a : D → C → A) (f : D → C → Stop) (k : A → Result B Stop) →
    (n >>= λ u. (if t u then (m u >>= λ v. (if b u v then k (a u v) else Err (f u v))) else Err (g u))) ≡ ((n >>= λ u. (if t u then (m u >>= λ v. (if b u v then Ok (a u v) else Err (f u v))) else Err (g u))) >>= k)
both (Ok u) t g m b a f k = tested_behind (t u) (g u) (m u) (b u) (a u) (f u) k
both (Err e) t g m b a f k = refl

-- entries are one entry and then the others
one_entry : (count n w greatest most last total : ℕ) (x : List ℕ) (next : List ℕ → Format) (s : Spot) →
    read (entries_format (suc count) n w greatest most last total x next) s ≡ (entry_at n w greatest most last total s >>= λ r. read (entries_format count n w greatest most r.0.asset (total + r.0.number) (slice_set x (r.0.asset - 1) r.0.number) next) r.1)
unfolding entries_format entry_at
one_entry count n w greatest most last total x next s =
    both (natural_at 2 Range 1 n s) (λ u. nat_lt last u.0) (λ u. fault_back 2 Order u.1) (λ u. natural_at w Range 1 greatest u.1) (λ u v. nat_le (total + v.0) most)
    (λ u v. (record { asset = u.0; number = v.0 }, v.1)) (λ u v. fault_back (2 + w) Range v.1) (λ r. read (entries_format count n w greatest most r.0.asset (total + r.0.number) (slice_set x (r.0.asset - 1) r.0.number) next) r.1)

pub no_more : (n w greatest most last total : ℕ) (x : List ℕ) (next : List ℕ → Format) (s : Spot) → read (entries_format 0 n w greatest most last total x next) s ≡ read (next x) s
unfolding entries_format
no_more n w greatest most last total x next s = refl

pub entry_read : (count left n w greatest most last total : ℕ) (x : List ℕ) (next : List ℕ → Format) (s t : Spot) (e : Entry) → entry_at n w greatest most last total s ≡ Ok (e, t) → left ≡ suc count →
    read (entries_format left n w greatest most last total x next) s ≡ read (entries_format count n w greatest most e.asset (total + e.number) (slice_set x (e.asset - 1) e.number) next) t
entry_read count left n w greatest most last total x next s t e h q = rw q (one_entry count n w greatest most last total x next s ∙ rw h refl)

pub entry_stops : (count left n w greatest most last total : ℕ) (x : List ℕ) (next : List ℕ → Format) (s : Spot) (f : Stop) → entry_at n w greatest most last total s ≡ Err f → left ≡ suc count →
    read (entries_format left n w greatest most last total x next) s ≡ Err f
entry_stops count left n w greatest most last total x next s f h q = rw q (one_entry count n w greatest most last total x next s ∙ rw h refl)

-- a loop over entries, by what was to be read at first
pub loop_stops : (all i n w greatest most last total : ℕ) (x : List ℕ) (next : List ℕ → Format) (s : Spot) (f : Stop) (whole : Result (Group × Spot) Stop) →
    whole ≡ read (entries_format (all - i) n w greatest most last total x next) s → i < all → entry_at n w greatest most last total s ≡ Err f → whole ≡ Err f
loop_stops all i n w greatest most last total x next s f whole h l e = h ∙ entry_stops (all - (i + 1)) (all - i) n w greatest most last total x next s f e (omega arith)

pub loop_reads : (all i n w greatest most last total : ℕ) (x y : List ℕ) (next : List ℕ → Format) (s t : Spot) (e : Entry) (whole : Result (Group × Spot) Stop) →
    whole ≡ read (entries_format (all - i) n w greatest most last total x next) s → i < all → entry_at n w greatest most last total s ≡ Ok (e, t) → y ≡ slice_set x (e.asset - 1) e.number →
    whole ≡ read (entries_format (all - (i + 1)) n w greatest most e.asset (total + e.number) y next) t
loop_reads all i n w greatest most last total x y next s t e whole h l r q = h ∙ entry_read (all - (i + 1)) (all - i) n w greatest most last total x next s t e r (omega arith) ∙ ap (λ (z : List ℕ). read (entries_format (all - (i + 1)) n w greatest most e.asset (total + e.number) z next) t) (sym q)

pub loop_ends : (all i n w greatest most last total : ℕ) (x : List ℕ) (next : List ℕ → Format) (s : Spot) (whole : Result (Group × Spot) Stop) →
    whole ≡ read (entries_format (all - i) n w greatest most last total x next) s → all ≤ i → whole ≡ read (next x) s
loop_ends all i n w greatest most last total x next s whole h l = h ∙ none (all - i) (omega arith)
  where
    none : (left : ℕ) → left ≡ 0 → read (entries_format left n w greatest most last total x next) s ≡ read (next x) s
    none left e = rw e (no_more n w greatest most last total x next s)
