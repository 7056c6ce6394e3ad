-- The instance and the shift of a head, as they are made.
use Rattle.std.proofs.Common.{◌≡◌, ◌≢◌, ℕ, zero, suc, ◌+◌, ◌-◌, ◌*◌, ◌/◌, ◌<◌, ◌≤◌, ◌⊎◌, inl, inr, if◌then◌else◌, nat_le, Bool, true, false, List, [], ◌∷◌, map, length, get_or, slice_get, slice_set, slice_index_or, replicate, Option, Some, None, All, ℤ, pos, ◌≤ℤ◌, unsigned_abs, refl, sym, ap, ◌∙◌, subst, arith, length-set, get_or-set_same, get_or-set_other}
use Rattle.std.proofs.lemmas.Bool.{cases_eq, cases_lt}
use Rattle.std.proofs.lemmas.Bool.Decides.{nat_tests}
use Rattle.std.proofs.lemmas.List.{length-map, length-replicate, get_or-replicate, get_or_past, ext_get_or}
use Rattle.std.proofs.lemmas.Nat.{mul-add-lt}
use Rattle.std.proofs.lemmas.Int.{ints}
use Rattle.gap_base.specs.declared.job.Job.{Job}
use Rattle.gap_base.specs.Markets.{MarketValue, mean_of, deviation_of, rho_of}
use Rattle.gap_base.specs.Sums.{at}
use Rattle.gap_base.proofs.MarketLaws.{place_row, place_column}
use Rattle.gap_box.specs.Parts as parts
use Rattle.gap_instance.specs.Instances.{InstanceValue, AreBetween, AreLimits, IsInstance, instance_of}
use Rattle.gap_psd.specs.Shifts.{ShiftValue, zero_shift, with_r, with_d}
use Rattle.gap_cert.specs.Certificates.{AssetLine, CertHead}
use Rattle.gap_valid.proofs.Same.{table_is}
use Rattle.gap_valid.proofs.SaidLaws.{read_is_said}
use Rattle.gap_valid.specs.Said.{said_market, said_instance}
use Rattle.gap_valid.specs.Heads.{row_number, pair_number, table, given_r, market_in, instance_in, shift_in, root_in, IsHead, IsAssetLine, IsDiagonal}
use Rattle.gap_valid.proofs.HeadLaws.{all_places, instance_is, turned_rho}
use Rattle.gap_judge.specs.Steps.{IsShiftUpTo}
use Rattle.gap_judge.specs.Stops.{IsJobOf}

-- ---- what is read of a head

pub map_at : {X Y : Type 0} (f : X → Y) (xs : List X) (i : ℕ) (x : X) (d : Y) → slice_get xs i ≡ Some x → slice_index_or (map f xs) i d ≡ f x
map_at f [] i x d e = cc
map_at f (y ∷ xs) zero x d e = cc
map_at f (y ∷ xs) (suc i) x d e = map_at f xs i x d e

pub line_there : (h : CertHead) (i : ℕ) → IsHead h → i < h.n → i < length h.assets
line_there h i is p = omega (arith, p, is.assets_count)

pub mean_at : (h : CertHead) (i : ℕ) (a : AssetLine) → slice_get h.assets i ≡ Some a → mean_of (market_in h) i ≡ a.mean
unfolding market_in
mean_at h i a e = map_at (λ a. a.mean) h.assets i a (pos 0) e

pub deviation_at : (h : CertHead) (i : ℕ) (a : AssetLine) → slice_get h.assets i ≡ Some a → deviation_of (market_in h) i ≡ a.dev
unfolding market_in
deviation_at h i a e = map_at (λ a. a.dev) h.assets i a 0 e

same_one : {X : Type 0} (y x : X) → ◌≡◌ {A = Option X} (Some y) (Some x) → y ≡ x
same_one y x e = cc

some_at : {X : Type 0} (P : X → Type 0) (xs : List X) (i : ℕ) (x : X) → All P xs → slice_get xs i ≡ Some x → P x
some_at P [] i x a e = cc
some_at P (y ∷ xs) zero x a e = subst P (same_one y x e) (a 0 y (omega arith))
some_at P (y ∷ xs) (suc i) x a e = some_at P xs i x (λ k d l. a (suc k) d (omega arith)) e

pub line_is : (h : CertHead) (i : ℕ) (a : AssetLine) → IsHead h → slice_get h.assets i ≡ Some a → IsAssetLine h.lots a
line_is h i a is e = some_at (IsAssetLine h.lots) h.assets i a is.assets_are e

-- ---- lists of lots

pub list_is : (xs ys : List ℕ) (n : ℕ) → length xs ≡ n → length ys ≡ n → ((k : ℕ) → k < n → slice_index_or xs k 0 ≡ slice_index_or ys k 0) → xs ≡ ys
list_is xs ys n a b h = ext_get_or 0 xs ys (a ∙ sym b) (λ i l. h i (omega (arith, l, a)))

pub lots_step : (xs ys : List ℕ) (i v : ℕ) → i < length xs → v ≡ slice_index_or ys i 0 → ((k : ℕ) → k < i → slice_index_or xs k 0 ≡ slice_index_or ys k 0) → (k : ℕ) → k < i + 1 → slice_index_or (slice_set xs i v) k 0 ≡ slice_index_or ys k 0
lots_step xs ys i v room e h k l = by (cases_eq k i)
  where
    by : (k ≡ i) ⊎ (k ≡ i → ⊥) → slice_index_or (slice_set xs i v) k 0 ≡ slice_index_or ys k 0
    by (inl s) = rw s (get_or-set_same xs i v 0 room ∙ e)
    by (inr other) = get_or-set_other xs i k v 0 (λ s. other s) ∙ h k (omega (arith, l, other))

-- ---- the instance

pub instance_made : (h : CertHead) (market : MarketValue) (job : Job) → market ≡ market_in h → IsJobOf h job → instance_of market job ≡ instance_in h
unfolding instance_in
instance_made h market job m j = rw m (rw j.lots_are (rw j.held_is (rw j.held_most_is (rw j.least_is (rw j.greatest_is (rw j.present_is (rw j.turnover_is refl)))))))

pub limits_made : (h : CertHead) (market : MarketValue) (job : Job) → IsHead h → market ≡ market_in h → IsJobOf h job → AreLimits market.assets job.lots job.held job.held_most job.least job.greatest job.present job.turnover
unfolding instance_in
limits_made h market job is m j = rw m (rw j.lots_are (rw j.held_is (rw j.held_most_is (rw j.least_is (rw j.greatest_is (rw j.present_is (rw j.turnover_is (instance_is h is).limits_are)))))))

pub market_said : (h : CertHead) (market : MarketValue) → market ≡ said_market (market_in h) → market ≡ market_in h
unfolding said_instance instance_in
market_said h market e = e ∙ sym (ap (λ (I : InstanceValue). I.market) (read_is_said h))

limits_of : (h : CertHead) (xs : List ℕ) → IsHead h → AreBetween h.n 1 h.lots xs → parts.AreLimits xs
limits_of h xs is b = record { least = λ k l. b.least k (omega (arith, l, b.count)); most = λ k. by k (cases_lt k (length xs)) }
  where
    by : (k : ℕ) → (k < length xs) ⊎ (length xs ≤ k) → slice_index_or xs k 0 ≤ 10000
    by k (inl l) = omega (arith, b.most k (omega (arith, l, b.count)), is.lots_most)
    by k (inr l) = rw (get_or_past xs k 0 l) (omega arith)

pub least_limits : (h : CertHead) (job : Job) → IsHead h → IsJobOf h job → parts.AreLimits job.least
unfolding instance_in market_in
least_limits h job is j = rw j.least_is (limits_of h _ is (instance_is h is).limits_are.least_within)

pub greatest_limits : (h : CertHead) (job : Job) → IsHead h → IsJobOf h job → parts.AreLimits job.greatest
unfolding instance_in market_in
greatest_limits h job is j = rw j.greatest_is (limits_of h _ is (instance_is h is).limits_are.greatest_within)

-- ---- the shift

fits_place : (n i k : ℕ) → i < n → k < n → i * n + k < n * n
fits_place n i k p q = mul-add-lt i n k n p q

pub shift_begun : (h : CertHead) (s : ShiftValue) (n : ℕ) → n ≡ h.n → s ≡ zero_shift n → IsShiftUpTo h s 0 0 0
shift_begun h s n e z = rw z (rw e (record {
  assets_are = refl;
  factor_room = length-replicate (h.n * h.n) (pos 0);
  diagonal_room = length-replicate h.n (pos 0);
  above = λ a b l m. get_or-replicate (h.n * h.n) (a * h.n + b) (pos 0) (pos 0) (fits_place h.n a b (omega arith) m);
  triangle = λ a b l m w. absurd (none a b w);
  diagonal = λ a l. absurd (omega arith);
}))
  where
    none : (a b : ℕ) → (a < 0) ⊎ ((a ≡ 0) × (b < 0)) → ⊥
    none a b (inl l) = omega arith
    none a b (inr w) = let l = w.1 in omega arith

-- one entry of the triangle more
pub shift_entry : (h : CertHead) (s : ShiftValue) (i k entries : ℕ) (v : ℤ) → k ≤ i → i < h.n → v ≡ at h.factor (row_number i k) → IsShiftUpTo h s i k entries → IsShiftUpTo h (with_r s i k v) i (k + 1) entries
shift_entry h s i k entries v p q e u = record {
  assets_are = u.assets_are;
  factor_room = length-set s.factor (i * s.assets + k) v ∙ u.factor_room;
  diagonal_room = u.diagonal_room;
  above = λ a b l m. rw u.assets_are (get_or-set_other s.factor (i * h.n + k) (a * h.n + b) v (pos 0) (λ z. let r = place_row h.n i k a b (omega arith) m (sym z) in let c = place_column h.n i k a b (omega arith) m (sym z) in omega (arith, l, p, r, c)) ∙ u.above a b l m);
  triangle = λ a b l m w. rw u.assets_are (entry a b l m w (cases_eq a i) (cases_eq b k));
  diagonal = u.diagonal;
}
  where
    room : i * h.n + k < length s.factor
    room = let f = fits_place h.n i k q (omega arith) in omega (arith, f, u.factor_room)

    entry : (a b : ℕ) → b ≤ a → a < h.n → (a < i) ⊎ ((a ≡ i) × (b < k + 1)) → (a ≡ i) ⊎ (a ≡ i → ⊥) → (b ≡ k) ⊎ (b ≡ k → ⊥) → at (slice_set s.factor (i * h.n + k) v) (a * h.n + b) ≡ at h.factor (row_number a b)
    entry a b l m w (inl x) (inl y) = rw x (rw y (get_or-set_same s.factor (i * h.n + k) v (pos 0) room ∙ e))
    entry a b l m w (inl x) (inr y) = get_or-set_other s.factor (i * h.n + k) (a * h.n + b) v (pos 0) (λ z. y (sym (place_column h.n i k a b (omega arith) (omega arith) (sym z)))) ∙ u.triangle a b l m (inr (x, before w))
      where
        before : (a < i) ⊎ ((a ≡ i) × (b < k + 1)) → b < k
        before (inl g) = omega (arith, g, x)
        before (inr g) = let g1 = g.1 in omega (arith, g1, y)
    entry a b l m w (inr x) z = get_or-set_other s.factor (i * h.n + k) (a * h.n + b) v (pos 0) (λ z. x (sym (place_row h.n i k a b (omega arith) (omega arith) (sym z)))) ∙ u.triangle a b l m (inl (before w))
      where
        before : (a < i) ⊎ ((a ≡ i) × (b < k + 1)) → a < i
        before (inl g) = g
        before (inr g) = absurd (x g.0)

-- a row is whole
pub shift_row : (h : CertHead) (s : ShiftValue) (i k entries : ℕ) → k ≡ i + 1 → IsShiftUpTo h s i k entries → IsShiftUpTo h s (i + 1) 0 entries
shift_row h s i k entries e u = record {
  assets_are = u.assets_are;
  factor_room = u.factor_room;
  diagonal_room = u.diagonal_room;
  above = u.above;
  triangle = λ a b l m w. u.triangle a b l m (earlier a b l w (cases_eq a i));
  diagonal = u.diagonal;
}
  where
    earlier : (a b : ℕ) → b ≤ a → (a < i + 1) ⊎ ((a ≡ i + 1) × (b < 0)) → (a ≡ i) ⊎ (a ≡ i → ⊥) → (a < i) ⊎ ((a ≡ i) × (b < k))
    earlier a b l w (inl x) = inr (x, omega (arith, e, l, x))
    earlier a b l (inl g) (inr x) = inl (omega (arith, g, x))
    earlier a b l (inr g) (inr x) = let g1 = g.1 in absurd (omega (arith, g1))

-- one number of D more
pub shift_diagonal : (h : CertHead) (s : ShiftValue) (row i : ℕ) (v : ℤ) → i < h.n → v ≡ at h.diagonal i → IsShiftUpTo h s row 0 i → IsShiftUpTo h (with_d s i v) row 0 (i + 1)
shift_diagonal h s row i v q e u = record {
  assets_are = u.assets_are;
  factor_room = u.factor_room;
  diagonal_room = length-set s.diagonal i v ∙ u.diagonal_room;
  above = u.above;
  triangle = u.triangle;
  diagonal = λ a l. entry a l (cases_eq a i);
}
  where
    entry : (a : ℕ) → a < i + 1 → (a ≡ i) ⊎ (a ≡ i → ⊥) → at (slice_set s.diagonal i v) a ≡ at h.diagonal a
    entry a l (inl x) = rw x (get_or-set_same s.diagonal i v (pos 0) (omega (arith, q, u.diagonal_room)) ∙ e)
    entry a l (inr x) = get_or-set_other s.diagonal i a v (pos 0) (λ z. x z) ∙ u.diagonal a (omega (arith, l, x))

given_below : (h : CertHead) (i k : ℕ) → k ≤ i → given_r h i k ≡ at h.factor (row_number i k)
given_below h i k l = ap (λ (b : Bool). if b then at h.factor (row_number i k) else pos 0) (is_true i k l)
  where
    is_true : (i k : ℕ) → k ≤ i → nat_le k i ≡ true
    is_true i k l = grind (arith, nat_tests)

given_above : (h : CertHead) (i k : ℕ) → i < k → given_r h i k ≡ pos 0
given_above h i k l = ap (λ (b : Bool). if b then at h.factor (row_number i k) else pos 0) (is_false i k l)
  where
    is_false : (i k : ℕ) → i < k → nat_le k i ≡ false
    is_false i k l = grind (arith, nat_tests)

made : ℕ → List ℤ → List ℤ → ShiftValue
made n factor diagonal = record { assets = n; factor = factor; diagonal = diagonal }

made_same : (n m : ℕ) (f g d e : List ℤ) → n ≡ m → f ≡ g → d ≡ e → made n f d ≡ made m g e
made_same n m f g d e a b c = cc

-- all of it is made
pub shift_whole : (h : CertHead) (s : ShiftValue) (n : ℕ) → n ≡ h.n → IsHead h → IsShiftUpTo h s n 0 n → s ≡ shift_in h
unfolding shift_in made
shift_whole h s n e is u = made_same s.assets h.n s.factor (table h.n (given_r h)) s.diagonal h.diagonal u.assets_are (table_is h.n (given_r h) s.factor u.factor_room cell)
    (ext_get_or (pos 0) s.diagonal h.diagonal (u.diagonal_room ∙ sym is.diagonal_count) (λ i l. u.diagonal i (omega (arith, l, u.diagonal_room, e))))
  where
    cell : (a b : ℕ) → a < h.n → b < h.n → at s.factor (a * h.n + b) ≡ given_r h a b
    cell a b p q = by (cases_lt a b)
      where
        by : (a < b) ⊎ (b ≤ a) → at s.factor (a * h.n + b) ≡ given_r h a b
        by (inl l) = u.above a b l q ∙ sym (given_above h a b l)
        by (inr l) = u.triangle a b l p (inl (omega (arith, p, e))) ∙ sym (given_below h a b l)

pub factor_small : (h : CertHead) (k : ℕ) → IsHead h → unsigned_abs (at h.factor k) ≤ 1000000000000000
factor_small h k is = all_places (λ r. unsigned_abs r ≤ 1000000000000000) h.factor (pos 0) is.factor_are (omega arith) k

pub rho_small : (h : CertHead) (k : ℕ) → IsHead h → unsigned_abs (at h.correlations k) ≤ 1000000
rho_small h k is = all_places (λ r. unsigned_abs r ≤ 1000000) h.correlations (pos 0) is.correlations_are (omega arith) k

pub diagonal_is : (h : CertHead) (i : ℕ) → IsHead h → IsDiagonal (at h.diagonal i)
diagonal_is h i is = all_places IsDiagonal h.diagonal (pos 0) is.diagonal_are (record { least = grind (arith, ints); most = omega arith }) i
