-- The fault of the bytes is the first, in the words of the file.
use Rattle.std.proofs.Common.{◌≡◌, ℕ, zero, suc, ◌+◌, ◌*◌, ◌/◌, ◌%◌, ◌<◌, ◌≤◌, ◌⊎◌, inl, inr, ⊎_elim, Bool, true, false, not, ◌&&◌, nat_le, nat_lt, if◌then◌else◌, min, max, List, [], ◌∷◌, ◌++◌, length, append_assoc, append-nil, fold, slice_index_or, Option, Some, None, Result, Ok, Err, ℤ, refl, sym, ap, ◌∙◌, subst, arith}
use Rattle.std.proofs.lemmas.Bool.{cases_eq}
use Rattle.std.proofs.lemmas.Bool.Decides.{nat_tests}
use Rattle.std.proofs.lemmas.Nat.{div-mul-add, mod-mul-add, div-add-mod'}
use Rattle.std.proofs.Math.Nat.{mul-le-mul_right}
use Rattle.gap_base.specs.Markets.{MarketValue, rho_of}
use Rattle.gap_orlib.specs.declared.fault.PortFault.{PortFault}
use Rattle.gap_orlib.specs.declared.fault.PortKind.{PortKind}
use Rattle.gap_orlib.specs.declared.fault.PortKind.TheVariants.{Count, Numeral, Range, Deviation as BelowZero, Index, Diagonal, Conflict, Short, Missing, TooLong}
use Rattle.gap_orlib.specs.declared.wanted.Wanted.{Wanted}
use Rattle.gap_orlib.specs.declared.wanted.Wanted.TheVariants.{Mean, Deviation, First, Second, Correlation}
use Rattle.gap_orlib.specs.Tokens.{Token, tokens}
use Rattle.gap_orlib.specs.Sheets.{Sheet, whole, whole_in, begun, count_told, item_told}
use Rattle.gap_orlib.specs.Ports.{limit, fault_at, placed, judged_one, judged, kept, first_from, is_missing, missing, complete, closed_at, ended, finished, port}
use Rattle.gap_orlib.specs.Fields.{NamesPair, triple_at}
use Rattle.gap_orlib.specs.Faults.{IsCount, IsAtFault, AreSound, IsTokenFault, IsCut, nothing, assets, triple, IsMissing, IsFaultBy, IsFaultOf}
use Rattle.gap_orlib.proofs.Grown.{spot, pairs_named}
use Rattle.gap_orlib.proofs.Says.{IsPlace, marks_of, Says}
use Rattle.gap_orlib.proofs.Items.{within_is, says_item}
use Rattle.gap_orlib.proofs.PairLaws.{spot_turned}
use Rattle.gap_orlib.proofs.MarketFields.{fresh_sheet, says_begun, keeps_all, tokens_end, marked_by}
use Rattle.gap_orlib.proofs.Reading.{marked_named, spot_is}
use Rattle.gap_orlib.proofs.FaultLaws.{says_sound}
use Rattle.gap_orlib.proofs.FaultFound.{fault_item}

-- what tokens said, or which of them is at fault
pub Tracked : List Token → Result (Option Sheet) PortFault → Type 0
Tracked ts (Err f) = IsTokenFault ts f
Tracked ts (Ok None) = ts ≡ []
Tracked ts (Ok (Some s)) = Says ts s

longer : (ts : List Token) (x : Token) (f : PortFault) → IsTokenFault ts f → IsTokenFault (ts ++ x ∷ []) f
longer ts x f h = record {
  front = h.front;
  token = h.token;
  rest = h.rest ++ x ∷ [];
  all = ap (λ (l : List Token). l ++ x ∷ []) h.all ∙ append_assoc h.front (h.token ∷ h.rest) (x ∷ []);
  sound = h.sound;
  at_fault = h.at_fault;
  place = h.place;
}

begun_tracked : (x : Token) (o : Option ℕ) → whole_in 2 256 x.text ≡ o → Tracked (x ∷ []) (placed x.place (begun o))
unfolding Tracked fresh_sheet
begun_tracked x None e = record {
  front = [];
  token = x;
  rest = [];
  all = refl;
  sound = λ l kind h f. absurd (omega arith);
  at_fault = (refl, e);
  place = refl;
}
begun_tracked x (Some n) e =
    let w : (whole x.text ≡ Some n) × (2 ≤ n) × (n ≤ 256) = within_is 2 256 n (whole x.text) e in
    says_begun x n w.0 w.1 w.2

item_tracked : (ts : List Token) (x : Token) (s : Sheet) (q : Result Sheet PortKind) → Says ts s → item_told s.next s x.text ≡ q → Tracked (ts ++ x ∷ []) (placed x.place q)
unfolding Tracked
item_tracked ts x s (Err kind) h e = record {
  front = ts;
  token = x;
  rest = [];
  all = refl;
  sound = says_sound ts s h;
  at_fault = fault_item s.next ts x s kind h.core h.core.place e;
  place = refl;
}
item_tracked ts x s (Ok s') h e = says_item s.next ts x s s' h refl e

tracked_one : (ts : List Token) (x : Token) (r : Result (Option Sheet) PortFault) → Tracked ts r → Tracked (ts ++ x ∷ []) (judged_one r x)
unfolding Tracked count_told
tracked_one ts x (Err f) h = longer ts x f h
tracked_one ts x (Ok None) h = rw h (begun_tracked x (whole_in 2 256 x.text) refl)
tracked_one ts x (Ok (Some s)) h = item_tracked ts x s (item_told s.next s x.text) h refl

tracked_all : (rest ts : List Token) (r : Result (Option Sheet) PortFault) → Tracked ts r → Tracked (ts ++ rest) (fold judged_one r rest)
tracked_all [] ts r h = rw (append-nil ts) h
tracked_all (x ∷ xs) ts r h =
    let e : ts ++ x ∷ xs ≡ (ts ++ x ∷ []) ++ xs = sym (append_assoc ts (x ∷ []) xs) in
    subst (λ (l : List Token). Tracked l (fold judged_one (judged_one r x) xs)) (sym e) (tracked_all xs (ts ++ x ∷ []) (judged_one r x) (tracked_one ts x r h))

pub tracked : (ts : List Token) → Tracked ts (judged ts)
unfolding judged Tracked
tracked ts = tracked_all ts [] (Ok None) refl

-- a token's fault is one of the bytes
by_kind : (kind : PortKind) (bytes : List ℕ) (f : PortFault) (ts : List Token) (k : ℕ) → IsAtFault ts k kind → IsTokenFault (kept (tokens bytes)) f → IsFaultBy kind bytes f
by_kind Count bytes f ts k a h = h
by_kind Numeral bytes f ts k a h = h
by_kind Range bytes f ts k a h = h
by_kind BelowZero bytes f ts k a h = h
by_kind Index bytes f ts k a h = h
by_kind Diagonal bytes f ts k a h = h
by_kind (Conflict i j) bytes f ts k a h = h
by_kind Short bytes f ts k a h = absurd a
by_kind (Missing i j) bytes f ts k a h = absurd a
by_kind TooLong bytes f ts k a h = absurd a

none_sound : (ts : List Token) → ts ≡ [] → AreSound ts (length ts)
none_sound ts e = λ l kind h f. absurd (let z : length ts ≡ 0 = rw e refl in omega arith)

pub sheet_sound : (ts : List Token) (o : Option Sheet) → Tracked ts (Ok o) → AreSound ts (length ts)
unfolding Tracked
sheet_sound ts None h = none_sound ts h
sheet_sound ts (Some s) h = says_sound ts s h

count_of : (ts : List Token) (s : Sheet) → Says ts s → IsCount ts s.market.assets
count_of ts s h = record { number = h.core.count; few = h.core.market.few; many = h.core.market.many }

some_nat : (a b : ℕ) → Some a ≡ Some b → a ≡ b
some_nat a b e = cc

none_is : (b : ℕ) → ◌≡◌ {A = Option ℕ} None (Some b) → ⊥
none_is b e = cc

-- the first number that passes
record Found (p : ℕ → Bool) (at last k : ℕ) : Type 0 where
  low : at ≤ k
  high : k < last
  here : p k ≡ true
  before : (l : ℕ) → at ≤ l → l < k → p l ≡ false

found_by : (v : Bool) (left at k : ℕ) (p : ℕ → Bool) → p at ≡ v → (if v then Some at else first_from left (at + 1) p) ≡ Some k
    → (first_from left (at + 1) p ≡ Some k → Found p (at + 1) (at + 1 + left) k) → Found p at (at + suc left) k
found_by true left at k p pv e rest =
    let same : at ≡ k = some_nat at k e in
    record { low = omega arith; high = omega arith; here = ap p (sym same) ∙ pv; before = λ l a b. absurd (omega arith) }
found_by false left at k p pv e rest =
    let f : Found p (at + 1) (at + 1 + left) k = rest e in
    record {
      low = omega (arith, f.low);
      high = omega (arith, f.high);
      here = f.here;
      before = λ l a b. ⊎_elim (λ (same : l ≡ at). ap p same ∙ pv) (λ ne. f.before l (omega arith) b) (cases_eq l at);
    }

found : (left at k : ℕ) (p : ℕ → Bool) → first_from left at p ≡ Some k → Found p at (at + left) k
found zero at k p e = absurd (none_is k e)
found (suc left) at k p e = found_by (p at) left at k p refl e (found left (at + 1) k p)

both_true : (a b : Bool) → (a && b) ≡ true → (a ≡ true) × (b ≡ true)
both_true true true e = (refl, refl)
both_true true false e = absurd (false_true e)
  where
    false_true : false ≡ true → ⊥
    false_true e = cc
both_true false b e = absurd (false_true e)
  where
    false_true : false ≡ true → ⊥
    false_true e = cc

unmarked_not : (b : Bool) → not b ≡ true → b ≡ true → ⊥
unmarked_not b n h = no_way (sym (ap not h) ∙ n)
  where
    no_way : not true ≡ true → ⊥
    no_way e = cc

lt_of : (a b : ℕ) → nat_lt a b ≡ true → a < b
lt_of a b e = grind (arith, nat_tests)

rest_below : (p n : ℕ) → 0 < n → p % n < n
rest_below p n h = omega arith

never_stood : (ts : List Token) (s : Sheet) (low high : ℕ) → Says ts s → low < high → (marks_of s (spot s.market.assets low high) ≡ true → ⊥) → (t : ℕ) (v : ℤ) → NamesPair ts s.market.assets t low high v → ⊥
never_stood ts s low high h order un t v (inl a) = un (marked_named ts s t low high v h a (λ e. absurd (omega arith)))
never_stood ts s low high h order un t v (inr a) = un (ap (marks_of s) (spot_turned s.market.assets low high) ∙ marked_named ts s t high low v h a (λ e. absurd (omega arith)))

earlier_place : (n a b low high p : ℕ) → b < n → p ≡ low * n + high → (a < low) ⊎ ((a ≡ low) × (b < high)) → a * n + b < p
earlier_place n a b low high p q e (inl l) =
    let step : (a + 1) * n ≤ low * n = let one : a + 1 ≤ low = omega arith in mul-le-mul_right n one in
    let more : (a + 1) * n ≡ a * n + n = grind arith in
    omega arith
earlier_place n a b low high p q e (inr l) = rw l.0 (let g : low * n + b < p = omega (arith, l.1) in g)

stood_before : (ts : List Token) (s : Sheet) (p a b : ℕ) → Says ts s → is_missing s.market.assets s.seen (a * s.market.assets + b) ≡ false → a < b → b < s.market.assets
    → (t : ℕ) × (v : ℤ) × NamesPair ts s.market.assets t a b v
stood_before ts s p a b h e order there =
    let row : (a * s.market.assets + b) / s.market.assets ≡ a = div-mul-add a s.market.assets b there in
    let column : (a * s.market.assets + b) % s.market.assets ≡ b = mod-mul-add a s.market.assets b there in
    let low : min a b ≡ a = omega arith in
    let high : max a b ≡ b = omega arith in
    let marked : slice_index_or s.seen (a * s.market.assets + b) false ≡ true = marked_by s.market.assets a b (slice_index_or s.seen (a * s.market.assets + b) false) order (rw (row, column) at e) in
    let spotted : marks_of s (spot s.market.assets a b) ≡ true = rw (low, high) marked in
    let named : (t : ℕ) × NamesPair ts s.market.assets t a b (rho_of s.market a b) = pairs_named ts s.market.assets (rho_of s.market) (marks_of s) a b h.core.pairs order there spotted in
    (named.0, rho_of s.market a b, named.1)

missing_is : (ts : List Token) (s : Sheet) (t p : ℕ) → Says ts s → length ts ≡ triple_at s.market.assets t → missing s.market.assets s.seen ≡ Some p
    → IsMissing ts (p / s.market.assets + 1) (p % s.market.assets + 1)
unfolding missing
missing_is ts s t p h l e =
    let n = s.market.assets in
    let some : 0 < s.market.assets = omega (arith, h.core.market.few) in
    let f : Found (is_missing s.market.assets s.seen) 0 (0 + s.market.assets * s.market.assets) p = found (s.market.assets * s.market.assets) 0 p (is_missing s.market.assets s.seen) e in
    let parts : (nat_lt (p / s.market.assets) (p % s.market.assets) ≡ true) × (not (slice_index_or s.seen p false) ≡ true)
    = both_true (nat_lt (p / s.market.assets) (p % s.market.assets)) (not (slice_index_or s.seen p false)) f.here in
    let order : p / s.market.assets < p % s.market.assets = lt_of (p / s.market.assets) (p % s.market.assets) parts.0 in
    let whole_place : p ≡ p / s.market.assets * s.market.assets + p % s.market.assets = sym (div-add-mod' p s.market.assets) in
    record {
      assets = s.market.assets;
      triples = t;
      count = count_of ts s h;
      whole = l;
      low = p / s.market.assets;
      high = p % s.market.assets;
      i_is = refl;
      j_is = refl;
      in_order = order;
      there = rest_below p s.market.assets some;
      never = never_stood ts s (p / s.market.assets) (p % s.market.assets) h order
          (λ m. unmarked_not (slice_index_or s.seen p false) parts.1 (sym (ap (marks_of s) (spot_is s.market.assets p order some)) ∙ m));
      first = λ a b x y z. stood_before ts s p a b h
          (f.before (a * s.market.assets + b) (omega arith) (earlier_place s.market.assets a b (p / s.market.assets) (p % s.market.assets) p y whole_place z)) x y;
    }

err_same : (a b : PortFault) → ◌≡◌ {A = Result MarketValue PortFault} (Err a) (Err b) → a ≡ b
err_same a b e = cc

ok_no_err : (m : MarketValue) (f : PortFault) → ◌≡◌ {A = Result MarketValue PortFault} (Ok m) (Err f) → ⊥
ok_no_err m f e = cc

-- the end of bytes that are few enough
End_of : List ℕ → List Token → Type 0
End_of bytes ts = (length bytes ≤ limit) × (ts ≡ tokens bytes)

short_is : (bytes : List ℕ) (f : PortFault) → length bytes ≤ limit → AreSound (tokens bytes) (length (tokens bytes)) → IsCut (tokens bytes) → fault_at (length bytes) Short ≡ f → IsFaultOf bytes f
short_is bytes f few sound cut e = subst (IsFaultOf bytes) e (refl, few, sound, cut)

closed_is : (w : Wanted) (bytes : List ℕ) (s : Sheet) (f : PortFault) → length bytes ≤ limit → Says (tokens bytes) s → IsPlace (tokens bytes) s.market.assets w → closed_at w (length bytes) s ≡ Err f → IsFaultOf bytes f
unfolding IsPlace
closed_is First bytes s f few h at e = by_missing (missing s.market.assets s.seen) refl e
  where
    by_missing : (o : Option ℕ) → missing s.market.assets s.seen ≡ o → complete (length bytes) s o ≡ Err f → IsFaultOf bytes f
    by_missing None m e = absurd (ok_no_err s.market f e)
    by_missing (Some p) m e = subst (IsFaultOf bytes) (err_same _ f e) (refl, few, says_sound (tokens bytes) s h, missing_is (tokens bytes) s at.0 p h at.1 m)
closed_is (Mean k) bytes s f few h at e =
    short_is bytes f few (says_sound (tokens bytes) s h) (assets s.market.assets (count_of (tokens bytes) s h) (omega (arith, at.0, at.1))) (err_same _ f e)
closed_is (Deviation k) bytes s f few h at e =
    short_is bytes f few (says_sound (tokens bytes) s h) (assets s.market.assets (count_of (tokens bytes) s h) (omega (arith, at.0, at.1))) (err_same _ f e)
closed_is (Second i) bytes s f few h at e =
    short_is bytes f few (says_sound (tokens bytes) s h) (triple s.market.assets at.0 1 (count_of (tokens bytes) s h) (omega arith) (omega arith) at.1) (err_same _ f e)
closed_is (Correlation i j) bytes s f few h at e =
    short_is bytes f few (says_sound (tokens bytes) s h) (triple s.market.assets at.0 2 (count_of (tokens bytes) s h) (omega arith) (omega arith) at.1) (err_same _ f e)

ended_is : (bytes : List ℕ) (o : Option Sheet) (f : PortFault) → length bytes ≤ limit → Tracked (tokens bytes) (Ok o) → ended (length bytes) o ≡ Err f → IsFaultOf bytes f
unfolding Tracked
ended_is bytes None f few h e = short_is bytes f few (none_sound (tokens bytes) h) (nothing (rw h refl)) (err_same _ f e)
ended_is bytes (Some s) f few h e = closed_is s.next bytes s f few h h.core.place e

sized_is : (v : Bool) (bytes : List ℕ) (o : Option Sheet) (f : PortFault) → nat_le (length bytes) limit ≡ v → Tracked (kept (tokens bytes)) (Ok o)
    → (if v then ended (length bytes) o else Err (fault_at limit TooLong)) ≡ Err f → IsFaultOf bytes f
unfolding tokens
sized_is true bytes o f h t e =
    let few : length bytes ≤ limit = grind (arith, nat_tests) in
    let all : kept (tokens bytes) ≡ tokens bytes = keeps_all (tokens bytes) (tokens_end limit 0 bytes (let l : 0 + length bytes ≤ limit = omega arith in l)) in
    ended_is bytes o f few (subst (λ (ts : List Token). Tracked ts (Ok o)) all t) e
sized_is false bytes o f h t e =
    let many : limit < length bytes = grind (arith, nat_tests) in
    subst (IsFaultOf bytes) (err_same _ f e) (refl, many, sheet_sound (kept (tokens bytes)) o t)

finished_is : (bytes : List ℕ) (q : Result (Option Sheet) PortFault) (f : PortFault) → Tracked (kept (tokens bytes)) q → finished (length bytes) q ≡ Err f → IsFaultOf bytes f
unfolding Tracked
finished_is bytes (Err g) f t e = subst (IsFaultOf bytes) (err_same g f e) (by_kind g.kind bytes g (t.front ++ t.token ∷ []) (length t.front) t.at_fault t)
finished_is bytes (Ok o) f t e = sized_is (nat_le (length bytes) limit) bytes o f refl t e

-- the fault of the bytes is the first, in the words of the file
pub fault_in_words : (bytes : List ℕ) (f : PortFault) → port bytes ≡ Err f → IsFaultOf bytes f
unfolding port
fault_in_words bytes f e = finished_is bytes (judged (kept (tokens bytes))) f (tracked (kept (tokens bytes))) e
