-- The market of the bytes is the file's in its own words.
use Rattle.std.proofs.Common.{◌≡◌, ℕ, zero, suc, ◌+◌, ◌*◌, ◌/◌, ◌%◌, ◌<◌, ◌≤◌, ⊎_elim, Bool, true, false, not, ◌&&◌, ◌==◌, nat_le, nat_lt, if◌then◌else◌, min, max, List, [], ◌∷◌, ◌++◌, length, append_assoc, append-nil, fold, replicate, slice_index_or, Option, Some, None, Result, Ok, Err, ℤ, refl, sym, ap, ◌∙◌, subst, arith}
use Rattle.std.proofs.lemmas.Bool.{cases_eq, cases_lt}
use Rattle.std.proofs.lemmas.Bool.Decides.{nat_tests}
use Rattle.std.proofs.lemmas.List.{length-replicate, get_or-replicate}
use Rattle.std.proofs.lemmas.Grind.{common_steps}
use Rattle.std.proofs.lemmas.Nat.{div-mul-add, mod-mul-add, mul-add-lt}
use Rattle.gap_base.proofs.Counts.{count_none, count_more}
use Rattle.gap_base.specs.Markets.{MarketValue, mean_of, rho_of, fresh_market}
use Rattle.gap_base.proofs.MarketLaws.{IsMarket-fresh}
use Rattle.gap_orlib.specs.declared.fault.PortFault.{PortFault}
use Rattle.gap_orlib.specs.declared.fault.PortKind.{PortKind}
use Rattle.gap_orlib.specs.declared.wanted.Wanted.{Wanted}
use Rattle.gap_orlib.specs.declared.wanted.Wanted.TheVariants.{Mean, Deviation, First, Second, Correlation}
use Rattle.gap_orlib.specs.Tokens.{Token, after, is_separator, joined, tokens_from, tokens}
use Rattle.gap_orlib.specs.Sheets.{Sheet, whole, whole_in, begun, count_told, item_told}
use Rattle.gap_orlib.specs.Ports.{limit, placed, judged_one, judged, kept, first_from, is_missing, missing, complete, closed_at, ended, finished, port}
use Rattle.gap_orlib.specs.Fields.{triple_at, is_rounded, IsMarketOf}
use Rattle.gap_orlib.proofs.Grown.{spot, Values, values_at, Said, Triples, triples_said, Pairs, pairs_named}
use Rattle.gap_orlib.proofs.Says.{odd, even, IsPlace, deviations_of, marks_of, Core, Says}
use Rattle.gap_orlib.proofs.Items.{within_is, says_item}

-- nothing is marked in the new table
unmarked : (n p : ℕ) → slice_index_or (replicate n false) p false ≡ false
unmarked n p = ⊎_elim (λ h. get_or-replicate n p false false h) (λ h. past (replicate n false) p (rw (length-replicate n false) h)) (cases_lt p n)
  where
    past : (l : List Bool) (k : ℕ) → length l ≤ k → slice_index_or l k false ≡ false
    past l k h = grind (arith, common_steps)

unfoldable pub fresh_sheet : ℕ → Sheet
fresh_sheet n = record { market = fresh_market n; seen = replicate (n * n) false; next = Mean 0 }

no_values : (x : Token) (n : ℕ) (p : ℕ → ℕ) (f : ℕ → ℤ) → ((k : ℕ) → 0 < p k) → Values (x ∷ []) n p f
unfolding Values
no_values x n p f h = λ k a b. absurd (omega (arith, h k))

no_triples : (x : Token) (n : ℕ) (rho : ℕ → ℕ → ℤ) (seen : ℕ → Bool) → Triples (x ∷ []) n rho seen
unfolding Triples
no_triples x n rho seen = λ t b. absurd (omega arith)

differ : false ≡ true → ⊥
differ e = cc

no_pairs : (x : Token) (n : ℕ) (rho : ℕ → ℕ → ℤ) (seen : ℕ → Bool) → ((p : ℕ) → seen p ≡ false) → Pairs (x ∷ []) n rho seen
unfolding Pairs
no_pairs x n rho seen h = λ i j a b m. absurd (differ (sym (h (spot n i j)) ∙ m))

core_begun : (x : Token) (n : ℕ) → whole x.text ≡ Some n → 2 ≤ n → n ≤ 256 → Core (x ∷ []) (fresh_sheet n)
unfolding fresh_sheet IsPlace
core_begun x n w p q = record {
  market = IsMarket-fresh n p q;
  some = omega arith;
  count = w;
  marks = length-replicate (n * n) false;
  place = (omega arith, refl);
  means = no_values x n odd (mean_of (fresh_market n)) (λ k. omega arith);
  deviations = no_values x n even (deviations_of (fresh_market n)) (λ k. omega arith);
  triples = no_triples x n (rho_of (fresh_market n)) (λ p. slice_index_or (replicate (n * n) false) p false);
  pairs = no_pairs x n (rho_of (fresh_market n)) (λ p. slice_index_or (replicate (n * n) false) p false) (unmarked (n * n));
}

pub says_begun : (x : Token) (n : ℕ) → whole x.text ≡ Some n → 2 ≤ n → n ≤ 256 → Says (x ∷ []) (fresh_sheet n)
unfolding fresh_sheet
says_begun x n w p q = record {
  core = core_begun x n w p q;
  rounded = sym (count_more 0 (is_rounded (x ∷ []) n) ∙ ap (λ (k : ℕ). k + 0) (count_none (is_rounded (x ∷ []) n)));
}

-- what tokens said, kept by each
Told : List Token → Result (Option Sheet) PortFault → Type 0
Told ts (Err f) = Unit {0}
Told ts (Ok None) = ts ≡ []
Told ts (Ok (Some s)) = Says ts s

first_told_by : (x : Token) (o : Option ℕ) → whole_in 2 256 x.text ≡ o → Told (x ∷ []) (placed x.place (begun o))
unfolding Told fresh_sheet
first_told_by x None e = tt
first_told_by x (Some n) e =
    let w : (whole x.text ≡ Some n) × (2 ≤ n) × (n ≤ 256) = within_is 2 256 n (whole x.text) e in
    says_begun x n w.0 w.1 w.2

next_told_by : (ts : List Token) (x : Token) (s : Sheet) (q : Result Sheet PortKind) → Says ts s → item_told s.next s x.text ≡ q → Told (ts ++ x ∷ []) (placed x.place q)
unfolding Told
next_told_by ts x s (Err k) h e = tt
next_told_by ts x s (Ok s') h e = says_item s.next ts x s s' h refl e

told_one : (ts : List Token) (x : Token) (r : Result (Option Sheet) PortFault) → Told ts r → Told (ts ++ x ∷ []) (judged_one r x)
unfolding Told count_told
told_one ts x (Err f) h = tt
told_one ts x (Ok None) h = rw h (first_told_by x (whole_in 2 256 x.text) refl)
told_one ts x (Ok (Some s)) h = next_told_by ts x s (item_told s.next s x.text) h refl

told_all : (rest ts : List Token) (r : Result (Option Sheet) PortFault) → Told ts r → Told (ts ++ rest) (fold judged_one r rest)
told_all [] ts r h = rw (append-nil ts) h
told_all (x ∷ xs) ts r h =
    let e : ts ++ x ∷ xs ≡ (ts ++ x ∷ []) ++ xs = sym (append_assoc ts (x ∷ []) xs) in
    rw e (told_all xs (ts ++ x ∷ []) (judged_one r x) (told_one ts x r h))

-- what the tokens say, where none is at fault
pub tokens_say : (ts : List Token) (s : Sheet) → judged ts ≡ Ok (Some s) → Says ts s
unfolding judged Told
tokens_say ts s e = subst (Told ts) e (told_all ts [] (Ok None) refl)

-- the tokens of few bytes are all judged
pub End : ℕ → List Token → Type 0
End e [] = Unit {0}
End e (t ∷ ts) = (after t ≤ e) × End e ts

joined_end : (e place b : ℕ) (ts : List Token) → place + 1 ≤ e → End e ts → End e (joined place b ts)
unfolding End
joined_end e place b [] h k = (omega arith, tt)
joined_end e place b (t ∷ ts) h k = go (t.place == place + 1) refl
  where
    go : (v : Bool) → (t.place == place + 1) ≡ v → End e (if v then record { place = place; text = b ∷ t.text } ∷ ts else record { place = place; text = b ∷ [] } ∷ t ∷ ts)
    go true m = (let at : t.place ≡ place + 1 = grind (arith, nat_tests) in let l : place + suc (length t.text) ≤ e = omega (arith, k.0) in l, k.1)
    go false m = (omega arith, (k.0, k.1))

one_end : (v : Bool) (e place b : ℕ) (ts : List Token) → place + 1 ≤ e → End e ts → End e (if v then ts else joined place b ts)
one_end true e place b ts h k = k
one_end false e place b ts h k = joined_end e place b ts h k

pub tokens_end : (e place : ℕ) (bytes : List ℕ) → place + length bytes ≤ e → End e (tokens_from place bytes)
unfolding End tokens_from
tokens_end e place [] h = tt
tokens_end e place (b ∷ bs) h = one_end (is_separator b) e place b (tokens_from (place + 1) bs) (omega arith) (tokens_end e (place + 1) bs (omega arith))

within_limit : (n : ℕ) → n ≤ limit → nat_le n limit ≡ true
within_limit n h = grind (arith, nat_tests)

pub keeps_all : (ts : List Token) → End limit ts → kept ts ≡ ts
unfolding End kept
keeps_all [] h = refl
keeps_all (t ∷ ts) h =
    let e : nat_le (after t) limit ≡ true = within_limit (after t) h.0 in
    rw e (ap (λ (r : List Token). t ∷ r) (keeps_all ts h.1))

some_none : (n : ℕ) → Some n ≡ None → ⊥
some_none n e = cc

none_by : (v : Bool) (left at : ℕ) (p : ℕ → Bool) → p at ≡ v → (if v then Some at else first_from left (at + 1) p) ≡ None
    → (first_from left (at + 1) p ≡ None → (k : ℕ) → at + 1 ≤ k → k < at + 1 + left → p k ≡ false)
    → (k : ℕ) → at ≤ k → k < at + suc left → p k ≡ false
none_by true left at p pv e rest k l u = absurd (some_none at e)
none_by false left at p pv e rest k l u = ⊎_elim
    (λ (same : k ≡ at). ap p same ∙ pv)
    (λ ne. rest e k (omega arith) (omega arith))
    (cases_eq k at)

-- where no pair is missing, none of them is
first_none : (left at : ℕ) (p : ℕ → Bool) → first_from left at p ≡ None → (k : ℕ) → at ≤ k → k < at + left → p k ≡ false
first_none zero at p e k l u = absurd (omega arith)
first_none (suc left) at p e k l u = none_by (p at) left at p refl e (first_none left (at + 1) p) k l u

not_false : (b : Bool) → not b ≡ false → b ≡ true
not_false true e = refl
not_false false e = absurd (differ (sym e))

pub marked_by : (n i j : ℕ) (seen : Bool) → i < j → (nat_lt i j && not seen) ≡ false → seen ≡ true
marked_by n i j seen h e = let t : nat_lt i j ≡ true = grind (arith, nat_tests) in not_false seen (let f : not seen ≡ false = rw t at e in f)

all_marked : (n i j : ℕ) (seen : List Bool) → i < j → j < n → missing n seen ≡ None → slice_index_or seen (spot n i j) false ≡ true
unfolding missing
all_marked n i j seen h q e =
    let low : min i j < n = omega arith in
    let high : max i j < n = omega arith in
    let below : spot n i j < 0 + n * n = let b : spot n i j < n * n = mul-add-lt (min i j) n (max i j) n low high in omega arith in
    let f : is_missing n seen (spot n i j) ≡ false = first_none (n * n) 0 (is_missing n seen) e (spot n i j) (omega arith) below in
    let row : spot n i j / n ≡ min i j = div-mul-add (min i j) n (max i j) high in
    let column : spot n i j % n ≡ max i j = mod-mul-add (min i j) n (max i j) high in
    marked_by n (min i j) (max i j) (slice_index_or seen (spot n i j) false) (omega arith) (rw (row, column) at f)

fault_ok : (f : PortFault) (m : MarketValue) → ◌≡◌ {A = Result MarketValue PortFault} (Err f) (Ok m) → ⊥
fault_ok f m e = cc

market_same : (a m : MarketValue) → ◌≡◌ {A = Result MarketValue PortFault} (Ok a) (Ok m) → a ≡ m
market_same a m e = cc

complete_ok : (size : ℕ) (s : Sheet) (o : Option ℕ) (m : MarketValue) → complete size s o ≡ Ok m → (o ≡ None) × (s.market ≡ m)
complete_ok size s None m e = (refl, market_same s.market m e)
complete_ok size s (Some at) m e = absurd (fault_ok _ m e)

closed_ok : (w : Wanted) (size : ℕ) (s : Sheet) (m : MarketValue) → closed_at w size s ≡ Ok m → (w ≡ First) × (complete size s (missing s.market.assets s.seen) ≡ Ok m)
closed_ok First size s m e = (refl, e)
closed_ok (Mean k) size s m e = absurd (fault_ok _ m e)
closed_ok (Deviation k) size s m e = absurd (fault_ok _ m e)
closed_ok (Second i) size s m e = absurd (fault_ok _ m e)
closed_ok (Correlation i j) size s m e = absurd (fault_ok _ m e)

-- what a market of the bytes stands on
record Closed (size : ℕ) (q : Result (Option Sheet) PortFault) (m : MarketValue) : Type 0 where
  sheet : Sheet
  said : q ≡ Ok (Some sheet)
  few : size ≤ limit
  next : sheet.next ≡ First
  full : missing sheet.market.assets sheet.seen ≡ None
  same : sheet.market ≡ m

ended_ok : (size : ℕ) (o : Option Sheet) (m : MarketValue) → size ≤ limit → ended size o ≡ Ok m → Closed size (Ok o) m
ended_ok size None m h e = absurd (fault_ok _ m e)
ended_ok size (Some s) m h e =
    let a = closed_ok s.next size s m e in
    let b = complete_ok size s (missing s.market.assets s.seen) m a.1 in
    record { sheet = s; said = refl; few = h; next = a.0; full = b.0; same = b.1 }

sized_ok : (v : Bool) (size : ℕ) (o : Option Sheet) (m : MarketValue) (f : PortFault) → nat_le size limit ≡ v → (if v then ended size o else Err f) ≡ Ok m → Closed size (Ok o) m
sized_ok true size o m f h e = ended_ok size o m (let l : size ≤ limit = grind (arith, nat_tests) in l) e
sized_ok false size o m f h e = absurd (fault_ok f m e)

finished_ok : (size : ℕ) (q : Result (Option Sheet) PortFault) (m : MarketValue) → finished size q ≡ Ok m → Closed size q m
finished_ok size (Err f) m e = absurd (fault_ok f m e)
finished_ok size (Ok o) m e = sized_ok (nat_le size limit) size o m _ refl e

in_words : (bytes : List ℕ) (s : Sheet) → length bytes ≤ limit → Says (tokens bytes) s → s.next ≡ First → missing s.market.assets s.seen ≡ None → IsMarketOf bytes s.market
unfolding IsPlace
in_words bytes s few h next full =
    let at : (t : ℕ) × (length (tokens bytes) ≡ triple_at s.market.assets t) = subst (λ (w : Wanted). IsPlace (tokens bytes) s.market.assets w) next h.core.place in
    record {
      size = few;
      count = h.core.count;
      market = h.core.market;
      means = λ k a. values_at (tokens bytes) s.market.assets odd (mean_of s.market) k h.core.means a (omega (arith, at.1));
      deviations = λ k a. values_at (tokens bytes) s.market.assets even (deviations_of s.market) k h.core.deviations a (omega (arith, at.1));
      triples = at.0;
      whole_triples = at.1;
      each_triple = λ t a.
          let said : Said (tokens bytes) s.market.assets t (rho_of s.market) (marks_of s) = triples_said (tokens bytes) s.market.assets t (rho_of s.market) (marks_of s) h.core.triples (omega (arith, at.1)) in
          (said.i, said.j, said.triple);
      each_pair = λ i j a b. pairs_named (tokens bytes) s.market.assets (rho_of s.market) (marks_of s) i j h.core.pairs a b (all_marked s.market.assets i j s.seen a b full);
      rounded = h.rounded;
    }

-- a market of the bytes is one in the words of the file
pub market_in_words : (bytes : List ℕ) (m : MarketValue) → port bytes ≡ Ok m → IsMarketOf bytes m
unfolding port tokens
market_in_words bytes m e =
    let c : Closed (length bytes) (judged (kept (tokens bytes))) m = finished_ok (length bytes) (judged (kept (tokens bytes))) m e in
    let all : kept (tokens bytes) ≡ tokens bytes = keeps_all (tokens bytes) (tokens_end limit 0 bytes (let l : 0 + length bytes ≤ limit = omega (arith, c.few) in l)) in
    let said : judged (tokens bytes) ≡ Ok (Some c.sheet) = ap judged (sym all) ∙ c.said in
    subst (IsMarketOf bytes) c.same (in_words bytes c.sheet c.few (tokens_say (tokens bytes) c.sheet said) c.next c.full)
