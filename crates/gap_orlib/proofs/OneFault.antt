-- Bytes have one first fault alone, and none where they are a file of a market.
use Rattle.std.proofs.Common.{◌≡◌, ℕ, ◌+◌, ◌<◌, ◌≤◌, ◌⊎◌, inl, inr, ⊎_elim, List, [], ◌∷◌, ◌++◌, length, length-append, append_assoc, append-nil, Option, Result, Ok, Err, ℤ, refl, sym, ap, ◌∙◌, subst, arith}
use Rattle.std.proofs.lemmas.Bool.{cases_eq, cases_lt}
use Rattle.gap_base.specs.Markets.{MarketValue, rho_of}
use Rattle.gap_orlib.specs.declared.fault.PortFault.{PortFault}
use Rattle.gap_orlib.specs.declared.fault.PortKind.{PortKind}
use Rattle.gap_orlib.specs.declared.fault.PortKind.TheVariants.{Count, Numeral, Range, Deviation as BelowZero, Index, Diagonal, Conflict, Short, Missing, TooLong}
use Rattle.gap_orlib.specs.Tokens.{Token, tokens}
use Rattle.gap_orlib.specs.Sheets.{Sheet}
use Rattle.gap_orlib.specs.Ports.{limit, judged, kept, finished, port}
use Rattle.gap_orlib.specs.Fields.{NamesPair, triple_at, IsMarketOf}
use Rattle.gap_orlib.specs.Faults.{IsCount, IsAtFault, AreSound, IsTokenFault, IsCut, nothing, assets, triple, IsMissing, IsFaultBy, IsFaultOf}
use Rattle.gap_orlib.proofs.Grown.{text_old, IsValue_old, IsTriple_old, NamesPair_old}
use Rattle.gap_orlib.proofs.MarketFields.{keeps_all, tokens_end, market_in_words}
use Rattle.gap_orlib.proofs.FirstFault.{Tracked, tracked, sheet_sound, fault_in_words}
use Rattle.gap_orlib.proofs.OneKind.{one_count, one_kind}

-- a token behind doesn't change what is wrong with one before it
count_old : (ts : List Token) (x : Token) (n : ℕ) → 0 < length ts → IsCount ts n → IsCount (ts ++ x ∷ []) n
count_old ts x n h c = record { number = rw (text_old ts x 0 h) c.number; few = c.few; many = c.many }

at_fault_old : (kind : PortKind) (ts : List Token) (x : Token) (k : ℕ) → k < length ts → IsAtFault ts k kind → IsAtFault (ts ++ x ∷ []) k kind
at_fault_old Count ts x k h a = let some : 0 < length ts = omega arith in (a.0, rw (text_old ts x 0 some) a.1)
at_fault_old Numeral ts x k h a = record { assets = a.assets; count = count_old ts x a.assets (omega (arith, h)) a.count; place = a.place; no_numeral = rw (text_old ts x k h) a.no_numeral }
at_fault_old Range ts x k h a = record {
  assets = a.assets;
  count = count_old ts x a.assets (omega (arith, h)) a.count;
  place = a.place;
  value = a.value;
  is_value = IsValue_old ts x k a.value h a.is_value;
  great = a.great;
  not_below = a.not_below;
}
at_fault_old BelowZero ts x k h a = record {
  assets = a.assets;
  count = count_old ts x a.assets (omega (arith, h)) a.count;
  asset = a.asset;
  there = a.there;
  place = a.place;
  value = a.value;
  is_value = IsValue_old ts x k a.value h a.is_value;
  negative = a.negative;
}
at_fault_old Index ts x k h a = record {
  assets = a.assets;
  count = count_old ts x a.assets (omega (arith, h)) a.count;
  triple = a.triple;
  place = a.place;
  no_asset = rw (text_old ts x k h) a.no_asset;
}
at_fault_old Diagonal ts x k h a = record {
  assets = a.assets;
  count = count_old ts x a.assets (omega (arith, h)) a.count;
  triple = a.triple;
  place = a.place;
  asset = a.asset;
  value = a.value;
  is_triple = IsTriple_old ts x a.assets a.triple a.asset a.asset a.value a.is_triple;
  small = a.small;
  not_one = a.not_one;
}
at_fault_old (Conflict i j) ts x k h a = record {
  assets = a.assets;
  count = count_old ts x a.assets (omega (arith, h)) a.count;
  triple = a.triple;
  place = a.place;
  low = a.low;
  high = a.high;
  i_is = a.i_is;
  j_is = a.j_is;
  in_order = a.in_order;
  value = a.value;
  small = a.small;
  names = NamesPair_old ts x a.assets a.triple a.low a.high a.value a.names;
  earlier = a.earlier;
  before = a.before;
  other = a.other;
  named = NamesPair_old ts x a.assets a.earlier a.low a.high a.other a.named;
  differs = a.differs;
}
at_fault_old Short ts x k h a = a
at_fault_old (Missing i j) ts x k h a = a
at_fault_old TooLong ts x k h a = a

at_fault_more : (rest : List Token) (kind : PortKind) (ts : List Token) (k : ℕ) → k < length ts → IsAtFault ts k kind → IsAtFault (ts ++ rest) k kind
at_fault_more [] kind ts k h a = rw (append-nil ts) a
at_fault_more (x ∷ xs) kind ts k h a =
    subst (λ (l : List Token). IsAtFault l k kind) (append_assoc ts (x ∷ []) xs)
    (at_fault_more xs kind (ts ++ x ∷ []) k (omega (arith, h, length-append ts (x ∷ []))) (at_fault_old kind ts x k h a))

-- sound tokens have none at fault
pub sound_prefix : (us front : List Token) (t : Token) (more : List Token) (kind : PortKind) → us ≡ front ++ t ∷ more → AreSound us (length us) → IsAtFault (front ++ t ∷ []) (length front) kind → ⊥
sound_prefix us front t more kind e sound a =
    let whole : (front ++ t ∷ []) ++ more ≡ us = append_assoc front (t ∷ []) more ∙ sym e in
    let long : length us ≡ length front + length (t ∷ more) = ap length e ∙ length-append front (t ∷ more) in
    let least : 1 ≤ length (t ∷ more) = omega arith in
    sound (length front) kind (omega (arith, long, least))
    (subst (λ (l : List Token). IsAtFault l (length front) kind) whole (at_fault_more more kind (front ++ t ∷ []) (length front) (omega (arith, length-append front (t ∷ []))) a))

token_sound : (ts : List Token) (f : PortFault) → AreSound ts (length ts) → IsTokenFault ts f → ⊥
token_sound ts f sound h = sound_prefix ts h.front h.token h.rest f.kind h.all sound h.at_fault

-- of two fronts of one list one is a front of the other, or they are one
data Fronts (f : List Token) (t : Token) (g : List Token) (u : Token) : Type 0 where
  one_front : f ≡ g → t ≡ u → Fronts f t g u
  front_less : (more : List Token) → g ≡ f ++ t ∷ more → Fronts f t g u
  front_more : (more : List Token) → f ≡ g ++ u ∷ more → Fronts f t g u

head_same : (x y : Token) (xs ys : List Token) → x ∷ xs ≡ y ∷ ys → x ≡ y
head_same x y xs ys e = cc

tail_same : (x y : Token) (xs ys : List Token) → x ∷ xs ≡ y ∷ ys → xs ≡ ys
tail_same x y xs ys e = cc

consed : (x y : Token) (f g : List Token) (t u : Token) → x ≡ y → Fronts f t g u → Fronts (x ∷ f) t (y ∷ g) u
consed x y f g t u e (one_front a b) = one_front (rw (e, a) refl) b
consed x y f g t u e (front_less more a) = front_less more (rw (e, a) refl)
consed x y f g t u e (front_more more a) = front_more more (rw (e, a) refl)

fronts : (f : List Token) (t : Token) (r g : List Token) (u : Token) (s : List Token) → f ++ t ∷ r ≡ g ++ u ∷ s → Fronts f t g u
fronts [] t r [] u s e = one_front refl (head_same t u r s e)
fronts [] t r (y ∷ ys) u s e = front_less ys (ap (λ (z : Token). z ∷ ys) (sym (head_same t y r (ys ++ u ∷ s) e)))
fronts (x ∷ xs) t r [] u s e = front_more xs (ap (λ (z : Token). z ∷ xs) (head_same x u (xs ++ t ∷ r) s e))
fronts (x ∷ xs) t r (y ∷ ys) u s e = consed x y xs ys t u (head_same x y (xs ++ t ∷ r) (ys ++ u ∷ s) e) (fronts xs t r ys u s (tail_same x y (xs ++ t ∷ r) (ys ++ u ∷ s) e))

fault_same : (f g : PortFault) → f.place ≡ g.place → f.kind ≡ g.kind → f ≡ g
fault_same f g p k = made f.place g.place f.kind g.kind p k
  where
    made : (a b : ℕ) (x y : PortKind) → a ≡ b → x ≡ y → ◌≡◌ {A = PortFault} (record { place = a; kind = x }) (record { place = b; kind = y })
    made a b x y e f = rw (e, f) refl

moved : (kind : PortKind) (f g : List Token) (t u : Token) → f ≡ g → t ≡ u → IsAtFault (f ++ t ∷ []) (length f) kind → IsAtFault (g ++ u ∷ []) (length g) kind
moved kind f g t u p q a = subst (λ (l : List Token). IsAtFault (l ++ u ∷ []) (length l) kind) p (subst (λ (x : Token). IsAtFault (f ++ x ∷ []) (length f) kind) q a)

token_one : (ts : List Token) (f g : PortFault) → IsTokenFault ts f → IsTokenFault ts g → f ≡ g
token_one ts f g a b = by_fronts (fronts a.front a.token a.rest b.front b.token b.rest (sym a.all ∙ b.all))
  where
    by_fronts : Fronts a.front a.token b.front b.token → f ≡ g
    by_fronts (one_front x y) = fault_same f g (a.place ∙ (ap (λ (t : Token). t.place) y ∙ sym b.place))
        (one_kind (b.front ++ b.token ∷ []) (length b.front) f.kind g.kind (moved f.kind a.front b.front a.token b.token x y a.at_fault) b.at_fault)
    by_fronts (front_less more e) = absurd (sound_prefix b.front a.front a.token more f.kind e b.sound a.at_fault)
    by_fronts (front_more more e) = absurd (sound_prefix a.front b.front b.token more g.kind e a.sound b.at_fault)

-- what a fault is
data Class (bytes : List ℕ) (f : PortFault) : Type 0 where
  of_token : IsTokenFault (kept (tokens bytes)) f → Class bytes f
  of_short : f.kind ≡ Short → f.place ≡ length bytes → length bytes ≤ limit → AreSound (tokens bytes) (length (tokens bytes)) → IsCut (tokens bytes) → Class bytes f
  of_missing : (i j : ℕ) → f.kind ≡ Missing i j → f.place ≡ length bytes → length bytes ≤ limit → AreSound (tokens bytes) (length (tokens bytes)) → IsMissing (tokens bytes) i j → Class bytes f
  of_long : f.kind ≡ TooLong → f.place ≡ limit → limit < length bytes → AreSound (kept (tokens bytes)) (length (kept (tokens bytes))) → Class bytes f

classify : (kind : PortKind) (bytes : List ℕ) (f : PortFault) → f.kind ≡ kind → IsFaultBy kind bytes f → Class bytes f
classify Count bytes f e h = of_token h
classify Numeral bytes f e h = of_token h
classify Range bytes f e h = of_token h
classify BelowZero bytes f e h = of_token h
classify Index bytes f e h = of_token h
classify Diagonal bytes f e h = of_token h
classify (Conflict i j) bytes f e h = of_token h
classify Short bytes f e h = of_short e h.0 h.1 h.2 h.3
classify (Missing i j) bytes f e h = of_missing i j e h.0 h.1 h.2 h.3
classify TooLong bytes f e h = of_long e h.0 h.1 h.2

all_kept : (bytes : List ℕ) → length bytes ≤ limit → kept (tokens bytes) ≡ tokens bytes
unfolding tokens
all_kept bytes few = keeps_all (tokens bytes) (tokens_end limit 0 bytes (let l : 0 + length bytes ≤ limit = omega arith in l))

token_end : (bytes : List ℕ) (f : PortFault) → length bytes ≤ limit → AreSound (tokens bytes) (length (tokens bytes)) → IsTokenFault (kept (tokens bytes)) f → ⊥
token_end bytes f few sound h = token_sound (tokens bytes) f sound (subst (λ (ts : List Token). IsTokenFault ts f) (all_kept bytes few) h)

-- tokens that are cut off aren't whole triples
cut_whole : (ts : List Token) (n t : ℕ) → IsCount ts n → length ts ≡ triple_at n t → IsCut ts → ⊥
cut_whole ts n t c e (nothing z) = omega arith
cut_whole ts n t c e (assets m d few) = let same : m ≡ n = one_count ts m n d c in omega arith
cut_whole ts n t c e (triple m u r d low high l) = let same : m ≡ n = one_count ts m n d c in omega arith

-- of two first pairs that are missing none is before the other
before_none : (ts : List Token) (i j i' j' : ℕ) (a : IsMissing ts i j) (b : IsMissing ts i' j') → (a.low < b.low) ⊎ ((a.low ≡ b.low) × (a.high < b.high)) → ⊥
before_none ts i j i' j' a b h =
    let e : a.assets ≡ b.assets = one_count ts a.assets b.assets a.count b.count in
    let there : a.high < b.assets = omega (arith, e, a.there) in
    let named : (t : ℕ) × (v : ℤ) × NamesPair ts b.assets t a.low a.high v = b.first a.low a.high a.in_order there h in
    a.never named.0 named.1 (subst (λ (n : ℕ). NamesPair ts n named.0 a.low a.high named.1) (sym e) named.2)

missing_one : (ts : List Token) (i j i' j' : ℕ) → IsMissing ts i j → IsMissing ts i' j' → Missing i j ≡ Missing i' j'
missing_one ts i j i' j' a b = ⊎_elim
    (λ low. ⊎_elim
    (λ high. (let first : i ≡ i' = omega (arith, a.i_is, b.i_is, low) in let second : j ≡ j' = omega (arith, a.j_is, b.j_is, high) in rw (first, second) refl))
    (λ other. ⊎_elim
    (λ lt. absurd (before_none ts i j i' j' a b (inr (low, lt))))
    (λ ge. absurd (before_none ts i' j' i j b a (inr (sym low, omega (arith, ge, other)))))
    (cases_lt a.high b.high))
    (cases_eq a.high b.high))
    (λ other. ⊎_elim
    (λ lt. absurd (before_none ts i j i' j' a b (inl lt)))
    (λ ge. absurd (before_none ts i' j' i j b a (inl (omega (arith, ge, other)))))
    (cases_lt a.low b.low))
    (cases_eq a.low b.low)

one_of : (bytes : List ℕ) (f g : PortFault) → Class bytes f → Class bytes g → f ≡ g
one_of bytes f g (of_token a) (of_token b) = token_one (kept (tokens bytes)) f g a b
one_of bytes f g (of_token a) (of_short k p few sound cut) = absurd (token_end bytes f few sound a)
one_of bytes f g (of_token a) (of_missing i j k p few sound m) = absurd (token_end bytes f few sound a)
one_of bytes f g (of_token a) (of_long k p many sound) = absurd (token_sound (kept (tokens bytes)) f sound a)
one_of bytes f g (of_short k p few sound cut) (of_token b) = absurd (token_end bytes g few sound b)
one_of bytes f g (of_short k p few sound cut) (of_short k' p' few' sound' cut') = fault_same f g (p ∙ sym p') (k ∙ sym k')
one_of bytes f g (of_short k p few sound cut) (of_missing i j k' p' few' sound' m) = absurd (cut_whole (tokens bytes) m.assets m.triples m.count m.whole cut)
one_of bytes f g (of_short k p few sound cut) (of_long k' p' many sound') = absurd (omega arith)
one_of bytes f g (of_missing i j k p few sound m) (of_token b) = absurd (token_end bytes g few sound b)
one_of bytes f g (of_missing i j k p few sound m) (of_short k' p' few' sound' cut) = absurd (cut_whole (tokens bytes) m.assets m.triples m.count m.whole cut)
one_of bytes f g (of_missing i j k p few sound m) (of_missing i' j' k' p' few' sound' m') = fault_same f g (p ∙ sym p') (k ∙ (missing_one (tokens bytes) i j i' j' m m' ∙ sym k'))
one_of bytes f g (of_missing i j k p few sound m) (of_long k' p' many sound') = absurd (omega arith)
one_of bytes f g (of_long k p many sound) (of_token b) = absurd (token_sound (kept (tokens bytes)) g sound b)
one_of bytes f g (of_long k p many sound) (of_short k' p' few sound' cut) = absurd (omega arith)
one_of bytes f g (of_long k p many sound) (of_missing i j k' p' few sound' m) = absurd (omega arith)
one_of bytes f g (of_long k p many sound) (of_long k' p' many' sound') = fault_same f g (p ∙ sym p') (k ∙ sym k')

-- bytes have one first fault
pub one_fault : (bytes : List ℕ) (f g : PortFault) → IsFaultOf bytes f → IsFaultOf bytes g → f ≡ g
one_fault bytes f g a b = one_of bytes f g (classify f.kind bytes f refl a) (classify g.kind bytes g refl b)

-- bytes that are a file of a market have none
ok_sound : (bytes : List ℕ) (m : MarketValue) (q : Result (Option Sheet) PortFault) → Tracked (kept (tokens bytes)) q → finished (length bytes) q ≡ Ok m → AreSound (kept (tokens bytes)) (length (kept (tokens bytes)))
ok_sound bytes m (Err f) t e = absurd (no_ok f m e)
  where
    no_ok : (f : PortFault) (m : MarketValue) → ◌≡◌ {A = Result MarketValue PortFault} (Err f) (Ok m) → ⊥
    no_ok f m e = cc
ok_sound bytes m (Ok o) t e = sheet_sound (kept (tokens bytes)) o t

market_sound : (bytes : List ℕ) (m : MarketValue) → port bytes ≡ Ok m → AreSound (kept (tokens bytes)) (length (kept (tokens bytes)))
unfolding port
market_sound bytes m e = ok_sound bytes m (judged (kept (tokens bytes))) (tracked (kept (tokens bytes))) e

market_count : (bytes : List ℕ) (m : MarketValue) → IsMarketOf bytes m → IsCount (tokens bytes) m.assets
market_count bytes m a = record { number = a.count; few = a.market.few; many = a.market.many }

no_fault_of : (bytes : List ℕ) (m : MarketValue) (f : PortFault) → port bytes ≡ Ok m → IsMarketOf bytes m → Class bytes f → ⊥
no_fault_of bytes m f e a (of_token h) = token_sound (kept (tokens bytes)) f (market_sound bytes m e) h
no_fault_of bytes m f e a (of_short k p few sound cut) = cut_whole (tokens bytes) m.assets a.triples (market_count bytes m a) a.whole_triples cut
no_fault_of bytes m f e a (of_missing i j k p few sound x) =
    let same : x.assets ≡ m.assets = one_count (tokens bytes) x.assets m.assets x.count (market_count bytes m a) in
    let named : (t : ℕ) × NamesPair (tokens bytes) m.assets t x.low x.high (rho_of m x.low x.high) = a.each_pair x.low x.high x.in_order (omega (arith, same, x.there)) in
    x.never named.0 (rho_of m x.low x.high) (subst (λ (n : ℕ). NamesPair (tokens bytes) n named.0 x.low x.high (rho_of m x.low x.high)) (sym same) named.1)
no_fault_of bytes m f e a (of_long k p many sound) = omega (arith, a.size)

told_by : (bytes : List ℕ) (f : PortFault) (r : Result MarketValue PortFault) → port bytes ≡ r → IsFaultOf bytes f → r ≡ Err f
told_by bytes f (Ok m) e h = absurd (no_fault_of bytes m f e (market_in_words bytes m e) (classify f.kind bytes f refl h))
told_by bytes f (Err g) e h = ap (λ (x : PortFault). Err x) (one_fault bytes g f (fault_in_words bytes g e) h)

-- the first fault in the words of the file is the one that is answered
pub fault_is_told : (bytes : List ℕ) (f : PortFault) → IsFaultOf bytes f → port bytes ≡ Err f
fault_is_told bytes f h = told_by bytes f (port bytes) refl h
