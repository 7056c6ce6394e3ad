-- Two sides without a difference are the same.

use Rattle.std.proofs.Common.{◌≡◌, ◌≢◌, ℕ, suc, ◌+◌, ◌-◌, ◌<◌, ◌≤◌, List, [], ◌∷◌, ◌++◌, length, get_or, Option, None, ◌⊎◌, inl, inr, ⊎_elim, ℤ, pos, refl, sym, ap, ◌∙◌, subst, arith}
use Rattle.std.proofs.lemmas.Bool.{cases_lt, cases_eq}
use Rattle.gap_base.specs.declared.weight.Weight.{Weight}
use Rattle.gap_base.specs.Markets.{MarketValue, IsMarket, rho_of}
use Rattle.gap_instance.specs.Instances.{InstanceValue, IsInstance}
use Rattle.gap_valid.specs.Heads.{table}
use Rattle.gap_valid.specs.Said.{said_rho, said_market, said_instance, IsSaid}
use Rattle.gap_valid.proofs.Same.{list_same, table_same}
use Rattle.gap_valid.proofs.SaidLaws.{said_rho-two, said_rho-same, rho_said}
use Rattle.gap_verify.specs.declared.field.Field.{Field}
use Rattle.gap_verify.specs.declared.field.Field.TheVariants as field
use Rattle.gap_verify.specs.declared.said.Said.TheVariants.{Number, Signed, Range, Limit, Fraction}
use Rattle.gap_verify.specs.Sides.{Side, said_of, groups_below, first_fields, asset_fields, pair_fields, row_fields, weight_at, weight_fields, fields_of}
use Rattle.gap_verify.specs.Differences.{difference_at, first_in, difference_of}
use Rattle.gap_verify.proofs.SaidSame.{agree_of_none, none_of_agree}
use Rattle.gap_verify.proofs.FirstLaws.{none_first, none_second, none_then, first_in-nil, first_in-cons, first_in-append, group_none, groups_all}

-- ---- lists of fields without a difference
head_none : (a b : Side) (f : Field) (fields : List Field) → first_in a b (f ∷ fields) ≡ None → said_of a f ≡ said_of b f
head_none a b f fields h =
    agree_of_none f (said_of a f) (said_of b f) (none_first (difference_at a b f) (first_in a b fields) (sym (first_in-cons a b f fields) ∙ h))

tail_none : (a b : Side) (f : Field) (fields : List Field) → first_in a b (f ∷ fields) ≡ None → first_in a b fields ≡ None
tail_none a b f fields h = none_second (difference_at a b f) (first_in a b fields) (sym (first_in-cons a b f fields) ∙ h)

cons_none : (a b : Side) (f : Field) (fields : List Field) → said_of a f ≡ said_of b f → first_in a b fields ≡ None → first_in a b (f ∷ fields) ≡ None
cons_none a b f fields e h =
    first_in-cons a b f fields ∙ none_then (difference_at a b f) (first_in a b fields) (none_of_agree f (said_of a f) (said_of b f) e) ∙ h

front_none : (a b : Side) (xs ys : List Field) → first_in a b (xs ++ ys) ≡ None → first_in a b xs ≡ None
front_none a b xs ys h = none_first (first_in a b xs) (first_in a b ys) (sym (first_in-append a b xs ys) ∙ h)

back_none : (a b : Side) (xs ys : List Field) → first_in a b (xs ++ ys) ≡ None → first_in a b ys ≡ None
back_none a b xs ys h = none_second (first_in a b xs) (first_in a b ys) (sym (first_in-append a b xs ys) ∙ h)

join_none : (a b : Side) (xs ys : List Field) → first_in a b xs ≡ None → first_in a b ys ≡ None → first_in a b (xs ++ ys) ≡ None
join_none a b xs ys h k = first_in-append a b xs ys ∙ none_then (first_in a b xs) (first_in a b ys) h ∙ k

-- the parts of all fields have no difference
record NoneIn (a b : Side) : Type 0 where
  singles : first_in a b first_fields ≡ None
  assets : first_in a b (groups_below asset_fields b.instance.market.assets) ≡ None
  rows : first_in a b (groups_below (row_fields b.instance.market.assets) b.instance.market.assets) ≡ None
  count : first_in a b (field.Weights ∷ groups_below weight_fields (length b.weights)) ≡ None

none_in : (a b : Side) → difference_of a b ≡ None → NoneIn a b
unfolding difference_of fields_of
none_in a b h =
    let n = b.instance.market.assets in
    let counted = field.Weights ∷ groups_below weight_fields (length b.weights) in
    let behind : first_in a b (groups_below asset_fields n ++ (groups_below (row_fields n) n ++ counted)) ≡ None = back_none a b first_fields (groups_below asset_fields n ++ (groups_below (row_fields n) n ++ counted)) h in
    let last : first_in a b (groups_below (row_fields n) n ++ counted) ≡ None = back_none a b (groups_below asset_fields n) (groups_below (row_fields n) n ++ counted) behind in
    record {
      singles = front_none a b first_fields (groups_below asset_fields n ++ (groups_below (row_fields n) n ++ counted)) h;
      assets = front_none a b (groups_below asset_fields n) (groups_below (row_fields n) n ++ counted) behind;
      rows = front_none a b (groups_below (row_fields n) n) counted last;
      count = back_none a b (groups_below (row_fields n) n) counted last;
    }

none_of : (a b : Side) → NoneIn a b → difference_of a b ≡ None
unfolding difference_of fields_of
none_of a b h =
    let n = b.instance.market.assets in
    let counted = field.Weights ∷ groups_below weight_fields (length b.weights) in
    join_none a b first_fields (groups_below asset_fields n ++ (groups_below (row_fields n) n ++ counted)) h.singles
    (join_none a b (groups_below asset_fields n) (groups_below (row_fields n) n ++ counted) h.assets (join_none a b (groups_below (row_fields n) n) counted h.rows h.count))

-- ---- what is said is the same
number_same : (m n : ℕ) → Number m ≡ Number n → m ≡ n
number_same m n e = cc

signed_same : (m n : ℤ) → Signed m ≡ Signed n → m ≡ n
signed_same m n e = cc

fewest_same : (a b c d : ℕ) → Range a b ≡ Range c d → a ≡ c
fewest_same a b c d e = cc

most_same : (a b c d : ℕ) → Range a b ≡ Range c d → b ≡ d
most_same a b c d e = cc

limit_same : (t u : Option ℕ) → Limit t ≡ Limit u → t ≡ u
limit_same t u e = cc

fraction_same : (v w : Weight) → Fraction v ≡ Fraction w → v ≡ w
fraction_same v w e = cc

-- the values that no asset and no weight has
record SameSingles (a b : Side) : Type 0 where
  assets : a.instance.market.assets ≡ b.instance.market.assets
  lots : a.instance.lots ≡ b.instance.lots
  fewest : a.instance.held ≡ b.instance.held
  most : a.instance.held_most ≡ b.instance.held_most
  turnover : a.instance.turnover ≡ b.instance.turnover
  nodes : a.nodes ≡ b.nodes

same_singles : (a b : Side) → NoneIn a b → SameSingles a b
unfolding said_of
same_singles a b h =
    let t1 = tail_none a b field.Assets (field.Lots ∷ field.Held ∷ field.Turnover ∷ field.Nodes ∷ []) h.singles in
    let t2 = tail_none a b field.Lots (field.Held ∷ field.Turnover ∷ field.Nodes ∷ []) t1 in
    let t3 = tail_none a b field.Held (field.Turnover ∷ field.Nodes ∷ []) t2 in
    let t4 = tail_none a b field.Turnover (field.Nodes ∷ []) t3 in
    record {
      assets = number_same a.instance.market.assets b.instance.market.assets (head_none a b field.Assets (field.Lots ∷ field.Held ∷ field.Turnover ∷ field.Nodes ∷ []) h.singles);
      lots = number_same a.instance.lots b.instance.lots (head_none a b field.Lots (field.Held ∷ field.Turnover ∷ field.Nodes ∷ []) t1);
      fewest = fewest_same a.instance.held a.instance.held_most b.instance.held b.instance.held_most (head_none a b field.Held (field.Turnover ∷ field.Nodes ∷ []) t2);
      most = most_same a.instance.held a.instance.held_most b.instance.held b.instance.held_most (head_none a b field.Held (field.Turnover ∷ field.Nodes ∷ []) t2);
      turnover = limit_same a.instance.turnover b.instance.turnover (head_none a b field.Turnover (field.Nodes ∷ []) t3);
      nodes = number_same a.nodes b.nodes (head_none a b field.Nodes [] t4);
    }

-- the same by what the code has
pub assets_agree : (a b : Side) → first_in a b first_fields ≡ None → a.instance.market.assets ≡ b.instance.market.assets
unfolding said_of
assets_agree a b h =
    number_same a.instance.market.assets b.instance.market.assets (head_none a b field.Assets (field.Lots ∷ field.Held ∷ field.Turnover ∷ field.Nodes ∷ []) h)

pub count_agree : (a b : Side) → difference_at a b field.Weights ≡ None → length a.weights ≡ length b.weights
unfolding said_of
count_agree a b h = number_same (length a.weights) (length b.weights) (agree_of_none field.Weights (said_of a field.Weights) (said_of b field.Weights) h)

-- the values of asset i
record SameAsset (a b : Side) (i : ℕ) : Type 0 where
  mean : get_or a.instance.market.means i (pos 0) ≡ get_or b.instance.market.means i (pos 0)
  deviation : get_or a.instance.market.deviations i 0 ≡ get_or b.instance.market.deviations i 0
  least : get_or a.instance.least i 0 ≡ get_or b.instance.least i 0
  greatest : get_or a.instance.greatest i 0 ≡ get_or b.instance.greatest i 0
  present : get_or a.instance.present i 0 ≡ get_or b.instance.present i 0

same_asset : (a b : Side) (i : ℕ) → first_in a b (asset_fields i) ≡ None → SameAsset a b i
unfolding said_of
same_asset a b i h =
    let t1 = tail_none a b (field.Mean i) (field.Deviation i ∷ field.Least i ∷ field.Greatest i ∷ field.Present i ∷ []) h in
    let t2 = tail_none a b (field.Deviation i) (field.Least i ∷ field.Greatest i ∷ field.Present i ∷ []) t1 in
    let t3 = tail_none a b (field.Least i) (field.Greatest i ∷ field.Present i ∷ []) t2 in
    let t4 = tail_none a b (field.Greatest i) (field.Present i ∷ []) t3 in
    record {
      mean = signed_same _ _ (head_none a b (field.Mean i) (field.Deviation i ∷ field.Least i ∷ field.Greatest i ∷ field.Present i ∷ []) h);
      deviation = number_same _ _ (head_none a b (field.Deviation i) (field.Least i ∷ field.Greatest i ∷ field.Present i ∷ []) t1);
      least = number_same _ _ (head_none a b (field.Least i) (field.Greatest i ∷ field.Present i ∷ []) t2);
      greatest = number_same _ _ (head_none a b (field.Greatest i) (field.Present i ∷ []) t3);
      present = number_same _ _ (head_none a b (field.Present i) [] t4);
    }

each_asset : (a b : Side) → NoneIn a b → (i : ℕ) → i < b.instance.market.assets → SameAsset a b i
each_asset a b h i l = same_asset a b i (group_none a b asset_fields b.instance.market.assets i l h.assets)

-- ---- correlations
pair_said : (a b : Side) → NoneIn a b → (i k : ℕ) → i < b.instance.market.assets → k < b.instance.market.assets - suc i → rho_of a.instance.market i (suc i + k) ≡ rho_of b.instance.market i (suc i + k)
unfolding said_of
pair_said a b h i k p q =
    let n = b.instance.market.assets in
    let row : first_in a b (row_fields n i) ≡ None = group_none a b (row_fields n) n i p h.rows in
    let one : first_in a b (field.Correlation i (suc i + k) ∷ []) ≡ None = group_none a b (pair_fields i) (n - suc i) k q row in
    signed_same _ _ (head_none a b (field.Correlation i (suc i + k)) [] one)

pair_same : (a b : Side) → NoneIn a b → (i j : ℕ) → i < j → j < b.instance.market.assets → rho_of a.instance.market i j ≡ rho_of b.instance.market i j
pair_same a b h i j p q =
    let e : suc i + (j - suc i) ≡ j = omega arith in
    let s = pair_said a b h i (j - suc i) (omega arith) (omega arith) in
    subst (λ (c : ℕ). rho_of a.instance.market i c ≡ rho_of b.instance.market i c) e s

two_same : (a b : Side) → NoneIn a b → IsMarket a.instance.market → IsMarket b.instance.market → (i j : ℕ) → i ≢ j → i < b.instance.market.assets → j < b.instance.market.assets → rho_of a.instance.market i j ≡ rho_of b.instance.market i j
two_same a b h am bm i j ne p q = each (cases_lt i j) (cases_lt j i)
  where
    same : a.instance.market.assets ≡ b.instance.market.assets
    same = (same_singles a b h).assets

    each : (i < j) ⊎ (j ≤ i) → (j < i) ⊎ (i ≤ j) → rho_of a.instance.market i j ≡ rho_of b.instance.market i j
    each (inl l) m = pair_same a b h i j l q
    each (inr l) (inl m) = am.symmetric i j (rw same p) (rw same q) ∙ pair_same a b h j i m p ∙ bm.symmetric j i q p
    each (inr l) (inr m) = absurd (ne (omega arith))

entry_same : (a b : Side) → NoneIn a b → IsMarket a.instance.market → IsMarket b.instance.market → (i j : ℕ) → i < b.instance.market.assets → j < b.instance.market.assets → said_rho a.instance.market i j ≡ said_rho b.instance.market i j
entry_same a b h am bm i j p q =
    ⊎_elim
    (λ e. said_rho-same a.instance.market i j e ∙ sym (said_rho-same b.instance.market i j e))
    (λ ne. said_rho-two a.instance.market i j ne ∙ two_same a b h am bm i j ne p q ∙ sym (said_rho-two b.instance.market i j ne))
    (cases_eq i j)

table_said : (a b : Side) → NoneIn a b → IsMarket a.instance.market → IsMarket b.instance.market → table a.instance.market.assets (said_rho a.instance.market) ≡ table b.instance.market.assets (said_rho b.instance.market)
table_said a b h am bm =
    ap (λ (n : ℕ). table n (said_rho a.instance.market)) (same_singles a b h).assets
    ∙ table_same b.instance.market.assets (said_rho a.instance.market) (said_rho b.instance.market) (entry_same a b h am bm)

-- ---- the instance, by all that it is made of
made_market : ℕ → List ℤ → List ℕ → List ℤ → MarketValue
made_market n means deviations correlations = record { assets = n; means = means; deviations = deviations; correlations = correlations; rounded = 0 }

made_instance : MarketValue → ℕ → ℕ → ℕ → List ℕ → List ℕ → List ℕ → Option ℕ → InstanceValue
made_instance m lots fewest most least greatest present turnover = record {
  market = m;
  lots = lots;
  held = fewest;
  held_most = most;
  least = least;
  greatest = greatest;
  present = present;
  turnover = turnover;
}

made_market_same : (n n' : ℕ) (a a' : List ℤ) (b b' : List ℕ) (c c' : List ℤ) → n ≡ n' → a ≡ a' → b ≡ b' → c ≡ c' → made_market n a b c ≡ made_market n' a' b' c'
made_market_same n n' a a' b b' c c' en ea eb ec = cc

made_instance_same : (m m' : MarketValue) (a a' b b' c c' : ℕ) (d d' e e' f f' : List ℕ) (t t' : Option ℕ) → m ≡ m' → a ≡ a' → b ≡ b' → c ≡ c' → d ≡ d' → e ≡ e' → f ≡ f' → t ≡ t' → made_instance m a b c d e f t ≡ made_instance m' a' b' c' d' e' f' t'
made_instance_same m m' a a' b b' c c' d d' e e' f f' t t' em ea eb ec ed ee ef et = cc

market_same : (a b : Side) → NoneIn a b → IsMarket a.instance.market → IsMarket b.instance.market → said_market a.instance.market ≡ said_market b.instance.market
unfolding said_market made_market
market_same a b h am bm =
    let n = b.instance.market.assets in
    let assets = (same_singles a b h).assets in
    made_market_same a.instance.market.assets n a.instance.market.means b.instance.market.means a.instance.market.deviations b.instance.market.deviations
    (table a.instance.market.assets (said_rho a.instance.market)) (table n (said_rho b.instance.market)) assets
    (list_same n (pos 0) a.instance.market.means b.instance.market.means (am.means_length ∙ assets) bm.means_length (λ k l. (each_asset a b h k l).mean))
    (list_same {X = ℕ} n 0 a.instance.market.deviations b.instance.market.deviations (am.deviations_length ∙ assets) bm.deviations_length (λ k l. (each_asset a b h k l).deviation))
    (table_said a b h am bm)

saids_same : (a b : Side) → NoneIn a b → IsInstance a.instance → IsInstance b.instance → said_instance a.instance ≡ said_instance b.instance
unfolding said_instance made_instance
saids_same a b h ai bi =
    let n = b.instance.market.assets in
    let single = same_singles a b h in
    let al = ai.limits_are in
    let bl = bi.limits_are in
    made_instance_same (said_market a.instance.market) (said_market b.instance.market) a.instance.lots b.instance.lots a.instance.held b.instance.held a.instance.held_most b.instance.held_most
    a.instance.least b.instance.least a.instance.greatest b.instance.greatest a.instance.present b.instance.present a.instance.turnover b.instance.turnover
    (market_same a b h ai.market_is bi.market_is) single.lots single.fewest single.most
    (list_same {X = ℕ} n 0 a.instance.least b.instance.least (al.least_within.count ∙ single.assets) bl.least_within.count (λ k l. (each_asset a b h k l).least))
    (list_same {X = ℕ} n 0 a.instance.greatest b.instance.greatest (al.greatest_within.count ∙ single.assets) bl.greatest_within.count (λ k l. (each_asset a b h k l).greatest))
    (list_same {X = ℕ} n 0 a.instance.present b.instance.present (al.present_within.count ∙ single.assets) bl.present_within.count (λ k l. (each_asset a b h k l).present))
    single.turnover

pub instances_same : (a b : Side) → IsInstance a.instance → IsInstance b.instance → IsSaid a.instance → difference_of a b ≡ None → a.instance ≡ said_instance b.instance
instances_same a b ai bi said h = said ∙ saids_same a b (none_in a b h) ai bi

pub nodes_same : (a b : Side) → difference_of a b ≡ None → a.nodes ≡ b.nodes
nodes_same a b h = (same_singles a b (none_in a b h)).nodes

-- ---- the weights
no_weight : Weight
no_weight = record { p = 0; q = 1 }

count_same : (a b : Side) → NoneIn a b → length a.weights ≡ length b.weights
unfolding said_of
count_same a b h = number_same _ _ (head_none a b field.Weights (groups_below weight_fields (length b.weights)) h.count)

weight_same : (a b : Side) → NoneIn a b → (k : ℕ) → k < length b.weights → weight_at a.weights k ≡ weight_at b.weights k
unfolding said_of
weight_same a b h k l =
    let all : first_in a b (groups_below weight_fields (length b.weights)) ≡ None = tail_none a b field.Weights (groups_below weight_fields (length b.weights)) h.count in
    fraction_same _ _ (head_none a b (field.Weight k) [] (group_none a b weight_fields (length b.weights) k l all))

pub weights_same : (a b : Side) → difference_of a b ≡ None → a.weights ≡ b.weights
weights_same a b h =
    let known = none_in a b h in
    list_same (length b.weights) (record { p = 0; q = 1 }) a.weights b.weights (count_same a b known) refl (weight_same a b known)

-- ---- sides that are the same have no difference
said_side : Side → Side
said_side b = record b { instance = said_instance b.instance }

said_singles : (b : Side) → first_in (said_side b) b first_fields ≡ None
unfolding said_side said_of said_instance said_market
said_singles b =
    let a = said_side b in
    cons_none a b field.Assets (field.Lots ∷ field.Held ∷ field.Turnover ∷ field.Nodes ∷ []) refl
    (cons_none a b field.Lots (field.Held ∷ field.Turnover ∷ field.Nodes ∷ []) refl
    (cons_none a b field.Held (field.Turnover ∷ field.Nodes ∷ []) refl (cons_none a b field.Turnover (field.Nodes ∷ []) refl (cons_none a b field.Nodes [] refl (first_in-nil a b)))))

said_asset : (b : Side) (i : ℕ) → first_in (said_side b) b (asset_fields i) ≡ None
unfolding said_side said_of said_instance said_market
said_asset b i =
    let a = said_side b in
    cons_none a b (field.Mean i) (field.Deviation i ∷ field.Least i ∷ field.Greatest i ∷ field.Present i ∷ []) refl
    (cons_none a b (field.Deviation i) (field.Least i ∷ field.Greatest i ∷ field.Present i ∷ []) refl
    (cons_none a b (field.Least i) (field.Greatest i ∷ field.Present i ∷ []) refl (cons_none a b (field.Greatest i) (field.Present i ∷ []) refl (cons_none a b (field.Present i) [] refl (first_in-nil a b)))))

said_pair : (b : Side) (i j : ℕ) → i < b.instance.market.assets → j < b.instance.market.assets → first_in (said_side b) b (field.Correlation i j ∷ []) ≡ None
unfolding said_side said_of said_instance
said_pair b i j p q = cons_none (said_side b) b (field.Correlation i j) [] (ap Signed (rho_said b.instance.market i j p q)) (first_in-nil (said_side b) b)

said_row : (b : Side) (i : ℕ) → i < b.instance.market.assets → first_in (said_side b) b (row_fields b.instance.market.assets i) ≡ None
said_row b i p =
    groups_all (said_side b) b (pair_fields i) (b.instance.market.assets - suc i) (λ k l. said_pair b i (suc i + k) p (omega arith))

said_weights : (b : Side) → first_in (said_side b) b (field.Weights ∷ groups_below weight_fields (length b.weights)) ≡ None
unfolding said_side said_of
said_weights b =
    let a = said_side b in
    cons_none a b field.Weights (groups_below weight_fields (length b.weights)) refl
    (groups_all a b weight_fields (length b.weights) (λ k l. cons_none a b (field.Weight k) [] refl (first_in-nil a b)))

said_none : (b : Side) → difference_of (said_side b) b ≡ None
said_none b =
    none_of (said_side b) b
    (record {
      singles = said_singles b;
      assets = groups_all (said_side b) b asset_fields b.instance.market.assets (λ i l. said_asset b i);
      rows = groups_all (said_side b) b (row_fields b.instance.market.assets) b.instance.market.assets (λ i l. said_row b i l);
      count = said_weights b;
    })

made_side : InstanceValue → ℕ → List Weight → Side
made_side I nodes weights = record { instance = I; nodes = nodes; weights = weights }

made_side_same : (I J : InstanceValue) (n m : ℕ) (v w : List Weight) → I ≡ J → n ≡ m → v ≡ w → made_side I n v ≡ made_side J m w
made_side_same I J n m v w e f g = cc

pub none_of_same : (a b : Side) → a.instance ≡ said_instance b.instance → a.nodes ≡ b.nodes → a.weights ≡ b.weights → difference_of a b ≡ None
unfolding made_side said_side
none_of_same a b e f g =
    let same : a ≡ said_side b = made_side_same a.instance (said_instance b.instance) a.nodes b.nodes a.weights b.weights e f g in
    ap (λ (s : Side). difference_of s b) same ∙ said_none b
