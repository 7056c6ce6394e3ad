-- The items of a head, by the grammar: what comes next is due, and the stage behind it.
use Rattle.std.proofs.Common.{◌≡◌, ◌≢◌, ℕ, zero, suc, ◌+◌, ◌-◌, ◌*◌, ◌≤◌, ◌⊎◌, inl, inr, ◌==◌, if◌then◌else◌, Bool, true, false, List, [], ◌∷◌, ◌++◌, length, ℤ, unsigned_abs, refl, sym, ap, ◌∙◌, subst, arith, length-append}
use Rattle.std.proofs.lemmas.Bool.{cases_eq}
use Rattle.std.proofs.lemmas.Bool.Decides.{nat_tests}
use Rattle.std.proofs.lemmas.List.Elements.{All-push, All-nil}
use Rattle.gap_base.specs.Sizes.{most_millionths, most_factor}
use Rattle.gap_cert.specs.declared.field.Field.TheVariants as field
use Rattle.gap_cert.specs.declared.field.Group.{Group}
use Rattle.gap_cert.specs.declared.context.Phase.{Phase}
use Rattle.gap_cert.specs.declared.context.Phase.TheVariants as phase
use Rattle.gap_cert.specs.declared.context.Context.{Context}
use Rattle.gap_cert.specs.Contexts.{after, behind_field, steps, enters}
use Rattle.gap_cert.specs.Certificates.{AssetLine, CertHead, asset_field, group_in}
use Rattle.gap_valid.specs.Heads.{pairs_before, rows_before, IsHead, IsAssetLine, IsDiagonal}
use Rattle.gap_judge.specs.Progress.{Progress, fresh_progress, progress_behind, with_asset, with_correlation, with_factor, with_diagonal}
use Rattle.gap_judge.specs.Faults.{IsItemRight}
use Rattle.gap_judge.specs.Ready.{IsDue}
use Rattle.gap_check.specs.Stages.{IsSameHead, IsFront, pair_count, entry_count, AreCounts, IsHeadAt, IsWholeAt, IsStage, EndsAt, IsAt}
use Rattle.gap_judge.proofs.PairLaws.{mul_suc, pairs_twice, rows_twice, less_one, pairs_are, rows_are}
use Rattle.gap_check.proofs.Nexts.{NextHead, NextAsset, NextCorrelation, NextFactor, NextDiagonal, NextSections}

-- what comes next is due, and leads to the next stage where it is right
pub record Goes (c : Context) (p : Progress) (g : Group) : Type 0 where
  pub due : IsDue p g.field
  pub stage : IsItemRight p g.field → IsAt (after c g) (progress_behind p g.field)

pub at_phase : (q : Phase) (c : Context) (p : Progress) → c.phase ≡ q → IsStage q c p → EndsAt q p → IsAt c p
at_phase q c p e s t = record { stage = subst (λ (r : Phase). IsStage r c p) (sym e) s; ends = subst (λ (r : Phase). EndsAt r p) (sym e) t }

-- behind an item of a phase
pub steps_at : (P : Context → Type 0) (c : Context) (next : Phase) (n : ℕ) → (c.left ≡ 1 → P (enters c next n)) → (c.left ≢ 1 → P (record c { left = c.left - 1 })) → P (steps c next n)
steps_at P c next n f g = by (cases_eq c.left 1)
  where
    by : (c.left ≡ 1) ⊎ (c.left ≡ 1 → ⊥) → P (steps c next n)
    by (inl e) = subst (λ (b : Bool). P (if b then enters c next n else record c { left = c.left - 1 })) (sym (is_true e)) (f e)
      where
        is_true : c.left ≡ 1 → (c.left == 1) ≡ true
        is_true e = grind (arith, nat_tests)
    by (inr k) = subst (λ (b : Bool). P (if b then enters c next n else record c { left = c.left - 1 })) (sym (is_false k)) (g k)
      where
        is_false : (c.left ≡ 1 → ⊥) → (c.left == 1) ≡ false
        is_false k = grind (arith, nat_tests)

-- ---- counts

product_some : (n : ℕ) → 2 ≤ n → n ≤ n * (n - 1)
product_some zero h = omega arith
product_some (suc zero) h = omega arith
product_some (suc (suc n)) h = let a = mul_suc (suc (suc n)) n in omega (arith, a)

some_pairs : (n : ℕ) → 2 ≤ n → 1 ≤ pair_count n
some_pairs n h = let a = pairs_twice n n (omega arith) in let b = less_one n in let c = product_some n h in let e = pairs_are n in omega (arith, a, b, c, e)

some_entries : (n : ℕ) → 2 ≤ n → 1 ≤ entry_count n
some_entries n h = let a = rows_twice n in let e = rows_are n in omega (arith, a, e)

one_longer : {X : Type 0} (xs : List X) (x : X) → length (xs ++ x ∷ []) ≡ length xs + 1
one_longer xs x = length-append xs (x ∷ [])

-- ---- the first group

pub head_goes : (c : Context) (p : Progress) (g : Group) → p ≡ fresh_progress → NextHead g → Goes c p g
unfolding fresh_progress IsDue progress_behind behind_field IsStage
head_goes c p g e n = subst (λ (q : Progress). Goes c q g) (sym e) (subst (Goes c fresh_progress) (sym n.group_is) begun)
  where
    front : IsFront (progress_behind fresh_progress (field.Head n.n n.lots n.held n.held_most n.turnover n.nodes)).head
    front = record {
      few = n.few;
      many = n.many;
      lots_least = n.lots_least;
      lots_most = n.lots_small;
      held_least = n.held_least;
      held_range = n.held_range;
      held_most = n.most_range;
      turnover_most = n.turnover_small;
      nodes_most = n.nodes_small;
      assets_are = All-nil _;
      correlations_are = All-nil _;
      factor_are = All-nil _;
      diagonal_are = All-nil _;
    }

    begun : Goes c fresh_progress (group_in g.version (field.Head n.n n.lots n.held n.held_most n.turnover n.nodes))
    begun = record {
      due = (record { assets_are = refl; correlations_are = refl; factor_is = refl; diagonal_is = refl }, n.few);
      stage = λ right. at_phase phase.Assets _ _ refl (
        record {
          same = record { n_is = refl; lots_is = refl; held_is = refl; held_most_is = refl; turnover_is = refl };
          front = front;
          counts = record { assets_count = omega arith; correlations_count = refl; factor_count = refl; diagonal_count = refl };
          more = omega (arith, n.few);
        },
        omega arith,
      ) refl;
    }

-- ---- the lists of the head

asset_front : (h : CertHead) (a : AssetLine) → IsFront h → IsAssetLine h.lots a → IsFront (with_asset h a)
asset_front h a f r = record {
  few = f.few;
  many = f.many;
  lots_least = f.lots_least;
  lots_most = f.lots_most;
  held_least = f.held_least;
  held_range = f.held_range;
  held_most = f.held_most;
  turnover_most = f.turnover_most;
  nodes_most = f.nodes_most;
  assets_are = All-push (IsAssetLine h.lots) h.assets a f.assets_are r;
  correlations_are = f.correlations_are;
  factor_are = f.factor_are;
  diagonal_are = f.diagonal_are;
}

correlation_front : (h : CertHead) (v : ℤ) → IsFront h → unsigned_abs v ≤ most_millionths → IsFront (with_correlation h v)
correlation_front h v f r = record {
  few = f.few;
  many = f.many;
  lots_least = f.lots_least;
  lots_most = f.lots_most;
  held_least = f.held_least;
  held_range = f.held_range;
  held_most = f.held_most;
  turnover_most = f.turnover_most;
  nodes_most = f.nodes_most;
  assets_are = f.assets_are;
  correlations_are = All-push (λ rho. unsigned_abs rho ≤ most_millionths) h.correlations v f.correlations_are r;
  factor_are = f.factor_are;
  diagonal_are = f.diagonal_are;
}

factor_front : (h : CertHead) (v : ℤ) → IsFront h → unsigned_abs v ≤ most_factor → IsFront (with_factor h v)
factor_front h v f r = record {
  few = f.few;
  many = f.many;
  lots_least = f.lots_least;
  lots_most = f.lots_most;
  held_least = f.held_least;
  held_range = f.held_range;
  held_most = f.held_most;
  turnover_most = f.turnover_most;
  nodes_most = f.nodes_most;
  assets_are = f.assets_are;
  correlations_are = f.correlations_are;
  factor_are = All-push (λ r. unsigned_abs r ≤ most_factor) h.factor v f.factor_are r;
  diagonal_are = f.diagonal_are;
}

diagonal_front : (h : CertHead) (v : ℤ) → IsFront h → IsDiagonal v → IsFront (with_diagonal h v)
diagonal_front h v f r = record {
  few = f.few;
  many = f.many;
  lots_least = f.lots_least;
  lots_most = f.lots_most;
  held_least = f.held_least;
  held_range = f.held_range;
  held_most = f.held_most;
  turnover_most = f.turnover_most;
  nodes_most = f.nodes_most;
  assets_are = f.assets_are;
  correlations_are = f.correlations_are;
  factor_are = f.factor_are;
  diagonal_are = All-push IsDiagonal h.diagonal v f.diagonal_are r;
}

abbrev Same : Context → CertHead → Type 0
Same c h = IsSameHead c h

-- the same numbers behind an item of the lists
asset_same : (c : Context) (h : CertHead) (a : AssetLine) (q : Phase) (k : ℕ) → IsSameHead c h → IsSameHead (enters c q k) (with_asset h a)
asset_same c h a q k s = record { n_is = s.n_is; lots_is = s.lots_is; held_is = s.held_is; held_most_is = s.held_most_is; turnover_is = s.turnover_is }

correlation_same : (c : Context) (h : CertHead) (v : ℤ) (q : Phase) (k : ℕ) → IsSameHead c h → IsSameHead (enters c q k) (with_correlation h v)
correlation_same c h v q k s = record { n_is = s.n_is; lots_is = s.lots_is; held_is = s.held_is; held_most_is = s.held_most_is; turnover_is = s.turnover_is }

factor_same : (c : Context) (h : CertHead) (v : ℤ) (q : Phase) (k : ℕ) → IsSameHead c h → IsSameHead (enters c q k) (with_factor h v)
factor_same c h v q k s = record { n_is = s.n_is; lots_is = s.lots_is; held_is = s.held_is; held_most_is = s.held_most_is; turnover_is = s.turnover_is }

diagonal_same : (c : Context) (h : CertHead) (v : ℤ) (q : Phase) (k : ℕ) → IsSameHead c h → IsSameHead (enters c q k) (with_diagonal h v)
diagonal_same c h v q k s = record { n_is = s.n_is; lots_is = s.lots_is; held_is = s.held_is; held_most_is = s.held_most_is; turnover_is = s.turnover_is }

pub assets_go : (c : Context) (p : Progress) (g : Group) → c.phase ≡ phase.Assets → p.ended ≡ false → IsHeadAt c p.head (c.n - c.left) 0 0 0 → c.left ≤ c.n → NextAsset c g → Goes c p g
unfolding IsDue progress_behind behind_field IsStage
assets_go c p g e unended h l n = subst (Goes c p) (sym n.group_is) (record { due = omega (arith, h.counts.diagonal_count, h.front.few); stage = λ right. steps_at (λ d. IsAt d (progress_behind p (asset_field n.line))) c phase.Correlations (pair_count c.n) last more })
  where
    line : IsAssetLine p.head.lots n.line
    line = subst (λ (k : ℕ). IsAssetLine k n.line) (sym h.same.lots_is) n.ranges

    few : 2 ≤ c.n
    few = omega (arith, h.front.few, h.same.n_is)

    last : c.left ≡ 1 → IsAt (enters c phase.Correlations (pair_count c.n)) (progress_behind p (asset_field n.line))
    last one = at_phase phase.Correlations _ _ refl (
      record {
        same = asset_same c p.head n.line phase.Correlations (pair_count c.n) h.same;
        front = asset_front p.head n.line h.front line;
        counts = record { assets_count = omega (arith, one_longer p.head.assets n.line, h.counts.assets_count, one, few); correlations_count = omega (arith, h.counts.correlations_count); factor_count = h.counts.factor_count; diagonal_count = h.counts.diagonal_count };
        more = some_pairs c.n few;
      },
      omega arith,
    ) unended

    more : c.left ≢ 1 → IsAt (record c { left = c.left - 1 }) (progress_behind p (asset_field n.line))
    more other = at_phase phase.Assets _ _ e (
      record {
        same = asset_same c p.head n.line c.phase (c.left - 1) h.same;
        front = asset_front p.head n.line h.front line;
        counts = record { assets_count = omega (arith, one_longer p.head.assets n.line, h.counts.assets_count, h.more, l); correlations_count = h.counts.correlations_count; factor_count = h.counts.factor_count; diagonal_count = h.counts.diagonal_count };
        more = omega (arith, h.more, other);
      },
      omega (arith, l),
    ) unended

pub correlations_go : (c : Context) (p : Progress) (g : Group) → c.phase ≡ phase.Correlations → p.ended ≡ false → IsHeadAt c p.head c.n (pair_count c.n - c.left) 0 0 → c.left ≤ pair_count c.n → NextCorrelation c g → Goes c p g
unfolding IsDue progress_behind behind_field IsStage
correlations_go c p g e unended h l n = subst (Goes c p) (sym n.group_is) (record { due = omega (arith, h.counts.diagonal_count, h.front.few); stage = λ right. steps_at (λ d. IsAt d (progress_behind p (field.Correlation n.rho))) c phase.Factor (entry_count c.n) last more })
  where
    few : 2 ≤ c.n
    few = omega (arith, h.front.few, h.same.n_is)

    last : c.left ≡ 1 → IsAt (enters c phase.Factor (entry_count c.n)) (progress_behind p (field.Correlation n.rho))
    last one = at_phase phase.Factor _ _ refl (
      record {
        same = correlation_same c p.head n.rho phase.Factor (entry_count c.n) h.same;
        front = correlation_front p.head n.rho h.front n.small;
        counts = record { assets_count = h.counts.assets_count; correlations_count = omega (arith, one_longer p.head.correlations n.rho, h.counts.correlations_count, one, l); factor_count = omega (arith, h.counts.factor_count); diagonal_count = h.counts.diagonal_count };
        more = some_entries c.n few;
      },
      omega arith,
    ) unended

    more : c.left ≢ 1 → IsAt (record c { left = c.left - 1 }) (progress_behind p (field.Correlation n.rho))
    more other = at_phase phase.Correlations _ _ e (
      record {
        same = correlation_same c p.head n.rho c.phase (c.left - 1) h.same;
        front = correlation_front p.head n.rho h.front n.small;
        counts = record { assets_count = h.counts.assets_count; correlations_count = omega (arith, one_longer p.head.correlations n.rho, h.counts.correlations_count, h.more, l); factor_count = h.counts.factor_count; diagonal_count = h.counts.diagonal_count };
        more = omega (arith, h.more, other);
      },
      omega (arith, l),
    ) unended

pub factor_goes : (c : Context) (p : Progress) (g : Group) → c.phase ≡ phase.Factor → p.ended ≡ false → IsHeadAt c p.head c.n (pair_count c.n) (entry_count c.n - c.left) 0 → c.left ≤ entry_count c.n → NextFactor c g → Goes c p g
unfolding IsDue progress_behind behind_field IsStage
factor_goes c p g e unended h l n = subst (Goes c p) (sym n.group_is) (record { due = omega (arith, h.counts.diagonal_count, h.front.few); stage = λ right. steps_at (λ d. IsAt d (progress_behind p (field.FactorEntry n.r))) c phase.Diagonal c.n last more })
  where
    few : 2 ≤ c.n
    few = omega (arith, h.front.few, h.same.n_is)

    last : c.left ≡ 1 → IsAt (enters c phase.Diagonal c.n) (progress_behind p (field.FactorEntry n.r))
    last one = at_phase phase.Diagonal _ _ refl (
      record {
        same = factor_same c p.head n.r phase.Diagonal c.n h.same;
        front = factor_front p.head n.r h.front n.small;
        counts = record { assets_count = h.counts.assets_count; correlations_count = h.counts.correlations_count; factor_count = omega (arith, one_longer p.head.factor n.r, h.counts.factor_count, one, l); diagonal_count = omega (arith, h.counts.diagonal_count) };
        more = omega (arith, few);
      },
      omega arith,
    ) unended

    more : c.left ≢ 1 → IsAt (record c { left = c.left - 1 }) (progress_behind p (field.FactorEntry n.r))
    more other = at_phase phase.Factor _ _ e (
      record {
        same = factor_same c p.head n.r c.phase (c.left - 1) h.same;
        front = factor_front p.head n.r h.front n.small;
        counts = record { assets_count = h.counts.assets_count; correlations_count = h.counts.correlations_count; factor_count = omega (arith, one_longer p.head.factor n.r, h.counts.factor_count, h.more, l); diagonal_count = h.counts.diagonal_count };
        more = omega (arith, h.more, other);
      },
      omega (arith, l),
    ) unended

-- a head with all numbers is whole
whole_head : (c : Context) (h : CertHead) → IsSameHead c h → IsFront h → AreCounts h c.n (pair_count c.n) (entry_count c.n) c.n → IsHead h
whole_head c h s f k = record {
  few = f.few;
  many = f.many;
  lots_least = f.lots_least;
  lots_most = f.lots_most;
  held_least = f.held_least;
  held_range = f.held_range;
  held_most = f.held_most;
  turnover_most = f.turnover_most;
  nodes_most = f.nodes_most;
  assets_count = k.assets_count ∙ sym s.n_is;
  assets_are = f.assets_are;
  correlations_count = k.correlations_count ∙ pairs_are c.n ∙ ap (λ (n : ℕ). pairs_before n n) (sym s.n_is);
  correlations_are = f.correlations_are;
  factor_count = k.factor_count ∙ rows_are c.n ∙ ap rows_before (sym s.n_is);
  factor_are = f.factor_are;
  diagonal_count = k.diagonal_count ∙ sym s.n_is;
  diagonal_are = f.diagonal_are;
}

pub diagonal_goes : (c : Context) (p : Progress) (g : Group) → c.phase ≡ phase.Diagonal → p.ended ≡ false → IsHeadAt c p.head c.n (pair_count c.n) (entry_count c.n) (c.n - c.left) → c.left ≤ c.n → NextDiagonal c g → Goes c p g
unfolding IsDue IsItemRight progress_behind behind_field IsStage
diagonal_goes c p g e unended h l n = subst (Goes c p) (sym n.group_is) (record { due = (omega (arith, h.counts.diagonal_count, h.same.n_is, h.more, l), whole); stage = λ right. steps_at (λ d. IsAt d (progress_behind p (field.ShiftEntry n.d))) c phase.Sections 1 (last right) more })
  where
    counts : length (p.head.diagonal ++ n.d ∷ []) ≡ c.n → AreCounts (with_diagonal p.head n.d) c.n (pair_count c.n) (entry_count c.n) c.n
    counts full = record { assets_count = h.counts.assets_count; correlations_count = h.counts.correlations_count; factor_count = h.counts.factor_count; diagonal_count = full }

    whole : length (with_diagonal p.head n.d).diagonal ≡ p.head.n → IsHead (with_diagonal p.head n.d)
    whole full = whole_head c (with_diagonal p.head n.d) (diagonal_same c p.head n.d c.phase c.left h.same) (diagonal_front p.head n.d h.front n.ranges) (counts (full ∙ h.same.n_is))

    full_at : c.left ≡ 1 → length (with_diagonal p.head n.d).diagonal ≡ p.head.n
    full_at one = omega (arith, one_longer p.head.diagonal n.d, h.counts.diagonal_count, one, l, h.same.n_is)

    last : IsItemRight p (field.ShiftEntry n.d) → c.left ≡ 1 → IsAt (enters c phase.Sections 1) (progress_behind p (field.ShiftEntry n.d))
    last right one = at_phase phase.Sections _ _ refl
        (record { same = diagonal_same c p.head n.d phase.Sections 1 h.same; head_is = whole (full_at one); dominant = right (full_at one) }) unended

    more : c.left ≢ 1 → IsAt (record c { left = c.left - 1 }) (progress_behind p (field.ShiftEntry n.d))
    more other = at_phase phase.Diagonal _ _ e (
      record {
        same = diagonal_same c p.head n.d c.phase (c.left - 1) h.same;
        front = diagonal_front p.head n.d h.front n.ranges;
        counts = record { assets_count = h.counts.assets_count; correlations_count = h.counts.correlations_count; factor_count = h.counts.factor_count; diagonal_count = omega (arith, one_longer p.head.diagonal n.d, h.counts.diagonal_count, h.more, l) };
        more = omega (arith, h.more, other);
      },
      omega (arith, l),
    ) unended

pub sections_go : (c : Context) (p : Progress) (g : Group) → p.ended ≡ false → IsWholeAt c p.head → NextSections c g → Goes c p g
unfolding IsDue progress_behind behind_field IsStage
sections_go c p g unended w n = subst (Goes c p) (sym n.group_is) (record { due = tt; stage = λ right. at_phase phase.Section _ _ refl (record { same = record { n_is = w.same.n_is; lots_is = w.same.lots_is; held_is = w.same.held_is; held_most_is = w.same.held_most_is; turnover_is = w.same.turnover_is }; head_is = w.head_is; dominant = w.dominant }) unended })
