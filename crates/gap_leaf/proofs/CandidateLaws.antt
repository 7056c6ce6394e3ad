-- Multipliers that are best at a point, and the witness that is best of all.
use Rattle.std.proofs.Common.{◌≡◌, ℕ, ◌≤◌, List, Option, Some, None, ℤ, pos, neg_ℤ, ◌≤ℤ◌, refl, sym, subst, arith, unsigned_abs}
use Rattle.std.specs.Prelude.{IsSome}
use Rattle.std.proofs.Common.{◌⊎◌, inl, inr}
use Rattle.std.proofs.lemmas.Int.{ints}
use Rattle.std.proofs.lemmas.Bool.{false≢true}
use Rattle.gap_base.specs.Sizes.{most_multiplier}
use Rattle.gap_base.specs.Lots.{lots_at}
use Rattle.gap_box.specs.declared.cell.Cell.{Cell}
use Rattle.gap_model.specs.Settings.{Setting}
use Rattle.gap_model.specs.Leaves.{AreMultipliers, IsPoint}
use Rattle.gap_lines.specs.Lines.{IsBest}
use Rattle.gap_tangent.specs.Lines.{alpha_curve, tau_curve}
use Rattle.gap_witness.specs.Points.{choice_of, point}
use Rattle.gap_leaf.specs.declared.candidates.Priced.{Priced}
use Rattle.gap_leaf.specs.Candidates.{IsMostAt, AreBestAt, IsCandidate}

through : (a b c : ℤ) → a ≤ℤ b → b ≤ℤ c → a ≤ℤ c
through a b c p q = omega (arith, ints)

pub most_more : (s : Setting) (part : List Cell) (y : ℕ → ℤ) (t u : ℤ) → IsMostAt s part y t → t ≤ℤ u → IsMostAt s part y u
unfolding IsMostAt
most_more s part y t u m h = λ alpha l. through _ t u (m alpha l) h

-- given multipliers in place of best ones that are no better
pub best_kept : (s : Setting) (part : List Cell) (y : ℕ → ℤ) (alpha tau t a b u : ℤ) → AreMultipliers s.instance.turnover alpha tau → alpha_curve s part y tau alpha ≡ t → AreBestAt s part y a b u → u ≤ℤ t → unsigned_abs t ≤ 10000000000000000000000000000000000000 → AreBestAt s part y alpha tau t
best_kept s part y alpha tau t a b u m e h l k = record { multipliers = m; theta_is = e; small = k; most = most_more s part y u t h.most l }

-- the best witness at the hint's point
pub kept_candidate : (s : Setting) (part : List Cell) (y z : List ℕ) (alpha tau a b t c d u : ℤ) → IsPoint s.instance y → AreBestAt s part (lots_at y) a b t → alpha_curve s part (lots_at y) tau alpha ≤ℤ t → z ≡ point s (choice_of s part) y → AreBestAt s part (lots_at z) c d u → u ≤ℤ t → IsCandidate s part (record { y = y; alpha = alpha; tau = tau }) (record { y = y; alpha = a; tau = b })
kept_candidate s part y z alpha tau a b t c d u p h l e k m = record {
  witness = record { point = p; multipliers = h.multipliers };
  hint_less = subst (λ (v : ℤ). alpha_curve s part (lots_at y) tau alpha ≤ℤ v) (sym h.theta_is) l;
  own = subst (IsMostAt s part (lots_at y)) (sym h.theta_is) h.most;
  point = subst (λ (v : ℤ). IsMostAt s part (lots_at (point s (choice_of s part) y)) v) (sym h.theta_is)
      (subst (λ (x : List ℕ). IsMostAt s part (lots_at x) t) e (most_more s part (lots_at z) u t k.most m));
}

-- at the tangent point
pub moved_candidate : (s : Setting) (part : List Cell) (y z : List ℕ) (alpha tau a b t c d u : ℤ) → IsPoint s.instance z → AreBestAt s part (lots_at y) a b t → alpha_curve s part (lots_at y) tau alpha ≤ℤ t → z ≡ point s (choice_of s part) y → AreBestAt s part (lots_at z) c d u → t ≤ℤ u → IsCandidate s part (record { y = y; alpha = alpha; tau = tau }) (record { y = z; alpha = c; tau = d })
moved_candidate s part y z alpha tau a b t c d u p h l e k m = record {
  witness = record { point = p; multipliers = k.multipliers };
  hint_less = subst (λ (v : ℤ). alpha_curve s part (lots_at y) tau alpha ≤ℤ v) (sym k.theta_is) (through _ t u l m);
  own = subst (IsMostAt s part (lots_at z)) (sym k.theta_is) k.most;
  point = subst (λ (v : ℤ). IsMostAt s part (lots_at (point s (choice_of s part) y)) v) (sym k.theta_is)
      (subst (λ (x : List ℕ). IsMostAt s part (lots_at x) u) e k.most);
}

-- ---- new multipliers by lines of theta
abbrev pub best_alpha_at : Setting → List Cell → (ℕ → ℤ) → ℤ → ℤ → Type 0
best_alpha_at s part y tau place = IsBest (alpha_curve s part y tau) (neg_ℤ (pos most_multiplier)) (pos most_multiplier) place

in_size : (z : ℤ) → unsigned_abs z ≤ most_multiplier → (neg_ℤ (pos most_multiplier) ≤ℤ z) × (z ≤ℤ pos most_multiplier)
in_size z h = (omega (arith, ints), omega (arith, ints))

size_in : (z : ℤ) → neg_ℤ (pos most_multiplier) ≤ℤ z → z ≤ℤ pos most_multiplier → unsigned_abs z ≤ 1000000000000000000000000000000
size_in z h k = omega (arith, ints)

size_over : (z : ℤ) → pos 0 ≤ℤ z → z ≤ℤ pos most_multiplier → unsigned_abs z ≤ 1000000000000000000000000000000
size_over z h k = omega (arith, ints)

most_by_best : (s : Setting) (part : List Cell) (y : ℕ → ℤ) (place : ℤ) → best_alpha_at s part y (pos 0) place → IsMostAt s part y (alpha_curve s part y (pos 0) place)
unfolding IsMostAt
most_by_best s part y place b = λ alpha l. let r = in_size alpha l in b.most alpha r.0 r.1

pub alpha_size : (s : Setting) (part : List Cell) (y : ℕ → ℤ) (tau place : ℤ) → best_alpha_at s part y tau place → unsigned_abs place ≤ 1000000000000000000000000000000
alpha_size s part y tau place b = size_in place b.from b.to

pub plain_best : (s : Setting) (part : List Cell) (y : ℕ → ℤ) (place value : ℤ) → best_alpha_at s part y (pos 0) place → alpha_curve s part y (pos 0) place ≡ value → unsigned_abs value ≤ 10000000000000000000000000000000000000 → AreBestAt s part y place (pos 0) value
plain_best s part y place value b e k = record {
  small = k;
  multipliers = record { alpha_most = size_in place b.from b.to; tau_least = omega (arith, ints); tau_most = omega (arith, ints); tau_unset = λ n. refl };
  theta_is = e;
  most = subst (IsMostAt s part y) e (most_by_best s part y place b);
}

limited_not : (o : Option ℕ) → IsSome o → o ≡ None → ⊥
limited_not None h e = false≢true h
limited_not (Some t) h e = cc

-- the multipliers of an alpha best without a price, a tau best for it, and an alpha best for that
pub turned_range : (s : Setting) (part : List Cell) (y : ℕ → ℤ) (alpha tau : ℤ) → IsSome s.instance.turnover → unsigned_abs alpha ≤ 1000000000000000000000000000000 → IsBest (tau_curve s part y alpha) (pos 0) (pos most_multiplier) tau → (a : ℤ) → unsigned_abs a ≤ 1000000000000000000000000000000 → AreMultipliers s.instance.turnover a tau
turned_range s part y alpha tau l h b a k = record { alpha_most = k; tau_least = b.from; tau_most = size_over tau b.from b.to; tau_unset = λ n. absurd (limited_not s.instance.turnover l n) }

pub turned_best : (s : Setting) (part : List Cell) (y : ℕ → ℤ) (first tau last value : ℤ) → IsSome s.instance.turnover → best_alpha_at s part y (pos 0) first → IsBest (tau_curve s part y first) (pos 0) (pos most_multiplier) tau → best_alpha_at s part y tau last → alpha_curve s part y tau last ≡ value → unsigned_abs value ≤ 10000000000000000000000000000000000000 → AreBestAt s part y last tau value
turned_best s part y first tau last value l a b d e k =
    let h = alpha_size s part y (pos 0) first a in
    let up = b.most (pos 0) (omega (arith, ints)) (omega (arith, ints)) in
    let on = d.most first a.from a.to in
    record {
      multipliers = turned_range s part y first tau l h b last (alpha_size s part y tau last d);
      theta_is = e;
      small = k;
      most = subst (IsMostAt s part y) e (most_more s part y (alpha_curve s part y (pos 0) first) (alpha_curve s part y tau last) (most_by_best s part y first a) (through _ _ _ up on));
    }

-- the better of given multipliers and new ones
pub kept_best : (s : Setting) (part : List Cell) (y : ℕ → ℤ) (alpha tau t : ℤ) (new better : Priced) → AreMultipliers s.instance.turnover alpha tau → alpha_curve s part y tau alpha ≡ t → AreBestAt s part y new.alpha new.tau new.theta → (better ≡ record { alpha = alpha; tau = tau; theta = t }) ⊎ (better ≡ new) → new.theta ≤ℤ better.theta → unsigned_abs t ≤ 10000000000000000000000000000000000000 → AreBestAt s part y better.alpha better.tau better.theta
kept_best s part y alpha tau t new better m e h (inr q) l k = subst (λ (p : Priced). AreBestAt s part y p.alpha p.tau p.theta) (sym q) h
kept_best s part y alpha tau t new better m e h (inl q) l k =
    subst (λ (p : Priced). AreBestAt s part y p.alpha p.tau p.theta) (sym q)
    (best_kept s part y alpha tau t new.alpha new.tau new.theta m e h (subst (λ (p : Priced). new.theta ≤ℤ p.theta) q l) k)

-- where no turnover is set theta at multipliers in range is no more than at the best ones
pub none_less : (s : Setting) (part : List Cell) (y : ℕ → ℤ) (alpha tau t : ℤ) → AreMultipliers s.instance.turnover alpha tau → s.instance.turnover ≡ None → IsMostAt s part y t → alpha_curve s part y tau alpha ≤ℤ t
unfolding IsMostAt
none_less s part y alpha tau t m e h = subst (λ (z : ℤ). alpha_curve s part y z alpha ≤ℤ t) (sym (m.tau_unset e)) (h alpha m.alpha_most)
