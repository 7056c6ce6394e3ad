-- Over closed weights a greater weight of risk has neither more risk nor more return.
use Rattle.std.proofs.Common.{◌≡◌, ℕ, zero, suc, ◌+◌, ◌-◌, ◌*◌, ◌<◌, ◌≤◌, ℤ, pos, ◌+ℤ◌, ◌-ℤ◌, ◌*ℤ◌, neg_ℤ, ◌≤ℤ◌, ◌<ℤ◌, List, refl, sym, ap, ◌∙◌, subst, arith}
use Rattle.std.proofs.lemmas.Int.{ints}
use Rattle.gap_base.proofs.Ring.{*ℤ-+ℤ, +ℤ-*ℤ, *ℤ_assoc, *ℤ_left_comm, *ℤ-neg_ℤ, scaled_le, not_negative_of_scaled}
use Rattle.gap_instance.specs.Instances.{InstanceValue}
use Rattle.gap_instance.specs.Objective.{risk_of, return_of, objective}
use Rattle.gap_model.specs.declared.outcome.Best.{Best}
use Rattle.gap_model.specs.declared.outcome.Outcome.TheVariants.{Closed}
use Rattle.gap_model.specs.Outcomes.{IsRight}

times_sub : (c x y : ℤ) → c *ℤ (x -ℤ y) ≡ c *ℤ x -ℤ c *ℤ y
times_sub c x y = *ℤ-+ℤ c x (neg_ℤ y) ∙ ap (λ (z : ℤ). c *ℤ x +ℤ z) (*ℤ-neg_ℤ c y)

-- a difference that grows with a factor isn't negative
gained : (g h c : ℕ) (x y : ℤ) → g ≡ c + h → 0 < c → ((pos h *ℤ x) -ℤ (pos h *ℤ y)) ≤ℤ ((pos g *ℤ x) -ℤ (pos g *ℤ y)) → y ≤ℤ x
gained g h c x y is some less =
    let e : pos g *ℤ x ≡ pos c *ℤ x +ℤ pos h *ℤ x = ap (λ (n : ℕ). pos n *ℤ x) is ∙ +ℤ-*ℤ (pos c) (pos h) x in
    let f : pos g *ℤ y ≡ pos c *ℤ y +ℤ pos h *ℤ y = ap (λ (n : ℕ). pos n *ℤ y) is ∙ +ℤ-*ℤ (pos c) (pos h) y in
    let k : pos c *ℤ (x -ℤ y) ≡ pos c *ℤ x -ℤ pos c *ℤ y = times_sub (pos c) x y in
    let most : pos 0 ≤ℤ (pos c *ℤ (x -ℤ y)) = omega (arith, ints) in
    let positive : pos 0 <ℤ pos c = omega (arith, ints) in
    let d : pos 0 ≤ℤ (x -ℤ y) = not_negative_of_scaled (pos c) (x -ℤ y) positive most in
    omega (arith, ints)

scaled : (g : ℕ) (a b c d : ℤ) → (a -ℤ b) ≤ℤ (c -ℤ d) → ((pos g *ℤ a) -ℤ (pos g *ℤ b)) ≤ℤ ((pos g *ℤ c) -ℤ (pos g *ℤ d))
scaled g a b c d less =
    let zero_le : pos 0 ≤ℤ pos g = omega (arith, ints) in
    let h : (pos g *ℤ (a -ℤ b)) ≤ℤ (pos g *ℤ (c -ℤ d)) = scaled_le (pos g) (a -ℤ b) (c -ℤ d) zero_le less in
    let e = times_sub (pos g) a b in
    let f = times_sub (pos g) c d in
    omega (arith, ints)

-- both ways round: each list is the better one under its own weight
returns_less : (p r u w c : ℕ) (a b m n : ℤ) → u * r ≡ c + p * w → 0 < c
    → ((pos p *ℤ a) -ℤ (pos r *ℤ m)) ≤ℤ ((pos p *ℤ b) -ℤ (pos r *ℤ n)) → ((pos u *ℤ b) -ℤ (pos w *ℤ n)) ≤ℤ ((pos u *ℤ a) -ℤ (pos w *ℤ m)) → n ≤ℤ m
returns_less p r u w c a b m n is some first second =
    let f : ((pos u *ℤ (pos p *ℤ a)) -ℤ (pos u *ℤ (pos r *ℤ m))) ≤ℤ ((pos u *ℤ (pos p *ℤ b)) -ℤ (pos u *ℤ (pos r *ℤ n))) = scaled u (pos p *ℤ a) (pos r *ℤ m) (pos p *ℤ b) (pos r *ℤ n) first in
    let s : ((pos p *ℤ (pos u *ℤ b)) -ℤ (pos p *ℤ (pos w *ℤ n))) ≤ℤ ((pos p *ℤ (pos u *ℤ a)) -ℤ (pos p *ℤ (pos w *ℤ m))) = scaled p (pos u *ℤ b) (pos w *ℤ n) (pos u *ℤ a) (pos w *ℤ m) second in
    let ea : pos u *ℤ (pos p *ℤ a) ≡ pos p *ℤ (pos u *ℤ a) = *ℤ_left_comm (pos u) (pos p) a in
    let eb : pos u *ℤ (pos p *ℤ b) ≡ pos p *ℤ (pos u *ℤ b) = *ℤ_left_comm (pos u) (pos p) b in
    let um : pos (u * r) *ℤ m ≡ pos u *ℤ (pos r *ℤ m) = *ℤ_assoc (pos u) (pos r) m in
    let un : pos (u * r) *ℤ n ≡ pos u *ℤ (pos r *ℤ n) = *ℤ_assoc (pos u) (pos r) n in
    let pm : pos (p * w) *ℤ m ≡ pos p *ℤ (pos w *ℤ m) = *ℤ_assoc (pos p) (pos w) m in
    let pn : pos (p * w) *ℤ n ≡ pos p *ℤ (pos w *ℤ n) = *ℤ_assoc (pos p) (pos w) n in
    gained (u * r) (p * w) c m n is some (omega (arith, ints))

risks_less : (p r u w c : ℕ) (a b m n : ℤ) → u * r ≡ c + p * w → 0 < c
    → ((pos p *ℤ a) -ℤ (pos r *ℤ m)) ≤ℤ ((pos p *ℤ b) -ℤ (pos r *ℤ n)) → ((pos u *ℤ b) -ℤ (pos w *ℤ n)) ≤ℤ ((pos u *ℤ a) -ℤ (pos w *ℤ m)) → b ≤ℤ a
risks_less p r u w c a b m n is some first second =
    let f : ((pos w *ℤ (pos p *ℤ a)) -ℤ (pos w *ℤ (pos r *ℤ m))) ≤ℤ ((pos w *ℤ (pos p *ℤ b)) -ℤ (pos w *ℤ (pos r *ℤ n))) = scaled w (pos p *ℤ a) (pos r *ℤ m) (pos p *ℤ b) (pos r *ℤ n) first in
    let s : ((pos r *ℤ (pos u *ℤ b)) -ℤ (pos r *ℤ (pos w *ℤ n))) ≤ℤ ((pos r *ℤ (pos u *ℤ a)) -ℤ (pos r *ℤ (pos w *ℤ m))) = scaled r (pos u *ℤ b) (pos w *ℤ n) (pos u *ℤ a) (pos w *ℤ m) second in
    let em : pos w *ℤ (pos r *ℤ m) ≡ pos r *ℤ (pos w *ℤ m) = *ℤ_left_comm (pos w) (pos r) m in
    let en : pos w *ℤ (pos r *ℤ n) ≡ pos r *ℤ (pos w *ℤ n) = *ℤ_left_comm (pos w) (pos r) n in
    let wa : pos (w * p) *ℤ a ≡ pos w *ℤ (pos p *ℤ a) = *ℤ_assoc (pos w) (pos p) a in
    let wb : pos (w * p) *ℤ b ≡ pos w *ℤ (pos p *ℤ b) = *ℤ_assoc (pos w) (pos p) b in
    let ra : pos (r * u) *ℤ a ≡ pos r *ℤ (pos u *ℤ a) = *ℤ_assoc (pos r) (pos u) a in
    let rb : pos (r * u) *ℤ b ≡ pos r *ℤ (pos u *ℤ b) = *ℤ_assoc (pos r) (pos u) b in
    let turned : r * u ≡ c + w * p = omega arith in
    gained (r * u) (w * p) c a b turned some (omega (arith, ints))

-- by how much the second gives more weight to risk
gap_is : (p q u v k : ℕ) → p ≤ q → u ≤ v → p * v < u * q → (c : ℕ) × (u * ((q - p) * k) ≡ c * k + p * ((v - u) * k)) × (0 < c)
gap_is p q u v k pq uv less =
    let r : q ≡ p + (q - p) = omega arith in
    let w : v ≡ u + (v - u) = omega arith in
    let e : u * q ≡ u * (p + (q - p)) = ap (λ (x : ℕ). u * x) r in
    let f : p * v ≡ p * (u + (v - u)) = ap (λ (x : ℕ). p * x) w in
    let d : p * (v - u) < u * (q - p) = omega arith in
    let g : u * (q - p) ≡ (u * (q - p) - p * (v - u)) + p * (v - u) = omega arith in
    let h : (u * (q - p)) * k ≡ ((u * (q - p) - p * (v - u)) + p * (v - u)) * k = ap (λ (x : ℕ). x * k) g in
    (u * (q - p) - p * (v - u), omega arith, omega arith)

some_product : (c k : ℕ) → 0 < c → 0 < k → 0 < c * k
some_product zero k a b = absurd (omega arith)
some_product (suc c) zero a b = absurd (omega arith)
some_product (suc c) (suc k) a b = omega arith

-- over two closed weights the second, with more weight of risk, has neither more risk nor more return
pub monotone : (I : InstanceValue) (p q u v : ℕ) (first second : Best) → 1 ≤ I.lots → p ≤ q → u ≤ v → p * v < u * q
    → IsRight I p q (Closed first) → IsRight I u v (Closed second)
    → (risk_of I.market second.lots ≤ℤ risk_of I.market first.lots) × (return_of I.market second.lots ≤ℤ return_of I.market first.lots)
unfolding objective
monotone I p q u v first second some pq uv less one two =
    let a : ℤ = risk_of I.market first.lots in
    let b : ℤ = risk_of I.market second.lots in
    let m : ℤ = return_of I.market first.lots in
    let n : ℤ = return_of I.market second.lots in
    let it = gap_is p q u v (1000000000000 * I.lots) pq uv less in
    let c : 0 < it.0 * (1000000000000 * I.lots) = some_product it.0 (1000000000000 * I.lots) it.2 (omega arith) in
    let r : ((q - p) * 1000000000000) * I.lots ≡ (q - p) * (1000000000000 * I.lots) = omega arith in
    let w : ((v - u) * 1000000000000) * I.lots ≡ (v - u) * (1000000000000 * I.lots) = omega arith in
    let best : (objective I p q first.lots) ≤ℤ (objective I p q second.lots) = subst (λ (x : ℤ). x ≤ℤ (objective I p q second.lots)) one.0.value_is (one.1 second.lots two.0.meets) in
    let other : (objective I u v second.lots) ≤ℤ (objective I u v first.lots) = subst (λ (x : ℤ). x ≤ℤ (objective I u v first.lots)) two.0.value_is (two.1 first.lots one.0.meets) in
    let f = subst (λ (x : ℕ). ((pos p *ℤ risk_of I.market first.lots) -ℤ (pos x *ℤ return_of I.market first.lots)) ≤ℤ ((pos p *ℤ risk_of I.market second.lots) -ℤ (pos x *ℤ return_of I.market second.lots))) r best in
    let g = subst (λ (x : ℕ). ((pos u *ℤ risk_of I.market second.lots) -ℤ (pos x *ℤ return_of I.market second.lots)) ≤ℤ ((pos u *ℤ risk_of I.market first.lots) -ℤ (pos x *ℤ return_of I.market first.lots))) w other in (
      risks_less p ((q - p) * (1000000000000 * I.lots)) u ((v - u) * (1000000000000 * I.lots)) (it.0 * (1000000000000 * I.lots)) a b m n it.1 c f g,
      returns_less p ((q - p) * (1000000000000 * I.lots)) u ((v - u) * (1000000000000 * I.lots)) (it.0 * (1000000000000 * I.lots)) a b m n it.1 c f g,
    )
