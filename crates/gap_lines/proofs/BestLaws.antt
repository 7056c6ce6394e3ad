-- Which of the highest places is the nearest to 0, and curves read from the other side of 0.
use Rattle.std.proofs.Common.{◌≡◌, ℕ, ◌≤◌, ◌<◌, ℤ, pos, neg_ℤ, ◌+ℤ◌, ◌-ℤ◌, ◌*ℤ◌, ◌≤ℤ◌, ◌<ℤ◌, ◌⊎◌, inl, inr, refl, unsigned_abs, arith, subst, sym, ap, ◌∙◌}
use Rattle.std.proofs.Math.IntN.{neg_ℤ-neg_ℤ}
use Rattle.std.proofs.lemmas.Int.{ints, by_lt_z}
use Rattle.gap_base.proofs.Ring.{expand, linear, not_positive}
use Rattle.gap_lines.specs.declared.line.Line.{Line}
use Rattle.gap_lines.specs.Lines.{on, height, IsLine, IsBest}
use Rattle.gap_lines.specs.Brackets.{IsTop}

-- a line's height at the place behind which it was found to reach the top
pub rising_to : (value : ℤ → ℤ) (l top : Line) → IsLine value l → IsLine value top → l.value <ℤ top.value → l.place <ℤ top.place → pos 0 <ℤ l.slope
unfolding height
rising_to value l top is it lower ahead =
    let a = is.above top.place in
    let e = it.exact in
    by_lt_z (pos 0) l.slope (λ h. h) (λ h. absurd (no_fall (top.place -ℤ l.place) l.slope l.value (value top.place) top.value (apart l.place top.place ahead) h a e lower))
  where
    apart : (x y : ℤ) → x <ℤ y → pos 0 ≤ℤ (y -ℤ x)
    apart x y h = omega (arith, ints)

    no_fall : (d s v w m : ℤ) → pos 0 ≤ℤ d → s ≤ℤ pos 0 → w ≤ℤ (v +ℤ (d *ℤ s)) → w ≡ m → v <ℤ m → ⊥
    no_fall d s v w m h k a e l = let p = not_positive d s h k in omega (arith, linear)

-- a line at a highest place before which none is as high, of a place from low on
pub best_nearest : (value : ℤ → ℤ) (low high : ℤ) (top r : Line) → IsTop value low high top → IsLine value r → low ≤ℤ r.place → r.place ≤ℤ high → top.value ≤ℤ r.value → ((b : ℤ) → low ≤ℤ b → b ≤ℤ high → unsigned_abs b < unsigned_abs r.place → value b <ℤ top.value) → IsBest value low high r.place
best_nearest value low high top r it is l h reached first =
    record {
      from = l;
      to = h;
      most = λ t lt ht. let m = it.most t lt ht in let e = is.exact in omega (arith, ints);
      nearest = λ t lt ht e. by_lt_z (pos (unsigned_abs t)) (pos (unsigned_abs r.place)) (λ k. absurd (lower t lt ht e (out k))) (λ k. within k);
    }
  where
    lower : (t : ℤ) → low ≤ℤ t → t ≤ℤ high → value t ≡ value r.place → unsigned_abs t < unsigned_abs r.place → ⊥
    lower t lt ht e k = let f = first t lt ht k in let x = is.exact in omega (arith, ints)

    out : {m n : ℕ} → pos m <ℤ pos n → m < n
    out h = omega (arith, ints)

    within : {m n : ℕ} → pos m ≤ℤ pos n → m ≤ n
    within h = omega (arith, ints)

pub height_flip : (a v s b : ℤ) → height (neg_ℤ a) v (neg_ℤ s) b ≡ height a v s (neg_ℤ b)
unfolding height
height_flip a v s b = simp expand (omega (arith, linear))

-- a line on the other side of 0
pub flip_line : (value : ℤ → ℤ) (l f : Line) → f.place ≡ neg_ℤ l.place → f.value ≡ l.value → f.slope ≡ neg_ℤ l.slope → IsLine value l → IsLine (λ t. value (neg_ℤ t)) f
flip_line value l f ep ev es is = record {
  exact = ap (λ t. value (neg_ℤ t)) ep ∙ ap value (neg_ℤ-neg_ℤ l.place) ∙ is.exact ∙ sym ev;
  above = λ b. subst (λ (h : ℤ). value (neg_ℤ b) ≤ℤ h) (sym (height_flip l.place l.value l.slope b) ∙ same b) (is.above (neg_ℤ b));
}
  where
    same : (b : ℤ) → height (neg_ℤ l.place) l.value (neg_ℤ l.slope) b ≡ height f.place f.value f.slope b
    same b = rw (ep, ev, es) refl

pub flip_back : (value : ℤ → ℤ) (l f : Line) → f.place ≡ neg_ℤ l.place → f.value ≡ l.value → f.slope ≡ neg_ℤ l.slope → IsLine (λ t. value (neg_ℤ t)) l → IsLine value f
flip_back value l f ep ev es is = record {
  exact = ap value ep ∙ is.exact ∙ sym ev;
  above = λ b. subst (λ (t : ℤ). value t ≤ℤ on f b) (neg_ℤ-neg_ℤ b) (subst (λ (h : ℤ). value (neg_ℤ (neg_ℤ b)) ≤ℤ h) (back b) (is.above (neg_ℤ b)));
}
  where
    back : (b : ℤ) → height l.place l.value l.slope (neg_ℤ b) ≡ height f.place f.value f.slope b
    back b = rw (ep, ev, es) (sym (height_flip l.place l.value l.slope b))

-- from the other side of 0 and back
pub flip_best : (value : ℤ → ℤ) (low high : ℤ) (top : Line) → IsTop value low high top → (t : Line) → t.place ≡ neg_ℤ top.place → t.value ≡ top.value → (neg_ℤ high ≤ℤ t.place) × (t.place ≤ℤ neg_ℤ low)
flip_best value low high top it t ep ev = let a = it.from in let b = it.to in (omega (arith, ints), omega (arith, ints))

-- a place at or before which nothing nearer to 0 is as high
pub nearer_first : (value : ℤ → ℤ) (low floor place most : ℤ) → (floor ≡ pos 0) ⊎ (floor ≡ low) → pos 0 ≤ℤ floor → low ≤ℤ floor → floor ≤ℤ place → (floor <ℤ place → (b : ℤ) → b <ℤ place → value b <ℤ most) → (b : ℤ) → low ≤ℤ b → unsigned_abs b < unsigned_abs place → value b <ℤ most
nearer_first value low floor place most which nn lf fp first b lb nearer =
    by_lt_z floor place
    (λ h. first h b (inside b place floor nn fp nearer))
    (λ h. absurd (none which h))
  where
    inside : (b place floor : ℤ) → pos 0 ≤ℤ floor → floor ≤ℤ place → unsigned_abs b < unsigned_abs place → b <ℤ place
    inside b place floor nn fp k = omega (arith, ints)

    none : (floor ≡ pos 0) ⊎ (floor ≡ low) → place ≤ℤ floor → ⊥
    none (inl e) h = omega (arith, ints)
    none (inr e) h = omega (arith, ints)
