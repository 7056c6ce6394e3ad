-- The fewest and the most lots of a part's lists: no list passes them, and one has them.
use Rattle.std.proofs.Common.{◌≡◌, ℕ, zero, suc, ◌+◌, ◌-◌, ◌*◌, ◌<◌, ◌≤◌, min, Bool, true, false, ltb, leb, eqb, cond, List, [], ◌∷◌, length, sum, Option, Some, None, ℤ, pos, ◌+ℤ◌, ◌-ℤ◌, ◌*ℤ◌, neg_ℤ, ◌≤ℤ◌, ◌<ℤ◌, refl, sym, ap, ◌∙◌, subst, arith}
use Rattle.std.proofs.Math.Nat.{mul-le-mul_left}
use Rattle.std.proofs.lemmas.Bool.Decides.{nat_tests}
use Rattle.std.proofs.lemmas.List.Sums.{sum_by-cons}
use Rattle.gap_box.specs.declared.cell.Cell.{Cell}
use Rattle.gap_box.specs.declared.cell.Cell.TheVariants.{Out, Held, Free}
use Rattle.gap_box.specs.Cells.{IsCell, AreCells, in_cell}
use Rattle.gap_box.specs.Parts.{in_part, held_count, helds, frees, can_meet, IsPick}
use Rattle.gap_box.proofs.CellLaws.{rest_are, first_is}
use Rattle.gap_box.proofs.CountLaws.{one_held, one_must, one_may, held_count-cons, helds-cons, frees-cons, both_true, and_true, in_held, in_free, pick_range}
use Rattle.std.proofs.Math.IntN.{zero-*ℤ}
use Rattle.std.proofs.lemmas.Int.{ints}
use Rattle.gap_base.specs.Sums.{sum_below}
use Rattle.gap_base.specs.Lots.{lots_at}
use Rattle.gap_base.proofs.Lists.{sum_places}
use Rattle.gap_base.proofs.Ring.{linear, scaled_le, neg_ℤ-*ℤ}
use Rattle.gap_instance.specs.Instances.{InstanceValue}
use Rattle.gap_instance.specs.Limits.{sum_of, turnover_of}
use Rattle.gap_model.specs.Settings.{Setting}
use Rattle.gap_model.specs.Lagrangian.{void_lag, turnover_term}
use Rattle.gap_model.specs.Theta.{void_theta}
use Rattle.gap_model.proofs.LagLaws.{void_lag_is}
use Rattle.gap_model.proofs.LimitLaws.{in_part_length}
use Rattle.gap_model.proofs.ThetaLaws.{void_theta_is}
use Rattle.gap_tangent.specs.declared.lots.End.{End}
use Rattle.gap_tangent.specs.declared.lots.End.TheVariants.{Least, Greatest}
use Rattle.gap_tangent.specs.Lots.{AreFewestLots, AreMostLots, end_of, distance_of, held_end, is_under, short_of, held_ends, unders, shorts, IsParting}

abbrev one_under : End → ℕ → Cell → ℕ
one_under end t cell = cond (is_under end t cell) 1 0

held_ends-cons : (end : End) (c : Cell) (cells : List Cell) → held_ends end (c ∷ cells) ≡ held_end end c + held_ends end cells
held_ends-cons end c cells = sum_by-cons (held_end end) c cells

unders-cons : (end : End) (t : ℕ) (c : Cell) (cells : List Cell) → unders end t (c ∷ cells) ≡ one_under end t c + unders end t cells
unders-cons end t c cells = sum_by-cons (λ q. one_under end t q) c cells

shorts-cons : (end : End) (t : ℕ) (c : Cell) (cells : List Cell) → shorts end t (c ∷ cells) ≡ short_of end t c + shorts end t cells
shorts-cons end t c cells = sum_by-cons (short_of end t) c cells

total-cons : (v : ℕ) (x : List ℕ) → sum (v ∷ x) ≡ v + sum x
total-cons v x = sum_by-cons (λ n. n) v x

-- ---- below no distance is none, and below 10001 each
pub none_under : (end : End) (cells : List Cell) → unders end 0 cells ≡ 0
none_under end [] = refl
none_under end (c ∷ cells) = let a = none_under end cells in let b = unders-cons end 0 c cells in let d = one end c in omega arith
  where
    none : (n : ℕ) → cond {A = ℕ} (ltb n 0) 1 0 ≡ 0
    none n = grind (arith, nat_tests)

    one : (end : End) (c : Cell) → one_under end 0 c ≡ 0
    one end Out = refl
    one end (Held l u) = refl
    one end (Free l u) = none (distance_of end l u)

pub all_under : (end : End) (cells : List Cell) → AreCells cells → unders end 10001 cells ≡ frees cells
all_under end [] h = refl
all_under end (c ∷ cells) h = let a = all_under end cells (rest_are c cells h) in let b = unders-cons end 10001 c cells in let d = one end c (first_is c cells h) in let e = frees-cons c cells in omega arith
  where
    each : (n : ℕ) → n ≤ 10000 → cond {A = ℕ} (ltb n 10001) 1 0 ≡ 1
    each n h = grind (arith, nat_tests)

    small : (end : End) (l u : ℕ) → l ≤ u → u ≤ 10000 → distance_of end l u ≤ 10000
    small Least l u h k = omega arith
    small Greatest l u h k = omega arith

    one : (end : End) (c : Cell) → IsCell c → one_under end 10001 c ≡ one_may c
    one end Out h = refl
    one end (Held l u) h = refl
    one end (Free l u) h = each (distance_of end l u) (small end l u h.1 h.2)

-- ---- no list passes what a distance gives
least_cell : (t : ℕ) (c : Cell) (v : ℕ) → in_cell c v ≡ true → held_end Least c + t * one_held v ≤ v + short_of Least t c + t * one_must c
least_cell t c v e = by_held (ltb 0 v) refl c e
  where
    by_held : (b : Bool) → ltb 0 v ≡ b → (c : Cell) → in_cell c v ≡ true → held_end Least c + t * cond {A = ℕ} b 1 0 ≤ v + short_of Least t c + t * one_must c
    by_held true q Out e = absurd (grind (arith, nat_tests))
    by_held true q (Held l u) e = let a : l ≤ v = grind (arith, nat_tests) in omega arith
    by_held true q (Free l u) e = let a : l ≤ v = grind (arith, nat_tests) in omega arith
    by_held false q Out e = omega arith
    by_held false q (Held l u) e = let a : l ≤ v = grind (arith, nat_tests) in omega arith
    by_held false q (Free l u) e = omega arith

fewest_bound : (t : ℕ) (cells : List Cell) (x : List ℕ) → in_part cells x ≡ true → held_ends Least cells + t * held_count x ≤ sum x + shorts Least t cells + t * helds cells
fewest_bound t [] [] e = omega arith
fewest_bound t [] (v ∷ x) e = cc
fewest_bound t (c ∷ cells) [] e = cc
fewest_bound t (c ∷ cells) (v ∷ x) e =
    let b = both_true (in_cell c v) (in_part cells x) e in
    let one = least_cell t c v b.0 in
    let more = fewest_bound t cells x b.1 in
    let e1 = ap (λ (n : ℕ). t * n) (held_count-cons v x) in
    let e2 = ap (λ (n : ℕ). t * n) (helds-cons c cells) in
    let e3 = held_ends-cons Least c cells in
    let e4 = shorts-cons Least t c cells in
    let e5 = total-cons v x in
    omega arith

greatest_cell : (t : ℕ) (c : Cell) (v : ℕ) → IsCell c → t ≤ 10000 → in_cell c v ≡ true → v + (10000 - t) * one_must c ≤ held_end Greatest c + short_of Greatest t c + (10000 - t) * one_held v
greatest_cell t c v i h e = by_held (ltb 0 v) refl c i e
  where
    by_held : (b : Bool) → ltb 0 v ≡ b → (c : Cell) → IsCell c → in_cell c v ≡ true → v + (10000 - t) * one_must c ≤ held_end Greatest c + short_of Greatest t c + (10000 - t) * cond {A = ℕ} b 1 0
    by_held true q Out i e = absurd (grind (arith, nat_tests))
    by_held true q (Held l u) i e = let a : v ≤ u = grind (arith, nat_tests) in omega arith
    by_held true q (Free l u) i e = let a : v ≤ u = grind (arith, nat_tests) in omega arith
    by_held false q Out i e = let a : v ≡ 0 = grind (arith, nat_tests) in omega arith
    by_held false q (Held l u) i e = let a : l ≤ v = grind (arith, nat_tests) in let z : v ≡ 0 = grind (arith, nat_tests) in let w = i.0 in absurd (omega arith)
    by_held false q (Free l u) i e = let a : v ≡ 0 = grind (arith, nat_tests) in omega arith

most_bound : (t : ℕ) (cells : List Cell) (x : List ℕ) → AreCells cells → t ≤ 10000 → in_part cells x ≡ true → sum x + (10000 - t) * helds cells ≤ held_ends Greatest cells + shorts Greatest t cells + (10000 - t) * held_count x
most_bound t [] [] h m e = omega arith
most_bound t [] (v ∷ x) h m e = cc
most_bound t (c ∷ cells) [] h m e = cc
most_bound t (c ∷ cells) (v ∷ x) h m e =
    let b = both_true (in_cell c v) (in_part cells x) e in
    let one = greatest_cell t c v (first_is c cells h) m b.0 in
    let more = most_bound t cells x (rest_are c cells h) m b.1 in
    let e1 = ap (λ (n : ℕ). (10000 - t) * n) (held_count-cons v x) in
    let e2 = ap (λ (n : ℕ). (10000 - t) * n) (helds-cons c cells) in
    let e3 = held_ends-cons Greatest c cells in
    let e4 = shorts-cons Greatest t c cells in
    let e5 = total-cons v x in
    joined (10000 - t) v (sum x) (sum (v ∷ x)) (one_must c) (helds cells) (helds (c ∷ cells)) (held_end Greatest c) (held_ends Greatest cells) (held_ends Greatest (c ∷ cells)) (short_of Greatest t c) (shorts Greatest t cells) (shorts Greatest t (c ∷ cells)) (one_held v) (held_count x) (held_count (v ∷ x)) one more e1 e2 e3 e4 e5
  where
    joined : (q v s s' m h h' a e e' d r r' o n n' : ℕ) → v + q * m ≤ a + d + q * o → s + q * h ≤ e + r + q * n → q * n' ≡ q * (o + n) → q * h' ≡ q * (m + h) → e' ≡ a + e → r' ≡ d + r → s' ≡ v + s → s' + q * h' ≤ e' + r' + q * n'
    joined q v s s' m h h' a e e' d r r' o n n' x1 x2 x3 x4 x5 x6 x7 = omega arith

-- ---- a list that has what a distance gives
abbrev one_at : End → ℕ → Cell → ℕ
one_at end t Out = 0
one_at end t (Held l u) = 0
one_at end t (Free l u) = cond (eqb (distance_of end l u) t) 1 0

abbrev ats : End → ℕ → List Cell → ℕ
ats end t [] = 0
ats end t (c ∷ cells) = one_at end t c + ats end t cells

next_under : (end : End) (t : ℕ) (cells : List Cell) → unders end (t + 1) cells ≡ unders end t cells + ats end t cells
next_under end t [] = refl
next_under end t (c ∷ cells) = let a = next_under end t cells in let b = unders-cons end t c cells in let d = unders-cons end (t + 1) c cells in let e = one c in omega arith
  where
    tests : (n : ℕ) → cond {A = ℕ} (ltb n (t + 1)) 1 0 ≡ cond {A = ℕ} (ltb n t) 1 0 + cond {A = ℕ} (eqb n t) 1 0
    tests n = grind (arith, nat_tests)

    one : (c : Cell) → one_under end (t + 1) c ≡ one_under end t c + one_at end t c
    one Out = refl
    one (Held l u) = refl
    one (Free l u) = tests (distance_of end l u)

-- lots at the ends e of the cells that must be held and at n further ones, where s is how far distances are below t
abbrev IsTotal : End → ℕ → ℕ → ℕ → ℕ → ℕ → Type 0
IsTotal Least t e s n lots = lots + s ≡ e + t * n
IsTotal Greatest t e s n lots = lots ≡ e + s + (10000 - t) * n

record Reaches (end : End) (t left : ℕ) (cells : List Cell) (x : List ℕ) : Type 0 where
  inside : in_part cells x ≡ true
  count : held_count x ≡ helds cells + (unders end t cells + left)
  total : IsTotal end t (held_ends end cells) (shorts end t cells) (unders end t cells + left) (sum x)

total_joined : (end : End) (t e s n lots e1 s1 n1 v e2 s2 n2 z : ℕ) → IsTotal end t e1 s1 n1 v → IsTotal end t e s n lots → e2 ≡ e1 + e → s2 ≡ s1 + s → n2 ≡ n1 + n → z ≡ v + lots → IsTotal end t e2 s2 n2 z
total_joined Least t e s n lots e1 s1 n1 v e2 s2 n2 z a b p q r w = let m = ap (λ (k : ℕ). t * k) r in omega arith
total_joined Greatest t e s n lots e1 s1 n1 v e2 s2 n2 z a b p q r w = let m = ap (λ (k : ℕ). (10000 - t) * k) r in added (10000 - t) a b m
  where
    added : (f : ℕ) → v ≡ e1 + s1 + f * n1 → lots ≡ e + s + f * n → f * n2 ≡ f * (n1 + n) → z ≡ e2 + s2 + f * n2
    added f a b m = omega arith

added : (end : End) (t left took rest : ℕ) (c : Cell) (cells : List Cell) (v : ℕ) (x : List ℕ) → Reaches end t rest cells x → left ≡ took + rest → in_cell c v ≡ true → one_held v ≡ one_must c + (one_under end t c + took) → IsTotal end t (held_end end c) (short_of end t c) (one_under end t c + took) v → Reaches end t left (c ∷ cells) (v ∷ x)
added end t left took rest c cells v x r e i k w =
    let e1 = held_count-cons v x in
    let e2 = helds-cons c cells in
    let e3 = unders-cons end t c cells in
    let n = r.count in
    record {
      inside = and_true _ _ i r.inside;
      count = omega arith;
      total = total_joined end t (held_ends end cells) (shorts end t cells) (unders end t cells + rest) (sum x) (held_end end c) (short_of end t c) (one_under end t c + took) v (held_ends end (c ∷ cells)) (shorts end t (c ∷ cells)) (unders end t (c ∷ cells) + left) (sum (v ∷ x)) w r.total (held_ends-cons end c cells) (shorts-cons end t c cells) (omega arith) (total-cons v x);
    }

held_lots : (v : ℕ) → 1 ≤ v → one_held v ≡ 1
held_lots v h = grind (arith, nat_tests)

end_positive : (end : End) (l u : ℕ) → 1 ≤ l → l ≤ u → 1 ≤ end_of end l u
end_positive Least l u h k = h
end_positive Greatest l u h k = omega arith

end_held : (end : End) (l u : ℕ) → l ≤ u → in_cell (Held l u) (end_of end l u) ≡ true
end_held Least l u h = in_held l u h
end_held Greatest l u h = grind (arith, nat_tests)

end_free : (end : End) (l u : ℕ) → l ≤ u → in_cell (Free l u) (end_of end l u) ≡ true
end_free Least l u h = in_free l u h
end_free Greatest l u h = grind (arith, nat_tests)

total_held : (end : End) (t l u : ℕ) → IsTotal end t (end_of end l u) 0 0 (end_of end l u)
total_held Least t l u = omega arith
total_held Greatest t l u = omega arith

total_taken : (end : End) (t l u : ℕ) → u ≤ 10000 → t ≤ 10000 → distance_of end l u ≤ t → IsTotal end t 0 (t - distance_of end l u) 1 (end_of end l u)
total_taken Least t l u h m d = omega arith
total_taken Greatest t l u h m d = omega arith

total_left : (end : End) (t l u : ℕ) → t ≤ distance_of end l u → IsTotal end t 0 (t - distance_of end l u) 0 0
total_left Least t l u d = omega arith
total_left Greatest t l u d = omega arith

abbrev Rest : End → ℕ → List Cell → Type 0
Rest end t cells = (rest : ℕ) → rest ≤ ats end t cells → (x : List ℕ) × Reaches end t rest cells x

-- a free cell is held below the distance, and at it while some are left
reach_free : (end : End) (t left l u : ℕ) (cells : List Cell) → IsCell (Free l u) → t ≤ 10000 → left ≤ one_at end t (Free l u) + ats end t cells → Rest end t cells → (x : List ℕ) × Reaches end t left (Free l u ∷ cells) x
reach_free end t left l u cells i m h go = by_under (ltb (distance_of end l u) t) refl (eqb (distance_of end l u) t) refl left h
  where
    held : (left took rest : ℕ) → left ≡ took + rest → rest ≤ ats end t cells → distance_of end l u ≤ t → 1 ≡ cond {A = ℕ} (ltb (distance_of end l u) t) 1 0 + took → (x : List ℕ) × Reaches end t left (Free l u ∷ cells) x
    held left took rest e k d o =
        let g = go rest k in
        let v = held_lots (end_of end l u) (end_positive end l u i.0 i.1) in
        (end_of end l u ∷ g.0, added end t left took rest (Free l u) cells (end_of end l u) g.0 g.1 e (end_free end l u i.1) (omega arith) (rw (← o) (total_taken end t l u i.2 m d)))

    passed : (left : ℕ) → left ≤ ats end t cells → t ≤ distance_of end l u → 0 ≡ cond {A = ℕ} (ltb (distance_of end l u) t) 1 0 + 0 → (x : List ℕ) × Reaches end t left (Free l u ∷ cells) x
    passed left k d o =
        let g = go left k in
        (0 ∷ g.0, added end t left 0 left (Free l u) cells 0 g.0 g.1 (omega arith) refl (omega arith) (rw (← o) (total_left end t l u d)))

    by_under : (a : Bool) → ltb (distance_of end l u) t ≡ a → (b : Bool) → eqb (distance_of end l u) t ≡ b → (left : ℕ) → left ≤ cond b 1 0 + ats end t cells → (x : List ℕ) × Reaches end t left (Free l u ∷ cells) x
    by_under true p true q left k = absurd (grind (arith, nat_tests))
    by_under true p false q left k = held left 0 left (omega arith) (omega arith) (let d : distance_of end l u < t = grind (arith, nat_tests) in omega arith) (rw p refl)
    by_under false p true q zero k = passed zero (omega arith) (let d : distance_of end l u ≡ t = grind (arith, nat_tests) in omega arith) (rw p refl)
    by_under false p true q (suc left) k = held (suc left) 1 left (omega arith) (omega arith) (let d : distance_of end l u ≡ t = grind (arith, nat_tests) in omega arith) (rw p refl)
    by_under false p false q left k = passed left (omega arith) (grind (arith, nat_tests)) (rw p refl)

reach_cons : (end : End) (t left : ℕ) (c : Cell) (cells : List Cell) → IsCell c → t ≤ 10000 → left ≤ one_at end t c + ats end t cells → Rest end t cells → (x : List ℕ) × Reaches end t left (c ∷ cells) x
reach_cons end t left Out cells i m h go = let g = go left (omega arith) in (0 ∷ g.0, added end t left 0 left Out cells 0 g.0 g.1 (omega arith) refl refl (nothing end))
  where
    nothing : (end : End) → IsTotal end t 0 0 0 0
    nothing Least = omega arith
    nothing Greatest = omega arith
reach_cons end t left (Held l u) cells i m h go =
    let g = go left (omega arith) in
    let v = held_lots (end_of end l u) (end_positive end l u i.0 i.1) in
    (end_of end l u ∷ g.0, added end t left 0 left (Held l u) cells (end_of end l u) g.0 g.1 (omega arith) (end_held end l u i.1) v (total_held end t l u))
reach_cons end t left (Free l u) cells i m h go = reach_free end t left l u cells i m h go

reached : (end : End) (t : ℕ) (cells : List Cell) → AreCells cells → t ≤ 10000 → Rest end t cells
reached end t [] h m rest k = ([], record { inside = refl; count = omega arith; total = nothing end (0 + rest) (omega arith) })
  where
    nothing : (end : End) (n : ℕ) → n ≡ 0 → IsTotal end t 0 0 n 0
    nothing Least n e = let m = ap (λ (k : ℕ). t * k) e in omega arith
    nothing Greatest n e = let m = ap (λ (k : ℕ). (10000 - t) * k) e in zero_of (10000 - t) n m
      where
        zero_of : (f n : ℕ) → f * n ≡ f * 0 → 0 ≡ 0 + 0 + f * n
        zero_of f n e = omega arith
reached end t (c ∷ cells) h m rest k = reach_cons end t rest c cells (first_is c cells h) m k (λ r e. reached end t cells (rest_are c cells h) m r e)

parted : (end : End) (cells : List Cell) (k t : ℕ) → AreCells cells → t ≤ 10000 → IsParting end cells k t → (x : List ℕ) × Reaches end t (k - unders end t cells) cells x
parted end cells k t h m p = reached end t cells h m (k - unders end t cells) (let a = next_under end t cells in let b = p.few in let c = p.enough in omega arith)

pub record IsCounting (cells : List Cell) (fewest most : ℕ) : Type 0 where
  pub valid : AreCells cells
  pub order : fewest ≤ most
  pub held : helds cells ≤ most
  pub all : fewest ≤ helds cells + frees cells

pub counting : (cells : List Cell) (fewest most : ℕ) → AreCells cells → fewest ≤ most → can_meet cells fewest most ≡ true → IsCounting cells fewest most
counting cells fewest most h le e =
    let b = both_true (leb (helds cells) most) (leb fewest (helds cells + frees cells)) e in
    record { valid = h; order = le; held = le_is _ _ b.0; all = le_is _ _ b.1 }
  where
    le_is : (m n : ℕ) → leb m n ≡ true → m ≤ n
    le_is m n e = grind (arith, nat_tests)

pub fewest_shorts : (cells : List Cell) (k t : ℕ) → AreCells cells → t ≤ 10000 → IsParting Least cells k t → shorts Least t cells ≤ held_ends Least cells + k * t
fewest_shorts cells k t h m p =
    let r = parted Least cells k t h m p in
    let e = r.1.total in
    let f = p.few in
    let q : unders Least t cells + (k - unders Least t cells) ≡ k = omega arith in
    let w = ap (λ (n : ℕ). t * n) q in
    omega arith

pub fewest_are : (cells : List Cell) (fewest most k t lots : ℕ) → IsCounting cells fewest most → k ≡ fewest - helds cells → t ≤ 10000 → IsParting Least cells k t → lots + shorts Least t cells ≡ held_ends Least cells + k * t → AreFewestLots cells fewest most lots
fewest_are cells fewest most k t lots h e m p z =
    let r = parted Least cells k t h.valid m p in
    let f = p.few in
    let q : unders Least t cells + (k - unders Least t cells) ≡ k = omega arith in
    let w = ap (λ (n : ℕ). t * n) q in
    let s = r.1.total in
    let n = r.1.count in
    let a = h.order in
    let b = h.held in
    record {
      reached = (r.0, record { inside = r.1.inside; few = omega arith; many = omega arith }, omega arith);
      below = λ x g. passes x (pick_range cells x h.valid g.inside).0 g.few (fewest_bound t cells x g.inside);
    }
  where
    scaled : (t k h c : ℕ) → k + h ≤ c → t * k + t * h ≤ t * c
    scaled t k h c e = omega (arith, mul-le-mul_left t e)

    passes : (x : List ℕ) → helds cells ≤ held_count x → fewest ≤ held_count x → held_ends Least cells + t * held_count x ≤ sum x + shorts Least t cells + t * helds cells → lots ≤ sum x
    passes x a b d = let g = scaled t k (helds cells) (held_count x) (omega arith) in omega arith

pub most_are : (cells : List Cell) (fewest most k t lots : ℕ) → IsCounting cells fewest most → k ≡ min (most - helds cells) (frees cells) → t ≤ 10000 → IsParting Greatest cells k t → lots ≡ held_ends Greatest cells + shorts Greatest t cells + (10000 - t) * k → AreMostLots cells fewest most lots
most_are cells fewest most k t lots h e m p z =
    let r = parted Greatest cells k t h.valid m p in
    let f = p.few in
    let q : unders Greatest t cells + (k - unders Greatest t cells) ≡ k = omega arith in
    let w = ap (λ (n : ℕ). (10000 - t) * n) q in
    let s = r.1.total in
    let n = r.1.count in
    let a = h.order in
    let b = h.held in
    let c = h.all in
    record {
      reached = (r.0, record { inside = r.1.inside; few = omega arith; many = omega arith }, r_total (sum r.0) s w);
      above = λ x g. passes (10000 - t) x (pick_range cells x h.valid g.inside).1 g.many (most_bound t cells x h.valid m g.inside) z;
    }
  where
    r_total : (v : ℕ) → v ≡ held_ends Greatest cells + shorts Greatest t cells + (10000 - t) * (unders Greatest t cells + (k - unders Greatest t cells)) → (10000 - t) * (unders Greatest t cells + (k - unders Greatest t cells)) ≡ (10000 - t) * k → v ≡ lots
    r_total v a b = a ∙ (ap (λ (n : ℕ). held_ends Greatest cells + shorts Greatest t cells + n) b ∙ sym z)

    scaled : (f k h c : ℕ) → c ≤ k + h → f * c ≤ f * k + f * h
    scaled f k h c e = omega (arith, mul-le-mul_left f e)

    passes : (f : ℕ) (x : List ℕ) → held_count x ≤ helds cells + frees cells → held_count x ≤ most → sum x + f * helds cells ≤ held_ends Greatest cells + shorts Greatest t cells + f * held_count x → lots ≡ held_ends Greatest cells + shorts Greatest t cells + f * k → sum x ≤ lots
    passes f x a b d z = let g = scaled f k (helds cells) (held_count x) (omega arith) in omega arith

-- ---- the least of the terms of alpha alone
unturned : (I : InstanceValue) (o : Option ℕ) (x : List ℕ) → turnover_term I o (pos 0) x ≡ pos 0
unturned I None x = refl
unturned I (Some t) x = zero-*ℤ (turnover_of I.market.assets I.present x -ℤ pos t)

-- the terms of alpha alone: alpha for each lot above L
pub void_lag_of_lots : (s : Setting) (alpha : ℤ) (x : List ℕ) → length x ≡ s.instance.market.assets → void_lag s alpha (pos 0) x ≡ alpha *ℤ (pos (sum x) -ℤ pos s.instance.lots)
void_lag_of_lots s alpha x e =
    let a = void_lag_is s alpha (pos 0) x in
    let b = unturned s.instance s.instance.turnover x in
    let d : pos (sum x) ≡ sum_of s.instance.market.assets x = sum_places x ∙ ap (λ (n : ℕ). sum_below n (lots_at x)) e in
    let f = ap (λ (z : ℤ). alpha *ℤ (z -ℤ pos s.instance.lots)) d in
    added (void_lag s alpha (pos 0) x) (alpha *ℤ (sum_of s.instance.market.assets x -ℤ pos s.instance.lots)) (turnover_term s.instance s.instance.turnover (pos 0) x) a b ∙ sym f
  where
    added : (u v w : ℤ) → u ≡ v +ℤ w → w ≡ pos 0 → u ≡ v
    added u v w p q = omega (arith, ints)

pub pick_length : (s : Setting) (part : List Cell) (x : List ℕ) → length part ≡ s.instance.market.assets → IsPick part s.instance.held s.instance.held_most x → length x ≡ s.instance.market.assets
pick_length s part x n p = sym (in_part_length part x p.inside) ∙ n

-- theta of a void leaf by alpha alone, from the fewest lots or the most
pub void_of_fewest : (s : Setting) (part : List Cell) (alpha : ℤ) (lots : ℕ) → length part ≡ s.instance.market.assets → pos 0 ≤ℤ alpha → AreFewestLots part s.instance.held s.instance.held_most lots → void_theta s part alpha (pos 0) ≡ Some (alpha *ℤ (pos lots -ℤ pos s.instance.lots))
void_of_fewest s part alpha lots n a h =
    let r = h.reached in
    void_theta_is s part alpha (pos 0) (alpha *ℤ (pos lots -ℤ pos s.instance.lots)) (record {
      reached = (r.0, r.1, void_lag_of_lots s alpha r.0 (pick_length s part r.0 n r.1) ∙ ap (λ (v : ℕ). alpha *ℤ (pos v -ℤ pos s.instance.lots)) r.2);
      below = λ x p. subst (λ (z : ℤ). (alpha *ℤ (pos lots -ℤ pos s.instance.lots)) ≤ℤ z) (sym (void_lag_of_lots s alpha x (pick_length s part x n p))) (scaled_le alpha _ _ a (further (h.below x p)));
    })
  where
    further : {a : ℕ} {b : ℕ} → a ≤ b → (pos a -ℤ pos s.instance.lots) ≤ℤ (pos b -ℤ pos s.instance.lots)
    further h = omega (arith, ints)

pub void_of_most : (s : Setting) (part : List Cell) (alpha : ℤ) (lots : ℕ) → length part ≡ s.instance.market.assets → alpha <ℤ pos 0 → AreMostLots part s.instance.held s.instance.held_most lots → void_theta s part alpha (pos 0) ≡ Some (alpha *ℤ (pos lots -ℤ pos s.instance.lots))
void_of_most s part alpha lots n a h =
    let r = h.reached in
    void_theta_is s part alpha (pos 0) (alpha *ℤ (pos lots -ℤ pos s.instance.lots)) (record {
      reached = (r.0, r.1, void_lag_of_lots s alpha r.0 (pick_length s part r.0 n r.1) ∙ ap (λ (v : ℕ). alpha *ℤ (pos v -ℤ pos s.instance.lots)) r.2);
      below = λ x p. subst (λ (z : ℤ). (alpha *ℤ (pos lots -ℤ pos s.instance.lots)) ≤ℤ z) (sym (void_lag_of_lots s alpha x (pick_length s part x n p))) (turned alpha _ _ a (nearer (h.above x p)));
    })
  where
    nearer : {a : ℕ} {b : ℕ} → a ≤ b → (pos a -ℤ pos s.instance.lots) ≤ℤ (pos b -ℤ pos s.instance.lots)
    nearer h = omega (arith, ints)

    turned : (c x y : ℤ) → c <ℤ pos 0 → x ≤ℤ y → (c *ℤ y) ≤ℤ (c *ℤ x)
    turned c x y h k =
        let p = scaled_le (neg_ℤ c) x y (omega (arith, ints)) k in
        let q = neg_ℤ-*ℤ c x in
        let r = neg_ℤ-*ℤ c y in
        omega (arith, linear)
