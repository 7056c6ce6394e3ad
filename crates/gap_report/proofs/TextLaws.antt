-- What is told of a weight is told from its lines, whatever stands behind them.
use Rattle.std.proofs.Common.{◌≡◌, ℕ, ◌+◌, ◌<◌, ◌≤◌, ◌^◌, ◌⊎◌, inl, inr, List, [], ◌∷◌, ◌++◌, length, Option, Some, None, ℤ, refl, sym, ap, ◌∙◌, arith, unsigned_abs, codes}
use Rattle.std.specs.Fmt.{decimal, signed_decimal}
use Rattle.std.specs.List.{AllByRecursion}
use Rattle.std.proofs.lemmas.List.{append_assoc, append_cancel_left}
use Rattle.gap_model.specs.declared.outcome.Best.{Best}
use Rattle.gap_model.specs.declared.outcome.Told.{Told}
use Rattle.gap_model.specs.declared.outcome.Outcome.{Outcome}
use Rattle.gap_model.specs.declared.outcome.Outcome.TheVariants.{Closed, NoPortfolio, Bounded}
use Rattle.gap_report.specs.Report.{known_word, bounds_text, bound_text, numbers_text, denominator, weight_line, lots_line}
use Rattle.gap_report.specs.Texts.{best_of, portfolio_text, told_lines, all_lines, IsShortBest, IsShortOutcome, IsShort}
use Rattle.gap_report.proofs.DecimalFronts.{Stops, decimal_front, signed_front, no_lone_minus, apart}
use Rattle.gap_report.proofs.HeldLaws.{lots_front}

-- a number over a denominator that is known
fraction_front : (below : ℕ) (v w : ℤ) (s t : List ℕ) → unsigned_abs v < 10 ^ 64 → unsigned_abs w < 10 ^ 64
    → signed_decimal v ++ (codes "/" ++ (decimal below ++ s)) ≡ signed_decimal w ++ (codes "/" ++ (decimal below ++ t)) → (v ≡ w) × (s ≡ t)
fraction_front below v w s t p q e =
    let r = signed_front v w (codes "/" ++ (decimal below ++ s)) (codes "/" ++ (decimal below ++ t)) p q (inl (omega arith)) (inl (omega arith)) e in
    let behind = append_cancel_left (codes "/") (decimal below ++ s) (decimal below ++ t) r.1 in
    (r.0, append_cancel_left (decimal below) s t behind)

eight : (a b c d f g h j s : List ℕ) → a ++ (b ++ (c ++ (d ++ (f ++ (g ++ (h ++ j)))))) ++ s ≡ a ++ (b ++ (c ++ (d ++ (f ++ (g ++ (h ++ (j ++ s)))))))
eight a b c d f g h j s = simp append_assoc refl

four : (a b c d s : List ℕ) → a ++ (b ++ (c ++ d)) ++ s ≡ a ++ (b ++ (c ++ (d ++ s)))
four a b c d s = simp append_assoc refl

-- the texts of the bounds with a text behind them
bounds_on : ℤ → ℤ → ℕ → List ℕ → List ℕ
bounds_on v b below s = signed_decimal v ++ (codes "/" ++ (decimal below ++ (codes " bound " ++ (signed_decimal b ++ (codes "/" ++ (decimal below ++ s))))))

bounds_behind : (v b : ℤ) (below : ℕ) (s : List ℕ) → bounds_text v b below ++ s ≡ codes " objective " ++ bounds_on v b below s
unfolding bounds_text bounds_on
bounds_behind v b below s = eight (codes " objective ") (signed_decimal v) (codes "/") (decimal below) (codes " bound ") (signed_decimal b) (codes "/") (decimal below) s

bound_behind : (b : ℤ) (below : ℕ) (s : List ℕ) → bound_text b below ++ s ≡ codes " objective - bound " ++ (signed_decimal b ++ (codes "/" ++ (decimal below ++ s)))
unfolding bound_text
bound_behind b below s = four (codes " objective - bound ") (signed_decimal b) (codes "/") (decimal below) s

on_front : (below : ℕ) (v b w c : ℤ) (s t : List ℕ) → unsigned_abs v < 10 ^ 64 → unsigned_abs b < 10 ^ 64 → unsigned_abs w < 10 ^ 64 → unsigned_abs c < 10 ^ 64
    → bounds_on v b below s ≡ bounds_on w c below t → (v ≡ w) × (b ≡ c) × (s ≡ t)
unfolding bounds_on
on_front below v b w c s t pv pb pw pc e =
    let first = fraction_front below v w (codes " bound " ++ (signed_decimal b ++ (codes "/" ++ (decimal below ++ s)))) (codes " bound " ++ (signed_decimal c ++ (codes "/" ++ (decimal below ++ t)))) pv pw e in
    let second = fraction_front below b c s t pb pc (append_cancel_left (codes " bound ") (signed_decimal b ++ (codes "/" ++ (decimal below ++ s))) (signed_decimal c ++ (codes "/" ++ (decimal below ++ t))) first.1) in
    (first.0, second.0, second.1)

bounds_front : (below : ℕ) (v b w c : ℤ) (s t : List ℕ) → unsigned_abs v < 10 ^ 64 → unsigned_abs b < 10 ^ 64 → unsigned_abs w < 10 ^ 64 → unsigned_abs c < 10 ^ 64
    → bounds_text v b below ++ s ≡ bounds_text w c below ++ t → (v ≡ w) × (b ≡ c) × (s ≡ t)
bounds_front below v b w c s t pv pb pw pc e =
    on_front below v b w c s t pv pb pw pc (append_cancel_left (codes " objective ") (bounds_on v b below s) (bounds_on w c below t) (sym (bounds_behind v b below s) ∙ e ∙ bounds_behind w c below t))

bound_front : (below : ℕ) (b c : ℤ) (s t : List ℕ) → unsigned_abs b < 10 ^ 64 → unsigned_abs c < 10 ^ 64
    → bound_text b below ++ s ≡ bound_text c below ++ t → (b ≡ c) × (s ≡ t)
bound_front below b c s t p q e =
    fraction_front below b c s t p q (append_cancel_left (codes " objective - bound ") (signed_decimal b ++ (codes "/" ++ (decimal below ++ s))) (signed_decimal c ++ (codes "/" ++ (decimal below ++ t))) (sym (bound_behind b below s) ∙ e ∙ bound_behind c below t))

-- an objective isn't the dash that stands for none
dash : (below : ℕ) (v b : ℤ) (s u : List ℕ) → unsigned_abs v < 10 ^ 64 → bounds_on v b below s ≡ 45 ∷ 32 ∷ u → ⊥
unfolding bounds_on
dash below v b s u p e = no_lone_minus v (codes "/" ++ (decimal below ++ (codes " bound " ++ (signed_decimal b ++ (codes "/" ++ (decimal below ++ s)))))) u p (inl (omega arith)) e

no_dash : (below : ℕ) (v b c : ℤ) (s t : List ℕ) → unsigned_abs v < 10 ^ 64 → bounds_text v b below ++ s ≡ bound_text c below ++ t → ⊥
no_dash below v b c s t p e = dash below v b s (codes "bound " ++ (signed_decimal c ++ (codes "/" ++ (decimal below ++ t)))) p
    (append_cancel_left (codes " objective ") (bounds_on v b below s) (codes "- " ++ (codes "bound " ++ (signed_decimal c ++ (codes "/" ++ (decimal below ++ t))))) (sym (bounds_behind v b below s) ∙ e ∙ bound_behind c below t))

same_best : (x y : Best) → x.lots ≡ y.lots → x.value ≡ y.value → x ≡ y
same_best x y p q = λ i. record { lots = p i; value = q i }

-- the numbers and the lots of a portfolio
best_front : (below assets : ℕ) (x y : Best) (b c : ℤ) (s t : List ℕ) → 1 + assets ≤ 10 ^ 64 → IsShortBest assets x → IsShortBest assets y → unsigned_abs b < 10 ^ 64 → unsigned_abs c < 10 ^ 64
    → bounds_text x.value b below ++ (codes "\n" ++ (lots_line x.lots ++ s)) ≡ bounds_text y.value c below ++ (codes "\n" ++ (lots_line y.lots ++ t)) → (x ≡ y) × (b ≡ c) × (s ≡ t)
best_front below assets x y b c s t few hx hy pb pc e =
    let numbers = bounds_front below x.value b y.value c (codes "\n" ++ (lots_line x.lots ++ s)) (codes "\n" ++ (lots_line y.lots ++ t)) hx.value pb hy.value pc e in
    let behind = append_cancel_left (codes "\n") (lots_line x.lots ++ s) (lots_line y.lots ++ t) numbers.2 in
    let small : 1 + length x.lots ≤ 10 ^ 64 = omega (arith, hx.length_is) in
    let listed = lots_front x.lots y.lots s t small (hx.length_is ∙ sym hy.length_is) hx.lots hy.lots behind in
    (same_best x y listed.0 numbers.0, numbers.1, listed.1)

-- what stands behind the number of split nodes
abbrev outcome_on : ℕ → Outcome → List ℕ → List ℕ
outcome_on below o s = numbers_text o below ++ (codes "\n" ++ (portfolio_text (best_of o) ++ s))

stops_outcome : (below : ℕ) (o : Outcome) (s : List ℕ) → Stops (outcome_on below o s)
unfolding bounds_text bound_text
stops_outcome below (Closed best) s = inl (omega arith)
stops_outcome below NoPortfolio s = inl (omega arith)
stops_outcome below (Bounded None bound) s = inl (omega arith)
stops_outcome below (Bounded (Some best) bound) s = inl (omega arith)

open_front : (below assets : ℕ) (x y : Option Best) (b c : ℤ) (s t : List ℕ) → 1 + assets ≤ 10 ^ 64 → IsShortOutcome assets (Bounded x b) → IsShortOutcome assets (Bounded y c)
    → outcome_on below (Bounded x b) s ≡ outcome_on below (Bounded y c) t → (Bounded x b ≡ Bounded y c) × (s ≡ t)
open_front below assets (Some x) (Some y) b c s t few hx hy e =
    let r = best_front below assets x y b c s t few hx.1 hy.1 hx.0 hy.0 e in
    ((λ i. Bounded (Some (r.0 i)) (r.1 i)), r.2)
open_front below assets (Some x) None b c s t few hx hy e = absurd (no_dash below x.value b c (codes "\n" ++ (lots_line x.lots ++ s)) (codes "\n" ++ t) hx.1.value e)
open_front below assets None (Some y) b c s t few hx hy e = absurd (no_dash below y.value c b (codes "\n" ++ (lots_line y.lots ++ t)) (codes "\n" ++ s) hy.1.value (sym e))
open_front below assets None None b c s t few hx hy e =
    let r = bound_front below b c (codes "\n" ++ s) (codes "\n" ++ t) hx.0 hy.0 e in
    ((λ i. Bounded None (r.0 i)), append_cancel_left (codes "\n") s t r.1)

-- what stands behind a weight
abbrev known_on : ℕ → ℕ → Outcome → List ℕ → List ℕ
known_on below nodes o s = known_word o ++ (codes " nodes " ++ (decimal nodes ++ outcome_on below o s))

nodes_front : (m n : ℕ) (u v : List ℕ) → m < 10 ^ 64 → n < 10 ^ 64 → Stops u → Stops v → codes " nodes " ++ (decimal m ++ u) ≡ codes " nodes " ++ (decimal n ++ v) → (m ≡ n) × (u ≡ v)
nodes_front m n u v p q a b e = decimal_front m n u v p q a b (append_cancel_left (codes " nodes ") (decimal m ++ u) (decimal n ++ v) e)

pub known_front : (below assets m n : ℕ) (o w : Outcome) (s t : List ℕ) → 1 + assets ≤ 10 ^ 64 → m < 10 ^ 64 → n < 10 ^ 64 → IsShortOutcome assets o → IsShortOutcome assets w
    → known_on below m o s ≡ known_on below n w t → (o ≡ w) × (m ≡ n) × (s ≡ t)
known_front below assets m n (Closed x) (Closed y) s t few p q hx hy e =
    let known = append_cancel_left (codes "closed") (codes " nodes " ++ (decimal m ++ outcome_on below (Closed x) s)) (codes " nodes " ++ (decimal n ++ outcome_on below (Closed y) t)) e in
    let counted = nodes_front m n (outcome_on below (Closed x) s) (outcome_on below (Closed y) t) p q (stops_outcome below (Closed x) s) (stops_outcome below (Closed y) t) known in
    let r = best_front below assets x y x.value y.value s t few hx hy hx.value hy.value counted.1 in
    (ap Closed r.0, counted.0, r.2)
known_front below assets m n NoPortfolio NoPortfolio s t few p q hx hy e =
    let known = append_cancel_left (codes "none") (codes " nodes " ++ (decimal m ++ outcome_on below NoPortfolio s)) (codes " nodes " ++ (decimal n ++ outcome_on below NoPortfolio t)) e in
    let counted = nodes_front m n (outcome_on below NoPortfolio s) (outcome_on below NoPortfolio t) p q (stops_outcome below NoPortfolio s) (stops_outcome below NoPortfolio t) known in
    (refl, counted.0, append_cancel_left (codes "\n") s t counted.1)
known_front below assets m n (Bounded x b) (Bounded y c) s t few p q hx hy e =
    let known = append_cancel_left (codes "open") (codes " nodes " ++ (decimal m ++ outcome_on below (Bounded x b) s)) (codes " nodes " ++ (decimal n ++ outcome_on below (Bounded y c) t)) e in
    let counted = nodes_front m n (outcome_on below (Bounded x b) s) (outcome_on below (Bounded y c) t) p q (stops_outcome below (Bounded x b) s) (stops_outcome below (Bounded y c) t) known in
    let r = open_front below assets x y b c s t few hx hy counted.1 in
    (r.0, counted.0, r.1)
known_front below assets m n (Closed x) NoPortfolio s t few p q hx hy e = absurd (apart _ _ e 99 110 refl refl (λ h. omega arith))
known_front below assets m n (Closed x) (Bounded y c) s t few p q hx hy e = absurd (apart _ _ e 99 111 refl refl (λ h. omega arith))
known_front below assets m n NoPortfolio (Closed y) s t few p q hx hy e = absurd (apart _ _ e 110 99 refl refl (λ h. omega arith))
known_front below assets m n NoPortfolio (Bounded y c) s t few p q hx hy e = absurd (apart _ _ e 110 111 refl refl (λ h. omega arith))
known_front below assets m n (Bounded x b) (Closed y) s t few p q hx hy e = absurd (apart _ _ e 111 99 refl refl (λ h. omega arith))
known_front below assets m n (Bounded x b) NoPortfolio s t few p q hx hy e = absurd (apart _ _ e 111 110 refl refl (λ h. omega arith))

-- the weight at the front of a line
weight_front : (p q r v : ℕ) (s t : List ℕ) → p < 10 ^ 64 → q < 10 ^ 64 → r < 10 ^ 64 → v < 10 ^ 64
    → codes "weight " ++ (decimal p ++ (codes "/" ++ (decimal q ++ (codes " " ++ s)))) ≡ codes "weight " ++ (decimal r ++ (codes "/" ++ (decimal v ++ (codes " " ++ t)))) → (p ≡ r) × (q ≡ v) × (s ≡ t)
weight_front p q r v s t hp hq hr hv e =
    let over = decimal_front p r (codes "/" ++ (decimal q ++ (codes " " ++ s))) (codes "/" ++ (decimal v ++ (codes " " ++ t))) hp hr (inl (omega arith)) (inl (omega arith)) (append_cancel_left (codes "weight ") (decimal p ++ (codes "/" ++ (decimal q ++ (codes " " ++ s)))) (decimal r ++ (codes "/" ++ (decimal v ++ (codes " " ++ t)))) e) in
    let under = decimal_front q v (codes " " ++ s) (codes " " ++ t) hq hv (inl (omega arith)) (inl (omega arith)) (append_cancel_left (codes "/") (decimal q ++ (codes " " ++ s)) (decimal v ++ (codes " " ++ t)) over.1) in
    (over.0, under.0, append_cancel_left (codes " ") s t under.1)

ten : (a b c d f g h j k l m s : List ℕ) → a ++ (b ++ (c ++ (d ++ (f ++ (g ++ (h ++ (j ++ (k ++ l)))))))) ++ m ++ s ≡ a ++ (b ++ (c ++ (d ++ (f ++ (g ++ (h ++ (j ++ (k ++ (l ++ (m ++ s))))))))))
ten a b c d f g h j k l m s = simp append_assoc refl

told_behind : (lots nodes : ℕ) (told : Told) (s : List ℕ) → told_lines lots nodes told ++ s
    ≡ codes "weight " ++ (decimal told.weight.p ++ (codes "/" ++ (decimal told.weight.q ++ (codes " " ++ known_on (denominator told.weight.q lots) nodes told.outcome s))))
unfolding told_lines weight_line
told_behind lots nodes told s =
    ten (codes "weight ") (decimal told.weight.p) (codes "/") (decimal told.weight.q) (codes " ") (known_word told.outcome) (codes " nodes ") (decimal nodes)
    (numbers_text told.outcome (denominator told.weight.q lots)) (codes "\n") (portfolio_text (best_of told.outcome)) s

same_told : (a b : Told) → a.weight.p ≡ b.weight.p → a.weight.q ≡ b.weight.q → a.outcome ≡ b.outcome → a ≡ b
same_told a b p q o = λ i. record { weight = record { p = p i; q = q i }; outcome = o i }

-- the lines of a weight
pub told_front : (lots assets m n : ℕ) (a b : Told) (s t : List ℕ) → 1 + assets ≤ 10 ^ 64 → m < 10 ^ 64 → n < 10 ^ 64 → IsShort assets a → IsShort assets b
    → told_lines lots m a ++ s ≡ told_lines lots n b ++ t → (a ≡ b) × (m ≡ n) × (s ≡ t)
told_front lots assets m n a b s t few p q ha hb e =
    let w = weight_front a.weight.p a.weight.q b.weight.p b.weight.q (known_on (denominator a.weight.q lots) m a.outcome s) (known_on (denominator b.weight.q lots) n b.outcome t) ha.p ha.q hb.p hb.q (sym (told_behind lots m a s) ∙ e ∙ told_behind lots n b t) in
    let r = known_front (denominator a.weight.q lots) assets m n a.outcome b.outcome s t few p q ha.outcome hb.outcome (w.2 ∙ ap (λ z. known_on (denominator z lots) n b.outcome t) (sym w.1)) in
    (same_told a b w.0 w.1 r.0, r.1, r.2)

some_text : (lots nodes : ℕ) (told : Told) (s : List ℕ) → [] ≡ told_lines lots nodes told ++ s → ⊥
some_text lots nodes told s e = apart _ _ (e ∙ told_behind lots nodes told s) 0 119 refl refl (λ h. omega arith)

-- the lines of weights one after another
pub all_front : (lots assets m n : ℕ) (a b : List Told) → 1 + assets ≤ 10 ^ 64 → m < 10 ^ 64 → n < 10 ^ 64 → AllByRecursion (IsShort assets) a → AllByRecursion (IsShort assets) b
    → all_lines lots m a ≡ all_lines lots n b → (a ≡ b) × ((a ≡ []) ⊎ (m ≡ n))
unfolding all_lines
all_front lots assets m n [] [] few p q ha hb e = (refl, inl refl)
all_front lots assets m n [] (told ∷ more) few p q ha hb e = absurd (some_text lots n told (all_lines lots n more) e)
all_front lots assets m n (told ∷ more) [] few p q ha hb e = absurd (some_text lots m told (all_lines lots m more) (sym e))
all_front lots assets m n (a ∷ more_a) (b ∷ more_b) few p q ha hb e =
    let here = told_front lots assets m n a b (all_lines lots m more_a) (all_lines lots n more_b) few p q ha.0 hb.0 e in
    let behind = all_front lots assets m n more_a more_b few p q ha.1 hb.1 here.2 in
    ((λ i. here.0 i ∷ behind.0 i), inr here.1)
