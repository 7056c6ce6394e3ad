-- A list of lots is told from the line of its held assets, where its length is known.
use Rattle.std.proofs.Common.{◌≡◌, ℕ, zero, suc, ◌+◌, ◌<◌, ◌≤◌, ◌^◌, inl, inr, true, nat_lt, List, [], ◌∷◌, ◌++◌, length, refl, sym, ◌∙◌, subst, arith, slice_index_or, codes}
use Rattle.std.specs.Fmt.{decimal}
use Rattle.std.proofs.lemmas.List.{append_assoc, append_cancel_left}
use Rattle.gap_report.specs.Report.{held_from, lots_line}
use Rattle.gap_report.proofs.DecimalFronts.{Stops, first_same, rest_same, decimal_front}

held_none : (number : ℕ) (xs s : List ℕ) → held_from number (zero ∷ xs) ++ s ≡ held_from (number + 1) xs ++ s
unfolding held_from
held_none number xs s = refl

held_some : (number n : ℕ) (xs s : List ℕ) → held_from number (suc n ∷ xs) ++ s ≡ 32 ∷ (decimal number ++ (58 ∷ (decimal (suc n) ++ (held_from (number + 1) xs ++ s))))
unfolding held_from
held_some number n xs s =
    let some : nat_lt 0 (suc n) ≡ true = grind arith in
    rw some (simp append_assoc refl)

stops_held : (number : ℕ) (xs s : List ℕ) → Stops (held_from number xs ++ (10 ∷ s))
unfolding held_from
stops_held number [] s = inl (omega arith)
stops_held number (zero ∷ xs) s = stops_held (number + 1) xs s
stops_held number (suc n ∷ xs) s = subst Stops (sym (held_some number n xs (10 ∷ s))) (inl (omega arith))

step_small : (number n : ℕ) → number + suc n ≤ 10 ^ 64 → number + 1 + n ≤ 10 ^ 64
step_small number n h = omega arith

here_small : (number n : ℕ) → number + suc n ≤ 10 ^ 64 → number < 10 ^ 64
here_small number n h = omega arith

other_small : (number m n : ℕ) → number + suc m ≤ 10 ^ 64 → suc m ≡ suc n → number + 1 + n ≤ 10 ^ 64
other_small number m n h e = omega arith

none_some : (n : ℕ) → zero ≡ suc n → ⊥
none_some n e = omega arith

step_same : (m n : ℕ) → suc m ≡ suc n → m ≡ n
step_same m n h = omega arith

-- the first number that is listed is at least that of the list's beginning
held_later : (number below : ℕ) (xs s t : List ℕ) → below < number → number + length xs ≤ 10 ^ 64 → held_from number xs ++ (10 ∷ s) ≡ 32 ∷ (decimal below ++ (58 ∷ t)) → ⊥
unfolding held_from
held_later number below [] s t less small e = omega (arith, first_same 10 32 s (decimal below ++ (58 ∷ t)) e)
held_later number below (zero ∷ xs) s t less small e = held_later (number + 1) below xs s t (omega arith) (step_small number (length xs) small) e
held_later number below (suc n ∷ xs) s t less small e = later number below (decimal (suc n) ++ (held_from (number + 1) xs ++ (10 ∷ s))) t less (here_small number (length xs) small) (sym (held_some number n xs (10 ∷ s)) ∙ e)
  where
    later : (number below : ℕ) (u t : List ℕ) → below < number → number < 10 ^ 64 → 32 ∷ (decimal number ++ (58 ∷ u)) ≡ 32 ∷ (decimal below ++ (58 ∷ t)) → ⊥
    later number below u t less small e =
        let r = decimal_front number below (58 ∷ u) (58 ∷ t) small (omega arith) (inr (omega arith)) (inr (omega arith)) (rest_same 32 32 (decimal number ++ (58 ∷ u)) (decimal below ++ (58 ∷ t)) e) in
        omega (arith, r.0)

both_held : (number m n : ℕ) (u v : List ℕ) → number < 10 ^ 64 → m < 10 ^ 64 → n < 10 ^ 64 → Stops u → Stops v → 32 ∷ (decimal number ++ (58 ∷ (decimal m ++ u))) ≡ 32 ∷ (decimal number ++ (58 ∷ (decimal n ++ v))) → (m ≡ n) × (u ≡ v)
both_held number m n u v k p q a b e =
    let behind = append_cancel_left (decimal number) (58 ∷ (decimal m ++ u)) (58 ∷ (decimal n ++ v)) (rest_same 32 32 (decimal number ++ (58 ∷ (decimal m ++ u))) (decimal number ++ (58 ∷ (decimal n ++ v))) e) in
    decimal_front m n u v p q a b (rest_same 58 58 (decimal m ++ u) (decimal n ++ v) behind)

-- the held assets of a list of lots with the end of the line behind them
held_front : (number : ℕ) (xs ys s t : List ℕ) → number + length xs ≤ 10 ^ 64 → length xs ≡ length ys → ((k : ℕ) → slice_index_or xs k 0 < 10 ^ 64) → ((k : ℕ) → slice_index_or ys k 0 < 10 ^ 64)
    → held_from number xs ++ (10 ∷ s) ≡ held_from number ys ++ (10 ∷ t) → (xs ≡ ys) × (s ≡ t)
unfolding held_from
held_front number [] [] s t small same p q e = (refl, rest_same 10 10 s t e)
held_front number [] (y ∷ ys) s t small same p q e = absurd (none_some (length ys) same)
held_front number (x ∷ xs) [] s t small same p q e = absurd (none_some (length xs) (sym same))
held_front number (zero ∷ xs) (zero ∷ ys) s t small same p q e =
    let r = held_front (number + 1) xs ys s t (step_small number (length xs) small) (step_same (length xs) (length ys) same) (λ k. p (suc k)) (λ k. q (suc k)) e in
    ((λ i. zero ∷ r.0 i), r.1)
held_front number (zero ∷ xs) (suc n ∷ ys) s t small same p q e =
    absurd (held_later (number + 1) number xs s (decimal (suc n) ++ (held_from (number + 1) ys ++ (10 ∷ t))) (omega arith) (step_small number (length xs) small) (e ∙ held_some number n ys (10 ∷ t)))
held_front number (suc m ∷ xs) (zero ∷ ys) s t small same p q e =
    absurd (held_later (number + 1) number ys t (decimal (suc m) ++ (held_from (number + 1) xs ++ (10 ∷ s))) (omega arith) (other_small number (length xs) (length ys) small same) (sym e ∙ held_some number m xs (10 ∷ s)))
held_front number (suc m ∷ xs) (suc n ∷ ys) s t small same p q e =
    let here = both_held number (suc m) (suc n) (held_from (number + 1) xs ++ (10 ∷ s)) (held_from (number + 1) ys ++ (10 ∷ t)) (here_small number (length xs) small) (p 0) (q 0) (stops_held (number + 1) xs s) (stops_held (number + 1) ys t) (sym (held_some number m xs (10 ∷ s)) ∙ e ∙ held_some number n ys (10 ∷ t)) in
    let more = held_front (number + 1) xs ys s t (step_small number (length xs) small) (step_same (length xs) (length ys) same) (λ k. p (suc k)) (λ k. q (suc k)) here.1 in
    ((λ i. here.0 i ∷ more.0 i), more.1)

three : (a b c s : List ℕ) → a ++ b ++ c ++ s ≡ a ++ (b ++ (c ++ s))
three a b c s = simp append_assoc refl

lots_behind : (x s : List ℕ) → lots_line x ++ s ≡ codes "lots" ++ (held_from 1 x ++ (10 ∷ s))
unfolding lots_line
lots_behind x s = three (codes "lots") (held_from 1 x) (codes "\n") s

-- the line of the lots
pub lots_front : (xs ys s t : List ℕ) → 1 + length xs ≤ 10 ^ 64 → length xs ≡ length ys → ((k : ℕ) → slice_index_or xs k 0 < 10 ^ 64) → ((k : ℕ) → slice_index_or ys k 0 < 10 ^ 64)
    → lots_line xs ++ s ≡ lots_line ys ++ t → (xs ≡ ys) × (s ≡ t)
lots_front xs ys s t small same p q e =
    held_front 1 xs ys s t small same p q (append_cancel_left (codes "lots") (held_from 1 xs ++ (10 ∷ s)) (held_from 1 ys ++ (10 ∷ t)) (sym (lots_behind xs s) ∙ e ∙ lots_behind ys t))
