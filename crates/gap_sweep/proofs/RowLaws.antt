-- The lines of the frontier, one after the other, and their ranks.
use Rattle.std.proofs.Common.{◌≡◌, ℕ, zero, suc, ◌+◌, ◌<◌, ◌≤◌, ℤ, ◌≤ℤ◌, ◌<ℤ◌, inl, inr, ◌⊎◌, ◌↔◌, List, [], ◌∷◌, ◌++◌, length, take, slice_get, append_assoc, append-nil, Bool, true, false, not, ◌&&◌, ◌||◌, IsTrue, Some, Result, Ok, Err, refl, sym, ap, ◌∙◌, subst, arith, add-one, get_or}
use Rattle.std.specs.Int.Signed.{le_z, lt_z}
use Rattle.std.specs.List.{All}
use Rattle.std.proofs.lemmas.Int.{ints}
use Rattle.std.proofs.lemmas.List.{take_all}
use Rattle.std.proofs.lemmas.List.Elements.{All-weaker}
use Rattle.std.proofs.lemmas.List.Sums.{AllPass-from_list_all, list_all-from_AllPass}
use Rattle.std.proofs.lemmas.Option.{same_Some}
use Rattle.gap_files.specs.Outside.{FilesNow, SinkNow}
use Rattle.gap_model.specs.declared.front.FrontRow.{FrontRow}
use Rattle.gap_model.specs.Fronts.{Dominates, IsEfficient}
use Rattle.gap_report.specs.Report.{front_line}
use Rattle.gap_files.specs.Marks.{Mark, prints}
use Rattle.gap_files.specs.Steps.{Step}
use Rattle.gap_files.specs.declared.halt.Halt.{Halt}
use Rattle.gap_files.proofs.MarkLaws.{prints-append, prints-none}
use Rattle.gap_files.proofs.StepLaws.{then_step, stops_early, step_none, step_same}
use Rattle.gap_sweep.specs.Texts.{front_text, is_efficient, dominates}

front_next : (lots : ℕ) (all : List FrontRow) (numbers : List ℕ) (rows : List FrontRow) (k : ℕ) (row : FrontRow) → k < length numbers → k < length rows
    → get_or rows k row ≡ row
    → front_text lots all (take (suc k) numbers) (take (suc k) rows) ≡ front_text lots all (take k numbers) (take k rows) ++ front_line lots (get_or numbers k 0) row (is_efficient all row)
front_next lots all [] rows k row below_numbers below_rows is = absurd (omega arith)
front_next lots all (number ∷ numbers) [] k row below_numbers below_rows is = absurd (omega arith)
front_next lots all (number ∷ numbers) (first ∷ rows) zero row below_numbers below_rows is =
    append-nil (front_line lots number first (is_efficient all first)) ∙ ap (λ (x : FrontRow). front_line lots number x (is_efficient all x)) is
front_next lots all (number ∷ numbers) (first ∷ rows) (suc k) row below_numbers below_rows is =
    ap (λ (x : List ℕ). front_line lots number first (is_efficient all first) ++ x) (front_next lots all numbers rows k row (omega arith) (omega arith) is)
    ∙ sym (append_assoc (front_line lots number first (is_efficient all first)) (front_text lots all (take k numbers) (take k rows))
    (front_line lots (get_or numbers k 0) row (is_efficient all row)))

-- the lines of the first k rows, and the next one
pub front_more : (lots : ℕ) (all : List FrontRow) (numbers : List ℕ) (rows : List FrontRow) (k : ℕ) (row : FrontRow) → k < length numbers → k < length rows
    → get_or rows k row ≡ row
    → front_text lots all (take (k + 1) numbers) (take (k + 1) rows) ≡ front_text lots all (take k numbers) (take k rows) ++ front_line lots (get_or numbers k 0) row (is_efficient all row)
front_more lots all numbers rows k row below_numbers below_rows is =
    ap (λ (m : ℕ). front_text lots all (take m numbers) (take m rows)) (add-one k) ∙ front_next lots all numbers rows k row below_numbers below_rows is

-- the lines of the first k rows are a front of those of all
pub front_rest : (lots : ℕ) (all : List FrontRow) (numbers : List ℕ) (rows : List FrontRow) (k : ℕ)
    → (rest : List ℕ) × (front_text lots all numbers rows ≡ front_text lots all (take k numbers) (take k rows) ++ rest)
front_rest lots all numbers rows zero = (front_text lots all numbers rows, refl)
front_rest lots all [] rows (suc k) = ([], refl)
front_rest lots all (number ∷ numbers) [] (suc k) = ([], refl)
front_rest lots all (number ∷ numbers) (first ∷ rows) (suc k) =
    let it = front_rest lots all numbers rows k in (
      it.0,
      ap (λ (x : List ℕ). front_line lots number first (is_efficient all first) ++ x) it.1
          ∙ sym (append_assoc (front_line lots number first (is_efficient all first)) (front_text lots all (take k numbers) (take k rows)) it.0),
    )

-- the lines of the first k rows and the next are a front of those of all
pub front_on : (lots : ℕ) (all : List FrontRow) (numbers : List ℕ) (rows : List FrontRow) (k : ℕ) (row : FrontRow) → k < length numbers → k < length rows
    → get_or rows k row ≡ row
    → (rest : List ℕ) × (front_text lots all numbers rows ≡ (front_text lots all (take k numbers) (take k rows) ++ front_line lots (get_or numbers k 0) row (is_efficient all row)) ++ rest)
front_on lots all numbers rows k row below_numbers below_rows is =
    let it = front_rest lots all numbers rows (k + 1) in
    (it.0, it.1 ∙ ap (λ (x : List ℕ). x ++ it.0) (front_more lots all numbers rows k row below_numbers below_rows is))

-- nothing was printed yet
pub rows_none : (lots : ℕ) (all rows : List FrontRow) (numbers : List ℕ) (name : List ℕ) (files : FilesNow) (s : SinkNow)
    → Step name files s files s (prints (front_text lots all (take 0 numbers) (take 0 rows))) (Ok tt)
rows_none lots all rows numbers name files s = step_same name files s files s [] (prints []) (Ok tt) (sym prints-none) (step_none name files s tt)

-- the next row was printed
pub rows_more : (lots : ℕ) (all : List FrontRow) (numbers : List ℕ) (rows : List FrontRow) (k : ℕ) (row : FrontRow) (name : List ℕ) (files : FilesNow) (s t u : SinkNow)
    → k < length numbers → k < length rows → get_or rows k row ≡ row
    → Step name files s files t (prints (front_text lots all (take k numbers) (take k rows))) (Ok tt)
    → Step name files t files u (prints (front_line lots (get_or numbers k 0) row (is_efficient all row))) (Ok tt)
    → Step name files s files u (prints (front_text lots all (take (k + 1) numbers) (take (k + 1) rows))) (Ok tt)
rows_more lots all numbers rows k row name files s t u below_numbers below_rows is first next =
    let a : List ℕ = front_text lots all (take k numbers) (take k rows) in
    let b : List ℕ = front_line lots (get_or numbers k 0) row (is_efficient all row) in
    step_same name files s files u (prints a ++ prints b) (prints (front_text lots all (take (k + 1) numbers) (take (k + 1) rows))) (Ok tt)
    (sym (prints-append a b) ∙ ap prints (sym (front_more lots all numbers rows k row below_numbers below_rows is)))
    (then_step name files s files t files u (prints a) (prints b) tt (Ok tt) first next)

-- a row was printed by what was read of it
pub row_printed : (lots : ℕ) (all : List FrontRow) (number own : ℕ) (row : FrontRow) (rank : Bool) (name : List ℕ) (files : FilesNow) (s t : SinkNow) (r : Result (Unit {0}) Halt)
    → number ≡ own → rank ≡ is_efficient all row → Step name files s files t (prints (front_line lots number row rank)) r
    → Step name files s files t (prints (front_line lots own row (is_efficient all row))) r
row_printed lots all number own row rank name files s t r same is step =
    step_same name files s files t (prints (front_line lots number row rank)) (prints (front_line lots own row (is_efficient all row))) r
    (ap prints (ap (λ (n : ℕ). front_line lots n row rank) same ∙ ap (λ (b : Bool). front_line lots own row b) is)) step

-- it stopped at the next row
pub rows_stopped : (lots : ℕ) (all : List FrontRow) (numbers : List ℕ) (rows : List FrontRow) (k : ℕ) (row : FrontRow) (halt : Halt) (name : List ℕ) (files : FilesNow) (s t u : SinkNow)
    → k < length numbers → k < length rows → get_or rows k row ≡ row
    → Step name files s files t (prints (front_text lots all (take k numbers) (take k rows))) (Ok tt)
    → Step name files t files u (prints (front_line lots (get_or numbers k 0) row (is_efficient all row))) (Err halt)
    → Step name files s files u (prints (front_text lots all numbers rows)) (Err halt)
rows_stopped lots all numbers rows k row halt name files s t u below_numbers below_rows is first next =
    let a : List ℕ = front_text lots all (take k numbers) (take k rows) in
    let b : List ℕ = front_line lots (get_or numbers k 0) row (is_efficient all row) in
    let it = front_on lots all numbers rows k row below_numbers below_rows is in
    step_same name files s files u ((prints a ++ prints b) ++ prints it.0) (prints (front_text lots all numbers rows)) (Err halt)
    (ap (λ (x : List Mark). x ++ prints it.0) (sym (prints-append a b)) ∙ sym (prints-append (a ++ b) it.0) ∙ ap prints (sym it.1))
    (stops_early name files s files u (prints a ++ prints b) (prints it.0) halt
    (then_step name files s files t files u (prints a) (prints b) tt (Err halt) first next))

-- all rows were printed
pub rows_all : (lots : ℕ) (all : List FrontRow) (numbers : List ℕ) (rows : List FrontRow) (k : ℕ) (name : List ℕ) (files : FilesNow) (s t : SinkNow)
    → k ≡ length rows → length numbers ≡ length rows
    → Step name files s files t (prints (front_text lots all (take k numbers) (take k rows))) (Ok tt)
    → Step name files s files t (prints (front_text lots all numbers rows)) (Ok tt)
rows_all lots all numbers rows k name files s t is same step =
    let over : length numbers ≤ k = omega arith in
    let past : length rows ≤ k = omega arith in
    step_same name files s files t (prints (front_text lots all (take k numbers) (take k rows))) (prints (front_text lots all numbers rows)) (Ok tt)
    (ap prints (ap (λ (x : List ℕ). front_text lots all x (take k rows)) (take_all k numbers over) ∙ ap (λ (x : List FrontRow). front_text lots all numbers x) (take_all k rows past))) step

le_true : (a b : ℤ) → le_z a b ≡ true → a ≤ℤ b
le_true a b h = grind (arith, ints)

lt_true : (a b : ℤ) → lt_z a b ≡ true → a <ℤ b
lt_true a b h = grind (arith, ints)

true_le : (a b : ℤ) → a ≤ℤ b → le_z a b ≡ true
true_le a b h = grind (arith, ints)

true_lt : (a b : ℤ) → a <ℤ b → lt_z a b ≡ true
true_lt a b h = grind (arith, ints)

both_true : (x y : Bool) → (x && y) ≡ true → (x ≡ true) × (y ≡ true)
both_true true y h = (refl, h)
both_true false y h = absurd (cc)

one_true : (x y : Bool) → (x || y) ≡ true → (x ≡ true) ⊎ (y ≡ true)
one_true true y h = inl refl
one_true false y h = inr h

or_right : (x y : Bool) → y ≡ true → (x || y) ≡ true
or_right true y h = refl
or_right false y h = h

or_left : (x y : Bool) → x ≡ true → (x || y) ≡ true
or_left true y h = refl
or_left false y h = absurd (cc)

and_both : (x y : Bool) → x ≡ true → y ≡ true → (x && y) ≡ true
and_both true y g h = h
and_both false y g h = absurd (cc)

better_yes : (a b c d : ℤ) → (lt_z a b ≡ true) ⊎ (lt_z c d ≡ true) → (a <ℤ b) ⊎ (c <ℤ d)
better_yes a b c d (inl h) = inl (lt_true a b h)
better_yes a b c d (inr h) = inr (lt_true c d h)

better_no : (a b c d : ℤ) → (a <ℤ b) ⊎ (c <ℤ d) → (lt_z a b || lt_z c d) ≡ true
better_no a b c d (inl h) = or_left (lt_z a b) (lt_z c d) (true_lt a b h)
better_no a b c d (inr h) = or_right (lt_z a b) (lt_z c d) (true_lt c d h)

-- the test of dominance is right
pub dominates_yes : (row other : FrontRow) → dominates row other ≡ true → Dominates row other
dominates_yes row other h =
    let parts = both_true (le_z row.risk other.risk && le_z other.ret row.ret) (lt_z row.risk other.risk || lt_z other.ret row.ret) h in
    let first = both_true (le_z row.risk other.risk) (le_z other.ret row.ret) parts.0 in
    record {
      no_more_risk = le_true row.risk other.risk first.0;
      no_less_return = le_true other.ret row.ret first.1;
      better = better_yes row.risk other.risk other.ret row.ret (one_true (lt_z row.risk other.risk) (lt_z other.ret row.ret) parts.1);
    }

pub yes_dominates : (row other : FrontRow) → Dominates row other → dominates row other ≡ true
yes_dominates row other h =
    and_both (le_z row.risk other.risk && le_z other.ret row.ret) (lt_z row.risk other.risk || lt_z other.ret row.ret)
    (and_both (le_z row.risk other.risk) (le_z other.ret row.ret) (true_le row.risk other.risk h.no_more_risk) (true_le other.ret row.ret h.no_less_return))
    (better_no row.risk other.risk other.ret row.ret h.better)

not_false : (b : Bool) → (b ≡ true → ⊥) → not b ≡ true
not_false true h = absurd (h refl)
not_false false h = refl

not_true : (b : Bool) → not b ≡ true → b ≡ true → ⊥
not_true true h g = absurd (cc)
not_true false h g = absurd (cc)

-- the test of a rank is right: none of the rows dominates the row
pub efficient_yes : (rows : List FrontRow) (row : FrontRow) → is_efficient rows row ≡ true → All (λ other. ¬ (Dominates other row)) rows
efficient_yes rows row h =
    All-weaker (λ (other : FrontRow). not (dominates other row) ≡ true) (λ (other : FrontRow). ¬ (Dominates other row))
    (λ other passes dominating. not_true (dominates other row) passes (yes_dominates other row dominating)) rows
    (AllPass-from_list_all (λ (other : FrontRow). not (dominates other row)) rows h)

pub yes_efficient : (rows : List FrontRow) (row : FrontRow) → All (λ other. ¬ (Dominates other row)) rows → is_efficient rows row ≡ true
yes_efficient rows row h =
    list_all-from_AllPass (λ (other : FrontRow). not (dominates other row)) rows
    (All-weaker (λ (other : FrontRow). ¬ (Dominates other row)) (λ (other : FrontRow). not (dominates other row) ≡ true)
    (λ other none. not_false (dominates other row) (λ passes. none (dominates_yes other row passes))) rows h)

never : false ≡ true → ⊥
never e = absurd (cc)

no_rank : (b : Bool) → (b ≡ true → ⊥) → false ≡ b
no_rank true h = absurd (h refl)
no_rank false h = refl

-- a rank by the definition is the rank by the test
pub ranked : (rows : List FrontRow) (k : ℕ) (row : FrontRow) (rank : Bool) → slice_get rows k ≡ Some row → (IsTrue rank ↔ IsEfficient rows k) → rank ≡ is_efficient rows row
ranked rows k row true is ranks = sym (yes_efficient rows row (ranks.0 refl row is))
ranked rows k row false is ranks =
    no_rank (is_efficient rows row) (λ h. never (ranks.1 (λ other same. subst (λ (x : FrontRow). All (λ y. ¬ (Dominates y x)) rows) (same_Some row other (sym is ∙ same)) (efficient_yes rows row h))))

-- a row passes the test exactly where none of the rows dominates it
pub ranks_rows : (rows : List FrontRow) (row : FrontRow) → IsTrue (is_efficient rows row) ↔ All (λ other. ¬ (Dominates other row)) rows
ranks_rows rows row = (efficient_yes rows row, yes_efficient rows row)
