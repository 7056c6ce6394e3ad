-- Weights that were done, one behind the other.
use Rattle.std.proofs.Common.{◌≡◌, ℕ, ◌+◌, ◌≤◌, List, [], ◌∷◌, ◌++◌, length, append_assoc, length-append, slice_get, Option, Some, None, refl, sym, ap, ◌∙◌, subst, arith}
use Rattle.std.specs.Option.{ForSome}
use Rattle.std.proofs.lemmas.Option.{none-some, same_Some, slice_get_within}
use Rattle.gap_base.specs.declared.weight.Weight.{Weight}
use Rattle.gap_instance.specs.Instances.{InstanceValue}
use Rattle.gap_instance.specs.Limits.{MeetsLimits}
use Rattle.gap_psd.specs.Shifts.{ShiftValue}
use Rattle.gap_model.specs.declared.front.FrontRow.{FrontRow}
use Rattle.gap_model.specs.declared.outcome.Best.{Best}
use Rattle.gap_model.specs.declared.outcome.Outcome.{Outcome}
use Rattle.gap_model.specs.declared.outcome.Outcome.TheVariants.{Closed, NoPortfolio, Bounded}
use Rattle.gap_model.specs.Outcomes.{IsRight}
use Rattle.gap_model.specs.Nodes.{IsTree}
use Rattle.gap_tree.proofs.GrownLaws.{has_tree}
use Rattle.gap_cert.specs.Certificates.{CertSection}
use Rattle.gap_solved.specs.Solveds.{SolvedValue, IsSectionOf}
use Rattle.gap_solved.proofs.SectionLaws.{section_of}
use Rattle.gap_solve.specs.Ends.{best_in}
use Rattle.gap_files.specs.Marks.{Mark}
use Rattle.gap_sweep.specs.Asked.{Done, lots_of, portfolio, warm_behind, IsDone, AreDone}
use Rattle.gap_sweep.specs.Texts.{own_row, own_number, front_rows, front_numbers}
use Rattle.gap_sweep.specs.Traces.{weight_trace, weights_trace}

pub warm_both : (warm : Option (List ℕ)) (a b : List Done) → warm_behind warm (a ++ b) ≡ warm_behind (warm_behind warm a) b
warm_both warm [] b = refl
warm_both warm (d ∷ a) b = warm_both (portfolio d) a b

pub rows_both : (I : InstanceValue) (a b : List Done) → front_rows I (a ++ b) ≡ front_rows I a ++ front_rows I b
rows_both I [] b = refl
rows_both I (d ∷ a) b =
    let own : List FrontRow = own_row I d.solved.weight (best_in d.solved.outcome) in
    ap (λ (x : List FrontRow). own ++ x) (rows_both I a b) ∙ sym (append_assoc own (front_rows I a) (front_rows I b))

pub numbers_both : (n : ℕ) (a b : List Done) → front_numbers n (a ++ b) ≡ front_numbers n a ++ front_numbers (n + length a) b
numbers_both n [] b = let e : n ≡ n + 0 = omega arith in ap (λ (k : ℕ). front_numbers k b) e
numbers_both n (d ∷ a) b =
    let own : List ℕ = own_number n (best_in d.solved.outcome) in
    let e : (n + 1) + length a ≡ n + length (d ∷ a) = omega arith in
    ap (λ (x : List ℕ). own ++ x) (numbers_both (n + 1) a b ∙ ap (λ (k : ℕ). front_numbers (n + 1) a ++ front_numbers k b) e)
    ∙ sym (append_assoc own (front_numbers (n + 1) a) (front_numbers (n + length (d ∷ a)) b))

pub trace_both : (lots : ℕ) (a b : List Done) → weights_trace lots (a ++ b) ≡ weights_trace lots a ++ weights_trace lots b
trace_both lots [] b = refl
trace_both lots (d ∷ a) b =
    ap (λ (x : List Mark). weight_trace lots d ++ x) (trace_both lots a b) ∙ sym (append_assoc (weight_trace lots d) (weights_trace lots a) (weights_trace lots b))

one_more : (I : InstanceValue) (shift : ShiftValue) (nodes : ℕ) (warm : Option (List ℕ)) (w weight : Weight) (weights : List Weight) (more : List Done)
    → w ≡ weight → AreDone I shift nodes warm (weight ∷ []) more → AreDone I shift nodes warm (w ∷ weights) more
one_more I shift nodes warm w weight weights [] same right = tt
one_more I shift nodes warm w weight weights (d ∷ []) same right = (subst (λ (x : Weight). IsDone I shift nodes warm x d) (sym same) right.0, tt)
one_more I shift nodes warm w weight weights (d ∷ e ∷ more) same right = absurd right.1

-- the next weight was done behind those before it
pub done_more : (I : InstanceValue) (shift : ShiftValue) (nodes : ℕ) (warm : Option (List ℕ)) (weights : List Weight) (weight : Weight) (done more : List Done)
    → AreDone I shift nodes warm weights done → slice_get weights (length done) ≡ Some weight → AreDone I shift nodes (warm_behind warm done) (weight ∷ []) more
    → AreDone I shift nodes warm weights (done ++ more)
done_more I shift nodes warm [] weight [] more right is next = absurd (none-some weight is)
done_more I shift nodes warm (w ∷ weights) weight [] more right is next = one_more I shift nodes warm w weight weights more (same_Some w weight is) next
done_more I shift nodes warm [] weight (d ∷ done) more right is next = absurd right
done_more I shift nodes warm (w ∷ weights) weight (d ∷ done) more right is next =
    (right.0, done_more I shift nodes (portfolio d) weights weight done more right.1 is next)

-- no more weights were done than there are
pub done_within : (I : InstanceValue) (shift : ShiftValue) (nodes : ℕ) (warm : Option (List ℕ)) (weights : List Weight) (done : List Done)
    → AreDone I shift nodes warm weights done → length done ≤ length weights
done_within I shift nodes warm weights [] right = omega arith
done_within I shift nodes warm [] (d ∷ done) right = absurd right
done_within I shift nodes warm (w ∷ weights) (d ∷ done) right =
    let h = done_within I shift nodes (portfolio d) weights done right.1 in omega arith

-- a portfolio meets the limits
pub found_meets : (I : InstanceValue) (p q : ℕ) (outcome : Outcome) → IsRight I p q outcome → ForSome (best_in outcome) (λ b. MeetsLimits I b.lots)
found_meets I p q (Closed best) right = λ b same. subst (λ (x : Best). MeetsLimits I x.lots) (same_Some best b same) right.0.meets
found_meets I p q NoPortfolio right = λ b same. absurd (none-some b same)
found_meets I p q (Bounded None bound) right = λ b same. absurd (none-some b same)
found_meets I p q (Bounded (Some best) bound) right = λ b same. subst (λ (x : Best). MeetsLimits I x.lots) (same_Some best b same) right.1.0.meets

lots_meet : (I : InstanceValue) (best : Option Best) → ForSome best (λ b. MeetsLimits I b.lots) → ForSome (lots_of best) (MeetsLimits I)
lots_meet I None meets = λ x same. absurd (none-some x same)
lots_meet I (Some best) meets = λ x same. subst (λ (y : List ℕ). MeetsLimits I y) (same_Some best.lots x same) (meets best refl)

-- the list that the next weight begins with meets the limits
pub warm_meets : (I : InstanceValue) (shift : ShiftValue) (nodes : ℕ) (warm : Option (List ℕ)) (weights : List Weight) (done : List Done)
    → AreDone I shift nodes warm weights done → ForSome warm (MeetsLimits I) → ForSome (warm_behind warm done) (MeetsLimits I)
warm_meets I shift nodes warm weights [] right meets = meets
warm_meets I shift nodes warm [] (d ∷ done) right meets = absurd right
warm_meets I shift nodes warm (w ∷ weights) (d ∷ done) right meets =
    warm_meets I shift nodes (portfolio d) weights done right.1
    (lots_meet I (best_in d.solved.outcome) (found_meets I w.p w.q d.solved.outcome right.0.solved_is.right))

-- what is known of a weight has a section
pub has_section : (n : ℕ) (solved : SolvedValue) → IsTree solved.nodes → (section : CertSection) × IsSectionOf n solved section
has_section n solved tree = section_of n solved (has_tree solved.nodes tree 0 (slice_get_within solved.nodes 0 tree.root.0 tree.root.1))

own_length : (n : ℕ) (I : InstanceValue) (weight : Weight) (best : Option Best) → length (own_number n best) ≡ length (own_row I weight best)
own_length n I weight None = refl
own_length n I weight (Some best) = refl

lengths_both : (a b : List ℕ) (x y : List FrontRow) → length a ≡ length x → length b ≡ length y → length (a ++ b) ≡ length (x ++ y)
lengths_both a b x y e f = let l = length-append a b in let m = length-append x y in omega arith

-- each row has a number
pub rows_numbered : (n : ℕ) (I : InstanceValue) (done : List Done) → length (front_numbers n done) ≡ length (front_rows I done)
rows_numbered n I [] = refl
rows_numbered n I (d ∷ done) =
    lengths_both (own_number n (best_in d.solved.outcome)) (front_numbers (n + 1) done) (own_row I d.solved.weight (best_in d.solved.outcome)) (front_rows I done)
    (own_length n I d.solved.weight (best_in d.solved.outcome)) (rows_numbered (n + 1) I done)
