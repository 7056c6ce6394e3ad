-- A weight that was tried, and the sweep over the weights.
use Rattle.std.proofs.Common.{◌≡◌, ℕ, ◌+◌, ◌≤◌, List, [], ◌∷◌, ◌++◌, length, length-append, append-nil, append_assoc, slice_get, Option, Some, None, Result, Ok, Err, refl, sym, ap, ◌∙◌, subst, arith}
use Rattle.std.specs.Option.{ForSome}
use Rattle.std.proofs.lemmas.Option.{none-some, slice_get_past}
use Rattle.gap_base.specs.declared.weight.Weight.{Weight}
use Rattle.gap_files.specs.Outside.{FilesNow, SinkNow}
use Rattle.gap_instance.specs.Instances.{InstanceValue}
use Rattle.gap_instance.specs.Limits.{MeetsLimits}
use Rattle.gap_psd.specs.Shifts.{ShiftValue}
use Rattle.gap_model.specs.declared.front.FrontRow.{FrontRow}
use Rattle.gap_model.specs.declared.outcome.Best.{Best}
use Rattle.gap_cert.specs.Certificates.{CertSection}
use Rattle.gap_solved.specs.Solveds.{SolvedValue, IsSectionOf}
use Rattle.gap_solve.specs.Ends.{best_in}
use Rattle.gap_solve.specs.Solving.{IsSolved}
use Rattle.gap_files.specs.Marks.{Mark}
use Rattle.gap_files.specs.Steps.{Step}
use Rattle.gap_files.specs.declared.halt.Halt.{Halt}
use Rattle.gap_files.specs.declared.halt.Halt.TheVariants.{OutOfMemory}
use Rattle.gap_files.proofs.StepLaws.{then_step, stops_early, gives_up, gives_up_at_once, step_none, step_same}
use Rattle.gap_sweep.specs.declared.carried.Carried.{Carried}
use Rattle.gap_sweep.specs.Asked.{Done, lots_of, portfolio, warm_behind, IsDone, AreDone}
use Rattle.gap_sweep.specs.Texts.{own_row, own_number, front_rows, front_numbers}
use Rattle.gap_sweep.specs.Traces.{weight_trace, weights_trace}
use Rattle.gap_sweep.specs.Steps.{IsCarried, IsCarriedOn, Tries, SweptTo, Sweeps}
use Rattle.gap_sweep.proofs.DoneLaws.{warm_both, rows_both, numbers_both, trace_both, done_more, warm_meets, rows_numbered, has_section}

-- memory was refused before the weight was solved
pub tries_unsolved : (I : InstanceValue) (shift : ShiftValue) (nodes : ℕ) (weight : Weight) (number : ℕ) (old : Carried) (name : List ℕ) (f : FilesNow) (s : SinkNow)
    → Tries I shift nodes weight number old old name f s f s (Err OutOfMemory)
tries_unsolved I shift nodes weight number old name f s = record {
  done = [];
  right = tt;
  all = λ ok. absurd (cc);
  carries = λ ok. absurd (cc);
  step = gives_up_at_once name f s [];
}

abbrev done_of : (n : ℕ) (solved : SolvedValue) → (section : CertSection) × IsSectionOf n solved section → Done
done_of n solved it = record { solved = solved; section = it.0 }

one_done : (I : InstanceValue) (shift : ShiftValue) (nodes : ℕ) (warm : Option (List ℕ)) (weight : Weight) (solved : SolvedValue)
    (it : (section : CertSection) × IsSectionOf I.market.assets solved section) → IsSolved I shift weight nodes warm solved
    → AreDone I shift nodes warm (weight ∷ []) (done_of I.market.assets solved it ∷ [])
one_done I shift nodes warm weight solved it solves = (record { solved_is = solves; section_is = it.1 }, tt)

-- what the sections of a weight that is put out say
abbrev pub PutsOut : InstanceValue → SolvedValue → List ℕ → FilesNow → SinkNow → FilesNow → SinkNow → Result (Unit {0}) Halt → Type 0
PutsOut I solved name f s g t r = (section : CertSection) → IsSectionOf I.market.assets solved section
    → Step name f s g t (weight_trace I.lots (record { solved = solved; section = section })) r

-- it stopped while the weight was put out
pub tries_stopped : (I : InstanceValue) (shift : ShiftValue) (nodes : ℕ) (weight : Weight) (number : ℕ) (old new : Carried) (name : List ℕ) (f : FilesNow) (s : SinkNow) (g : FilesNow) (t : SinkNow)
    (solved : SolvedValue) (halt : Halt) → IsSolved I shift weight nodes old.warm solved → PutsOut I solved name f s g t (Err halt)
    → Tries I shift nodes weight number old new name f s g t (Err halt)
tries_stopped I shift nodes weight number old new name f s g t solved halt solves puts =
    let it = has_section I.market.assets solved solves.ended.searched.tree_is in
    let d : Done = done_of I.market.assets solved it in
    record {
      done = d ∷ [];
      right = one_done I shift nodes old.warm weight solved it solves;
      all = λ ok. absurd (cc);
      carries = λ ok. absurd (cc);
      step = stops_early name f s g t (weight_trace I.lots d) [] halt (puts it.0 it.1);
    }

-- memory was refused behind it
pub tries_unkept : (I : InstanceValue) (shift : ShiftValue) (nodes : ℕ) (weight : Weight) (number : ℕ) (old new : Carried) (name : List ℕ) (f : FilesNow) (s : SinkNow) (g : FilesNow) (t : SinkNow)
    (solved : SolvedValue) → IsSolved I shift weight nodes old.warm solved → PutsOut I solved name f s g t (Ok tt)
    → Tries I shift nodes weight number old new name f s g t (Err OutOfMemory)
tries_unkept I shift nodes weight number old new name f s g t solved solves puts =
    let it = has_section I.market.assets solved solves.ended.searched.tree_is in
    let d : Done = done_of I.market.assets solved it in
    record {
      done = d ∷ [];
      right = one_done I shift nodes old.warm weight solved it solves;
      all = λ ok. absurd (cc);
      carries = λ ok. absurd (cc);
      step = gives_up name f s g t (weight_trace I.lots d) [] tt (puts it.0 it.1);
    }

-- what is carried behind one weight
pub record Notes (I : InstanceValue) (number : ℕ) (weight : Weight) (best : Option Best) (old new : Carried) : Type 0 where
  pub warm_is : new.warm ≡ lots_of best
  pub numbers_are : new.numbers.items ≡ old.numbers.items ++ own_number number best
  pub rows_are : new.rows.items ≡ old.rows.items ++ own_row I weight best

-- the weight was done and put out
pub tries_done : (I : InstanceValue) (shift : ShiftValue) (nodes : ℕ) (weight : Weight) (number : ℕ) (old new : Carried) (name : List ℕ) (f : FilesNow) (s : SinkNow) (g : FilesNow) (t : SinkNow)
    (solved : SolvedValue) → IsSolved I shift weight nodes old.warm solved → PutsOut I solved name f s g t (Ok tt)
    → Notes I number solved.weight (best_in solved.outcome) old new → Tries I shift nodes weight number old new name f s g t (Ok tt)
tries_done I shift nodes weight number old new name f s g t solved solves puts notes =
    let it = has_section I.market.assets solved solves.ended.searched.tree_is in
    let d : Done = done_of I.market.assets solved it in
    record {
      done = d ∷ [];
      right = one_done I shift nodes old.warm weight solved it solves;
      all = λ ok. refl;
      carries = λ ok. record {
        warm_is = notes.warm_is;
        numbers_are = notes.numbers_are ∙ ap (λ (x : List ℕ). old.numbers.items ++ x) (sym (append-nil (own_number number (best_in solved.outcome))));
        rows_are = notes.rows_are ∙ ap (λ (x : List FrontRow). old.rows.items ++ x) (sym (append-nil (own_row I solved.weight (best_in solved.outcome))));
      };
      step = step_same name f s g t (weight_trace I.lots d) (weights_trace I.lots (d ∷ [])) (Ok tt) (sym (append-nil (weight_trace I.lots d))) (puts it.0 it.1);
    }

-- before the first weight
pub swept_none : (I : InstanceValue) (shift : ShiftValue) (nodes : ℕ) (weights : List Weight) (carried : Carried) (name : List ℕ) (f : FilesNow) (s : SinkNow)
    → IsCarried I carried [] → SweptTo I shift nodes weights 0 carried name f s f s
swept_none I shift nodes weights carried name f s carries = record {
  done = [];
  right = tt;
  each = refl;
  carries = carries;
  step = step_none name f s tt;
}

-- the list that the next weight begins with meets the limits
pub swept_warm : (I : InstanceValue) (shift : ShiftValue) (nodes : ℕ) (weights : List Weight) (k : ℕ) (carried : Carried) (name : List ℕ) (f : FilesNow) (s : SinkNow) (g : FilesNow) (t : SinkNow)
    → SweptTo I shift nodes weights k carried name f s g t → ForSome carried.warm (MeetsLimits I)
swept_warm I shift nodes weights k carried name f s g t swept =
    subst (λ (x : Option (List ℕ)). ForSome x (MeetsLimits I)) (sym swept.carries.warm_is)
    (warm_meets I shift nodes None weights swept.done swept.right (λ x same. absurd (none-some x same)))

carried_both : (I : InstanceValue) (k number : ℕ) (old new : Carried) (a b : List Done) → length a ≡ k → number ≡ k + 1
    → IsCarried I old a → IsCarriedOn I number old new b → IsCarried I new (a ++ b)
carried_both I k number old new a b each is first next =
    let n : number ≡ 1 + length a = omega arith in
    record {
      warm_is = next.warm_is ∙ ap (λ (x : Option (List ℕ)). warm_behind x b) first.warm_is ∙ sym (warm_both None a b);
      numbers_are = next.numbers_are ∙ ap (λ (x : List ℕ). x ++ front_numbers number b) first.numbers_are
          ∙ ap (λ (m : ℕ). front_numbers 1 a ++ front_numbers m b) n ∙ sym (numbers_both 1 a b);
      rows_are = next.rows_are ∙ ap (λ (x : List FrontRow). x ++ front_rows I b) first.rows_are ∙ sym (rows_both I a b);
    }

right_both : (I : InstanceValue) (shift : ShiftValue) (nodes : ℕ) (weights : List Weight) (weight : Weight) (k : ℕ) (warm : Option (List ℕ)) (a b : List Done)
    → length a ≡ k → warm ≡ warm_behind None a → AreDone I shift nodes None weights a → slice_get weights k ≡ Some weight → AreDone I shift nodes warm (weight ∷ []) b
    → AreDone I shift nodes None weights (a ++ b)
right_both I shift nodes weights weight k warm a b each was right is next =
    done_more I shift nodes None weights weight a b right (ap (slice_get weights) each ∙ is)
    (subst (λ (x : Option (List ℕ)). AreDone I shift nodes x (weight ∷ []) b) was next)

step_both : (lots : ℕ) (name : List ℕ) (f : FilesNow) (s : SinkNow) (g : FilesNow) (t : SinkNow) (h : FilesNow) (u : SinkNow) (a b : List Done) (r : Result (Unit {0}) Halt)
    → Step name f s g t (weights_trace lots a) (Ok tt) → Step name g t h u (weights_trace lots b) r → Step name f s h u (weights_trace lots (a ++ b)) r
step_both lots name f s g t h u a b r first next =
    step_same name f s h u (weights_trace lots a ++ weights_trace lots b) (weights_trace lots (a ++ b)) r (sym (trace_both lots a b))
    (then_step name f s g t h u (weights_trace lots a) (weights_trace lots b) tt r first next)

-- the next weight was done
pub swept_more : (I : InstanceValue) (shift : ShiftValue) (nodes : ℕ) (weights : List Weight) (weight : Weight) (k number : ℕ) (old new : Carried)
    (name : List ℕ) (f : FilesNow) (s : SinkNow) (g : FilesNow) (t : SinkNow) (h : FilesNow) (u : SinkNow)
    → number ≡ k + 1 → SweptTo I shift nodes weights k old name f s g t → slice_get weights k ≡ Some weight
    → Tries I shift nodes weight number old new name g t h u (Ok tt) → SweptTo I shift nodes weights (k + 1) new name f s h u
swept_more I shift nodes weights weight k number old new name f s g t h u n swept is tries = record {
  done = swept.done ++ tries.done;
  right = right_both I shift nodes weights weight k old.warm swept.done tries.done swept.each swept.carries.warm_is swept.right is tries.right;
  each = let e = swept.each in let l = tries.all refl in let m = length-append swept.done tries.done in omega arith;
  carries = carried_both I k number old new swept.done tries.done swept.each n swept.carries (tries.carries refl);
  step = step_both I.lots name f s g t h u swept.done tries.done (Ok tt) swept.step tries.step;
}

-- it stopped at the next weight
pub sweeps_stopped : (I : InstanceValue) (shift : ShiftValue) (nodes : ℕ) (weights : List Weight) (weight : Weight) (k number : ℕ) (old new : Carried)
    (name : List ℕ) (f : FilesNow) (s : SinkNow) (g : FilesNow) (t : SinkNow) (h : FilesNow) (u : SinkNow) (halt : Halt)
    → SweptTo I shift nodes weights k old name f s g t → slice_get weights k ≡ Some weight
    → Tries I shift nodes weight number old new name g t h u (Err halt) → Sweeps I shift nodes weights new name f s h u (Err halt)
sweeps_stopped I shift nodes weights weight k number old new name f s g t h u halt swept is tries = record {
  done = swept.done ++ tries.done;
  right = right_both I shift nodes weights weight k old.warm swept.done tries.done swept.each swept.carries.warm_is swept.right is tries.right;
  all = λ ok. absurd (cc);
  carries = λ ok. absurd (cc);
  step = step_both I.lots name f s g t h u swept.done tries.done (Err halt) swept.step tries.step;
}

-- all weights were done
pub sweeps_all : (I : InstanceValue) (shift : ShiftValue) (nodes : ℕ) (weights : List Weight) (k : ℕ) (carried : Carried) (name : List ℕ) (f : FilesNow) (s : SinkNow) (g : FilesNow) (t : SinkNow)
    → k ≡ length weights → SweptTo I shift nodes weights k carried name f s g t → Sweeps I shift nodes weights carried name f s g t (Ok tt)
sweeps_all I shift nodes weights k carried name f s g t is swept = record {
  done = swept.done;
  right = swept.right;
  all = λ ok. swept.each ∙ is;
  carries = λ ok. swept.carries;
  step = swept.step;
}

-- each row that is carried has a number
pub carried_rows : (I : InstanceValue) (carried : Carried) (done : List Done) → IsCarried I carried done → length carried.numbers.items ≡ length carried.rows.items
carried_rows I carried done carries = ap length carries.numbers_are ∙ rows_numbered 1 I done ∙ sym (ap length carries.rows_are)
