-- Rulings, by what was read.
use Rattle.std.proofs.Common.{◌≡◌, ℕ, ◌≤◌, inl, inr, List, [], ◌∷◌, Result, Ok, Err, refl, sym, ◌∙◌, subst, arith}
use Rattle.std.specs.Result.{IfErr, IfOk}
use Rattle.gap_files.specs.Outside.{FilesNow, NoneFell, Rose, SameEverywhere, bytes_of}
use Rattle.gap_words.specs.Forms.{faulty, demo}
use Rattle.gap_words.specs.declared.form.DemoWords.{DemoWords}
use Rattle.gap_words.specs.declared.refusal.Refusal.{Refusal}
use Rattle.gap_words.specs.declared.refusal.Refusal.TheVariants.{Words}
use Rattle.gap_rule.specs.Names.{AreHeld, RoseAt, RoseIn}
use Rattle.gap_rule.specs.Reading.{IfTold, OnlyReads, StopCause, Says}
use Rattle.gap_rule.specs.Rules.{After, GoesOn, behind, refused_as, RulesDemo}
use Rattle.gap_rule.specs.Steps.{IsLike, IsRuling, TellsRuling, HaltCause, IsLooked, IsRuled, IsRuledForm, MayHalt, IsDemo, FitsForm}
use Rattle.gap_rule.specs.declared.consumer.ReadStop.{ReadStop}
use Rattle.gap_rule.specs.declared.consumer.ReadStop.TheVariants.{ReadFault as Unread, Refused as AtFault, OutOfMemory as NoMemory}
use Rattle.gap_rule.specs.declared.stop.Halt.{Halt}
use Rattle.gap_rule.specs.declared.stop.Halt.TheVariants.{Refused, ReadFault, OutOfMemory}
use Rattle.gap_rule.specs.declared.task.Task.{Task}

-- a ruling comes to the same as itself
like_itself : {T : Type 0} (r : Result T Refusal) → IsLike r r
like_itself (Ok a) = refl
like_itself (Err why) = refl

-- the ruling that is one value
pub is_value : {T : Type 0} (v r : Result T Refusal) → r ≡ v → IsRuling (λ z. z ≡ v) r
is_value v r same = record {
  holds = same;
  only = λ other is. subst (λ z. IsLike r z) (same ∙ sym is) (like_itself r);
}

-- a stop of a reading that is refused for its fault
abbrev pub halt_of : {T F : Type 0} → (F → Refusal) → Result T (ReadStop F) → Result T Halt
halt_of why (Ok made) = Ok made
halt_of why (Err Unread) = Err ReadFault
halt_of why (Err (AtFault fault)) = Err (Refused (why fault))
halt_of why (Err NoMemory) = Err OutOfMemory

halt_cause : {T F : Type 0} (why : F → Refusal) (rose : Type 0) (r : Result T (ReadStop F)) → IfErr r (StopCause rose) → HaltCause rose (halt_of why r)
halt_cause why rose (Ok made) cause = tt
halt_cause why rose (Err Unread) cause = cause
halt_cause why rose (Err (AtFault fault)) cause = tt
halt_cause why rose (Err NoMemory) cause = tt

halt_tells : {T F : Type 0} (why : F → Refusal) (said : Result T F → Type 0) (ruling : Result T Refusal → Type 0) (r : Result T (ReadStop F)) → ((z : Result T F) → said z → IsRuling ruling (refused_as why z)) → Says said r → TellsRuling ruling (halt_of why r)
halt_tells why said ruling (Ok made) ruled says = ruled (Ok made) says
halt_tells why said ruling (Err Unread) ruled says = tt
halt_tells why said ruling (Err (AtFault fault)) ruled says = ruled (Err fault) says
halt_tells why said ruling (Err NoMemory) ruled says = tt

-- a file was read whose fault is the cause of a refusal
pub looked_as : {T F : Type 0} (name : List ℕ) (why : F → Refusal) (said : List ℕ → Result T F → Type 0) (ruling : List ℕ → Result T Refusal → Type 0) (f g : FilesNow) (r : Result T (ReadStop F)) → ((bytes : List ℕ) (z : Result T F) → said bytes z → IsRuling (ruling bytes) (refused_as why z)) → IfTold f name (λ bytes. Says (said bytes) r) → IfErr r (StopCause (RoseAt name f g)) → OnlyReads name f g → IsLooked name ruling f g (halt_of why r)
looked_as name why said ruling f g r ruled told cause frame = record {
  told = λ content is. halt_tells why (said (bytes_of content)) (ruling (bytes_of content)) r (ruled (bytes_of content)) (told content is);
  cause = halt_cause why (RoseAt name f g) r cause;
  frame = frame;
}

rose_later : (a b c : ℕ) → a ≤ b → Rose b c → Rose a c
rose_later a b c h r = omega arith

fell_on : (a b c : ℕ) → a ≤ b → b ≤ c → a ≤ c
fell_on a b c h k = omega arith

-- a count of these names that rose later rose since an earlier moment
rose_from : (names : List (List ℕ)) (f g h : FilesNow) → NoneFell f.read_faults g.read_faults → RoseIn names g h → RoseIn names f h
rose_from [] f g h later rose = absurd rose
rose_from (name ∷ names) f g h later (inl rose) = inl (rose_later _ _ _ (later name) rose)
rose_from (name ∷ names) f g h later (inr rose) = inr (rose_from names f g h later rose)

-- what is told at a moment is told at a later one
held_later : (names : List (List ℕ)) (holds : List ℕ → List ℕ) (f g : FilesNow) → SameEverywhere f.content g.content → AreHeld names holds f → AreHeld names holds g
held_later [] holds f g same held = tt
held_later (name ∷ names) holds f g same ((content, (told, is)), rest) = ((content, (same name ∙ told, is)), held_later names holds f g same rest)

cause_by : {T : Type 0} (P Q : Type 0) (r : Result T Halt) → (P → Q) → HaltCause P r → HaltCause Q r
cause_by P Q (Ok value) gives cause = tt
cause_by P Q (Err (Refused why)) gives cause = tt
cause_by P Q (Err ReadFault) gives cause = gives cause
cause_by P Q (Err OutOfMemory) gives cause = tt

pub cause_calm : {T : Type 0} (Q : Type 0) (r : Result T Halt) → HaltCause ⊥ r → HaltCause Q r
cause_calm Q (Ok value) cause = tt
cause_calm Q (Err (Refused why)) cause = tt
cause_calm Q (Err ReadFault) cause = absurd cause
cause_calm Q (Err OutOfMemory) cause = tt

-- what is told of the first name
told_first : {T : Type 0} (name : List ℕ) (names : List (List ℕ)) (ruling : List ℕ → Result T Refusal → Type 0) (f g : FilesNow) (r : Result T Halt) (holds : List ℕ → List ℕ) → IsLooked name ruling f g r → AreHeld (name ∷ names) holds f → TellsRuling (ruling (holds name)) r
told_first name names ruling f g r holds looked ((content, (told, is)), rest) =
    subst (λ (bytes : List ℕ). TellsRuling (ruling bytes) r) (sym is) (looked.told content told)

-- a file was read, and ruled by its bytes alone
pub looked_alone : {T : Type 0} (name : List ℕ) (ruling : List ℕ → Result T Refusal → Type 0) (f g : FilesNow) (r : Result T Halt) → IsLooked name ruling f g r → IsRuled (name ∷ []) (λ holds. name ∷ []) (λ holds. ruling (holds name)) f g r
looked_alone name ruling f g r looked = record {
  tells = λ holds held. told_first name [] ruling f g r holds looked held;
  cause = cause_by _ _ r inl looked.cause;
  looks_cause = λ holds held. cause_by _ _ r inl looked.cause;
  contents = looked.frame.contents;
  others = λ other none. looked.frame.others other none.0;
  later = looked.frame.later;
  writes = looked.frame.writes;
}

value_told : {A : Type 0} (name : List ℕ) (names : List (List ℕ)) (value : List ℕ → Result A Refusal) (f g : FilesNow) (a : A) (holds : List ℕ → List ℕ) → IsLooked name (λ bytes z. z ≡ value bytes) f g (Ok a) → AreHeld (name ∷ names) holds f → Ok a ≡ value (holds name)
value_told name names value f g a holds looked held = (told_first name names (λ bytes z. z ≡ value bytes) f g (Ok a) holds looked held).holds

-- a file was read that isn't refused, and then others
pub looked_then : {A B : Type 0} (name : List ℕ) (names : List (List ℕ)) (value : List ℕ → Result A Refusal) (looks : A → (List ℕ → List ℕ) → List (List ℕ)) (ruling : A → (List ℕ → List ℕ) → Result B Refusal → Type 0) (f g h : FilesNow) (a : A) (r : Result B Halt) → IsLooked name (λ bytes z. z ≡ value bytes) f g (Ok a) → IsRuled names (looks a) (ruling a) g h r → IsRuled (name ∷ names) (λ holds. name ∷ behind (value (holds name)) (λ x. looks x holds)) (λ holds. After (value (holds name)) (λ x. ruling x holds)) f h r
looked_then {A = A} name names value looks ruling f g h a r first second = record {
  tells = λ holds held.
      subst (λ (v : Result A Refusal). TellsRuling (After v (λ x. ruling x holds)) r) (value_told name names value f g a holds first held)
      (second.tells holds (held_later names holds f g first.frame.contents held.1));
  cause = cause_by _ _ r (λ rose. inr (rose_from names f g h first.frame.later rose)) second.cause;
  looks_cause = λ holds held.
      subst (λ (v : Result A Refusal). HaltCause (RoseIn (name ∷ behind v (λ x. looks x holds)) f h) r) (value_told name names value f g a holds first held)
      (cause_by _ _ r (λ rose. inr (rose_from (looks a holds) f g h first.frame.later rose)) (second.looks_cause holds (held_later names holds f g first.frame.contents held.1)));
  contents = λ other. second.contents other ∙ first.frame.contents other;
  others = λ other none. second.others other none.1 ∙ first.frame.others other none.0;
  later = λ other. fell_on _ _ _ (first.frame.later other) (second.later other);
  writes = λ other. second.writes other ∙ first.frame.writes other;
}

abbrev refused_value : (T : Type 0) → Refusal → Result T Refusal
refused_value T why = Err why

after_refused : {A B : Type 0} (v : Result A Refusal) (next : A → Result B Refusal → Type 0) (why : Refusal) → Err why ≡ v → IsRuling (After v next) (Err why)
after_refused {A = A} {B = B} v next why same =
    subst (λ (w : Result A Refusal). IsRuling (After w next) (refused_value B why)) same (is_value (refused_value B why) (refused_value B why) refl)

after_halt : {A B : Type 0} (v : Result A Refusal) (next : A → Result B Refusal → Type 0) (halt : Halt) → TellsRuling {T = A} (λ z. z ≡ v) (Err halt) → TellsRuling {T = B} (After v next) (Err halt)
after_halt v next (Refused why) told = after_refused v next why told.holds
after_halt v next ReadFault told = tt
after_halt v next OutOfMemory told = tt

halt_cause_of : (A B : Type 0) (P Q : Type 0) (halt : Halt) → (P → Q) → HaltCause {T = A} P (Err halt) → HaltCause {T = B} Q (Err halt)
halt_cause_of A B P Q (Refused why) gives cause = tt
halt_cause_of A B P Q ReadFault gives cause = gives cause
halt_cause_of A B P Q OutOfMemory gives cause = tt

-- the reading of a file stopped, before others
pub looked_stop : {A B : Type 0} (name : List ℕ) (names : List (List ℕ)) (value : List ℕ → Result A Refusal) (looks : (List ℕ → List ℕ) → List (List ℕ)) (next : (List ℕ → List ℕ) → A → Result B Refusal → Type 0) (f g : FilesNow) (halt : Halt) → IsLooked {T = A} name (λ bytes z. z ≡ value bytes) f g (Err halt) → IsRuled {T = B} (name ∷ names) (λ holds. name ∷ looks holds) (λ holds. After (value (holds name)) (next holds)) f g (Err halt)
looked_stop {A = A} {B = B} name names value looks next f g halt first = record {
  tells = λ holds held. after_halt (value (holds name)) (next holds) halt (told_first name names (λ bytes z. z ≡ value bytes) f g (Err halt) holds first held);
  cause = halt_cause_of A B _ _ halt inl first.cause;
  looks_cause = λ holds held. halt_cause_of A B _ _ halt inl first.cause;
  contents = first.frame.contents;
  others = λ other none. first.frame.others other none.0;
  later = first.frame.later;
  writes = first.frame.writes;
}

-- a file was read that isn't refused, and what it says was ruled
pub looked_pure : {A B : Type 0} (name : List ℕ) (value : List ℕ → Result A Refusal) (ruling : A → Result B Refusal → Type 0) (f g : FilesNow) (a : A) (r : Result B Halt) → IsLooked name (λ bytes z. z ≡ value bytes) f g (Ok a) → TellsRuling (ruling a) r → HaltCause ⊥ r → IsRuled (name ∷ []) (λ holds. name ∷ []) (λ holds. After (value (holds name)) ruling) f g r
looked_pure {A = A} name value ruling f g a r first tells calm = record {
  tells = λ holds held. subst (λ (v : Result A Refusal). TellsRuling (After v ruling) r) (value_told name [] value f g a holds first held) tells;
  cause = cause_calm _ r calm;
  looks_cause = λ holds held. cause_calm _ r calm;
  contents = first.frame.contents;
  others = λ other none. first.frame.others other none.0;
  later = first.frame.later;
  writes = first.frame.writes;
}

-- a ruling that goes on with a value that a first one found, and one that it refused
goes_on : {A B : Type 0} (first : Result A Refusal → Type 0) (next : A → Result B Refusal → Type 0) (a : A) (r : Result B Refusal) → IsRuling first (Ok a) → IsRuling (next a) r → IsRuling (GoesOn first next) r
goes_on {A = A} {B = B} first next a r found ruled = record {
  holds = record { found = Ok a; holds = found.holds; after = ruled.holds };
  only = λ other goes. by other goes.found (found.only goes.found goes.holds) goes.after;
}
  where
    by : (other : Result B Refusal) (z : Result A Refusal) → IsLike (Ok a) z → After z next other → IsLike r other
    by other (Ok b) same after = ruled.only other (subst (λ (x : A). next x other) (sym same) after)
    by other (Err why) same after = absurd same

goes_off : {A B : Type 0} (first : Result A Refusal → Type 0) (next : A → Result B Refusal → Type 0) (why : Refusal) → IsRuling first (Err why) → IsRuling (GoesOn first next) (Err why)
goes_off {A = A} {B = B} first next why found = record {
  holds = record { found = Err why; holds = found.holds; after = refl };
  only = λ other goes. by other goes.found (found.only goes.found goes.holds) goes.after;
}
  where
    by : (other : Result B Refusal) (z : Result A Refusal) → IsLike (Err why) z → After z next other → IsLike (refused_value B why) other
    by other (Ok b) same after = absurd same
    by other (Err unlike) same after = subst (λ (r : Result B Refusal). IsLike (refused_value B why) r) (sym after) same

goes_told : {A B : Type 0} (first : Result A Refusal → Type 0) (next : A → Result B Refusal → Type 0) (a : A) (r : Result B Halt) → IsRuling first (Ok a) → TellsRuling (next a) r → TellsRuling (GoesOn first next) r
goes_told first next a (Ok value) found told = goes_on first next a (Ok value) found told
goes_told first next a (Err (Refused why)) found told = goes_on first next a (Err why) found told
goes_told first next a (Err ReadFault) found told = tt
goes_told first next a (Err OutOfMemory) found told = tt

goes_halted : {A B : Type 0} (first : Result A Refusal → Type 0) (next : A → Result B Refusal → Type 0) (halt : Halt) → TellsRuling {T = A} first (Err halt) → TellsRuling {T = B} (GoesOn first next) (Err halt)
goes_halted first next (Refused why) told = goes_off first next why told
goes_halted first next ReadFault told = tt
goes_halted first next OutOfMemory told = tt

-- a file was read whose ruling isn't one value, and what it says was ruled
pub looked_goes : {A B : Type 0} (name : List ℕ) (first : List ℕ → Result A Refusal → Type 0) (next : A → Result B Refusal → Type 0) (f g : FilesNow) (a : A) (r : Result B Halt) → IsLooked name first f g (Ok a) → TellsRuling (next a) r → HaltCause ⊥ r → IsRuled (name ∷ []) (λ holds. name ∷ []) (λ holds. GoesOn (first (holds name)) next) f g r
looked_goes name first next f g a r looked tells calm = record {
  tells = λ holds held. goes_told (first (holds name)) next a r (told_first name [] first f g (Ok a) holds looked held) tells;
  cause = cause_calm _ r calm;
  looks_cause = λ holds held. cause_calm _ r calm;
  contents = looked.frame.contents;
  others = λ other none. looked.frame.others other none.0;
  later = looked.frame.later;
  writes = looked.frame.writes;
}

-- the reading of such a file stopped
pub looked_halts : {A B : Type 0} (name : List ℕ) (first : List ℕ → Result A Refusal → Type 0) (next : A → Result B Refusal → Type 0) (f g : FilesNow) (halt : Halt) → IsLooked {T = A} name first f g (Err halt) → IsRuled {T = B} (name ∷ []) (λ holds. name ∷ []) (λ holds. GoesOn (first (holds name)) next) f g (Err halt)
looked_halts {A = A} {B = B} name first next f g halt looked = record {
  tells = λ holds held. goes_halted (first (holds name)) next halt (told_first name [] first f g (Err halt) holds looked held);
  cause = halt_cause_of A B _ _ halt inl looked.cause;
  looks_cause = λ holds held. halt_cause_of A B _ _ halt inl looked.cause;
  contents = looked.frame.contents;
  others = λ other none. looked.frame.others other none.0;
  later = looked.frame.later;
  writes = looked.frame.writes;
}

-- nothing was read
pub ruled_unread : {T : Type 0} (names : List (List ℕ)) (looks : (List ℕ → List ℕ) → List (List ℕ)) (ruling : (List ℕ → List ℕ) → Result T Refusal → Type 0) (f : FilesNow) (why : Refusal) → ((holds : List ℕ → List ℕ) → IsRuling (ruling holds) (Err why)) → IsRuled names looks ruling f f (Err (Refused why))
ruled_unread names looks ruling f why ruled = record {
  tells = λ holds held. ruled holds;
  cause = tt;
  looks_cause = λ holds held. tt;
  contents = λ name. refl;
  others = λ other none. refl;
  later = λ name. omega arith;
  writes = λ name. refl;
}

-- the reading of a file stopped, and nothing more was to be read
pub looked_end : {A B : Type 0} (name : List ℕ) (value : List ℕ → Result A Refusal) (ruling : A → Result B Refusal → Type 0) (f g : FilesNow) (halt : Halt) → IsLooked {T = A} name (λ bytes z. z ≡ value bytes) f g (Err halt) → IsRuled {T = B} (name ∷ []) (λ holds. name ∷ []) (λ holds. After (value (holds name)) ruling) f g (Err halt)
looked_end name value ruling f g halt first = looked_stop name [] value (λ holds. []) (λ holds. ruling) f g halt first

-- words that are refused before any file is read
pub ruled_words : (f : FilesNow) → IsRuledForm faulty f f (Err (Refused Words))
ruled_words f = ruled_unread [] (λ holds. []) (λ holds z. z ≡ Err Words) f Words (λ holds. is_value (Err Words) (Err Words) refl)

-- words that no file is read for, and that aren't refused
pub fits_demo : (asked : DemoWords) (r : Result Task Halt) → MayHalt (λ why. ⊥) r → IfOk r IsDemo → FitsForm (demo asked) r
fits_demo asked (Ok task) may ready = ready
fits_demo asked (Err (Refused why)) may ready = absurd may
fits_demo asked (Err ReadFault) may ready = tt
fits_demo asked (Err OutOfMemory) may ready = tt

pub ruled_demo : (asked : DemoWords) (f : FilesNow) (r : Result Task Halt) → TellsRuling (RulesDemo asked) r → HaltCause ⊥ r → IsRuledForm (demo asked) f f r
ruled_demo asked f r tells calm = record {
  tells = λ holds held. tells;
  cause = calm;
  looks_cause = λ holds held. calm;
  contents = λ name. refl;
  others = λ other none. refl;
  later = λ name. omega arith;
  writes = λ name. refl;
}
