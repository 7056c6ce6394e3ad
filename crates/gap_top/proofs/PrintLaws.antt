-- Steps that write, one after the other.
use Rattle.std.proofs.Common.{◌≡◌, ℕ, ◌≤◌, inl, inr, List, [], ◌++◌, append_assoc, append-nil, Option, Some, Result, Ok, Err, refl, sym, ap, ◌∙◌, subst, arith}
use Rattle.std.specs.Result.{IfErr}
use Rattle.gap_files.specs.Outside.{SinkNow, Rose}
use Rattle.gap_words.specs.Refusals.{refusal_line}
use Rattle.gap_words.specs.declared.refusal.Refusal.{Refusal}
use Rattle.gap_top.specs.Printing.{WritesAll, WritesFront, WritesNothing, WritesLine, WritesDue, WriteCause, Prints, IfWritten}
use Rattle.gap_top.specs.Steps.{Refuses, refused_stop}
use Rattle.gap_top.specs.declared.stop.Stop.{Stop}
use Rattle.gap_top.specs.declared.stop.Stop.TheVariants.{Refused, ReadFault, WriteFault, OutOfMemory}

-- a front of a text is one of a longer text
pub front_of_more : (a b before : List ℕ) (after : Option (List ℕ)) → WritesFront a before after → WritesFront (a ++ b) before after
front_of_more a b before after front = record {
  part = front.part;
  rest = front.rest ++ b;
  split = ap (λ (x : List ℕ). x ++ b) front.split ∙ append_assoc front.part front.rest b;
  now = front.now;
}

-- a front of what follows a whole text is one of both
front_behind : (a b before : List ℕ) (after : Option (List ℕ)) → WritesFront b (before ++ a) after → WritesFront (a ++ b) before after
front_behind a b before after front = record {
  part = a ++ front.part;
  rest = front.rest;
  split = ap (λ (x : List ℕ). a ++ x) front.split ∙ sym (append_assoc a front.part front.rest);
  now = front.now ∙ ap Some (append_assoc before a front.part);
}

-- nothing is a front of any text
pub front_none : (a before : List ℕ) (after : Option (List ℕ)) → after ≡ Some before → WritesFront a before after
front_none a before after same = record {
  part = [];
  rest = a;
  split = refl;
  now = same ∙ ap Some (sym (append-nil before));
}

-- the whole of a text is a front of it
pub front_whole : (a before : List ℕ) (after : Option (List ℕ)) → WritesAll a before after → WritesFront a before after
front_whole a before after same = record {
  part = a;
  rest = [];
  split = sym (append-nil a);
  now = same;
}

due_behind : (r : Result (Unit {0}) Stop) (a b before : List ℕ) (after : Option (List ℕ)) → WritesDue r b (before ++ a) after → WritesDue r (a ++ b) before after
due_behind (Ok done) a b before after same = same ∙ ap Some (append_assoc before a b)
due_behind (Err stop) a b before after front = front_behind a b before after front

cause_before : (r : Result (Unit {0}) Stop) (x y z : ℕ) → x ≤ y → IfErr r (WriteCause (Rose y z)) → IfErr r (WriteCause (Rose x z))
cause_before (Ok done) x y z h cause = cause
cause_before (Err (Refused why)) x y z h cause = cause
cause_before (Err ReadFault) x y z h cause = cause
cause_before (Err WriteFault) x y z h cause = omega arith
cause_before (Err OutOfMemory) x y z h cause = cause

-- a whole step and what follows it
pub prints_then : (a b : List ℕ) (s m t : SinkNow) (r : Result (Unit {0}) Stop) (done : Unit {0}) → Prints a s m (Ok done) → Prints b m t r → Prints (a ++ b) s t r
prints_then a b s m t r done first second = record {
  does = λ before told. due_behind r a b before t.written (second.does (before ++ a) (first.does before told));
  cause = cause_before r s.faults m.faults t.faults first.later second.cause;
  later = let h = first.later in let g = second.later in omega arith;
}

-- a step that stopped before what follows it
pub prints_less : (a b : List ℕ) (s t : SinkNow) (stop : Stop) → Prints a s t (Err stop) → Prints (a ++ b) s t (Err stop)
prints_less a b s t stop first = record {
  does = λ before told. front_of_more a b before t.written (first.does before told);
  cause = first.cause;
  later = first.later;
}

-- memory was refused before anything was written
pub prints_none : (a : List ℕ) (s : SinkNow) → Prints a s s (Err OutOfMemory)
prints_none a s = record {
  does = λ before told. front_none a before s.written told;
  cause = tt;
  later = omega arith;
}

-- nothing was due
pub prints_nothing : (s : SinkNow) → Prints [] s s (Ok tt)
prints_nothing s = record {
  does = λ before told. told ∙ ap Some (sym (append-nil before));
  cause = tt;
  later = omega arith;
}

-- the same text by another name
pub prints_same : (a b : List ℕ) (s t : SinkNow) (r : Result (Unit {0}) Stop) → a ≡ b → Prints a s t r → Prints b s t r
prints_same a b s t r same prints = subst (λ (x : List ℕ). Prints x s t r) same prints

-- what a step has written is a front of what is due
pub due_front : (r : Result (Unit {0}) Stop) (a before : List ℕ) (after : Option (List ℕ)) → WritesDue r a before after → WritesFront a before after
due_front (Ok done) a before after same = front_whole a before after same
due_front (Err stop) a before after front = front

-- a step whose sink's count didn't rise has written all, or was refused memory
whole_or : (r : Result (Unit {0}) Stop) (a : List ℕ) (s t : SinkNow) → (r ≡ Err OutOfMemory → ⊥) → Prints a s t r → ¬ (Rose s.faults t.faults) → IfWritten (WritesAll a) s t
whole_or (Ok done) a s t room prints calm = prints.does
whole_or (Err (Refused why)) a s t room prints calm = absurd prints.cause
whole_or (Err ReadFault) a s t room prints calm = absurd prints.cause
whole_or (Err WriteFault) a s t room prints calm = absurd (calm prints.cause)
whole_or (Err OutOfMemory) a s t room prints calm = absurd (room refl)

line_written : (r : Result (Unit {0}) Stop) (line : List ℕ) (s t : SinkNow) → (r ≡ Err OutOfMemory → ⊥) → Prints line s t r → WritesLine line s t
line_written r line s t room prints = record {
  front = λ before told. due_front r line before t.written (prints.does before told);
  whole = whole_or r line s t room prints;
}

refuses_still : (why : Refusal) (s t : SinkNow) (r : Result (Unit {0}) Stop) → (r ≡ Err OutOfMemory → ⊥) → Prints (refusal_line why) s t r → Refuses why s t (Refused why)
refuses_still why s t r room prints = record {
  stops = inl refl;
  line = λ same. line_written r (refusal_line why) s t room prints;
  quiet = λ other. absurd (cc);
  later = prints.later;
}

refuses_quietly : (why : Refusal) (s t : SinkNow) → WritesNothing s t → s.faults ≤ t.faults → Refuses why s t OutOfMemory
refuses_quietly why s t quiet later = record {
  stops = inr refl;
  line = λ other. absurd (cc);
  quiet = λ same. quiet;
  later = later;
}

refuses_as : (why : Refusal) (s t : SinkNow) (r : Result (Unit {0}) Stop) → Prints (refusal_line why) s t r → (r ≡ Err OutOfMemory → WritesNothing s t) → Refuses why s t (refused_stop why r)
refuses_as why s t (Ok done) prints quiet = refuses_still why s t (Ok done) (λ e. absurd (cc)) prints
refuses_as why s t (Err (Refused other)) prints quiet = refuses_still why s t (Err (Refused other)) (λ e. absurd (cc)) prints
refuses_as why s t (Err ReadFault) prints quiet = refuses_still why s t (Err ReadFault) (λ e. absurd (cc)) prints
refuses_as why s t (Err WriteFault) prints quiet = refuses_still why s t (Err WriteFault) (λ e. absurd (cc)) prints
refuses_as why s t (Err OutOfMemory) prints quiet = refuses_quietly why s t (quiet refl) prints.later

-- a refusal whose line was printed
pub refuses : (why : Refusal) (line : List ℕ) (s t : SinkNow) (r : Result (Unit {0}) Stop) (stop : Stop) → line ≡ refusal_line why → Prints line s t r → (r ≡ Err OutOfMemory → WritesNothing s t) → stop ≡ refused_stop why r → Refuses why s t stop
refuses why line s t r stop same prints quiet is = subst (Refuses why s t) (sym is) (refuses_as why s t r (prints_same line (refusal_line why) s t r same prints) quiet)

-- a refusal for whose line memory was refused
pub refuses_none : (why : Refusal) (s : SinkNow) → Refuses why s s OutOfMemory
refuses_none why s = refuses_quietly why s s (λ before told. told) (omega arith)
