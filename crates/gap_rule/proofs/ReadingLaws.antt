-- What the reading of a front of a content, and then of one more piece, says of it.
use Rattle.std.proofs.Common.{◌≡◌, ℕ, ◌+◌, ◌≤◌, List, ◌++◌, length, take, drop, refl, sym, ap, ◌∙◌, subst, arith, Result, Ok, Err}
use Rattle.std.proofs.Math.Seq.{take-add}
use Rattle.std.proofs.lemmas.List.{length-take, length-take-le, length-drop, length-append, take-append-drop, take_all}
use Rattle.std.specs.Result.{IfErr, IfOk}
use Rattle.gap_files.specs.Outside.{FilesNow, ReadsAt, Rose}
use Rattle.gap_files.proofs.FrontLaws.{front_more, inside_more}
use Rattle.gap_rule.specs.Reading.{IsFed, WasFed, WasSaid, OnlyReads, StopCause, Says}
use Rattle.gap_rule.specs.declared.consumer.ReadStop.{ReadStop}
use Rattle.gap_rule.specs.declared.consumer.ReadStop.TheVariants.{ReadFault, Refused, OutOfMemory}

-- a front of a content and then what a read gave is a longer front
pub fed_more : (held buffer : List ℕ) (at count : ℕ) (old new : List ℕ → Type 0) → count ≤ length buffer → ReadsAt held at buffer count → ((fed : List ℕ) → old fed → new (fed ++ take count buffer)) → IsFed held at old → IsFed held (at + count) new
fed_more held buffer at count old new room reads read before = record {
  inside = inside_more held buffer at count room before.inside reads.same;
  front = subst new (sym (front_more held buffer at count reads.same)) (read (take at held) before.front);
}

-- it was fed as many bytes more
pub grown_more : (buffer : List ℕ) (at count : ℕ) (old new : List ℕ → Type 0) → count ≤ length buffer → ((fed : List ℕ) → old fed → new (fed ++ take count buffer)) → WasFed at old → WasFed (at + count) new
grown_more buffer at count old new room read before = record {
  fed = before.fed ++ take count buffer;
  taken = read before.fed before.taken;
  count = let a = length-append before.fed (take count buffer) in let b = length-take-le count buffer room in let c = before.count in omega arith;
}

-- and not more than there may be
pub within_more : (buffer : List ℕ) (at count most : ℕ) (old : List ℕ → Type 0) → count ≤ length buffer → ((fed : List ℕ) → old fed → length (fed ++ take count buffer) ≤ most) → WasFed at old → at + count ≤ most
within_more buffer at count most old room within before =
    let a = length-append before.fed (take count buffer) in
    let b = length-take-le count buffer room in
    let c = before.count in
    let d = within before.fed before.taken in
    omega arith

-- a fault over what a read gave is that of the whole content
pub refused_more : {T F : Type 0} (held buffer : List ℕ) (at count : ℕ) (old : List ℕ → Type 0) (said : List ℕ → Result T F → Type 0) (f : F) → ReadsAt held at buffer count → ((fed rest : List ℕ) → old fed → said ((fed ++ take count buffer) ++ rest) (Err f)) → IsFed held at old → said held (Err f)
refused_more held buffer at count old said f reads refused before =
    let whole : (take at held ++ take count buffer) ++ drop (at + count) held ≡ held = ap (λ (x : List ℕ). x ++ drop (at + count) held) (sym (front_more held buffer at count reads.same)) ∙ take-append-drop (at + count) held in
    subst (λ (x : List ℕ). said x (Err f)) whole (refused (take at held) (drop (at + count) held) before.front)

-- where the whole content was taken in
pub fed_whole : (held : List ℕ) (at : ℕ) (reader : List ℕ → Type 0) → IsFed held at reader → length held ≤ at → reader held
fed_whole held at reader fed ends = subst reader (take_all at held ends) fed.front

-- a read fault after the count didn't fall
rose_later : (a b c : ℕ) → a ≤ b → Rose b c → Rose a c
rose_later a b c h r = omega arith

-- a stop that has no cause in the outside may come whatever rose
pub any_cause : {T F : Type 0} (P : Type 0) (r : Result T (ReadStop F)) → IfErr r (StopCause ⊥) → IfErr r (StopCause P)
any_cause P (Ok made) h = h
any_cause P (Err ReadFault) h = absurd h
any_cause P (Err (Refused fault)) h = tt
any_cause P (Err OutOfMemory) h = tt

-- the cause of a stop, seen from an earlier count
pub cause_later : {F : Type 0} (a b c : ℕ) (stop : ReadStop F) → a ≤ b → StopCause (Rose b c) stop → StopCause (Rose a c) stop
cause_later a b c ReadFault h rose = rose_later a b c h rose
cause_later a b c (Refused fault) h rose = tt
cause_later a b c OutOfMemory h rose = tt

-- what a stop says of the bytes, where a refusal tells their first fault
pub says_stop : {T F : Type 0} (said : Result T F → Type 0) (stop : ReadStop F) → ((fault : F) → stop ≡ Refused fault → said (Err fault)) → Says said (Err stop)
says_stop said ReadFault h = tt
says_stop said (Refused fault) h = h fault refl
says_stop said OutOfMemory h = tt

-- what was made of bytes that were taken in was made of some bytes
pub was_said : {T F : Type 0} (at : ℕ) (has_read : List ℕ → Type 0) (said : List ℕ → Result T F → Type 0) (r : Result T (ReadStop F)) → WasFed at has_read → ((fed : List ℕ) → has_read fed → Says (said fed) r) → IfOk r (WasSaid said)
was_said at has_read said (Ok made) was told = record { bytes = was.fed; told = told was.fed was.taken }
was_said at has_read said (Err stop) was told = tt

fell_on : (a b c : ℕ) → a ≤ b → b ≤ c → a ≤ c
fell_on a b c h k = omega arith

-- reading under a name, and then again
pub reads_on : (name : List ℕ) (f g h : FilesNow) → OnlyReads name f g → OnlyReads name g h → OnlyReads name f h
reads_on name f g h first second = record {
  contents = λ other. second.contents other ∙ first.contents other;
  others = λ other ne. second.others other ne ∙ first.others other ne;
  later = λ other. fell_on _ _ _ (first.later other) (second.later other);
  writes = λ other. second.writes other ∙ first.writes other;
}
