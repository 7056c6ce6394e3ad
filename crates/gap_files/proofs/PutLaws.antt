-- What calls on the outside are as steps.
use Rattle.std.proofs.Common.{◌≡◌, ℕ, ◌+◌, ◌-◌, ◌^◌, min, ◌<◌, ◌≤◌, inl, inr, ◌⊎◌, List, [], ◌++◌, length, append-nil, Option, Some, None, Ok, Err, refl, sym, ap, ◌∙◌, arith}
use Rattle.std.proofs.lemmas.Option.{none-some}
use Rattle.std.specs.Option.{option_map, ForSome}
use Rattle.gap_files.specs.Outside.{FilesNow, SinkNow, Rose, NoneFell, SameElsewhere, SameEverywhere, Appends, Starts, Writes, bytes_of}
use Rattle.gap_files.specs.declared.trouble.Trouble.{Trouble}
use Rattle.gap_files.specs.declared.trouble.Trouble.TheVariants.{Failed, OutOfMemory}
use Rattle.gap_files.specs.Marks.{appends, prints, stream, streams, Did, DidFront, DidLess}
use Rattle.gap_files.specs.Steps.{Keeps, IsUnstarted}
use Rattle.gap_files.proofs.MarkLaws.{filed-appends, printed-appends, filed-prints, printed-prints, appends-append, prints-append, length-appends}

-- all bytes of an append that succeeded stand behind those of before
appended : (old new : Option (Option (List ℕ))) (bytes : List ℕ) (value : Unit {0}) → Appends old new bytes (Ok value)
    → ForSome (option_map bytes_of old) (λ before. option_map bytes_of new ≡ Some (before ++ bytes))
appended None new bytes value is = λ before told. absurd (none-some before told)
appended (Some held) new bytes value is = λ before told. ap (option_map bytes_of) is ∙ ap (option_map (λ (x : List ℕ). x ++ bytes)) told

-- a front of bytes came behind what was there
record CameFront (old new : Option (List ℕ)) (bytes : List ℕ) : Type 0 where
  part : List ℕ
  rest : List ℕ
  split : bytes ≡ part ++ rest
  proper : 0 < length bytes → 0 < length rest
  now : ForSome old (λ before. new ≡ Some (before ++ part))

nothing_came : (old new : Option (List ℕ)) (bytes : List ℕ) → ForSome old (λ before. new ≡ Some before) → CameFront old new bytes
nothing_came old new bytes same = record {
  part = [];
  rest = bytes;
  split = refl;
  proper = λ some. some;
  now = λ before told. same before told ∙ ap Some (sym (append-nil before));
}

kept : (old new : Option (Option (List ℕ))) → (held : Option (List ℕ)) → old ≡ Some held → new ≡ Some held
    → ForSome (option_map bytes_of old) (λ before. option_map bytes_of new ≡ Some before)
kept old new held was is = λ before told. ap (option_map bytes_of) is ∙ sym (ap (option_map bytes_of) was) ∙ told

came_front : (old new : Option (Option (List ℕ))) (bytes : List ℕ) → Appends {T = Unit {0}} old new bytes (Err Failed)
    → CameFront (option_map bytes_of old) (option_map bytes_of new) bytes
came_front None new bytes fails = nothing_came None (option_map bytes_of new) bytes (λ before told. absurd (none-some before told))
came_front (Some None) new bytes fails = nothing_came (Some []) (option_map bytes_of new) bytes (kept (Some None) new None refl fails)
came_front (Some (Some held)) None bytes fails = absurd fails
came_front (Some (Some held)) (Some after) bytes fails = record {
  part = fails.part;
  rest = fails.rest;
  split = fails.split;
  proper = fails.proper;
  now = λ before told. ap (λ (x : Option (List ℕ)). Some (bytes_of x)) fails.now ∙ ap (option_map (λ (x : List ℕ). x ++ fails.part)) told;
}

came_nothing : (old new : Option (Option (List ℕ))) (bytes : List ℕ) → Appends {T = Unit {0}} old new bytes (Err OutOfMemory)
    → CameFront (option_map bytes_of old) (option_map bytes_of new) bytes
came_nothing None new bytes refused = nothing_came None (option_map bytes_of new) bytes (λ before told. absurd (none-some before told))
came_nothing (Some held) new bytes refused = nothing_came (Some (bytes_of held)) (option_map bytes_of new) bytes (kept (Some held) new held refl refused)

-- bytes came into the file, and nothing to the sink
did_appends : (name : List ℕ) (f g : FilesNow) (sink : SinkNow) (part : List ℕ)
    → ForSome (stream name f) (λ before. stream name g ≡ Some (before ++ part)) → Did (streams name f sink) (streams name g sink) (appends part)
did_appends name f g sink part now = record {
  file = λ before told. now before told ∙ ap (λ (x : List ℕ). Some (before ++ x)) (sym (filed-appends part));
  sink = λ before told. told ∙ ap Some (sym (append-nil before) ∙ ap (λ (x : List ℕ). before ++ x) (sym (printed-appends part)));
}

-- bytes came to the sink, and nothing into the file
did_prints : (name : List ℕ) (files : FilesNow) (s t : SinkNow) (part : List ℕ)
    → ForSome s.written (λ before. t.written ≡ Some (before ++ part)) → Did (streams name files s) (streams name files t) (prints part)
did_prints name files s t part now = record {
  file = λ before told. told ∙ ap Some (sym (append-nil before) ∙ ap (λ (x : List ℕ). before ++ x) (sym (filed-prints part)));
  sink = λ before told. now before told ∙ ap (λ (x : List ℕ). Some (before ++ x)) (sym (printed-prints part));
}

-- an append that succeeded
pub append_done : (name : List ℕ) (f g : FilesNow) (sink : SinkNow) (bytes : List ℕ) (value : Unit {0})
    → Appends (f.content name) (g.content name) bytes (Ok value) → Did (streams name f sink) (streams name g sink) (appends bytes)
append_done name f g sink bytes value is = did_appends name f g sink bytes (appended (f.content name) (g.content name) bytes value is)

front_of : (name : List ℕ) (f g : FilesNow) (sink : SinkNow) (bytes : List ℕ) → CameFront (stream name f) (stream name g) bytes
    → DidFront (streams name f sink) (streams name g sink) (appends bytes)
front_of name f g sink bytes came = record {
  part = appends came.part;
  rest = appends came.rest;
  split = ap appends came.split ∙ appends-append came.part came.rest;
  did = did_appends name f g sink came.part came.now;
}

less_of : (name : List ℕ) (f g : FilesNow) (sink : SinkNow) (bytes : List ℕ) → 0 < length bytes → CameFront (stream name f) (stream name g) bytes
    → DidLess (streams name f sink) (streams name g sink) (appends bytes)
less_of name f g sink bytes some came = record {
  part = appends came.part;
  rest = appends came.rest;
  split = ap appends came.split ∙ appends-append came.part came.rest;
  left = let x = came.proper some in let y = length-appends came.rest in omega arith;
  did = did_appends name f g sink came.part came.now;
}

-- an append that stopped
pub append_front : (name : List ℕ) (f g : FilesNow) (sink : SinkNow) (bytes : List ℕ) (trouble : Trouble)
    → Appends {T = Unit {0}} (f.content name) (g.content name) bytes (Err trouble) → DidFront (streams name f sink) (streams name g sink) (appends bytes)
append_front name f g sink bytes Failed fails = front_of name f g sink bytes (came_front (f.content name) (g.content name) bytes fails)
append_front name f g sink bytes OutOfMemory fails = front_of name f g sink bytes (came_nothing (f.content name) (g.content name) bytes fails)

pub append_less : (name : List ℕ) (f g : FilesNow) (sink : SinkNow) (bytes : List ℕ) (trouble : Trouble) → 0 < length bytes
    → Appends {T = Unit {0}} (f.content name) (g.content name) bytes (Err trouble) → DidLess (streams name f sink) (streams name g sink) (appends bytes)
append_less name f g sink bytes Failed some fails = less_of name f g sink bytes some (came_front (f.content name) (g.content name) bytes fails)
append_less name f g sink bytes OutOfMemory some fails = less_of name f g sink bytes some (came_nothing (f.content name) (g.content name) bytes fails)

-- what stays in a call on the named file
pub keeps_files : (name : List ℕ) (f g : FilesNow) (sink : SinkNow) → SameElsewhere name f.content g.content → SameEverywhere f.read_faults g.read_faults
    → SameElsewhere name f.write_faults g.write_faults → NoneFell f.write_faults g.write_faults → Keeps name f sink g sink
keeps_files name f g sink contents reads others later = record {
  contents = contents;
  reads = reads;
  others = others;
  later_files = later;
  later_sink = omega arith;
}

-- what stays in a write to the sink
pub keeps_sink : (name : List ℕ) (files : FilesNow) (s t : SinkNow) → s.faults ≤ t.faults → Keeps name files s files t
keeps_sink name files s t later = record {
  contents = λ other ne. refl;
  reads = λ other. refl;
  others = λ other ne. refl;
  later_files = λ other. omega arith;
  later_sink = later;
}

-- a count that was raised by one rose
pub rose_by_one : (before now : ℕ) → now ≡ min (before + 1) (2 ^ 64 - 1) → Rose before now
rose_by_one before now is = omega arith

written_front : (old new : Option (List ℕ)) (bytes : List ℕ) (trouble : Trouble) → Writes {T = Unit {0}} old new bytes (Err trouble) → CameFront old new bytes
written_front None new bytes trouble writes = nothing_came None new bytes (λ before told. absurd (none-some before told))
written_front (Some held) new bytes Failed writes = record {
  part = writes.part;
  rest = writes.rest;
  split = writes.split;
  proper = writes.proper;
  now = λ before told. writes.now ∙ ap (option_map (λ (x : List ℕ). x ++ writes.part)) told;
}
written_front (Some held) new bytes OutOfMemory writes = nothing_came (Some held) new bytes (λ before told. writes ∙ told)

written_all : (old new : Option (List ℕ)) (bytes : List ℕ) (value : Unit {0}) → Writes old new bytes (Ok value)
    → ForSome old (λ before. new ≡ Some (before ++ bytes))
written_all None new bytes value writes = λ before told. absurd (none-some before told)
written_all (Some held) new bytes value writes = λ before told. writes ∙ ap (option_map (λ (x : List ℕ). x ++ bytes)) told

-- a write that succeeded
pub print_done : (name : List ℕ) (files : FilesNow) (s t : SinkNow) (bytes : List ℕ) (value : Unit {0})
    → Writes s.written t.written bytes (Ok value) → Did (streams name files s) (streams name files t) (prints bytes)
print_done name files s t bytes value writes = did_prints name files s t bytes (written_all s.written t.written bytes value writes)

-- a write that stopped
pub print_front : (name : List ℕ) (files : FilesNow) (s t : SinkNow) (bytes : List ℕ) (trouble : Trouble)
    → Writes {T = Unit {0}} s.written t.written bytes (Err trouble) → DidFront (streams name files s) (streams name files t) (prints bytes)
print_front name files s t bytes trouble writes =
    let came = written_front s.written t.written bytes trouble writes in
    record {
      part = prints came.part;
      rest = prints came.rest;
      split = ap prints came.split ∙ prints-append came.part came.rest;
      did = did_prints name files s t came.part came.now;
    }

-- a start that succeeded, or that stopped
pub start_done : (old new : Option (Option (List ℕ))) (value : Unit {0}) → Starts old new (Ok value) → ForSome old (λ before. new ≡ Some (Some []))
start_done None new value starts = λ before told. absurd (none-some before told)
start_done (Some held) new value starts = λ before told. starts

start_left : (old new : Option (Option (List ℕ))) (trouble : Trouble) → Starts {T = Unit {0}} old new (Err trouble)
    → ForSome old (λ before. (new ≡ Some before) ⊎ (new ≡ Some (Some [])))
start_left None new trouble starts = λ before told. absurd (none-some before told)
start_left (Some held) new Failed (inl same) = λ before told. inl (same ∙ told)
start_left (Some held) new Failed (inr empty) = λ before told. inr empty
start_left (Some held) new OutOfMemory same = λ before told. inl (same ∙ told)

pub start_stopped : (name : List ℕ) (f g : FilesNow) (sink : SinkNow) (trouble : Trouble)
    → Starts {T = Unit {0}} (f.content name) (g.content name) (Err trouble) → IsUnstarted name f sink g sink
start_stopped name f g sink trouble starts = record { file = start_left (f.content name) (g.content name) trouble starts; sink = λ before told. told }
