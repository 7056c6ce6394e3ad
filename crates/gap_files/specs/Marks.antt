-- What a run puts out: bytes into one file and bytes to the sink, in one order. Own to portgap.
use Rattle.std.specs.Prelude.{◌≡◌, ℕ, ◌<◌, List, [], ◌∷◌, ◌++◌, length, map, Option, Some}
use Rattle.std.specs.Option.{option_map, ForSome}
use Rattle.gap_files.specs.Outside.{FilesNow, SinkNow, bytes_of}

-- one byte that is put out, into the file or to the sink
pub data Mark : Type 0 where
  to_file : ℕ → Mark
  to_sink : ℕ → Mark

-- the bytes of a trace that go into the file
abbrev pub filed : List Mark → List ℕ
filed [] = []
filed (to_file byte ∷ trace) = byte ∷ filed trace
filed (to_sink byte ∷ trace) = filed trace

-- the bytes of a trace that go to the sink
abbrev pub printed : List Mark → List ℕ
printed [] = []
printed (to_file byte ∷ trace) = printed trace
printed (to_sink byte ∷ trace) = byte ∷ printed trace

-- the trace of bytes that are appended to the file
unfoldable pub appends : List ℕ → List Mark
appends bytes = map to_file bytes

-- the trace of bytes that are written to the sink
unfoldable pub prints : List ℕ → List Mark
prints bytes = map to_sink bytes

-- the bytes in a file and those written to a sink, each where it is told
pub record Streams : Type 0 where
  pub file : Option (List ℕ)
  pub sink : Option (List ℕ)

-- the bytes in a file, where they are told: a missing file has none
abbrev pub stream : List ℕ → FilesNow → Option (List ℕ)
stream name files = option_map bytes_of (files.content name)

-- the bytes in the named file and those written to the sink
abbrev pub streams : List ℕ → FilesNow → SinkNow → Streams
streams name files sink = record { file = stream name files; sink = sink.written }

-- the same just after the file was made empty
abbrev pub started : List ℕ → FilesNow → SinkNow → Streams
started name files sink = record { file = option_map (λ before. []) (stream name files); sink = sink.written }

-- a trace was put out: behind what was there came its bytes, and nothing else
pub record Did (old new : Streams) (trace : List Mark) : Type 0 where
  pub file : ForSome old.file (λ before. new.file ≡ Some (before ++ filed trace))
  pub sink : ForSome old.sink (λ before. new.sink ≡ Some (before ++ printed trace))

-- a front of a trace was put out
pub record DidFront (old new : Streams) (due : List Mark) : Type 0 where
  pub part : List Mark
  pub rest : List Mark
  pub split : due ≡ part ++ rest
  pub did : Did old new part

-- a proper front of a trace was put out: something is left
pub record DidLess (old new : Streams) (due : List Mark) : Type 0 where
  pub part : List Mark
  pub rest : List Mark
  pub split : due ≡ part ++ rest
  pub left : 0 < length rest
  pub did : Did old new part
