-- Lists of names of files: what files tell of them, and what stays outside them. Own to portgap.
use Rattle.std.specs.Prelude.{◌≡◌, ◌≢◌, ℕ, ◌⊎◌, List, [], ◌∷◌, Option, Some, None, IsSome}
use Rattle.gap_files.specs.Outside.{FilesNow, Rose, bytes_of}

-- the bytes of a content that is told; none where it isn't
abbrev pub told_bytes : Option (Option (List ℕ)) → List ℕ
told_bytes None = []
told_bytes (Some content) = bytes_of content

-- the bytes that files hold under a name: none where the file is missing, or where its content isn't told
abbrev pub held : FilesNow → List ℕ → List ℕ
held files name = told_bytes (files.content name)

-- the contents of these names are told
abbrev pub AreTold : List (List ℕ) → FilesNow → Type 0
AreTold [] files = Unit {0}
AreTold (name ∷ names) files = IsSome (files.content name) × AreTold names files

-- this is what is told of these names
abbrev pub AreHeld : List (List ℕ) → (List ℕ → List ℕ) → FilesNow → Type 0
AreHeld [] holds files = Unit {0}
AreHeld (name ∷ names) holds files =
    ((content : Option (List ℕ)) × ((files.content name ≡ Some content) × (holds name ≡ bytes_of content)))
    × AreHeld names holds files

-- the count of read faults of a name rose
abbrev pub RoseAt : List ℕ → FilesNow → FilesNow → Type 0
RoseAt name f g = Rose (f.read_faults name) (g.read_faults name)

-- the count of read faults of one of these names rose
abbrev pub RoseIn : List (List ℕ) → FilesNow → FilesNow → Type 0
RoseIn [] f g = ⊥
RoseIn (name ∷ names) f g = RoseAt name f g ⊎ RoseIn names f g

-- a name is none of these
abbrev pub IsNoneOf : List (List ℕ) → List ℕ → Type 0
IsNoneOf [] other = Unit {0}
IsNoneOf (name ∷ names) other = (other ≢ name) × IsNoneOf names other

-- two functions of a name agree at every name but these
abbrev pub SameOutside : {T : Type 0} → List (List ℕ) → (List ℕ → T) → (List ℕ → T) → Type 0
SameOutside names old new = (other : List ℕ) → IsNoneOf names other → new other ≡ old other
