-- The names of the files that a command reads and writes. Own to portgap.
use Rattle.std.specs.Prelude.{ℕ, List, [], ◌∷◌}
use Rattle.gap_words.specs.Forms.{FormValue, faulty, quick, solve, check, verify, demo, upgrade}

-- the name of the unnamed file, which has no bytes
abbrev pub unnamed : List ℕ
unnamed = []

-- the names of the files that a command reads, in the order in which it reads them
abbrev pub reads : FormValue → List (List ℕ)
reads faulty = []
reads (quick port asked) = port ∷ []
reads (solve port job cert) = port ∷ job ∷ []
reads (check cert) = cert ∷ []
reads (verify port job cert) = port ∷ job ∷ cert ∷ []
reads (demo asked) = []
reads (upgrade cert new) = cert ∷ []

-- the names of the files that a command writes
abbrev pub writes : FormValue → List (List ℕ)
writes faulty = []
writes (quick port asked) = unnamed ∷ []
writes (solve port job cert) = cert ∷ []
writes (check cert) = []
writes (verify port job cert) = []
writes (demo asked) = unnamed ∷ []
writes (upgrade cert new) = new ∷ []
