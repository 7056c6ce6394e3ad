-- The tokens of a text: its maximal runs of bytes that are no separators. Own to portgap.
use Rattle.std.specs.Prelude.{ℕ, ◌+◌, Bool, ◌==◌, ◌||◌, if◌then◌else◌, List, [], ◌∷◌, length}

-- a token: the number of its first byte, from 0, and its bytes. Own to portgap.
pub record Token : Type 0 where
  pub place : ℕ
  pub text : List ℕ

-- the number of the byte behind a token. Own to portgap.
abbrev pub after : Token → ℕ
after t = t.place + length t.text

-- space, tab, carriage return, line feed and the old mark of a file's end (byte 26). Own to portgap.
abbrev pub is_separator : ℕ → Bool
is_separator b = b == 32 || b == 9 || b == 13 || b == 10 || b == 26

-- the tokens behind a byte that is no separator, and it: it joins the token that begins right behind
-- it, and is a token of its own where none does. Own to portgap.
abbrev pub joined : ℕ → ℕ → List Token → List Token
joined place b [] = record { place = place; text = b ∷ [] } ∷ []
joined place b (t ∷ ts) =
    if t.place == place + 1
    then record { place = place; text = b ∷ t.text } ∷ ts
    else record { place = place; text = b ∷ [] } ∷ t ∷ ts

-- the tokens of a text whose first byte has this number. Own to portgap.
unfoldable pub tokens_from : ℕ → List ℕ → List Token
tokens_from place [] = []
tokens_from place (b ∷ bs) =
    if is_separator b then tokens_from (place + 1) bs else joined place b (tokens_from (place + 1) bs)

-- the tokens of a text. Own to portgap.
unfoldable pub tokens : List ℕ → List Token
tokens bytes = tokens_from 0 bytes
