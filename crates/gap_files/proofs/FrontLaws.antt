-- Fronts of a content, piece by piece.
use Rattle.std.proofs.Common.{◌≡◌, ℕ, ◌+◌, ◌≤◌, List, ◌++◌, length, take, drop, sym, ap, ◌∙◌, arith}
use Rattle.std.proofs.Math.Seq.{take-add}
use Rattle.std.proofs.lemmas.List.{length-take, length-drop}

-- the front of a content that one more piece gives
pub front_more : (held buffer : List ℕ) (at count : ℕ) → take count buffer ≡ take count (drop at held) → take (at + count) held ≡ take at held ++ take count buffer
front_more held buffer at count same = take-add at count held ∙ ap (λ (x : List ℕ). take at held ++ x) (sym same)

pub inside_more : (held buffer : List ℕ) (at count : ℕ) → count ≤ length buffer → at ≤ length held → take count buffer ≡ take count (drop at held) → at + count ≤ length held
inside_more held buffer at count room inside same =
    let left = length-take count buffer in
    let right = length-take count (drop at held) in
    let rest = length-drop at held in
    let lengths = ap length same in
    omega arith
