-- Traces: what they put into the file and to the sink, joined and cut.
use Rattle.std.proofs.Common.{◌≡◌, ℕ, ◌<◌, ◌≤◌, List, [], ◌∷◌, ◌++◌, length, length-append, append_assoc, append-nil, Some, refl, sym, ap, ◌∙◌, arith}
use Rattle.gap_files.specs.Marks.{Mark, to_file, to_sink, filed, printed, appends, prints, Streams, Did, DidFront, DidLess}

-- both parts of a joined trace go into the file, one behind the other
pub filed-append : (a b : List Mark) → filed (a ++ b) ≡ filed a ++ filed b
filed-append [] b = refl
filed-append (to_file byte ∷ a) b = ap (λ (x : List ℕ). byte ∷ x) (filed-append a b)
filed-append (to_sink byte ∷ a) b = filed-append a b

-- and to the sink
pub printed-append : (a b : List Mark) → printed (a ++ b) ≡ printed a ++ printed b
printed-append [] b = refl
printed-append (to_file byte ∷ a) b = printed-append a b
printed-append (to_sink byte ∷ a) b = ap (λ (x : List ℕ). byte ∷ x) (printed-append a b)

-- what is appended goes into the file, and nothing of it to the sink
pub filed-appends : (bytes : List ℕ) → filed (appends bytes) ≡ bytes
unfolding appends
filed-appends [] = refl
filed-appends (byte ∷ bytes) = ap (λ (x : List ℕ). byte ∷ x) (filed-appends bytes)

pub printed-appends : (bytes : List ℕ) → printed (appends bytes) ≡ []
unfolding appends
printed-appends [] = refl
printed-appends (byte ∷ bytes) = printed-appends bytes

-- what is printed goes to the sink, and nothing of it into the file
pub filed-prints : (bytes : List ℕ) → filed (prints bytes) ≡ []
unfolding prints
filed-prints [] = refl
filed-prints (byte ∷ bytes) = filed-prints bytes

pub printed-prints : (bytes : List ℕ) → printed (prints bytes) ≡ bytes
unfolding prints
printed-prints [] = refl
printed-prints (byte ∷ bytes) = ap (λ (x : List ℕ). byte ∷ x) (printed-prints bytes)

-- bytes that are appended one part behind the other
pub appends-append : (a b : List ℕ) → appends (a ++ b) ≡ appends a ++ appends b
unfolding appends
appends-append [] b = refl
appends-append (byte ∷ a) b = ap (λ (x : List Mark). to_file byte ∷ x) (appends-append a b)

-- bytes that are printed one part behind the other
pub prints-append : (a b : List ℕ) → prints (a ++ b) ≡ prints a ++ prints b
unfolding prints
prints-append [] b = refl
prints-append (byte ∷ a) b = ap (λ (x : List Mark). to_sink byte ∷ x) (prints-append a b)

pub appends-none : appends [] ≡ []
unfolding appends
appends-none = refl

pub prints-none : prints [] ≡ []
unfolding prints
prints-none = refl

-- a byte of the trace for each byte that is appended, and for each that is printed
pub length-appends : (bytes : List ℕ) → length (appends bytes) ≡ length bytes
unfolding appends
length-appends [] = refl
length-appends (byte ∷ bytes) = let e = length-appends bytes in omega arith

pub length-prints : (bytes : List ℕ) → length (prints bytes) ≡ length bytes
unfolding prints
length-prints [] = refl
length-prints (byte ∷ bytes) = let e = length-prints bytes in omega arith

-- nothing was put out
pub did_none : (old : Streams) → Did old old []
did_none old = record {
  file = λ before told. told ∙ ap Some (sym (append-nil before));
  sink = λ before told. told ∙ ap Some (sym (append-nil before));
}

-- two traces were put out, one behind the other
pub did_both : (old mid new : Streams) (a b : List Mark) → Did old mid a → Did mid new b → Did old new (a ++ b)
did_both old mid new a b first second = record {
  file = λ before told. second.file (before ++ filed a) (first.file before told)
      ∙ ap Some (append_assoc before (filed a) (filed b) ∙ ap (λ (x : List ℕ). before ++ x) (sym (filed-append a b)));
  sink = λ before told. second.sink (before ++ printed a) (first.sink before told)
      ∙ ap Some (append_assoc before (printed a) (printed b) ∙ ap (λ (x : List ℕ). before ++ x) (sym (printed-append a b)));
}

-- all of a trace is a front of it and of what follows it
pub front_of_did : (old new : Streams) (a b : List Mark) → Did old new a → DidFront old new (a ++ b)
front_of_did old new a b did = record { part = a; rest = b; split = refl; did = did }

-- a front of a trace is one of a longer trace
pub front_of_more : (old new : Streams) (a b : List Mark) → DidFront old new a → DidFront old new (a ++ b)
front_of_more old new a b front = record {
  part = front.part;
  rest = front.rest ++ b;
  split = ap (λ (x : List Mark). x ++ b) front.split ∙ append_assoc front.part front.rest b;
  did = front.did;
}

-- a front of what follows a trace that was put out
pub front_behind : (old mid new : Streams) (a b : List Mark) → Did old mid a → DidFront mid new b → DidFront old new (a ++ b)
front_behind old mid new a b first front = record {
  part = a ++ front.part;
  rest = front.rest;
  split = ap (λ (x : List Mark). a ++ x) front.split ∙ sym (append_assoc a front.part front.rest);
  did = did_both old mid new a front.part first front.did;
}

-- a proper front is a front
pub front_of_less : (old new : Streams) (a : List Mark) → DidLess old new a → DidFront old new a
front_of_less old new a less = record { part = less.part; rest = less.rest; split = less.split; did = less.did }

some_left : (a b : List Mark) → 0 < length b → 0 < length (a ++ b)
some_left [] b some = some
some_left (mark ∷ a) b some = omega arith

some_more : (a b : List Mark) → 0 < length a → 0 < length (a ++ b)
some_more [] b some = absurd (omega arith)
some_more (mark ∷ a) b some = omega arith

-- a front of a trace is a proper one of what has something behind it
pub less_of_front : (old new : Streams) (a b : List Mark) → 0 < length b → DidFront old new a → DidLess old new (a ++ b)
less_of_front old new a b some front = record {
  part = front.part;
  rest = front.rest ++ b;
  split = ap (λ (x : List Mark). x ++ b) front.split ∙ append_assoc front.part front.rest b;
  left = some_left front.rest b some;
  did = front.did;
}

-- a proper front is one of a longer trace
pub less_of_more : (old new : Streams) (a b : List Mark) → DidLess old new a → DidLess old new (a ++ b)
less_of_more old new a b less = record {
  part = less.part;
  rest = less.rest ++ b;
  split = ap (λ (x : List Mark). x ++ b) less.split ∙ append_assoc less.part less.rest b;
  left = some_more less.rest b less.left;
  did = less.did;
}

-- a proper front of what follows a trace that was put out
pub less_behind : (old mid new : Streams) (a b : List Mark) → Did old mid a → DidLess mid new b → DidLess old new (a ++ b)
less_behind old mid new a b first less = record {
  part = a ++ less.part;
  rest = less.rest;
  split = ap (λ (x : List Mark). a ++ x) less.split ∙ sym (append_assoc a less.part less.rest);
  left = less.left;
  did = did_both old mid new a less.part first less.did;
}

-- what is appended of some bytes is something
pub appends_some : (bytes : List ℕ) → 0 < length bytes → 0 < length (appends bytes)
appends_some bytes some = let e = length-appends bytes in omega arith

-- ---- the bytes for the file

filed_most : (trace : List Mark) → length (filed trace) ≤ length trace
filed_most [] = omega arith
filed_most (to_file byte ∷ trace) = let h = filed_most trace in omega arith
filed_most (to_sink byte ∷ trace) = let h = filed_most trace in omega arith

tail_same : (m n : Mark) (a b : List Mark) → m ∷ a ≡ n ∷ b → a ≡ b
tail_same m n a b same = cc

-- what is left of a trace that ends in the file has bytes for the file
pub last_filed : (a part rest : List Mark) (bytes : List ℕ) → 0 < length bytes → 0 < length rest → a ++ appends bytes ≡ part ++ rest → 0 < length (filed rest)
last_filed a [] rest bytes some left split =
    let e = ap (λ (x : List Mark). length (filed x)) split in
    let l = ap length (filed-append a (appends bytes)) in
    let m = length-append (filed a) (filed (appends bytes)) in
    let n = ap length (filed-appends bytes) in
    omega arith
last_filed [] (mark ∷ part) rest bytes some left split =
    let e = ap (λ (x : List Mark). length (filed x)) split in
    let k = ap length split in
    let l = ap length (filed-append (mark ∷ part) rest) in
    let m = length-append (filed (mark ∷ part)) (filed rest) in
    let n = ap length (filed-appends bytes) in
    let o = length-appends bytes in
    let p = filed_most (mark ∷ part) in
    let q = length-append (mark ∷ part) rest in
    omega arith
last_filed (first ∷ a) (mark ∷ part) rest bytes some left split = last_filed a part rest bytes some left (tail_same first mark (a ++ appends bytes) (part ++ rest) split)
