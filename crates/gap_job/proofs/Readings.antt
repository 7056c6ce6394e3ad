-- The keys of an object, and the reading of a text.
use Rattle.std.proofs.Common.{◌≡◌, ℕ, ◌+◌, Bool, true, false, not, cond, nat_lt, min, List, [], ◌∷◌, length, map, Option, Some, None, Err, refl, ap, String, string_bytes}
use Rattle.std.specs.List.{position_or_len}
use Rattle.std.specs.Str.{is_utf8, IsUtf8}
use Rattle.std.specs.declared.alloc.Global.{Global}
use Rattle.std.proofs.lemmas.Str.{IsUtf8-from_is_utf8, is_utf8-from_IsUtf8}
use Rattle.serde_json.specs.Data.{Data, Members}
use Rattle.serde_json.specs.Read.{read}
use Rattle.serde_json.specs.View.{members_view}
use Rattle.serde_json.specs.declared.value.Value.{Value}
use Rattle.gap_job.specs.declared.fault.JobFault.TheVariants.{Unknown}
use Rattle.gap_job.specs.Jobs.{keys_of, first_unknown, job_of, job_of_object, reading}

-- a place that is looked for through a function
pub position_or_len-map : {X Y : Type 0} (p : Y → Bool) (f : X → Y) (xs : List X) → position_or_len p (map f xs) ≡ position_or_len (λ x. p (f x)) xs
position_or_len-map p f [] = refl
position_or_len-map p f (x ∷ xs) = ap (λ (n : ℕ). cond (not (p (f x))) (1 + n) 0) (position_or_len-map p f xs)

-- the keys of an object, as its map has them
keys_listed : (es : List (String Global × Value)) → keys_of (members_view es) ≡ map string_bytes (map (λ e. e.0) es)
keys_listed [] = refl
keys_listed (e ∷ es) = ap (λ (ks : List (List ℕ)). string_bytes e.0 ∷ ks) (keys_listed es)

abbrev names : List (String Global × Value) → List (List ℕ)
names es = map string_bytes (map (λ e. e.0) es)

found : (b : Bool) (k rank : ℕ) → cond b (Some k) None ≡ Some rank → (b ≡ true) × (k ≡ rank)
found true k rank h = (refl, cc)
found false k rank h = absurd cc

not_found : (b : Bool) (k : ℕ) → cond b (Some k) None ≡ None → b ≡ false
not_found true k h = absurd cc
not_found false k h = refl

-- an object with a key that no job has
pub unknown_at : (n : ℕ) (d : Data) (o : Option Members) (es : List (String Global × Value)) (len rank : ℕ) → o ≡ Some (members_view es) → length (names es) ≡ len → cond (nat_lt (first_unknown (names es)) len) (Some (first_unknown (names es))) None ≡ Some rank → job_of_object n d o ≡ Err (Unknown (min rank 4294967295))
unfolding job_of_object
unknown_at n d o es len rank p l h =
    let both = found (nat_lt (first_unknown (names es)) len) (first_unknown (names es)) rank h in
    rw (p, keys_listed es, l, both.0, both.1) refl

-- an object without one
pub known_at : (n : ℕ) (d : Data) (o : Option Members) (es : List (String Global × Value)) (len : ℕ) → o ≡ Some (members_view es) → length (names es) ≡ len → cond (nat_lt (first_unknown (names es)) len) (Some (first_unknown (names es))) None ≡ None → job_of_object n d o ≡ job_of n d
unfolding job_of_object
known_at n d o es len p l h =
    let none = not_found (nat_lt (first_unknown (names es)) len) (first_unknown (names es)) h in
    rw (p, keys_listed es, l, none) refl

-- bytes that are UTF-8, and others
pub reading_text : (bytes : List ℕ) → IsUtf8 bytes → reading bytes ≡ read bytes
unfolding reading
reading_text bytes h = rw (is_utf8-from_IsUtf8 bytes h) refl

pub reading_none : (bytes : List ℕ) → (IsUtf8 bytes → ⊥) → reading bytes ≡ None
unfolding reading
reading_none bytes h = rw (from_not_true (is_utf8 bytes) (λ e. h (IsUtf8-from_is_utf8 bytes e))) refl
  where
    from_not_true : (b : Bool) → (b ≡ true → ⊥) → b ≡ false
    from_not_true true k = absurd (k refl)
    from_not_true false k = refl
