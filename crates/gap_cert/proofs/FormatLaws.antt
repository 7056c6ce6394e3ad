-- What a format spells is read by it, and what is read by it is spelled so.
use Rattle.std.proofs.Common.{Option, ◌≡◌, ℕ, zero, suc, ◌+◌, ◌<◌, ◌≤◌, ◌≤ℤ◌, if◌then◌else◌, ◌&&◌, Bool, true, false, nat_lt, nat_le, int_le, List, [], ◌∷◌, ◌++◌, length, take, drop, Result, Ok, Err, ℤ, refl, sym, ap, ◌∙◌, subst, arith}
use Rattle.std.proofs.lemmas.List.{append_assoc, append-nil, length-append, length-take, take-append-drop}
use Rattle.std.proofs.Math.Seq.{take-append_seam, drop-append_seam}
use Rattle.std.proofs.lemmas.Bool.{lt-ltb, le-ltb}
use Rattle.std.proofs.lemmas.Bool.Decides.{nat_tests}
use Rattle.std.proofs.lemmas.Int.{ints}
use Rattle.gap_base.specs.declared.witness.Witness.{Witness}
use Rattle.gap_model.specs.declared.cert_fault.CertKind.{CertKind}
use Rattle.gap_model.specs.declared.cert_fault.CertKind.TheVariants.{Range}
use Rattle.gap_cert.specs.declared.field.Group.{Group}
use Rattle.gap_cert.specs.declared.field.Stop.{Stop}
use Rattle.gap_cert.specs.declared.field.Stop.TheVariants.{More}
use Rattle.gap_cert.specs.Bytes.{be, value_of, full, AreBytes, raw_of, signed_from, IsSigned}
use Rattle.gap_cert.specs.Formats.{Format, natural, signed, guard, says, Spells, Spot, read, natural_at, signed_at, behind, fault_here, fault_back, ◌>>=◌}
use Rattle.gap_cert.specs.Fields.{bytes_of}
use Rattle.gap_cert.proofs.Numbers.{length-be, value_of-be, value_fits, be-value_of, signed_from-raw_of, raw_fits, is_signed}

abbrev pub spot : ℕ → List ℕ → Spot
spot place rest = record { place = place; rest = rest }

abbrev got : {A : Type 0} → A → Result A Stop
got a = Ok a

take_front : (n : ℕ) (xs ys : List ℕ) → length xs ≡ n → take n (xs ++ ys) ≡ xs
take_front n xs ys e = rw (← e) (take-append_seam xs ys)

drop_front : (n : ℕ) (xs ys : List ℕ) → length xs ≡ n → drop n (xs ++ ys) ≡ ys
drop_front n xs ys e = rw (← e) (drop-append_seam xs ys)

pub le_true : (a b : ℕ) → a ≤ b → nat_le a b ≡ true
le_true a b h = grind (arith, nat_tests)

int_le_true : (a b : ℤ) → a ≤ℤ b → int_le a b ≡ true
int_le_true a b h = grind (arith, ints)

both_true : (s t : Bool) → s ≡ true → t ≡ true → (s && t) ≡ true
both_true s t h k = rw h k

-- a number whose bytes are there and that is in its range
judged_natural : (w : ℕ) (k : CertKind) (lo hi : ℕ) (s : Spot) (v : ℕ) → w ≤ length s.rest → value_of (take w s.rest) ≡ v → lo ≤ v → v ≤ hi → natural_at w k lo hi s ≡ Ok (v, behind w s)
unfolding natural_at
judged_natural w k lo hi s v room e l h = rw e (rw (le-ltb (length s.rest) w room) (rw (both_true (nat_le lo v) (nat_le v hi) (le_true lo v l) (le_true v hi h)) refl))

judged_signed : (w : ℕ) (lo hi : ℤ) (s : Spot) (z : ℤ) → w ≤ length s.rest → signed_from w (value_of (take w s.rest)) ≡ z → lo ≤ℤ z → z ≤ℤ hi → signed_at w lo hi s ≡ Ok (z, behind w s)
unfolding signed_at
judged_signed w lo hi s z room e l h = rw e (rw (le-ltb (length s.rest) w room) (rw (both_true (int_le lo z) (int_le z hi) (int_le_true lo z l) (int_le_true z hi h)) refl))

-- what the code reads, by its tests
pub natural_read : (w : ℕ) (k : CertKind) (lo hi : ℕ) (s u : Spot) (v : ℕ) → w ≤ length s.rest → v ≡ value_of (take w s.rest) → u ≡ behind w s → lo ≤ v → v ≤ hi → natural_at w k lo hi s ≡ Ok (v, u)
natural_read w k lo hi s u v room e q l h = rw q (judged_natural w k lo hi s v room (sym e) l h)

pub signed_read : (w : ℕ) (lo hi : ℤ) (s u : Spot) (z : ℤ) → w ≤ length s.rest → z ≡ signed_from w (value_of (take w s.rest)) → u ≡ behind w s → lo ≤ℤ z → z ≤ℤ hi → signed_at w lo hi s ≡ Ok (z, u)
signed_read w lo hi s u z room e q l h = rw q (judged_signed w lo hi s z room (sym e) l h)

pub natural_short : (w : ℕ) (k : CertKind) (lo hi : ℕ) (s : Spot) → length s.rest < w → natural_at w k lo hi s ≡ Err More
unfolding natural_at
natural_short w k lo hi s h = rw (lt-ltb (length s.rest) w h) refl

pub signed_short : (w : ℕ) (lo hi : ℤ) (s : Spot) → length s.rest < w → signed_at w lo hi s ≡ Err More
unfolding signed_at
signed_short w lo hi s h = rw (lt-ltb (length s.rest) w h) refl

outside : (lo v hi : ℕ) → (lo ≤ v → v ≤ hi → ⊥) → (nat_le lo v && nat_le v hi) ≡ false
outside lo v hi h = grind (arith, nat_tests)

outside_signed : (lo v hi : ℤ) → (lo ≤ℤ v → v ≤ℤ hi → ⊥) → (int_le lo v && int_le v hi) ≡ false
outside_signed lo v hi h = grind (arith, ints)

pub natural_wrong : (w : ℕ) (k : CertKind) (lo hi : ℕ) (s : Spot) (v : ℕ) → w ≤ length s.rest → v ≡ value_of (take w s.rest) → (lo ≤ v → v ≤ hi → ⊥) → natural_at w k lo hi s ≡ Err (fault_here k s)
unfolding natural_at
natural_wrong w k lo hi s v room e o = rw (← e) (rw (le-ltb (length s.rest) w room) (rw (outside lo v hi o) refl))

pub signed_wrong : (w : ℕ) (lo hi : ℤ) (s : Spot) (z : ℤ) → w ≤ length s.rest → z ≡ signed_from w (value_of (take w s.rest)) → (lo ≤ℤ z → z ≤ℤ hi → ⊥) → signed_at w lo hi s ≡ Err (fault_here Range s)
unfolding signed_at
signed_wrong w lo hi s z room e o = rw (← e) (rw (le-ltb (length s.rest) w room) (rw (outside_signed lo z hi o) refl))

front_room : (w n : ℕ) (rest : List ℕ) → w ≤ length (be w n ++ rest)
front_room w n rest = omega (arith, length-append (be w n) rest, length-be w n)

spot_behind : (w n place : ℕ) (rest : List ℕ) → behind w (spot place (be w n ++ rest)) ≡ spot (place + w) rest
spot_behind w n place rest = ap (spot (place + w)) (drop_front w (be w n) rest (length-be w n))

value_there : (w n : ℕ) (rest : List ℕ) → n < full w → value_of (take w (be w n ++ rest)) ≡ n
value_there w n rest h = ap value_of (take_front w (be w n) rest (length-be w n)) ∙ value_of-be w n h

natural_there : (w : ℕ) (k : CertKind) (lo hi v place : ℕ) (rest : List ℕ) → lo ≤ v → v ≤ hi → v < full w → natural_at w k lo hi (spot place (be w v ++ rest)) ≡ Ok (v, spot (place + w) rest)
natural_there w k lo hi v place rest l h f =
    judged_natural w k lo hi (spot place (be w v ++ rest)) v (front_room w v rest) (value_there w v rest f) l h ∙ ap (λ (s : Spot). got (v, s)) (spot_behind w v place rest)

signed_there : (w : ℕ) (lo hi z : ℤ) (place : ℕ) (rest : List ℕ) → lo ≤ℤ z → z ≤ℤ hi → IsSigned w z → signed_at w lo hi (spot place (be w (raw_of w z) ++ rest)) ≡ Ok (z, spot (place + w) rest)
signed_there w lo hi z place rest l h f =
    judged_signed w lo hi (spot place (be w (raw_of w z) ++ rest)) z (front_room w (raw_of w z) rest) (ap (signed_from w) (value_there w (raw_of w z) rest (raw_fits w z f)) ∙ signed_from-raw_of w z f) l h ∙ ap (λ (s : Spot). got (z, s)) (spot_behind w (raw_of w z) place rest)

bound : {A B : Type 0} (m : Result A Stop) (f : A → Result B Stop) (a : A) → m ≡ Ok a → (m >>= f) ≡ f a
bound m f a e = rw e refl

split_at : (bytes front more rest : List ℕ) → bytes ≡ front ++ more → bytes ++ rest ≡ front ++ (more ++ rest)
split_at bytes front more rest e = rw e (append_assoc front more rest)

length_at : (w n : ℕ) (bytes more : List ℕ) → bytes ≡ be w n ++ more → length bytes ≡ w + length more
length_at w n bytes more e = ap length e ∙ length-append (be w n) more ∙ ap (λ (k : ℕ). k + length more) (length-be w n)

says_read : (g said : Group) (bytes rest : List ℕ) (place end : ℕ) → g ≡ said → bytes ≡ [] → end ≡ place + length bytes → got {A = Group × Spot} (said, spot place (bytes ++ rest)) ≡ Ok (g, spot end rest)
says_read g said bytes rest place end p q e =
    let l : end ≡ place = e ∙ ap (λ (b : List ℕ). place + length b) q ∙ omega arith in
    rw p (rw q (rw l refl))

-- a group that bytes spell is read from them
pub reads : (F : Format) (g : Group) (bytes rest : List ℕ) (place end : ℕ) → Spells F g bytes → end ≡ place + length bytes → read F (spot place (bytes ++ rest)) ≡ Ok (g, spot end rest)
unfolding Spells
reads (natural w k lo hi next) g bytes rest place end h e =
    let n = length_at w h.value bytes h.more h.bytes_are in
    let s = split_at bytes (be w h.value) h.more rest h.bytes_are in
    rw s (bound (natural_at w k lo hi (spot place (be w h.value ++ (h.more ++ rest)))) (λ r. read (next r.0) r.1) (h.value, spot (place + w) (h.more ++ rest)) (natural_there w k lo hi h.value place (h.more ++ rest) h.low h.high h.fits)
    ∙ reads (next h.value) g h.more rest (place + w) end h.behind (omega arith))
reads (signed w lo hi next) g bytes rest place end h e =
    let n = length_at w (raw_of w h.value) bytes h.more h.bytes_are in
    let s = split_at bytes (be w (raw_of w h.value)) h.more rest h.bytes_are in
    rw s (bound (signed_at w lo hi (spot place (be w (raw_of w h.value) ++ (h.more ++ rest)))) (λ r. read (next r.0) r.1) (h.value, spot (place + w) (h.more ++ rest)) (signed_there w lo hi h.value place (h.more ++ rest) h.low h.high h.fits)
    ∙ reads (next h.value) g h.more rest (place + w) end h.behind (omega arith))
reads (guard test back k F) g bytes rest place end h e = rw h.0 (reads F g bytes rest place end h.1 e)
reads (says said) g bytes rest place end h e = says_read g said bytes rest place end h.0 h.1 e

-- what was read by a format: the bytes, which spell the group, and where they end
pub record Written (F : Format) (g : Group) (s t : Spot) : Type 0 where
  pub bytes : List ℕ
  pub spells : Spells F g bytes
  pub rest_is : s.rest ≡ bytes ++ t.rest
  pub place_is : t.place ≡ s.place + length bytes

pub bind_ok : {A B : Type 0} (m : Result A Stop) (f : A → Result B Stop) (b : B) → (m >>= f) ≡ Ok b → (a : A) × (m ≡ Ok a) × (f a ≡ Ok b)
bind_ok (Ok a) f b h = (a, refl, h)
bind_ok (Err e) f b h = cc

err_first : {A : Type 0} (b : Bool) (e : Stop) (r : Result A Stop) (x : A) → (if b then Err e else r) ≡ Ok x → (b ≡ false) × (r ≡ Ok x)
err_first true e r x h = cc
err_first false e r x h = (refl, h)

pub err_last : {A : Type 0} (b : Bool) (e : Stop) (r : Result A Stop) (x : A) → (if b then r else Err e) ≡ Ok x → (b ≡ true) × (r ≡ Ok x)
err_last true e r x h = (refl, h)
err_last false e r x h = cc

pub ok_inj : {A : Type 0} (a b : A) → got a ≡ got b → a ≡ b
ok_inj a b h = cc

both_are : (s t : Bool) → (s && t) ≡ true → (s ≡ true) × (t ≡ true)
both_are true t h = (refl, h)
both_are false t h = cc

le_from : (a b : ℕ) → nat_le a b ≡ true → a ≤ b
le_from a b h = grind (arith, nat_tests)

int_le_from : (a b : ℤ) → int_le a b ≡ true → a ≤ℤ b
int_le_from a b h = grind (arith, ints)

not_below : (a b : ℕ) → nat_lt a b ≡ false → b ≤ a
not_below a b h = grind (arith, nat_tests)

record TookNatural (w lo hi : ℕ) (s : Spot) (v : ℕ) (t : Spot) : Type 0 where
  room : w ≤ length s.rest
  value_is : value_of (take w s.rest) ≡ v
  low : lo ≤ v
  high : v ≤ hi
  next_is : behind w s ≡ t

took_by : (w lo hi : ℕ) (s : Spot) (a : ℕ) (u : Spot) (v : ℕ) (t : Spot) → w ≤ length s.rest → value_of (take w s.rest) ≡ a → lo ≤ a → a ≤ hi → behind w s ≡ u → a ≡ v → u ≡ t → TookNatural w lo hi s v t
took_by w lo hi s a u v t room e l h b p q = record { room = room; value_is = e ∙ p; low = omega (arith, p); high = omega (arith, p); next_is = b ∙ q }

took_natural : (w : ℕ) (k : CertKind) (lo hi : ℕ) (s : Spot) (v : ℕ) (t : Spot) → natural_at w k lo hi s ≡ Ok (v, t) → TookNatural w lo hi s v t
unfolding natural_at
took_natural w k lo hi s v t h =
    let n = value_of (take w s.rest) in
    let a = err_first (nat_lt (length s.rest) w) More (if nat_le lo n && nat_le n hi then Ok (n, behind w s) else Err (fault_here k s)) (v, t) h in
    let b = err_last (nat_le lo n && nat_le n hi) (fault_here k s) (Ok (n, behind w s)) (v, t) a.1 in
    let c = both_are (nat_le lo n) (nat_le n hi) b.0 in
    let i : (n, behind w s) ≡ (v, t) = ok_inj (n, behind w s) (v, t) b.1 in
    took_by w lo hi s n (behind w s) v t (not_below (length s.rest) w a.0) refl (le_from lo n c.0) (le_from n hi c.1) refl (ap (λ (p : ℕ × Spot). p.0) i) (ap (λ (p : ℕ × Spot). p.1) i)

record TookSigned (w : ℕ) (lo hi : ℤ) (s : Spot) (z : ℤ) (t : Spot) : Type 0 where
  room : w ≤ length s.rest
  value_is : signed_from w (value_of (take w s.rest)) ≡ z
  low : lo ≤ℤ z
  high : z ≤ℤ hi
  next_is : behind w s ≡ t

took_signed_by : (w : ℕ) (lo hi : ℤ) (s : Spot) (a : ℤ) (u : Spot) (z : ℤ) (t : Spot) → w ≤ length s.rest → signed_from w (value_of (take w s.rest)) ≡ a → lo ≤ℤ a → a ≤ℤ hi → behind w s ≡ u → a ≡ z → u ≡ t → TookSigned w lo hi s z t
took_signed_by w lo hi s a u z t room e l h b p q = record { room = room; value_is = e ∙ p; low = rw p at l; high = rw p at h; next_is = b ∙ q }

took_signed : (w : ℕ) (lo hi : ℤ) (s : Spot) (z : ℤ) (t : Spot) → signed_at w lo hi s ≡ Ok (z, t) → TookSigned w lo hi s z t
unfolding signed_at
took_signed w lo hi s z t h =
    let n = signed_from w (value_of (take w s.rest)) in
    let a = err_first (nat_lt (length s.rest) w) More (if int_le lo n && int_le n hi then Ok (n, behind w s) else Err (fault_here Range s)) (z, t) h in
    let b = err_last (int_le lo n && int_le n hi) (fault_here Range s) (Ok (n, behind w s)) (z, t) a.1 in
    let c = both_are (int_le lo n) (int_le n hi) b.0 in
    let i : (n, behind w s) ≡ (z, t) = ok_inj (n, behind w s) (z, t) b.1 in
    took_signed_by w lo hi s n (behind w s) z t (not_below (length s.rest) w a.0) refl (int_le_from lo n c.0) (int_le_from n hi c.1) refl (ap (λ (p : ℤ × Spot). p.0) i) (ap (λ (p : ℤ × Spot). p.1) i)

pub bytes_take : (n : ℕ) (bytes : List ℕ) → AreBytes bytes → AreBytes (take n bytes)
bytes_take zero bytes h = tt
bytes_take (suc n) [] h = tt
bytes_take (suc n) (b ∷ bytes) h = (h.0, bytes_take n bytes h.1)

pub bytes_drop : (n : ℕ) (bytes : List ℕ) → AreBytes bytes → AreBytes (drop n bytes)
bytes_drop zero bytes h = h
bytes_drop (suc n) [] h = tt
bytes_drop (suc n) (b ∷ bytes) h = bytes_drop n bytes h.1

front_length : (n : ℕ) (bytes : List ℕ) → n ≤ length bytes → length (take n bytes) ≡ n
front_length n bytes h = length-take n bytes ∙ omega arith

-- the front of bytes is the bytes of its value
front_is : (w : ℕ) (rest : List ℕ) → w ≤ length rest → AreBytes rest → be w (value_of (take w rest)) ≡ take w rest
front_is w rest h b = ap (λ (n : ℕ). be n (value_of (take w rest))) (sym (front_length w rest h)) ∙ be-value_of (take w rest) (bytes_take w rest b)

front_fits : (w : ℕ) (rest : List ℕ) → w ≤ length rest → AreBytes rest → value_of (take w rest) < full w
front_fits w rest h b = let f = value_fits (take w rest) (bytes_take w rest b) in let e = ap full (front_length w rest h) in omega (arith, e)

-- the rest of a spot, by a number of its front
rest_natural : (w n : ℕ) (s t : Spot) → w ≤ length s.rest → AreBytes s.rest → value_of (take w s.rest) ≡ n → behind w s ≡ t → s.rest ≡ be w n ++ t.rest
rest_natural w n s t h b e q =
    sym (take-append-drop w s.rest) ∙ ap (λ (f : List ℕ). f ++ drop w s.rest) (sym (front_is w s.rest h b) ∙ ap (be w) e) ∙ ap (λ (u : Spot). be w n ++ u.rest) q

more_rest : (w n : ℕ) (more : List ℕ) (s u t : Spot) → s.rest ≡ be w n ++ u.rest → u.rest ≡ more ++ t.rest → s.rest ≡ (be w n ++ more) ++ t.rest
more_rest w n more s u t e f = e ∙ ap (λ (r : List ℕ). be w n ++ r) f ∙ sym (append_assoc (be w n) more t.rest)

more_place : (w n : ℕ) (more : List ℕ) (s u t : Spot) → behind w s ≡ u → t.place ≡ u.place + length more → t.place ≡ s.place + length (be w n ++ more)
more_place w n more s u t q e =
    let p : s.place + w ≡ u.place = ap (λ (x : Spot). x.place) q in
    let l = length-append (be w n) more in
    let m = length-be w n in omega arith

bytes_behind : (w : ℕ) (s u : Spot) → behind w s ≡ u → AreBytes s.rest → AreBytes u.rest
bytes_behind w s u q b = let P : Spot → Type 0 = λ x. AreBytes x.rest in subst P q (bytes_drop w s.rest b)

natural_written : (w : ℕ) (k : CertKind) (lo hi : ℕ) (next : ℕ → Format) (g : Group) (s u t : Spot) (v : ℕ) → AreBytes s.rest → TookNatural w lo hi s v u → Written (next v) g u t → Written (natural w k lo hi next) g s t
unfolding Spells
natural_written w k lo hi next g s u t v b h r =
    record {
      bytes = be w v ++ r.bytes;
      spells = record { value = v; more = r.bytes; low = h.low; high = h.high; fits = rw h.value_is at (front_fits w s.rest h.room b); bytes_are = refl; behind = r.spells };
      rest_is = more_rest w v r.bytes s u t (rest_natural w v s u h.room b h.value_is h.next_is) r.rest_is;
      place_is = more_place w v r.bytes s u t h.next_is r.place_is;
    }

signed_parts : (w : ℕ) (z : ℤ) (s : Spot) → w ≤ length s.rest → AreBytes s.rest → signed_from w (value_of (take w s.rest)) ≡ z → IsSigned w z × (value_of (take w s.rest) ≡ raw_of w z)
signed_parts w z s h b e =
    let p = is_signed w (value_of (take w s.rest)) (front_fits w s.rest h b) in
    (subst (IsSigned w) e p.0, sym p.1 ∙ ap (raw_of w) e)

signed_written : (w : ℕ) (lo hi : ℤ) (next : ℤ → Format) (g : Group) (s u t : Spot) (z : ℤ) → AreBytes s.rest → TookSigned w lo hi s z u → Written (next z) g u t → Written (signed w lo hi next) g s t
unfolding Spells
signed_written w lo hi next g s u t z b h r =
    let p = signed_parts w z s h.room b h.value_is in
    record {
      bytes = be w (raw_of w z) ++ r.bytes;
      spells = record { value = z; more = r.bytes; low = h.low; high = h.high; fits = p.0; bytes_are = refl; behind = r.spells };
      rest_is = more_rest w (raw_of w z) r.bytes s u t (rest_natural w (raw_of w z) s u h.room b p.1 h.next_is) r.rest_is;
      place_is = more_place w (raw_of w z) r.bytes s u t h.next_is r.place_is;
    }

says_written : (g said : Group) (s t : Spot) → ◌≡◌ {A = Group × Spot} (said, s) (g, t) → Written (says said) g s t
unfolding Spells
says_written g said s t h =
    let q : s ≡ t = ap (λ (p : Group × Spot). p.1) h in
    record {
      bytes = [];
      spells = (sym (ap (λ (p : Group × Spot). p.0) h), refl);
      rest_is = ap (λ (x : Spot). x.rest) q;
      place_is = sym (ap (λ (x : Spot). x.place) q) ∙ omega arith;
    }

guard_written : (test : Bool) (back : ℕ) (k : CertKind) (F : Format) (g : Group) (s t : Spot) → test ≡ true → Written F g s t → Written (guard test back k F) g s t
unfolding Spells
guard_written test back k F g s t e r = record { bytes = r.bytes; spells = (e, r.spells); rest_is = r.rest_is; place_is = r.place_is }

-- what is read by a format is spelled by it
pub writes : (F : Format) (g : Group) (s t : Spot) → AreBytes s.rest → read F s ≡ Ok (g, t) → Written F g s t
writes (natural w k lo hi next) g s t b h =
    let r = bind_ok (natural_at w k lo hi s) (λ r. read (next r.0) r.1) (g, t) h in
    let c = took_natural w k lo hi s r.0.0 r.0.1 r.1 in
    natural_written w k lo hi next g s r.0.1 t r.0.0 b c (writes (next r.0.0) g r.0.1 t (bytes_behind w s r.0.1 c.next_is b) r.2)
writes (signed w lo hi next) g s t b h =
    let r = bind_ok (signed_at w lo hi s) (λ r. read (next r.0) r.1) (g, t) h in
    let c = took_signed w lo hi s r.0.0 r.0.1 r.1 in
    signed_written w lo hi next g s r.0.1 t r.0.0 b c (writes (next r.0.0) g r.0.1 t (bytes_behind w s r.0.1 c.next_is b) r.2)
writes (guard test back k F) g s t b h =
    let r = err_last test (fault_back back k s) (read F s) (g, t) h in
    guard_written test back k F g s t r.0 (writes F g s t b r.1)
writes (says said) g s t b h = says_written g said s t (ok_inj (said, s) (g, t) h)

-- two groups that bytes begin with, by one format, are one, and so is what follows
pub one_group : (F : Format) (g h : Group) (a b x y : List ℕ) → Spells F g a → Spells F h b → a ++ x ≡ b ++ y → (g ≡ h) × (x ≡ y)
one_group F g h a b x y p q e =
    let r = reads F g a x 0 (0 + length a) p refl in
    let s = reads F h b y 0 (0 + length b) q refl in
    let i : (g, spot (0 + length a) x) ≡ (h, spot (0 + length b) y) = ok_inj (g, spot (0 + length a) x) (h, spot (0 + length b) y) (sym r ∙ ap (λ (l : List ℕ). read F (spot 0 l)) e ∙ s) in
    (ap (λ (p : Group × Spot). p.0) i, ap (λ (p : Group × Spot). p.1.rest) i)

-- each number that a format spells goes on to a group whose bytes these are, whatever came before
unfoldable pub Faithful : Option Witness → Format → List ℕ → Type 0
Faithful last (natural w k lo hi next) before = (v : ℕ) → lo ≤ v → v ≤ hi → Faithful last (next v) (before ++ be w v)
Faithful last (signed w lo hi next) before = (z : ℤ) → lo ≤ℤ z → z ≤ℤ hi → Faithful last (next z) (before ++ be w (raw_of w z))
Faithful last (guard test back k F) before = test ≡ true → Faithful last F before
Faithful last (says said) before = before ≡ bytes_of said.version last said.field

join : (before front more bytes result : List ℕ) → bytes ≡ front ++ more → (before ++ front) ++ more ≡ result → before ++ bytes ≡ result
join before front more bytes result e r = ap (λ (b : List ℕ). before ++ b) e ∙ sym (append_assoc before front more) ∙ r

says_faithful : (last : Option Witness) (said g : Group) (before bytes : List ℕ) → before ≡ bytes_of said.version last said.field → g ≡ said → bytes ≡ [] → before ++ bytes ≡ bytes_of g.version last g.field
says_faithful last said g before bytes f p q = ap (λ (b : List ℕ). before ++ b) q ∙ append-nil before ∙ f ∙ ap (λ (h : Group). bytes_of h.version last h.field) (sym p)

-- a faithful format spells a group with its bytes
pub faithful_is : (last : Option Witness) (F : Format) (g : Group) (before bytes : List ℕ) → Faithful last F before → Spells F g bytes → before ++ bytes ≡ bytes_of g.version last g.field
unfolding Spells Faithful
faithful_is last (natural w k lo hi next) g before bytes f h = join before (be w h.value) h.more bytes (bytes_of g.version last g.field) h.bytes_are (faithful_is last (next h.value) g (before ++ be w h.value) h.more (f h.value h.low h.high) h.behind)
faithful_is last (signed w lo hi next) g before bytes f h = join before (be w (raw_of w h.value)) h.more bytes (bytes_of g.version last g.field) h.bytes_are (faithful_is last (next h.value) g (before ++ be w (raw_of w h.value)) h.more (f h.value h.low h.high) h.behind)
faithful_is last (guard test back k F) g before bytes f h = faithful_is last F g before bytes (f h.0) h.1
faithful_is last (says said) g before bytes f h = says_faithful last said g before bytes f h.0 h.1
