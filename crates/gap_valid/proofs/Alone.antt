-- A certificate is known by its items, and so by the bytes that encode it.
use Rattle.std.proofs.Common.{◌≡◌, ℕ, ◌<◌, ◌≤◌, List, [], ◌∷◌, ◌++◌, map, length, Option, ℤ, refl, sym, ap, ◌∙◌, arith}
use Rattle.std.proofs.lemmas.List.{append_assoc}
use Rattle.gap_base.specs.declared.weight.Weight.{Weight}
use Rattle.gap_base.specs.declared.witness.Witness.{Witness}
use Rattle.gap_box.specs.declared.split.Split.{Split}
use Rattle.gap_model.specs.declared.outcome.Best.{Best}
use Rattle.gap_cert.specs.declared.field.Version.{Version}
use Rattle.gap_cert.specs.declared.field.Field.{Field}
use Rattle.gap_cert.specs.declared.field.Field.TheVariants as field
use Rattle.gap_cert.specs.Certificates.{CertLeaf, count, void, tangent, CertTree, tip, fork, AssetLine, CertHead, CertClaim, closed, none, open_at, unfound, CertSection, Certificate, leaf_field, tree_fields, claim_number, claim_fields, opening_fields, section_fields, sections_fields, asset_field, head_fields, fields_of, Encodes}
use Rattle.gap_cert.proofs.WholeLaws.{one_encoding}

-- ---- trees

one_leaf : (a b : CertLeaf) → leaf_field a ≡ leaf_field b → a ≡ b
one_leaf count count h = refl
one_leaf count (void alpha tau) h = cc
one_leaf count (tangent w) h = cc
one_leaf (void alpha tau) count h = cc
one_leaf (void alpha tau) (void beta rho) h = cc
one_leaf (void alpha tau) (tangent w) h = cc
one_leaf (tangent v) count h = cc
one_leaf (tangent v) (void alpha tau) h = cc
one_leaf (tangent v) (tangent w) h = cc

no_split : (a : CertLeaf) (split : Split) → leaf_field a ≡ field.Split split → ⊥
no_split count split h = cc
no_split (void alpha tau) split h = cc
no_split (tangent w) split h = cc

heads : (f g : Field) (x y : List Field) → f ∷ x ≡ g ∷ y → (f ≡ g) × (x ≡ y)
heads f g x y h = (cc, cc)

one_split : (s t : Split) → field.Split s ≡ field.Split t → s ≡ t
one_split s t h = cc

forked : (s t : Split) (a b c d : CertTree) → s ≡ t → a ≡ c → b ≡ d → fork s a b ≡ fork t c d
forked s t a b c d h k l = cc

-- items that begin with those of a tree begin with those of no other
one_tree : (t u : CertTree) (x y : List Field) → tree_fields t ++ x ≡ tree_fields u ++ y → (t ≡ u) × (x ≡ y)
unfolding tree_fields
one_tree (tip a) (tip b) x y h =
    let r = heads (leaf_field a) (leaf_field b) x y h in
    (ap tip (one_leaf a b r.0), r.1)
one_tree (tip a) (fork s first second) x y h =
    absurd (no_split a s (heads (leaf_field a) (field.Split s) x ((tree_fields first ++ tree_fields second) ++ y) h).0)
one_tree (fork s first second) (tip b) x y h =
    absurd (no_split b s (sym (heads (field.Split s) (leaf_field b) ((tree_fields first ++ tree_fields second) ++ x) y h).0))
one_tree (fork s first second) (fork t third fourth) x y h =
    let r = heads (field.Split s) (field.Split t) ((tree_fields first ++ tree_fields second) ++ x) ((tree_fields third ++ tree_fields fourth) ++ y) h in
    let e = sym (append_assoc (tree_fields first) (tree_fields second) x) ∙ r.1 ∙ append_assoc (tree_fields third) (tree_fields fourth) y in
    let one = one_tree first third (tree_fields second ++ x) (tree_fields fourth ++ y) e in
    let two = one_tree second fourth x y one.1 in
    (forked s t first second third fourth (one_split s t r.0) one.0 two.0, two.1)

-- ---- sections

-- what a section says before its tree
record IsAlike (v w : Weight) (a b : CertClaim) (x y : List Field) : Type 0 where
  weight_is : v ≡ w
  claim_is : a ≡ b
  rest_is : x ≡ y

weight_with : (p q : ℕ) → Weight
weight_with p q = record { p = p; q = q }

one_weight : (v w : Weight) (m n : ℕ) → field.SectionStart v.p v.q m ≡ field.SectionStart w.p w.q n → v ≡ w
unfolding weight_with
one_weight v w m n h =
    let p : v.p ≡ w.p = cc in
    let q : v.q ≡ w.q = cc in
    ap (λ (i : ℕ). weight_with i v.q) p ∙ ap (weight_with w.p) q

one_number : (v w : Weight) (m n : ℕ) → field.SectionStart v.p v.q m ≡ field.SectionStart w.p w.q n → m ≡ n
one_number v w m n h = cc

best_with : List ℕ → ℤ → Best
best_with lots value = record { lots = lots; value = value }

one_best : (a b : Best) (x y : List Field) → field.Portfolio a.lots ∷ field.Objective a.value ∷ x ≡ field.Portfolio b.lots ∷ field.Objective b.value ∷ y → (a ≡ b) × (x ≡ y)
unfolding best_with
one_best a b x y h =
    let r = heads _ _ _ _ h in
    let s = heads _ _ _ _ r.1 in
    let l : a.lots ≡ b.lots = let e = r.0 in cc in
    let v : a.value ≡ b.value = let e = s.0 in cc in
    (ap (λ (k : List ℕ). best_with k a.value) l ∙ ap (best_with b.lots) v, s.1)

one_overall : (a b : Option Witness) (x y : List Field) → field.Overall a ∷ x ≡ field.Overall b ∷ y → (a ≡ b) × (x ≡ y)
one_overall a b x y h = (cc, cc)

one_bound : (a b : ℤ) (x y : List Field) → field.Bound a ∷ x ≡ field.Bound b ∷ y → (a ≡ b) × (x ≡ y)
one_bound a b x y h = (cc, cc)

one_claim : (a b : CertClaim) (x y : List Field) → claim_number a ≡ claim_number b → claim_fields a ++ x ≡ claim_fields b ++ y → (a ≡ b) × (x ≡ y)
one_claim (closed a v) (closed b w) x y n h =
    let r = one_best a b (field.Overall v ∷ x) (field.Overall w ∷ y) h in
    let s = one_overall v w x y r.1 in
    let e = r.0 in let f = s.0 in
    (cc, s.1)
one_claim (closed a v) none x y n h = cc
one_claim (closed a v) (open_at b bound w) x y n h = cc
one_claim (closed a v) (unfound bound w) x y n h = cc
one_claim none (closed b w) x y n h = cc
one_claim none none x y n h = (refl, h)
one_claim none (open_at b bound w) x y n h = cc
one_claim none (unfound bound w) x y n h = cc
one_claim (open_at a bound v) (closed b w) x y n h = cc
one_claim (open_at a bound v) none x y n h = cc
one_claim (open_at a m v) (open_at b k w) x y n h =
    let r = one_best a b (field.Bound m ∷ field.Overall v ∷ x) (field.Bound k ∷ field.Overall w ∷ y) h in
    let s = one_bound m k (field.Overall v ∷ x) (field.Overall w ∷ y) r.1 in
    let t = one_overall v w x y s.1 in
    let e = r.0 in let f = s.0 in let g = t.0 in
    (cc, t.1)
one_claim (open_at a bound v) (unfound k w) x y n h = cc
one_claim (unfound bound v) (closed b w) x y n h = cc
one_claim (unfound bound v) none x y n h = cc
one_claim (unfound bound v) (open_at b k w) x y n h = cc
one_claim (unfound m v) (unfound k w) x y n h =
    let s = one_bound m k (field.Overall v ∷ x) (field.Overall w ∷ y) h in
    let t = one_overall v w x y s.1 in
    let f = s.0 in let g = t.0 in
    (cc, t.1)

section_with : Weight → CertClaim → CertTree → CertSection
section_with weight claim tree = record { weight = weight; claim = claim; tree = tree }

same_section : (s t : CertSection) → s.weight ≡ t.weight → s.claim ≡ t.claim → s.tree ≡ t.tree → s ≡ t
unfolding section_with
same_section s t a b c =
    ap (λ (w : Weight). section_with w s.claim s.tree) a ∙ ap (λ (k : CertClaim). section_with t.weight k s.tree) b ∙ ap (section_with t.weight t.claim) c

one_section : (s t : CertSection) (x y : List Field) → section_fields s ++ x ≡ section_fields t ++ y → (s ≡ t) × (x ≡ y)
unfolding section_fields
one_section s t x y h =
    let e = sym (append_assoc (opening_fields s.weight s.claim) (tree_fields s.tree) x) ∙ h ∙ append_assoc (opening_fields t.weight t.claim) (tree_fields t.tree) y in
    let r = heads _ _ _ _ e in
    let c = one_claim s.claim t.claim (tree_fields s.tree ++ x) (tree_fields t.tree ++ y) (one_number s.weight t.weight (claim_number s.claim) (claim_number t.claim) r.0) r.1 in
    let u = one_tree s.tree t.tree x y c.1 in
    (same_section s t (one_weight s.weight t.weight (claim_number s.claim) (claim_number t.claim) r.0) c.0 u.0, u.1)

abbrev ended : List Field → List Field
ended l = l ++ field.End ∷ []

no_end : (s : CertSection) (x y : List Field) → (section_fields s ++ x) ++ y ≡ field.End ∷ [] → ⊥
unfolding section_fields
no_end s x y h = cc

sections_joined : (s t : CertSection) (a b : List CertSection) → s ≡ t → a ≡ b → s ∷ a ≡ t ∷ b
sections_joined s t a b e f = cc

one_list : (a b : List CertSection) → ended (sections_fields a) ≡ ended (sections_fields b) → a ≡ b
unfolding sections_fields
one_list [] [] h = refl
one_list [] (t ∷ b) h = absurd (no_end t (sections_fields b) (field.End ∷ []) (sym h))
one_list (s ∷ a) [] h = absurd (no_end s (sections_fields a) (field.End ∷ []) h)
one_list (s ∷ a) (t ∷ b) h =
    let e = sym (append_assoc (section_fields s) (sections_fields a) (field.End ∷ [])) ∙ h ∙ append_assoc (section_fields t) (sections_fields b) (field.End ∷ []) in
    let r = one_section s t (ended (sections_fields a)) (ended (sections_fields b)) e in
    sections_joined s t a b r.0 (one_list a b r.1)

-- ---- heads

-- which part of a head an item belongs to; the number of sections comes behind them
rank : Field → ℕ
rank (field.Asset mean dev least greatest present) = 1
rank (field.Correlation rho) = 2
rank (field.FactorEntry r) = 3
rank (field.ShiftEntry d) = 4
rank _ = 5

first_rank : List Field → ℕ
first_rank [] = 5
first_rank (f ∷ fields) = rank f

behind_rank : {A : Type 0} (says : A → Field) (k m : ℕ) (list : List A) (x : List Field) → ((v : A) → rank (says v) ≡ k) → m ≤ k → m ≤ first_rank x → m ≤ first_rank (map says list ++ x)
unfolding first_rank
behind_rank says k m [] x r l h = h
behind_rank says k m (v ∷ list) x r l h = rw (r v) l

joined : {A : Type 0} (v w : A) (a b : List A) → v ≡ w → a ≡ b → v ∷ a ≡ w ∷ b
joined v w a b e f = cc

-- a list of a head is known by its items where other items come behind it
one_run_of : {A : Type 0} (says : A → Field) (k : ℕ) (a b : List A) (x y : List Field) → ((v : A) → rank (says v) ≡ k) → ((v w : A) → says v ≡ says w → v ≡ w) → k < first_rank x → k < first_rank y → map says a ++ x ≡ map says b ++ y → (a ≡ b) × (x ≡ y)
unfolding first_rank rank
one_run_of says k [] [] x y r one l m h = (refl, h)
one_run_of says k [] (w ∷ b) x y r one l m h =
    let e = ap first_rank h ∙ r w in
    absurd (omega (arith, e, l))
one_run_of says k (v ∷ a) [] x y r one l m h =
    let e = sym (ap first_rank h) ∙ r v in
    absurd (omega (arith, e, m))
one_run_of says k (v ∷ a) (w ∷ b) x y r one l m h =
    let t = heads (says v) (says w) (map says a ++ x) (map says b ++ y) h in
    let more = one_run_of says k a b x y r one l m t.1 in
    (joined v w a b (one v w t.0) more.0, more.1)

asset_with : ℤ → (dev least greatest present : ℕ) → AssetLine
asset_with mean dev least greatest present = record { mean = mean; dev = dev; least = least; greatest = greatest; present = present }

assets_with : (m n : ℤ) (a b c d e f g h : ℕ) → m ≡ n → a ≡ b → c ≡ d → e ≡ f → g ≡ h → asset_with m a c e g ≡ asset_with n b d f h
assets_with m n a b c d e f g h p q r s t = cc

one_asset : (a b : AssetLine) → asset_field a ≡ asset_field b → a ≡ b
unfolding asset_with
one_asset a b h =
    let p : a.mean ≡ b.mean = cc in
    let q : a.dev ≡ b.dev = cc in
    let r : a.least ≡ b.least = cc in
    let s : a.greatest ≡ b.greatest = cc in
    let t : a.present ≡ b.present = cc in
    assets_with a.mean b.mean a.dev b.dev a.least b.least a.greatest b.greatest a.present b.present p q r s t

one_rho : (a b : ℤ) → field.Correlation a ≡ field.Correlation b → a ≡ b
one_rho a b h = cc

one_entry : (a b : ℤ) → field.FactorEntry a ≡ field.FactorEntry b → a ≡ b
one_entry a b h = cc

one_diagonal : (a b : ℤ) → field.ShiftEntry a ≡ field.ShiftEntry b → a ≡ b
one_diagonal a b h = cc

-- the lists of a head
record AreListsAlike (h k : CertHead) (x y : List Field) : Type 0 where
  assets_are : h.assets ≡ k.assets
  correlations_are : h.correlations ≡ k.correlations
  factor_are : h.factor ≡ k.factor
  diagonal_are : h.diagonal ≡ k.diagonal
  rest_is : x ≡ y

abbrev rows : CertHead → List Field → List Field
rows h x = map field.FactorEntry h.factor ++ (map field.ShiftEntry h.diagonal ++ x)

abbrev pairs : CertHead → List Field → List Field
pairs h x = map field.Correlation h.correlations ++ rows h x

-- regrouped
lists_apart : (a b c d x : List Field) → (((a ++ b) ++ c) ++ d) ++ x ≡ a ++ (b ++ (c ++ (d ++ x)))
lists_apart a b c d x = append_assoc ((a ++ b) ++ c) d x ∙ append_assoc (a ++ b) c (d ++ x) ∙ append_assoc a b (c ++ (d ++ x))

rows_rank : (h : CertHead) (x : List Field) → 5 ≤ first_rank x → 3 ≤ first_rank (rows h x)
unfolding rank
rows_rank h x l = behind_rank field.FactorEntry 3 3 h.factor (map field.ShiftEntry h.diagonal ++ x) (λ r. refl) (omega arith) (behind_rank field.ShiftEntry 4 3 h.diagonal x (λ d. refl) (omega arith) (omega (arith, l)))

pairs_rank : (h : CertHead) (x : List Field) → 5 ≤ first_rank x → 2 ≤ first_rank (pairs h x)
unfolding rank
pairs_rank h x l = let r = rows_rank h x l in behind_rank field.Correlation 2 2 h.correlations (rows h x) (λ r. refl) (omega arith) (omega (arith, r))

diagonal_rank : (h : CertHead) (x : List Field) → 5 ≤ first_rank x → 4 ≤ first_rank (map field.ShiftEntry h.diagonal ++ x)
unfolding rank
diagonal_rank h x l = behind_rank field.ShiftEntry 4 4 h.diagonal x (λ d. refl) (omega arith) (omega (arith, l))

one_lists : (h k : CertHead) (x y : List Field) → 5 ≤ first_rank x → 5 ≤ first_rank y → map asset_field h.assets ++ pairs h x ≡ map asset_field k.assets ++ pairs k y → AreListsAlike h k x y
unfolding rank
one_lists h k x y l m e =
    let hp = pairs_rank h x l in
    let kp = pairs_rank k y m in
    let hr = rows_rank h x l in
    let kr = rows_rank k y m in
    let hd = diagonal_rank h x l in
    let kd = diagonal_rank k y m in
    let a = one_run_of asset_field 1 h.assets k.assets (pairs h x) (pairs k y) (λ v. refl) one_asset (omega (arith, hp)) (omega (arith, kp)) e in
    let c = one_run_of field.Correlation 2 h.correlations k.correlations (rows h x) (rows k y) (λ v. refl) one_rho (omega (arith, hr)) (omega (arith, kr)) a.1 in
    let f = one_run_of field.FactorEntry 3 h.factor k.factor (map field.ShiftEntry h.diagonal ++ x) (map field.ShiftEntry k.diagonal ++ y) (λ v. refl) one_entry (omega (arith, hd)) (omega (arith, kd)) c.1 in
    let d = one_run_of field.ShiftEntry 4 h.diagonal k.diagonal x y (λ v. refl) one_diagonal (omega (arith, l)) (omega (arith, m)) f.1 in
    record { assets_are = a.0; correlations_are = c.0; factor_are = f.0; diagonal_are = d.0; rest_is = d.1 }

abbrev numbers_of : CertHead → Field
numbers_of h = field.Head h.n h.lots h.held h.held_most h.turnover h.nodes

numbers_with : (n lots held held_most : ℕ) → Option ℕ → ℕ → CertHead → CertHead
numbers_with n lots held held_most turnover nodes h = record h { n = n; lots = lots; held = held; held_most = held_most; turnover = turnover; nodes = nodes }

same_numbers_with : (a b c d e f g i : ℕ) (t u : Option ℕ) (m n : ℕ) (h : CertHead) → a ≡ b → c ≡ d → e ≡ f → g ≡ i → t ≡ u → m ≡ n → numbers_with a c e g t m h ≡ numbers_with b d f i u n h
same_numbers_with a b c d e f g i t u m n h p q r s v w = cc

lists_with : List AssetLine → (correlations factor diagonal : List ℤ) → CertHead → CertHead
lists_with assets correlations factor diagonal h = record h { assets = assets; correlations = correlations; factor = factor; diagonal = diagonal }

same_lists_with : (a b : List AssetLine) (c d e f g i : List ℤ) (h : CertHead) → a ≡ b → c ≡ d → e ≡ f → g ≡ i → lists_with a c e g h ≡ lists_with b d f i h
same_lists_with a b c d e f g i h p q r s = cc

one_head : (h k : CertHead) (x y : List Field) → numbers_of h ≡ numbers_of k → AreListsAlike h k x y → h ≡ k
unfolding numbers_with lists_with
one_head h k x y e l =
    let a : h.n ≡ k.n = cc in
    let b : h.lots ≡ k.lots = cc in
    let c : h.held ≡ k.held = cc in
    let d : h.held_most ≡ k.held_most = cc in
    let f : h.turnover ≡ k.turnover = cc in
    let g : h.nodes ≡ k.nodes = cc in
    same_numbers_with h.n k.n h.lots k.lots h.held k.held h.held_most k.held_most h.turnover k.turnover h.nodes k.nodes h a b c d f g
    ∙ same_lists_with h.assets k.assets h.correlations k.correlations h.factor k.factor h.diagonal k.diagonal k l.assets_are l.correlations_are l.factor_are l.diagonal_are

-- ---- whole certificates

abbrev sections_of : Certificate → List Field
sections_of c = field.Sections (length c.sections) ∷ ended (sections_fields c.sections)

certificate_with : CertHead → List CertSection → Certificate
certificate_with head sections = record { head = head; sections = sections }

whole : (c d : Certificate) → c.head ≡ d.head → c.sections ≡ d.sections → c ≡ d
unfolding certificate_with
whole c d h s = ap (λ (k : CertHead). certificate_with k c.sections) h ∙ ap (certificate_with d.head) s

pub known_by_items : (c d : Certificate) → fields_of c ≡ fields_of d → c ≡ d
unfolding fields_of head_fields first_rank rank
known_by_items c d h =
    let r = heads _ _ _ _ h in
    let e = sym (lists_apart (map asset_field c.head.assets) (map field.Correlation c.head.correlations) (map field.FactorEntry c.head.factor) (map field.ShiftEntry c.head.diagonal) (sections_of c)) ∙ r.1
    ∙ lists_apart (map asset_field d.head.assets) (map field.Correlation d.head.correlations) (map field.FactorEntry d.head.factor) (map field.ShiftEntry d.head.diagonal) (sections_of d) in
    let l = one_lists c.head d.head (sections_of c) (sections_of d) (omega arith) (omega arith) e in
    let s = heads _ _ _ _ l.rest_is in
    whole c d (one_head c.head d.head (sections_of c) (sections_of d) r.0 l) (one_list c.sections d.sections s.1)

pub one_certificate : (v w : Version) (a b x y : List ℕ) (c d : Certificate) → Encodes v a c → Encodes w b d → a ++ x ≡ b ++ y → (v ≡ w) × (c ≡ d) × (x ≡ y)
one_certificate v w a b x y c d p q e =
    let r = one_encoding v w a b x y c d p q e in
    (r.0, known_by_items c d r.1, r.2)
