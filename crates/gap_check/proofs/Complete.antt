-- The items of a valid certificate are right, one behind another, and tell what it tells.
use Rattle.std.proofs.Common.{◌≡◌, ℕ, suc, ◌+◌, ◌≤◌, true, false, List, [], ◌∷◌, ◌++◌, map, drop, length, All, Some, IsTrue, ℤ, ◌<ℤ◌, refl, sym, ap, ◌∙◌, subst, arith, length-append}
use Rattle.std.proofs.lemmas.List.{append_assoc, append-nil, map-append}
use Rattle.std.proofs.lemmas.List.Elements.{All-nil, All-cons, All-head, All-tail}
use Rattle.gap_base.specs.declared.weight.Weight.{Weight}
use Rattle.gap_box.specs.declared.cell.Cell.{Cell}
use Rattle.gap_box.specs.declared.split.Split.{Split}
use Rattle.gap_box.specs.declared.split.Side.TheVariants.{First, Second}
use Rattle.gap_box.specs.Splits.{child_cells, lawful_split}
use Rattle.gap_model.specs.declared.outcome.Best.{Best}
use Rattle.gap_model.specs.declared.outcome.Told.{Told}
use Rattle.gap_model.specs.declared.shown.Shown.{Shown}
use Rattle.gap_model.specs.declared.shown.Shown.TheVariants.{AtLeast, Empty}
use Rattle.gap_model.specs.Order.{ShownLe}
use Rattle.gap_cert.specs.declared.field.Field.{Field}
use Rattle.gap_cert.specs.declared.field.Field.TheVariants as field
use Rattle.gap_cert.specs.Certificates.{AssetLine, CertHead, CertLeaf, CertTree, CertClaim, CertSection, Certificate, tip, fork, closed, none, open_at, unfound, count, void, tangent, asset_field, leaf_field, tree_fields, opening_fields, section_fields, sections_fields, head_fields, fields_of}
use Rattle.gap_valid.specs.Heads.{setting_in, root_in, IsHead}
use Rattle.gap_valid.specs.CertTrees.{IsFormed, cert_splits, cert_leaves, placed_shows, lesser_shown, least_shown, overall_shows, shown_bound}
use Rattle.gap_valid.specs.Valid.{IsRightLeaf, IsClaimRight, IsValidSection, IsValid}
use Rattle.gap_valid.specs.Verdicts.{told_in}
use Rattle.gap_valid.proofs.ShownLaws.{lesser_empty}
use Rattle.gap_judge.specs.Progress.{Progress, fresh_progress, progress_behind, section_begun, setting_now, shown_next, with_shown, with_told, told_when, behind_shown}
use Rattle.gap_judge.specs.Faults.{IsItemRight, IsLeafRight, EndsWell, IsDominantHead, shown_now}
use Rattle.gap_check.proofs.Yields.{for_none, for_some}
use Rattle.gap_check.proofs.Forests.{lesser_turned}

-- items are right one behind another, and lead from one progress to another
unfoldable pub Judges : Progress → List Field → Progress → Type 0
Judges p [] q = p ≡ q
Judges p (f ∷ fields) q = IsItemRight p f × Judges (progress_behind p f) fields q

judges_more : (p m q : Progress) (xs ys : List Field) → Judges p xs m → Judges m ys q → Judges p (xs ++ ys) q
unfolding Judges
judges_more p m q [] ys h k = subst (λ (r : Progress). Judges r ys q) (sym h) k
judges_more p m q (x ∷ xs) ys h k = (h.0, judges_more (progress_behind p x) m q xs ys h.1 k)

-- ---- the head

assets_judge : (xs : List AssetLine) (p : Progress) → Judges p (map asset_field xs) (record p { head = record p.head { assets = p.head.assets ++ xs } })
unfolding Judges progress_behind IsItemRight
assets_judge [] p = ap (λ (l : List AssetLine). record p { head = record p.head { assets = l } }) (sym (append-nil p.head.assets))
assets_judge (a ∷ xs) p = (tt, subst (λ (l : List AssetLine). Judges (progress_behind p (asset_field a)) (map asset_field xs) (record p { head = record p.head { assets = l } })) (append_assoc p.head.assets (a ∷ []) xs) (assets_judge xs (progress_behind p (asset_field a))))

correlations_judge : (xs : List ℤ) (p : Progress) → Judges p (map field.Correlation xs) (record p { head = record p.head { correlations = p.head.correlations ++ xs } })
unfolding Judges progress_behind IsItemRight
correlations_judge [] p = ap (λ (l : List ℤ). record p { head = record p.head { correlations = l } }) (sym (append-nil p.head.correlations))
correlations_judge (a ∷ xs) p = (tt, subst (λ (l : List ℤ). Judges (progress_behind p (field.Correlation a)) (map field.Correlation xs) (record p { head = record p.head { correlations = l } })) (append_assoc p.head.correlations (a ∷ []) xs) (correlations_judge xs (progress_behind p (field.Correlation a))))

factor_judges : (xs : List ℤ) (p : Progress) → Judges p (map field.FactorEntry xs) (record p { head = record p.head { factor = p.head.factor ++ xs } })
unfolding Judges progress_behind IsItemRight
factor_judges [] p = ap (λ (l : List ℤ). record p { head = record p.head { factor = l } }) (sym (append-nil p.head.factor))
factor_judges (a ∷ xs) p = (tt, subst (λ (l : List ℤ). Judges (progress_behind p (field.FactorEntry a)) (map field.FactorEntry xs) (record p { head = record p.head { factor = l } })) (append_assoc p.head.factor (a ∷ []) xs) (factor_judges xs (progress_behind p (field.FactorEntry a))))

none_more : (xs ys : List ℤ) (a : ℤ) (n : ℕ) → length (xs ++ a ∷ []) ≡ n → length (xs ++ a ∷ ys) ≡ n → ys ≡ []
none_more xs [] a n e f = refl
none_more xs (b ∷ ys) a n e f = absurd (omega (arith, e, f, length-append xs (a ∷ []), length-append xs (a ∷ b ∷ ys)))

diagonal_judges : (xs : List ℤ) (p : Progress) → length (p.head.diagonal ++ xs) ≡ p.head.n → IsDominantHead (record p.head { diagonal = p.head.diagonal ++ xs }) → Judges p (map field.ShiftEntry xs) (record p { head = record p.head { diagonal = p.head.diagonal ++ xs } })
unfolding Judges progress_behind IsItemRight
diagonal_judges [] p e d = ap (λ (l : List ℤ). record p { head = record p.head { diagonal = l } }) (sym (append-nil p.head.diagonal))
diagonal_judges (a ∷ xs) p e d = (
  λ full. subst (λ (l : List ℤ). IsDominantHead (record p.head { diagonal = l })) (ap (λ (l : List ℤ). p.head.diagonal ++ a ∷ l) (none_more p.head.diagonal xs a p.head.n full e)) d,
  subst (λ (l : List ℤ). Judges (progress_behind p (field.ShiftEntry a)) (map field.ShiftEntry xs) (record p { head = record p.head { diagonal = l } })) (append_assoc p.head.diagonal (a ∷ []) xs)
      (diagonal_judges xs (progress_behind p (field.ShiftEntry a)) (ap length (append_assoc p.head.diagonal (a ∷ []) xs) ∙ e) (subst (λ (l : List ℤ). IsDominantHead (record p.head { diagonal = l })) (sym (append_assoc p.head.diagonal (a ∷ []) xs)) d)),
)

abbrev begun : CertHead → Progress
begun h = progress_behind fresh_progress (field.Head h.n h.lots h.held h.held_most h.turnover h.nodes)

pub head_judges : (h : CertHead) → IsHead h → IsDominantHead h → Judges fresh_progress (head_fields h) (record fresh_progress { head = h })
unfolding Judges head_fields progress_behind fresh_progress IsItemRight
head_judges h is d = (
  tt,
  judges_more (begun h) (record fresh_progress { head = record h { diagonal = [] } }) (record fresh_progress { head = h }) (map asset_field h.assets ++ map field.Correlation h.correlations ++ map field.FactorEntry h.factor) (map field.ShiftEntry h.diagonal)
      (judges_more (begun h) (record fresh_progress { head = record h { factor = []; diagonal = [] } }) (record fresh_progress { head = record h { diagonal = [] } }) (map asset_field h.assets ++ map field.Correlation h.correlations) (map field.FactorEntry h.factor)
      (judges_more (begun h) (record fresh_progress { head = record h { correlations = []; factor = []; diagonal = [] } }) (record fresh_progress { head = record h { factor = []; diagonal = [] } }) (map asset_field h.assets) (map field.Correlation h.correlations)
      (assets_judge h.assets (begun h)) (correlations_judge h.correlations (record fresh_progress { head = record h { correlations = []; factor = []; diagonal = [] } })))
      (factor_judges h.factor (record fresh_progress { head = record h { factor = []; diagonal = [] } })))
      (diagonal_judges h.diagonal (record fresh_progress { head = record h { diagonal = [] } }) is.diagonal_count d),
)

-- ---- trees

leaf_judges : (p : Progress) (leaf : CertLeaf) → IsLeafRight p leaf → Judges p (leaf_field leaf ∷ []) (behind_shown p (shown_next p leaf))
unfolding Judges progress_behind IsItemRight
leaf_judges p count r = (r, refl)
leaf_judges p (void alpha tau) r = (r, refl)
leaf_judges p (tangent w) r = (r, refl)

least_both : (xs ys : List Shown) → least_shown (xs ++ ys) ≡ lesser_shown (least_shown xs) (least_shown ys)
least_both [] ys = refl
least_both (a ∷ xs) ys = ap (lesser_shown a) (least_both xs ys) ∙ lesser_turned a (least_shown xs) (least_shown ys)

-- where a tree at a part ends, before its section is told
abbrev end_of : Progress → List Cell → List (List Cell) → CertTree → Progress
end_of p part parts t = record p { parts = parts; splits = p.splits + cert_splits t; least = lesser_shown p.least (least_shown (map (placed_shows (setting_now p)) (cert_leaves part t))) }

tip_end : (p : Progress) (part : List Cell) (parts : List (List Cell)) (leaf : CertLeaf) → p.parts ≡ part ∷ parts → with_shown p (shown_next p leaf) ≡ end_of p part parts (tip leaf)
tip_end p part parts leaf e = rw e (ap (λ (s : Shown). record p { parts = parts; least = lesser_shown p.least s }) (sym (lesser_empty (placed_shows (setting_now p) (record { part = part; leaf = leaf }))))
    ∙ ap (λ (k : ℕ). record p { parts = parts; splits = k; least = lesser_shown p.least (lesser_shown (placed_shows (setting_now p) (record { part = part; leaf = leaf })) Empty) }) (more_zero p.splits))
  where
    more_zero : (n : ℕ) → n ≡ n + 0
    more_zero n = omega arith

tip_right : (p : Progress) (part : List Cell) (parts : List (List Cell)) (leaf : CertLeaf) → p.parts ≡ part ∷ parts → IsRightLeaf (setting_now p) (record { part = part; leaf = leaf }) → (parts ≡ [] → EndsWell (end_of p part parts (tip leaf))) → IsLeafRight p leaf
tip_right p part parts leaf e r ends = record {
  right = λ h. shown ∙ r.empty h;
  ends = λ z. subst EndsWell (sym (tip_end p part parts leaf e)) (ends (sym (ap (drop 1) e) ∙ z));
}
  where
    shown : shown_next p leaf ≡ placed_shows (setting_now p) (record { part = part; leaf = leaf })
    shown = rw e refl

first_all : {X : Type 0} (P : X → Type 0) (xs ys : List X) → All P (xs ++ ys) → All P xs
first_all P [] ys h = All-nil P
first_all P (x ∷ xs) ys h = All-cons P x xs (All-head P x (xs ++ ys) h) (first_all P xs ys (All-tail P x (xs ++ ys) h))

second_all : {X : Type 0} (P : X → Type 0) (xs ys : List X) → All P (xs ++ ys) → All P ys
second_all P [] ys h = h
second_all P (x ∷ xs) ys h = second_all P xs ys (All-tail P x (xs ++ ys) h)

-- what the recursion gives for a tree
abbrev JudgesTree : CertTree → Type 0
JudgesTree t = (p : Progress) (part : List Cell) (parts : List (List Cell)) → p.parts ≡ part ∷ parts → IsFormed part t → All (IsRightLeaf (setting_now p)) (cert_leaves part t) → p.splits + cert_splits t ≤ p.head.nodes →
    (parts ≡ [] → EndsWell (end_of p part parts t)) → Judges p (tree_fields t) (told_when parts (end_of p part parts t))

-- behind a split
abbrev split_at : Progress → List Cell → List (List Cell) → Split → Progress
split_at p part parts s = record p { splits = p.splits + 1; parts = child_cells part s First ∷ child_cells part s Second ∷ parts }

split_is : (p : Progress) (part : List Cell) (parts : List (List Cell)) (s : Split) → p.parts ≡ part ∷ parts → progress_behind p (field.Split s) ≡ split_at p part parts s
unfolding progress_behind
split_is p part parts s e = rw e refl

split_right : (p : Progress) (part : List Cell) (parts : List (List Cell)) (s : Split) (k : ℕ) → p.parts ≡ part ∷ parts → IsTrue (lawful_split part s) → p.splits + suc k ≤ p.head.nodes → IsItemRight p (field.Split s)
unfolding IsItemRight
split_right p part parts s k e l w = record { within = omega (arith, w); lawful = rw e l }

fork_end : (p : Progress) (part : List Cell) (parts : List (List Cell)) (s : Split) (a b : CertTree) →
    end_of (end_of (split_at p part parts s) (child_cells part s First) (child_cells part s Second ∷ parts) a) (child_cells part s Second) parts b ≡ end_of p part parts (fork s a b)
fork_end p part parts s a b =
    ap (λ (k : ℕ). record p { parts = parts; splits = k; least = lesser_shown (lesser_shown p.least (least_shown (map (placed_shows (setting_now p)) (cert_leaves (child_cells part s First) a)))) (least_shown (map (placed_shows (setting_now p)) (cert_leaves (child_cells part s Second) b))) }) (counts p.splits (cert_splits a) (cert_splits b))
    ∙ ap (λ (l : Shown). record p { parts = parts; splits = p.splits + (cert_splits a + cert_splits b + 1); least = l })
    (sym (lesser_turned p.least (least_shown (map (placed_shows (setting_now p)) (cert_leaves (child_cells part s First) a))) (least_shown (map (placed_shows (setting_now p)) (cert_leaves (child_cells part s Second) b))))
    ∙ ap (lesser_shown p.least) (sym (ap least_shown (map-append (placed_shows (setting_now p)) (cert_leaves (child_cells part s First) a) (cert_leaves (child_cells part s Second) b))
    ∙ least_both (map (placed_shows (setting_now p)) (cert_leaves (child_cells part s First) a)) (map (placed_shows (setting_now p)) (cert_leaves (child_cells part s Second) b)))))
  where
    counts : (n l m : ℕ) → n + 1 + l + m ≡ n + (l + m + 1)
    counts n l m = omega arith

fork_judges : (s : Split) (a b : CertTree) (p : Progress) (part : List Cell) (parts : List (List Cell)) → p.parts ≡ part ∷ parts → IsFormed part (fork s a b) → All (IsRightLeaf (setting_now p)) (cert_leaves part (fork s a b)) → p.splits + cert_splits (fork s a b) ≤ p.head.nodes →
    (parts ≡ [] → EndsWell (end_of p part parts (fork s a b))) → JudgesTree a → JudgesTree b → Judges p (tree_fields (fork s a b)) (told_when parts (end_of p part parts (fork s a b)))
unfolding Judges tree_fields
fork_judges s a b p part parts e f r w ends ja jb =
    let c1 = child_cells part s First in
    let c2 = child_cells part s Second in
    let p1 = split_at p part parts s in
    let p2 = end_of p1 c1 (c2 ∷ parts) a in
    let ra = first_all (IsRightLeaf (setting_now p)) (cert_leaves c1 a) (cert_leaves c2 b) r in
    let rb = second_all (IsRightLeaf (setting_now p)) (cert_leaves c1 a) (cert_leaves c2 b) r in
    let last = fork_end p part parts s a b in
    let first : Judges p1 (tree_fields a) p2 = ja p1 c1 (c2 ∷ parts) refl f.1 ra (omega (arith, w)) (λ z. cc) in
    let second : Judges p2 (tree_fields b) (told_when parts (end_of p2 c2 parts b)) = jb p2 c2 parts refl f.2 rb (omega (arith, w)) (λ z. subst EndsWell (sym last) (ends z)) in (
      split_right p part parts s (cert_splits a + cert_splits b) e f.0 (omega (arith, w)),
      subst (λ (q : Progress). Judges q (tree_fields a ++ tree_fields b) (told_when parts (end_of p part parts (fork s a b)))) (sym (split_is p part parts s e))
          (subst (Judges p1 (tree_fields a ++ tree_fields b)) (ap (told_when parts) last) (judges_more p1 p2 (told_when parts (end_of p2 c2 parts b)) (tree_fields a) (tree_fields b) first second)),
    )

pub tree_judges : (t : CertTree) (p : Progress) (part : List Cell) (parts : List (List Cell)) → p.parts ≡ part ∷ parts → IsFormed part t → All (IsRightLeaf (setting_now p)) (cert_leaves part t) → p.splits + cert_splits t ≤ p.head.nodes →
    (parts ≡ [] → EndsWell (end_of p part parts t)) → Judges p (tree_fields t) (told_when parts (end_of p part parts t))
unfolding tree_fields behind_shown
tree_judges (tip leaf) p part parts e f r w ends =
    subst (Judges p (leaf_field leaf ∷ [])) (ap (λ (l : List (List Cell)). told_when l (with_shown p (shown_next p leaf))) (ap (drop 1) e) ∙ ap (told_when parts) (tip_end p part parts leaf e))
    (leaf_judges p leaf (tip_right p part parts leaf e (All-head (IsRightLeaf (setting_now p)) (record { part = part; leaf = leaf }) [] r) ends))
tree_judges (fork s a b) p part parts e f r w ends = fork_judges s a b p part parts e f r w ends (tree_judges a) (tree_judges b)

-- ---- sections

-- a section that is read on behind its items before the tree
abbrev opened : Progress → Weight → CertClaim → Progress
opened p w (closed best overall) = record (section_begun p w 1) { lots = best.lots; best = Some best; overall = overall_shows (setting_in p.head w) (root_in p.head) overall }
opened p w none = section_begun p w 2
opened p w (open_at best bound overall) = record (section_begun p w 3) { lots = best.lots; best = Some best; bound = bound; overall = overall_shows (setting_in p.head w) (root_in p.head) overall }
opened p w (unfound bound overall) = record (section_begun p w 4) { bound = bound; overall = overall_shows (setting_in p.head w) (root_in p.head) overall }

four_isnt : (P : Type 0) → ◌≡◌ {A = ℕ} 4 3 → P
four_isnt P e = absurd (omega (arith, e))

opening_judges : (p : Progress) (w : Weight) (tree : CertTree) (claim : CertClaim) → IsClaimRight p.head w tree claim → Judges p (opening_fields w claim) (opened p w claim)
unfolding Judges progress_behind IsItemRight section_begun
opening_judges p w tree (closed best overall) c = (tt, (c.portfolio.meets, (c.portfolio.value_is, (tt, refl))))
opening_judges p w tree none c = (tt, refl)
opening_judges p w tree (open_at best bound overall) c = (tt, (c.portfolio.meets, (c.portfolio.value_is, (λ e. for_some (λ (b : Best). bound <ℤ b.value) best c.below, (tt, refl)))))
opening_judges p w tree (unfound bound overall) c = (tt, (λ e. four_isnt _ e, (tt, refl)))

-- behind the tree of a section
abbrev ended : Progress → CertSection → Progress
ended p s = end_of (opened p s.weight s.claim) (root_in p.head) [] s.tree

not_open : (P : Type 0) → false ≡ true → P
not_open P e = cc

section_ends : (p : Progress) (w : Weight) (tree : CertTree) (claim : CertClaim) → IsClaimRight p.head w tree claim → EndsWell (end_of (opened p w claim) (root_in p.head) [] tree)
unfolding section_begun shown_bound
section_ends p w tree (closed best overall) c = record { spent = λ t. not_open _ t; shown = for_some (λ (k : ℤ). ShownLe (AtLeast k) (shown_now (end_of (opened p w (closed best overall)) (root_in p.head) [] tree))) best.value c.shown }
section_ends p w tree none c = record { spent = λ t. not_open _ t; shown = for_none _ }
section_ends p w tree (open_at best bound overall) c = record { spent = λ t. omega (arith, c.spent); shown = for_some (λ (k : ℤ). ShownLe (AtLeast k) (shown_now (end_of (opened p w (open_at best bound overall)) (root_in p.head) [] tree))) bound c.shown }
section_ends p w tree (unfound bound overall) c = record { spent = λ t. omega (arith, c.spent); shown = for_some (λ (k : ℤ). ShownLe (AtLeast k) (shown_now (end_of (opened p w (unfound bound overall)) (root_in p.head) [] tree))) bound c.shown }

-- behind items: the head stays, and these are told besides
pub record Tells (p : Progress) (fields : List Field) (told : List Told) : Type 0 where
  pub end : Progress
  pub judges : Judges p fields end
  pub head_is : end.head ≡ p.head
  pub told_is : end.told ≡ p.told ++ told
  pub ended_is : end.ended ≡ p.ended

tells_by : (p : Progress) (w : Weight) (claim : CertClaim) (tree : CertTree) → Judges p (section_fields (record { weight = w; claim = claim; tree = tree })) (with_told (end_of (opened p w claim) (root_in p.head) [] tree)) → Tells p (section_fields (record { weight = w; claim = claim; tree = tree })) (told_in (record { weight = w; claim = claim; tree = tree }) ∷ [])
unfolding section_begun
tells_by p w (closed best overall) tree j = record { end = with_told (end_of (opened p w (closed best overall)) (root_in p.head) [] tree); judges = j; head_is = refl; told_is = refl; ended_is = refl }
tells_by p w none tree j = record { end = with_told (end_of (opened p w none) (root_in p.head) [] tree); judges = j; head_is = refl; told_is = refl; ended_is = refl }
tells_by p w (open_at best bound overall) tree j = record { end = with_told (end_of (opened p w (open_at best bound overall)) (root_in p.head) [] tree); judges = j; head_is = refl; told_is = refl; ended_is = refl }
tells_by p w (unfound bound overall) tree j = record { end = with_told (end_of (opened p w (unfound bound overall)) (root_in p.head) [] tree); judges = j; head_is = refl; told_is = refl; ended_is = refl }

-- what is known of a section behind its opening items, whatever it claims
record Opened (p q : Progress) (w : Weight) : Type 0 where
  head_is : q.head ≡ p.head
  weight_is : q.weight ≡ w
  parts_are : q.parts ≡ root_in p.head ∷ []
  splits_are : q.splits ≡ 0

opened_is : (p : Progress) (w : Weight) (claim : CertClaim) → Opened p (opened p w claim) w
unfolding section_begun
opened_is p w (closed best overall) = record { head_is = refl; weight_is = refl; parts_are = refl; splits_are = refl }
opened_is p w none = record { head_is = refl; weight_is = refl; parts_are = refl; splits_are = refl }
opened_is p w (open_at best bound overall) = record { head_is = refl; weight_is = refl; parts_are = refl; splits_are = refl }
opened_is p w (unfound bound overall) = record { head_is = refl; weight_is = refl; parts_are = refl; splits_are = refl }

section_tells : (p : Progress) (s : CertSection) → IsValidSection p.head s → Tells p (section_fields s) (told_in s ∷ [])
unfolding section_fields
section_tells p s v =
    let q = opened p s.weight s.claim in
    let o = opened_is p s.weight s.claim in
    let right : All (IsRightLeaf (setting_now q)) (cert_leaves (root_in p.head) s.tree) = rw o.head_is (rw o.weight_is v.leaves_are) in
    let within : q.splits + cert_splits s.tree ≤ q.head.nodes = rw o.head_is (omega (arith, v.within, o.splits_are)) in
    let tree = tree_judges s.tree q (root_in p.head) [] o.parts_are v.formed right within (λ z. section_ends p s.weight s.tree s.claim v.claim_is) in
    tells_by p s.weight s.claim s.tree (judges_more p q (with_told (ended p s)) (opening_fields s.weight s.claim) (tree_fields s.tree) (opening_judges p s.weight s.tree s.claim v.claim_is) tree)

sections_tell : (ss : List CertSection) (p : Progress) → All (IsValidSection p.head) ss → Tells p (sections_fields ss) (map told_in ss)
unfolding sections_fields Judges
sections_tell [] p v = record { end = p; judges = refl; head_is = refl; told_is = sym (append-nil p.told); ended_is = refl }
sections_tell (s ∷ ss) p v = joined (section_tells p s (All-head (IsValidSection p.head) s ss v)) (λ q e. sections_tell ss q (subst (λ (h : CertHead). All (IsValidSection h) ss) (sym e) (All-tail (IsValidSection p.head) s ss v)))
  where
    joined : Tells p (section_fields s) (told_in s ∷ []) → ((q : Progress) → q.head ≡ p.head → Tells q (sections_fields ss) (map told_in ss)) → Tells p (section_fields s ++ sections_fields ss) (told_in s ∷ map told_in ss)
    joined one more =
        let m = more one.end one.head_is in
        record {
          end = m.end;
          judges = judges_more p one.end m.end (section_fields s) (sections_fields ss) one.judges m.judges;
          head_is = m.head_is ∙ one.head_is;
          told_is = m.told_is ∙ ap (λ (l : List Told). l ++ map told_in ss) one.told_is ∙ append_assoc p.told (told_in s ∷ []) (map told_in ss);
          ended_is = m.ended_is ∙ one.ended_is;
        }

-- ---- the whole certificate

pub record WholeTells (c : Certificate) : Type 0 where
  pub end : Progress
  pub judges : Judges fresh_progress (fields_of c) end
  pub head_is : end.head ≡ c.head
  pub told_is : end.told ≡ map told_in c.sections
  pub ended_is : end.ended ≡ true

end_judges : (p q : Progress) (number : ℕ) (fields : List Field) → Judges p fields q → Judges p (field.Sections number ∷ (fields ++ field.End ∷ [])) (record q { ended = true })
unfolding Judges progress_behind IsItemRight
end_judges p q number fields j = (tt, judges_more p q (record q { ended = true }) fields (field.End ∷ []) j (tt, refl))

whole_by : (c : Certificate) → IsValid c → Tells (record fresh_progress { head = c.head }) (sections_fields c.sections) (map told_in c.sections) → WholeTells c
unfolding fields_of fresh_progress
whole_by c v t = record {
  end = record t.end { ended = true };
  judges = judges_more fresh_progress (record fresh_progress { head = c.head }) (record t.end { ended = true }) (head_fields c.head) (field.Sections (length c.sections) ∷ (sections_fields c.sections ++ field.End ∷ [])) (head_judges c.head v.head_is v.dominant)
      (end_judges (record fresh_progress { head = c.head }) t.end (length c.sections) (sections_fields c.sections) t.judges);
  head_is = t.head_is;
  told_is = t.told_is;
  ended_is = refl;
}

pub whole_tells : (c : Certificate) → IsValid c → WholeTells c
whole_tells c v = whole_by c v (sections_tell c.sections (record fresh_progress { head = c.head }) v.sections_are)
