-- The certificate that the items so far begin.
use Rattle.std.proofs.Common.{◌≡◌, ℕ, suc, ◌+◌, ◌≤◌, ◌⊎◌, inl, inr, true, false, List, [], ◌∷◌, ◌++◌, map, length, All, Option, Some, None, ℤ, ◌<ℤ◌, refl, sym, ap, ◌∙◌, subst, arith, length-append}
use Rattle.std.specs.Option.{ForSome}
use Rattle.std.proofs.lemmas.List.{append_assoc, append-nil, map-append}
use Rattle.std.proofs.lemmas.List.Elements.{All-push}
use Rattle.gap_base.specs.declared.witness.Witness.{Witness}
use Rattle.gap_model.specs.declared.outcome.Best.{Best}
use Rattle.gap_model.specs.declared.outcome.Told.{Told}
use Rattle.gap_model.specs.declared.shown.Shown.{Shown}
use Rattle.gap_model.specs.declared.shown.Shown.TheVariants.{AtLeast}
use Rattle.gap_model.specs.Order.{ShownLe}
use Rattle.gap_cert.specs.declared.field.Version.{Version}
use Rattle.gap_cert.specs.declared.field.Field.{Field}
use Rattle.gap_cert.specs.declared.field.Field.TheVariants as field
use Rattle.gap_cert.specs.declared.field.Group.{Group}
use Rattle.gap_cert.specs.Certificates.{CertHead, CertClaim, closed, none, open_at, unfound, CertTree, CertSection, tree_fields, opening_fields, section_fields, sections_fields, head_fields, group_in}
use Rattle.gap_valid.specs.Heads.{instance_in, root_in}
use Rattle.gap_box.specs.declared.cell.Cell.{Cell}
use Rattle.gap_valid.specs.CertTrees.{IsFormed, PlacedLeaf, cert_leaves, placed_shows, least_shown, greater_shown, overall_shows, shown_bound, IsWitness, has_point, cert_splits}
use Rattle.gap_valid.specs.Valid.{IsWeight, IsRightLeaf, AreSaid, Shows, Has, IsClaimRight, IsValidSection}
use Rattle.gap_valid.specs.Verdicts.{outcome_in, told_in}
use Rattle.gap_judge.specs.Progress.{Progress, setting_now, is_open_outcome, outcome_now, claimed_now}
use Rattle.gap_judge.specs.Faults.{EndsWell, shown_now}
use Rattle.gap_check.proofs.Forests.{Builds, Built}

-- the items of a list
abbrev pub Are : Version → List Group → List Field → Type 0
Are v gs fields = gs ≡ map (group_in v) fields

-- ---- sections that are done

-- the items of the head and of the sections before, and then more
abbrev pub fields_to : CertHead → ℕ → List CertSection → List Field → List Field
fields_to h number done more = head_fields h ++ (field.Sections number ∷ (sections_fields done ++ more))

pub record Done (v : Version) (p : Progress) (gs : List Group) (number : ℕ) (done : List CertSection) (more : List Field) : Type 0 where
  pub groups_are : Are v gs (fields_to p.head number done more)
  pub valid : All (IsValidSection p.head) done
  pub told_is : p.told ≡ map told_in done
  pub some : 1 ≤ number
  pub few : number ≤ 101

-- so many sections are to come
pub record SectionsAt (v : Version) (p : Progress) (gs : List Group) (left : ℕ) (more : List Field) : Type 0 where
  pub number : ℕ
  pub sections : List CertSection
  pub done : Done v p gs number sections more
  pub count : length sections + left ≡ number

-- ---- the items of a section before its tree

abbrev pub start_field : Progress → Field
start_field p = field.SectionStart p.weight.p p.weight.q p.outcome

abbrev pub best_fields : Option Best → List Field
best_fields None = []
best_fields (Some best) = field.Portfolio best.lots ∷ field.Objective best.value ∷ []

-- what a section claims, by its outcome
pub record ClaimsClosed (p : Progress) (overall : Option Witness) (claim : CertClaim) : Type 0 where
  pub outcome_is : p.outcome ≡ 1
  pub best : Best
  pub best_is : p.best ≡ Some best
  pub portfolio : Has p.head p.weight best
  pub overall_is : ForSome overall (IsWitness (instance_in p.head))
  pub claim_is : claim ≡ closed best overall

pub record ClaimsNone (p : Progress) (overall : Option Witness) (claim : CertClaim) : Type 0 where
  pub outcome_is : p.outcome ≡ 2
  pub claim_is : claim ≡ none

pub record ClaimsOpen (p : Progress) (overall : Option Witness) (claim : CertClaim) : Type 0 where
  pub outcome_is : p.outcome ≡ 3
  pub best : Best
  pub best_is : p.best ≡ Some best
  pub portfolio : Has p.head p.weight best
  pub below : p.bound <ℤ best.value
  pub said : AreSaid (instance_in p.head) p.bound overall
  pub claim_is : claim ≡ open_at best p.bound overall

pub record ClaimsUnfound (p : Progress) (overall : Option Witness) (claim : CertClaim) : Type 0 where
  pub outcome_is : p.outcome ≡ 4
  pub best_is : p.best ≡ None
  pub said : AreSaid (instance_in p.head) p.bound overall
  pub claim_is : claim ≡ unfound p.bound overall

abbrev pub ClaimsBy : Progress → Option Witness → CertClaim → Type 0
ClaimsBy p overall claim = (ClaimsClosed p overall claim ⊎ ClaimsNone p overall claim) ⊎ (ClaimsOpen p overall claim ⊎ ClaimsUnfound p overall claim)

-- ---- a tree

pub record TreeAt (p : Progress) (front : List Field) (leaves : List PlacedLeaf) : Type 0 where
  pub builds : Builds (root_in p.head) front leaves p.parts p.splits
  pub least_is : p.least ≡ least_shown (map (placed_shows (setting_now p)) leaves)
  pub right : All (IsRightLeaf (setting_now p)) leaves
  pub no_points : p.outcome ≡ 2 → All (λ placed. has_point placed.leaf ≡ false) leaves
  pub within : p.splits ≤ p.head.nodes

pub record InTree (v : Version) (p : Progress) (gs : List Group) (left : ℕ) : Type 0 where
  pub overall : Option Witness
  pub claim : CertClaim
  pub claims : ClaimsBy p overall claim
  pub overall_is : p.overall ≡ overall_shows (setting_now p) (root_in p.head) overall
  pub front : List Field
  pub leaves : List PlacedLeaf
  pub tree : TreeAt p front leaves
  pub sections : SectionsAt v p gs left (opening_fields p.weight claim ++ front)

-- ---- where the tree is whole the section is valid

open_three : (o : ℕ) → o ≡ 3 → is_open_outcome o ≡ true
open_three o e = rw e refl

open_four : (o : ℕ) → o ≡ 4 → is_open_outcome o ≡ true
open_four o e = rw e refl

-- the section of a tree
abbrev pub section_of : Progress → CertClaim → CertTree → CertSection
section_of p claim tree = record { weight = p.weight; claim = claim; tree = tree }

shown_is : (p : Progress) (overall : Option Witness) (front : List Field) (leaves : List PlacedLeaf) (tree : CertTree) → TreeAt p front leaves → cert_leaves (root_in p.head) tree ≡ leaves →
    p.overall ≡ overall_shows (setting_now p) (root_in p.head) overall → shown_bound (setting_now p) (root_in p.head) overall tree ≡ shown_now p
unfolding shown_bound
shown_is p overall front leaves tree t e o =
    ap (λ (l : List PlacedLeaf). greater_shown (overall_shows (setting_now p) (root_in p.head) overall) (least_shown (map (placed_shows (setting_now p)) l))) e
    ∙ ap (λ (s : Shown). greater_shown s (least_shown (map (placed_shows (setting_now p)) leaves))) (sym o) ∙ ap (greater_shown p.overall) (sym t.least_is)

claimed_closed : (p : Progress) (best : Best) → p.outcome ≡ 1 → p.best ≡ Some best → claimed_now p ≡ Some best.value
claimed_closed p best o b = rw o (rw b refl)

claimed_three : (p : Progress) → p.outcome ≡ 3 → claimed_now p ≡ Some p.bound
claimed_three p o = rw o refl

claimed_four : (p : Progress) → p.outcome ≡ 4 → claimed_now p ≡ Some p.bound
claimed_four p o = rw o refl

-- what the section claims is shown
shows_by : (p : Progress) (overall : Option Witness) (front : List Field) (leaves : List PlacedLeaf) (tree : CertTree) (number : ℤ) → TreeAt p front leaves → cert_leaves (root_in p.head) tree ≡ leaves →
    p.overall ≡ overall_shows (setting_now p) (root_in p.head) overall → EndsWell p → claimed_now p ≡ Some number → Shows p.head p.weight overall tree number
shows_by p overall front leaves tree number t e o w c = subst (ShownLe (AtLeast number)) (sym (shown_is p overall front leaves tree t e o)) (w.shown number c)

spent_by : (p : Progress) (front : List Field) (leaves : List PlacedLeaf) (tree : CertTree) → TreeAt p front leaves → cert_splits tree ≡ p.splits → EndsWell p → is_open_outcome p.outcome ≡ true → cert_splits tree ≡ p.head.nodes
spent_by p front leaves tree t s w o = let a = w.spent o in omega (arith, a, t.within, s)

claim_right : (p : Progress) (overall : Option Witness) (claim : CertClaim) (front : List Field) (leaves : List PlacedLeaf) (tree : CertTree) → ClaimsBy p overall claim → TreeAt p front leaves → cert_leaves (root_in p.head) tree ≡ leaves → cert_splits tree ≡ p.splits →
    p.overall ≡ overall_shows (setting_now p) (root_in p.head) overall → EndsWell p → IsClaimRight p.head p.weight tree claim
claim_right p overall claim front leaves tree (inl (inl c)) t e s o w = subst (IsClaimRight p.head p.weight tree) (sym c.claim_is)
    (record { overall_is = c.overall_is; portfolio = c.portfolio; shown = shows_by p overall front leaves tree c.best.value t e o w (claimed_closed p c.best c.outcome_is c.best_is) })
claim_right p overall claim front leaves tree (inl (inr c)) t e s o w = subst (IsClaimRight p.head p.weight tree) (sym c.claim_is) (subst (All (λ placed. has_point placed.leaf ≡ false)) (sym e) (t.no_points c.outcome_is))
claim_right p overall claim front leaves tree (inr (inl c)) t e s o w = subst (IsClaimRight p.head p.weight tree) (sym c.claim_is)
    (record {
      said = c.said;
      portfolio = c.portfolio;
      below = c.below;
      shown = shows_by p overall front leaves tree p.bound t e o w (claimed_three p c.outcome_is);
      spent = spent_by p front leaves tree t s w (open_three p.outcome c.outcome_is);
    })
claim_right p overall claim front leaves tree (inr (inr c)) t e s o w = subst (IsClaimRight p.head p.weight tree) (sym c.claim_is)
    (record {
      said = c.said;
      shown = shows_by p overall front leaves tree p.bound t e o w (claimed_four p c.outcome_is);
      spent = spent_by p front leaves tree t s w (open_four p.outcome c.outcome_is);
    })

-- a whole tree
pub record Whole (p : Progress) (front : List Field) (leaves : List PlacedLeaf) : Type 0 where
  pub tree : CertTree
  pub fields_are : tree_fields tree ≡ front
  pub leaves_are : cert_leaves (root_in p.head) tree ≡ leaves
  pub splits_are : cert_splits tree ≡ p.splits
  pub formed : IsFormed (root_in p.head) tree

whole_tree : (p : Progress) (front : List Field) (leaves : List PlacedLeaf) → TreeAt p front leaves → p.parts ≡ [] → Whole p front leaves
whole_tree p front leaves t e = by (subst (λ (parts : List (List Cell)). Builds (root_in p.head) front leaves parts p.splits) e t.builds [] tt)
  where
    by : Built (root_in p.head) front leaves [] p.splits [] → Whole p front leaves
    by b = record { tree = b.tree; fields_are = b.fields_are ∙ append-nil front; leaves_are = b.leaves_are ∙ append-nil leaves; splits_are = omega (arith, b.splits_are); formed = b.formed }

section_valid : (p : Progress) (overall : Option Witness) (claim : CertClaim) (front : List Field) (leaves : List PlacedLeaf) (w : Whole p front leaves) → IsWeight p.weight → ClaimsBy p overall claim → TreeAt p front leaves →
    p.overall ≡ overall_shows (setting_now p) (root_in p.head) overall → EndsWell p → IsValidSection p.head (section_of p claim w.tree)
section_valid p overall claim front leaves w weight c t o ends = record {
  weight_is = weight;
  formed = w.formed;
  leaves_are = subst (All (IsRightLeaf (setting_now p))) (sym w.leaves_are) t.right;
  within = omega (arith, t.within, w.splits_are);
  claim_is = claim_right p overall claim front leaves w.tree c t w.leaves_are w.splits_are o ends;
}

-- the outcome that is told is the claim's
told_claim : (p : Progress) (overall : Option Witness) (claim : CertClaim) → ClaimsBy p overall claim → outcome_now p ≡ outcome_in claim
told_claim p overall claim (inl (inl c)) = rw c.claim_is (rw c.outcome_is (rw c.best_is refl))
told_claim p overall claim (inl (inr c)) = rw c.claim_is (rw c.outcome_is refl)
told_claim p overall claim (inr (inl c)) = rw c.claim_is (rw c.outcome_is (rw c.best_is refl))
told_claim p overall claim (inr (inr c)) = rw c.claim_is (rw c.outcome_is (rw c.best_is refl))

sections_push : (done : List CertSection) (s : CertSection) → sections_fields (done ++ s ∷ []) ≡ sections_fields done ++ section_fields s
unfolding sections_fields
sections_push [] s = append-nil (section_fields s)
sections_push (t ∷ done) s = ap (λ (l : List Field). section_fields t ++ l) (sections_push done s) ∙ sym (append_assoc (section_fields t) (sections_fields done) (section_fields s))

-- behind the last leaf the section is done
pub section_done : (v : Version) (p q : Progress) (gs : List Group) (left : ℕ) → IsWeight p.weight → p.parts ≡ [] → EndsWell p → q.head ≡ p.head → q.told ≡ p.told ++ (record { weight = p.weight; outcome = outcome_now p }) ∷ [] →
    InTree v p gs (suc left) → SectionsAt v q gs left []
unfolding section_fields
section_done v p q gs left weight e ends qh qt i = by (whole_tree p i.front i.leaves i.tree e)
  where
    by : Whole p i.front i.leaves → SectionsAt v q gs left []
    by w =
        let s = section_of p i.claim w.tree in
        let valid = section_valid p i.overall i.claim i.front i.leaves w weight i.claims i.tree i.overall_is ends in
        let d = i.sections.done in
        let fields : sections_fields i.sections.sections ++ (opening_fields p.weight i.claim ++ i.front) ≡ sections_fields (i.sections.sections ++ s ∷ []) ++ [] =
        ap (λ (f : List Field). sections_fields i.sections.sections ++ (opening_fields p.weight i.claim ++ f)) (sym w.fields_are) ∙ sym (sections_push i.sections.sections s) ∙ sym (append-nil (sections_fields (i.sections.sections ++ s ∷ []))) in
        let told : (record { weight = p.weight; outcome = outcome_now p }) ≡ told_in s = ap (λ o. record { weight = p.weight; outcome = o }) (told_claim p i.overall i.claim i.claims) in
        record {
          number = i.sections.number;
          sections = i.sections.sections ++ s ∷ [];
          done = record {
            groups_are = d.groups_are ∙ ap (λ (f : List Field). map (group_in v) (head_fields p.head ++ (field.Sections i.sections.number ∷ f))) fields ∙ ap (λ (h : CertHead). map (group_in v) (fields_to h i.sections.number (i.sections.sections ++ s ∷ []) [])) (sym qh);
            valid = subst (λ (h : CertHead). All (IsValidSection h) (i.sections.sections ++ s ∷ [])) (sym qh) (All-push (IsValidSection p.head) i.sections.sections s d.valid valid);
            told_is = qt ∙ ap (λ (l : List Told). l ++ (record { weight = p.weight; outcome = outcome_now p }) ∷ []) d.told_is ∙ ap (λ (t : Told). map told_in i.sections.sections ++ t ∷ []) told ∙ sym (map-append told_in i.sections.sections (s ∷ []));
            some = d.some;
            few = d.few;
          };
          count = omega (arith, length-append i.sections.sections (s ∷ []), i.sections.count);
        }
