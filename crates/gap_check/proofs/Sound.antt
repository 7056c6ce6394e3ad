-- One item more of the certificate that the items so far begin, and the whole certificate behind the end mark.
use Rattle.std.proofs.Common.{◌≡◌, ◌≢◌, ℕ, suc, ◌-◌, ◌<◌, ◌≤◌, ◌⊎◌, inl, inr, ◌==◌, if◌then◌else◌, true, false, List, [], ◌∷◌, ◌++◌, map, drop, length, All, Option, Some, None, IsTrue, ◌<ℤ◌, unsigned_abs, refl, sym, ap, ◌∙◌, subst, arith}
use Rattle.std.specs.Option.{ForSome}
use Rattle.std.proofs.lemmas.List.{append_assoc, append-nil, map-append}
use Rattle.std.proofs.lemmas.List.Elements.{All-nil, All-push}
use Rattle.gap_base.specs.Sizes.{most_bound}
use Rattle.gap_base.specs.declared.weight.Weight.{Weight}
use Rattle.gap_base.specs.declared.witness.Witness.{Witness}
use Rattle.gap_box.specs.declared.cell.Cell.{Cell}
use Rattle.gap_model.specs.declared.shown.Shown.{Shown}
use Rattle.gap_model.specs.declared.shown.Shown.TheVariants.{Empty}
use Rattle.gap_cert.specs.declared.field.Version.{Version}
use Rattle.gap_cert.specs.declared.field.Field.{Field}
use Rattle.gap_cert.specs.declared.field.Field.TheVariants as field
use Rattle.gap_cert.specs.declared.field.Group.{Group}
use Rattle.gap_cert.specs.declared.context.Phase.{Phase}
use Rattle.gap_cert.specs.declared.context.Phase.TheVariants as phase
use Rattle.gap_cert.specs.declared.context.Context.{Context}
use Rattle.gap_cert.specs.Contexts.{start, Runs, after, behind_field, behind_leaf, enters}
use Rattle.gap_cert.specs.Certificates.{CertHead, CertLeaf, CertClaim, closed, none, open_at, unfound, CertSection, Certificate, asset_field, leaf_field, opening_fields, sections_fields, head_fields, fields_of, group_in, count, void, tangent}
use Rattle.gap_valid.specs.Heads.{instance_in, root_in}
use Rattle.gap_valid.specs.CertTrees.{PlacedLeaf, placed_shows, least_shown, lesser_shown, IsWitness, IsLeafIn, has_point}
use Rattle.gap_valid.specs.Valid.{IsRightLeaf, AreSaid, IsValid, IsValidSection}
use Rattle.gap_valid.specs.Verdicts.{told_in}
use Rattle.gap_judge.specs.Progress.{Progress, fresh_progress, progress_behind, with_asset, with_correlation, with_factor, with_diagonal, section_begun, is_open_outcome, setting_now, first_part, shown_next, with_shown, with_told, behind_shown}
use Rattle.gap_judge.specs.Faults.{IsItemRight, IsLeafRight}
use Rattle.gap_check.specs.Stages.{IsHeadAt, IsWholeAt, IsOpening, HasBest, IsNodeAt, IsStage, EndsAt, IsAt, IsWitnessAt}
use Rattle.gap_check.specs.Histories.{Judged}
use Rattle.gap_check.proofs.Yields.{for_none, for_some}
use Rattle.gap_check.proofs.StageLaws.{goes, last_at}
use Rattle.gap_check.proofs.Nexts.{Next, next_is, NextHead, NextAsset, NextCorrelation, NextFactor, NextDiagonal, NextSections, NextStart, NextPortfolio, NextObjective, NextBound, NextOverall, NextLeaf, NextSplit, NextEnd}
use Rattle.gap_check.proofs.HeadStages.{steps_at}
use Rattle.gap_check.proofs.SectionStages.{chosen, told_last, told_later, last_one, fewer_length, leaf_in, leaf_right, witness_in}
use Rattle.gap_check.proofs.Forests.{Builds, build_root, build_leaf, build_split, placed_at, least_more}
use Rattle.gap_check.proofs.SoFar.{Are, Done, SectionsAt, start_field, best_fields, ClaimsBy, TreeAt, InTree, fields_to, section_done}
use Rattle.gap_check.proofs.SoundHead.{asset_end, correlation_end, factor_end, diagonal_end, are_more}

abbrev bound_fields : Progress → List Field
bound_fields p = if is_open_outcome p.outcome then field.Bound p.bound ∷ [] else []

-- the certificate that the items so far begin, by the phase
unfoldable pub SoFar : Phase → Context → Progress → List Group → Type 0
SoFar phase.Head c p gs = gs ≡ []
SoFar phase.Assets c p gs = Are c.version gs (head_fields p.head) × (p.told ≡ [])
SoFar phase.Correlations c p gs = Are c.version gs (head_fields p.head) × (p.told ≡ [])
SoFar phase.Factor c p gs = Are c.version gs (head_fields p.head) × (p.told ≡ [])
SoFar phase.Diagonal c p gs = Are c.version gs (head_fields p.head) × (p.told ≡ [])
SoFar phase.Sections c p gs = Are c.version gs (head_fields p.head) × (p.told ≡ [])
SoFar phase.Section c p gs = SectionsAt c.version p gs (suc c.sections) []
SoFar phase.Portfolio c p gs = SectionsAt c.version p gs (suc c.sections) (start_field p ∷ [])
SoFar phase.Objective c p gs = SectionsAt c.version p gs (suc c.sections) (start_field p ∷ field.Portfolio p.lots ∷ [])
SoFar phase.Bound c p gs = SectionsAt c.version p gs (suc c.sections) (start_field p ∷ best_fields p.best)
SoFar phase.Overall c p gs = SectionsAt c.version p gs (suc c.sections) (start_field p ∷ (best_fields p.best ++ bound_fields p)) × (p.outcome ≡ 3 → ForSome p.best (λ best. p.bound <ℤ best.value)) × (IsTrue (is_open_outcome p.outcome) → unsigned_abs p.bound ≤ most_bound)
SoFar phase.Node c p gs = InTree c.version p gs (suc c.sections)
SoFar phase.End c p gs = SectionsAt c.version p gs 0 []
SoFar phase.Over c p gs = (number : ℕ) × (done : List CertSection) × Done c.version p gs number done (field.End ∷ []) × (length done ≡ number)

-- where a group leads
abbrev pub Leads : Context → Progress → List Group → Group → Type 0
Leads c p gs g = SoFar (after c g).phase (after c g) (progress_behind p g.field) (gs ++ g ∷ [])

by_phase : (q : Phase) (c : Context) (p : Progress) (gs : List Group) → c.phase ≡ q → SoFar q c p gs → SoFar c.phase c p gs
by_phase q c p gs e s = subst (λ (r : Phase). SoFar r c p gs) (sym e) s

-- the sections with more items of the present one
more_items : (v : Version) (p q : Progress) (gs : List Group) (left : ℕ) (items more : List Field) (f : Field) → q.head ≡ p.head → q.told ≡ p.told → more ≡ items ++ f ∷ [] → SectionsAt v p gs left items → SectionsAt v q (gs ++ group_in v f ∷ []) left more
more_items v p q gs left items more f h t e s = record {
  number = s.number;
  sections = s.sections;
  done = record {
    groups_are = are_more v gs (fields_to p.head s.number s.sections items) (fields_to q.head s.number s.sections more) f s.done.groups_are (fields s.sections);
    valid = subst (λ (k : CertHead). All (IsValidSection k) s.sections) (sym h) s.done.valid;
    told_is = t ∙ s.done.told_is;
    some = s.done.some;
    few = s.done.few;
  };
  count = s.count;
}
  where
    joined : (a b : List Field) (x : Field) (m : List Field) → a ++ (x ∷ (b ++ (m ++ f ∷ []))) ≡ (a ++ (x ∷ (b ++ m))) ++ f ∷ []
    joined a b x m = simp append_assoc

    fields : (done : List CertSection) → fields_to q.head s.number done more ≡ fields_to p.head s.number done items ++ f ∷ []
    fields done = ap (λ (k : CertHead). fields_to k s.number done more) h ∙ ap (λ (l : List Field). fields_to p.head s.number done l) e ∙ joined (head_fields p.head) (sections_fields done) (field.Sections s.number) items

-- ---- the head

head_leads : (c : Context) (p : Progress) (gs : List Group) (g : Group) → p ≡ fresh_progress → gs ≡ [] → NextHead g → Leads c p gs g
unfolding SoFar behind_field progress_behind fresh_progress head_fields
head_leads c p gs g e z n = subst (λ (q : Progress). Leads c q gs g) (sym e) (subst (λ (l : List Group). Leads c fresh_progress l g) (sym z) (subst (Leads c fresh_progress []) (sym n.group_is) (refl, refl)))

asset_leads : (c : Context) (p : Progress) (gs : List Group) (g : Group) → c.phase ≡ phase.Assets → IsHeadAt c p.head (c.n - c.left) 0 0 0 → Are c.version gs (head_fields p.head) × (p.told ≡ []) → NextAsset c g → Leads c p gs g
unfolding SoFar behind_field progress_behind
asset_leads c p gs g e i h n = subst (Leads c p gs) (sym n.group_is)
    (steps_at (λ d. SoFar d.phase d (progress_behind p (asset_field n.line)) (gs ++ group_in c.version (asset_field n.line) ∷ [])) c phase.Correlations _
    (λ one. (items, h.1)) (λ other. by_phase phase.Assets _ _ _ e (items, h.1)))
  where
    items : Are c.version (gs ++ group_in c.version (asset_field n.line) ∷ []) (head_fields (with_asset p.head n.line))
    items = are_more c.version gs (head_fields p.head) _ (asset_field n.line) h.0 (asset_end p.head n.line i.counts.correlations_count i.counts.factor_count i.counts.diagonal_count)

correlation_leads : (c : Context) (p : Progress) (gs : List Group) (g : Group) (k : ℕ) → c.phase ≡ phase.Correlations → IsHeadAt c p.head c.n k 0 0 → Are c.version gs (head_fields p.head) × (p.told ≡ []) → NextCorrelation c g → Leads c p gs g
unfolding SoFar behind_field progress_behind
correlation_leads c p gs g k e i h n = subst (Leads c p gs) (sym n.group_is)
    (steps_at (λ d. SoFar d.phase d (progress_behind p (field.Correlation n.rho)) (gs ++ group_in c.version (field.Correlation n.rho) ∷ [])) c phase.Factor _
    (λ one. (items, h.1)) (λ other. by_phase phase.Correlations _ _ _ e (items, h.1)))
  where
    items : Are c.version (gs ++ group_in c.version (field.Correlation n.rho) ∷ []) (head_fields (with_correlation p.head n.rho))
    items = are_more c.version gs (head_fields p.head) _ (field.Correlation n.rho) h.0 (correlation_end p.head n.rho i.counts.factor_count i.counts.diagonal_count)

factor_leads : (c : Context) (p : Progress) (gs : List Group) (g : Group) (k l : ℕ) → c.phase ≡ phase.Factor → IsHeadAt c p.head c.n k l 0 → Are c.version gs (head_fields p.head) × (p.told ≡ []) → NextFactor c g → Leads c p gs g
unfolding SoFar behind_field progress_behind
factor_leads c p gs g k l e i h n = subst (Leads c p gs) (sym n.group_is)
    (steps_at (λ d. SoFar d.phase d (progress_behind p (field.FactorEntry n.r)) (gs ++ group_in c.version (field.FactorEntry n.r) ∷ [])) c phase.Diagonal _
    (λ one. (items, h.1)) (λ other. by_phase phase.Factor _ _ _ e (items, h.1)))
  where
    items : Are c.version (gs ++ group_in c.version (field.FactorEntry n.r) ∷ []) (head_fields (with_factor p.head n.r))
    items = are_more c.version gs (head_fields p.head) _ (field.FactorEntry n.r) h.0 (factor_end p.head n.r i.counts.diagonal_count)

diagonal_leads : (c : Context) (p : Progress) (gs : List Group) (g : Group) → c.phase ≡ phase.Diagonal → Are c.version gs (head_fields p.head) × (p.told ≡ []) → NextDiagonal c g → Leads c p gs g
unfolding SoFar behind_field progress_behind
diagonal_leads c p gs g e h n = subst (Leads c p gs) (sym n.group_is)
    (steps_at (λ d. SoFar d.phase d (progress_behind p (field.ShiftEntry n.d)) (gs ++ group_in c.version (field.ShiftEntry n.d) ∷ [])) c phase.Sections _
    (λ one. (items, h.1)) (λ other. by_phase phase.Diagonal _ _ _ e (items, h.1)))
  where
    items : Are c.version (gs ++ group_in c.version (field.ShiftEntry n.d) ∷ []) (head_fields (with_diagonal p.head n.d))
    items = are_more c.version gs (head_fields p.head) _ (field.ShiftEntry n.d) h.0 (diagonal_end p.head n.d)

sections_lead : (c : Context) (p : Progress) (gs : List Group) (g : Group) → Are c.version gs (head_fields p.head) × (p.told ≡ []) → NextSections c g → Leads c p gs g
unfolding SoFar behind_field progress_behind sections_fields
sections_lead c p gs g h n = subst (Leads c p gs) (sym n.group_is)
    (record {
      number = n.number;
      sections = [];
      done = record { groups_are = are_more c.version gs (head_fields p.head) _ (field.Sections n.number) h.0 refl; valid = All-nil _; told_is = h.1; some = n.some; few = n.few };
      count = omega (arith, n.some);
    })

-- ---- a section before its tree

abbrev weight_at : ℕ → ℕ → Weight
weight_at a b = record { p = a; q = b }

start_items : (c : Context) (p : Progress) (gs : List Group) (a b o left : ℕ) → SectionsAt c.version p gs left [] →
    SectionsAt c.version (section_begun p (weight_at a b) o) (gs ++ group_in c.version (field.SectionStart a b o) ∷ []) left (field.SectionStart a b o ∷ [])
unfolding section_begun
start_items c p gs a b o left s = more_items c.version p (section_begun p (weight_at a b) o) gs left [] (field.SectionStart a b o ∷ []) (field.SectionStart a b o) refl refl refl s

none_items : (c : Context) (p : Progress) (gs : List Group) (a b : ℕ) (left : ℕ) → SectionsAt c.version p gs left [] →
    InTree c.version (section_begun p (weight_at a b) 2) (gs ++ group_in c.version (field.SectionStart a b 2) ∷ []) left
unfolding section_begun
none_items c p gs a b left s = record {
  overall = None;
  claim = none;
  claims = inl (inr (record { outcome_is = refl; claim_is = refl }));
  overall_is = refl;
  front = [];
  leaves = [];
  tree = record { builds = build_root (root_in p.head); least_is = refl; right = All-nil _; no_points = λ e. All-nil _; within = omega arith };
  sections = start_items c p gs a b 2 left s;
}

start_leads : (c : Context) (p : Progress) (gs : List Group) (g : Group) → SectionsAt c.version p gs (suc c.sections) [] → NextStart c g → Leads c p gs g
unfolding SoFar behind_field progress_behind section_begun
start_leads c p gs g s n = subst (Leads c p gs) (sym n.group_is) (chosen Leading n.outcome 2 (enters c phase.Node 1) (if n.outcome == 4 then enters c phase.Bound 1 else enters c phase.Portfolio 1)
    (λ two. subst (λ (o : ℕ). InTree c.version (section_begun p (weight_at n.p n.q) o) (gs ++ group_in c.version (field.SectionStart n.p n.q o) ∷ []) (suc c.sections)) (sym two) (none_items c p gs n.p n.q (suc c.sections) s))
    (λ other. chosen Leading n.outcome 4 (enters c phase.Bound 1) (enters c phase.Portfolio 1) (λ four. items) (λ nor. items)))
  where
    Leading : Context → Type 0
    Leading d = SoFar d.phase (record d { outcome = n.outcome; last = None }) (section_begun p (weight_at n.p n.q) n.outcome) (gs ++ group_in c.version (field.SectionStart n.p n.q n.outcome) ∷ [])

    items : SectionsAt c.version (section_begun p (weight_at n.p n.q) n.outcome) (gs ++ group_in c.version (field.SectionStart n.p n.q n.outcome) ∷ []) (suc c.sections) (field.SectionStart n.p n.q n.outcome ∷ [])
    items = start_items c p gs n.p n.q n.outcome (suc c.sections) s

portfolio_leads : (c : Context) (p : Progress) (gs : List Group) (g : Group) → SectionsAt c.version p gs (suc c.sections) (start_field p ∷ []) → NextPortfolio c g → Leads c p gs g
unfolding SoFar behind_field progress_behind
portfolio_leads c p gs g s n = subst (Leads c p gs) (sym n.group_is)
    (more_items c.version p (record p { lots = n.x }) gs (suc c.sections) (start_field p ∷ []) (start_field p ∷ field.Portfolio n.x ∷ []) (field.Portfolio n.x) refl refl refl s)

-- an objective of a section with a bound, and of one without
objective_leads : (c : Context) (p : Progress) (gs : List Group) (g : Group) → IsOpening c p → (p.outcome ≡ 1) ⊎ (p.outcome ≡ 3) → SectionsAt c.version p gs (suc c.sections) (start_field p ∷ field.Portfolio p.lots ∷ []) → NextObjective c g → Leads c p gs g
unfolding SoFar behind_field progress_behind
objective_leads c p gs g i o s n = subst (Leads c p gs) (sym n.group_is)
    (chosen (λ d. SoFar d.phase d q after_it) c.outcome 3 (enters c phase.Bound 1) (enters c phase.Overall 1) (λ three. items) (λ other. closed_items other))
  where
    q : Progress
    q = record p { best = Some (record { lots = p.lots; value = n.value }) }

    after_it : List Group
    after_it = gs ++ group_in c.version (field.Objective n.value) ∷ []

    items : SectionsAt c.version q after_it (suc c.sections) (start_field p ∷ field.Portfolio p.lots ∷ field.Objective n.value ∷ [])
    items = more_items c.version p q gs (suc c.sections) (start_field p ∷ field.Portfolio p.lots ∷ []) (start_field p ∷ field.Portfolio p.lots ∷ field.Objective n.value ∷ []) (field.Objective n.value) refl refl refl s

    is_one : c.outcome ≢ 3 → p.outcome ≡ 1
    is_one other = by o
      where
        by : (p.outcome ≡ 1) ⊎ (p.outcome ≡ 3) → p.outcome ≡ 1
        by (inl e) = e
        by (inr e) = absurd (other (i.outcome_is ∙ e))

    no_bound : p.outcome ≡ 1 → bound_fields q ≡ []
    no_bound e = rw e refl

    not_open : p.outcome ≡ 1 → IsTrue (is_open_outcome p.outcome) → ⊥
    not_open e = rw e (λ t. cc)

    closed_items : c.outcome ≢ 3 → SectionsAt c.version q after_it (suc c.sections) (start_field q ∷ (best_fields q.best ++ bound_fields q)) × (q.outcome ≡ 3 → ForSome q.best (λ best. q.bound <ℤ best.value)) × (IsTrue (is_open_outcome q.outcome) → unsigned_abs q.bound ≤ most_bound)
    closed_items other = (
      subst (λ (l : List Field). SectionsAt c.version q after_it (suc c.sections) (start_field p ∷ (field.Portfolio p.lots ∷ field.Objective n.value ∷ l))) (sym (no_bound (is_one other))) items,
      (λ three. absurd (let e = sym (is_one other) ∙ three in omega (arith, e))),
      λ t. absurd (not_open (is_one other) t),
    )

bound_leads : (c : Context) (p : Progress) (gs : List Group) (g : Group) → IsOpening c p → ((p.outcome ≡ 3) × HasBest p) ⊎ ((p.outcome ≡ 4) × (p.best ≡ None)) → IsItemRight p g.field → SectionsAt c.version p gs (suc c.sections) (start_field p ∷ best_fields p.best) → NextBound c g → Leads c p gs g
unfolding SoFar behind_field progress_behind IsItemRight
bound_leads c p gs g i o right s n = subst (Leads c p gs) (sym n.group_is) (leads (subst (λ (k : Group). IsItemRight p k.field) n.group_is right))
  where
    leads : IsItemRight p (field.Bound n.value) → Leads c p gs (group_in c.version (field.Bound n.value))
    leads right = (subst (λ (l : List Field). SectionsAt c.version (record p { bound = n.value }) (gs ++ group_in c.version (field.Bound n.value) ∷ []) (suc c.sections) (start_field p ∷ (best_fields p.best ++ l))) (sym (one_bound o)) items, right, λ t. n.small)
      where
        is_open : ((p.outcome ≡ 3) × HasBest p) ⊎ ((p.outcome ≡ 4) × (p.best ≡ None)) → is_open_outcome p.outcome ≡ true
        is_open (inl e) = rw e.0 refl
        is_open (inr e) = rw e.0 refl

        one_bound : ((p.outcome ≡ 3) × HasBest p) ⊎ ((p.outcome ≡ 4) × (p.best ≡ None)) → bound_fields (record p { bound = n.value }) ≡ field.Bound n.value ∷ []
        one_bound o = rw (is_open o) refl

        items : SectionsAt c.version (record p { bound = n.value }) (gs ++ group_in c.version (field.Bound n.value) ∷ []) (suc c.sections) (start_field p ∷ (best_fields p.best ++ field.Bound n.value ∷ []))
        items = more_items c.version p (record p { bound = n.value }) gs (suc c.sections) (start_field p ∷ best_fields p.best) (start_field p ∷ (best_fields p.best ++ field.Bound n.value ∷ [])) (field.Bound n.value) refl refl refl s

-- ---- the witness for the root: what the section claims is known

tree_root : (p : Progress) → p.parts ≡ root_in p.head ∷ [] → p.splits ≡ 0 → p.least ≡ Empty → TreeAt p [] []
tree_root p parts splits least = record {
  builds = subst (λ (l : List (List Cell)). Builds (root_in p.head) [] [] l p.splits) (sym parts) (subst (Builds (root_in p.head) [] [] (root_in p.head ∷ [])) (sym splits) (build_root (root_in p.head)));
  least_is = least;
  right = All-nil _;
  no_points = λ e. All-nil _;
  within = omega (arith, splits);
}

said_by : (p : Progress) (w : Option Witness) → unsigned_abs p.bound ≤ most_bound → ForSome w (IsWitness (instance_in p.head)) → AreSaid (instance_in p.head) p.bound w
said_by p w b r = record { bound_most = b; overall_is = r }

abbrev Outcomes : Progress → Type 0
Outcomes p = ((p.outcome ≡ 1) × HasBest p) ⊎ (((p.outcome ≡ 3) × HasBest p) ⊎ ((p.outcome ≡ 4) × (p.best ≡ None)))

-- what is claimed, with its items
record Claimed (p : Progress) (w : Option Witness) : Type 0 where
  claim : CertClaim
  claims : ClaimsBy p w claim
  items : (start_field p ∷ (best_fields p.best ++ bound_fields p)) ++ field.Overall w ∷ [] ≡ opening_fields p.weight claim

is_three : (o : ℕ) → o ≡ 3 → IsTrue (is_open_outcome o)
is_three o e = rw e refl

is_four : (o : ℕ) → o ≡ 4 → IsTrue (is_open_outcome o)
is_four o e = rw e refl

claimed_by : (p : Progress) (w : Option Witness) → Outcomes p → (p.outcome ≡ 3 → ForSome p.best (λ best. p.bound <ℤ best.value)) → (IsTrue (is_open_outcome p.outcome) → unsigned_abs p.bound ≤ most_bound) → ForSome w (IsWitness (instance_in p.head)) → Claimed p w
claimed_by p w (inl (e, h)) below small r = record {
  claim = closed h.best w;
  claims = inl (inl (record { outcome_is = e; best = h.best; best_is = h.best_is; portfolio = h.portfolio; overall_is = r; claim_is = refl }));
  items = rw h.best_is (rw e refl);
}
claimed_by p w (inr (inl (e, h))) below small r = record {
  claim = open_at h.best p.bound w;
  claims = inr (inl (record { outcome_is = e; best = h.best; best_is = h.best_is; portfolio = h.portfolio; below = below e h.best h.best_is; said = said_by p w (small (is_three p.outcome e)) r; claim_is = refl }));
  items = rw h.best_is (rw e refl);
}
claimed_by p w (inr (inr (e, h))) below small r = record {
  claim = unfound p.bound w;
  claims = inr (inr (record { outcome_is = e; best_is = h; said = said_by p w (small (is_four p.outcome e)) r; claim_is = refl }));
  items = rw h (rw e refl);
}

-- a claim says nothing of what the witness shows
claims_as : (p q : Progress) (w : Option Witness) (claim : CertClaim) → q.head ≡ p.head → q.weight ≡ p.weight → q.outcome ≡ p.outcome → q.best ≡ p.best → q.bound ≡ p.bound → ClaimsBy p w claim → ClaimsBy q w claim
claims_as p q w claim h v o b z (inl (inl c)) = inl (inl (record { outcome_is = o ∙ c.outcome_is; best = c.best; best_is = b ∙ c.best_is; portfolio = rw h (rw v c.portfolio); overall_is = rw h c.overall_is; claim_is = c.claim_is }))
claims_as p q w claim h v o b z (inl (inr c)) = inl (inr (record { outcome_is = o ∙ c.outcome_is; claim_is = c.claim_is }))
claims_as p q w claim h v o b z (inr (inl c)) = inr (inl (record { outcome_is = o ∙ c.outcome_is; best = c.best; best_is = b ∙ c.best_is; portfolio = rw h (rw v c.portfolio); below = rw z c.below; said = rw h (rw z c.said); claim_is = rw z c.claim_is }))
claims_as p q w claim h v o b z (inr (inr c)) = inr (inr (record { outcome_is = o ∙ c.outcome_is; best_is = b ∙ c.best_is; said = rw h (rw z c.said); claim_is = rw z c.claim_is }))

overall_leads : (c : Context) (p : Progress) (gs : List Group) (g : Group) → IsOpening c p → Outcomes p → SectionsAt c.version p gs (suc c.sections) (start_field p ∷ (best_fields p.best ++ bound_fields p)) →
    (p.outcome ≡ 3 → ForSome p.best (λ best. p.bound <ℤ best.value)) → (IsTrue (is_open_outcome p.outcome) → unsigned_abs p.bound ≤ most_bound) → NextOverall c g → Leads c p gs g
unfolding SoFar behind_field progress_behind
overall_leads c p gs g i o s below small n = subst (Leads c p gs) (sym n.group_is) (leads (claimed_by p n.overall o below small (in_range n.overall n.ranges)))
  where
    in_range : (w : Option Witness) → ForSome w (IsWitnessAt c.n c.lots c.turnover) → ForSome w (IsWitness (instance_in p.head))
    in_range None r = for_none _
    in_range (Some w) r = for_some (IsWitness (instance_in p.head)) w (witness_in c p.head w i.whole.same (r w refl))

    leads : Claimed p n.overall → Leads c p gs (group_in c.version (field.Overall n.overall))
    leads k = record {
      overall = n.overall;
      claim = k.claim;
      claims = claims_as p (progress_behind p (field.Overall n.overall)) n.overall k.claim refl refl refl refl refl k.claims;
      overall_is = refl;
      front = [];
      leaves = [];
      tree = tree_root (progress_behind p (field.Overall n.overall)) i.parts_are i.splits_are i.least_is;
      sections = more_items c.version p (progress_behind p (field.Overall n.overall)) gs (suc c.sections) (start_field p ∷ (best_fields p.best ++ bound_fields p)) (opening_fields p.weight k.claim ++ []) (field.Overall n.overall) refl refl (append-nil (opening_fields p.weight k.claim) ∙ sym k.items) s;
    }

-- ---- nodes

-- the tree with one leaf more
tree_leaf : (p q : Progress) (front : List Field) (leaves : List PlacedLeaf) (leaf : CertLeaf) → q.head ≡ p.head → q.weight ≡ p.weight → q.outcome ≡ p.outcome → q.splits ≡ p.splits → q.parts ≡ drop 1 p.parts → q.least ≡ lesser_shown p.least (shown_next p leaf) →
    0 < length p.parts → IsLeafIn (instance_in p.head) leaf → (p.outcome ≡ 2 → has_point leaf ≡ false) → IsLeafRight p leaf → TreeAt p front leaves → TreeAt q (front ++ leaf_field leaf ∷ []) (leaves ++ placed_at (first_part p.parts) leaf ∷ [])
tree_leaf p q front leaves leaf h w o s parts least some ranges allowed right t = record {
  builds = rw h (rw parts (rw s (build_leaf (root_in p.head) front leaves p.parts p.splits leaf some t.builds)));
  least_is = least ∙ ap (λ (a : Shown). lesser_shown a (shown_next p leaf)) t.least_is ∙ sym (least_more (map (placed_shows (setting_now p)) leaves) (shown_next p leaf))
      ∙ ap least_shown (sym (map-append (placed_shows (setting_now p)) leaves (placed_at (first_part p.parts) leaf ∷ []))) ∙ rw h (rw w refl);
  right = rw h (rw w (All-push (IsRightLeaf (setting_now p)) leaves (placed_at (first_part p.parts) leaf) t.right (record { ranges = ranges; empty = right.right })));
  no_points = λ e. All-push (λ placed. has_point placed.leaf ≡ false) leaves (placed_at (first_part p.parts) leaf) (t.no_points (sym o ∙ e)) (allowed (sym o ∙ e));
  within = rw h (rw s t.within);
}

-- the present tree and section, with one leaf more
in_leaf : (v : Version) (p q : Progress) (gs : List Group) (left : ℕ) (leaf : CertLeaf) → q ≡ with_shown p (shown_next p leaf) → 0 < length p.parts → IsLeafIn (instance_in p.head) leaf → (p.outcome ≡ 2 → has_point leaf ≡ false) → IsLeafRight p leaf →
    InTree v p gs left → InTree v q (gs ++ group_in v (leaf_field leaf) ∷ []) left
in_leaf v p q gs left leaf e some ranges allowed right i = subst (λ (r : Progress). InTree v r (gs ++ group_in v (leaf_field leaf) ∷ []) left) (sym e) (record {
  overall = i.overall;
  claim = i.claim;
  claims = claims_as p (with_shown p (shown_next p leaf)) i.overall i.claim refl refl refl refl refl i.claims;
  overall_is = i.overall_is;
  front = i.front ++ leaf_field leaf ∷ [];
  leaves = i.leaves ++ placed_at (first_part p.parts) leaf ∷ [];
  tree = tree_leaf p (with_shown p (shown_next p leaf)) i.front i.leaves leaf refl refl refl refl refl refl some ranges allowed right i.tree;
  sections = more_items v p (with_shown p (shown_next p leaf)) gs left (opening_fields p.weight i.claim ++ i.front) (opening_fields p.weight i.claim ++ (i.front ++ leaf_field leaf ∷ [])) (leaf_field leaf) refl refl (sym (append_assoc (opening_fields p.weight i.claim) i.front (leaf_field leaf ∷ []))) i.sections;
})

-- behind a leaf
leaf_so_far : (c : Context) (p : Progress) (gs : List Group) (leaf : CertLeaf) (last : Option Witness) → c.phase ≡ phase.Node → IsNodeAt c p → IsLeafIn (instance_in p.head) leaf → (p.outcome ≡ 2 → has_point leaf ≡ false) → IsLeafRight p leaf → InTree c.version p gs (suc c.sections) →
    SoFar (behind_leaf c).phase (record (behind_leaf c) { last = last }) (behind_shown p (shown_next p leaf)) (gs ++ group_in c.version (leaf_field leaf) ∷ [])
unfolding SoFar
leaf_so_far c p gs leaf last e i ranges allowed right t =
    chosen (λ (d : Context). SoFar d.phase (record d { last = last }) (behind_shown p (shown_next p leaf)) (gs ++ group_in c.version (leaf_field leaf) ∷ [])) c.left 1 (if c.sections == 0 then enters c phase.End 1 else record (enters c phase.Section 1) { sections = c.sections - 1 }) (record c { left = c.left - 1 }) whole more
  where
    shown : Shown
    shown = shown_next p leaf

    in_tree : InTree c.version (with_shown p (shown_next p leaf)) (gs ++ group_in c.version (leaf_field leaf) ∷ []) (suc c.sections)
    in_tree = in_leaf c.version p (with_shown p (shown_next p leaf)) gs (suc c.sections) leaf refl i.due.some ranges allowed right t

    done : drop 1 p.parts ≡ [] → SectionsAt c.version (with_told (with_shown p (shown_next p leaf))) (gs ++ group_in c.version (leaf_field leaf) ∷ []) c.sections []
    done z = section_done c.version (with_shown p (shown_next p leaf)) (with_told (with_shown p (shown_next p leaf))) (gs ++ group_in c.version (leaf_field leaf) ∷ []) c.sections i.due.begun.weight_is z (right.ends z) refl refl in_tree

    whole : c.left ≡ 1 → SoFar (if c.sections == 0 then enters c phase.End 1 else record (enters c phase.Section 1) { sections = c.sections - 1 }).phase (record (if c.sections == 0 then enters c phase.End 1 else record (enters c phase.Section 1) { sections = c.sections - 1 }) { last = last }) (behind_shown p (shown_next p leaf)) (gs ++ group_in c.version (leaf_field leaf) ∷ [])
    whole one =
        let z = last_one p.parts (i.parts_are ∙ one) in
        subst (λ (q : Progress). SoFar (if c.sections == 0 then enters c phase.End 1 else record (enters c phase.Section 1) { sections = c.sections - 1 }).phase (record (if c.sections == 0 then enters c phase.End 1 else record (enters c phase.Section 1) { sections = c.sections - 1 }) { last = last }) q (gs ++ group_in c.version (leaf_field leaf) ∷ [])) (sym (told_last p (shown_next p leaf) z))
        (chosen (λ (d : Context). SoFar d.phase (record d { last = last }) (with_told (with_shown p (shown_next p leaf))) (gs ++ group_in c.version (leaf_field leaf) ∷ [])) c.sections 0 (enters c phase.End 1) (record (enters c phase.Section 1) { sections = c.sections - 1 })
        (λ none. subst (λ (k : ℕ). SectionsAt c.version (with_told (with_shown p (shown_next p leaf))) (gs ++ group_in c.version (leaf_field leaf) ∷ []) k []) none (done z))
        (λ some. let k : c.sections ≡ suc (c.sections - 1) = omega (arith, some) in subst (λ (k : ℕ). SectionsAt c.version (with_told (with_shown p (shown_next p leaf))) (gs ++ group_in c.version (leaf_field leaf) ∷ []) k []) k (done z)))

    more : c.left ≢ 1 → SoFar c.phase (record c { left = c.left - 1; last = last }) (behind_shown p (shown_next p leaf)) (gs ++ group_in c.version (leaf_field leaf) ∷ [])
    more other =
        let fewer = fewer_length p.parts c.left i.parts_are in
        let there : 0 < length (drop 1 p.parts) = omega (arith, fewer, i.parts_are, i.due.some, other) in
        subst (λ (q : Progress). SoFar c.phase (record c { left = c.left - 1; last = last }) q (gs ++ group_in c.version (leaf_field leaf) ∷ [])) (sym (told_later p (shown_next p leaf) there))
        (subst (λ (r : Phase). SoFar r (record c { left = c.left - 1; last = last }) (with_shown p (shown_next p leaf)) (gs ++ group_in c.version (leaf_field leaf) ∷ [])) (sym e) in_tree)

-- where a leaf leads
leaf_leads : (c : Context) (p : Progress) (gs : List Group) (g : Group) → c.phase ≡ phase.Node → IsNodeAt c p → IsItemRight p g.field → InTree c.version p gs (suc c.sections) → NextLeaf c g → Leads c p gs g
unfolding behind_field progress_behind
leaf_leads c p gs g e i right t n = subst (Leads c p gs) (sym n.group_is) (by n.leaf (leaf_in c p.head n.leaf i.whole.same n.ranges) (λ two. n.allowed (i.outcome_is ∙ two)) (leaf_right p n.leaf (subst (λ (k : Group). IsItemRight p k.field) n.group_is right)))
  where
    by : (leaf : CertLeaf) → IsLeafIn (instance_in p.head) leaf → (p.outcome ≡ 2 → has_point leaf ≡ false) → IsLeafRight p leaf → Leads c p gs (group_in c.version (leaf_field leaf))
    by count r a l = leaf_so_far c p gs count (behind_leaf c).last e i r a l t
    by (void alpha tau) r a l = leaf_so_far c p gs (void alpha tau) (behind_leaf c).last e i r a l t
    by (tangent w) r a l = leaf_so_far c p gs (tangent w) (Some w) e i r a l t

split_leads : (c : Context) (p : Progress) (gs : List Group) (g : Group) → c.phase ≡ phase.Node → IsNodeAt c p → IsItemRight p g.field → InTree c.version p gs (suc c.sections) → NextSplit c g → Leads c p gs g
unfolding SoFar behind_field progress_behind IsItemRight
split_leads c p gs g e i right t n = subst (Leads c p gs) (sym n.group_is) (leads (subst (λ (k : Group). IsItemRight p k.field) n.group_is right))
  where
    leads : IsItemRight p (field.Split n.split) → Leads c p gs (group_in c.version (field.Split n.split))
    leads r = by_phase phase.Node _ _ _ e (record {
      overall = t.overall;
      claim = t.claim;
      claims = claims_as p (progress_behind p (field.Split n.split)) t.overall t.claim refl refl refl refl refl t.claims;
      overall_is = t.overall_is;
      front = t.front ++ field.Split n.split ∷ [];
      leaves = t.leaves;
      tree = record {
        builds = build_split (root_in p.head) t.front t.leaves p.parts p.splits n.split r.lawful t.tree.builds;
        least_is = t.tree.least_is;
        right = t.tree.right;
        no_points = t.tree.no_points;
        within = omega (arith, r.within);
      };
      sections = more_items c.version p (progress_behind p (field.Split n.split)) gs (suc c.sections) (opening_fields p.weight t.claim ++ t.front) (opening_fields p.weight t.claim ++ (t.front ++ field.Split n.split ∷ [])) (field.Split n.split) refl refl (sym (append_assoc (opening_fields p.weight t.claim) t.front (field.Split n.split ∷ []))) t.sections;
    })

end_leads : (c : Context) (p : Progress) (gs : List Group) (g : Group) → SectionsAt c.version p gs 0 [] → NextEnd c g → Leads c p gs g
unfolding SoFar behind_field progress_behind
end_leads c p gs g s n = subst (Leads c p gs) (sym n.group_is) (by (more_items c.version p (record p { ended = true }) gs 0 [] (field.End ∷ []) field.End refl refl refl s))
  where
    by : SectionsAt c.version (record p { ended = true }) (gs ++ group_in c.version field.End ∷ []) 0 (field.End ∷ []) →
        (number : ℕ) × (done : List CertSection) × Done c.version (record p { ended = true }) (gs ++ group_in c.version field.End ∷ []) number done (field.End ∷ []) × (length done ≡ number)
    by s = (s.number, s.sections, s.done, omega (arith, s.count))

-- ---- one item more, and all items

leads_by : (q : Phase) (c : Context) (p : Progress) (gs : List Group) (g : Group) → c.phase ≡ q → IsStage q c p → SoFar q c p gs → Next q c g → IsItemRight p g.field → Leads c p gs g
unfolding IsStage SoFar
leads_by phase.Head c p gs g e i s n r = head_leads c p gs g i s n
leads_by phase.Assets c p gs g e i s n r = asset_leads c p gs g e i.0 s n
leads_by phase.Correlations c p gs g e i s n r = correlation_leads c p gs g _ e i.0 s n
leads_by phase.Factor c p gs g e i s n r = factor_leads c p gs g _ _ e i.0 s n
leads_by phase.Diagonal c p gs g e i s n r = diagonal_leads c p gs g e s n
leads_by phase.Sections c p gs g e i s n r = sections_lead c p gs g s n
leads_by phase.Section c p gs g e i s n r = start_leads c p gs g s n
leads_by phase.Portfolio c p gs g e i s n r = portfolio_leads c p gs g s n
leads_by phase.Objective c p gs g e i s n r = objective_leads c p gs g i.0 i.1 s n
leads_by phase.Bound c p gs g e i s n r = bound_leads c p gs g i.0 i.1 r s n
leads_by phase.Overall c p gs g e i s n r = overall_leads c p gs g i.0 i.1 s.0 s.1 s.2 n
leads_by phase.Node c p gs g e i s n r = node_leads n
  where
    node_leads : NextLeaf c g ⊎ NextSplit c g → Leads c p gs g
    node_leads (inl n) = leaf_leads c p gs g e i r s n
    node_leads (inr n) = split_leads c p gs g e i r s n
leads_by phase.End c p gs g e i s n r = end_leads c p gs g s n
leads_by phase.Over c p gs g e i s n r = absurd n

-- items that are right lead on
pub record IsRun (end : Context) (q : Progress) (gs : List Group) : Type 0 where
  pub at : IsAt end q
  pub so_far : SoFar end.phase end q gs

pub run_on : (xs : List Group) (c end : Context) (p q : Progress) (gs : List Group) (bytes : List ℕ) → IsAt c p → SoFar c.phase c p gs → Runs c xs end bytes → Judged p xs q → IsRun end q (gs ++ xs)
unfolding Runs Judged
run_on [] c end p q gs bytes i s r j = subst (λ (d : Context). IsRun d q (gs ++ [])) r.0 (subst (λ (e : Progress). IsRun c e (gs ++ [])) j (record { at = i; so_far = subst (SoFar c.phase c p) (sym (append-nil gs)) s }))
run_on (g ∷ xs) c end p q gs bytes i s r j =
    let n = next_is c g r.0 (last_at c.phase c p i.stage) r.2 in
    let go = goes c p g r.0 i r.2 in
    subst (IsRun end q) (append_assoc gs (g ∷ []) xs) (run_on xs (after c g) end (progress_behind p g.field) q (gs ++ g ∷ []) r.1 (go.stage j.0) (leads_by c.phase c p gs g refl i.stage s n j.0) r.3 j.1)

pub fresh_so_far : SoFar start.phase start fresh_progress []
unfolding SoFar start
fresh_so_far = refl

-- ---- the certificate

-- behind the end mark there is a valid certificate with these items, which tells what the items say
pub record IsWhole (v : Version) (p : Progress) (gs : List Group) : Type 0 where
  pub certificate : Certificate
  pub groups_are : gs ≡ map (group_in v) (fields_of certificate)
  pub valid : IsValid certificate
  pub head_is : certificate.head ≡ p.head
  pub told_is : p.told ≡ map told_in certificate.sections

unended : (p : Progress) → p.ended ≡ false → p.ended ≡ true → ⊥
unended p e t = let a = sym e ∙ t in cc

whole_by : (v : Version) (c : Context) (p : Progress) (gs : List Group) (number : ℕ) (done : List CertSection) → IsWholeAt c p.head → 1 ≤ number → Done v p gs number done (field.End ∷ []) → length done ≡ number → IsWhole v p gs
unfolding fields_of
whole_by v c p gs number done w some d e = record {
  certificate = record { head = p.head; sections = done };
  groups_are = d.groups_are ∙ ap (λ (k : ℕ). map (group_in v) (fields_to p.head k done (field.End ∷ []))) (sym e);
  valid = record { head_is = w.head_is; dominant = w.dominant; some = omega (arith, some, e); few = omega (arith, d.few, e); sections_are = d.valid };
  head_is = refl;
  told_is = d.told_is;
}

pub whole_at : (q : Phase) (c : Context) (p : Progress) (gs : List Group) → IsStage q c p → EndsAt q p → SoFar q c p gs → p.ended ≡ true → (q ≡ phase.Over) × IsWhole c.version p gs
unfolding IsStage SoFar
whole_at phase.Over c p gs i e s t = (refl, whole_by c.version c p gs s.0 s.1 i s.2.some s.2 s.3)
whole_at phase.Head c p gs i e s t = absurd (unended p e t)
whole_at phase.Assets c p gs i e s t = absurd (unended p e t)
whole_at phase.Correlations c p gs i e s t = absurd (unended p e t)
whole_at phase.Factor c p gs i e s t = absurd (unended p e t)
whole_at phase.Diagonal c p gs i e s t = absurd (unended p e t)
whole_at phase.Sections c p gs i e s t = absurd (unended p e t)
whole_at phase.Section c p gs i e s t = absurd (unended p e t)
whole_at phase.Portfolio c p gs i e s t = absurd (unended p e t)
whole_at phase.Objective c p gs i e s t = absurd (unended p e t)
whole_at phase.Bound c p gs i e s t = absurd (unended p e t)
whole_at phase.Overall c p gs i e s t = absurd (unended p e t)
whole_at phase.Node c p gs i e s t = absurd (unended p e t)
whole_at phase.End c p gs i e s t = absurd (unended p e t)
