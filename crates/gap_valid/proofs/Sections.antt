-- Sections and their trees are spelled, item behind item.
use Rattle.std.proofs.Common.{◌≡◌, ℕ, suc, ◌+◌, ◌-◌, ◌^◌, ◌≤◌, ◌≤ℤ◌, ◌==◌, if◌then◌else◌, not, max, Bool, true, false, List, [], ◌∷◌, ◌++◌, length, All, Option, Some, None, ℤ, pos, negsuc, unsigned_abs, refl, sym, ap, ◌∙◌, subst, arith}
use Rattle.std.specs.Option.{ForSome}
use Rattle.std.proofs.lemmas.Bool.Decides.{nat_tests}
use Rattle.std.proofs.lemmas.Int.{ints}
use Rattle.std.proofs.lemmas.List.Elements.{All-head, All-tail}
use Rattle.gap_base.specs.declared.weight.Weight.{Weight}
use Rattle.gap_base.specs.declared.witness.Witness.{Witness}
use Rattle.gap_base.specs.Sizes.{most_bound}
use Rattle.gap_box.specs.declared.split.Split.{Split}
use Rattle.gap_box.specs.declared.split.Split.TheVariants.{Held, Lots}
use Rattle.gap_box.specs.Parts.{held_count}
use Rattle.gap_model.specs.declared.cert_fault.CertKind.TheVariants.{Range}
use Rattle.gap_model.specs.Leaves.{AreMultipliers}
use Rattle.gap_cert.specs.declared.field.Version.{Version}
use Rattle.gap_cert.specs.declared.field.Version.TheVariants.{One, Two}
use Rattle.gap_cert.specs.declared.field.Field.{Field}
use Rattle.gap_cert.specs.declared.field.Field.TheVariants as field
use Rattle.gap_cert.specs.declared.field.Group.{Group}
use Rattle.gap_cert.specs.declared.context.Phase.TheVariants as phase
use Rattle.gap_cert.specs.declared.context.Context.{Context}
use Rattle.gap_cert.specs.Bytes.{IsSigned}
use Rattle.gap_cert.specs.Formats.{says}
use Rattle.gap_cert.specs.Fields.{repeated}
use Rattle.gap_cert.specs.Contexts.{most_signed, any_signed, start_format, lots_format, portfolio_format, witness_end, overall_when, overall_format, node_most, node_behind, node_format, void_format, tangent_format, held_format, lots_split_format, witness_of, format_of, after, behind_field, behind_leaf}
use Rattle.gap_cert.specs.Certificates.{CertLeaf, count, void, tangent, CertTree, tip, fork, CertHead, CertClaim, closed, none, open_at, unfound, CertSection, leaf_field, tree_fields, claim_number, opening_fields, section_fields, sections_fields, group_in}
use Rattle.gap_cert.proofs.Numbers.{full_16}
use Rattle.gap_valid.specs.Heads.{market_in, instance_in, IsHead}
use Rattle.gap_valid.specs.CertTrees.{IsWitness, IsLeafIn}
use Rattle.gap_valid.specs.Valid.{IsWeight}
use Rattle.gap_valid.specs.Writable.{AreWritten, IsWritableClaim, MayHavePoints, MayStand, IsSplitOf, IsWritableTree, IsWritableSection}
use Rattle.gap_valid.proofs.Items.{IsSpelled, natural_spelled, signed_spelled, guard_spelled, says_spelled, sized_spelled, signed_small, fits_1, fits_2, room_16, half_16, bounded_by_index, lots_spelled, multipliers_spelled, Suits, witness_spelled, again_spelled}
use Rattle.gap_valid.proofs.Reaches.{Reaches, stays, step_to, both_reach, at, if_no}

-- which heads a version can spell
abbrev pub Allows : Version → CertHead → Type 0
Allows One h = h.held ≡ h.held_most
Allows Two h = Unit {0}

-- ---- what is in range for the instance of a head
suits : (h : CertHead) (w : Witness) → IsWitness (instance_in h) w → Suits h.n h.lots h.turnover w
unfolding instance_in market_in
suits h w i = record { count = i.point.count; most = i.point.most; multipliers = i.multipliers }

multipliers_in : (h : CertHead) (alpha tau : ℤ) → AreMultipliers (instance_in h).turnover alpha tau → AreMultipliers h.turnover alpha tau
unfolding instance_in market_in
multipliers_in h alpha tau m = m

-- ---- the items of a section before its tree
start_spelled : (v : Version) (w : Weight) (outcome : ℕ) → IsWeight w → 1 ≤ outcome → outcome ≤ 4 → IsSpelled (start_format v) (group_in v (field.SectionStart w.p w.q outcome))
unfolding start_format
start_spelled v w outcome is l h =
    let a = is.least in
    let b = is.most in
    let c = is.within in
    let g = group_in v (field.SectionStart w.p w.q outcome) in
    natural_spelled 1 Range 0 100 _ g w.p (omega arith) (omega arith) (fits_1 w.p (omega arith))
    (natural_spelled 1 Range (max 1 w.p) 100 _ g w.q (omega arith) b (fits_1 w.q (omega arith))
    (natural_spelled 1 Range 1 4 _ g outcome l h (fits_1 outcome (omega arith)) (says_spelled g g refl)))

portfolio_spelled : (v : Version) (h : CertHead) (x : List ℕ) → IsHead h → Allows v h → AreWritten h x → IsSpelled (portfolio_format v h.n h.held h.held_most) (group_in v (field.Portfolio x))
unfolding portfolio_format
portfolio_spelled One h x is a w = lots_spelled One h.n h.held x (let f = w.fewest in let m = w.many in omega (arith, a)) w.assets_are is.many (bounded_by_index 10000 x w.most)
portfolio_spelled Two h x is a w =
    let m = is.many in
    let n = is.held_most in
    let c = w.many in
    natural_spelled 2 Range h.held h.held_most (λ k. lots_format Two h.n k) (group_in Two (field.Portfolio x)) (held_count x) w.fewest c (fits_2 (held_count x) (omega arith))
    (lots_spelled Two h.n (held_count x) x refl w.assets_are m (bounded_by_index 10000 x w.most))

signed_low : (z : ℤ) → IsSigned 16 z → negsuc most_signed ≤ℤ z
unfolding IsSigned
signed_low (pos n) h = omega (arith, ints)
signed_low (negsuc n) h = let a = half_16 in let b = full_16 in let c : n ≤ 2 ^ 127 - 1 = omega arith in omega (arith, ints, c)

signed_high : (z : ℤ) → IsSigned 16 z → z ≤ℤ pos most_signed
unfolding IsSigned
signed_high (pos n) h = let a = half_16 in let c : n ≤ 2 ^ 127 - 1 = omega arith in omega (arith, ints, c)
signed_high (negsuc n) h = omega (arith, ints)

objective_spelled : (v : Version) (z : ℤ) → IsSigned 16 z → IsSpelled (any_signed (λ value. says (record { version = v; field = field.Objective value }))) (group_in v (field.Objective z))
objective_spelled v z s = signed_spelled 16 (negsuc most_signed) (pos most_signed) (λ value. says (record { version = v; field = field.Objective value })) (group_in v (field.Objective z)) z (signed_low z s) (signed_high z s) s (says_spelled (group_in v (field.Objective z)) (group_in v (field.Objective z)) refl)

bound_spelled : (v : Version) (c : Context) (z : ℤ) → c.version ≡ v → unsigned_abs z ≤ most_bound → IsSpelled (format_of c phase.Bound) (group_in v (field.Bound z))
bound_spelled v c z e s = sized_spelled 16 most_bound (λ value. says (record { version = c.version; field = field.Bound value })) (group_in v (field.Bound z)) z s (signed_small 16 most_bound z (omega arith) s (room_16 most_bound (omega arith)))
    (says_spelled (group_in v (field.Bound z)) (group_in c.version (field.Bound z)) (ap (λ (u : Version). group_in u (field.Bound z)) (sym e)))

overall_spelled : (c : Context) (overall : Option Witness) → c.n ≤ 256 → c.lots ≤ 10000 → ForSome overall (Suits c.n c.lots c.turnover) → IsSpelled (overall_format c) (group_in c.version (field.Overall overall))
unfolding overall_format witness_end
overall_spelled c None m l s = natural_spelled 1 Range 0 1 (overall_when c) (group_in c.version (field.Overall None)) 0 (omega arith) (omega arith) (fits_1 0 (omega arith)) (says_spelled (group_in c.version (field.Overall None)) (group_in c.version (field.Overall None)) refl)
overall_spelled c (Some w) m l s =
    let g = group_in c.version (field.Overall (Some w)) in
    natural_spelled 1 Range 0 1 (overall_when c) g 1 (omega arith) (omega arith) (fits_1 1 (omega arith))
    (witness_spelled c.n c.lots c.turnover (witness_end c false) g w m l (s w refl) (says_spelled g g refl))

overall_here : (v : Version) (h : CertHead) (rest outcome : ℕ) (overall : Option Witness) → IsHead h → ForSome overall (IsWitness (instance_in h)) → IsSpelled (overall_format (at v h phase.Overall 1 rest outcome None)) (group_in v (field.Overall overall))
overall_here v h rest outcome overall is o =
    let l : h.lots ≤ 10000 = is.lots_most in
    overall_spelled (at v h phase.Overall 1 rest outcome None) overall is.many l (λ w e. suits h w (o w e))

-- ---- nodes
five : (v : Version) → 5 ≤ node_most v
five One = omega arith
five Two = omega arith

node_spelled : (c : Context) (b : ℕ) (g : Group) → 1 ≤ b → b ≤ node_most c.version → b ≤ 255 → IsSpelled (node_behind c b) g → IsSpelled (node_format c) g
unfolding node_format
node_spelled c b g l h m r = natural_spelled 1 Range 1 (node_most c.version) (λ k. node_behind c k) g b l h (fits_1 b m) r

not_of : (b : Bool) → b ≡ false → not b ≡ true
not_of b e = rw e refl

tangent_spelled : (c : Context) (w : Witness) (again : Bool) → c.n ≤ 256 → c.lots ≤ 10000 → Suits c.n c.lots c.turnover w → (c.outcome == 2) ≡ false → repeated c.version c.last w ≡ again → IsSpelled (node_format c) (group_in c.version (field.TangentLeaf w))
unfolding node_behind tangent_format witness_end
tangent_spelled c w true m l s o e =
    let a = again_spelled c.version c.last w e in
    node_spelled c 6 (group_in c.version (field.TangentLeaf w)) (omega arith) a.0 (omega arith) (guard_spelled (not (c.outcome == 2)) 1 Range _ (group_in c.version (field.TangentLeaf w)) (not_of (c.outcome == 2) o) a.1)
tangent_spelled c w false m l s o e =
    let g = group_in c.version (field.TangentLeaf w) in
    node_spelled c 3 g (omega arith) (let f = five c.version in omega arith) (omega arith)
    (guard_spelled (not (c.outcome == 2)) 1 Range (witness_of c true) g (not_of (c.outcome == 2) o)
    (witness_spelled c.n c.lots c.turnover (witness_end c true) g w m l s
    (guard_spelled (not (repeated c.version c.last w)) _ Range _ g (not_of (repeated c.version c.last w) e) (says_spelled g g refl))))

-- the numbers of a leaf are in their ranges where it comes
abbrev IsLeafHere : Context → CertLeaf → Type 0
IsLeafHere c count = Unit {0}
IsLeafHere c (void alpha tau) = AreMultipliers c.turnover alpha tau
IsLeafHere c (tangent w) = Suits c.n c.lots c.turnover w × ((c.outcome == 2) ≡ false)

leaf_spelled : (c : Context) (leaf : CertLeaf) → c.n ≤ 256 → c.lots ≤ 10000 → IsLeafHere c leaf → IsSpelled (node_format c) (group_in c.version (leaf_field leaf))
unfolding node_behind void_format
leaf_spelled c count m l i = node_spelled c 1 (group_in c.version field.CountLeaf) (omega arith) (let f = five c.version in omega arith) (omega arith) (says_spelled (group_in c.version field.CountLeaf) (group_in c.version field.CountLeaf) refl)
leaf_spelled c (void alpha tau) m l i =
    let g = group_in c.version (field.VoidLeaf alpha tau) in
    node_spelled c 2 g (omega arith) (let f = five c.version in omega arith) (omega arith)
    (multipliers_spelled c.turnover (λ a t. says (record { version = c.version; field = field.VoidLeaf a t })) g alpha tau i (says_spelled g g refl))
leaf_spelled c (tangent w) m l i = tangent_spelled c w (repeated c.version c.last w) m l i.0 i.1 refl

named : (i : ℕ) → i ≡ suc i - 1
named i = omega arith

split_spelled : (c : Context) (split : Split) → c.n ≤ 256 → IsSplitOf c.n split → IsSpelled (node_format c) (group_in c.version (field.Split split))
unfolding node_behind held_format lots_split_format
split_spelled c (Held i) m s =
    let g = group_in c.version (field.Split (Held i)) in
    node_spelled c 4 g (omega arith) (let f = five c.version in omega arith) (omega arith)
    (natural_spelled 2 Range 1 c.n _ g (suc i) (omega arith) (omega arith) (fits_2 (suc i) (omega arith))
    (says_spelled g (group_in c.version (field.Split (Held (suc i - 1)))) (ap (λ (j : ℕ). group_in c.version (field.Split (Held j))) (named i))))
split_spelled c (Lots i t) m s =
    let g = group_in c.version (field.Split (Lots i t)) in
    let a = s.0 in
    let b = s.1 in
    node_spelled c 5 g (omega arith) (let f = five c.version in omega arith) (omega arith)
    (natural_spelled 2 Range 1 c.n _ g (suc i) (omega arith) (omega arith) (fits_2 (suc i) (omega arith))
    (natural_spelled 2 Range 0 65535 _ g t (omega arith) b (fits_2 t b)
    (says_spelled g (group_in c.version (field.Split (Lots (suc i - 1) t))) (ap (λ (j : ℕ). group_in c.version (field.Split (Lots j t))) (named i)))))

-- ---- behind a tree
abbrev gone : Version → CertHead → (left sections outcome : ℕ) → Option Witness → Context
gone v h left sections outcome last = behind_leaf (at v h phase.Node left sections outcome last)

moved_last : (v : Version) (h : CertHead) (left sections outcome : ℕ) (last l : Option Witness) → record (gone v h left sections outcome last) { last = l } ≡ gone v h left sections outcome l
moved_last v h left sections outcome last l = by_tests (left == 1) (sections == 0)
  where
    ended : Option Witness → Context
    ended k = at v h phase.End 1 sections outcome k

    next : Option Witness → Context
    next k = at v h phase.Section 1 (sections - 1) outcome k

    more : Option Witness → Context
    more k = at v h phase.Node (left - 1) sections outcome k

    by_tests : (a b : Bool) → record (if a then (if b then ended last else next last) else more last) { last = l } ≡ (if a then (if b then ended l else next l) else more l)
    by_tests true true = refl
    by_tests true false = refl
    by_tests false b = refl

leaf_goes : (v : Version) (h : CertHead) (left sections outcome : ℕ) (last : Option Witness) (leaf : CertLeaf) → (l : Option Witness) × (after (at v h phase.Node left sections outcome last) (group_in v (leaf_field leaf)) ≡ gone v h left sections outcome l)
unfolding behind_field
leaf_goes v h left sections outcome last count = (last, refl)
leaf_goes v h left sections outcome last (void alpha tau) = (last, refl)
leaf_goes v h left sections outcome last (tangent w) = (Some w, moved_last v h left sections outcome last (Some w))

one_more : (left : ℕ) → 1 ≤ left → (left + 1 == 1) ≡ false
one_more left h = grind (arith, nat_tests)

gone_more : (v : Version) (h : CertHead) (left sections outcome : ℕ) (last : Option Witness) → 1 ≤ left → gone v h (left + 1) sections outcome last ≡ at v h phase.Node left sections outcome last
gone_more v h left sections outcome last p =
    let e : left + 1 - 1 ≡ left = omega arith in
    if_no (left + 1 == 1) (if sections == 0 then at v h phase.End 1 sections outcome last else at v h phase.Section 1 (sections - 1) outcome last) (at v h phase.Node (left + 1 - 1) sections outcome last) (one_more left p)
    ∙ ap (λ (k : ℕ). at v h phase.Node k sections outcome last) e

points_stand : (claim : CertClaim) → MayHavePoints claim → (claim_number claim == 2) ≡ false
points_stand (closed best overall) p = refl
points_stand none p = absurd p
points_stand (open_at best bound overall) p = refl
points_stand (unfound bound overall) p = refl

leaf_here : (v : Version) (h : CertHead) (claim : CertClaim) (left sections : ℕ) (last : Option Witness) (leaf : CertLeaf) → IsLeafIn (instance_in h) leaf → MayStand claim leaf → IsLeafHere (at v h phase.Node left sections (claim_number claim) last) leaf
leaf_here v h claim left sections last count i s = tt
leaf_here v h claim left sections last (void alpha tau) i s = multipliers_in h alpha tau i
leaf_here v h claim left sections last (tangent w) i s = (suits h w i, points_stand claim s)

-- a tree is spelled, wherever it comes
tree_reach : (v : Version) (h : CertHead) (claim : CertClaim) (tree : CertTree) (left sections : ℕ) (last : Option Witness) → IsHead h → 1 ≤ left → IsWritableTree h claim tree →
    (l : Option Witness) × Reaches v (at v h phase.Node left sections (claim_number claim) last) (tree_fields tree) (gone v h left sections (claim_number claim) l)
unfolding tree_fields behind_field
tree_reach v h claim (tip leaf) left sections last is p i =
    let c = at v h phase.Node left sections (claim_number claim) last in
    let g = leaf_goes v h left sections (claim_number claim) last leaf in
    let d = gone v h left sections (claim_number claim) g.0 in
    let m : h.lots ≤ 10000 = is.lots_most in
    (g.0, step_to v c d d (leaf_field leaf) [] (leaf_spelled c leaf is.many m (leaf_here v h claim left sections last leaf i.0 i.1)) g.1 (stays v d))
tree_reach v h claim (fork split first second) left sections last is p i =
    let c = at v h phase.Node left sections (claim_number claim) last in
    let b = at v h phase.Node (left + 1) sections (claim_number claim) last in
    let one = tree_reach v h claim first (left + 1) sections last is (omega arith) i.1 in
    let m = at v h phase.Node left sections (claim_number claim) one.0 in
    let two = tree_reach v h claim second left sections one.0 is p i.2 in
    let d = gone v h left sections (claim_number claim) two.0 in (
      two.0,
      step_to v c b d (field.Split split) (tree_fields first ++ tree_fields second) (split_spelled c split is.many i.0) refl
          (both_reach v (tree_fields first) (tree_fields second) b m d (subst (Reaches v b (tree_fields first)) (gone_more v h left sections (claim_number claim) one.0 p) one.1) two.1),
    )

-- ---- a section
opening_reach : (v : Version) (h : CertHead) (rest outcome : ℕ) (last : Option Witness) (w : Weight) (claim : CertClaim) → IsHead h → Allows v h → IsWeight w → IsWritableClaim h claim →
    Reaches v (at v h phase.Section 1 rest outcome last) (opening_fields w claim) (at v h phase.Node 1 rest (claim_number claim) None)
unfolding behind_field
opening_reach v h rest outcome last w (closed best overall) is a q k =
    let d = at v h phase.Node 1 rest 1 None in
    step_to v (at v h phase.Section 1 rest outcome last) (at v h phase.Portfolio 1 rest 1 None) d (field.SectionStart w.p w.q 1) _ (start_spelled v w 1 q (omega arith) (omega arith)) refl
    (step_to v (at v h phase.Portfolio 1 rest 1 None) (at v h phase.Objective 1 rest 1 None) d (field.Portfolio best.lots) _ (portfolio_spelled v h best.lots is a k.0.lots_are) refl
    (step_to v (at v h phase.Objective 1 rest 1 None) (at v h phase.Overall 1 rest 1 None) d (field.Objective best.value) _ (objective_spelled v best.value k.0.value_fits) refl
    (step_to v (at v h phase.Overall 1 rest 1 None) d d (field.Overall overall) [] (overall_here v h rest 1 overall is k.1) refl (stays v d))))
opening_reach v h rest outcome last w none is a q k =
    let d = at v h phase.Node 1 rest 2 None in
    step_to v (at v h phase.Section 1 rest outcome last) d d (field.SectionStart w.p w.q 2) [] (start_spelled v w 2 q (omega arith) (omega arith)) refl (stays v d)
opening_reach v h rest outcome last w (open_at best bound overall) is a q k =
    let d = at v h phase.Node 1 rest 3 None in
    step_to v (at v h phase.Section 1 rest outcome last) (at v h phase.Portfolio 1 rest 3 None) d (field.SectionStart w.p w.q 3) _ (start_spelled v w 3 q (omega arith) (omega arith)) refl
    (step_to v (at v h phase.Portfolio 1 rest 3 None) (at v h phase.Objective 1 rest 3 None) d (field.Portfolio best.lots) _ (portfolio_spelled v h best.lots is a k.0.lots_are) refl
    (step_to v (at v h phase.Objective 1 rest 3 None) (at v h phase.Bound 1 rest 3 None) d (field.Objective best.value) _ (objective_spelled v best.value k.0.value_fits) refl
    (step_to v (at v h phase.Bound 1 rest 3 None) (at v h phase.Overall 1 rest 3 None) d (field.Bound bound) _ (bound_spelled v (at v h phase.Bound 1 rest 3 None) bound refl k.1.bound_most) refl
    (step_to v (at v h phase.Overall 1 rest 3 None) d d (field.Overall overall) [] (overall_here v h rest 3 overall is k.1.overall_is) refl (stays v d)))))
opening_reach v h rest outcome last w (unfound bound overall) is a q k =
    let d = at v h phase.Node 1 rest 4 None in
    step_to v (at v h phase.Section 1 rest outcome last) (at v h phase.Bound 1 rest 4 None) d (field.SectionStart w.p w.q 4) _ (start_spelled v w 4 q (omega arith) (omega arith)) refl
    (step_to v (at v h phase.Bound 1 rest 4 None) (at v h phase.Overall 1 rest 4 None) d (field.Bound bound) _ (bound_spelled v (at v h phase.Bound 1 rest 4 None) bound refl k.bound_most) refl
    (step_to v (at v h phase.Overall 1 rest 4 None) d d (field.Overall overall) [] (overall_here v h rest 4 overall is k.overall_is) refl (stays v d)))

section_reach : (v : Version) (h : CertHead) (s : CertSection) (rest outcome : ℕ) (last : Option Witness) → IsHead h → Allows v h → IsWritableSection h s →
    (l : Option Witness) × Reaches v (at v h phase.Section 1 rest outcome last) (section_fields s) (gone v h 1 rest (claim_number s.claim) l)
unfolding section_fields
section_reach v h s rest outcome last is a w =
    let t = tree_reach v h s.claim s.tree 1 rest None is (omega arith) w.tree_is in (
      t.0,
      both_reach v (opening_fields s.weight s.claim) (tree_fields s.tree) (at v h phase.Section 1 rest outcome last) (at v h phase.Node 1 rest (claim_number s.claim) None) (gone v h 1 rest (claim_number s.claim) t.0)
          (opening_reach v h rest outcome last s.weight s.claim is a w.weight_is w.claim_is) t.1,
    )

-- sections are spelled up to the end mark
pub record Ended (v : Version) (h : CertHead) (c : Context) (fields : List Field) : Type 0 where
  pub outcome : ℕ
  pub last : Option Witness
  pub reach : Reaches v c fields (at v h phase.End 1 0 outcome last)

not_none : (n : ℕ) → (suc n == 0) ≡ false
not_none n = grind (arith, nat_tests)

gone_next : (v : Version) (h : CertHead) (rest outcome : ℕ) (last : Option Witness) → gone v h 1 (suc rest) outcome last ≡ at v h phase.Section 1 rest outcome last
gone_next v h rest outcome last =
    let e : suc rest - 1 ≡ rest = omega arith in
    if_no (suc rest == 0) (at v h phase.End 1 (suc rest) outcome last) (at v h phase.Section 1 (suc rest - 1) outcome last) (not_none rest)
    ∙ ap (λ (k : ℕ). at v h phase.Section 1 k outcome last) e

pub sections_reach : (v : Version) (h : CertHead) (s : CertSection) (more : List CertSection) (outcome : ℕ) (last : Option Witness) → IsHead h → Allows v h → IsWritableSection h s → All (IsWritableSection h) more →
    Ended v h (at v h phase.Section 1 (length more) outcome last) (sections_fields (s ∷ more))
unfolding sections_fields
sections_reach v h s [] outcome last is a w m =
    let r = section_reach v h s 0 outcome last is a w in
    let d = at v h phase.End 1 0 (claim_number s.claim) r.0 in
    record { outcome = claim_number s.claim; last = r.0; reach = both_reach v (section_fields s) [] (at v h phase.Section 1 0 outcome last) d d r.1 (stays v d) }
sections_reach v h s (t ∷ more) outcome last is a w m =
    let rest = length more in
    let r = section_reach v h s (suc rest) outcome last is a w in
    let q = sections_reach v h t more (claim_number s.claim) r.0 is a (All-head (IsWritableSection h) t more m) (All-tail (IsWritableSection h) t more m) in
    let c = at v h phase.Section 1 (suc rest) outcome last in
    record {
      outcome = q.outcome;
      last = q.last;
      reach = both_reach v (section_fields s) (sections_fields (t ∷ more)) c (at v h phase.Section 1 rest (claim_number s.claim) r.0) (at v h phase.End 1 0 q.outcome q.last)
          (subst (Reaches v c (section_fields s)) (gone_next v h rest (claim_number s.claim) r.0) r.1) q.reach;
    }
