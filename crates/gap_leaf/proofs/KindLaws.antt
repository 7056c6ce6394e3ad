-- Each kind of leaf that is found is one for the part.
use Rattle.std.proofs.Common.{◌≡◌, ◌≢◌, ℕ, Bool, true, false, List, length, Option, Some, None, ℤ, pos, negsuc, refl, sym, ap, ◌∙◌, subst, arith}
use Rattle.std.proofs.lemmas.Bool.{and_from, le-leb}
use Rattle.std.proofs.Common.{leb, cond, sum_by, ◌&&◌, ◌*◌}
use Rattle.gap_base.specs.Lots.{lots_at, eighths_of}
use Rattle.gap_base.specs.declared.witness.Witness.{Witness}
use Rattle.gap_box.specs.declared.cell.Cell.{Cell}
use Rattle.gap_box.specs.Cells.{AreCells}
use Rattle.gap_box.specs.Parts.{IsPick, IsSingle, IsWithin, can_meet, root_cells}
use Rattle.gap_box.proofs.CountLaws.{pick_meets, meets_pick}
use Rattle.gap_instance.specs.Instances.{InstanceValue}
use Rattle.gap_instance.specs.Objective.{objective}
use Rattle.gap_model.specs.declared.leaf.Entry.{Entry}
use Rattle.gap_model.specs.declared.leaf.Leaf.{Leaf}
use Rattle.gap_model.specs.declared.leaf.Leaf.TheVariants.{Count, Void, Tangent}
use Rattle.gap_model.specs.declared.shown.Shown.{Shown}
use Rattle.gap_model.specs.declared.shown.Shown.TheVariants.{Nothing, AtLeast, Empty}
use Rattle.gap_model.specs.Settings.{Setting, IsSetting}
use Rattle.gap_model.specs.Theta.{theta}
use Rattle.gap_model.specs.Limits.{meets_limits}
use Rattle.gap_model.specs.Order.{ShownLe}
use Rattle.gap_model.specs.Leaves.{eighths_at, ascend, are_multipliers, in_range, is_zero, count_shows, tangent_shows, shows, IsPoint, AreMultipliers}
use Rattle.gap_model.specs.Problems.{IsPart, IsTangentAt, tangent_problem}
use Rattle.gap_model.proofs.BoundLaws.{tangent_lawful}
use Rattle.gap_model.proofs.LagLaws.{lag_same}
use Rattle.gap_model.proofs.LeafLaws.{multipliers_from}
use Rattle.gap_model.proofs.ThetaLaws.{theta_from_same}
use Rattle.gap_tangent.specs.Seen.{setting_of}
use Rattle.gap_tangent.specs.declared.mean_variance.MeanVariance.{MeanVariance}
use Rattle.gap_tangent.proofs.ShownLaws.{root_count}
use Rattle.gap_witness.specs.Having.{HasTangentPoint}
use Rattle.gap_witness.specs.Points.{choice_of, point}
use Rattle.gap_leaf.specs.declared.multipliers.Multipliers.{Multipliers}
use Rattle.gap_leaf.specs.Showing.{tangent_shown, witness_shows, NoLessThanAt, IsOwnBest}
use Rattle.gap_leaf.specs.Voids.{third_of, first_void}
use Rattle.gap_leaf.specs.Finding.{IsWitness, IsLeafFor}
use Rattle.gap_leaf.specs.Entries.{point_entries, IsTangentOf}
use Rattle.gap_leaf.specs.Candidates.{theta_at, IsCandidate}
use Rattle.gap_leaf.proofs.OrderLaws.{under_is, no_less_empty, IsCounted, shown_there, shown_le, no_less_most, shown_below, no_less_below}
use Rattle.gap_leaf.proofs.EntryLaws.{entries_of_lots, entries_give, entries_ascend, entries_sum}
use Rattle.gap_leaf.proofs.TryLaws.{void_found, none_found, not_empty, no_try, single_meets, found_for}

-- what a leaf is looked for on
pub record IsAsked (s : Setting) (part : List Cell) (hint : Witness) : Type 0 where
  pub setting : IsSetting s
  pub valid : AreCells part
  pub within : IsWithin part (root_cells s.instance.least s.instance.greatest)
  pub places : length part ≡ s.instance.market.assets
  pub witness : IsWitness s hint

asked_part : (s : Setting) (part : List Cell) (hint : Witness) → IsAsked s part hint → IsPart (tangent_problem s) part
asked_part s part hint a = record { valid = a.valid; within = a.within }

pub asked_count : (s : Setting) (part : List Cell) (hint : Witness) → IsAsked s part hint → can_meet part s.instance.held s.instance.held_most ≡ true → IsCounted s part
asked_count s part hint a e = record { valid = a.valid; order = a.setting.instance_is.limits_are.held_range; counted = e }

both : {P : Type 0} (b : Bool) → b ≡ true → b ≡ false → P
both b e f = absurd (apart (sym e ∙ f))
  where
    apart : true ≡ false → ⊥
    apart e = cc

something_of : (a : Shown) → a ≡ Empty → a ≢ Nothing
something_of a e = λ q. cc

never : {P : Type 0} → false ≡ true → P
never e = cc

-- ---- where the count can't be met
uncounted : (s : Setting) (part : List Cell) (x : List ℕ) → AreCells part → can_meet part s.instance.held s.instance.held_most ≡ false → IsPick part s.instance.held s.instance.held_most x → ⊥
uncounted s part x h e p = both (can_meet part s.instance.held s.instance.held_most) (pick_meets part s.instance.held s.instance.held_most x h p) e

pub count_empty : (s : Setting) (part : List Cell) → can_meet part s.instance.held s.instance.held_most ≡ false → shows s part Count ≡ Empty
unfolding shows
count_empty s part e = ap count_shows e

pub count_leaf : (s : Setting) (part : List Cell) (hint : Witness) → IsAsked s part hint → can_meet part s.instance.held s.instance.held_most ≡ false → IsLeafFor s part hint Count
count_leaf s part hint a e =
    let empty = count_empty s part e in
    record {
      in_range = refl;
      third = refl;
      tight = record {
        none = λ h. empty;
        broken = λ x h m. empty;
        single = λ x h m. absurd (uncounted s part x a.valid e h.pick);
        something = something_of (shows s part Count) empty;
        tangent = λ t. never t;
      };
      no_less = under_is (witness_shows s part hint) (shows s part Count) empty;
      own = tt;
      point = λ h. no_less_empty s part _ (shows s part Count) empty;
      voids = λ alpha tau w q. empty;
      uncounted = λ q. refl;
      exact = λ x h m. absurd (uncounted s part x a.valid e h.pick);
      broken = λ x h m. absurd (uncounted s part x a.valid e h.pick);
    }

-- ---- where a void leaf shows that there is no list
emptied : (s : Setting) (part : List Cell) (leaf : Leaf) (x : List ℕ) → IsSetting s → IsPart (tangent_problem s) part → in_range s leaf ≡ true → shows s part leaf ≡ Empty → IsPick part s.instance.held s.instance.held_most x → meets_limits s.instance x ≡ true → ⊥
emptied s part leaf x is p r e h m = subst (λ (b : Shown). ShownLe b (AtLeast (objective s.instance s.p s.q x))) e ((tangent_lawful s is).below part leaf x p r h.inside m)

pub void_leaf : (s : Setting) (part : List Cell) (hint : Witness) (m : Multipliers) → IsAsked s part hint → can_meet part s.instance.held s.instance.held_most ≡ true → first_void s part ≡ Some m → IsLeafFor s part hint (Void m.alpha m.tau (pos 0))
void_leaf s part hint m a e q =
    let f = void_found s part m q in
    let empty = f.empty in
    let p = asked_part s part hint a in
    let r = multipliers_from s.instance.turnover m.alpha m.tau f.multipliers in
    let no = λ (x : List ℕ) (h : IsPick part s.instance.held s.instance.held_most x) (t : meets_limits s.instance x ≡ true). emptied s part (Void m.alpha m.tau (pos 0)) x a.setting p r empty h t in
    record {
      in_range = r;
      third = refl;
      tight = record {
        none = λ h. empty;
        broken = λ x h t. empty;
        single = λ x h t. absurd (no x h.pick t);
        something = something_of (shows s part (Void m.alpha m.tau (pos 0))) empty;
        tangent = λ t. never t;
      };
      no_less = under_is (witness_shows s part hint) (shows s part (Void m.alpha m.tau (pos 0))) empty;
      own = tt;
      point = λ h. no_less_empty s part _ (shows s part (Void m.alpha m.tau (pos 0))) empty;
      voids = λ alpha tau w t. empty;
      uncounted = λ t. both (can_meet part s.instance.held s.instance.held_most) e t;
      exact = λ x h t. absurd (no x h.pick t);
      broken = λ x h t. found_for s part x m a.setting p a.places h t q;
    }

-- ---- tangent leaves
same_point : (s : Setting) (part : List Cell) (point : List ℕ) (alpha tau : ℤ) → theta s part (eighths_at (point_entries 0 point)) alpha tau ≡ theta s part (lots_at point) alpha tau
same_point s part point alpha tau = theta_from_same s part (eighths_at (point_entries 0 point)) (lots_at point) alpha tau (λ x. lag_same s (eighths_at (point_entries 0 point)) (lots_at point) alpha tau x (λ i h. entries_give point i))

pub leaf_shown : (s : Setting) (part : List Cell) (point : List ℕ) (alpha tau : ℤ) (leaf : Leaf) → IsTangentOf point alpha tau leaf → shows s part leaf ≡ tangent_shown s part (lots_at point) alpha tau
unfolding shows
leaf_shown s part point alpha tau Count h = absurd h
leaf_shown s part point alpha tau (Void a t third) h = absurd h
leaf_shown s part point alpha tau (Tangent y a t third) h =
    ap (λ (z : ℤ). cond (is_zero z) (tangent_shows (theta s part (eighths_at y.now) a t)) Nothing) h.3
    ∙ (ap (λ (e : List Entry). tangent_shows (theta s part (eighths_at e) a t)) h.0
    ∙ (ap (λ (z : ℤ). tangent_shows (theta s part (eighths_at (point_entries 0 point)) z t)) h.1
    ∙ (ap (λ (z : ℤ). tangent_shows (theta s part (eighths_at (point_entries 0 point)) alpha z)) h.2
    ∙ ap tangent_shows (same_point s part point alpha tau))))

leaf_in_range : (s : Setting) (point : List ℕ) (alpha tau : ℤ) (leaf : Leaf) → IsTangentOf point alpha tau leaf → IsPoint s.instance point → AreMultipliers s.instance.turnover alpha tau → in_range s leaf ≡ true
leaf_in_range s point alpha tau Count h p m = absurd h
leaf_in_range s point alpha tau (Void a t third) h p m = absurd h
leaf_in_range s point alpha tau (Tangent y a t third) h p m =
    ap (λ (e : List Entry). ascend 0 s.instance.market.assets e && (leb (sum_by (λ (d : Entry). d.eighths) e) (8 * s.instance.lots) && are_multipliers s.instance.turnover a t)) h.0
    ∙ (ap (λ (z : ℤ). ascend 0 s.instance.market.assets (point_entries 0 point) && (leb (sum_by (λ (d : Entry). d.eighths) (point_entries 0 point)) (8 * s.instance.lots) && are_multipliers s.instance.turnover z t)) h.1
    ∙ (ap (λ (z : ℤ). ascend 0 s.instance.market.assets (point_entries 0 point) && (leb (sum_by (λ (d : Entry). d.eighths) (point_entries 0 point)) (8 * s.instance.lots) && are_multipliers s.instance.turnover alpha z)) h.2
    ∙ and_from _ _ (entries_ascend 0 s.instance.market.assets point (let c = p.count in omega arith)) (and_from _ _ (le-leb _ _ (let t = entries_sum 0 point in let q = p.most in omega arith)) (multipliers_from s.instance.turnover alpha tau m))))

leaf_third : (point : List ℕ) (alpha tau : ℤ) (leaf : Leaf) → IsTangentOf point alpha tau leaf → third_of leaf ≡ pos 0
leaf_third point alpha tau Count h = absurd h
leaf_third point alpha tau (Void a t third) h = absurd h
leaf_third point alpha tau (Tangent y a t third) h = h.3

leaf_at : (x : List ℕ) (leaf : Leaf) → IsTangentOf (eighths_of x) (pos 0) (pos 0) leaf → IsTangentAt x leaf
leaf_at x Count h = absurd h
leaf_at x (Void a t third) h = absurd h
leaf_at x (Tangent y a t third) h = (h.0 ∙ entries_of_lots 0 x, h.1, h.2, h.3)

leaf_own : (s : Setting) (part : List Cell) (point : List ℕ) (alpha tau : ℤ) (leaf : Leaf) → IsTangentOf point alpha tau leaf → NoLessThanAt s part (lots_at point) (shows s part leaf) → IsOwnBest s part leaf
unfolding NoLessThanAt
leaf_own s part point alpha tau Count h n = tt
leaf_own s part point alpha tau (Void a t third) h n = tt
leaf_own s part point alpha tau (Tangent y a t third) h n = λ b l. subst (λ (c : Shown). ShownLe c (shows s part (Tangent y a t third))) (sym (ap (λ (e : List Entry). tangent_shown s part (eighths_at e) b (pos 0)) h.0 ∙ ap tangent_shows (same_point s part point b (pos 0)))) (n b l)

number_is : (t : Option ℤ) (v : ℤ) (b : Shown) → b ≡ AtLeast v → (b ≢ Nothing) × (b ≢ Empty)
number_is t v b e = (λ q. cc, λ q. cc)

-- on a part with one list, which meets the limits
pub single_leaf : (s : Setting) (part : List Cell) (hint : Witness) (x : List ℕ) (leaf : Leaf) → IsAsked s part hint → can_meet part s.instance.held s.instance.held_most ≡ true → first_void s part ≡ None → IsSingle part s.instance.held s.instance.held_most x → IsTangentOf (eighths_of x) (pos 0) (pos 0) leaf → IsLeafFor s part hint leaf
single_leaf s part hint x leaf a e q h l =
    let p = asked_part s part hint a in
    let v = none_found s part q in
    let c = asked_count s part hint a e in
    let m = single_meets s part x a.setting p a.places h v in
    let w = (tangent_lawful s a.setting).exact part leaf x p h m (leaf_at x leaf l) in
    let n = number_is None (objective s.instance s.p s.q x) (shows s part leaf) w.exact in
    record {
      in_range = w.in_range;
      third = leaf_third (eighths_of x) (pos 0) (pos 0) leaf l;
      tight = record {
        none = λ r. absurd (r x h.pick);
        broken = λ z r t. both (meets_limits s.instance x) m (ap (meets_limits s.instance) (sym (h.only z r.pick)) ∙ t);
        single = λ z r t. w.exact ∙ ap (λ (y : List ℕ). AtLeast (objective s.instance s.p s.q y)) (sym (h.only z r.pick));
        something = n.0;
        tangent = λ t. n.1;
      };
      no_less = subst (λ (b : Shown). ShownLe (witness_shows s part hint) b) (sym w.exact) (shown_below s part (lots_at hint.y) hint.alpha hint.tau x a.setting c a.witness.multipliers.tau_least h.pick m);
      own = leaf_own s part (eighths_of x) (pos 0) (pos 0) leaf l (no_less_below s part (lots_at (eighths_of x)) (shows s part leaf) x a.setting c h.pick m w.exact);
      point = λ t. no_less_below s part _ (shows s part leaf) x a.setting c h.pick m w.exact;
      voids = λ alpha tau t z. absurd (no_try s part alpha tau v t z);
      uncounted = λ t. both (can_meet part s.instance.held s.instance.held_most) e t;
      exact = λ z r t. subst (λ (y : List ℕ). IsTangentAt y leaf) (sym (h.only z r.pick)) (leaf_at x leaf l);
      broken = λ z r t. both (meets_limits s.instance x) m (ap (meets_limits s.instance) (sym (h.only z r.pick)) ∙ t);
    }

-- a part whose count can be met and on which no void leaf shows Empty has a tangent point
pub has_point : (s : Setting) (part : List Cell) → can_meet part s.instance.held s.instance.held_most ≡ true → first_void s part ≡ None → HasTangentPoint s part
has_point s part e q =
    let v = none_found s part q in
    record { counted = e; not_above = not_empty s part (pos 1) (pos 0) v.above; not_below = not_empty s part (negsuc 0) (pos 0) v.below }

-- on a part with more lists
pub tangent_leaf : (s : Setting) (part : List Cell) (hint w : Witness) (leaf : Leaf) → IsAsked s part hint → can_meet part s.instance.held s.instance.held_most ≡ true → first_void s part ≡ None → ((x : List ℕ) → IsSingle part s.instance.held s.instance.held_most x → ⊥) → IsCandidate s part hint w → IsTangentOf w.y w.alpha w.tau leaf → IsLeafFor s part hint leaf
tangent_leaf s part hint w leaf a e q several d l =
    let v = none_found s part q in
    let c = asked_count s part hint a e in
    let shown = leaf_shown s part w.y w.alpha w.tau leaf l in
    let n = number_is None _ (shows s part leaf) (shown ∙ shown_there s part (lots_at w.y) w.alpha w.tau c) in
    record {
      in_range = leaf_in_range s w.y w.alpha w.tau leaf l d.witness.point d.witness.multipliers;
      third = leaf_third w.y w.alpha w.tau leaf l;
      tight = record {
        none = λ r. let z = meets_pick part s.instance.held s.instance.held_most a.valid c.order e in absurd (r z.0 z.1);
        broken = λ z r t. absurd (several z r);
        single = λ z r t. absurd (several z r);
        something = n.0;
        tangent = λ t. n.1;
      };
      no_less = subst (λ (b : Shown). ShownLe (witness_shows s part hint) b) (sym shown) (shown_le s part (lots_at hint.y) (lots_at w.y) hint.alpha hint.tau w.alpha w.tau c d.hint_less);
      own = leaf_own s part w.y w.alpha w.tau leaf l (subst (NoLessThanAt s part (lots_at w.y)) (sym shown) (no_less_most s part (lots_at w.y) (lots_at w.y) w.alpha w.tau c d.own));
      point = λ t. subst (NoLessThanAt s part (lots_at (point s (choice_of s part) hint.y))) (sym shown) (no_less_most s part (lots_at (point s (choice_of s part) hint.y)) (lots_at w.y) w.alpha w.tau c d.point);
      voids = λ alpha tau t z. absurd (no_try s part alpha tau v t z);
      uncounted = λ t. both (can_meet part s.instance.held s.instance.held_most) e t;
      exact = λ z r t. absurd (several z r);
      broken = λ z r t. absurd (several z r);
    }

-- what a leaf is looked for on, from what a hinted witness keeps
pub asked_by : (b : MeanVariance) (part : List Cell) (hint : Witness) → IsWitness (setting_of b) hint → AreCells part → IsWithin part (root_cells (setting_of b).instance.least (setting_of b).instance.greatest) → IsAsked (setting_of b) part hint
asked_by b part hint w v within = record {
  setting = b.setting;
  valid = v;
  within = within;
  places = within.same_length ∙ root_count (setting_of b).instance b.setting.instance_is;
  witness = w;
}

-- the numbers of held assets, as the code reads them
pub counted_by : (part : List Cell) (I J : InstanceValue) (h m : ℕ) (b r : Bool) → h ≡ I.held → m ≡ I.held_most → I ≡ J → r ≡ can_meet part h m → r ≡ b → can_meet part J.held J.held_most ≡ b
counted_by part I J h m b r e f g q t = subst (λ (k : InstanceValue). can_meet part k.held k.held_most ≡ b) g (sym (ap (λ (n : ℕ). can_meet part n m) e ∙ ap (λ (n : ℕ). can_meet part I.held n) f) ∙ (sym q ∙ t))

pub single_by : (part : List Cell) (I J : InstanceValue) (h m : ℕ) (x : List ℕ) → h ≡ I.held → m ≡ I.held_most → I ≡ J → IsSingle part h m x → IsSingle part J.held J.held_most x
single_by part I J h m x e f g s = subst (λ (k : InstanceValue). IsSingle part k.held k.held_most x) g (subst (λ (n : ℕ). IsSingle part I.held n x) f (subst (λ (n : ℕ). IsSingle part n m x) e s))

-- what the best tangent shows
pub best_shows : (s : Setting) (part : List Cell) (hint w : Witness) (t : ℤ) (leaf : Leaf) → IsAsked s part hint → can_meet part s.instance.held s.instance.held_most ≡ true → IsTangentOf w.y w.alpha w.tau leaf → t ≡ theta_at s part w → shows s part leaf ≡ tangent_shows (Some t)
best_shows s part hint w t leaf a e l q = leaf_shown s part w.y w.alpha w.tau leaf l ∙ shown_there s part (lots_at w.y) w.alpha w.tau (asked_count s part hint a e) ∙ ap (λ (z : ℤ). tangent_shows (Some z)) (sym q)
