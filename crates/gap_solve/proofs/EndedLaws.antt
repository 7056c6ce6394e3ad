-- An ended search has a valid section, which shows the bound.

use Rattle.std.proofs.Common.{◌≡◌, ℕ, ◌≤◌, List, Option, Some, None, ℤ, false, refl, sym, ap, ◌∙◌, subst, arith}
use Rattle.std.specs.List.{All}
use Rattle.std.specs.Option.{ForSome}
use Rattle.std.proofs.lemmas.Int.{ints}
use Rattle.gap_base.specs.declared.weight.Weight.{Weight}
use Rattle.gap_base.specs.declared.witness.Witness.{Witness}
use Rattle.gap_box.specs.declared.cell.Cell.{Cell}
use Rattle.gap_instance.specs.Instances.{InstanceValue}
use Rattle.gap_model.specs.declared.leaf.Leaf.{Leaf}
use Rattle.gap_model.specs.declared.outcome.Best.{Best}
use Rattle.gap_model.specs.declared.outcome.Outcome.{Outcome}
use Rattle.gap_model.specs.declared.outcome.Outcome.TheVariants.{Closed, NoPortfolio, Bounded}
use Rattle.gap_model.specs.declared.shown.Shown.{Shown}
use Rattle.gap_model.specs.declared.shown.Shown.TheVariants.{Nothing, AtLeast, Empty}
use Rattle.gap_model.specs.Settings.{Setting}
use Rattle.gap_model.specs.Order.{ShownLe}
use Rattle.gap_model.specs.Leaves.{shows}
use Rattle.gap_model.specs.Problems.{tangent_problem}
use Rattle.gap_model.specs.Trees.{SplitTree}
use Rattle.gap_model.specs.Nodes.{Node, splits_of, part_at, leaf_at, IsTreeOf}
use Rattle.gap_search.specs.Boards.{AllShow}
use Rattle.gap_cert.specs.Certificates.{CertHead, CertSection, CertTree, claim_of}
use Rattle.gap_valid.specs.Heads.{instance_in, shift_in, setting_in}
use Rattle.gap_valid.specs.CertTrees.{IsFormed, cert_splits, cert_leaves, PlacedLeaf, leaf_shows, greater_shown, overall_shows, shown_bound, IsWitness, has_point}
use Rattle.gap_valid.specs.Valid.{IsRightLeaf, IsClaimRight, IsValidSection}
use Rattle.gap_model.proofs.OrderLaws.{shown_le_trans}
use Rattle.gap_valid.proofs.ShownLaws.{le_same, le_both, greater_most}
use Rattle.gap_solved.specs.Solveds.{SolvedValue, cert_leaf_of, cert_tree_of, IsSectionOf}
use Rattle.gap_solved.proofs.SectionLaws.{one_section}
use Rattle.gap_solve.specs.Ended.{root_of, IsSearched, shown_with, ShowsNumber, ShowsJust, IsTold, HasEnded, IsValidWhere}
use Rattle.gap_solve.proofs.TreeLaws.{each_of, all_of, formed_of, splits_counted, cert_splits_of, placed_of, all_cert, least_of, least_from, least_each}
use Rattle.gap_solve.proofs.LeafLaws.{shows_same, right_leaf, no_point}

greater_left : (a b : Shown) → ShownLe a (greater_shown a b)
greater_left Nothing b = tt
greater_left (AtLeast a) Nothing = omega (arith, ints)
greater_left (AtLeast a) (AtLeast b) = grind (arith, ints)
greater_left (AtLeast a) Empty = tt
greater_left Empty b = tt

greater_right : (a b : Shown) → ShownLe b (greater_shown a b)
greater_right Nothing b = le_same b
greater_right (AtLeast a) Nothing = tt
greater_right (AtLeast a) (AtLeast b) = grind (arith, ints)
greater_right (AtLeast a) Empty = tt
greater_right Empty Nothing = tt
greater_right Empty (AtLeast b) = tt
greater_right Empty Empty = tt

greater_more : (a b c : Shown) → ShownLe b c → ShownLe (greater_shown a b) (greater_shown a c)
greater_more a b c h = greater_most a b (greater_shown a c) (greater_left a c) (shown_le_trans b c (greater_shown a c) h (greater_right a c))

-- ---- what the section's tree shows
module _ (s : Setting) (budget : ℕ) (nodes : List Node) (h : IsSearched s budget nodes) (tree : SplitTree) (t : IsTreeOf nodes 0 tree) where
  abbrev assets : ℕ
  assets = s.instance.market.assets

  at_root : (P : List Cell → Type 0) → P (part_at nodes 0) → P (root_of s)
  at_root P p = subst P h.root p

  abbrev root_least : Shown
  root_least = least_of s assets (root_of s) tree

  -- what every leaf shows, the least of the section shows
  least_is_more : (v : Shown) → AllShow (tangent_problem s) nodes v → ShownLe v root_least
  least_is_more v all =
      at_root (λ (z : List Cell). ShownLe v (least_of s s.instance.market.assets z tree))
      (least_from s s.instance.market.assets (part_at nodes 0) tree v
      (each_of nodes h.tree_is (λ (z : List Cell) (leaf : Leaf). ShownLe v (leaf_shows s z (cert_leaf_of s.instance.market.assets leaf))) (λ n leaf e. subst (λ (z : Shown). ShownLe v z) (shows_same s (part_at nodes n) leaf (h.leaves n leaf e)) (all n leaf e)) 0 tree t))

  -- and no leaf shows less than it
  least_is_less : (n : ℕ) (leaf : Leaf) → leaf_at nodes n ≡ Some leaf → ShownLe root_least (shows s (part_at nodes n) leaf)
  least_is_less n leaf e =
      let r = least_of s s.instance.market.assets (root_of s) tree in
      let a : ShownLe r (least_of s s.instance.market.assets (part_at nodes 0) tree) = subst (λ (z : List Cell). ShownLe r (least_of s s.instance.market.assets z tree)) (sym h.root) (le_same r) in
      let b = all_of nodes h.tree_is (λ (z : List Cell) (leaf : Leaf). ShownLe r (leaf_shows s z (cert_leaf_of s.instance.market.assets leaf))) tree t (least_each s s.instance.market.assets (part_at nodes 0) tree r a) n leaf e in
      subst (λ (z : Shown). ShownLe r z) (sym (shows_same s (part_at nodes n) leaf (h.leaves n leaf e))) b

  bound_is : (overall : Option Witness) → shown_bound s (root_of s) overall (cert_tree_of assets tree) ≡ shown_with s overall root_least
  unfolding shown_bound
  bound_is overall = refl

  number_shown : (overall : Option Witness) (number : ℤ) → ShowsNumber s nodes overall number → ShownLe (AtLeast number) (shown_bound s (root_of s) overall (cert_tree_of assets tree))
  number_shown overall number w =
      subst (λ (z : Shown). ShownLe (AtLeast number) z) (sym (bound_is overall))
      (shown_le_trans (AtLeast number) (shown_with s overall w.least) (shown_with s overall root_least) w.number_is (greater_more (overall_shows s (root_of s) overall) w.least root_least (least_is_more w.least w.each)))

  just_shown : (overall : Option Witness) (number : ℤ) → ShowsJust s nodes overall number → shown_bound s (root_of s) overall (cert_tree_of assets tree) ≡ AtLeast number
  just_shown overall number w =
      let a = least_is_more (AtLeast w.least) w.each in
      let b = subst (λ (z : Shown). ShownLe root_least z) w.one.shows (least_is_less w.one.n w.one.leaf w.one.there) in
      bound_is overall ∙ ap (λ (z : Shown). shown_with s overall z) (le_both root_least (AtLeast w.least) b a) ∙ w.number_is

  -- ---- what the section's leaves are
  leaves_right : All (IsRightLeaf s) (cert_leaves (root_of s) (cert_tree_of assets tree))
  leaves_right =
      at_root (λ (z : List Cell). All (IsRightLeaf s) (cert_leaves z (cert_tree_of s.instance.market.assets tree)))
      (all_cert (IsRightLeaf s) s.instance.market.assets (part_at nodes 0) tree
      (each_of nodes h.tree_is (λ (z : List Cell) (leaf : Leaf). IsRightLeaf s (placed_of s.instance.market.assets z leaf)) (λ n leaf e. right_leaf s (part_at nodes n) leaf (h.leaves n leaf e)) 0 tree t))

  no_points : AllShow (tangent_problem s) nodes Empty → All (λ (placed : PlacedLeaf). has_point placed.leaf ≡ false) (cert_leaves (root_of s) (cert_tree_of assets tree))
  no_points all =
      at_root (λ (z : List Cell). All (λ (placed : PlacedLeaf). has_point placed.leaf ≡ false) (cert_leaves z (cert_tree_of s.instance.market.assets tree)))
      (all_cert (λ (placed : PlacedLeaf). has_point placed.leaf ≡ false) s.instance.market.assets (part_at nodes 0) tree
      (each_of nodes h.tree_is (λ (z : List Cell) (leaf : Leaf). has_point (cert_leaf_of s.instance.market.assets leaf) ≡ false) (λ n leaf e. no_point s (part_at nodes n) leaf (h.leaves n leaf e) (is_empty (shows s (part_at nodes n) leaf) (all n leaf e))) 0 tree t))
    where
      is_empty : (a : Shown) → ShownLe Empty a → a ≡ Empty
      is_empty Nothing l = absurd l
      is_empty (AtLeast a) l = absurd l
      is_empty Empty l = refl

  formed : IsFormed (root_of s) (cert_tree_of assets tree)
  formed = at_root (λ (z : List Cell). IsFormed z (cert_tree_of s.instance.market.assets tree)) (formed_of nodes h.tree_is s.instance.market.assets 0 tree t)

  splits_are : cert_splits (cert_tree_of assets tree) ≡ splits_of nodes
  splits_are = cert_splits_of assets tree ∙ splits_counted nodes h.tree_is tree t

-- ---- the section, under a head of the search's own setting
module _ (h : CertHead) (w : Weight) (nodes : List Node) (k : IsSearched (setting_in h w) h.nodes nodes) (tree : SplitTree) (t : IsTreeOf nodes 0 tree) where
  abbrev section_tree : CertTree
  section_tree = cert_tree_of (instance_in h).market.assets tree

  claim_right : (outcome : Outcome) (overall : Option Witness) → ForSome overall (IsWitness (instance_in h)) → IsTold (setting_in h w) h.nodes nodes overall outcome → IsClaimRight h w section_tree (claim_of outcome overall)
  claim_right (Closed best) overall o told = record { overall_is = o; portfolio = told.0; shown = number_shown (setting_in h w) h.nodes nodes k tree t overall best.value told.1 }
  claim_right NoPortfolio overall o told = no_points (setting_in h w) h.nodes nodes k tree t told
  claim_right (Bounded (Some best) bound) overall o told = record {
    said = record { bound_most = told.2; overall_is = o };
    portfolio = told.0.0;
    below = told.0.1;
    shown = subst (λ (z : Shown). ShownLe (AtLeast bound) z) (sym (just_shown (setting_in h w) h.nodes nodes k tree t overall bound told.1)) (le_same (AtLeast bound));
    spent = splits_are (setting_in h w) h.nodes nodes k tree t ∙ told.3;
  }
  claim_right (Bounded None bound) overall o told = record {
    said = record { bound_most = told.2; overall_is = o };
    shown = subst (λ (z : Shown). ShownLe (AtLeast bound) z) (sym (just_shown (setting_in h w) h.nodes nodes k tree t overall bound told.1)) (le_same (AtLeast bound));
    spent = splits_are (setting_in h w) h.nodes nodes k tree t ∙ told.3;
  }

valid_here : (h : CertHead) (solved : SolvedValue) (section : CertSection) → HasEnded (setting_in h solved.weight) h.nodes solved → IsSectionOf (instance_in h).market.assets solved section → IsValidSection h section
valid_here h solved section e is =
    subst (IsValidSection h) (one_section (instance_in h).market.assets solved (record { weight = solved.weight; claim = claim_of solved.outcome solved.overall; tree = cert_tree_of (instance_in h).market.assets is.tree }) section (record { tree = is.tree; stands = is.stands; tree_is = refl; weight_is = refl; claim_is = refl }) is)
    (record {
      weight_is = record { least = e.q_least; most = e.q_most; within = e.p_most };
      formed = formed (setting_in h solved.weight) h.nodes solved.nodes e.searched is.tree is.stands;
      leaves_are = leaves_right (setting_in h solved.weight) h.nodes solved.nodes e.searched is.tree is.stands;
      within = subst (λ (z : ℕ). z ≤ h.nodes) (sym (splits_are (setting_in h solved.weight) h.nodes solved.nodes e.searched is.tree is.stands)) e.searched.within;
      claim_is = claim_right h solved.weight solved.nodes e.searched is.tree is.stands solved.outcome solved.overall e.overall_is e.told;
    })

-- ---- under any head that agrees
abbrev make : InstanceValue → List ℤ → ℕ → ℕ → Setting
make I diagonal p q = record { instance = I; shift = diagonal; p = p; q = q }

same_make : (I J : InstanceValue) (d e : List ℤ) (p q m n : ℕ) → I ≡ J → d ≡ e → p ≡ m → q ≡ n → make I d p q ≡ make J e m n
same_make I J d e p q m n a b c f = cc

pub valid_where : (s : Setting) (nodes : ℕ) (solved : SolvedValue) (section : CertSection) → HasEnded s nodes solved → IsSectionOf s.instance.market.assets solved section → IsValidWhere s.instance s.shift nodes section
valid_where s nodes solved section e is h i d n =
    let same : s ≡ setting_in h solved.weight = same_make s.instance (instance_in h) s.shift (shift_in h).diagonal s.p s.q solved.weight.p solved.weight.q (sym i) (sym d) (sym e.p_is) (sym e.q_is) in
    valid_here h solved section
    (subst (λ (z : Setting). HasEnded z h.nodes solved) same (subst (λ (z : ℕ). HasEnded s z solved) (sym n) e))
    (subst (λ (z : InstanceValue). IsSectionOf z.market.assets solved section) (sym i) is)

told_bounded : (s : Setting) (nodes : ℕ) (tree : List Node) (overall : Option Witness) (outcome : Outcome) (best : Option Best) (bound : ℤ) → outcome ≡ Bounded best bound → IsTold s nodes tree overall outcome → ShowsJust s tree overall bound
told_bounded s nodes tree overall outcome best bound e told = just (subst (IsTold s nodes tree overall) e told) where
  just : IsTold s nodes tree overall (Bounded best bound) → ShowsJust s tree overall bound
  just (a, b, c, d) = b

pub shown_just : (s : Setting) (nodes : ℕ) (solved : SolvedValue) (section : CertSection) (best : Option Best) (bound : ℤ) → HasEnded s nodes solved → IsSectionOf s.instance.market.assets solved section → solved.outcome ≡ Bounded best bound → shown_bound s (root_of s) solved.overall section.tree ≡ AtLeast bound
shown_just s nodes solved section best bound e is o =
    ap (shown_bound s (root_of s) solved.overall) is.tree_is
    ∙ just_shown s nodes solved.nodes e.searched is.tree is.stands solved.overall bound (told_bounded s nodes solved.nodes solved.overall solved.outcome best bound o e.told)
