-- Trees that wait on a stack, and what is still due of them.
use Rattle.std.proofs.Common.{◌≡◌, ℕ, zero, suc, ◌+◌, ◌-◌, ◌<◌, ◌≤◌, ◌^◌, ◌⊎◌, inl, inr, Bool, true, false, IsTrue, List, [], ◌∷◌, ◌++◌, length, slice_get, slice_index_or, Option, Some, None, refl, sym, ap, ◌∙◌, subst, arith}
use Rattle.std.proofs.lemmas.List.{append_assoc, append-nil}
use Rattle.std.proofs.lemmas.List.Sums.{sum_by_push}
use Rattle.std.proofs.lemmas.Nat.{pow_pos}
use Rattle.std.proofs.Math.Nat.{pow-suc, pow-le-pow_right}
use Rattle.gap_box.specs.declared.cell.Cell.{Cell}
use Rattle.gap_box.specs.declared.cell.Cell.TheVariants.{Out}
use Rattle.gap_box.specs.declared.node.NodeId.{NodeId}
use Rattle.gap_box.specs.declared.split.Split.{Split}
use Rattle.gap_box.specs.declared.split.Split.TheVariants.{Held, Lots}
use Rattle.gap_box.specs.Cells.{is_free}
use Rattle.gap_box.specs.Narrow.{asset_of}
use Rattle.gap_box.specs.Splits.{can_cut, lawful_split}
use Rattle.gap_box.proofs.CellLaws.{place_in}
use Rattle.gap_model.specs.declared.leaf.Leaf.{Leaf}
use Rattle.gap_model.specs.Trees.{SplitTree, tip, fork}
use Rattle.gap_model.specs.Nodes.{Fate, ends, forks, Node, split_in, split_at, leaf_in, leaf_at, first_in, first_at, part_at, IsTree, IsTreeOf}
use Rattle.gap_cert.specs.declared.field.Field.{Field}
use Rattle.gap_cert.specs.declared.field.Field.TheVariants as field
use Rattle.gap_cert.specs.declared.field.Version.TheVariants.{Two}
use Rattle.gap_cert.specs.Fields.{bytes_of}
use Rattle.gap_cert.specs.Certificates.{leaf_field, tree_fields, last_behind, spelled}
use Rattle.gap_solved.specs.Solveds.{cert_leaf_of, cert_tree_of}
use Rattle.gap_writer.specs.Writing.{Written, put}
use Rattle.gap_writer.specs.Filled.{due, Waits, Owes, weight_of, children_of}

-- ---- what a node's fate says
abbrev with : Node → Fate → Node
with node fate = record { part = node.part; parent = node.parent; fate = fate }

split_by : (nodes : List Node) (n : ℕ) (node : Node) (fate : Fate) → slice_get nodes n ≡ Some node → node.fate ≡ fate → split_at nodes n ≡ split_in (Some (with node fate))
split_by nodes n node fate e f = ap split_in e ∙ ap (λ (x : Fate). split_in (Some (with node x))) f

leaf_by : (nodes : List Node) (n : ℕ) (node : Node) (fate : Fate) → slice_get nodes n ≡ Some node → node.fate ≡ fate → leaf_at nodes n ≡ leaf_in (Some (with node fate))
leaf_by nodes n node fate e f = ap leaf_in e ∙ ap (λ (x : Fate). leaf_in (Some (with node x))) f

first_by : (nodes : List Node) (n : ℕ) (node : Node) (fate : Fate) → slice_get nodes n ≡ Some node → node.fate ≡ fate → first_at nodes n ≡ first_in (Some (with node fate))
first_by nodes n node fate e f = ap first_in e ∙ ap (λ (x : Fate). first_in (Some (with node x))) f

-- what there is at a number
data At (nodes : List Node) (n : ℕ) : Type 0 where
  nothing : slice_get nodes n ≡ None → At nodes n
  leaf : (node : Node) (leaf : Leaf) → slice_get nodes n ≡ Some node → node.fate ≡ ends leaf → At nodes n
  split : (node : Node) (split : Split) (k : ℕ) → slice_get nodes n ≡ Some node → node.fate ≡ forks split k → At nodes n

looked : (nodes : List Node) (n : ℕ) → At nodes n
looked nodes n = by_node (slice_get nodes n) refl
  where
    by_fate : (node : Node) (fate : Fate) → slice_get nodes n ≡ Some node → node.fate ≡ fate → At nodes n
    by_fate node (ends l) e f = leaf node l e f
    by_fate node (forks s k) e f = split node s k e f

    by_node : (o : Option Node) → slice_get nodes n ≡ o → At nodes n
    by_node None e = nothing e
    by_node (Some node) e = by_fate node node.fate e refl

-- ---- splits are of assets that there are
lawful_in : (cells : List Cell) (split : Split) → IsTrue (lawful_split cells split) → asset_of split < length cells
lawful_in cells (Held i) l = place_in cells i is_free refl l
lawful_in cells (Lots i t) l = place_in cells i (λ (cell : Cell). can_cut cell t) refl l

some_is : {A : Type 0} (a b : A) → ◌≡◌ {A = Option A} (Some a) (Some b) → a ≡ b
some_is a b h = cc

none_some : {A : Type 0} (a : A) → ◌≡◌ {A = Option A} None (Some a) → ⊥
none_some a h = cc

pub split_small : (nodes : List Node) (n : ℕ) (s : Split) → IsTree nodes → length (part_at nodes 0) ≤ 256 → split_at nodes n ≡ Some s → asset_of s < 256
split_small nodes n s is m e = by_look (looked nodes n)
  where
    by_look : At nodes n → asset_of s < 256
    by_look (nothing h) = absurd (none_some s (sym (ap split_in h) ∙ e))
    by_look (leaf node l h f) = absurd (none_some s (sym (split_by nodes n node (ends l) h f) ∙ e))
    by_look (split node t k h f) =
        let q = some_is t s (sym (split_by nodes n node (forks t k) h f) ∙ e) in
        let c = (is.children n node t k h f).lawful in
        let w = (is.within n node h).same_length in
        let i = lawful_in node.part t c in
        let j = ap asset_of q in
        omega arith

-- no node has both
pub not_both : (nodes : List Node) (n : ℕ) (s : Split) (l : Leaf) → split_at nodes n ≡ Some s → leaf_at nodes n ≡ Some l → ⊥
not_both nodes n s l e f = by_look (looked nodes n)
  where
    by_look : At nodes n → ⊥
    by_look (nothing h) = none_some s (sym (ap split_in h) ∙ e)
    by_look (leaf node k h q) = none_some s (sym (split_by nodes n node (ends k) h q) ∙ e)
    by_look (split node t k h q) = none_some l (sym (leaf_by nodes n node (forks t k) h q) ∙ f)

-- ---- the stack
pub push : (n : ℕ) (nodes : List Node) (stack : List NodeId) (node : NodeId) (tree : SplitTree) (fields : List Field) → Waits n nodes stack fields → IsTreeOf nodes node.0 tree →
    Waits n nodes (stack ++ node ∷ []) (tree_fields (cert_tree_of n tree) ++ fields)
push n nodes [] node tree fields w s = ([], tree, refl, s, ap (λ (x : List Field). tree_fields (cert_tree_of n tree) ++ x) w ∙ append-nil (tree_fields (cert_tree_of n tree)))
push n nodes (m ∷ stack) node tree fields w s =
    let t = tree_fields (cert_tree_of n tree) in
    (t ++ w.0, w.1, push n nodes stack node tree w.0 w.2 s, w.3, ap (λ (x : List Field). t ++ x) w.4 ∙ sym (append_assoc t w.0 (tree_fields (cert_tree_of n w.1))))

-- the tree on top of a stack, and the items of those below it
record Popped (n : ℕ) (nodes : List Node) (stack : List NodeId) (node : NodeId) (fields : List Field) : Type 0 where
  tree : SplitTree
  more : List Field
  stands : IsTreeOf nodes node.0 tree
  waits : Waits n nodes stack more
  fields_are : fields ≡ tree_fields (cert_tree_of n tree) ++ more

pop : (n : ℕ) (nodes : List Node) (stack : List NodeId) (node : NodeId) (fields : List Field) → Waits n nodes (stack ++ node ∷ []) fields → Popped n nodes stack node fields
pop n nodes [] node fields w =
    let t = tree_fields (cert_tree_of n w.1) in
    record { tree = w.1; more = []; stands = w.3; waits = refl; fields_are = w.4 ∙ ap (λ (x : List Field). x ++ t) w.2 ∙ sym (append-nil t) }
pop n nodes (m ∷ stack) node fields w =
    let p = pop n nodes stack node w.0 w.2 in
    let t = tree_fields (cert_tree_of n p.tree) in
    let b = tree_fields (cert_tree_of n w.1) in
    record {
      tree = p.tree;
      more = p.more ++ b;
      stands = p.stands;
      waits = (p.more, w.1, p.waits, w.3, refl);
      fields_are = w.4 ∙ ap (λ (x : List Field). x ++ b) p.fields_are ∙ append_assoc t p.more b;
    }

-- ---- a node is written
put_due : (w : Written) (f : Field) (fields : List Field) → due (put w f) fields ≡ due w (f ∷ fields)
unfolding spelled
put_due w f fields = append_assoc w.bytes (bytes_of Two w.last f) (spelled Two (last_behind w.last f) fields)

leaf_due : (n : ℕ) (w : Written) (l : Leaf) (more : List Field) → due (put w (leaf_field (cert_leaf_of n l))) more ≡ due w (tree_fields (cert_tree_of n (tip l)) ++ more)
unfolding tree_fields
leaf_due n w l more = put_due w (leaf_field (cert_leaf_of n l)) more

fork_due : (n : ℕ) (w : Written) (s : Split) (a b : SplitTree) (more : List Field) →
    due (put w (field.Split s)) (tree_fields (cert_tree_of n a) ++ (tree_fields (cert_tree_of n b) ++ more)) ≡ due w (tree_fields (cert_tree_of n (fork s a b)) ++ more)
unfolding tree_fields
fork_due n w s a b more =
    put_due w (field.Split s) (tree_fields (cert_tree_of n a) ++ (tree_fields (cert_tree_of n b) ++ more))
    ∙ ap (λ (x : List Field). due w (field.Split s ∷ x)) (sym (append_assoc (tree_fields (cert_tree_of n a)) (tree_fields (cert_tree_of n b)) more))

pub node_written : (n : ℕ) (nodes : List Node) (stack new : List NodeId) (node : NodeId) (w v : Written) (all : List ℕ) →
    ((s : Split) → split_at nodes node.0 ≡ Some s → v ≡ put w (field.Split s)) →
    ((l : Leaf) → leaf_at nodes node.0 ≡ Some l → v ≡ put w (leaf_field (cert_leaf_of n l))) →
    new ≡ stack ++ children_of (first_at nodes node.0) →
    Owes n nodes (stack ++ node ∷ []) w all → Owes n nodes new v all
node_written n nodes stack new node w v all split_put leaf_put grown owes = by_tree p.tree p.stands p.fields_are
  where
    p : Popped n nodes stack node owes.fields
    p = pop n nodes stack node owes.fields owes.waits

    by_tree : (t : SplitTree) → IsTreeOf nodes node.0 t → owes.fields ≡ tree_fields (cert_tree_of n t) ++ p.more → Owes n nodes new v all
    by_tree (tip l) s e =
        let q : v ≡ put w (leaf_field (cert_leaf_of n l)) = leaf_put l (leaf_by nodes node.0 s.0 (ends l) s.1 s.2) in
        let f : new ≡ stack = grown ∙ ap (λ (o : Option ℕ). stack ++ children_of o) (first_by nodes node.0 s.0 (ends l) s.1 s.2) ∙ append-nil stack in
        record {
          fields = p.more;
          waits = subst (λ (x : List NodeId). Waits n nodes x p.more) (sym f) p.waits;
          all_is = ap (λ (x : Written). due x p.more) q ∙ leaf_due n w l p.more ∙ ap (due w) (sym e) ∙ owes.all_is;
        }
    by_tree (fork sp a b) s e =
        let k = s.1 in
        let q : v ≡ put w (field.Split sp) = split_put sp (split_by nodes node.0 s.0 (forks sp k) s.2 s.3) in
        let f : new ≡ stack ++ children_of (Some k) = grown ∙ ap (λ (o : Option ℕ). stack ++ children_of o) (first_by nodes node.0 s.0 (forks sp k) s.2 s.3) in
        let second : NodeId = record { 0 = k + 1 } in
        let first : NodeId = record { 0 = k } in
        let fields = tree_fields (cert_tree_of n a) ++ (tree_fields (cert_tree_of n b) ++ p.more) in
        let waits = push n nodes (stack ++ second ∷ []) first a (tree_fields (cert_tree_of n b) ++ p.more) (push n nodes stack second b p.more p.waits s.5) s.4 in
        record {
          fields = fields;
          waits = subst (λ (x : List NodeId). Waits n nodes x fields) (append_assoc stack (second ∷ []) (first ∷ []) ∙ sym f) waits;
          all_is = ap (λ (x : Written). due x fields) q ∙ fork_due n w sp a b p.more ∙ ap (due w) (sym e) ∙ owes.all_is;
        }

-- ---- the stack gets lighter
twice : (m : ℕ) → 2 ^ suc m ≡ 2 ^ m + 2 ^ m
twice m = pow-suc 2 m ∙ omega arith

lighter_pair : (count n k : ℕ) → n < k → k + 1 < count → 2 ^ (count - (k + 1)) + 2 ^ (count - k) < 2 ^ (count - n)
lighter_pair count n k l h =
    let c : count - k ≡ suc (count - (k + 1)) = omega arith in
    let t = twice (count - (k + 1)) in
    let a = pow_pos (count - (k + 1)) in
    let m : suc (count - k) ≤ count - n = omega arith in
    let two : 0 < 2 = omega arith in
    let p = pow-le-pow_right {n = 2} two {i = suc (count - k)} {j = count - n} m in
    let u = twice (count - k) in
    let d = ap (λ (x : ℕ). 2 ^ x) c in
    omega (arith, p, u, d, t, a)

there : (xs : List Node) (i : ℕ) (x : Node) → slice_get xs i ≡ Some x → i < length xs
there [] i x h = absurd (none_some x h)
there (y ∷ xs) zero x h = omega arith
there (y ∷ xs) (suc i) x h = let r = there xs i x h in omega arith

pub lighter : (nodes : List Node) (stack new : List NodeId) (node : NodeId) → IsTree nodes → new ≡ stack ++ children_of (first_at nodes node.0) → weight_of (length nodes) new < weight_of (length nodes) (stack ++ node ∷ [])
lighter nodes stack new node is grown = by_look (looked nodes node.0)
  where
    weight : NodeId → ℕ
    weight x = 2 ^ (length nodes - x.0)

    old : weight_of (length nodes) (stack ++ node ∷ []) ≡ weight_of (length nodes) stack + weight node
    old = sum_by_push weight stack node

    none : first_at nodes node.0 ≡ None → weight_of (length nodes) new < weight_of (length nodes) (stack ++ node ∷ [])
    none e =
        let f : new ≡ stack = grown ∙ ap (λ (o : Option ℕ). stack ++ children_of o) e ∙ append-nil stack in
        let g = ap (weight_of (length nodes)) f in
        let p = pow_pos (length nodes - node.0) in
        let o = old in
        omega (arith, g, p, o)

    by_look : At nodes node.0 → weight_of (length nodes) new < weight_of (length nodes) (stack ++ node ∷ [])
    by_look (nothing h) = none (ap first_in h)
    by_look (leaf nd l h f) = none (first_by nodes node.0 nd (ends l) h f)
    by_look (split nd s k h f) =
        let c = is.children node.0 nd s k h f in
        let second : NodeId = record { 0 = k + 1 } in
        let first : NodeId = record { 0 = k } in
        let e : new ≡ (stack ++ second ∷ []) ++ first ∷ [] = grown ∙ ap (λ (o : Option ℕ). stack ++ children_of o) (first_by nodes node.0 nd (forks s k) h f) ∙ sym (append_assoc stack (second ∷ []) (first ∷ [])) in
        let g = ap (weight_of (length nodes)) e in
        let a = sum_by_push weight (stack ++ second ∷ []) first in
        let b = sum_by_push weight stack second in
        let t = there nodes (k + 1) c.second.node c.second.there in
        let p = lighter_pair (length nodes) node.0 k c.behind t in
        let o = old in
        omega (arith, g, a, b, p, o)
