use Rattle.std.proofs.Common.{◌≡◌, ◌∷◌, [], ◌++◌, List, ap, ◌∙◌, append_assoc}
use Rattle.gap_tree.specs.declared.link.Link.{Link}
use Rattle.gap_tree.proofs.link.split_links.Goals as goal

two_pushes : (ws xs ys zs : List Link) (a b p q : Link) → xs ≡ ws → ys ≡ xs ++ a ∷ [] → zs ≡ ys ++ b ∷ [] → a ≡ p → b ≡ q → zs ≡ ws ++ p ∷ q ∷ []
two_pushes ws xs ys zs a b p q d e f g h = f ∙ ap (λ l. l ++ b ∷ []) e ∙ append_assoc xs (a ∷ []) (b ∷ []) ∙ ap (λ r. xs ++ r ∷ b ∷ []) g ∙ ap (λ r. xs ++ p ∷ r ∷ []) h ∙ ap (λ l. l ++ p ∷ q ∷ []) d

pub returns-clause-links : goal.returns-clause-links
returns-clause-links c =
    let h = c.put_first.ensures.links in
    (h.0, h.1, two_pushes _ _ _ _ _ _ _ _ h.2 c.push_reserved.ensures.items c.push_reserved-2.ensures.items c.leaf_below.ensures c.leaf_below-2.ensures)
