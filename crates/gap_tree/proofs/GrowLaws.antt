-- The part of a node is the root's with the decisions above the node, in any order.

use Rattle.std.proofs.Common.{◌≡◌, ℕ, zero, suc, ◌+◌, ◌<◌, ◌≤◌, List, [], ◌∷◌, ◌++◌, length, map, slice_get, slice_index_or, Option, Some, None, refl, sym, ap, ◌∙◌, arith, subst}
use Rattle.std.proofs.lemmas.List.{map_push, get_or_push, length_push, get_or_append_left}
use Rattle.gap_box.specs.declared.cell.Cell.{Cell}
use Rattle.gap_box.specs.declared.split.Split.{Split}
use Rattle.gap_box.specs.declared.split.Side.{Side}
use Rattle.gap_box.specs.Narrow.{narrowed}
use Rattle.gap_box.proofs.NarrowLaws.{narrowed_commutes}
use Rattle.gap_tree.specs.declared.link.Up.{Up}
use Rattle.gap_tree.specs.declared.link.Link.{Link}
use Rattle.gap_tree.specs.Links.{up_at, part_from, grown, ups_of, parts_of, IsBefore, AreOrdered}

pub length-grown : (root : List Cell) (parts : List (List Cell)) (ups : List (Option Up)) → length (grown root parts ups) ≡ length parts + length ups
length-grown root parts [] = omega arith
length-grown root parts (up ∷ ups) = let e = length-grown root (parts ++ part_from root parts up ∷ []) ups in let f = length_push parts (part_from root parts up) in omega arith

pub grown-append : (root : List Cell) (parts : List (List Cell)) (ups vs : List (Option Up)) → grown root parts (ups ++ vs) ≡ grown root (grown root parts ups) vs
grown-append root parts [] vs = refl
grown-append root parts (up ∷ ups) vs = grown-append root (parts ++ part_from root parts up ∷ []) ups vs

-- the parts that were there stay
pub grown_front : (root : List Cell) (parts : List (List Cell)) (ups : List (Option Up)) (m : ℕ) → m < length parts → slice_index_or (grown root parts ups) m root ≡ slice_index_or parts m root
grown_front root parts [] m h = refl
grown_front root parts (up ∷ ups) m h =
    let p = part_from root parts up in
    let f = length_push parts p in
    grown_front root (parts ++ p ∷ []) ups m (omega arith) ∙ get_or_append_left parts (p ∷ []) root m h

-- a decision from a node before reads a part that stays
from_front : (root : List Cell) (parts : List (List Cell)) (ups : List (Option Up)) (up : Option Up) → IsBefore up (length parts) → part_from root parts up ≡ part_from root (grown root parts ups) up
from_front root parts ups None h = refl
from_front root parts ups (Some up) h = ap (λ c. narrowed c up.split up.side) (sym (grown_front root parts ups up.parent.0 h))

abbrev pub up_place : Option (Option Up) → Option Up
up_place None = None
up_place (Some up) = up

-- each decision comes from a node before, where the list begins at the place n
abbrev BeforeFrom : ℕ → List (Option Up) → Type 0
BeforeFrom n ups = (i : ℕ) → IsBefore (up_place (slice_get ups i)) (n + i)

before_rest : (n : ℕ) (up : Option Up) (ups : List (Option Up)) → BeforeFrom n (up ∷ ups) → BeforeFrom (n + 1) ups
before_rest n up ups h i = let e : n + suc i ≡ n + 1 + i = omega arith in subst (λ m. IsBefore (up_place (slice_get ups i)) m) e (h (suc i))

-- the part in a place is the one by the decision that leads to it, over all parts
grown_at : (root : List Cell) (parts : List (List Cell)) (ups : List (Option Up)) → BeforeFrom (length parts) ups → (i : ℕ) → i < length ups → slice_index_or (grown root parts ups) (length parts + i) root ≡ part_from root (grown root parts ups) (up_place (slice_get ups i))
grown_at root parts [] h i p = absurd (omega arith)
grown_at root parts (up ∷ ups) h zero p =
    let q = part_from root parts up in
    let f = length_push parts q in
    let e : length parts + 0 ≡ length parts = omega arith in
    let b : IsBefore up (length parts) = subst (λ m. IsBefore up m) e (h 0) in
    ap (λ m. slice_index_or (grown root parts (up ∷ ups)) m root) e
    ∙ grown_front root (parts ++ q ∷ []) ups (length parts) (omega arith)
    ∙ get_or_push parts q root (length parts) refl
    ∙ from_front root parts (up ∷ ups) up b
grown_at root parts (up ∷ ups) h (suc i) p =
    let q = part_from root parts up in
    let f = length_push parts q in
    let e : length parts + suc i ≡ length (parts ++ q ∷ []) + i = omega arith in
    let b : BeforeFrom (length (parts ++ q ∷ [])) ups = subst (λ m. BeforeFrom m ups) (sym f) (before_rest (length parts) up ups h) in
    ap (λ m. slice_index_or (grown root parts (up ∷ ups)) m root) e
    ∙ grown_at root (parts ++ q ∷ []) ups b i (omega arith)

pub up_place_map : (links : List Link) (i : ℕ) → up_place (slice_get (ups_of links) i) ≡ up_at links i
up_place_map [] i = refl
up_place_map (link ∷ links) zero = refl
up_place_map (link ∷ links) (suc i) = up_place_map links i

pub length-ups : (links : List Link) → length (ups_of links) ≡ length links
length-ups [] = refl
length-ups (link ∷ links) = ap suc (length-ups links)

before_all : (links : List Link) → AreOrdered links → BeforeFrom 0 (ups_of links)
before_all links h i = let e : i ≡ 0 + i = omega arith in subst (λ m. IsBefore (up_place (slice_get (ups_of links) i)) m) e (subst (λ u. IsBefore u i) (sym (up_place_map links i)) (h.each i))

-- the part of a node is the one by the decision that leads to it
pub part_at_place : (root : List Cell) (links : List Link) → AreOrdered links → (n : ℕ) → n < length links → slice_index_or (parts_of root links) n root ≡ part_from root (parts_of root links) (up_at links n)
part_at_place root links h n p =
    let e = length-ups links in
    let z : n ≡ 0 + n = omega arith in
    ap (λ m. slice_index_or (parts_of root links) m root) z ∙ grown_at root [] (ups_of links) (before_all links h) n (omega arith) ∙ ap (part_from root (parts_of root links)) (up_place_map links n)

pub length-parts : (root : List Cell) (links : List Link) → length (parts_of root links) ≡ length links
length-parts root links = let e = length-grown root [] (ups_of links) in let f = length-ups links in omega arith

pub get_or-mapped : {X Y : Type 0} (f : X → Y) (xs : List X) (i : ℕ) (d : X) → slice_index_or (map f xs) i (f d) ≡ f (slice_index_or xs i d)
get_or-mapped f [] i d = refl
get_or-mapped f (x ∷ xs) zero d = refl
get_or-mapped f (x ∷ xs) (suc i) d = get_or-mapped f xs i d

narrow_from : (root : List Cell) (parts : List (List Cell)) (s : Split) (a : Side) (up : Option Up) → part_from (narrowed root s a) (map (λ c. narrowed c s a) parts) up ≡ narrowed (part_from root parts up) s a
narrow_from root parts s a None = refl
narrow_from root parts s a (Some up) =
    ap (λ c. narrowed c up.split up.side) (get_or-mapped (λ c. narrowed c s a) parts up.parent.0 root)
    ∙ narrowed_commutes (slice_index_or parts up.parent.0 root) s a up.split up.side

-- narrowing the root narrows each part
narrow_grown : (root : List Cell) (parts : List (List Cell)) (s : Split) (a : Side) (ups : List (Option Up)) → grown (narrowed root s a) (map (λ c. narrowed c s a) parts) ups ≡ map (λ c. narrowed c s a) (grown root parts ups)
narrow_grown root parts s a [] = refl
narrow_grown root parts s a (up ∷ ups) =
    let f : List Cell → List Cell = λ c. narrowed c s a in
    let p = part_from root parts up in
    ap (λ q. grown (narrowed root s a) (map f parts ++ q ∷ []) ups) (narrow_from root parts s a up)
    ∙ ap (λ l. grown (narrowed root s a) l ups) (sym (map_push f parts p))
    ∙ narrow_grown root (parts ++ p ∷ []) s a ups

-- a step up: the decision may be done on the root, and the parent's is still to be done
pub climb_step : (root : List Cell) (links : List Link) (up : Up) → AreOrdered links → up.parent.0 < length links → part_from (narrowed root up.split up.side) (parts_of (narrowed root up.split up.side) links) (up_at links up.parent.0) ≡ part_from root (parts_of root links) (Some up)
climb_step root links up h p =
    let s = up.split in
    let a = up.side in
    let c = narrowed root s a in
    sym (part_at_place c links h up.parent.0 p)
    ∙ ap (λ l. slice_index_or l up.parent.0 c) (narrow_grown root [] s a (ups_of links))
    ∙ get_or-mapped (λ q. narrowed q s a) (parts_of root links) up.parent.0 root

before_more : (up : Option Up) (m n : ℕ) → m ≤ n → IsBefore up m → IsBefore up n
before_more None m n p h = tt
before_more (Some up) m n p h = omega arith

-- each decision comes from a node of the list
pub before_end : (links : List Link) (n : ℕ) → AreOrdered links → n < length links → IsBefore (up_at links n) (length links)
before_end links n h p = before_more (up_at links n) n (length links) (omega arith) (h.each n)
