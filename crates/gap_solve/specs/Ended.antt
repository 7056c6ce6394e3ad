-- When the search of a weight has ended, so that its tree shows what is known of the weight. Own to portgap.

use Rattle.std.specs.Prelude.{◌≡◌, ℕ, ◌≤◌, List, Option, Some, ℤ, unsigned_abs}
use Rattle.std.specs.Option.{ForSome}
use Rattle.gap_base.specs.declared.witness.Witness.{Witness}
use Rattle.gap_base.specs.Sizes.{most_bound}
use Rattle.gap_box.specs.declared.cell.Cell.{Cell}
use Rattle.gap_box.specs.Parts.{root_cells}
use Rattle.gap_instance.specs.Instances.{InstanceValue}
use Rattle.gap_model.specs.declared.leaf.Leaf.{Leaf}
use Rattle.gap_model.specs.declared.outcome.Outcome.{Outcome}
use Rattle.gap_model.specs.declared.outcome.Outcome.TheVariants.{Closed, NoPortfolio, Bounded}
use Rattle.gap_model.specs.declared.shown.Shown.{Shown}
use Rattle.gap_model.specs.declared.shown.Shown.TheVariants.{AtLeast, Empty}
use Rattle.gap_model.specs.Settings.{Setting}
use Rattle.gap_model.specs.Order.{ShownLe}
use Rattle.gap_model.specs.Problems.{tangent_problem}
use Rattle.gap_model.specs.Nodes.{Node, splits_of, part_at, leaf_at, IsTree}
use Rattle.gap_model.specs.Outcomes.{IsPortfolio, IsFoundAbove}
use Rattle.gap_search.specs.Boards.{FitsPart, AllShow, IsShown}
use Rattle.gap_cert.specs.Certificates.{CertHead, CertSection}
use Rattle.gap_valid.specs.Heads.{instance_in, shift_in}
use Rattle.gap_valid.specs.CertTrees.{greater_shown, overall_shows, IsWitness}
use Rattle.gap_valid.specs.Valid.{IsValidSection}
use Rattle.gap_solved.specs.Solveds.{SolvedValue}

-- the part of all lists between the limits of the assets
abbrev pub root_of : Setting → List Cell
root_of s = root_cells s.instance.least s.instance.greatest

-- the nodes are a tree of the root, whose leaves are in range and tight, and has at most so many splits
pub record IsSearched (s : Setting) (nodes : ℕ) (tree : List Node) : Type 0 where
  pub tree_is : IsTree tree
  pub root : part_at tree 0 ≡ root_of s
  pub leaves : (n : ℕ) (leaf : Leaf) → leaf_at tree n ≡ Some leaf → FitsPart (tangent_problem s) (part_at tree n) leaf
  pub within : splits_of tree ≤ nodes

-- the greater of the least that the leaves show and of what the witness for the whole root shows
abbrev pub shown_with : Setting → Option Witness → Shown → Shown
shown_with s overall least = greater_shown (overall_shows s (root_of s) overall) least

-- each leaf shows at least the least, and this or the witness for the whole root shows a number
pub record ShowsNumber (s : Setting) (tree : List Node) (overall : Option Witness) (number : ℤ) : Type 0 where
  pub least : Shown
  pub each : AllShow (tangent_problem s) tree least
  pub number_is : ShownLe (AtLeast number) (shown_with s overall least)

-- exactly this number is the greater of the least that a leaf shows and of what the witness for the whole root shows
pub record ShowsJust (s : Setting) (tree : List Node) (overall : Option Witness) (number : ℤ) : Type 0 where
  pub least : ℤ
  pub each : AllShow (tangent_problem s) tree (AtLeast least)
  pub one : IsShown (tangent_problem s) tree least
  pub number_is : shown_with s overall (AtLeast least) ≡ AtLeast number

-- an outcome is what a tree and the witness for the whole root show: closed with a portfolio of which the objective is
-- shown; none where every leaf shows that there is none; bounded by just the number that is shown, which the portfolio
-- that was found, if one was, is above, after the whole budget of splits
abbrev pub IsTold : Setting → ℕ → List Node → Option Witness → Outcome → Type 0
IsTold s nodes tree overall (Closed best) = IsPortfolio s.instance s.p s.q best × ShowsNumber s tree overall best.value
IsTold s nodes tree overall NoPortfolio = AllShow (tangent_problem s) tree Empty
IsTold s nodes tree overall (Bounded best bound) =
    IsFoundAbove s.instance s.p s.q bound best × ShowsJust s tree overall bound × (unsigned_abs bound ≤ most_bound)
    × (splits_of tree ≡ nodes)

-- the search of a weight has ended
pub record HasEnded (s : Setting) (nodes : ℕ) (solved : SolvedValue) : Type 0 where
  pub p_is : solved.weight.p ≡ s.p
  pub q_is : solved.weight.q ≡ s.q
  pub q_least : 1 ≤ s.q
  pub q_most : s.q ≤ 100
  pub p_most : s.p ≤ s.q
  pub searched : IsSearched s nodes solved.nodes
  pub overall_is : ForSome solved.overall (IsWitness s.instance)
  pub told : IsTold s nodes solved.nodes solved.overall solved.outcome

-- a section is valid under each head of this instance, these numbers D and this budget
abbrev pub IsValidWhere : InstanceValue → List ℤ → ℕ → CertSection → Type 0
IsValidWhere I diagonal nodes section =
    (h : CertHead) → instance_in h ≡ I → (shift_in h).diagonal ≡ diagonal → h.nodes ≡ nodes → IsValidSection h section
