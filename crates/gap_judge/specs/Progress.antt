-- What the items of a certificate so far say, and what they say with one item more. Own to portgap.

use Rattle.std.specs.Prelude.{ℕ, ◌+◌, ◌==◌, ◌||◌, if◌then◌else◌, Bool, true, false, List, [], ◌∷◌, ◌++◌, drop, Option, Some, None, ℤ, pos}
use Rattle.gap_base.specs.declared.weight.Weight.{Weight}
use Rattle.gap_box.specs.declared.cell.Cell.{Cell}
use Rattle.gap_model.specs.declared.outcome.Best.{Best}
use Rattle.gap_model.specs.declared.outcome.Outcome.{Outcome}
use Rattle.gap_model.specs.declared.outcome.Outcome.TheVariants.{Closed, NoPortfolio, Bounded}
use Rattle.gap_model.specs.declared.outcome.Told.{Told}
use Rattle.gap_model.specs.declared.shown.Shown.{Shown}
use Rattle.gap_model.specs.declared.shown.Shown.TheVariants.{Nothing, Empty}
use Rattle.gap_model.specs.Settings.{Setting}
use Rattle.gap_cert.specs.declared.field.Field.{Field}
use Rattle.gap_cert.specs.declared.field.Field.TheVariants as field
use Rattle.gap_cert.specs.Certificates.{AssetLine, CertHead, CertLeaf, count, void, tangent}
use Rattle.gap_judge.specs.Walks.{splits_first}
use Rattle.gap_valid.specs.Heads.{setting_in, root_in}
use Rattle.gap_valid.specs.CertTrees.{leaf_shows, lesser_shown, overall_shows}

-- what the items so far say: the head as far as it was read; what is told of the sections before the present one; of the
-- present one its weight, its outcome (1 closed, 2 none, 3 open, 4 open without a portfolio), its portfolio, that with its
-- objective, its bound, and what its witness for the whole root shows; the parts of its tree's nodes that are to come, how
-- many splits came, and the least that a leaf showed; and whether the end mark came
pub record Progress : Type 0 where
  pub head : CertHead
  pub told : List Told
  pub weight : Weight
  pub outcome : ℕ
  pub lots : List ℕ
  pub best : Option Best
  pub bound : ℤ
  pub overall : Shown
  pub parts : List (List Cell)
  pub splits : ℕ
  pub least : Shown
  pub ended : Bool

-- a head of which nothing was read
abbrev pub fresh_head : CertHead
fresh_head = record {
  n = 2;
  lots = 1;
  held = 1;
  held_most = 1;
  turnover = None;
  nodes = 0;
  assets = [];
  correlations = [];
  factor = [];
  diagonal = [];
}

-- before the first item
unfoldable pub fresh_progress : Progress
fresh_progress = record {
  head = fresh_head;
  told = [];
  weight = record { p = 0; q = 1 };
  outcome = 2;
  lots = [];
  best = None;
  bound = pos 0;
  overall = Nothing;
  parts = [];
  splits = 0;
  least = Empty;
  ended = false;
}

-- a head with one item more
abbrev pub with_asset : CertHead → AssetLine → CertHead
with_asset h a = record h { assets = h.assets ++ a ∷ [] }

abbrev pub with_correlation : CertHead → ℤ → CertHead
with_correlation h rho = record h { correlations = h.correlations ++ rho ∷ [] }

abbrev pub with_factor : CertHead → ℤ → CertHead
with_factor h r = record h { factor = h.factor ++ r ∷ [] }

abbrev pub with_diagonal : CertHead → ℤ → CertHead
with_diagonal h d = record h { diagonal = h.diagonal ++ d ∷ [] }

-- is this the outcome of an open section?
abbrev pub is_open_outcome : ℕ → Bool
is_open_outcome outcome = (outcome == 3) || (outcome == 4)

-- what the bounds of the present section are taken over
abbrev pub setting_now : Progress → Setting
setting_now p = setting_in p.head p.weight

-- the part of a list of parts that comes first
abbrev pub first_part : List (List Cell) → List Cell
first_part [] = []
first_part (part ∷ parts) = part

-- the leaf that comes next, shown at the part where it stands
abbrev pub shown_next : Progress → CertLeaf → Shown
shown_next p leaf = leaf_shows (setting_now p) (first_part p.parts) leaf

-- behind a node that is a leaf and shows so much
abbrev pub with_shown : Progress → Shown → Progress
with_shown p shown = record p { parts = drop 1 p.parts; least = lesser_shown p.least shown }

-- with a leaf more in the tree
abbrev pub with_leaf : Progress → CertLeaf → Progress
with_leaf p leaf = with_shown p (shown_next p leaf)

-- a closed section has a portfolio
abbrev pub closed_outcome : Option Best → Outcome
closed_outcome None = NoPortfolio
closed_outcome (Some best) = Closed best

-- the value of a portfolio, where there is one
abbrev pub value_or_none : Option Best → Option ℤ
value_or_none None = None
value_or_none (Some best) = Some best.value

-- what the present section claims to show: its objective where it is closed, its bound where it is open; nothing where it
-- says that no list meets the limits
abbrev pub claimed_now : Progress → Option ℤ
claimed_now p = if p.outcome == 1 then value_or_none p.best else (if is_open_outcome p.outcome then Some p.bound else None)

-- the outcome of the present section
abbrev pub outcome_now : Progress → Outcome
outcome_now p =
    if p.outcome == 1 then closed_outcome p.best
    else (if p.outcome == 2 then NoPortfolio else Bounded p.best p.bound)

-- with the present section told
abbrev pub with_told : Progress → Progress
with_told p = record p { told = p.told ++ (record { weight = p.weight; outcome = outcome_now p }) ∷ [] }

-- where the tree is whole the section is told
abbrev pub told_when : List (List Cell) → Progress → Progress
told_when [] p = with_told p
told_when (part ∷ parts) p = p

-- the same, and where the tree is whole the section is told
unfoldable pub behind_shown : Progress → Shown → Progress
behind_shown p shown = told_when (drop 1 p.parts) (with_shown p shown)

-- behind a leaf
abbrev pub behind_leaf : Progress → CertLeaf → Progress
behind_leaf p leaf = behind_shown p (shown_next p leaf)

-- behind the first item of a section: its tree begins at the root
unfoldable pub section_begun : Progress → Weight → ℕ → Progress
section_begun p weight outcome = record p {
  weight = weight;
  outcome = outcome;
  lots = [];
  best = None;
  bound = pos 0;
  overall = Nothing;
  parts = root_in p.head ∷ [];
  splits = 0;
  least = Empty;
}

-- behind one item more
unfoldable pub progress_behind : Progress → Field → Progress
progress_behind p (field.Head n lots held held_most turnover nodes) =
    record p {
      head = record p.head
          { n = n; lots = lots; held = held; held_most = held_most; turnover = turnover; nodes = nodes };
    }
progress_behind p (field.Asset mean dev least greatest present) =
    record p {
      head = with_asset p.head
          (record { mean = mean; dev = dev; least = least; greatest = greatest; present = present });
    }
progress_behind p (field.Correlation rho) = record p { head = with_correlation p.head rho }
progress_behind p (field.FactorEntry r) = record p { head = with_factor p.head r }
progress_behind p (field.ShiftEntry d) = record p { head = with_diagonal p.head d }
progress_behind p (field.Sections number) = p
progress_behind p (field.SectionStart a b outcome) = section_begun p (record { p = a; q = b }) outcome
progress_behind p (field.Portfolio x) = record p { lots = x }
progress_behind p (field.Objective value) = record p { best = Some (record { lots = p.lots; value = value }) }
progress_behind p (field.Bound value) = record p { bound = value }
progress_behind p (field.Overall w) = record p { overall = overall_shows (setting_now p) (root_in p.head) w }
progress_behind p field.CountLeaf = behind_leaf p count
progress_behind p (field.VoidLeaf alpha tau) = behind_leaf p (void alpha tau)
progress_behind p (field.TangentLeaf w) = behind_leaf p (tangent w)
progress_behind p (field.Split split) = record p { splits = p.splits + 1; parts = splits_first p.parts split }
progress_behind p field.End = record p { ended = true }
