-- What a certificate is: the numbers of its head, and its sections, each with a tree. Own to portgap.

use Rattle.std.specs.Prelude.{◌≡◌, ℕ, List, [], ◌∷◌, ◌++◌, map, length, Option, Some, None, ℤ}
use Rattle.gap_base.specs.declared.witness.Witness.{Witness}
use Rattle.gap_base.specs.declared.weight.Weight.{Weight}
use Rattle.gap_box.specs.declared.split.Split.{Split}
use Rattle.gap_model.specs.declared.outcome.Best.{Best}
use Rattle.gap_model.specs.declared.outcome.Outcome.{Outcome}
use Rattle.gap_model.specs.declared.outcome.Outcome.TheVariants.{Closed, NoPortfolio, Bounded}
use Rattle.gap_cert.specs.declared.field.Version.{Version}
use Rattle.gap_cert.specs.declared.field.Field.{Field}
use Rattle.gap_cert.specs.declared.field.Field.TheVariants as field
use Rattle.gap_cert.specs.declared.field.Group.{Group}
use Rattle.gap_cert.specs.declared.context.Phase.TheVariants as phase
use Rattle.gap_cert.specs.declared.context.Context.{Context}
use Rattle.gap_cert.specs.Contexts.{start, Runs}
use Rattle.gap_cert.specs.Fields.{bytes_of}

-- a leaf of a certificate's tree
pub data CertLeaf : Type 0 where
  count : CertLeaf
  void : (alpha tau : ℤ) → CertLeaf
  tangent : Witness → CertLeaf

-- a tree of a certificate
pub data CertTree : Type 0 where
  tip : CertLeaf → CertTree
  fork : Split → CertTree → CertTree → CertTree

-- what is said of an asset: its mean and deviation in millionths, its least, greatest and present lots
pub record AssetLine : Type 0 where
  pub mean : ℤ
  pub dev : ℕ
  pub least : ℕ
  pub greatest : ℕ
  pub present : ℕ

-- the head: the number of assets, the lots, the fewest and the most assets to hold, the limit on turnover, the budget of
-- splits, the assets, the correlations of the pairs i < j by i and then j, the rows R_i1 to R_ii of the shift, and its D
pub record CertHead : Type 0 where
  pub n : ℕ
  pub lots : ℕ
  pub held : ℕ
  pub held_most : ℕ
  pub turnover : Option ℕ
  pub nodes : ℕ
  pub assets : List AssetLine
  pub correlations : List ℤ
  pub factor : List ℤ
  pub diagonal : List ℤ

-- what a section claims of its weight, with a witness for the whole root where one is given: a portfolio that none is
-- below, that no list meets the limits, a portfolio and a bound, or a bound alone
pub data CertClaim : Type 0 where
  closed : Best → Option Witness → CertClaim
  none : CertClaim
  open_at : Best → (bound : ℤ) → Option Witness → CertClaim
  unfound : (bound : ℤ) → Option Witness → CertClaim

-- a section: its weight, what it claims of it, and its tree
pub record CertSection : Type 0 where
  pub weight : Weight
  pub claim : CertClaim
  pub tree : CertTree

pub record Certificate : Type 0 where
  pub head : CertHead
  pub sections : List CertSection

abbrev pub leaf_field : CertLeaf → Field
leaf_field count = field.CountLeaf
leaf_field (void alpha tau) = field.VoidLeaf alpha tau
leaf_field (tangent w) = field.TangentLeaf w

-- the items of a tree: a leaf, or a split and then the trees of its first and its second side
unfoldable pub tree_fields : CertTree → List Field
tree_fields (tip leaf) = leaf_field leaf ∷ []
tree_fields (fork split first second) = field.Split split ∷ (tree_fields first ++ tree_fields second)

-- the number that names a claim: 1 closed, 2 none, 3 open, 4 open without a portfolio
abbrev pub claim_number : CertClaim → ℕ
claim_number (closed best overall) = 1
claim_number none = 2
claim_number (open_at best bound overall) = 3
claim_number (unfound bound overall) = 4

-- the items of a claim
abbrev pub claim_fields : CertClaim → List Field
claim_fields (closed best overall) = field.Portfolio best.lots ∷ field.Objective best.value ∷ field.Overall overall ∷ []
claim_fields none = []
claim_fields (open_at best bound overall) =
    field.Portfolio best.lots ∷ field.Objective best.value ∷ field.Bound bound ∷ field.Overall overall ∷ []
claim_fields (unfound bound overall) = field.Bound bound ∷ field.Overall overall ∷ []

-- the claim that an outcome makes
abbrev pub claim_of : Outcome → Option Witness → CertClaim
claim_of (Closed best) overall = closed best overall
claim_of NoPortfolio overall = none
claim_of (Bounded (Some best) bound) overall = open_at best bound overall
claim_of (Bounded None bound) overall = unfound bound overall

-- the items of a section before its tree
abbrev pub opening_fields : Weight → CertClaim → List Field
opening_fields weight claim = field.SectionStart weight.p weight.q (claim_number claim) ∷ claim_fields claim

-- the items of a section
unfoldable pub section_fields : CertSection → List Field
section_fields s = opening_fields s.weight s.claim ++ tree_fields s.tree

-- the items of all sections
unfoldable pub sections_fields : List CertSection → List Field
sections_fields [] = []
sections_fields (s ∷ sections) = section_fields s ++ sections_fields sections

abbrev pub asset_field : AssetLine → Field
asset_field a = field.Asset a.mean a.dev a.least a.greatest a.present

-- the items of a head
unfoldable pub head_fields : CertHead → List Field
head_fields h =
    field.Head h.n h.lots h.held h.held_most h.turnover h.nodes
    ∷ (map asset_field h.assets ++ map field.Correlation h.correlations
    ++ map field.FactorEntry h.factor ++ map field.ShiftEntry h.diagonal)

-- the items of a certificate in order
unfoldable pub fields_of : Certificate → List Field
fields_of c = head_fields c.head ++ (field.Sections (length c.sections) ∷ (sections_fields c.sections ++ field.End ∷ []))

abbrev pub group_in : Version → Field → Group
group_in version f = record { version = version; field = f }

-- bytes are the encoding of a certificate in a version: they spell its items one behind another, by the grammar, to its end
pub record Encodes (version : Version) (bytes : List ℕ) (c : Certificate) : Type 0 where
  pub end : Context
  pub run : Runs start (map (group_in version) (fields_of c)) end bytes
  pub over : end.phase ≡ phase.Over

-- the witness of the last tangent leaf behind an item
abbrev pub last_behind : Option Witness → Field → Option Witness
last_behind last (field.TangentLeaf w) = Some w
last_behind last (field.SectionStart p q outcome) = None
last_behind last _ = last

-- the bytes of items one behind another
unfoldable pub spelled : Version → Option Witness → List Field → List ℕ
spelled version last [] = []
spelled version last (f ∷ fields) = bytes_of version last f ++ spelled version (last_behind last f) fields

-- the bytes of a certificate in a version
abbrev pub spelling : Version → Certificate → List ℕ
spelling version c = spelled version None (fields_of c)
