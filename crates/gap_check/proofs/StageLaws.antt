-- What comes next by the grammar is due, and leads from stage to stage.
use Rattle.std.proofs.Common.{◌≡◌, ℕ, List, refl}
use Rattle.gap_cert.specs.declared.field.Group.{Group}
use Rattle.gap_cert.specs.declared.context.Phase.{Phase}
use Rattle.gap_cert.specs.declared.context.Phase.TheVariants as phase
use Rattle.gap_cert.specs.declared.context.Context.{Context}
use Rattle.gap_cert.specs.Formats.{Spells}
use Rattle.gap_cert.specs.Contexts.{format_of, start}
use Rattle.gap_judge.specs.Progress.{Progress, fresh_progress}
use Rattle.gap_check.specs.Stages.{IsStage, EndsAt, IsAt}
use Rattle.gap_check.proofs.Nexts.{IsLastAt, Next, next_is}
use Rattle.gap_check.proofs.HeadStages.{Goes, head_goes, assets_go, correlations_go, factor_goes, diagonal_goes, sections_go}
use Rattle.gap_check.proofs.SectionStages.{start_goes, portfolio_goes, objective_goes, bound_goes, overall_goes, node_goes, end_goes}

pub last_at : (q : Phase) (c : Context) (p : Progress) → IsStage q c p → IsLastAt q c
unfolding IsStage
last_at phase.Head c p s = tt
last_at phase.Assets c p s = tt
last_at phase.Correlations c p s = tt
last_at phase.Factor c p s = tt
last_at phase.Diagonal c p s = tt
last_at phase.Sections c p s = tt
last_at phase.Section c p s = tt
last_at phase.Portfolio c p s = tt
last_at phase.Objective c p s = tt
last_at phase.Bound c p s = tt
last_at phase.Overall c p s = tt
last_at phase.Node c p s = s.last_is
last_at phase.End c p s = tt
last_at phase.Over c p s = tt

goes_by : (q : Phase) (c : Context) (p : Progress) (g : Group) → c.phase ≡ q → IsStage q c p → EndsAt q p → Next q c g → Goes c p g
unfolding IsStage
goes_by phase.Head c p g e s t n = head_goes c p g s n
goes_by phase.Assets c p g e s t n = assets_go c p g e t s.0 s.1 n
goes_by phase.Correlations c p g e s t n = correlations_go c p g e t s.0 s.1 n
goes_by phase.Factor c p g e s t n = factor_goes c p g e t s.0 s.1 n
goes_by phase.Diagonal c p g e s t n = diagonal_goes c p g e t s.0 s.1 n
goes_by phase.Sections c p g e s t n = sections_go c p g t s n
goes_by phase.Section c p g e s t n = start_goes c p g t s n
goes_by phase.Portfolio c p g e s t n = portfolio_goes c p g t s.0 s.1 n
goes_by phase.Objective c p g e s t n = objective_goes c p g t s.0 s.1 s.2 n
goes_by phase.Bound c p g e s t n = bound_goes c p g t s.0 s.1 n
goes_by phase.Overall c p g e s t n = overall_goes c p g t s.0 n
goes_by phase.Node c p g e s t n = node_goes c p g e t s n
goes_by phase.End c p g e s t n = end_goes c p g s n
goes_by phase.Over c p g e s t n = absurd n

pub goes : (c : Context) (p : Progress) (g : Group) (bytes : List ℕ) → IsAt c p → Spells (format_of c c.phase) g bytes → Goes c p g
goes c p g bytes i h = goes_by c.phase c p g refl i.stage i.ends (next_is c g bytes (last_at c.phase c p i.stage) h)

pub starts_at : IsAt start fresh_progress
unfolding start fresh_progress IsStage
starts_at = record { stage = refl; ends = refl }
