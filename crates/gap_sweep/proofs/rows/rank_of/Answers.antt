use Rattle.std.proofs.Common.{ℕ, List, Some, slice_get, subst, ◌≡◌, ◌↔◌, IsTrue, length, ◌<◌, ap, sym, ◌∙◌}
use Rattle.std.proofs.lemmas.Option.{slice_get_within}
use Rattle.gap_model.specs.declared.front.FrontRow.{FrontRow}
use Rattle.gap_model.specs.Fronts.{IsEfficient}
use Rattle.gap_sweep.proofs.RowLaws.{ranked}
use Rattle.gap_sweep.proofs.rows.rank_of.Goals as goal

pub efficient-requires : goal.efficient-requires
efficient-requires c = subst (λ (x : List FrontRow). c.args.k < length x) (sym c.deref.ensures.value) (slice_get_within c.args.carried.now.rows.items c.args.k c.args.row c.requires)

pub returns : goal.returns
returns c = ranked c.args.carried.now.rows.items c.args.k c.args.row c.efficient.result c.requires
    (subst (λ (x : List FrontRow). IsTrue c.efficient.result ↔ IsEfficient x c.args.k) c.deref.ensures.value c.efficient.ensures)
