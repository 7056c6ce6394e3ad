use Rattle.std.proofs.Common.{◌≡◌, ap, ◌∙◌, subst}
use Rattle.gap_box.specs.declared.split.Side.TheVariants.{First, Second}
use Rattle.gap_box.specs.Splits.{child_cells}
use Rattle.gap_search.specs.Boards.{Board, State}
use Rattle.gap_search.specs.Steps.{gives_back, release}
use Rattle.gap_search.specs.Driven.{IsBranch}
use Rattle.gap_search.proofs.DrivenLaws.{run_one, driven_run, driven_on, driven_settle, settled_count, branch_fits, best_count}
use Rattle.gap_search.proofs.rounds.settle_next.Goals as goal

pub returns-in_Ok-branch-clause-driven : goal.returns-in_Ok-branch-clause-driven
returns-in_Ok-branch-clause-driven g c =
    let problem = g.B.NodeBound.problem in
    let allows = g.G.Guide.allows in
    let fits = g.G.Guide.fits in
    let u = c.args.search.now.bound in
    let b = c.args.search.now.board in
    let ticket = c.in-Some.ticket in
    let said = c.in_Ok-branch.branch in
    let split = said.split in
    let first = said.first.leaf in
    let second = said.second.leaf in
    let branch = subst (λ (z : g.row.B.Denot). IsBranch (problem z) ticket.part c.leaf-leaf.result said) c.bound.ensures c.in_Ok-branch.ensures.branch in
    let allowed = subst (λ (z : g.row.B.Denot). allows z ticket.part split) c.bound.ensures c.in_Ok-branch.ensures.allowed in
    let one = subst (λ (z : g.row.B.Denot). fits z (child_cells ticket.part split First) first) c.bound.ensures c.in_Ok-branch.ensures.fits_first in
    let two = subst (λ (z : g.row.B.Denot). fits z (child_cells ticket.part split Second) second) c.bound.ensures c.in_Ok-branch.ensures.fits_second in
    let both = branch_fits (problem u) b ticket c.leaf-leaf.result said c.leaf-leaf.ensures.there branch in
    let settled = driven_settle (allows u) (fits u) (problem u) b c.inner-inner.ensures.sound ticket c.in-Some.ensures.holds split branch.lawful first second c.settle.new.self.board c.settle.ensures.step allowed one two both.0 both.1 in
    let tried = driven_on problem allows fits u c.settle.new.self.bound b c.settle.new.self.board c.offer_candidate.new.search.board c.settle.ensures.bound settled c.offer_candidate.ensures.driven in
    driven_on problem allows fits u c.offer_candidate.new.search.bound b c.offer_candidate.new.search.board c.offer_candidate-in_Ok-branch.new.search.board (c.offer_candidate.ensures.same.bound_is ∙ c.settle.ensures.bound) tried c.offer_candidate-in_Ok-branch.ensures.driven

pub returns-in_Ok-branch-clause-count : goal.returns-in_Ok-branch-clause-count
returns-in_Ok-branch-clause-count g c =
    let problem = g.B.NodeBound.problem in
    let u = c.args.search.now.bound in
    let ticket = c.in-Some.ticket in
    let branch = subst (λ (z : g.row.B.Denot). IsBranch (problem z) ticket.part c.leaf-leaf.result c.in_Ok-branch.branch) c.bound.ensures c.in_Ok-branch.ensures.branch in
    best_count c.offer_candidate.new.search.board c.offer_candidate-in_Ok-branch.new.search.board c.offer_candidate-in_Ok-branch.ensures.best ∙ best_count c.settle.new.self.board c.offer_candidate.new.search.board c.offer_candidate.ensures.best ∙ settled_count (g.G.Guide.allows u) (g.G.Guide.fits u) (problem u) c.args.search.now.board c.inner-inner.ensures.sound ticket c.in-Some.ensures.holds c.in_Ok-branch.branch.split branch.lawful c.in_Ok-branch.branch.first.leaf c.in_Ok-branch.branch.second.leaf c.settle.new.self.board c.settle.ensures.step

pub returns-in_Err-branch-clause-driven : goal.returns-in_Err-branch-clause-driven
returns-in_Err-branch-clause-driven g c =
    let u = c.args.search.now.bound in
    let p = g.B.NodeBound.problem u in
    let e : c.give_back.new.self.board ≡ release c.args.search.now.board c.in-Some.ticket.worker = ap (λ (s : State g.row.B.Denot). s.board) c.give_back.ensures.value in
    driven_run (g.G.Guide.allows u) (g.G.Guide.fits u) p c.args.search.now.board c.give_back.new.self.board (ap (λ (b : Board). b.nodes) e) (run_one p c.args.search.now.board (gives_back c.in-Some.ticket) c.give_back.new.self.board (c.in-Some.ensures.holds, e))
