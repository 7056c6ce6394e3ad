use Rattle.std.proofs.Common.{◌∙◌, subst}
use Rattle.gap_search.specs.Boards.{IsSound}
use Rattle.gap_search.proofs.StayLaws.{stays_run}
use Rattle.gap_search.proofs.DrivenLaws.{same_on, driven_run, driven_on}
use Rattle.gap_search.proofs.TurnLaws.{refusals_at}
use Rattle.gap_search.proofs.driving.drive.Goals as goal

pub loop-more-init : goal.loop-more-init
loop-more-init g c =
    let e = c.claim_all-more.ensures in
    let old = c.args.search.now in
    let new = c.claim_all-more.new.search in
    record {
      same = e.same;
      driven = driven_run (g.G.Guide.allows old.bound) (g.G.Guide.fits old.bound) (g.B.NodeBound.problem old.bound) old.board new.board e.nodes e.run;
      sound = e.sound;
      some = e.some;
      none = λ s. (let n = e.none s in (n.0, refusals_at g.B.NodeBound.problem old.bound new.bound new.board old.workers new.workers e.same.bound_is e.same.workers_is n.1));
    }

pub returns-in_err-settle_all-clause-driven : goal.returns-in_err-settle_all-clause-driven
returns-in_err-settle_all-clause-driven g c =
    let k = c.loop-more.invariant in
    let old = c.args.search.now in
    driven_on g.B.NodeBound.problem g.G.Guide.allows g.G.Guide.fits old.bound c.loop-more.search.bound old.board c.loop-more.search.board c.settle_all.new.search.board k.same.bound_is k.driven c.settle_all.ensures.driven

pub loop-more-preserved : goal.loop-more-preserved
loop-more-preserved g c =
    let k = c.loop-more.invariant in
    let s = c.settle_all.ensures in
    let e = c.claim_all-more-in-loop-more.ensures in
    let old = c.args.search.now in
    let mid = c.settle_all.new.search in
    let new = c.claim_all-more-in-loop-more.new.search in
    let q = s.same.bound_is ∙ k.same.bound_is in
    let settled = driven_on g.B.NodeBound.problem g.G.Guide.allows g.G.Guide.fits old.bound c.loop-more.search.bound old.board c.loop-more.search.board mid.board k.same.bound_is k.driven s.driven in
    let claimed = driven_run (g.G.Guide.allows mid.bound) (g.G.Guide.fits mid.bound) (g.B.NodeBound.problem mid.bound) mid.board new.board e.nodes e.run in
    record {
      same = same_on _ _ _ (same_on _ _ _ k.same s.same) e.same;
      driven = driven_on g.B.NodeBound.problem g.G.Guide.allows g.G.Guide.fits old.bound mid.bound old.board mid.board new.board q settled claimed;
      sound = subst (λ (z : g.row.B.Denot). IsSound (g.B.NodeBound.problem z) new.board) q e.sound;
      some = e.some;
      none = λ t. (let n = e.none t in (n.0, refusals_at g.B.NodeBound.problem mid.bound new.bound new.board mid.workers new.workers e.same.bound_is e.same.workers_is n.1));
    }

pub returns-clause-refused : goal.returns-clause-refused
returns-clause-refused g c = (c.loop-more.invariant.none c.loop-more-test.false).1

pub returns-in_err-settle_all-clause-stays : goal.returns-in_err-settle_all-clause-stays
returns-in_err-settle_all-clause-stays g c =
    let d = returns-in_err-settle_all-clause-driven g c in
    stays_run _ _ d.events _ c.inner-inner.ensures.sound d.run

pub returns-clause-stays : goal.returns-clause-stays
returns-clause-stays g c =
    let d = c.loop-more.invariant.driven in
    stays_run _ _ d.events _ c.inner-inner.ensures.sound d.run
