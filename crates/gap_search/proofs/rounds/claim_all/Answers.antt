use Rattle.std.proofs.Common.{sym, ap, ◌∙◌, subst, arith}
use Rattle.gap_search.specs.Boards.{Board, tickets, IsSound}
use Rattle.gap_search.specs.Steps.{Refusal}
use Rattle.gap_search.proofs.DrivenLaws.{same_on, runs_on}
use Rattle.gap_search.proofs.TurnLaws.{none_next}
use Rattle.gap_search.proofs.rounds.claim_all.Goals as goal

pub loop-worker-preserved : goal.loop-worker-preserved
loop-worker-preserved g c =
    let k = c.loop-worker.invariant in
    let e = c.claim_next-some.ensures in
    record {
      same = same_on _ _ _ k.same e.same;
      sound = subst (λ (z : _). IsSound (g.B.NodeBound.problem z) c.claim_next-some.new.search.board) k.same.bound_is e.sound;
      places = e.places;
      nodes = e.nodes ∙ k.nodes;
      run = runs_on (g.B.NodeBound.problem) _ _ _ _ _ k.same.bound_is k.run e.run;
      some = λ s. e.some s k.some;
      none = λ s. (let n = e.none s in none_next (g.B.NodeBound.problem) _ _ _ _ _ c.loop-worker.worker k.same.bound_is (k.none n.0) n.1 n.2);
    }

pub returns-clause-none : goal.returns-clause-none
returns-clause-none g c = λ e.
    let k = c.loop-worker.invariant.none e in
    (ap (λ (b : Board). tickets b.held) k.0 ∙ c.requires, λ w l. subst (λ (b : Board). Refusal (g.B.NodeBound.problem c.args.search.now.bound) b w) (sym k.0) (k.1 w (let t = c.loop-worker-test.false in let s = c.workers-worker-end.ensures.workers in omega arith)))
