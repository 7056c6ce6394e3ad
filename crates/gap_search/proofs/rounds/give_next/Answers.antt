use Rattle.std.proofs.Common.{ap}
use Rattle.gap_search.specs.Boards.{State}
use Rattle.gap_search.specs.Steps.{gives_back}
use Rattle.gap_search.proofs.DrivenLaws.{run_one}
use Rattle.gap_search.proofs.rounds.give_next.Goals as goal

pub returns-in-Some-clause-run : goal.returns-in-Some-clause-run
returns-in-Some-clause-run g c = run_one (g.B.NodeBound.problem c.args.search.now.bound) c.args.search.now.board (gives_back c.in-Some.ticket) c.give_back.new.self.board (c.in-Some.ensures.holds, ap (λ (s : State g.row.B.Denot). s.board) c.give_back.ensures.value)
