use Rattle.std.proofs.Common.{arith, ◌++◌}
use Rattle.gap_scan.proofs.ScanLaws.{bytes_by_index}
use Rattle.gap_check.proofs.CheckerLaws.{fed_on, fed_judged}
use Rattle.gap_check.proofs.reading.read_piece.Goals as goal

pub judge_all-requires : goal.judge_all-requires
judge_all-requires c = fed_on c.args.scanner.now c.feed.new.self c.args.judge.now c.args.piece.now (bytes_by_index c.args.piece.now (λ i. omega (arith, c.type_inv.piece i))) c.in_ok-feed.ensures.ok c.requires.on

pub returns-clause-reads : goal.returns-clause-reads
returns-clause-reads c = λ seen h. c.judge_all.ensures.reads (seen ++ c.args.piece.now) (fed_judged c.args.scanner.now c.feed.new.self c.args.judge.now seen c.args.piece.now (bytes_by_index c.args.piece.now (λ i. omega (arith, c.type_inv.piece i))) c.in_ok-feed.ensures.ok h)
