use Rattle.std.proofs.Common.{inl, arith}
use Rattle.gap_scan.proofs.ScanLaws.{bytes_by_index}
use Rattle.gap_check.proofs.CheckerLaws.{reading_on, stopped_more}
use Rattle.gap_check.proofs.OneFault.{end_first, reads_first}
use Rattle.gap_check.proofs.checker.Checker.feed.Goals as goal

pub returns-in-Some-clause-read : goal.returns-in-Some-clause-read
returns-in-Some-clause-read c = λ fed h. stopped_more c.args.self.now c.self.inside.scanner c.self.inside.judge c.self.inside.stop c.in-Some.stop fed c.args.piece.now (bytes_by_index c.args.piece.now (λ i. omega (arith, c.type_inv.piece i))) c.self.view_is c.in-Some.is h

pub returns-in-Some-clause-first : goal.returns-in-Some-clause-first
returns-in-Some-clause-first c = λ fed f h a.
    let more = stopped_more c.args.self.now c.self.inside.scanner c.self.inside.judge c.self.inside.stop c.in-Some.stop fed c.args.piece.now (bytes_by_index c.args.piece.now (λ i. omega (arith, c.type_inv.piece i))) c.self.view_is c.in-Some.is h in
    end_first c.args.self.now c.self.inside.scanner c.self.inside.judge c.self.inside.stop c.in-Some.stop _ f c.self.view_is c.in-Some.is more (inl a)

pub returns-in-Err-clause-first : goal.returns-in-Err-clause-first
returns-in-Err-clause-first c = λ fed f h a.
    let items = (reading_on c.args.self.now c.self.inside.scanner c.self.inside.judge c.self.inside.stop fed c.self.view_is c.in_default.is h).items in
    reads_first _ _ _ _ f (c.in-Err.ensures.reads fed items) a

pub returns-in_default-answer-clause-first : goal.returns-in_default-answer-clause-first
returns-in_default-answer-clause-first c = λ fed f h a.
    let items = (reading_on c.args.self.now c.self.inside.scanner c.self.inside.judge c.self.inside.stop fed c.self.view_is c.in_default.is h).items in
    reads_first _ _ _ _ f (c.read_piece-answer.ensures.reads fed items) a
