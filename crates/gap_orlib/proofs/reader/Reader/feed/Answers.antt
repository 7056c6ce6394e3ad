use Rattle.std.proofs.Common.{ap, Option, Some, ◌++◌, ◌∙◌}
use Rattle.gap_orlib.proofs.Words.{decided_by}
use Rattle.gap_orlib.specs.declared.fault.PortStop.{PortStop}
use Rattle.gap_orlib.specs.ReaderViews.{stands}
use Rattle.gap_orlib.specs.States.{Going}
use Rattle.gap_orlib.proofs.Ends.{stuck_read, goes_on, stops_there, answer_stands, answer_stopped}
use Rattle.gap_orlib.proofs.reader.Reader.feed.Goals as goal

pub returns-in-Some-clause-read : goal.returns-in-Some-clause-read
returns-in-Some-clause-read c = λ fed h.
    stuck_read c.self.inside.begin c.self.inside.tail.items c.self.inside.table c.self.inside.stop c.in-Some.stop c.args.self.now fed c.args.piece.now c.self.view_is c.in-Some.is h

pub returns-in-Ok-clause-read : goal.returns-in-Ok-clause-read
returns-in-Ok-clause-read c = λ fed h.
    let k : Going = record { begin = c.read_piece.new.begin; tail = c.read_piece.new.tail.items; sheet = c.read_piece.new.table } in
    goes_on c.self.inside.begin c.self.inside.tail.items c.self.inside.table c.self.inside.stop c.args.self.now
    (stands c.read_piece.new.begin c.read_piece.new.tail.items c.read_piece.new.table c.self.inside.stop) k fed c.args.piece.now
    c.self.view_is c.in-None.is c.in-Ok.ensures.told
    (ap (λ (o : Option PortStop). stands c.read_piece.new.begin c.read_piece.new.tail.items c.read_piece.new.table o) c.in-None.is) h

pub returns-in-Err-clause-read : goal.returns-in-Err-clause-read
returns-in-Err-clause-read c = λ fed h.
    let k : Going = record { begin = c.read_piece.new.begin; tail = c.read_piece.new.tail.items; sheet = c.read_piece.new.table } in
    stops_there c.self.inside.begin c.self.inside.tail.items c.self.inside.table c.self.inside.stop c.args.self.now c.in-Err.stop k
    c.read_piece.new.begin c.read_piece.new.tail.items c.read_piece.new.table fed c.args.piece.now c.self.view_is c.in-None.is c.in-Err.ensures.told h

pub returns-in-Some-clause-decided : goal.returns-in-Some-clause-decided
returns-in-Some-clause-decided c = λ fed more f h e.
    decided_by c.args.self.now (fed ++ c.args.piece.now) more f
    (stuck_read c.self.inside.begin c.self.inside.tail.items c.self.inside.table c.self.inside.stop c.in-Some.stop c.args.self.now fed c.args.piece.now c.self.view_is c.in-Some.is h)
    (answer_stopped c.self.inside.begin c.self.inside.tail.items c.self.inside.table c.self.inside.stop c.in-Some.stop c.args.self.now c.self.view_is c.in-Some.is ∙ e)

pub returns-in-Err-clause-decided : goal.returns-in-Err-clause-decided
returns-in-Err-clause-decided c = λ fed more f h e.
    let k : Going = record { begin = c.read_piece.new.begin; tail = c.read_piece.new.tail.items; sheet = c.read_piece.new.table } in
    decided_by (stands c.read_piece.new.begin c.read_piece.new.tail.items c.read_piece.new.table (Some c.in-Err.stop)) (fed ++ c.args.piece.now) more f
    (stops_there c.self.inside.begin c.self.inside.tail.items c.self.inside.table c.self.inside.stop c.args.self.now c.in-Err.stop k
    c.read_piece.new.begin c.read_piece.new.tail.items c.read_piece.new.table fed c.args.piece.now c.self.view_is c.in-None.is c.in-Err.ensures.told h)
    (answer_stands c.read_piece.new.begin c.read_piece.new.tail.items c.read_piece.new.table c.in-Err.stop ∙ e)
