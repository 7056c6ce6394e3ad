use Rattle.gap_orlib.proofs.Ends.{ends_stopped, ends_going}
use Rattle.gap_orlib.proofs.Words.{told_in_words, words_are_told, fault_told}
use Rattle.std.proofs.Common.{Err}
use Rattle.gap_orlib.proofs.reader.Reader.finish.Goals as goal

pub returns-in-Some-clause-market : goal.returns-in-Some-clause-market
returns-in-Some-clause-market c = λ fed h.
    ends_stopped c.self.inside.begin c.self.inside.tail.items c.self.inside.table c.self.inside.stop c.in-Some.stop c.args.self fed c.self.view_is c.in-Some.is h

pub returns-clause-market : goal.returns-clause-market
returns-clause-market c = λ fed h.
    ends_going c.self.inside.begin c.self.inside.tail.items c.self.inside.table c.self.inside.stop c.args.self fed c.end.result c.self.view_is c.in-None.is
    (rw c.as_slice.ensures.value at c.end.ensures.told) h

pub returns-clause-words : goal.returns-clause-words
returns-clause-words c = λ fed h.
    told_in_words c.end.result fed
    (ends_going c.self.inside.begin c.self.inside.tail.items c.self.inside.table c.self.inside.stop c.args.self fed c.end.result c.self.view_is c.in-None.is
    (rw c.as_slice.ensures.value at c.end.ensures.told) h)

pub returns-in-Some-clause-accepts : goal.returns-in-Some-clause-accepts
returns-in-Some-clause-accepts c = λ fed m h w.
    words_are_told (Err c.in-Some.stop) fed m
    (ends_stopped c.self.inside.begin c.self.inside.tail.items c.self.inside.table c.self.inside.stop c.in-Some.stop c.args.self fed c.self.view_is c.in-Some.is h) w

pub returns-clause-accepts : goal.returns-clause-accepts
returns-clause-accepts c = λ fed m h w.
    words_are_told c.end.result fed m
    (ends_going c.self.inside.begin c.self.inside.tail.items c.self.inside.table c.self.inside.stop c.args.self fed c.end.result c.self.view_is c.in-None.is
    (rw c.as_slice.ensures.value at c.end.ensures.told) h) w

pub returns-in-Some-clause-faults : goal.returns-in-Some-clause-faults
returns-in-Some-clause-faults c = λ fed f h e.
    fault_told (Err c.in-Some.stop) fed f
    (ends_stopped c.self.inside.begin c.self.inside.tail.items c.self.inside.table c.self.inside.stop c.in-Some.stop c.args.self fed c.self.view_is c.in-Some.is h) e

pub returns-clause-faults : goal.returns-clause-faults
returns-clause-faults c = λ fed f h e.
    fault_told c.end.result fed f
    (ends_going c.self.inside.begin c.self.inside.tail.items c.self.inside.table c.self.inside.stop c.args.self fed c.end.result c.self.view_is c.in-None.is
    (rw c.as_slice.ensures.value at c.end.ensures.told) h) e
