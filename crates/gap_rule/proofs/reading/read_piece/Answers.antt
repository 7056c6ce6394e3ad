use Rattle.std.proofs.Common.{refl}
use Rattle.gap_files.specs.Outside.{bytes_of}
use Rattle.gap_rule.proofs.ReadingLaws.{fed_more, grown_more, within_more, refused_more}
use Rattle.gap_rule.proofs.reading.read_piece.Goals as goal

pub returns-in-Ok-feed-clause-fed : goal.returns-in-Ok-feed-clause-fed
returns-in-Ok-feed-clause-fed g c = λ held told before.
    fed_more (bytes_of held) _ c.args.at c.in-Ok.count (g.C.Consumer.has_read c.args.consumer.now) (g.C.Consumer.has_read c.feed.new.self) c.in-Ok.ensures.within (c.in-Ok.ensures.bytes held told) (λ fed h. c.feed.ensures.read (rw c.in-Ok-feed.is refl) fed h) before

pub returns-in-Ok-feed-clause-grown : goal.returns-in-Ok-feed-clause-grown
returns-in-Ok-feed-clause-grown g c = λ before.
    grown_more _ c.args.at c.in-Ok.count (g.C.Consumer.has_read c.args.consumer.now) (g.C.Consumer.has_read c.feed.new.self) c.in-Ok.ensures.within (λ fed h. c.feed.ensures.read (rw c.in-Ok-feed.is refl) fed h) before

pub returns-in-Ok-feed-clause-within : goal.returns-in-Ok-feed-clause-within
returns-in-Ok-feed-clause-within g c = λ before.
    within_more _ c.args.at c.in-Ok.count _ (g.C.Consumer.has_read c.args.consumer.now) c.in-Ok.ensures.within (λ fed h. c.feed.ensures.within (rw c.in-Ok-feed.is refl) fed h) before

pub returns-in-Err-clause-refused : goal.returns-in-Err-clause-refused
returns-in-Err-clause-refused g c = λ held told fault e before.
    refused_more (bytes_of held) _ c.args.at c.in-Ok.count (g.C.Consumer.has_read c.args.consumer.now) g.C.Consumer.said fault (c.in-Ok.ensures.bytes held told) (λ fed rest h. c.feed.ensures.refused fault (cc) fed rest h) before
