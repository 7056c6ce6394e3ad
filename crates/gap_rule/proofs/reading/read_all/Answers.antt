use Rattle.std.proofs.Common.{arith, ◌+◌, ◌∙◌, ap, Ok, Err}
use Rattle.gap_files.specs.Outside.{bytes_of}
use Rattle.gap_rule.proofs.ReadingLaws.{any_cause, cause_later, says_stop, reads_on, fed_whole, was_said}
use Rattle.gap_rule.proofs.reading.read_all.Goals as goal

pub returns-in-Ok-eq0-clause-told : goal.returns-in-Ok-eq0-clause-told
returns-in-Ok-eq0-clause-told g c = λ held told.
    let now = c.loop-turn.invariant.frame.contents c.args.name.now ∙ told in
    let fed = c.in-Ok-eq0.ensures.fed held now (c.loop-turn.invariant.fed held told) in
    let ends = c.read_piece.ensures.end held now (c.in-Ok-eq0.is ∙ ap Ok c.in-Ok-eq0.field-0-test) in
    c.finish.ensures.told (bytes_of held) (fed_whole (bytes_of held) (c.loop-turn.at + c.in-Ok-eq0.field-0) _ fed (omega arith))

pub returns-in-Ok-eq0-clause-was : goal.returns-in-Ok-eq0-clause-was
returns-in-Ok-eq0-clause-was g c = was_said _ _ g.C.Consumer.said c.finish.result (c.in-Ok-eq0.ensures.grown c.loop-turn.invariant.was) c.finish.ensures.told

pub returns-in-Ok-eq0-clause-cause : goal.returns-in-Ok-eq0-clause-cause
returns-in-Ok-eq0-clause-cause g c = any_cause _ c.finish.result c.finish.ensures.stop

pub returns-in-Ok-eq0-clause-frame : goal.returns-in-Ok-eq0-clause-frame
returns-in-Ok-eq0-clause-frame g c = reads_on _ _ _ _ c.loop-turn.invariant.frame c.read_piece.ensures.frame

pub returns-in-Err-clause-told : goal.returns-in-Err-clause-told
returns-in-Err-clause-told g c = λ held told.
    let now = c.loop-turn.invariant.frame.contents c.args.name.now ∙ told in
    says_stop (g.C.Consumer.said (bytes_of held)) c.in-Err.stop (λ fault e. c.read_piece.ensures.refused held now fault (c.in-Err.is ∙ ap Err e) (c.loop-turn.invariant.fed held told))

pub returns-in-Err-clause-cause : goal.returns-in-Err-clause-cause
returns-in-Err-clause-cause g c = cause_later _ _ _ c.in-Err.stop (c.loop-turn.invariant.frame.later c.args.name.now) c.in-Err.ensures.cause

pub returns-in-Err-clause-frame : goal.returns-in-Err-clause-frame
returns-in-Err-clause-frame g c = reads_on _ _ _ _ c.loop-turn.invariant.frame c.read_piece.ensures.frame

pub loop-turn-preserved : goal.loop-turn-preserved
loop-turn-preserved g c =
    let before = c.loop-turn.invariant in
    record {
      turns = omega arith;
      limit = c.in-Ok.ensures.within before.was;
      fed = λ held told. c.in-Ok.ensures.fed held (before.frame.contents c.args.name.now ∙ told) (before.fed held told);
      was = c.in-Ok.ensures.grown before.was;
      frame = reads_on _ _ _ _ before.frame c.read_piece.ensures.frame;
    }
