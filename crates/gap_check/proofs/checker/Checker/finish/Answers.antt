use Rattle.std.proofs.Common.{inl, inr, Result, Ok, Err, sym, ap, ◌∙◌}
use Rattle.gap_judge.specs.declared.stop.CertStop.{CertStop}
use Rattle.gap_valid.specs.Verdicts.{VerdictValue}
use Rattle.gap_check.proofs.CheckerLaws.{stop_end, reading_on, going_head, whole_yes, whole_all, whole_bound, short_none}
use Rattle.gap_check.proofs.OneFault.{end_again, end_first, none_again, short_first, whole_first}
use Rattle.gap_check.proofs.checker.Checker.finish.Goals as goal

abbrev refused : CertStop → Result VerdictValue CertStop
refused stop = Err stop

abbrev told : VerdictValue → Result VerdictValue CertStop
told v = Ok v

pub returns-in-Some-clause-all : goal.returns-in-Some-clause-all
returns-in-Some-clause-all c = λ fed v h a. inr (ap refused (stop_end c.args.self c.self.inside.scanner c.self.inside.judge c.self.inside.stop c.in-Some.stop fed v c.self.view_is c.in-Some.is h a))

pub returns-then-not-is_ended-clause-all : goal.returns-then-not-is_ended-clause-all
returns-then-not-is_ended-clause-all c = λ fed v h a. absurd (short_none c.self.inside.scanner c.self.inside.judge fed v (sym c.is_ended.ensures ∙ c.if-not-is_ended.true) (reading_on c.args.self c.self.inside.scanner c.self.inside.judge c.self.inside.stop fed c.self.view_is c.in_default.is h) a)

pub into_verdict-requires : goal.into_verdict-requires
into_verdict-requires c = going_head c.self.inside.scanner c.self.inside.judge c.self.inside.fed c.self.inside.stop c.self.invariant c.in_default.is (sym c.is_ended.ensures ∙ c.if-not-is_ended.false)

pub returns-clause-yes : goal.returns-clause-yes
returns-clause-yes c = λ fed h. rw c.into_verdict.ensures (whole_yes c.self.inside.scanner c.self.inside.judge fed (sym c.is_ended.ensures ∙ c.if-not-is_ended.false) (reading_on c.args.self c.self.inside.scanner c.self.inside.judge c.self.inside.stop fed c.self.view_is c.in_default.is h))

pub returns-clause-all : goal.returns-clause-all
returns-clause-all c = λ fed v h a. inl (ap told (c.into_verdict.ensures ∙ sym (whole_all c.self.inside.scanner c.self.inside.judge fed v (reading_on c.args.self c.self.inside.scanner c.self.inside.judge c.self.inside.stop fed c.self.view_is c.in_default.is h) a)))

pub returns-clause-bound : goal.returns-clause-bound
returns-clause-bound c = λ fed h. rw c.into_verdict.ensures (whole_bound c.self.inside.scanner c.self.inside.judge fed (sym c.is_ended.ensures ∙ c.if-not-is_ended.false) (reading_on c.args.self c.self.inside.scanner c.self.inside.judge c.self.inside.stop fed c.self.view_is c.in_default.is h))

pub returns-in-Some-clause-first : goal.returns-in-Some-clause-first
returns-in-Some-clause-first c = λ fed f h a. end_first c.args.self c.self.inside.scanner c.self.inside.judge c.self.inside.stop c.in-Some.stop fed f c.self.view_is c.in-Some.is h a

pub returns-then-not-is_ended-clause-first : goal.returns-then-not-is_ended-clause-first
returns-then-not-is_ended-clause-first c = λ fed f h a. short_first c.self.inside.scanner c.self.inside.judge c.self.inside.fed c.self.inside.stop fed f c.self.invariant c.in_default.is (sym c.is_ended.ensures ∙ c.if-not-is_ended.true) (reading_on c.args.self c.self.inside.scanner c.self.inside.judge c.self.inside.stop fed c.self.view_is c.in_default.is h) a

pub returns-clause-first : goal.returns-clause-first
returns-clause-first c = λ fed f h a. absurd (whole_first c.self.inside.scanner c.self.inside.judge fed f (sym c.is_ended.ensures ∙ c.if-not-is_ended.false) (reading_on c.args.self c.self.inside.scanner c.self.inside.judge c.self.inside.stop fed c.self.view_is c.in_default.is h) a)

pub returns-in-Some-clause-again : goal.returns-in-Some-clause-again
returns-in-Some-clause-again c = λ stop e. ap refused (end_again c.args.self c.self.inside.scanner c.self.inside.judge c.self.inside.stop c.in-Some.stop stop c.self.view_is c.in-Some.is e)

pub returns-then-not-is_ended-clause-again : goal.returns-then-not-is_ended-clause-again
returns-then-not-is_ended-clause-again c = λ stop e. absurd (none_again c.args.self c.self.inside.scanner c.self.inside.judge c.self.inside.stop stop c.self.view_is c.in_default.is e)

pub returns-clause-again : goal.returns-clause-again
returns-clause-again c = λ stop e. absurd (none_again c.args.self c.self.inside.scanner c.self.inside.judge c.self.inside.stop stop c.self.view_is c.in_default.is e)
