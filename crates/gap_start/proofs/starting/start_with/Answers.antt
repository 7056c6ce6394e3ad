use Rattle.std.proofs.Common.{IsNone}
use Rattle.std.proofs.lemmas.Option.{IfSome_then}
use Rattle.gap_instance.specs.declared.order.By.TheVariants.{Greatest}
use Rattle.gap_start.specs.Starts.{IsStartBy, IsStartWith}
use Rattle.gap_start.proofs.StartLaws.{not_some, third_by_greatest}
use Rattle.gap_start.proofs.starting.start_with.Goals as goal

pub returns-clause-some : goal.returns-clause-some
returns-clause-some c =
    let I = c.args.inst.now in
    let first : IsNone c.start_by-first.result = not_some c.start_by-first.result c.is_some.result c.is_some.ensures c.if-is_some.false in
    let second : IsNone c.start_by-second.result = not_some c.start_by-second.result c.is_some-2.result c.is_some-2.ensures c.if-is_some-2.false in
    IfSome_then c.start_by.result {P = IsStartBy I c.args.w.p c.args.w.q Greatest c.args.k} {Q = IsStartWith I c.args.w.p c.args.w.q c.args.k} c.start_by.ensures.some (λ x s. third_by_greatest I c.args.w.p c.args.w.q c.args.k x (c.start_by-first.ensures.none first) (c.start_by-second.ensures.none second) s)
