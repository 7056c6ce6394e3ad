use Rattle.std.proofs.Common.{rules, ◌≡◌, ◌<◌, ◌+◌, length, take, Result, Err, refl, ap, arith}
use Rattle.std.proofs.lemmas.List.{length-take-le}
use Rattle.std.proofs.lemmas.Result.{err_from_is_err_and}
use Rattle.gap_upgrade.specs.declared.stop.Stop.{Stop}
use Rattle.gap_upgrade.proofs.CopyLaws.{along_none, along_fed, along_put, put_fact, stopped_reading, stopped_feeding, stopped_pouring, stopped_long, ended}
use Rattle.gap_upgrade.proofs.copying.copy_all.Goals as goal

abbrev stop_at : Stop → Result (Unit {0}) Stop
stop_at stop = Err stop

pub pieces-init : goal.pieces-init
pieces-init g c = record {
  along = along_none c.args.cert.now c.args.new.now (g.F.Files.files c.args.files.now) c.new-copier.result.checker c.new-copier.result.scanner c.new-copier.result.writer c.new-copier.ensures.copied;
  empty = c.new-copier.ensures.empty;
  place = c.new-copier.ensures.place;
  some = c.requires.some;
  few = c.requires.few;
  most = omega arith;
}

pub returns-in_err-count : goal.returns-in_err-count
returns-in_err-count g c =
    let p = err_from_is_err_and c.from_residual.result c.from_residual.ensures.1 in
    rw (p.1, p.2) (stopped_reading c.args.cert.now c.args.new.now (g.F.Files.files c.args.files.now) (g.F.Files.files c.pieces.files) (g.F.Files.files c.read_some.new.files) c.pieces.at
    c.pieces.copier.checker c.pieces.copier.scanner c.pieces.copier.writer c.in_err-count.field-0.0 c.pieces.invariant.empty (c.in_err-count.ensures.stops c.args.new.now) c.in_err-count.ensures.unrefused c.pieces.invariant.along)

pub returns-then-count-eq0 : goal.returns-then-count-eq0
returns-then-count-eq0 g c =
    let zero : c.in_ok-count.count ≡ 0 = search rules in
    let some : 0 < length c.read_some.new.buffer = omega (arith, c.read_some.ensures.size, c.pieces.invariant.some) in
    ended c.args.cert.now c.args.new.now (g.F.Files.files c.args.files.now) (g.F.Files.files c.pieces.files) (g.F.Files.files c.read_some.new.files) c.pieces.at
    c.pieces.copier.checker c.pieces.copier.scanner c.pieces.copier.writer c.finish.result c.pieces.invariant.empty (λ content told. (c.in_ok-count.ensures.bytes content told).ends zero some) (c.in_ok-count.ensures.calm c.args.new.now)
    c.finish.ensures.whole c.finish.ensures.refused c.finish.ensures.inner c.pieces.invariant.along

pub returns-in_err-feed : goal.returns-in_err-feed
returns-in_err-feed g c =
    let p = err_from_is_err_and c.from_residual-in_err-feed.result c.from_residual-in_err-feed.ensures.1 in
    rw (p.1, p.2) (stopped_feeding c.args.cert.now c.args.new.now (g.F.Files.files c.args.files.now) (g.F.Files.files c.pieces.files) (g.F.Files.files c.read_some.new.files) c.pieces.at c.in_ok-count.count
    c.pieces.copier.checker c.pieces.copier.scanner c.pieces.copier.writer c.read_some.new.buffer (take c.in_ok-count.count c.read_some.new.buffer) c.in_err-feed.field-0.0 c.pieces.invariant.empty
    c.in_ok-count.ensures.within refl c.in_ok-count.ensures.bytes (c.in_ok-count.ensures.calm c.args.new.now) c.in_err-feed.ensures.inner (λ fault e. c.in_err-feed.ensures.refused fault (ap stop_at e)) c.pieces.invariant.along)

pub returns-in_err-stopped : goal.returns-in_err-stopped
returns-in_err-stopped g c =
    let p = err_from_is_err_and c.from_residual-in_err-stopped.result c.from_residual-in_err-stopped.ensures.1 in
    let a = along_fed c.args.cert.now c.args.new.now (g.F.Files.files c.args.files.now) (g.F.Files.files c.pieces.files) (g.F.Files.files c.read_some.new.files) c.pieces.at c.in_ok-count.count
    c.pieces.copier.checker c.feed.new.self.checker c.pieces.copier.scanner c.feed.new.self.scanner c.pieces.copier.writer c.feed.new.self.writer c.read_some.new.buffer (take c.in_ok-count.count c.read_some.new.buffer)
    c.in_ok-count.ensures.within refl c.in_ok-count.ensures.bytes (c.in_ok-count.ensures.calm c.args.new.now) c.in_ok-feed.ensures.copied c.pieces.invariant.along in
    rw (p.1, p.2) (stopped_pouring c.args.cert.now c.args.new.now (g.F.Files.files c.args.files.now) (g.F.Files.files c.read_some.new.files) (g.F.Files.files c.pour.new.files) (c.pieces.at + c.in_ok-count.count)
    c.feed.new.self.checker c.feed.new.self.scanner c.feed.new.self.writer c.pour.result c.in_err-stopped.field-0.0 c.in_err-stopped.ensures c.pour.ensures.step a)

pub pieces-preserved : goal.pieces-preserved
pieces-preserved g c =
    let a = along_fed c.args.cert.now c.args.new.now (g.F.Files.files c.args.files.now) (g.F.Files.files c.pieces.files) (g.F.Files.files c.read_some.new.files) c.pieces.at c.in_ok-count.count
    c.pieces.copier.checker c.feed.new.self.checker c.pieces.copier.scanner c.feed.new.self.scanner c.pieces.copier.writer c.feed.new.self.writer c.read_some.new.buffer (take c.in_ok-count.count c.read_some.new.buffer)
    c.in_ok-count.ensures.within refl c.in_ok-count.ensures.bytes (c.in_ok-count.ensures.calm c.args.new.now) c.in_ok-feed.ensures.copied c.pieces.invariant.along in
    let empty = put_fact c.pour.result _ c.in_ok-stopped.field-0 c.in_ok-stopped.ensures c.pour.ensures.empty in
    let last = put_fact c.pour.result _ c.in_ok-stopped.field-0 c.in_ok-stopped.ensures c.pour.ensures.last in
    let size = length-take-le c.in_ok-count.count c.read_some.new.buffer c.in_ok-count.ensures.within in
    record {
      along = along_put c.args.cert.now c.args.new.now (g.F.Files.files c.args.files.now) (g.F.Files.files c.read_some.new.files) (g.F.Files.files c.pour.new.files) (c.pieces.at + c.in_ok-count.count)
          c.feed.new.self.checker c.feed.new.self.scanner c.feed.new.self.writer c.pour.new.writer c.pour.result c.in_ok-stopped.field-0 c.in_ok-stopped.ensures empty last c.pour.ensures.step a;
      empty = empty;
      place = omega (arith, size, c.in_ok-feed.ensures.whole, c.pieces.invariant.place);
      some = omega (arith, c.read_some.ensures.size, c.pieces.invariant.some);
      few = omega (arith, c.read_some.ensures.size, c.pieces.invariant.few);
      most = search rules;
    }

pub returns : goal.returns
returns g c =
    stopped_long c.args.cert.now c.args.new.now (g.F.Files.files c.args.files.now) (g.F.Files.files c.pieces.files) c.pieces.at c.pieces.copier.checker c.pieces.copier.scanner c.pieces.copier.writer c.pieces.invariant.empty c.pieces.invariant.along
