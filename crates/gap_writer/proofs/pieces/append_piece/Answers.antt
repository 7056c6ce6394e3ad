use Rattle.std.proofs.Common.{◌≤◌, List, ℕ, length, drop, sym, ap, subst, arith}
use Rattle.std.proofs.lemmas.Result.{err_from_is_err_and}
use Rattle.gap_files.specs.Drains.{Flows, Breaks}
use Rattle.gap_writer.specs.Writing.{Written}
use Rattle.gap_writer.proofs.Pouring.{front_is, piece_gone, piece_broken}
use Rattle.gap_writer.proofs.pieces.append_piece.Goals as goal

pub slice_bounds-append_some-end : goal.slice_bounds-append_some-end
slice_bounds-append_some-end g c =
    let e = ap length c.bytes.ensures in
    let h : c.args.piece ≤ length c.bytes.result.now = omega arith in
    sym (front_is c.args.piece c.bytes.result.now h)

pub append_some-requires : goal.append_some-requires
append_some-requires g c =
    let e = ap length c.bytes.ensures in
    let h : c.args.piece ≤ length c.bytes.result.now = omega arith in
    let f = front_is c.args.piece c.bytes.result.now h in
    omega arith

pub returns-in_err-append_some-clause-drains : goal.returns-in_err-append_some-clause-drains
returns-in_err-append_some-clause-drains g c = λ sink.
    let p = err_from_is_err_and c.from_residual.result c.from_residual.ensures.1 in
    rw (p.1, p.2) (subst (λ (x : List ℕ). Breaks c.args.name.now (g.F.Files.files c.args.files.now) (g.F.Files.files c.append_some.new.files) sink x c.in_err-append_some.field-0.0) c.bytes.ensures
    (piece_broken c.args.name.now (g.F.Files.files c.args.files.now) (g.F.Files.files c.append_some.new.files) sink c.bytes.result.now c.args.piece c.in_err-append_some.field-0.0 (c.in_err-append_some.ensures sink)))

pub returns-clause-drains : goal.returns-clause-drains
returns-clause-drains g c = λ sink.
    let gone = piece_gone c.args.name.now (g.F.Files.files c.args.files.now) (g.F.Files.files c.append_some.new.files) sink c.bytes.result.now c.args.piece (c.in_ok-append_some.ensures sink) in
    let same = subst (λ (x : List ℕ). Flows c.args.name.now (g.F.Files.files c.args.files.now) (g.F.Files.files c.append_some.new.files) sink x (drop c.args.piece x)) c.bytes.ensures gone in
    subst (λ (x : List ℕ). Flows c.args.name.now (g.F.Files.files c.args.files.now) (g.F.Files.files c.append_some.new.files) sink c.args.writer.now.bytes x) (sym (ap (λ (x : Written). x.bytes) c.drop_front.ensures)) same
