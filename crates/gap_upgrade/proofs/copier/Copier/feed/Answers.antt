use Rattle.std.proofs.Common.{arith, ◌++◌, sym, ◌∙◌}
use Rattle.std.proofs.lemmas.Result.{err_from_is_err_and}
use Rattle.gap_scan.proofs.ScanLaws.{bytes_by_index}
use Rattle.gap_upgrade.proofs.CopierLaws.{same_stop, checker_refused, feed_ok, feed_refused}
use Rattle.gap_upgrade.proofs.copier.Copier.feed.Goals as goal

pub returns-in_err-feed-clause-refused : goal.returns-in_err-feed-clause-refused
returns-in_err-feed-clause-refused c = λ fault e fed gone h.
    let p = err_from_is_err_and c.from_residual.result c.from_residual.ensures.1 in
    checker_refused c.feed.new.self (fed ++ c.args.piece.now) c.in_err-feed.field-0.0 fault (c.in_err-feed.ensures.read fed h.read) c.in_err-feed.ensures.answer (sym p.2 ∙ same_stop _ _ (sym p.1 ∙ e))

pub returns-clause-copied : goal.returns-clause-copied
returns-clause-copied c =
    feed_ok c.copy_items.result c.args.self.now.checker c.feed.new.self c.args.self.now.scanner c.feed-2.new.self c.copy_items.new.scanner c.args.self.now.writer c.copy_items.new.writer c.args.piece.now
    (bytes_by_index c.args.piece.now (λ i. omega (arith, c.type_inv.piece i))) c.in_ok-feed-2.ensures.ok c.in_ok-feed.ensures.read c.copy_items.ensures.writes

pub returns-clause-refused : goal.returns-clause-refused
returns-clause-refused c = λ fault e fed gone h.
    feed_refused c.copy_items.result fault c.args.self.now.checker c.args.self.now.scanner c.feed-2.new.self c.copy_items.new.scanner c.args.self.now.writer c.copy_items.new.writer fed gone c.args.piece.now
    (bytes_by_index c.args.piece.now (λ i. omega (arith, c.type_inv.piece i))) c.in_ok-feed-2.ensures.ok c.copy_items.ensures.writes e h
