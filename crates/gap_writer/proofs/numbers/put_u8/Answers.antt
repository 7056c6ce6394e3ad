use Rattle.std.proofs.Common.{List, ℕ, ◌++◌, ap, sym, ◌∙◌}
use Rattle.gap_writer.proofs.Spelled.{one_byte}
use Rattle.gap_writer.proofs.numbers.put_u8.Goals as goal

pub returns : goal.returns
returns c = c.in_ok-push.ensures.items ∙ ap (λ (bs : List ℕ). c.args.out.now.items ++ bs) (sym (one_byte c.args.v))
