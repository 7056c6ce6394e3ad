use Rattle.std.proofs.Common.{List, ℕ, ◌++◌, ap, ◌∙◌}
use Rattle.gap_writer.proofs.Spelled.{four_bytes}
use Rattle.gap_writer.proofs.numbers.put_u32.Goals as goal

pub returns : goal.returns
returns c = c.in_ok-extend_from_slice.ensures.items ∙ ap (λ (bs : List ℕ). c.args.out.now.items ++ bs) (c.to_be_bytes.ensures ∙ four_bytes c.args.v c.ranges.v.fits)
