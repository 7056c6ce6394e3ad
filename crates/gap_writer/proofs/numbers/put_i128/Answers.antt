use Rattle.std.proofs.Common.{List, ℕ, ◌++◌, ap, refl, ◌∙◌}
use Rattle.std.specs.Int.{w128}
use Rattle.gap_cert.specs.Bytes.{full}
use Rattle.gap_writer.proofs.Spelled.{machine_bytes}
use Rattle.gap_writer.proofs.numbers.put_i128.Goals as goal

pub returns : goal.returns
unfolding full
returns c = c.in_ok-extend_from_slice.ensures.items ∙ ap (λ (bs : List ℕ). c.args.out.now.items ++ bs) (c.to_be_bytes.ensures ∙ machine_bytes w128 16 c.args.v refl c.ranges.v)
