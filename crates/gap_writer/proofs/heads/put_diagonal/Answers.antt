use Rattle.std.proofs.Common.{◌<◌, ◌≤◌, ◌++◌, List, length, ℤ, ap, ◌∙◌, arith, rules}
use Rattle.std.specs.Int.{w128}
use Rattle.std.specs.Int.RustNames.{FitsSigned}
use Rattle.std.proofs.lemmas.Int.{to_z-of_z}
use Rattle.gap_cert.specs.Bytes.{signed_be}
use Rattle.std.proofs.lemmas.List.{take_all}
use Rattle.gap_writer.specs.HeadBytes.{numbers_bytes}
use Rattle.gap_writer.proofs.Headed.{no_numbers, diagonal_on}
use Rattle.gap_writer.proofs.heads.put_diagonal.Goals as goal

pub loop-i-init : goal.loop-i-init
loop-i-init c = no_numbers 16 c.args.out.now.items

pub loop-i-preserved : goal.loop-i-preserved
loop-i-preserved c =
    let fits : FitsSigned w128 c.d.result = search rules in
    let l = c.n-i-end.ensures.shift.diagonal_length in
    let here : c.loop-i.i < length c.args.shift.now.diagonal = omega (arith, l) in
    diagonal_on c.args.shift.now.diagonal c.loop-i.i c.args.out.now.items c.loop-i.out.items c.put_i128.new.out.items c.d.result here c.d.ensures.value c.loop-i.invariant (c.in_ok-put_i128.ensures ∙ ap (λ (z : ℤ). c.loop-i.out.items ++ signed_be 16 z) (to_z-of_z w128 c.d.result fits))

pub returns : goal.returns
returns c =
    let l = c.n-i-end.ensures.shift.diagonal_length in
    let over : length c.args.shift.now.diagonal ≤ c.loop-i.i = omega (arith, l) in
    c.loop-i.invariant ∙ ap (λ (ds : List ℤ). c.args.out.now.items ++ numbers_bytes 16 ds) (take_all c.loop-i.i c.args.shift.now.diagonal over)
