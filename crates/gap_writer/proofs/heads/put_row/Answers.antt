use Rattle.std.proofs.Common.{◌≡◌, ℕ, suc, ◌+◌, ◌++◌, map, ℤ, refl, ap, ◌∙◌, subst, arith, rules}
use Rattle.std.specs.List.{range_with_len}
use Rattle.std.specs.Int.{w64}
use Rattle.std.specs.Int.RustNames.{FitsSigned}
use Rattle.std.proofs.lemmas.Int.{to_z-of_z}
use Rattle.gap_cert.specs.Bytes.{signed_be}
use Rattle.gap_psd.specs.Shifts.{r_of}
use Rattle.gap_writer.specs.HeadBytes.{numbers_bytes}
use Rattle.gap_writer.proofs.Headed.{no_numbers, numbers_on}
use Rattle.gap_writer.proofs.heads.put_row.Goals as goal

pub loop-k-init : goal.loop-k-init
loop-k-init c = no_numbers 8 c.args.out.now.items

pub loop-k-preserved : goal.loop-k-preserved
loop-k-preserved c =
    let fits : FitsSigned w64 c.r.result = search rules in
    let k = c.loop-k.k in
    numbers_on 8 (r_of c.args.shift.now c.args.i) 0 k k (k + 1) c.args.out.now.items c.loop-k.out.items c.put_i64.new.out.items c.r.result (omega arith) refl c.r.ensures.value c.loop-k.invariant (c.in_ok-put_i64.ensures ∙ ap (λ (z : ℤ). c.loop-k.out.items ++ signed_be 8 z) (to_z-of_z w64 c.r.result fits))

pub returns : goal.returns
returns c =
    let e : c.loop-k.k ≡ suc c.args.i = omega arith in
    subst (λ (k : ℕ). c.loop-k.out.items ≡ c.args.out.now.items ++ numbers_bytes 8 (map (r_of c.args.shift.now c.args.i) (range_with_len 0 k))) e c.loop-k.invariant
