use Rattle.std.proofs.Common.{◌≡◌, ℕ, suc, ◌+◌, ◌-◌, ◌++◌, map, ℤ, sym, ap, ◌∙◌, subst, arith, rules}
use Rattle.std.specs.List.{range_with_len}
use Rattle.std.specs.Int.{w32}
use Rattle.std.specs.Int.RustNames.{FitsSigned}
use Rattle.std.proofs.lemmas.Int.{to_z-of_z}
use Rattle.gap_cert.specs.Bytes.{signed_be}
use Rattle.gap_base.specs.Markets.{rho_of}
use Rattle.gap_writer.specs.HeadBytes.{numbers_bytes}
use Rattle.gap_writer.proofs.Headed.{no_numbers, numbers_on}
use Rattle.gap_writer.proofs.heads.put_pairs.Goals as goal

pub loop-j-init : goal.loop-j-init
loop-j-init c =
    let e : c.args.i + 1 - suc c.args.i ≡ 0 = omega arith in
    no_numbers 4 c.args.out.now.items ∙ ap (λ (k : ℕ). c.args.out.now.items ++ numbers_bytes 4 (map (rho_of c.args.inst.now.market c.args.i) (range_with_len (suc c.args.i) k))) (sym e)

pub loop-j-preserved : goal.loop-j-preserved
loop-j-preserved c =
    let fits : FitsSigned w32 c.rho.result = search rules in
    let i = c.args.i in
    let j = c.loop-j.j in
    numbers_on 4 (rho_of c.args.inst.now.market i) (suc i) (j - suc i) j (j + 1 - suc i) c.args.out.now.items c.loop-j.out.items c.put_i32.new.out.items c.rho.result (omega arith) (omega arith) c.rho.ensures.value c.loop-j.invariant (c.in_ok-put_i32.ensures ∙ ap (λ (z : ℤ). c.loop-j.out.items ++ signed_be 4 z) (to_z-of_z w32 c.rho.result fits))

pub returns : goal.returns
returns c =
    let i = c.args.i in
    let e : c.loop-j.j ≡ c.args.inst.now.market.assets = omega arith in
    subst (λ (k : ℕ). c.loop-j.out.items ≡ c.args.out.now.items ++ numbers_bytes 4 (map (rho_of c.args.inst.now.market i) (range_with_len (suc i) (k - suc i)))) e c.loop-j.invariant
