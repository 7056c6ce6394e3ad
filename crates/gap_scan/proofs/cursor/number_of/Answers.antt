-- A number grows by a byte a step, and stays below what its bytes can spell.
use Rattle.std.proofs.Common.{arith, sym, ap, ◌∙◌, ◌+◌, ◌*◌, ◌<◌, ◌≡◌, ℕ, take, add-one}
use Rattle.std.proofs.lemmas.List.Sums.{fold_more}
use Rattle.gap_cert.specs.Bytes.{value_of}
use Rattle.gap_cert.proofs.Numbers.{full_pos, full_next, byte_behind}
use Rattle.gap_scan.proofs.cursor.number_of.Goals as goal

pub loop-b-init : goal.loop-b-init
loop-b-init c = (refl_zero, full_pos 0)
  where
    refl_zero : ◌≡◌ {A = ℕ} 0 0
    refl_zero = omega arith

pub overflow_mul-value : goal.overflow_mul-value
overflow_mul-value c = let h = byte_behind c.loop-b.value c.loop-b.b-index 0 c.loop-b.invariant.1 (omega arith) (omega arith) in omega arith

pub overflow_add-value : goal.overflow_add-value
overflow_add-value c =
    let t = c.type_inv.bytes c.loop-b.b-index in
    let b : c.from.result < 256 = omega (arith, t, c.from.ensures) in
    let h = byte_behind c.loop-b.value c.loop-b.b-index c.from.result c.loop-b.invariant.1 (omega arith) b in omega arith

pub loop-b-preserved : goal.loop-b-preserved
loop-b-preserved c =
    let t = c.type_inv.bytes c.loop-b.b-index in
    let b : c.from.result < 256 = omega (arith, t, c.from.ensures) in
    let m = fold_more (λ v b. v * 256 + b) 0 c.args.bytes.now c.loop-b.b-index 0 c.loop-b-test.true in
    let n = full_next c.loop-b.b-index in
    (ap (λ (v : ℕ). v * 256 + c.from.result) c.loop-b.invariant.0 ∙ ap (λ (b : ℕ). value_of (take c.loop-b.b-index c.args.bytes.now) * 256 + b) c.from.ensures ∙ sym m, rw (add-one c.loop-b.b-index) (omega (arith, n)))
