use Rattle.std.proofs.Common.{◌≡◌, ℤ, ap, ◌∙◌, sym, w64, FitsSigned, arith}
use Rattle.std.proofs.lemmas.Int.{to_z-of_z}
use Rattle.gap_psd.specs.Shifts.{with_r}
use Rattle.gap_judge.proofs.BuiltLaws.{shift_entry}
use Rattle.gap_judge.proofs.built.set_row.Goals as goal

pub loop-k-preserved : goal.loop-k-preserved
loop-k-preserved c =
    let fits : FitsSigned w64 c.entry_of.result = record { sfits = c.entry_of.type_inv } in
    let e : c.set_r.new.self ≡ with_r c.loop-k.shift c.args.i c.loop-k.k c.entry_of.result =
    c.set_r.ensures ∙ ap (λ (z : ℤ). with_r c.loop-k.shift c.args.i c.loop-k.k z) (to_z-of_z w64 c.entry_of.result fits) in
    rw e (shift_entry c.args.head.now c.loop-k.shift c.args.i c.loop-k.k c.args.i c.entry_of.result (omega (arith, c.loop-k-test.true)) c.requires.row c.entry_of.ensures.value c.loop-k.invariant)
