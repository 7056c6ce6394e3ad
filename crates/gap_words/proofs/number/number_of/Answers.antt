use Rattle.std.proofs.Common.{◌<◌, arith}
use Rattle.gap_words.proofs.DigitLaws.{small_value}
use Rattle.gap_words.proofs.number.number_of.Goals as goal

pub overflow_mul-value : goal.overflow_mul-value
overflow_mul-value c =
    let small : c.loop-digit.value < 100000000000000000 = small_value _ _ c.loop-digit.invariant.size (omega arith) in
    omega arith

pub overflow_add-value : goal.overflow_add-value
overflow_add-value c =
    let small : c.loop-digit.value < 100000000000000000 = small_value _ _ c.loop-digit.invariant.size (omega arith) in
    omega arith
