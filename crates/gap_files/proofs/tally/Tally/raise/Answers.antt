use Rattle.std.proofs.Common.{arith}
use Rattle.std.proofs.lemmas.Map.Text.{text_keys}
use Rattle.gap_files.proofs.tally.Tally.raise.Goals as goal

pub returns-clause-others : goal.returns-clause-others
returns-clause-others c = λ other ne. grind (arith, text_keys)

pub returns-clause-later : goal.returns-clause-later
returns-clause-later c = λ other. grind (arith, text_keys)
