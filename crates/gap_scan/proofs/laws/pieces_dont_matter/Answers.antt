-- Answers where more bytes come.
use Rattle.gap_scan.proofs.MoreLaws.{answers_stay, none_spelled}
use Rattle.gap_scan.proofs.laws.pieces_dont_matter.Goals as goal

pub returns-clause-fed : goal.returns-clause-fed
returns-clause-fed c = λ s more no. answers_stay s more no

pub returns-clause-none : goal.returns-clause-none
returns-clause-none c = λ s g front behind h sp e. none_spelled s g front behind h sp e
