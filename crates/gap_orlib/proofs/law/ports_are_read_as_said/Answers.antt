use Rattle.gap_orlib.proofs.MarketFields.{market_in_words}
use Rattle.gap_orlib.proofs.FirstFault.{fault_in_words}
use Rattle.gap_orlib.proofs.SameMarket.{read_as_said}
use Rattle.gap_orlib.proofs.OneKind.{one_kind}
use Rattle.gap_orlib.proofs.OneFault.{one_fault, fault_is_told}
use Rattle.gap_orlib.proofs.law.ports_are_read_as_said.Goals as goal

pub returns-clause-market : goal.returns-clause-market
returns-clause-market c = market_in_words

pub returns-clause-read : goal.returns-clause-read
returns-clause-read c = read_as_said

pub returns-clause-fault : goal.returns-clause-fault
returns-clause-fault c = λ bytes f. (fault_in_words bytes f, fault_is_told bytes f)

pub returns-clause-one_fault : goal.returns-clause-one_fault
returns-clause-one_fault c = one_fault

pub returns-clause-one_kind : goal.returns-clause-one_kind
returns-clause-one_kind c = one_kind
