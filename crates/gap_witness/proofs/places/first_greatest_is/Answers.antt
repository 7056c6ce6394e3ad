use Rattle.gap_witness.proofs.PlaceLaws.{found_none, found_some, some_found, none_found}
use Rattle.gap_witness.proofs.places.first_greatest_is.Goals as goal

pub returns-clause-found : goal.returns-clause-found
returns-clause-found c = λ n p f i. (found_some n p f i, some_found n p f i)

pub returns-clause-none : goal.returns-clause-none
returns-clause-none c = λ n p f. (found_none n p f, none_found n p f)
