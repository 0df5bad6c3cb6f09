-- `bhirkulom_slice` hands on what the function of `exports` promises. Assumes nothing.
use Rattle.exports_c.proofs.bhirkulom_slice.Goals as goal

pub returns-clause-answer : goal.returns-clause-answer
returns-clause-answer c = c.bhirkulom_slice.ensures.answer
