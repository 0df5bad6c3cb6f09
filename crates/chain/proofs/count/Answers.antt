-- `count` meets its contract: the theorems of specs, at the answer that the slicer promises. Assumes nothing.
use Rattle.chain.specs.Headers.{count_is_length}
use Rattle.chain.specs.Refused.{count_refused_for_a_reason}
use Rattle.chain.proofs.count.Goals as goal

pub returns-clause-counted : goal.returns-clause-counted
returns-clause-counted c =
    count_is_length _ _ _ c.count-counted.ensures.answer

pub returns-clause-refused : goal.returns-clause-refused
returns-clause-refused c =
    count_refused_for_a_reason _ _ _ c.count-counted.ensures.answer
