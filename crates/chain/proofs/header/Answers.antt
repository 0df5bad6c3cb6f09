-- `header` meets its contract: the theorems of specs, at the answer that the slicer promises. Assumes nothing.
use Rattle.chain.specs.Headers.{headers_in_order}
use Rattle.chain.specs.Refused.{header_refused_for_a_reason}
use Rattle.chain.proofs.header.Goals as goal

pub returns-clause-listed : goal.returns-clause-listed
returns-clause-listed c =
    headers_in_order _ _ _ _ c.header-listed.ensures.answer

pub returns-clause-refused : goal.returns-clause-refused
returns-clause-refused c =
    header_refused_for_a_reason _ _ _ _ c.header-listed.ensures.answer
