-- `lists::headers` meets its contract: the theorem of specs, at the answer that is promised. Assumes nothing.
use Rattle.chain.specs.Refused.{count_refused_for_a_reason}
use Rattle.chain.proofs.lists.headers.Goals as goal

pub returns-clause-refused : goal.returns-clause-refused
returns-clause-refused c =
    let e = c.headers.ensures in
    count_refused_for_a_reason _ _ _ e.answer
