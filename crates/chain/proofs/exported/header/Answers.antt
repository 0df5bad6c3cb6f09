-- `exported::header` meets its contract: the theorem of specs, at the answer that is promised. Assumes nothing.
use Rattle.chain.specs.Exported.{header-by}
use Rattle.chain.proofs.exported.header.Goals as goal

pub returns : goal.returns
returns c =
    header-by _ _ _ _ c.bhirkulom_header.ensures.answer
