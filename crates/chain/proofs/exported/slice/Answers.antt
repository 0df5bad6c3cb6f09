-- `exported::slice` meets its contract: the theorem of specs, at the answer that is promised. Assumes nothing.
use Rattle.chain.specs.Exported.{packet-by}
use Rattle.chain.proofs.exported.slice.Goals as goal

pub returns : goal.returns
returns c =
    packet-by _ _ _ c.bhirkulom_slice.ensures.answer
