-- `walk::tag_headers` meets its contract. Assumes nothing.
use Rattle.std.proofs.Common.{rules}
use Rattle.slicer.proofs.Slices.{slot, made, all_slots}
use Rattle.slicer.proofs.walk.tag_headers.Goals as goal

pub returns : goal.returns
returns c =
    rw (all_slots c.args.count) (made _ (slot c.args.count) _ (λ i y q k. search rules) _ c.from_fn.ensures.items)
