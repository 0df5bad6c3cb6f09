-- The closure of `add_block` makes that word. Assumes nothing.
use native.Mathlib.Omega.{arith}
use Rattle.checksum.proofs.fn.add_block.map_or.Goals as goal

pub returns : goal.returns
returns c =
    omega (arith, c.from_le_bytes.ensures)
