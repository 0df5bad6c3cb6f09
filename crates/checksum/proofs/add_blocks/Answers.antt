-- `add_blocks` meets its contract: each turn of the fold adds a block. The block's length is taken from the code: `refl` says that it is
-- even, and `omega` that `add_block` takes as much. Assumes nothing.
use mathlib.Core.Path.{refl, ap, ◌∙◌}
use native.Mathlib.Omega.{arith}
use Rattle.std.proofs.Common.{rules}
use Rattle.checksum.specs.Sum.{add_slice}
use Rattle.checksum.proofs.Blocks.{by_blocks, each_taken}
use Rattle.checksum.proofs.add_blocks.Goals as goal

pub returns : goal.returns
returns c =
    let r = c.fold.ensures.ran in
    by_blocks _ (λ p b q k. search rules) r.0 c.chunks.result (tt, c.args.start) (r.1, c.fold.result) (rw c.chunks.ensures.size refl) (omega arith) r.2 r.3
    ∙ ap (add_slice c.args.start) c.chunks.ensures.rest

pub fold-requires-clause-callable : goal.fold-requires-clause-callable
fold-requires-clause-callable c =
    each_taken c.chunks.result (λ q b h. omega (arith, h, c.chunks.ensures.size))
