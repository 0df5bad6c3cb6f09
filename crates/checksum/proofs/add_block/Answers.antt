-- `add_block` meets its contract: the pairs' sum is within 32 bits, and turned, with the byte that may be left, it adds the block's total.
-- Assumes nothing.
use mathlib.Core.Path.{◌≡◌, ap, ◌∙◌}
use Prim.Native.Nat.{◌/◌}
use native.Mathlib.Omega.{arith}
use lib.ListN.{length, get_or}
use Rattle.std.proofs.Common.{rules}
use Rattle.checksum.specs.Sum.{fold}
use Rattle.checksum.proofs.Blocks.{pairs_le, by_pairs, left, first_or}
use Rattle.checksum.proofs.add_block.Goals as goal

pub low_first-requires : goal.low_first-requires
low_first-requires c =
    let s = c.args.slice.now in
    let b = pairs_le (length s / 2) s (omega arith) c.type_inv.slice in
    rw c.as_chunks.ensures.front (omega arith)

pub overflow_add-low_first : goal.overflow_add-low_first
overflow_add-low_first c =
    let s = c.args.slice.now in
    let b = pairs_le (length s / 2) s (omega arith) c.type_inv.slice in
    let e = rw c.as_chunks.ensures.front at c.low_first.ensures in
    omega arith

pub returns : goal.returns
returns c =
    let s = c.args.slice.now in
    let rest = c.as_chunks.result.1.now in
    let e = rw c.as_chunks.ensures.front at c.low_first.ensures in
    let f : c.from.result ≡ get_or rest 0 0 = c.from.ensures ∙ first_or c.first.result rest _ _ c.first.ensures.value c.map_or-last.ensures (λ x q. search rules) in
    let l = left rest (omega arith) in
    let t = rw (← c.as_chunks.ensures.back, l) at (by_pairs (length s / 2) s c.args.start (omega arith)) in
    c.add_turned.ensures ∙ ap fold (omega arith) ∙ t
