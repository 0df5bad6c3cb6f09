-- `sums::no_zero_sum_of` meets its contract: the theorem of specs, at the answer that is promised. Assumes nothing.
use Rattle.chain.specs.Frames.{from-none, with_slice, no_zero-told}
use Rattle.chain.proofs.sums.no_zero_sum_of.Goals as goal

pub returns : goal.returns
returns c =
    no_zero-told _ _ _ (with_slice _ (with_slice _ (from-none c.new-none.ensures) c.add_slice-one.ensures.answer) c.add_slice-both.ensures.answer) c.to_ones_complement_with_no_zero.ensures
