-- `to_ones_complement_with_no_zero` meets its contract. Assumes nothing.
use native.Mathlib.Omega.{arith}
use Rattle.checksum.specs.Sum.{answer}
use Rattle.checksum.specs.Laws.{without_zero_is}
use Rattle.checksum.proofs.Sum16BitWords.to_ones_complement_with_no_zero.Goals as goal

pub returns-in-0 : goal.returns-in-0
returns-in-0 c =
    omega (arith, without_zero_is (answer c.args.self.sum))

pub returns-in_default : goal.returns-in_default
returns-in_default c =
    omega (arith, without_zero_is (answer c.args.self.sum), c.in_default)
