-- `new` meets its contract: the sum of no slices is 0. Assumes nothing.
use mathlib.Core.Path.{refl}
use Rattle.checksum.specs.Sum.{totals, fold}
use Rattle.checksum.proofs.Sum16BitWords.new.Goals as goal

pub returns : goal.returns
unfolding totals fold
returns c =
    refl
