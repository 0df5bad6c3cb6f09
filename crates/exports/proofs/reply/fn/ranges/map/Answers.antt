-- The closure of `reply::ranges` makes a tag's range. Assumes nothing.
use mathlib.Core.Path.{refl}
use Rattle.exports.proofs.reply.fn.ranges.map.Goals as goal

pub returns : goal.returns
returns c =
    refl
