-- What the closure of `reply::ranges` makes of a tag: its range.
use mathlib.Core.Path.{◌≡◌}
use Rattle.exports.specs.Handed.{range_of}
use Rattle.exports.proofs.reply.fn.ranges.map.Given as goal

abbrev pub ensures : goal.ensures
ensures l r = r ≡ range_of l.tag
