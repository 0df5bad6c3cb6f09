-- What the closure of `add_block` makes of the byte that is left: the low byte of a word whose other byte is zero.
use mathlib.Core.Path.{◌≡◌}
use Rattle.checksum.proofs.fn.add_block.map_or.Given as goal

abbrev pub ensures : goal.ensures
ensures l r = r ≡ l.last.entry.now
