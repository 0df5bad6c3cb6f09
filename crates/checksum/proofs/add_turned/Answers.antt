-- `add_turned` meets its contract. Assumes nothing.
use mathlib.Core.Path.{◌∙◌}
use Rattle.checksum.specs.Laws.{fold-base}
use Rattle.checksum.proofs.add_turned.Goals as goal

pub returns : goal.returns
returns c =
    c.folded-2.ensures ∙ rw (c.from.ensures, c.from-turned.ensures, c.folded.ensures) (fold-base _ _)
