-- `folded` meets its contract. Assumes nothing.
use mathlib.Core.Path.{sym, ◌∙◌}
use native.Mathlib.Omega.{arith}
use Rattle.checksum.specs.Laws.{fold_small, fold_once}
use Rattle.checksum.proofs.folded.Goals as goal

pub returns : goal.returns
returns c =
    sym (fold_small _ (omega arith)) ∙ fold_once _ ∙ fold_once _
