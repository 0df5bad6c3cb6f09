-- `walk::accepted` meets its contract. Assumes nothing.
use mathlib.Core.Path.{refl}
use Rattle.slicer.proofs.Slices.{tags_length}
use Rattle.rules.specs.Numbers.{ethernet_length}
use Rattle.slicer.proofs.walk.accepted.Goals as goal

pub returns : goal.returns
returns c =
    rw (tags_length c.args.front.tags ethernet_length, c.tag_headers.ensures, c.then_some.ensures, c.number.ensures) refl
