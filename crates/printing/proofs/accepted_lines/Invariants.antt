-- `accepted_lines` meets its contract. Assumes nothing.
use Rattle.printing.proofs.Telling.{Telling}
use Rattle.printing.specs.Text.{text_of}
use Prim.Native.Nat.{◌-◌}
use Rattle.printing.proofs.accepted_lines.Given as goal

abbrev pub invariant-loop-len : goal.invariant-loop-len
invariant-loop-len l = Telling l.s (text_of l.fn.entry l.s) l.initial.printer l.place l.printer

abbrev pub decreases-loop-len : goal.decreases-loop-len
decreases-loop-len l = l.place.room.end - l.place.at
