-- The loop of `write::Printer::number`: which digits are found.
use Rattle.printing.proofs.Digits.{Found}
use Rattle.printing.proofs.write.Printer.number.Given as goal

abbrev pub invariant-loop-rest : goal.invariant-loop-rest
invariant-loop-rest l = Found l.n l.rest l.at l.digits

abbrev pub decreases-loop-rest : goal.decreases-loop-rest
decreases-loop-rest l = l.rest
