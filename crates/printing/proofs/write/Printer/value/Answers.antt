-- `write::Printer::value` meets its contract. Assumes nothing.
use Rattle.printing.proofs.Pieces.{wrote_then}
use Rattle.printing.proofs.write.Printer.value.Goals as goal

pub returns : goal.returns
returns c = wrote_then c.text.ensures (wrote_then c.number.ensures c.text-2.ensures)
