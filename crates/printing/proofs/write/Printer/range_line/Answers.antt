-- `write::Printer::range_line` meets its contract. Assumes nothing.
use Rattle.printing.proofs.Pieces.{wrote_then}
use Rattle.printing.proofs.write.Printer.range_line.Goals as goal

pub returns : goal.returns
returns c =
    wrote_then c.text.ensures (wrote_then c.text-2.ensures
    (wrote_then c.number.ensures (wrote_then c.text-3.ensures
    (wrote_then c.number-2.ensures c.text-4.ensures))))
