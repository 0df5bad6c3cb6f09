-- `write::Printer::shortage` meets its contract. Assumes nothing.
use Rattle.printing.proofs.Pieces.{wrote_then}
use Rattle.printing.proofs.write.Printer.shortage.Goals as goal

pub returns : goal.returns
returns c =
    wrote_then c.text.ensures (wrote_then c.number.ensures
    (wrote_then c.text-2.ensures (wrote_then c.number-2.ensures
    (wrote_then c.text-3.ensures (wrote_then (rw c.source_name.ensures at c.text-4.ensures) c.text-5.ensures)))))
