-- `write::Printer::ending_lines` meets its contract. Assumes nothing.
use Rattle.printing.proofs.Pieces.{wrote_then}
use Rattle.printing.specs.Text.{payload_line, stop_line, ending_lines}
use Rattle.printing.proofs.write.Printer.ending_lines.Goals as goal

pub returns : goal.returns
unfolding payload_line stop_line ending_lines
returns c =
    wrote_then c.range_line.ensures (wrote_then c.text.ensures (wrote_then (rw c.number.ensures at c.number-2.ensures) c.text-2.ensures))
