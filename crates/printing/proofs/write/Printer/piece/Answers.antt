-- `write::Printer::piece` meets its contract. Assumes nothing.
use Rattle.std.proofs.Common.{refl, arith, rules}
use Rattle.printing.proofs.Pieces.{stored, filled, closed}
use Rattle.printing.proofs.write.Printer.piece.Goals.{in-Some, in_default-2, in_default}
use Rattle.printing.proofs.write.Printer.piece.Goals as goal

pub returns : goal.returns
returns c =
    elim c.match-self.branch [
      | in-Some w ↦ rw (w.self-is, w.self2-is) (stored refl w.in-Some.is (search rules) (rw w.copy_from_slice.ensures.after refl) refl)
      | in_default-2 w ↦ rw (w.self-is, w.self2-is) (filled refl refl refl w.in-Some.is (omega (arith, w.saturating_add.ensures, w.if-saturating_add-self.false)))
      | in_default w ↦ rw (w.self-is, w.self2-is) (closed refl refl refl w.in_default.is)
    ]
