-- `print` meets its contract. Assumes nothing. `drop-length`: where the buffer is cleared by a range, none of it may be left behind the range.
use mathlib.Core.Path.{refl, sym}
use Rattle.std.proofs.Math.Seq.{drop-length}
use Rattle.std.proofs.Common.{rules}
use Rattle.printing.proofs.Pieces.{none_is, printed_none, printed_answer, printed_text, printed_cut}
use Rattle.printing.proofs.print.Goals as goal

pub returns-then-is_none-clause-text : goal.returns-then-is_none-clause-text
returns-then-is_none-clause-text c =
    printed_cut _ _ (search (rules, drop-length)) refl c.lines.ensures c.if-is_none.ensures (search (rules, drop-length)) (search (rules, drop-length))

pub returns-then-is_none-clause-answer : goal.returns-then-is_none-clause-answer
returns-then-is_none-clause-answer c =
    let none = none_is c.lines.new.printer.len c.if-is_none.ensures in
    printed_none _ _ (search (rules, drop-length)) refl c.lines.ensures c.if-is_none.ensures (search rules)

pub returns-else-is_none-clause-text : goal.returns-else-is_none-clause-text
returns-else-is_none-clause-text c =
    let same = sym c.lines.ensures.same in
    printed_text _ _ (search (rules, drop-length)) refl c.lines.ensures c.if-is_none.ensures (search rules)

pub returns-else-is_none-clause-answer : goal.returns-else-is_none-clause-answer
returns-else-is_none-clause-answer c = printed_answer _ _ (search (rules, drop-length)) refl c.lines.ensures
