-- `bhirkulom_header` meets its contract. Assumes nothing.
use Rattle.std.specs.Prelude.{◌≡◌}
use Rattle.std.proofs.Common.{rules}
use Rattle.slicer.specs.Reply.{no_header}
use Rattle.exports.specs.Handed.{entry_by}
use Rattle.exports_by_number.proofs.HeaderK.{header-here, header_past}
use Rattle.exports_by_number.proofs.bhirkulom_header.Goals as goal

pub returns-then-k-counted-clause-answer : goal.returns-then-k-counted-clause-answer
returns-then-k-counted-clause-answer c =
    header-here (entry_by c.args.entry) _ c.args.k c.bhirkulom_headers-counted.ensures.answer c.bhirkulom_headers-counted.ensures.listed
    c.if-k-counted.true

pub returns-clause-answer : goal.returns-clause-answer
returns-clause-answer c =
    let none : c.default.result ≡ no_header = search rules in
    rw (c.past.ensures, none) (header_past (entry_by c.args.entry) _ c.args.k c.bhirkulom_headers-counted.ensures.answer c.if-k-counted.false)
