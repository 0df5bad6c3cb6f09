-- `texts::print` meets its contract: the theorem of specs, at the answer that is promised. Assumes nothing.
use Rattle.printing.specs.Text.{text_of}
use Rattle.chain.specs.Printed.{text-tells}
use Rattle.chain.proofs.texts.print.Goals as goal

pub returns : goal.returns
returns c =
    let e = c.print.ensures in (text_of _ _, text-tells _ _, e.text, e.answer)
