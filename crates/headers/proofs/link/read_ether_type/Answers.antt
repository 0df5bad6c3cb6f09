-- `link::read_ether_type` meets its contract. Assumes nothing.
use Rattle.headers.specs.Exits.{handed_on}
use Rattle.rules.specs.Test.{beyond}
use mathlib.Core.Path.{ap}
use Rattle.rules.specs.Rules.{ether_type_of}
use Rattle.rules.specs.Test.{on, off, done, judged}
use Rattle.headers.proofs.link.read_ether_type.Goals as goal

pub returns-in_err-fits : goal.returns-in_err-fits
returns-in_err-fits c =
    handed_on _ _ c.from_residual.ensures.1 (judged (off (beyond c.in_err-fits.ensures.err.0) c.in_err-fits.ensures.err.1))

pub returns : goal.returns
returns c =
    judged (on c.in_ok-fits.ensures.ok (done (ap ether_type_of c.be16.ensures.answer)))
