-- `net::ipv6_fragment_header::read_fragment` meets its contract. Assumes nothing.
use Rattle.headers.specs.Exits.{handed_on}
use Rattle.rules.specs.Test.{beyond}
use mathlib.Core.Path.{refl}
use Rattle.rules.specs.Rules.{says, tests_by, seen_by}
use Rattle.rules.specs.Test.{on, off, done, judged}
use Rattle.headers.proofs.net.ipv6_fragment_header.read_fragment.Goals as goal

pub returns-in_err-fits-clause-answer : goal.returns-in_err-fits-clause-answer
unfolding says tests_by seen_by
returns-in_err-fits-clause-answer c =
    λ v. handed_on _ _ c.from_residual.ensures.1 (judged (off (beyond c.in_err-fits.ensures.err.0) c.in_err-fits.ensures.err.1))

pub returns-clause-answer : goal.returns-clause-answer
unfolding says tests_by seen_by
returns-clause-answer c =
    λ v. simp (← c.be16-word.ensures.answer, ← c.by-fragment.ensures, ← c.byte.ensures.answer) (judged (on c.in_ok-fits.ensures.ok (done (refl))))
