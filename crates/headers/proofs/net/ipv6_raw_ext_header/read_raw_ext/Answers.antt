-- `net::ipv6_raw_ext_header::read_raw_ext` meets its contract. Assumes nothing.
use Rattle.headers.specs.Exits.{handed_on}
use Rattle.rules.specs.Test.{beyond}
use mathlib.Core.Path.{refl}
use Rattle.rules.specs.Rules.{says, tests_by, seen_by}
use Rattle.rules.specs.Test.{on, off, done, judged}
use Rattle.headers.proofs.net.ipv6_raw_ext_header.read_raw_ext.Goals as goal

pub returns-in_err-fits-clause-answer : goal.returns-in_err-fits-clause-answer
unfolding says tests_by seen_by
returns-in_err-fits-clause-answer c =
    λ v. handed_on _ _ c.from_residual.ensures.1 (judged (off (beyond c.in_err-fits.ensures.err.0) c.in_err-fits.ensures.err.1))

pub returns-in_err-fits-2-clause-answer : goal.returns-in_err-fits-2-clause-answer
unfolding says tests_by seen_by
returns-in_err-fits-2-clause-answer c =
    λ v. handed_on _ _ c.from_residual-in_err-fits-2.ensures.1 (simp (← c.byte.ensures.answer, ← c.from-units.ensures) (judged (on c.in_ok-fits.ensures.ok
    (off (beyond c.in_err-fits-2.ensures.err.0) c.in_err-fits-2.ensures.err.1))))

pub returns-clause-answer : goal.returns-clause-answer
unfolding says tests_by seen_by
returns-clause-answer c =
    λ v. simp (← c.byte.ensures.answer, ← c.from-units.ensures, ← c.byte-2.ensures.answer) (judged (on c.in_ok-fits.ensures.ok
    (on c.in_ok-fits-2.ensures.ok (done (refl)))))
