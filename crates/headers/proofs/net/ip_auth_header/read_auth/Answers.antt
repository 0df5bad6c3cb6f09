-- `net::ip_auth_header::read_auth` meets its contract. Assumes nothing.
use Rattle.headers.specs.Exits.{handed_on}
use Rattle.rules.specs.Test.{beyond}
use mathlib.Core.Path.{refl}
use Rattle.rules.specs.Rules.{says, tests_by, seen_by}
use Rattle.rules.specs.Test.{on, off, done, judged}
use native.Mathlib.Omega.{arith}
use Rattle.headers.proofs.net.ip_auth_header.read_auth.Goals as goal

pub returns-in_err-fits-clause-answer : goal.returns-in_err-fits-clause-answer
unfolding says tests_by seen_by
returns-in_err-fits-clause-answer c =
    λ v. handed_on _ _ c.from_residual.ensures.1 (judged (off (beyond c.in_err-fits.ensures.err.0) c.in_err-fits.ensures.err.1))

pub returns-then-words-eq0-clause-answer : goal.returns-then-words-eq0-clause-answer
unfolding says tests_by seen_by
returns-then-words-eq0-clause-answer c =
    λ v. simp (← c.byte.ensures.answer, ← c.from-words.ensures) (judged (on c.in_ok-fits.ensures.ok (off (omega arith) (refl))))

pub returns-in_err-fits-2-clause-answer : goal.returns-in_err-fits-2-clause-answer
unfolding says tests_by seen_by
returns-in_err-fits-2-clause-answer c =
    λ v. handed_on _ _ c.from_residual-in_err-fits-2.ensures.1 (simp (← c.byte.ensures.answer, ← c.from-words.ensures) (judged (on c.in_ok-fits.ensures.ok
    (on (omega arith) (off (beyond c.in_err-fits-2.ensures.err.0) c.in_err-fits-2.ensures.err.1)))))

pub returns-clause-answer : goal.returns-clause-answer
unfolding says tests_by seen_by
returns-clause-answer c =
    λ v. simp (← c.byte.ensures.answer, ← c.from-words.ensures, ← c.byte-2.ensures.answer) (judged (on c.in_ok-fits.ensures.ok (on (omega arith)
    (on c.in_ok-fits-2.ensures.ok (done (refl))))))
