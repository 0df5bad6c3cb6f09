-- `transport::tcp_header::read_tcp` meets its contract. Assumes nothing.
use Rattle.headers.specs.Exits.{handed_on}
use Rattle.rules.specs.Test.{beyond}
use mathlib.Core.Path.{refl}
use Rattle.rules.specs.Rules.{says, tests_by, seen_by}
use Rattle.rules.specs.Test.{on, off, done, judged}
use Rattle.headers.proofs.transport.tcp_header.read_tcp.Goals as goal

pub returns-in_err-fits-clause-answer : goal.returns-in_err-fits-clause-answer
unfolding says tests_by seen_by
returns-in_err-fits-clause-answer c =
    λ v. handed_on _ _ c.from_residual.ensures.1 (judged (off (beyond c.in_err-fits.ensures.err.0) c.in_err-fits.ensures.err.1))

pub returns-then-value-lt-LEAST_WORDS-clause-answer : goal.returns-then-value-lt-LEAST_WORDS-clause-answer
unfolding says tests_by seen_by
returns-then-value-lt-LEAST_WORDS-clause-answer c =
    λ v. simp (← c.byte.ensures.answer, ← c.from-value.ensures) (judged (on c.in_ok-fits.ensures.ok
    (off (beyond c.if-value-lt-LEAST_WORDS.true) refl)))

pub returns-in_err-fits-2-clause-answer : goal.returns-in_err-fits-2-clause-answer
unfolding says tests_by seen_by
returns-in_err-fits-2-clause-answer c =
    λ v. handed_on _ _ c.from_residual-in_err-fits-2.ensures.1 (simp (← c.byte.ensures.answer, ← c.from-value.ensures) (judged (on c.in_ok-fits.ensures.ok
    (on c.if-value-lt-LEAST_WORDS.false (off (beyond c.in_err-fits-2.ensures.err.0) c.in_err-fits-2.ensures.err.1)))))

pub returns-clause-answer : goal.returns-clause-answer
unfolding says tests_by seen_by
returns-clause-answer c =
    λ v. simp (← c.byte.ensures.answer, ← c.from-value.ensures) (judged (on c.in_ok-fits.ensures.ok (on c.if-value-lt-LEAST_WORDS.false
    (on c.in_ok-fits-2.ensures.ok (done (refl))))))
