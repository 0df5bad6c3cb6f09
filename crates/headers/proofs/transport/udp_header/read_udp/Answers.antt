-- `transport::udp_header::read_udp` meets its contract. Assumes nothing.
use Rattle.headers.specs.Exits.{handed_on}
use Rattle.rules.specs.Test.{beyond}
use borrow.Author.Tests.{eq-eqb, ne_eqb}
use mathlib.Core.Path.{refl}
use Rattle.rules.specs.Rules.{says, tests_by, seen_by}
use Rattle.rules.specs.Test.{on, off, done, judged}
use native.Mathlib.Omega.{arith}
use Rattle.headers.proofs.transport.udp_header.read_udp.Goals as goal

pub returns-in_err-fits-clause-answer : goal.returns-in_err-fits-clause-answer
unfolding says tests_by seen_by
returns-in_err-fits-clause-answer c =
    λ v. handed_on _ _ c.from_residual.ensures.1 (judged (off (beyond c.in_err-fits.ensures.err.0) c.in_err-fits.ensures.err.1))

pub returns-then-end-eq0-clause-answer : goal.returns-then-end-eq0-clause-answer
unfolding says tests_by seen_by
returns-then-end-eq0-clause-answer c =
    λ v. simp (← c.be16.ensures.answer, ← c.from-end.ensures, eq-eqb _ 0 c.if-end-eq0.true) (judged (on c.in_ok-fits.ensures.ok
    (on c.in_ok-fits.ensures.ok (on (omega arith) (done (refl))))))

pub returns-then-end-lt-UDP-clause-answer : goal.returns-then-end-lt-UDP-clause-answer
unfolding says tests_by seen_by
returns-then-end-lt-UDP-clause-answer c =
    λ v. simp (← c.be16.ensures.answer, ← c.from-end.ensures, ne_eqb _ 0 c.if-end-eq0.false) (judged (on c.in_ok-fits.ensures.ok
    (off (beyond c.if-end-lt-UDP.true) refl)))

pub returns-then-have-end-clause-answer : goal.returns-then-have-end-clause-answer
unfolding says tests_by seen_by
returns-then-have-end-clause-answer c =
    λ v. simp (← c.be16.ensures.answer, ← c.from-end.ensures, ne_eqb _ 0 c.if-end-eq0.false) (judged (on c.in_ok-fits.ensures.ok
    (on c.if-end-lt-UDP.false (off (beyond c.if-have-end.true) refl))))

pub returns-clause-answer : goal.returns-clause-answer
unfolding says tests_by seen_by
returns-clause-answer c =
    λ v. simp (← c.be16.ensures.answer, ← c.from-end.ensures, ne_eqb _ 0 c.if-end-eq0.false) (judged (on c.in_ok-fits.ensures.ok
    (on c.if-end-lt-UDP.false (on c.if-have-end.false (done (refl))))))
