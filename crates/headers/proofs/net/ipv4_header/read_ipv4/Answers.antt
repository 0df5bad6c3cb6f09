-- `net::ipv4_header::read_ipv4` meets its contract. Assumes nothing.
use Rattle.headers.specs.Exits.{handed_on}
use Rattle.rules.specs.Test.{beyond}
use mathlib.Core.Path.{refl}
use borrow.Author.Tests.{ne_eqb}
use native.Mathlib.Omega.{arith}
use Rattle.rules.specs.Rules.{says, tests_by, seen_by}
use Rattle.rules.specs.Test.{on, off, done, judged}
use Rattle.headers.proofs.net.ipv4_header.read_ipv4.Goals as goal

pub returns-in_err-fits-clause-answer : goal.returns-in_err-fits-clause-answer
unfolding says tests_by seen_by
returns-in_err-fits-clause-answer c =
    λ v. handed_on _ _ c.from_residual.ensures.1 (judged (off (beyond c.in_err-fits.ensures.err.0) c.in_err-fits.ensures.err.1))

pub returns-then-version-ne4-clause-answer : goal.returns-then-version-ne4-clause-answer
unfolding says tests_by seen_by
returns-then-version-ne4-clause-answer c =
    λ v. simp (← c.byte.ensures.answer, ← c.from-first.ensures) (judged (on c.in_ok-fits.ensures.ok (off c.if-version-ne4.true (refl))))

pub returns-then-ihl-lt-LEAST_WORDS-clause-answer : goal.returns-then-ihl-lt-LEAST_WORDS-clause-answer
unfolding says tests_by seen_by
returns-then-ihl-lt-LEAST_WORDS-clause-answer c =
    λ v. simp (← c.byte.ensures.answer, ← c.from-first.ensures) (judged (on c.in_ok-fits.ensures.ok (on c.if-version-ne4.false
    (off (beyond c.if-ihl-lt-LEAST_WORDS.true) refl))))

pub returns-in_err-fits-2-clause-answer : goal.returns-in_err-fits-2-clause-answer
unfolding says tests_by seen_by
returns-in_err-fits-2-clause-answer c =
    λ v. handed_on _ _ c.from_residual-in_err-fits-2.ensures.1 (simp (← c.byte.ensures.answer, ← c.from-first.ensures) (judged (on c.in_ok-fits.ensures.ok
    (on c.if-version-ne4.false (on c.if-ihl-lt-LEAST_WORDS.false (off (beyond c.in_err-fits-2.ensures.err.0) c.in_err-fits-2.ensures.err.1))))))

pub returns-then-total-len-clause-answer : goal.returns-then-total-len-clause-answer
unfolding says tests_by seen_by
returns-then-total-len-clause-answer c =
    λ v. simp (← c.byte.ensures.answer, ← c.from-first.ensures, ← c.be16.ensures.answer, ← c.from-total.ensures) (judged (on c.in_ok-fits.ensures.ok
    (on c.if-version-ne4.false (on c.if-ihl-lt-LEAST_WORDS.false (on c.in_ok-fits-2.ensures.ok (off (beyond c.if-total-len.true) refl))))))

pub returns-then-have-total-clause-answer : goal.returns-then-have-total-clause-answer
unfolding says tests_by seen_by
returns-then-have-total-clause-answer c =
    λ v. simp (← c.byte.ensures.answer, ← c.from-first.ensures, ← c.be16.ensures.answer, ← c.from-total.ensures) (judged (on c.in_ok-fits.ensures.ok
    (on c.if-version-ne4.false (on c.if-ihl-lt-LEAST_WORDS.false (on c.in_ok-fits-2.ensures.ok (on c.if-total-len.false
    (off (beyond c.if-have-total.true) refl)))))))

pub returns-clause-answer : goal.returns-clause-answer
unfolding says tests_by seen_by
returns-clause-answer c =
    λ v. simp (
      ← c.byte.ensures.answer,
      ← c.from-first.ensures,
      ← c.be16.ensures.answer,
      ← c.from-total.ensures,
      ← c.be16-word.ensures.answer,
      ← c.by-fragment.ensures,
      ← c.byte-2.ensures.answer,
    ) (judged (on c.in_ok-fits.ensures.ok (on c.if-version-ne4.false
    (on c.if-ihl-lt-LEAST_WORDS.false (on c.in_ok-fits-2.ensures.ok (on c.if-total-len.false (on c.if-have-total.false
    (done (rw (ne_eqb c.from-total.result 0 (λ e. omega (arith, e, c.if-total-len.false, c.if-ihl-lt-LEAST_WORDS.false))) refl)))))))))
