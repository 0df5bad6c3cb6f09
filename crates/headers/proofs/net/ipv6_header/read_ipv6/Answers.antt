-- `net::ipv6_header::read_ipv6` meets its contract. Assumes nothing.
use Rattle.headers.specs.Exits.{handed_on}
use Rattle.rules.specs.Test.{beyond}
use borrow.Author.Tests.{eq-eqb, ne_eqb}
use mathlib.Core.Path.{refl}
use Prim.Native.Nat.{◌+◌}
use Rattle.rules.specs.Rules.{says, tests_by, seen_by}
use Rattle.rules.specs.Test.{on, off, done, judged}
use native.Mathlib.Omega.{arith}
use Rattle.headers.proofs.net.ipv6_header.read_ipv6.Goals as goal

pub returns-in_err-fits-clause-answer : goal.returns-in_err-fits-clause-answer
unfolding says tests_by seen_by
returns-in_err-fits-clause-answer c =
    λ v. handed_on _ _ c.from_residual.ensures.1 (judged (off (beyond c.in_err-fits.ensures.err.0) c.in_err-fits.ensures.err.1))

pub returns-then-version-ne6-clause-answer : goal.returns-then-version-ne6-clause-answer
unfolding says tests_by seen_by
returns-then-version-ne6-clause-answer c =
    λ v. simp (← c.byte.ensures.answer, ← c.from-version.ensures) (judged (on c.in_ok-fits.ensures.ok (off c.if-version-ne6.true (refl))))

pub returns-then-payload-eq0-clause-answer : goal.returns-then-payload-eq0-clause-answer
unfolding says tests_by seen_by
returns-then-payload-eq0-clause-answer c =
    λ v. simp (
      ← c.byte.ensures.answer,
      ← c.from-version.ensures,
      ← c.be16.ensures.answer,
      ← c.from-payload.ensures,
      ← c.byte-2.ensures.answer,
      eq-eqb _ 0 c.if-payload-eq0.true,
    ) (judged (on c.in_ok-fits.ensures.ok (on c.if-version-ne6.false (on (omega (arith, c.in_ok-fits.ensures.ok))
    (done (refl))))))

pub returns-then-have-declared-clause-answer : goal.returns-then-have-declared-clause-answer
unfolding says tests_by seen_by
returns-then-have-declared-clause-answer c =
    λ v. simp (← c.byte.ensures.answer, ← c.from-version.ensures, ← c.be16.ensures.answer, ← c.from-payload.ensures) (judged
    (on c.in_ok-fits.ensures.ok (on c.if-version-ne6.false (off (beyond c.if-have-declared.true) refl))))

pub returns-clause-answer : goal.returns-clause-answer
unfolding says tests_by seen_by
returns-clause-answer c =
    λ v. simp (
      ← c.byte.ensures.answer,
      ← c.from-version.ensures,
      ← c.be16.ensures.answer,
      ← c.from-payload.ensures,
      ← c.byte-2.ensures.answer,
      ne_eqb _ 0 c.if-payload-eq0.false,
    ) (judged (on c.in_ok-fits.ensures.ok (on c.if-version-ne6.false
    (on c.if-have-declared.false (done (rw (ne_eqb (40 + c.from-payload.result) 0 (λ e. omega (arith, e))) refl))))))
