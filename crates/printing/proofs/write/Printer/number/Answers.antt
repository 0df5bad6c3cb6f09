-- `write::Printer::number` meets its contract. Assumes nothing.
use Rattle.std.proofs.Common.{arith, refl}
use Rattle.printing.proofs.Digits.{found_none, some_left, found_more, one_left, found_all}
use Rattle.printing.proofs.write.Printer.number.Goals as goal

pub loop-rest-init : goal.loop-rest-init
loop-rest-init c = found_none _ _ (omega (arith, c.ranges.n.fits)) refl

pub overflow_sub-at : goal.overflow_sub-at
overflow_sub-at c = some_left c.loop-rest.invariant c.loop-rest-test.true

pub bounds-digits-at : goal.bounds-digits-at
bounds-digits-at c = omega (arith, c.loop-rest.invariant.inside, some_left c.loop-rest.invariant c.loop-rest-test.true)

pub loop-rest-preserved : goal.loop-rest-preserved
loop-rest-preserved c = found_more c.loop-rest.invariant c.loop-rest-test.true

pub overflow_sub-at-2 : goal.overflow_sub-at-2
overflow_sub-at-2 c = one_left c.loop-rest.invariant c.loop-rest-test.false

pub bounds-digits-at-2 : goal.bounds-digits-at-2
bounds-digits-at-2 c = omega (arith, c.loop-rest.invariant.inside, one_left c.loop-rest.invariant c.loop-rest-test.false)

pub returns : goal.returns
returns c = rw (found_all c.loop-rest.invariant c.loop-rest-test.false) at c.piece.ensures
