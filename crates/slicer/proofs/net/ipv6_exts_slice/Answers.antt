-- `net::ipv6_exts_slice` meets its contract. Assumes nothing.
use Rattle.slicer.proofs.Answers.{handed_on}
use Rattle.slicer.proofs.Exts.{along-short, along_ahead, along_on, along_late, along-ends}
use Rattle.slicer.specs.Legs.{went, stuck}
use mathlib.Core.Path.{refl}
use native.Mathlib.Omega.{arith}
use Rattle.slicer.proofs.net.ipv6_exts_slice.Goals as goal

pub returns-in_err-x-in-Opens : goal.returns-in_err-x-in-Opens
returns-in_err-x-in-Opens c =
    handed_on _ _ c.from_residual.ensures.1
    (along-short c.loop-kind.invariant _ c.ext_turn.ensures _ c.in-Opens.is c.in_err-x-in-Opens.ensures.answer refl)

pub overflow_add-at : goal.overflow_add-at
overflow_add-at c =
    let z = along_ahead c.loop-kind.invariant _ c.ext_turn.ensures _ c.in-Opens.is c.in_ok-x-in-Opens.ensures.answer refl in
    omega (arith, z.1, c.loop-kind.invariant.room)

pub loop-kind-smaller : goal.loop-kind-smaller
loop-kind-smaller c =
    let z = along_ahead c.loop-kind.invariant _ c.ext_turn.ensures _ c.in-Opens.is c.in_ok-x-in-Opens.ensures.answer refl in omega (arith, z.0, z.1)

pub loop-kind-preserved : goal.loop-kind-preserved
loop-kind-preserved c =
    along_on c.loop-kind.invariant _ c.ext_turn.ensures _ c.in-Opens.is c.in_ok-x-in-Opens.ensures.answer refl c.marks-mark.ensures

pub returns-in-LateHopByHop : goal.returns-in-LateHopByHop
returns-in-LateHopByHop c =
    stuck (along_late c.loop-kind.invariant _ c.ext_turn.ensures c.in-LateHopByHop.is)

pub returns-in-Ends : goal.returns-in-Ends
returns-in-Ends c =
    went (along-ends c.loop-kind.invariant _ c.ext_turn.ensures c.in-Ends.is)
