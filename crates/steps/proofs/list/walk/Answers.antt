-- `list::walk` meets its contract. Assumes nothing.
use Rattle.steps.proofs.Loop.{slices-from, going_first, going_refused, Past}
use Rattle.steps.proofs.Loop.{past_stored, past_full, past_early, past_halt, past_late, past_on}
use native.Mathlib.Omega.{arith}
use Rattle.std.proofs.lemmas.Result.{err_from_is_err_and}
use Rattle.steps.proofs.list.walk.Goals as goal
use Rattle.steps.proofs.list.walk.Goals.{Joined-k-count, then-k-count+then-to-spare, then-k-count+else-to-spare, else-k-count}

-- where the ways of the stores meet, the loop is past the header here

past_here : (c : Joined-k-count) → Past c.loop-x.invariant c.in_ok-x.x c.if-k-count.out
past_here c =
    let g = c.loop-x.invariant in
    let e = c.header_at.ensures.answer in
    let q = c.in_ok-x.was in
    elim c.if-k-count.branch [
      | then-k-count+then-to-spare w ↦ past_stored g e q w.if-k-count.true w.if-to-spare.true w.number.ensures w.out-is
      | then-k-count+else-to-spare w ↦ past_full g e q w.if-k-count.true w.if-to-spare.false w.out-is
      | else-k-count w ↦ past_early g e q w.if-k-count.false w.out-is
    ]

pub loop-x-init : goal.loop-x-init
loop-x-init c =
    going_first c.args.entry _ _ _ c.first-begin.result c.first-begin.ensures.answer

pub returns-in_err-x-clause-answer : goal.returns-in_err-x-clause-answer
returns-in_err-x-clause-answer c =
    let p = err_from_is_err_and c.from_residual.result c.from_residual.ensures.1 in
    rw (p.1, p.2, slices-from c.args.entry _ c.first-begin.result c.first-begin.ensures.answer)
    (going_refused c.loop-x.invariant c.header_at.ensures.answer c.in_err-x.was).0

pub returns-in_err-x-clause-written : goal.returns-in_err-x-clause-written
returns-in_err-x-clause-written c =
    rw (slices-from c.args.entry _ c.first-begin.result c.first-begin.ensures.answer)
    (going_refused c.loop-x.invariant c.header_at.ensures.answer c.in_err-x.was).1

pub overflow_add-past : goal.overflow_add-past
overflow_add-past c =
    let z = (past_here (goal.at.overflow_add-past c).Joined-k-count).sizes in omega (arith, z)

pub room_behind-room-requires : goal.room_behind-room-requires
room_behind-room-requires c =
    let z = (past_here (goal.at.room_behind-room-requires c).Joined-k-count).sizes in omega (arith, z, c.loop-x.invariant.few)

pub loop-x-smaller : goal.loop-x-smaller
loop-x-smaller c =
    let z = (past_here (goal.at.loop-x-smaller c).Joined-k-count).sizes in omega (arith, z)

pub loop-x-preserved : goal.loop-x-preserved
loop-x-preserved c =
    past_on _ (past_here (goal.at.loop-x-preserved c).Joined-k-count) c.in-Opens.is c.room_behind-room.ensures

pub returns-in-Stops : goal.returns-in-Stops
returns-in-Stops c =
    let z = past_halt _ (past_here (goal.at.returns-in-Stops c).Joined-k-count) c.in-Stops.is in
    rw (slices-from c.args.entry _ c.first-begin.result c.first-begin.ensures.answer) (record { answer = z.0; written = z.1 })

pub returns-in-LateHopByHop : goal.returns-in-LateHopByHop
returns-in-LateHopByHop c =
    let z = past_late _ (past_here (goal.at.returns-in-LateHopByHop c).Joined-k-count) c.in-LateHopByHop.is in
    rw (slices-from c.args.entry _ c.first-begin.result c.first-begin.ensures.answer) (record { answer = z.0; written = z.1 })
