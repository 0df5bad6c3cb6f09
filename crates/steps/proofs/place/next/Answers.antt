-- `place::next` meets its contract. Assumes nothing.
use Rattle.steps.proofs.Turned.{sizes, PlaceIn, step-read, step_turn}
use Rattle.steps.specs.Places.{step_says}
use Rattle.rules.specs.Place.{follow}
use borrow.Author.Tests.{le-leb, lt-leb}
use Prim.Native.Nat.{ℕ, ◌+◌, ◌-◌}
use native.Mathlib.Omega.{arith}
use mathlib.Core.Path.{◌≡◌, refl}
use Rattle.std.proofs.lemmas.Result.{err_from_is_err_and}
use Rattle.steps.proofs.place.next.Goals as goal
use Rattle.steps.proofs.place.next.Goals.{Else-room-gt-IP_LIMIT}

-- the payload's length, counted from the header or from the frame's start
payload-len : (at to len : ℕ) → to - len ≡ at + to - (at + len)
payload-len at to len = omega arith

-- behind the four tests, the place is one
place_here : (c : Else-room-gt-IP_LIMIT) → PlaceIn c.args.s.now c.args.place
place_here c =
    record {
      inside = record { inside = c.if-end-at.false; room = c.if-s-end.false };
      tags = c.if-room-gt-TAG_LIMIT.false;
      ips = c.if-room-gt-IP_LIMIT.false;
    }

pub returns-then-s-end-clause-answer : goal.returns-then-s-end-clause-answer
unfolding step_says
returns-then-s-end-clause-answer c =
    rw (lt-leb _ _ c.if-s-end.true) refl

pub returns-then-end-at-clause-answer : goal.returns-then-end-at-clause-answer
unfolding step_says
returns-then-end-at-clause-answer c =
    rw (le-leb _ _ c.if-s-end.false, lt-leb _ _ c.if-end-at.true) refl

pub returns-then-room-gt-TAG_LIMIT-clause-answer : goal.returns-then-room-gt-TAG_LIMIT-clause-answer
unfolding step_says
returns-then-room-gt-TAG_LIMIT-clause-answer c =
    rw (le-leb _ _ c.if-s-end.false, le-leb _ _ c.if-end-at.false, lt-leb _ _ c.if-room-gt-TAG_LIMIT.true) refl

pub returns-then-room-gt-IP_LIMIT-clause-answer : goal.returns-then-room-gt-IP_LIMIT-clause-answer
unfolding step_says
returns-then-room-gt-IP_LIMIT-clause-answer c =
    rw (le-leb _ _ c.if-s-end.false, le-leb _ _ c.if-end-at.false, le-leb _ _ c.if-room-gt-TAG_LIMIT.false, lt-leb _ _ c.if-room-gt-IP_LIMIT.true) refl

pub overflow_add-past : goal.overflow_add-past
overflow_add-past c =
    let z = sizes _ (place_here (goal.at.overflow_add-past c).Else-room-gt-IP_LIMIT).inside c.header_at.ensures.answer c.in_ok-x.was in omega (arith, z, c.if-s-end.false)

pub room_behind-requires : goal.room_behind-requires
room_behind-requires c =
    let z = sizes _ (place_here (goal.at.room_behind-requires c).Else-room-gt-IP_LIMIT).inside c.header_at.ensures.answer c.in_ok-x.was in
    omega (arith, z, c.if-s-end.false, c.if-room-gt-TAG_LIMIT.false, c.if-room-gt-IP_LIMIT.false)

pub returns-in_err-x-clause-answer : goal.returns-in_err-x-clause-answer
returns-in_err-x-clause-answer c =
    let p = err_from_is_err_and c.from_residual.result c.from_residual.ensures.1 in
    rw (p.1, p.2) (step-read (place_here (goal.at.returns-in_err-x-clause-answer c).Else-room-gt-IP_LIMIT) c.header_at.ensures.answer c.in_err-x.was)

pub returns-in-Opens-clause-answer : goal.returns-in-Opens-clause-answer
unfolding follow
returns-in-Opens-clause-answer c =
    rw c.room_behind.ensures (step_turn (place_here (goal.at.returns-in-Opens-clause-answer c).Else-room-gt-IP_LIMIT) c.header_at.ensures.answer c.in_ok-x.was c.in-Opens.is)

pub returns-in-Stops-clause-answer : goal.returns-in-Stops-clause-answer
unfolding follow
returns-in-Stops-clause-answer c =
    let x = c.in_ok-x.x in
    rw (c.saturating_sub.ensures, payload-len c.args.place.at x.to x.len)
    (step_turn (place_here (goal.at.returns-in-Stops-clause-answer c).Else-room-gt-IP_LIMIT) c.header_at.ensures.answer c.in_ok-x.was c.in-Stops.is)

pub returns-in-LateHopByHop-clause-answer : goal.returns-in-LateHopByHop-clause-answer
unfolding follow
returns-in-LateHopByHop-clause-answer c =
    step_turn (place_here (goal.at.returns-in-LateHopByHop-clause-answer c).Else-room-gt-IP_LIMIT) c.header_at.ensures.answer c.in_ok-x.was c.in-LateHopByHop.is
