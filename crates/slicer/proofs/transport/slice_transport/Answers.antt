-- `transport::slice_transport` meets its contract. Assumes nothing.
-- That the bytes read end with the room, `grind` finds for each kind; so an edit of one kind's end is refused for that end.
use Rattle.slicer.proofs.Answers.{handed_on}
use Rattle.slicer.proofs.Carries.{unopened, short, inside, on}
use Rattle.slicer.specs.Legs.{went}
use Prim.Native.Nat.{◌+◌, ◌≤◌, ◌<◌, ◌^◌}
use mathlib.Core.Path.{refl}
use native.Mathlib.Omega.{arith}
use Rattle.slicer.proofs.transport.slice_transport.Goals as goal

pub returns-in_err-x-in-Opens : goal.returns-in_err-x-in-Opens
returns-in_err-x-in-Opens c =
    handed_on _ _ c.from_residual.ensures.1
    (short c.args.room _ _ c.transport_turn.ensures c.in-Opens.is (λ v. grind arith) refl)

pub opened-requires : goal.opened-requires
opened-requires c = go (inside c.args.room _ _ c.transport_turn.ensures c.in-Opens.is (λ v. grind arith) refl)
  where
    go : (c.in_ok-x-in-Opens.x.len ≤ c.in_ok-x-in-Opens.x.end) × (c.args.room.at + c.in_ok-x-in-Opens.x.end ≤ c.args.room.end)
        → (c.in_ok-x-in-Opens.x.len ≤ c.in_ok-x-in-Opens.x.end) × (c.args.room.at + c.in_ok-x-in-Opens.x.end < 2 ^ 64)
    go z = (z.0, omega (arith, z.1, c.args.room.inside))

pub returns-in-Stops : goal.returns-in-Stops
returns-in-Stops c =
    went (λ f k t i n. rw c.unopened.ensures (unopened c.args.room _ _ c.transport_turn.ensures c.in-Stops.is f k t i n))

pub returns-in_ok-x-in-Opens : goal.returns-in_ok-x-in-Opens
returns-in_ok-x-in-Opens c =
    let z = on c.args.room _ _ c.transport_turn.ensures c.in-Opens.is (λ v. grind arith) refl in
    went (λ f k t i n. rw (c.opened.ensures, c.from.ensures) (z f k t i))
