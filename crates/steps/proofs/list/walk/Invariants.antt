-- `list::walk` meets its contract. Assumes nothing.
use Rattle.steps.proofs.Loop.{Going}
use Rattle.rules.specs.Walk.{trace}
use Rattle.rules.specs.Place.{place}
use lib.ListN.{length}
use Prim.Native.Nat.{◌-◌}
use Rattle.steps.proofs.list.walk.Given as goal

abbrev pub invariant-loop-x : goal.invariant-loop-x
invariant-loop-x l = Going l.s l.k (trace l.s (place l.initial.kind l.initial.at l.initial.room)) l.initial.out l.kind l.at l.room l.count l.out

abbrev pub decreases-loop-x : goal.decreases-loop-x
decreases-loop-x l = length l.s - l.at
