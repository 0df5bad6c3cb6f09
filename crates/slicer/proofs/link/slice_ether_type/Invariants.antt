-- `link::slice_ether_type` meets its contract. Assumes nothing.
use Rattle.slicer.proofs.Links.{Tagging}
use Rattle.slicer.specs.Legs.{on_link}
use Rattle.rules.specs.Numbers.{ethernet_length}
use lib.ListN.{length}
use Prim.Native.Nat.{◌-◌}
use Rattle.slicer.proofs.link.slice_ether_type.Given as goal

abbrev pub invariant-loop-turn : goal.invariant-loop-turn
invariant-loop-turn l = Tagging l.s (on_link l.s 0 l.initial.next ethernet_length) l.next l.at l.tags

abbrev pub decreases-loop-turn : goal.decreases-loop-turn
decreases-loop-turn l = length l.s - l.at
