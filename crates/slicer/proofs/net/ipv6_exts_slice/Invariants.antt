-- `net::ipv6_exts_slice` meets its contract. Assumes nothing.
use Rattle.slicer.proofs.Exts.{Along}
use Prim.Native.Nat.{◌-◌}
use Rattle.slicer.proofs.net.ipv6_exts_slice.Given as goal

abbrev pub invariant-loop-kind : goal.invariant-loop-kind
invariant-loop-kind l = Along l.room.frame.now l.initial.number l.room.at l.room.end l.room.source l.marked l.number l.at l.mark l.place

abbrev pub decreases-loop-kind : goal.decreases-loop-kind
decreases-loop-kind l = l.room.end - l.at
