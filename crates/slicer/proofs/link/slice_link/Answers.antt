-- `link::slice_link` meets its contract. Assumes nothing.
use Rattle.slicer.proofs.Answers.{handed_on}
use Rattle.slicer.proofs.Links.{frame_short, frame_long, frame_tags, begins4, begins6}
use Rattle.slicer.specs.Legs.{went}
use mathlib.Core.Path.{refl}
use Prim.Native.Nat.{◌≤◌}
use Rattle.rules.specs.Numbers.{tag_limit}
use native.Mathlib.Omega.{arith}
use Rattle.slicer.proofs.link.slice_link.Goals as goal

pub slice_ether_type-requires : goal.slice_ether_type-requires
slice_ether_type-requires c =
    frame_long _ c.in_ok-first-in-Ethernet.ensures.answer refl

pub returns-in_err-first-in-Ethernet : goal.returns-in_err-first-in-Ethernet
returns-in_err-first-in-Ethernet c =
    rw c.in-Ethernet.is (handed_on _ _ c.from_residual.ensures.1 (frame_short _ c.in_err-first-in-Ethernet.ensures.answer refl))

pub returns-in_ok-first-in-Ethernet : goal.returns-in_ok-first-in-Ethernet
returns-in_ok-first-in-Ethernet c =
    rw c.in-Ethernet.is (frame_tags _ c.in_ok-first-in-Ethernet.ensures.answer refl c.slice_ether_type.ensures)

pub returns-in-Ipv4 : goal.returns-in-Ipv4
returns-in-Ipv4 c =
    let few : 0 ≤ tag_limit = omega arith in
    rw c.in-Ipv4.is (went (record { left = begins4 _; few = few }))

pub returns-in-Ipv6 : goal.returns-in-Ipv6
returns-in-Ipv6 c =
    let few : 0 ≤ tag_limit = omega arith in
    rw c.in-Ipv6.is (went (record { left = begins6 _; few = few }))
