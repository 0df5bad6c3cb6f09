-- `link::slice_ether_type` meets its contract. Assumes nothing.
use Rattle.slicer.proofs.Answers.{handed_on}
use Rattle.slicer.proofs.Links.{tag-cut, tag_in, tag_on, tags_done}
use Rattle.slicer.specs.Legs.{went}
use mathlib.Core.Path.{refl}
use native.Mathlib.Omega.{arith}
use Rattle.slicer.proofs.link.slice_ether_type.Goals as goal

pub returns : goal.returns
returns c =
    went (record { left = tags_done c.loop-turn.invariant _ c.link_turn.ensures c.in-Ends.is; few = c.loop-turn.invariant.few })

pub returns-in_err-next-in-Tag : goal.returns-in_err-next-in-Tag
returns-in_err-next-in-Tag c =
    handed_on _ _ c.from_residual.ensures.1 (tag-cut c.loop-turn.invariant _ c.link_turn.ensures c.in-Tag.is c.in_err-next-in-Tag.ensures.answer refl)

pub loop-turn-smaller : goal.loop-turn-smaller
loop-turn-smaller c =
    omega (arith, tag_in c.loop-turn.invariant _ c.link_turn.ensures c.in-Tag.is c.in_ok-next-in-Tag.ensures.answer refl)

pub loop-turn-preserved : goal.loop-turn-preserved
loop-turn-preserved c =
    tag_on c.loop-turn.invariant _ c.link_turn.ensures c.in-Tag.is c.in_ok-next-in-Tag.ensures.answer refl
