-- `accepted_lines` meets its contract. Assumes nothing.
use Rattle.printing.proofs.Telling.{telling_first, telling_less, telling_on, telling_last, telling_no_step}
use Rattle.std.specs.Prelude.{Ok}
use Rattle.std.proofs.Common.{ap, ◌∙◌}
use Rattle.steps.specs.Places.{opens-there}
use Rattle.printing.proofs.accepted_lines.Goals as goal

pub loop-len-init : goal.loop-len-init
loop-len-init c =
    telling_first _ _ (opens-there _ c.first-place.ensures.answer) _ c.requires

pub loop-len-smaller : goal.loop-len-smaller
loop-len-smaller c =
    telling_less c.loop-len.invariant _ c.next.ensures.answer (c.in-Ok-Next.is ∙ ap Ok c.in-Ok-Next.field-0-is)

pub loop-len-preserved : goal.loop-len-preserved
loop-len-preserved c =
    telling_on c.loop-len.invariant _ c.next.ensures.answer (c.in-Ok-Next.is ∙ ap Ok c.in-Ok-Next.field-0-is) c.header_line.ensures

pub returns-in-Ok-Last : goal.returns-in-Ok-Last
returns-in-Ok-Last c =
    telling_last c.loop-len.invariant _ c.next.ensures.answer (c.in-Ok-Last.is ∙ ap Ok c.in-Ok-Last.field-0-is) c.header_line-in-Ok-Last.ensures c.ending_lines.ensures

pub returns-in-Err : goal.returns-in-Err
returns-in-Err c =
    absurd (telling_no_step c.loop-len.invariant _ c.next.ensures.answer _ c.in-Err.is)
