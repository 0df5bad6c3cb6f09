-- `walk::slice` meets its contract. Assumes nothing.
use Rattle.slicer.proofs.Answers.{there, turned, told_on}
use Rattle.slicer.proofs.Slices.{reply_is, to_ip, to_stop}
use mathlib.Core.Path.{sym, ◌∙◌}
use Rattle.slicer.proofs.walk.slice.Goals as goal

pub returns-in_err-front-clause-reply : goal.returns-in_err-front-clause-reply
returns-in_err-front-clause-reply c =
    told_on _ _ c.from_residual.ensures.1 (reply_is _ c.args.s.now ∙ turned c.in_err-front.ensures)

pub returns-in-Opens-clause-reply : goal.returns-in-Opens-clause-reply
returns-in-Opens-clause-reply c =
    c.behind_link.ensures ∙ sym (reply_is _ c.args.s.now ∙ to_ip c.in_ok-front.front (there c.in_ok-front.ensures) c.in-Opens.is)

pub returns-in-Stops-clause-reply : goal.returns-in-Stops-clause-reply
returns-in-Stops-clause-reply c =
    c.accepted.ensures
    ∙ rw c.payload.ensures (sym (reply_is _ c.args.s.now ∙ to_stop c.in_ok-front.front (there c.in_ok-front.ensures) c.in-Stops.is))
