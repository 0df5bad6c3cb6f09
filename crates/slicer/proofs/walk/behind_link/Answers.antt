-- `walk::behind_link` meets its contract. Assumes nothing.
use Rattle.slicer.proofs.Answers.{there, turned, told_on}
use Rattle.one_header.specs.Turns.{ip_kind_of}
use mathlib.Core.Path.{refl, sym, ◌∙◌}
use Rattle.slicer.proofs.walk.behind_link.Goals as goal

pub returns-in_err-found : goal.returns-in_err-found
returns-in_err-found c =
    told_on _ _ c.from_residual-in_err-found.ensures.1
    ((there c.in_ok-net.ensures).left _ _ _ _ _ ∙ turned c.in_err-found.ensures _ (ip_kind_of c.args.kind) _ _)

pub returns : goal.returns
returns c =
    c.accepted.ensures
    ∙ sym ((there c.in_ok-net.ensures).left _ _ _ _ _ ∙ there c.in_ok-found.ensures _ (ip_kind_of c.args.kind) _ _ refl)
