-- `outcome` meets its contract: the theorems of specs, at the answer that the slicer promises. Assumes nothing.
use Rattle.std.specs.Prelude.{◌≡◌, Err}
use Rattle.std.proofs.Common.{sym, subst}
use Rattle.rules.specs.declared.refusal.Refusal.{Refusal}
use Rattle.chain.specs.Accepted.{AcceptedIffChain, accepted_iff_chain}
use Rattle.chain.specs.Refused.{RefusedForAReason, reply_refused_for_a_reason}
use Rattle.chain.proofs.outcome.Goals as goal

pub returns-clause-accepted : goal.returns-clause-accepted
returns-clause-accepted c =
    subst (AcceptedIffChain c.args.entry c.args.s.now) (sym c.outcome_of-told.ensures) (accepted_iff_chain _ _ c.slice-reply.result c.slice-reply.ensures.reply)

pub returns-clause-refused : goal.returns-clause-refused
returns-clause-refused c =
    let refused = reply_refused_for_a_reason _ _ c.slice-reply.result c.slice-reply.ensures.reply in
    subst (λ o. RefusedForAReason c.args.entry c.args.s.now (λ (q : Refusal). o ≡ Err q)) (sym c.outcome_of-told.ensures) refused
