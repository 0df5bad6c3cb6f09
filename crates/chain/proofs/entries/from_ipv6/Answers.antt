-- `entries::from_ipv6` meets its contract: the theorem of specs, at the answer that is promised. Assumes nothing.
use Rattle.std.specs.Prelude.{◌≡◌, Err}
use Rattle.std.proofs.Common.{sym, subst}
use Rattle.rules.specs.declared.entry.Entry.TheVariants as E
use Rattle.rules.specs.declared.refusal.Refusal.{Refusal}
use Rattle.chain.specs.Refused.{RefusedForAReason, reply_refused_for_a_reason}
use Rattle.chain.proofs.entries.from_ipv6.Goals as goal

pub returns-clause-refused : goal.returns-clause-refused
returns-clause-refused c =
    let refused = reply_refused_for_a_reason _ _ c.from_ipv6-reply.result c.from_ipv6-reply.ensures.reply in
    subst (λ o. RefusedForAReason E.Ipv6 c.args.s.now (λ (q : Refusal). o ≡ Err q)) (sym c.outcome_of.ensures) refused
