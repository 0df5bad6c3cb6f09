-- `reply::refused_packet` meets its contract. Assumes nothing.
use mathlib.Core.Path.{ap, ◌∙◌}
use Rattle.rules.specs.declared.refusal.Row.{Row}
use Rattle.exports.specs.Handed.{is_refused, unread, no_parts}
use Rattle.exports.proofs.reply.refused_packet.Goals as goal

pub returns : goal.returns
returns c =
    c.partless.ensures ∙ ap (λ (row : Row). no_parts (unread is_refused row)) c.from.ensures
