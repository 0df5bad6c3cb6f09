-- `lines` meets its contract. Assumes nothing.
use Rattle.printing.proofs.Replies.{reply_accepts, reply_refuses}
use Rattle.printing.proofs.lines.Goals as goal

pub accepted_lines-requires : goal.accepted_lines-requires
accepted_lines-requires c =
    reply_accepts _ _ c.outcome.result c.outcome.ensures c.in-Ok.is

pub returns-in-Err : goal.returns-in-Err
returns-in-Err c =
    rw (reply_refuses _ _ c.outcome.result c.outcome.ensures c.in-Err.is) at c.refused_line.ensures
