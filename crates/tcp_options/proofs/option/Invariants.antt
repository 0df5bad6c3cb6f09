-- `option` meets its contract. Assumes nothing.
use Rattle.tcp_options.proofs.Going.{Going}
use Rattle.tcp_options.proofs.option.Given as goal

abbrev pub invariant-loop : goal.invariant-loop
invariant-loop l = Going l.s l.k l.at l.counter
