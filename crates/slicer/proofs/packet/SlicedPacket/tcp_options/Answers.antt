-- `packet::SlicedPacket::tcp_options` meets its contract. Assumes nothing.
use Rattle.std.proofs.Common.{rules}
use Rattle.slicer.specs.Options.{options_of}
use Rattle.slicer.proofs.packet.SlicedPacket.tcp_options.Goals as goal

pub returns-in_err-header-clause-answer : goal.returns-in_err-header-clause-answer
unfolding options_of
returns-in_err-header-clause-answer c = search rules

pub returns-in_err-checked_sub-clause-answer : goal.returns-in_err-checked_sub-clause-answer
unfolding options_of
returns-in_err-checked_sub-clause-answer c = search rules

pub returns-then-header-number-clause-answer : goal.returns-then-header-number-clause-answer
unfolding options_of
returns-then-header-number-clause-answer c = search rules

pub returns-in_err-checked_sub-2-clause-answer : goal.returns-in_err-checked_sub-2-clause-answer
unfolding options_of
returns-in_err-checked_sub-2-clause-answer c = search rules

pub returns-clause-answer : goal.returns-clause-answer
unfolding options_of
returns-clause-answer c = search rules
