-- `options::of_frame` meets its contract: the theorem of specs, at the answer that is promised. Assumes nothing.
use Rattle.std.specs.Prelude.{length, None, Result}
use Rattle.std.proofs.Common.{sym, ap, ◌∙◌}
use Rattle.rules.specs.declared.refusal.Refusal.{Refusal}
use Rattle.slicer.specs.declared.packet.SlicedPacket.{SlicedPacket}
use Rattle.slicer.specs.Options.{options_of}
use Rattle.chain.specs.Answers.{transport_of}
use Rattle.chain.specs.TcpOptions.{none, options_of_chain}
use Rattle.chain.proofs.options.of_frame.Goals as goal

pub returns-in-Ok : goal.returns-in-Ok
returns-in-Ok c =
    let same = ap (λ (r : Result SlicedPacket Refusal). options_of (length c.args.s.now) (transport_of r)) (sym c.in-Ok.is) in
    options_of_chain _ _ c.slice.result _ c.slice.ensures.reply (c.tcp_options.ensures.answer ∙ same)

pub returns-in-Err : goal.returns-in-Err
returns-in-Err c =
    let same = ap (λ (r : Result SlicedPacket Refusal). options_of (length c.args.s.now) (transport_of r)) (sym c.in-Err.is) in
    options_of_chain _ _ c.slice.result None c.slice.ensures.reply (sym (none (length c.args.s.now)) ∙ same)
