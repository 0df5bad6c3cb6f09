-- `net::slice_ip` meets its contract. Assumes nothing.
use Rattle.slicer.proofs.Nets.{ip_answer, ip_short, ip_in, ip_ends, ip_done, ip_stuck}
use Rattle.slicer.proofs.Answers.{there, turned, handed_on}
use Rattle.slicer.specs.Legs.{went}
use Rattle.rules.specs.Named.{kind_number}
use mathlib.Core.Path.{refl, ap, ◌∙◌}
use native.Mathlib.Omega.{arith}
use Rattle.slicer.proofs.net.slice_ip.Goals as goal

pub returns-in_err-x : goal.returns-in_err-x
returns-in_err-x c =
    handed_on _ _ c.from_residual.ensures.1 (ip_short c.args.room (ip_answer c.args.room _ c.in_err-x.ensures.answer) refl)

pub returns-in_err-exts : goal.returns-in_err-exts
returns-in_err-exts c =
    handed_on _ _ c.from_residual-in_err-exts.ensures.1
    (ip_stuck c.args.room (ip_answer c.args.room _ c.in_ok-x.ensures.answer) refl c.marks.ensures (turned c.in_err-exts.ensures))

pub returns : goal.returns
returns c =
    let exts = there c.in_ok-exts.ensures in
    went (record {
      left = ip_done c.args.room (ip_answer c.args.room _ c.in_ok-x.ensures.answer) refl c.marks.ensures (c.number.ensures ∙ ap kind_number c.from.ensures) exts;
      headed = (ip_ends c.args.room (ip_answer c.args.room _ c.in_ok-x.ensures.answer) refl exts).0;
    })

pub overflow_add-inner : goal.overflow_add-inner
overflow_add-inner c =
    let z = ip_in c.args.room (ip_answer c.args.room _ c.in_ok-x.ensures.answer) refl in omega (arith, z.0, z.1, z.2)

pub overflow_add-inner-2 : goal.overflow_add-inner-2
overflow_add-inner-2 c =
    let z = ip_in c.args.room (ip_answer c.args.room _ c.in_ok-x.ensures.answer) refl in omega (arith, z.1, z.2)

pub invariant_of-inner : goal.invariant_of-inner
invariant_of-inner c =
    let z = ip_in c.args.room (ip_answer c.args.room _ c.in_ok-x.ensures.answer) refl in record { ordered = z.0; inside = omega (arith, z.1, z.2) }
