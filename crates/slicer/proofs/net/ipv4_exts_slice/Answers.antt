-- `net::ipv4_exts_slice` meets its contract. Assumes nothing.
use Rattle.slicer.proofs.Answers.{handed_on}
use Rattle.slicer.proofs.Nets.{auth_none, auth_short, auth_in, auth_done}
use Rattle.slicer.specs.Legs.{went}
use mathlib.Core.Path.{refl}
use native.Mathlib.Omega.{arith}
use Rattle.slicer.proofs.net.ipv4_exts_slice.Goals as goal

pub returns-then-not-opens_auth : goal.returns-then-not-opens_auth
returns-then-not-opens_auth c =
    went (auth_none c.args.room _ _ c.opens_auth.ensures c.if-not-opens_auth.true)

pub returns-in_err-x : goal.returns-in_err-x
returns-in_err-x c =
    handed_on _ _ c.from_residual.ensures.1
    (auth_short c.args.room _ _ c.opens_auth.ensures c.if-not-opens_auth.false c.in_err-x.ensures.answer refl)

pub overflow_add-result : goal.overflow_add-result
overflow_add-result c =
    omega (arith, auth_in c.args.room _ c.args.marked c.opens_auth.ensures c.if-not-opens_auth.false c.in_ok-x.ensures.answer refl, c.args.room.inside)

pub returns : goal.returns
returns c =
    went (auth_done c.args.room _ _ c.opens_auth.ensures c.if-not-opens_auth.false c.in_ok-x.ensures.answer refl
    c.marks.ensures)
