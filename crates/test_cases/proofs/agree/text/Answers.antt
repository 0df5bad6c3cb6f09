-- `agree::text`: what is lent of the buffer is the text that was put there, and a text that was cut is longer than the buffer.
use Rattle.std.proofs.Common.{refl, arith}
use Rattle.printing.specs.Told.{told_count, told_whole, told-cut}
use Rattle.test_cases.proofs.agree.text.Goals as goal

pub returns-in_err-len : goal.returns-in_err-len
returns-in_err-len c = rw c.from_residual.ensures (told-cut _ _ c.in_err-len.ensures.answer refl)

pub slice_bounds-result-end : goal.slice_bounds-result-end
slice_bounds-result-end c =
    let e = c.in_ok-len.ensures in
    told_count (told_whole _ _ e.answer e.text refl)

pub returns : goal.returns
returns c =
    let e = c.in_ok-len.ensures in
    let z = told_whole _ _ e.answer e.text refl in
    (omega (arith, z.fits, told_count z), z.whole)
