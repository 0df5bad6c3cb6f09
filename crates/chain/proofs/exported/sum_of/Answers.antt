-- `exported::sum_of` meets its contract: the theorem of specs, at the answer that is promised. Assumes nothing.
use Rattle.checksum.specs.declared.Sum16BitWords.{Sum16BitWords}
use Rattle.chain.specs.Frames.{none_summed, with_slice, sum_told}
use Rattle.chain.proofs.exported.sum_of.Goals as goal

pub returns : goal.returns
returns c =
    let one : Sum16BitWords = record { sum = c.bhirkulom_sum_add-one.result } in
    let both : Sum16BitWords = record { sum = c.bhirkulom_sum_add-both.result } in
    let summed = with_slice _ {r = both} (with_slice _ {r = one} none_summed c.bhirkulom_sum_add-one.ensures.answer) c.bhirkulom_sum_add-both.ensures.answer in
    sum_told _ both _ summed c.bhirkulom_sum_answer.ensures
