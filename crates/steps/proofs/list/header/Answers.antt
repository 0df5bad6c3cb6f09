-- `list::header` meets its contract. Assumes nothing.
use Rattle.steps.proofs.Loop.{header-here, header_past, header_refused}
use Rattle.steps.specs.Lists.{count_on_paper}
use Rattle.rules.specs.Walk.{slices}
use mathlib.Core.Path.{sym, ap, ◌∙◌}
use Rattle.std.proofs.lemmas.Result.{err_from_is_err_and}
use Rattle.steps.proofs.list.header.Goals as goal

pub returns-then-k-count-clause-answer : goal.returns-then-k-count-clause-answer
returns-then-k-count-clause-answer c =
    let walk = slices c.args.entry c.args.s.now in
    header-here c.args.k walk (sym (ap count_on_paper c.in_ok-count.was) ∙ c.headers.ensures.answer) c.headers.ensures.listed c.if-k-count.true

pub returns-clause-answer : goal.returns-clause-answer
returns-clause-answer c =
    let walk = slices c.args.entry c.args.s.now in
    header_past c.args.k walk (sym (ap count_on_paper c.in_ok-count.was) ∙ c.headers.ensures.answer) c.if-k-count.false

pub returns-in_err-count-clause-answer : goal.returns-in_err-count-clause-answer
returns-in_err-count-clause-answer c =
    let walk = slices c.args.entry c.args.s.now in
    let p = err_from_is_err_and c.from_residual.result c.from_residual.ensures.1 in
    rw (p.1, p.2) (header_refused c.args.k walk (sym (ap count_on_paper c.in_err-count.was) ∙ c.headers.ensures.answer))
