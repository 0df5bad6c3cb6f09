-- `list::headers` meets its contract. Assumes nothing.
use Rattle.std.specs.Prelude.{◌*◌, ◌-◌, ◌≤◌, ◌≡◌, length, take, drop}
use Rattle.std.proofs.Common.{ap, refl, ◌∙◌, arith, length-take, length-drop}
use Rattle.rules.specs.Walk.{slices}
use Rattle.laws.specs.Zeros.{zeros}
use Rattle.steps.specs.Kept.{kept, kept_filled}
use Rattle.steps.proofs.Written.{written-length}
use Rattle.steps.proofs.Loop.{list_accepted, list_refused}
use Rattle.steps.proofs.list.headers.Goals as goal

-- the walk leaves as many numbers as were lent
pub returns-in-Ok-clause-listed : goal.returns-in-Ok-clause-listed
returns-in-Ok-clause-listed c =
    let o = c.walk.new.out in
    let i = 3 * c.min-listed.result in
    let long = ap length c.walk.ensures.written ∙ written-length c.args.k _ c.args.out.now in
    let fits : i ≤ length o = omega (arith, c.min-listed.ensures) in
    let part : length (take (length o - i) (drop i o)) ≡ length o - i = omega (arith, length-take (length o - i) (drop i o), length-drop i o) in
    let f = c.fill.ensures.after (λ y e. e) in
    kept_filled i o fits refl part f
    ∙ ap (kept i) c.walk.ensures.written
    ∙ list_accepted c.args.k (slices c.args.entry c.args.s.now) c.args.out.now c.in-Ok.ensures.answer (omega (arith, long, c.min-listed.ensures, c.saturating_sub.ensures))

pub returns-in-Err-clause-listed : goal.returns-in-Err-clause-listed
returns-in-Err-clause-listed c =
    let long = ap length c.walk.ensures.written ∙ written-length c.args.k _ c.args.out.now in
    list_refused c.args.k (slices c.args.entry c.args.s.now) _ c.in-Err.ensures.answer (c.clear.ensures ∙ ap zeros long)
