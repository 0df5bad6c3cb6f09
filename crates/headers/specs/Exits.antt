-- The exit of a `?` in a reader: the fault that is handed on.
use Rattle.std.specs.Prelude.{◌≡◌, Result}
use Rattle.std.specs.Result.{IsErrAnd}
use Rattle.std.proofs.lemmas.Result.{err_from_is_err_and}
use Rattle.rules.specs.declared.refusal.Fault.{Fault}
use Rattle.rules.specs.Test.{Verdict, failed}
use Rattle.rules.specs.Paper.{fault_on_paper}
use Rattle.headers.specs.Says.{read_on_paper}

pub handed_on : {A : Type 0} (r : Result A Fault) (f : Fault) {v : Verdict A} → IsErrAnd r (λ e. e ≡ f) → failed (fault_on_paper f) ≡ v → read_on_paper r ≡ v
handed_on r f h q = let p = err_from_is_err_and r h in rw (p.1, p.2) q
