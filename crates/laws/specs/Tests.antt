-- Laws of ordered tests, for any list of them.
use Rattle.std.specs.Prelude.{ℕ, Bool}
use Rattle.std.proofs.Math.Path.{◌≡◌, refl, ap}
use Rattle.std.proofs.Common.{◌∙◌, arith, leb-true, eqb-true}
use mathlib.Core.List.{List, [], ◌∷◌}
use Rattle.std.proofs.Math.Bool.{true, false}
use Rattle.rules.specs.Test.{pick, Test, fits, least, same, Holds, passes, failure, Failure, whole, failed, All, judge, pass}

pub holds : (t : Test) → passes t ≡ true → Holds t
holds (fits l a b w) e = leb-true a b e
holds (least a b f) e = leb-true a b e
holds (same a b f) e = eqb-true a b e

module _ {A : Type 0} (x : A) where
  -- all hold: the header is whole
  pub judge_pass : (ts : List Test) → All ts → judge ts x ≡ whole x
  unfolding judge
  judge_pass [] h = refl
  judge_pass (t ∷ ts) h = ap (λ (b : Bool). pick b (judge ts x) (failed (failure t))) (pass t h.0) ∙ judge_pass ts h.1

  -- the header is whole: all held
  pub judge-all : (ts : List Test) {y : A} → judge ts x ≡ whole y → All ts × (x ≡ y)
  unfolding judge
  judge-all [] e = (tt, cc)
  judge-all (t ∷ ts) {y} e = go (passes t) refl (judge-all ts)
    where
      go : (b : Bool) → passes t ≡ b → (judge ts x ≡ whole y → All ts × (x ≡ y)) → All (t ∷ ts) × (x ≡ y)
      go true q rec = let z = rec (cc) in ((holds t q, z.0), z.1)
      go false q rec = cc

-- a failed test fails whatever the header says
pub judge_fails : {A B : Type 0} (x : A) (y : B) (ts : List Test) {f : Failure} → judge ts x ≡ failed f → judge ts y ≡ failed f
unfolding judge
judge_fails x y [] e = cc
judge_fails x y (t ∷ ts) {f} e = go (passes t) refl (judge_fails x y ts)
  where
    go : (b : Bool) → passes t ≡ b → (judge ts x ≡ failed f → judge ts y ≡ failed f) → judge (t ∷ ts) y ≡ failed f
    go true q rec = rw q (rec (cc))
    go false q rec = let z : failure t ≡ f = cc in rw q (ap failed z)
