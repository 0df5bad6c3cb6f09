-- What a caller of `print` knows of the buffer by the answer.
use Rattle.std.specs.Prelude.{ℕ, ◌-◌, ◌≤◌, ◌<◌, Bool, List, ◌++◌, ◌≡◌, take, Option, Some, None}
use Rattle.std.proofs.Common.{arith, sym, ap, ◌∙◌, length-take}
use Rattle.std.proofs.Math.Bool.{true, false}
use Rattle.std.proofs.Math.Path.{refl}
use Rattle.std.proofs.Math.Dec.{leb}
use Rattle.std.proofs.Math.ListN.{length}
use Rattle.std.proofs.Math.Seq.{take-append_seam}
use borrow.Author.Tests.{leb-true, leb-false}
use Rattle.rules.specs.Test.{pick}
use Rattle.laws.specs.Zeros.{zeros}
use Rattle.printing.specs.Clash.{clash}
use Rattle.printing.specs.Put.{printed_in, printed_by}

-- the first k bytes of the buffer o, which has n, are the text t
pub record Told (t : List ℕ) (n : ℕ) (o : List ℕ) (k : ℕ) : Type 0 where
  pub fits : k ≤ n
  pub long : k ≡ length t
  pub whole : take k o ≡ t

module _ {t o : List ℕ} {n k : ℕ} (w : Told t n o k) where
  pub told_count : k ≡ length (take k o)
  told_count = w.long ∙ sym (ap length w.whole)

  pub told_inside : k ≤ length o
  told_inside = omega (arith, told_count, length-take k o)

module _ (t : List ℕ) (n : ℕ) {r : Option ℕ} (q : r ≡ printed_by t n) where
  pub told_whole : {o : List ℕ} {k : ℕ} → o ≡ printed_in t n → r ≡ Some k → Told t n o k
  unfolding printed_in printed_by
  told_whole {o} {k} p i = go (leb (length t) n) refl p q
    where
      go : (b : Bool) → leb (length t) n ≡ b → o ≡ pick b (t ++ zeros (n - length t)) (zeros n) → r ≡ pick b (Some (length t)) None → Told t n o k
      go true e p q =
          let f = leb-true (length t) n e in
          let z : k ≡ length t = cc in
          record { fits = omega (arith, f, z); long = z; whole = rw (z, p) (take-append_seam t (zeros (n - length t))) }
      go false e p q = clash (cc)

  pub told-cut : r ≡ None → n < length t
  unfolding printed_by
  told-cut i = go (leb (length t) n) refl q
    where
      go : (b : Bool) → leb (length t) n ≡ b → r ≡ pick b (Some (length t)) None → n < length t
      go true e q = clash (cc)
      go false e q = leb-false (length t) n e
