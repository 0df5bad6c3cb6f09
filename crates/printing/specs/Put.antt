-- A text written into a lent buffer, whole or not at all; and the pieces of a text, one behind the other.
use Rattle.std.specs.Prelude.{ℕ, ◌-◌, ◌≤◌, ◌≡◌, List, ◌++◌, leb, length, Option, Some, None}
use Rattle.printing.specs.declared.write.Printer.{Printer}
use Rattle.rules.specs.Test.{pick}
use Rattle.laws.specs.Zeros.{zeros}

-- what a buffer of n bytes holds after the text t: the text and zeros behind it, and zeros alone where t does not fit
-- `TEXT-7`
unfoldable pub printed_in : List ℕ → ℕ → List ℕ
printed_in t n = pick (leb (length t) n) (t ++ zeros (n - length t)) (zeros n)

-- and what is answered then
unfoldable pub printed_by : List ℕ → ℕ → Option ℕ
printed_by t n = pick (leb (length t) n) (Some (length t)) None

-- the printer p holds the text t: it tells as much, and where t fits the buffer, t stands there with zeros behind
pub record Holds (t : List ℕ) (p : Printer) : Type 0 where
  pub told : p.len ≡ printed_by t (length p.out.now)
  pub there : length t ≤ length p.out.now → p.out.now ≡ t ++ zeros (length p.out.now - length t)

-- one piece of a text: whatever text p holds, q holds it with t behind, in the same buffer
pub record Wrote (t : List ℕ) (p q : Printer) : Type 0 where
  pub same : q.out.ghost_name ≡ p.out.ghost_name
  pub long : length q.out.now ≡ length p.out.now
  pub holds : (w : List ℕ) → Holds w p → Holds (w ++ t) q
