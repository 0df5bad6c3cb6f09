-- A header's tests in order, and the first that fails.
use Rattle.std.specs.Prelude.{ℕ, ◌≤◌, ◌<◌, ◌≡◌, List, [], ◌∷◌, Bool, true, false, leb, eqb}
use Rattle.std.proofs.Common.{ap, arith, le-leb, eq-eqb, ne_eqb}
use Rattle.std.proofs.lemmas.Bool.{lt-leb}
use Rattle.rules.specs.declared.kind.Layer.{Layer}
use Rattle.rules.specs.declared.kind.RoomSource.{RoomSource}
use Rattle.rules.specs.declared.kind.RoomSource.TheVariants as R
use Rattle.rules.specs.declared.kind.Source.{Source}
use Rattle.rules.specs.declared.kind.Source.TheVariants as S
use Rattle.rules.specs.declared.refusal.Bound.{Bound}
use Rattle.rules.specs.declared.refusal.Bound.TheVariants as B
use Rattle.rules.specs.declared.refusal.Row.{Row}
use Rattle.rules.specs.Numbers.{too_short}
use Rattle.rules.specs.Named.{layer_number, source_number}

abbrev pub pick {ℓ} : {A : Type ℓ} → Bool → A → A → A
pick true a b = a
pick false a b = b

-- ---- failures

-- a failed test as the table of refusals has it, without its place
pub data Failure : Type 0 where
  -- number 1: the layer, the bytes required, those there, and what bounds them
  short : Layer → ℕ → ℕ → Bound → Failure
  -- another number: the layer, and the value carried (0 where the row carries none)
  other : ℕ → Layer → ℕ → Failure

abbrev pub source_of : RoomSource → Source
source_of R.Slice = S.Slice
source_of R.Ipv4 = S.Ipv4
source_of R.Ipv6 = S.Ipv6

-- "where "have" is a length field's value it is that field, else inside an IP room it is what set the room"
abbrev pub bound_by : Bound → RoomSource → Source
bound_by B.Room room = source_of room
bound_by B.Ipv4TotalLength room = S.Ipv4
bound_by B.UdpLength room = S.Udp

abbrev pub row : ℕ → Layer → ℕ → List ℕ → Row
row n layer offset values = record { number = n; layer = layer_number layer; offset = offset; values = values }

-- a failure of the header at an offset, in a room that `room` set
abbrev pub placed : Failure → ℕ → RoomSource → Row
placed (short layer required have bound) offset room = row too_short layer offset (required ∷ have ∷ source_number (bound_by bound room) ∷ [])
placed (other n layer value) offset room = row n layer offset (value ∷ 0 ∷ 0 ∷ [])

-- ---- tests

-- fits layer required have bound: `required` bytes are there. least a b f: a ≤ b. same a b f: a ≡ b
pub data Test : Type 0 where
  fits : Layer → ℕ → ℕ → Bound → Test
  least same : ℕ → ℕ → Failure → Test

-- what a test asks
abbrev pub Holds : Test → Type 0
Holds (fits layer required have bound) = required ≤ have
Holds (least a b f) = a ≤ b
Holds (same a b f) = a ≡ b

-- the same as a computed test
abbrev pub passes : Test → Bool
passes (fits layer required have bound) = leb required have
passes (least a b f) = leb a b
passes (same a b f) = eqb a b

abbrev pub failure : Test → Failure
failure (fits layer required have bound) = short layer required have bound
failure (least a b f) = f
failure (same a b f) = f

-- all tests hold, in any order
abbrev pub All : List Test → Type 0
All [] = Unit
All (t ∷ ts) = Holds t × All ts

-- what a header's tests come to: it is whole, with what it says; or a test failed
pub data Verdict (A : Type 0) : Type 0 where
  whole : A → Verdict A
  failed : Failure → Verdict A

-- "the refusal is that of the first test failed in walk order, and no refusal is given otherwise"
-- `WALK-2`
unfoldable pub judge : {A : Type 0} → List Test → A → Verdict A
judge [] x = whole x
judge (t ∷ ts) x = pick (passes t) (judge ts x) (failed (failure t))

-- ---- laws for a reader's returns: a test that holds is passed over, one that does not is the answer

pub pass : (t : Test) → Holds t → passes t ≡ true
pass (fits l a b w) h = le-leb a b h
pass (least a b f) h = le-leb a b h
pass (same a b f) h = eq-eqb a b h

fail : (t : Test) → (Holds t → ⊥) → passes t ≡ false
fail (fits l a b w) h = lt-leb a b (omega arith)
fail (least a b f) h = lt-leb a b (omega arith)
fail (same a b f) h = ne_eqb a b h

-- the outcome of a list of tests as a relation, for an answer x and a failure f
pub data Judged {A : Type 0} (x : A) : List Test → Verdict A → Type 0 where
  done : {y : A} → y ≡ x → Judged x [] (whole y)
  on : {t : Test} {ts : List Test} {v : Verdict A} → Holds t → Judged x ts v → Judged x (t ∷ ts) v
  off : {t : Test} {ts : List Test} {f : Failure} → (Holds t → ⊥) → f ≡ failure t → Judged x (t ∷ ts) (failed f)

pub judged : {A : Type 0} {x : A} {ts : List Test} {v : Verdict A} → Judged x ts v → v ≡ judge ts x
unfolding judge
judged (done e) = ap whole e
judged (on {t} h j) = rw (pass t h) (judged j)
judged (off {t} h e) = rw (fail t h) (ap failed e)

-- a code's test that was taken: more is asked for than there is
pub beyond : {a b : ℕ} → b < a → a ≤ b → ⊥
beyond h k = omega arith
