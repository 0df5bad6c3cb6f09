-- What the public functions promise of their answers, as their `ensures` have it. The theorems speak of any answer that is so; code
-- that answered otherwise would not pass its own contract.
use Rattle.std.specs.Prelude.{ℕ, ◌≡◌, refl, List, Option, Result, Ok, Err}
use Rattle.rules.specs.declared.place.Header.{Header}
use Rattle.rules.specs.declared.stop.Ending.{Ending}
use Rattle.rules.specs.declared.refusal.Refusal.{Refusal}
use Rattle.rules.specs.Place.{next, opening}
use Rattle.rules.specs.Walk.{header_of, count_of, slices}
use Rattle.rules.specs.declared.place.Place.{Place}
use Rattle.rules.specs.declared.entry.Entry.{Entry}
use Rattle.slicer.specs.declared.packet.SlicedPacket.{SlicedPacket}
use Rattle.slicer.specs.Reply.{outcome_on_paper, packet_on_paper, reply_of}
use Rattle.steps.specs.declared.place.Step.{Step}
use Rattle.steps.specs.declared.place.NoStep.{NoStep}
use Rattle.steps.specs.Lists.{header_on_paper, count_on_paper, list_of}
use Rattle.steps.specs.Places.{opens, step_on_paper, step_says}

-- r is the answer of slice(s, entry)
abbrev pub Sliced : Entry → List ℕ → Result SlicedPacket Refusal → Type 0
Sliced entry s r = packet_on_paper r ≡ reply_of entry s

-- how it ends
abbrev pub outcome_of : Result SlicedPacket Refusal → Result Ending Refusal
outcome_of (Ok p) = Ok p.ending
outcome_of (Err q) = Err q

pub ended_is : (r : Result SlicedPacket Refusal) → outcome_on_paper (outcome_of r) ≡ (packet_on_paper r).ended
ended_is (Ok p) = refl
ended_is (Err q) = refl

-- the transport header that it tells; a refused frame's tells none
abbrev pub transport_of : Result SlicedPacket Refusal → Option Header
transport_of r = (packet_on_paper r).transport

-- r is the answer of header(s, entry, k)
abbrev pub HeaderIs : Entry → List ℕ → ℕ → Result (Option Header) Refusal → Type 0
HeaderIs entry s k r = header_on_paper r ≡ header_of (slices entry s) k

-- r is the answer of count(s, entry)
abbrev pub CountIs : Entry → List ℕ → Result ℕ Refusal → Type 0
CountIs entry s r = count_on_paper r ≡ count_of (slices entry s)

-- `after` is what headers(s, entry, k, out) leaves of the n numbers in out; its answer is that of count
abbrev pub ListIs : Entry → List ℕ → (k n : ℕ) → List ℕ → Type 0
ListIs entry s k n after = after ≡ list_of (slices entry s) k n

-- r is the answer of first(s, entry)
abbrev pub FirstIs : Entry → List ℕ → Place → Type 0
FirstIs entry s r = opens (next r) ≡ opens (opening entry s)

-- r is the answer of next(s, p)
abbrev pub StepIs : List ℕ → Place → Result Step NoStep → Type 0
StepIs s p r = step_on_paper r ≡ step_says s p
