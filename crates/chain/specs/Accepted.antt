-- "A frame is accepted exactly when it has a chain": accepted_iff_chain, for each entry.
use Rattle.std.specs.Prelude.{ℕ, ◌≡◌, refl, List, Result, Ok, Err}
use Rattle.std.proofs.Common.{sym, ap, ◌∙◌, subst}
use Rattle.rules.specs.declared.refusal.Refusal.{Refusal}
use Rattle.rules.specs.Place.{Stopped, ending_on_paper}
use Rattle.rules.specs.Walk.{Trace, HeaderAt}
use Rattle.laws.specs.Gather.{gathered, listed}
use Rattle.rules.specs.declared.entry.Entry.{Entry}
use Rattle.rules.specs.declared.stop.Ending.{Ending}
use Rattle.slicer.specs.declared.packet.SlicedPacket.{SlicedPacket}
use Rattle.slicer.specs.Reply.{outcome_on_paper, packet_on_paper, nothing, Reply, slice_way, accepted_by, reply_of}
use Rattle.slicer.specs.Reply as P
use Rattle.chain.specs.Chain.{ChainOf}
use Rattle.chain.specs.Walked.{Walked, whole_walk, broken_walk, walked}
use Rattle.chain.specs.Given.{chain_reply}
use Rattle.chain.specs.Answers.{Sliced, outcome_of, ended_is}

-- a chain of the frame, by its entry, with the headers hs and the stop x
abbrev pub HasChain : Entry → List ℕ → List HeaderAt → Stopped → Type 0
HasChain entry s hs x = ChainOf entry s hs x

-- what is said of a reply's outcome o: where there is a chain it is accepted, with the chain's stop; where it is accepted there is a
-- chain, with the stop that it tells
pub record AcceptedIffChain (entry : Entry) (s : List ℕ) (o : Result Ending Refusal) : Type 0 where
  pub accepts : (hs : List HeaderAt) (x : Stopped) → HasChain entry s hs x → (e : Ending) × (o ≡ Ok e) × (ending_on_paper e ≡ x)
  pub chained : (e : Ending) → o ≡ Ok e → (hs : List HeaderAt) × HasChain entry s hs (ending_on_paper e)

-- the whole reply of a frame with a chain: the stop is the chain's, and the parts are gathered from its headers
pub chain→reply : (entry : Entry) (s : List ℕ) {hs : List HeaderAt} {x : Stopped} (r : Result SlicedPacket Refusal) → Sliced entry s r → HasChain entry s hs x
    → packet_on_paper r ≡ accepted_by (listed slice_way nothing hs) x
chain→reply entry s r e c = e ∙ chain_reply entry s c

is_accepted : (o : Result Ending Refusal) {x : Stopped} → outcome_on_paper o ≡ P.accepted x → (e : Ending) × (o ≡ Ok e) × (ending_on_paper e ≡ x)
is_accepted (Ok e) q = (e, refl, cc)
is_accepted (Err r) q = cc

chain→accepted : (entry : Entry) (s : List ℕ) {hs : List HeaderAt} {x : Stopped} (r : Result SlicedPacket Refusal) → Sliced entry s r → HasChain entry s hs x
    → (e : Ending) × ((outcome_of r) ≡ Ok e) × (ending_on_paper e ≡ x)
chain→accepted entry s r e c = is_accepted (outcome_of r) (ended_is r ∙ ap (λ (p : Reply). p.ended) (chain→reply entry s r e c))

accepted→chain : (entry : Entry) (s : List ℕ) (r : Result SlicedPacket Refusal) {e : Ending} → Sliced entry s r → (outcome_of r) ≡ Ok e
    → (hs : List HeaderAt) × HasChain entry s hs (ending_on_paper e)
unfolding reply_of gathered
accepted→chain entry s r {e} q o = go (walked entry s) (sym (ap outcome_on_paper o) ∙ ended_is r ∙ ap (λ (p : Reply). p.ended) q)
  where
    go : {t : Trace HeaderAt} → Walked entry s t → P.accepted (ending_on_paper e) ≡ (gathered slice_way nothing t).ended
        → (hs : List HeaderAt) × HasChain entry s hs (ending_on_paper e)
    go (whole_walk {hs} {x} c) y = (hs, subst (HasChain entry s hs) (unaccept y) c)
      where
        unaccept : {a b : Stopped} → P.accepted a ≡ P.accepted b → b ≡ a
        unaccept e = cc
    go (broken_walk b) y = cc

-- every answer of `slice` is so
pub accepted_iff_chain : (entry : Entry) (s : List ℕ) (r : Result SlicedPacket Refusal) → Sliced entry s r → AcceptedIffChain entry s (outcome_of r)
accepted_iff_chain entry s r q = record { accepts = λ hs x c. chain→accepted entry s r q c; chained = λ e o. accepted→chain entry s r q o }
