-- Document 01: "These idle versions have to be caught". Each is ruled out by demand 3's statement itself, for each
-- entry, shown on a frame or two.
use Rattle.std.specs.Prelude.{ℕ, ◌≡◌, List, [], ◌∷◌, ◌++◌, Option, Some, None, Result, Ok, Err}
use Rattle.std.proofs.Common.{arith}
use Rattle.rules.specs.declared.place.Header.{Header}
use Rattle.rules.specs.declared.refusal.Refusal.{Refusal}
use Rattle.rules.specs.Test.{judge}
use Rattle.rules.specs.Rules.{is_tag, link, transport, chain4, chain6, length_of, declared_of, fragment_of, names_of, turn_of, payload_of, seen_by, tests_by}
use Rattle.rules.specs.Place.{Stopped, leaves, follow, follow_of, bytes, outcome, read, start, opening}
use Rattle.rules.specs.Walk.{HeaderAt, walk, trace, slices}
use Rattle.rules.specs.declared.entry.Entry.{Entry}
use Rattle.rules.specs.declared.entry.Entry.TheVariants as E
use Rattle.rules.specs.declared.stop.Ending.{Ending}
use Rattle.slicer.specs.declared.packet.SlicedPacket.{SlicedPacket}
use Rattle.chain.specs.Chain.{here, later}
use Rattle.chain.specs.Walked.{means_of}
use Rattle.chain.specs.OneChain.{not_both_of}
use Rattle.chain.specs.Frames.{zeros, two, ethernet, tag, ipv4, ipv6, tcp}
use Rattle.chain.specs.Answers.{outcome_of}
use Rattle.chain.specs.Accepted.{HasChain, AcceptedIffChain}
use Rattle.chain.specs.Headers.{HeadersInOrder, CountIsLength}

-- ---- three frames for each entry: one too short for any header; one with one header; one that reaches IP and TCP

abbrev short : Entry → List ℕ
short E.Ethernet = zeros 13
short E.Ipv4 = zeros 19
short E.Ipv6 = zeros 39

abbrev small : Entry → List ℕ
small E.Ethernet = ethernet 0
small E.Ipv4 = ipv4 0x45 20 0
small E.Ipv6 = ipv6 0 59

abbrev large : Entry → List ℕ
large E.Ethernet = ethernet 0x8100 ++ tag 0x0800 ++ ipv4 0x45 40 6 ++ tcp 5
large E.Ipv4 = ipv4 0x45 40 6 ++ tcp 5
large E.Ipv6 = ipv6 20 6 ++ tcp 5

-- the first has no chain, the second one of one header, the third one of two or more
abbrev Walks : Entry → Type 0
Walks entry =
    ((hs : List HeaderAt) (x : Stopped) → HasChain entry (short entry) hs x → ⊥)
    × ((x : Stopped) × (e : HeaderAt) × HasChain entry (small entry) (e ∷ []) x)
    × ((x : Stopped) × (e f : HeaderAt) × (hs : List HeaderAt) × HasChain entry (large entry) (e ∷ f ∷ hs) x)

-- by computation
walks : (entry : Entry) → Walks entry
unfolding zeros two ethernet tag ipv4 ipv6 tcp slices opening trace walk start read outcome bytes seen_by judge tests_by leaves length_of declared_of
    fragment_of names_of turn_of payload_of follow follow_of link is_tag chain4 chain6 transport
walks E.Ethernet = (
  λ hs x c. not_both_of E.Ethernet (zeros 13) c (means_of E.Ethernet (zeros 13)),
  (_, _, means_of E.Ethernet (small E.Ethernet)),
  (_, _, _, _, means_of E.Ethernet (large E.Ethernet)),
)
walks E.Ipv4 = (
  λ hs x c. not_both_of E.Ipv4 (zeros 19) c (means_of E.Ipv4 (zeros 19)),
  (_, _, means_of E.Ipv4 (small E.Ipv4)),
  (_, _, _, _, means_of E.Ipv4 (large E.Ipv4)),
)
walks E.Ipv6 = (
  λ hs x c. not_both_of E.Ipv6 (zeros 39) c (means_of E.Ipv6 (zeros 39)),
  (_, _, means_of E.Ipv6 (small E.Ipv6)),
  (_, _, _, _, means_of E.Ipv6 (large E.Ipv6)),
)

-- ---- "one that refuses everything (demand 3: a frame with a chain is accepted)"

pub refuses_everything : (entry : Entry) (slice : List ℕ → Result SlicedPacket Refusal) → ((s : List ℕ) → (q : Refusal) × (outcome_of (slice s) ≡ Err q))
    → ((s : List ℕ) → AcceptedIffChain entry s (outcome_of (slice s))) → ⊥
refuses_everything entry slice idle true_of =
    let a = (true_of (large entry)).accepts _ _ (walks entry).2.4 in
    differ (outcome_of (slice (large entry))) a.1 (idle (large entry)).1
  where
    differ : (o : Result Ending Refusal) {e : Ending} {q : Refusal} → o ≡ Ok e → o ≡ Err q → ⊥
    differ o a b = cc

-- ---- "one fixed reply .. (demand 3's list, over demand 2's header rules)": accepted once, it would accept a frame with no chain

pub one_fixed_reply : (entry : Entry) (r : Result SlicedPacket Refusal) → ((s : List ℕ) → AcceptedIffChain entry s (outcome_of r)) → ⊥
one_fixed_reply entry r true_of =
    let a = (true_of (large entry)).accepts _ _ (walks entry).2.4 in
    (walks entry).0 _ _ ((true_of (short entry)).chained a.0 a.1).1

-- ---- "one that lists no header"

pub lists_no_header : (entry : Entry) (header : List ℕ → ℕ → Result (Option Header) Refusal) → ((s : List ℕ) (k : ℕ) (h : Header) → header s k ≡ Ok (Some h) → ⊥)
    → ((s : List ℕ) (k : ℕ) → HeadersInOrder entry s k (header s k)) → ⊥
lists_no_header entry header idle true_of =
    idle (large entry) 0 _ ((true_of (large entry) 0).in_order _ _ _ (walks entry).2.4 here)

-- ---- "one that hands out the whole list for header 0 and "no more" after (demand 3: each once, at its place)"

pub whole_list_for_header_0 : (entry : Entry) (header : List ℕ → ℕ → Result (Option Header) Refusal) → ((s : List ℕ) → header s 1 ≡ Ok None)
    → ((s : List ℕ) (k : ℕ) → HeadersInOrder entry s k (header s k)) → ⊥
whole_list_for_header_0 entry header idle true_of =
    differ (header (large entry) 1) ((true_of (large entry) 1).in_order _ _ _ (walks entry).2.4 (later here)) (idle (large entry))
  where
    differ : (a : Result (Option Header) Refusal) {h : Header} → a ≡ Ok (Some h) → a ≡ Ok None → ⊥
    differ a e f = cc

-- ---- "a made-up header count (it is the chain's length)": one that does not go by the frame

pub made_up_count : (entry : Entry) (n : ℕ) → ((s : List ℕ) → CountIsLength entry s (Ok n)) → ⊥
made_up_count entry n true_of =
    let a = is_it ((true_of (small entry)).is_length _ _ (walks entry).1.2) in
    let b = is_it ((true_of (large entry)).is_length _ _ (walks entry).2.4) in
    omega (arith, a, b)
  where
    is_it : {m k : ℕ} → ◌≡◌ {A = Result ℕ Refusal} (Ok m) (Ok k) → m ≡ k
    is_it e = cc
