-- From the paper back to the answer: every answer can be read off its numbers and values, so no two answers have the same. For the
-- numbers themselves, Back.antt of crate laws.
use Rattle.std.specs.Prelude.{ℕ, ◌≡◌, refl, get_or, eqb, Option, Some, None, Result, Ok, Err}
use Rattle.std.proofs.Common.{ap, ◌∙◌}
use Rattle.rules.specs.declared.kind.Kind.TheVariants as K
use Rattle.rules.specs.declared.kind.Layer.{Layer}
use Rattle.rules.specs.declared.place.Header.{Header}
use Rattle.rules.specs.declared.place.Place.{Place}
use Rattle.rules.specs.declared.stop.Ending.{Ending}
use Rattle.rules.specs.declared.refusal.Fault.{Fault}
use Rattle.rules.specs.declared.refusal.Fault.TheVariants as F
use Rattle.rules.specs.declared.refusal.Refusal.{Refusal}
use Rattle.rules.specs.declared.refusal.Refusal.TheVariants as R
use Rattle.rules.specs.declared.refusal.Row.{Row}
use Rattle.rules.specs.declared.turn.Turn.{Turn}
use Rattle.rules.specs.declared.turn.Turn.TheVariants as U
use Rattle.rules.specs.Named.{kind_number, source_number}
use Rattle.laws.specs.Back.{Back, layer_of, layer_same, source_back, stop_back}
use Rattle.rules.specs.Test.{pick, Failure, short, other, Verdict, whole, failed}
use Rattle.rules.specs.Paper.{fault_on_paper, refusal_on_paper}
use Rattle.rules.specs.Place.{ending_on_paper}
use Rattle.rules.specs.Walk.{Answer, is, no-more, refusal}
use Rattle.headers.specs.Says.{read_on_paper}
use Rattle.one_header.specs.declared.ip.IpKind.TheVariants as IK
use Rattle.one_header.specs.declared.onward.Onward.TheVariants as Le
use Rattle.one_header.specs.declared.link.LinkTurn.{LinkTurn}
use Rattle.one_header.specs.declared.link.LinkTurn.TheVariants as Lt
use Rattle.one_header.specs.declared.transport.TransportKind.TheVariants as TK
use Rattle.one_header.specs.declared.transport.TransportKind.{TransportKind}
use Rattle.one_header.specs.declared.onward.Onward.{Onward}
use Rattle.one_header.specs.At.{Placed, at_on_paper}
use Rattle.one_header.specs.At as A
use Rattle.one_header.specs.Turns.{link_turn_on_paper, transport_turn_on_paper}
use Rattle.steps.specs.declared.place.Step.{Step}
use Rattle.steps.specs.declared.place.Step.TheVariants as N
use Rattle.steps.specs.declared.place.NoStep.{NoStep}
use Rattle.steps.specs.declared.place.NoStep.TheVariants as NS
use Rattle.slicer.specs.declared.packet.SlicedPacket.{SlicedPacket}
use Rattle.slicer.specs.Reply.{Reply, Ended, accepted, refused, outcome_on_paper, packet_on_paper}
use Rattle.steps.specs.Lists.{header_on_paper, count_on_paper}
use Rattle.steps.specs.Places.{Stepped, step_on_paper, place_back}
use Rattle.steps.specs.Places as P

-- ---- refusals

refusal_of : Row → Refusal
refusal_of r =
    pick (eqb r.number 1) (R.TooShort r.offset (value 0) (value 1) (layer_of r.layer) (source_back.back (value 2)))
    (pick (eqb r.number 2) (R.Ipv4Version r.offset (value 0))
    (pick (eqb r.number 3) (R.SmallIhl r.offset (value 0))
    (pick (eqb r.number 4) (R.Ipv6Version r.offset (value 0))
    (pick (eqb r.number 5) (R.HopByHopNotAtStart r.offset)
    (pick (eqb r.number 6) (R.ZeroAuthLength r.offset)
    (R.SmallDataOffset r.offset (value 0)))))))
  where
    value : ℕ → ℕ
    value i = get_or r.values i 0

refusal_same : (q : Refusal) → refusal_of (refusal_on_paper q) ≡ q
unfolding refusal_of
refusal_same (R.TooShort offset required have layer source) =
    ap (λ (l : Layer). R.TooShort offset required have l (source_back.back (source_number source))) (layer_same layer)
    ∙ ap (R.TooShort offset required have layer) (source_back.same source)
refusal_same (R.Ipv4Version offset version) = refl
refusal_same (R.SmallIhl offset ihl) = refl
refusal_same (R.Ipv6Version offset version) = refl
refusal_same (R.HopByHopNotAtStart offset) = refl
refusal_same (R.ZeroAuthLength offset) = refl
refusal_same (R.SmallDataOffset offset value) = refl

pub refusal-back : Back refusal_on_paper
refusal-back = record { back = refusal_of; same = refusal_same }

fault_of : Failure → Fault
fault_of (short layer required have bound) = F.TooShort required have layer bound
fault_of (other n layer value) =
    pick (eqb n 2) (F.Ipv4Version value)
    (pick (eqb n 3) (F.SmallIhl value)
    (pick (eqb n 4) (F.Ipv6Version value)
    (pick (eqb n 6) F.ZeroAuthLength (F.SmallDataOffset value))))

fault_same : (f : Fault) → fault_of (fault_on_paper f) ≡ f
unfolding fault_of
fault_same (F.TooShort required have layer bound) = refl
fault_same (F.Ipv4Version version) = refl
fault_same (F.SmallIhl ihl) = refl
fault_same (F.Ipv6Version version) = refl
fault_same F.ZeroAuthLength = refl
fault_same (F.SmallDataOffset value) = refl

pub fault_back : Back fault_on_paper
fault_back = record { back = fault_of; same = fault_same }

-- ---- the readers' answers

verdict_off : {A : Type 0} → Verdict A → Result A Fault
verdict_off (whole x) = Ok x
verdict_off (failed f) = Err (fault_of f)

pub read_back : {A : Type 0} → Back (read_on_paper {A = A})
unfolding verdict_off
read_back = record { back = verdict_off; same = elim [ Ok x ↦ refl | Err f ↦ ap Err (fault_same f) ] }

-- ---- the same at a place

place_off : {A : Type 0} → Placed A → Result A Refusal
place_off (A.here x) = Ok x
place_off (A.refused q) = Err (refusal_of q)

pub at_back : {A : Type 0} → Back (at_on_paper {A = A})
unfolding place_off
at_back = record { back = place_off; same = elim [ Ok x ↦ refl | Err q ↦ ap Err (refusal_same q) ] }

-- ---- where a number leads

-- a link number opens a tag or an IP header, and is never a late hop-by-hop header
link_turn_of : Turn → LinkTurn
link_turn_of (U.Opens k) =
    pick (eqb (kind_number k) (kind_number K.Vlan)) Lt.Tag
    (Lt.Ends (Le.Opens (pick (eqb (kind_number k) (kind_number K.Ipv4)) IK.Ipv4 IK.Ipv6)))
link_turn_of (U.Stops stop) = Lt.Ends (Le.Stops stop)
link_turn_of U.LateHopByHop = Lt.Tag

link_turn_same : (t : LinkTurn) → link_turn_of (link_turn_on_paper t) ≡ t
unfolding link_turn_of
link_turn_same Lt.Tag = refl
link_turn_same (Lt.Ends (Le.Opens IK.Ipv4)) = refl
link_turn_same (Lt.Ends (Le.Opens IK.Ipv6)) = refl
link_turn_same (Lt.Ends (Le.Stops stop)) = refl

pub link_turn_back : Back link_turn_on_paper
link_turn_back = record { back = link_turn_of; same = link_turn_same }

transport_turn_of : Turn → Onward TransportKind
transport_turn_of (U.Opens k) = Le.Opens (pick (eqb (kind_number k) (kind_number K.Udp)) TK.Udp TK.Tcp)
transport_turn_of (U.Stops stop) = Le.Stops stop
transport_turn_of U.LateHopByHop = Le.Opens TK.Udp

pub transport_turn_back : Back transport_turn_on_paper
unfolding transport_turn_of
transport_turn_back = record { back = transport_turn_of; same = elim [ Le.Opens TK.Udp ↦ refl | Le.Opens TK.Tcp ↦ refl | Le.Stops stop ↦ refl ] }

-- ---- the slicer's answers

pub ending_back : Back ending_on_paper
ending_back =
    record {
      back = λ x. record { payload = record { at = x.at; len = x.len }; number = x.number; stop = stop_back.back x.why };
      same = λ e i. record { payload = e.payload; number = e.number; stop = stop_back.same e.stop i };
    }

-- how a frame ends
outcome_of : Ended → Result Ending Refusal
outcome_of (accepted x) = Ok (ending_back.back x)
outcome_of (refused r) = Err (refusal_of r)

pub outcome_back : Back outcome_on_paper
unfolding outcome_of
outcome_back = record { back = outcome_of; same = elim [ Ok e ↦ ap Ok (ending_back.same e) | Err q ↦ ap Err (refusal_same q) ] }

-- the unused slots of the tags included
packet_of : Reply → Result SlicedPacket Refusal
packet_of p = go p.ended
  where
    go : Ended → Result SlicedPacket Refusal
    go (accepted x) = Ok (record { tags = p.tags; count = p.count; net = p.net; link = p.link; transport = p.transport; ending = ending_back.back x })
    go (refused r) = Err (refusal_of r)

packet_same : (r : Result SlicedPacket Refusal) → packet_of (packet_on_paper r) ≡ r
unfolding packet_of
packet_same (Ok p) =
    ap (λ (e : Ending). Ok (record { tags = p.tags; count = p.count; net = p.net; link = p.link; transport = p.transport; ending = e })) (ending_back.same p.ending)
packet_same (Err q) = ap Err (refusal_same q)

pub packet_back : Back packet_on_paper
packet_back = record { back = packet_of; same = packet_same }

header_answer : Answer Header → Result (Option Header) Refusal
header_answer (is h) = Ok (Some h)
header_answer no-more = Ok None
header_answer (refusal r) = Err (refusal_of r)

pub header_back : Back header_on_paper
unfolding header_answer
header_back = record { back = header_answer; same = elim [ Ok (Some h) ↦ refl | Ok None ↦ refl | Err q ↦ ap Err (refusal_same q) ] }

count_answer : Answer ℕ → Result ℕ Refusal
count_answer (is n) = Ok n
count_answer no-more = Ok 0
count_answer (refusal r) = Err (refusal_of r)

pub count_back : Back count_on_paper
unfolding count_answer
count_back = record { back = count_answer; same = elim [ Ok n ↦ refl | Err q ↦ ap Err (refusal_same q) ] }

step_of : Stepped → Result Step NoStep
step_of (P.on len p) = Ok (N.Next len (place_back.back p))
step_of (P.last len x) = Ok (N.Last len (ending_back.back x))
step_of (P.refused r) = Err (NS.Refused (refusal_of r))
step_of P.not_a_place = Err NS.NotAPlace

step_same : (a : Result Step NoStep) → step_of (step_on_paper a) ≡ a
unfolding step_of
step_same (Ok (N.Next len p)) = ap (λ (q : Place). Ok (N.Next len q)) (place_back.same p)
step_same (Ok (N.Last len e)) = ap (λ (x : Ending). Ok (N.Last len x)) (ending_back.same e)
step_same (Err (NS.Refused q)) = ap (λ (r : Refusal). Err (NS.Refused r)) (refusal_same q)
step_same (Err NS.NotAPlace) = refl

pub step_back : Back step_on_paper
step_back = record { back = step_of; same = step_same }
