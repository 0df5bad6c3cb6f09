-- A header of any kind at the begin of some bytes that reach to its room's end: what the code answers, and what the rules give.
use Rattle.std.specs.Prelude.{ℕ, ◌+◌, ◌-◌, ◌≡◌, List, Bool, true, false, eqb, Some, None, unwrap_or, Result, Ok, Err}
use Rattle.std.proofs.Math.Path.{refl, ap}
use Rattle.std.proofs.Common.{sym, ◌∙◌}
use native.Mathlib.Omega.{arith}
use Rattle.std.proofs.Math.ListN.{length}
use Rattle.rules.specs.declared.ether_type.EtherType.{EtherType}
use Rattle.rules.specs.declared.kind.Kind.{Kind}
use Rattle.rules.specs.declared.kind.Kind.TheVariants.{Ethernet2, Vlan, Ipv4, Ipv6, HopByHop, Routing, Destination, Fragment, Auth, Udp, Tcp}
use Rattle.rules.specs.declared.kind.RoomSource.{RoomSource}
use Rattle.rules.specs.declared.kind.RoomSource.TheVariants as S
use Rattle.rules.specs.declared.place.Number.TheVariants.{Link, Ip}
use Rattle.rules.specs.declared.place.Room.{Room}
use Rattle.rules.specs.declared.refusal.Refusal.{Refusal}
use Rattle.rules.specs.declared.refusal.Row.{Row}
use Rattle.rules.specs.declared.stop.Stop.TheVariants.{TransportRead}
use Rattle.rules.specs.declared.turn.Turn.{Turn}
use Rattle.rules.specs.declared.turn.Turn.TheVariants.{Stops}
use Rattle.rules.specs.Bytes.{part}
use Rattle.rules.specs.Test.{pick, Verdict, whole, failed, judge, placed}
use Rattle.rules.specs.Paper.{refusal_on_paper}
use Rattle.rules.specs.Fields.{value, total_length, marking}
use Rattle.rules.specs.Rules.{rule, seen, tests, says, link, ip_number_of, ipv6_declared, length_of, declared_of, fragment_of, names_of, turn_of, payload_of}
use Rattle.rules.specs.Place.{room, leaves, follow, follow_of, Found, found_by, PlaceRead, reads, refuses, settle, bytes, outcome, read, place}
use Rattle.laws.specs.Tests.{judge_pass, judge-all, judge_fails}
use Rattle.laws.specs.Parts.{In, part_length}
use Rattle.headers.specs.declared.net.ExtHeader.{ExtHeader}
use Rattle.headers.specs.declared.transport.TransportHeader.{TransportHeader}
use Rattle.headers.specs.Says.{link_says, ip_says, ext_says, udp_says, tcp_says}
use Rattle.one_header.specs.declared.ip.IpFound.{IpFound}
use Rattle.one_header.specs.declared.header.HeaderFound.{HeaderFound}
use Rattle.one_header.specs.Turns.{first_turn, later_turn}
use Rattle.one_header.specs.At.{Placed, here, refused, placing, over, set_source, setting}

-- ---- the code's answer on paper, for a header at an offset in a room of which it takes tags and IP headers held

abbrev pub left_by : HeaderFound → ℕ → Room → Room
left_by x at p = room (at + x.end) p.tags x.version p.ips x.source x.mark

abbrev pub found_on_paper : HeaderFound → ℕ → Room → Found
found_on_paper x at p =
    record { room = left_by x at p; len = x.len; follow = follow x.turn (left_by x at p) (at + x.len) x.number (at + x.to) }

abbrev pub header_read_on_paper : Result HeaderFound Refusal → ℕ → Room → PlaceRead
header_read_on_paper (Ok x) at p = reads (found_on_paper x at p)
header_read_on_paper (Err r) at p = refuses (refusal_on_paper r)

-- ---- what the rules give for a header of kind k at `at`, whose bytes up to its room's end are w

-- the room p, ending where w ends
abbrev pub ending_with : List ℕ → ℕ → Room → Room
ending_with w at p = room (at + length w) p.tags p.version p.ips p.source p.mark

unfoldable pub read_part : List ℕ → Kind → ℕ → Room → PlaceRead
read_part w k at p = settle (judge (tests k p.version (seen k w) (length w)) (found_by k (seen k w) at (ending_with w at p))) at p.source

-- at a place of the frame s
pub part-read : {s : List ℕ} {at : ℕ} {p : Room} (k : Kind) → In s at p → read_part (part s at p.end) k at p ≡ read s (place k at p)
unfolding read_part read outcome bytes
part-read {s} {at} {p} k h =
    let z : at + (p.end - at) ≡ p.end = omega (arith, h.inside) in
    rw (part_length h, z) refl

-- ---- by layer: a reader's answer made a header's, where `have` bytes reach from the header to its room's end

-- a room p that ends `end` bytes from the header at `at`
abbrev pub reaching : ℕ → ℕ → Room → Room
reaching end at p = room (at + end) p.tags p.version p.ips p.source p.mark

abbrev pub link_header : Placed EtherType → (len have at : ℕ) → Room → PlaceRead
link_header (here n) len have at p =
    reads
    (record {
      room = reaching have at p;
      len = len;
      follow = follow (link (reaching have at p) n.0) (reaching have at p) (at + len) (Link n) (at + have);
    })
link_header (refused r) len have at p = refuses r

-- the room that an IP header of a version leaves
abbrev pub inner_room : IpFound → (version at : ℕ) → Room → Room
inner_room x version at p = room (at + x.end) p.tags version p.ips x.source (marking x.fragment false)

abbrev pub ip_header : Placed IpFound → (version at : ℕ) → Room → PlaceRead
ip_header (here x) version at p =
    reads
    (record {
      room = inner_room x version at p;
      len = x.len;
      follow = follow (first_turn version (inner_room x version at p) x.names.0) (inner_room x version at p) (at + x.len) (Ip x.names) (at + x.end);
    })
ip_header (refused r) version at p = refuses r

abbrev pub later_room : ExtHeader → (have at : ℕ) → Room → Room
later_room x have at p = room (at + have) p.tags p.version p.ips p.source (marking x.fragment p.mark)

abbrev pub ext_header : Placed ExtHeader → (chain have at : ℕ) → Room → PlaceRead
ext_header (here x) chain have at p =
    reads
    (record {
      room = later_room x have at p;
      len = x.len;
      follow = follow (later_turn chain (later_room x have at p) x.names.0) (later_room x have at p) (at + x.len) (Ip x.names) (at + have);
    })
ext_header (refused r) chain have at p = refuses r

-- of the chain's version it is asked only whether it is 4
pub same_chain : (a b : ℕ) (o : Placed ExtHeader) (have at : ℕ) (p : Room) → eqb a 4 ≡ eqb b 4 → ext_header o a have at p ≡ ext_header o b have at p
same_chain a b (here x) have at p e = rw e refl
same_chain a b (refused r) have at p e = refl

abbrev pub transport_header : Placed TransportHeader → (number have at : ℕ) → Room → PlaceRead
transport_header (here x) number have at p =
    reads
    (record {
      room = reaching have at p;
      len = x.len;
      follow = follow (Stops TransportRead) (reaching have at p) (at + x.len) (Ip (ip_number_of number)) (at + x.end);
    })
transport_header (refused r) number have at p = refuses r

-- ---- the code's answer for a whole header, with the mark m behind it and the turn u

abbrev ip_left : IpFound → (version at : ℕ) → Room → Bool → Turn → PlaceRead
ip_left x version at p m u =
    reads
    (record {
      room = room (at + x.end) p.tags version p.ips x.source m;
      len = x.len;
      follow = follow u (room (at + x.end) p.tags version p.ips x.source m) (at + x.len) (Ip x.names) (at + x.end);
    })

pub ip_whole : {o : Placed IpFound} {x : IpFound} {u : Turn} {m : Bool} (version at : ℕ) (p : Room) → o ≡ here x → m ≡ marking x.fragment false
    → ((q : Room) → q.mark ≡ m → u ≡ first_turn version q x.names.0) → ip_left x version at p m u ≡ ip_header o version at p
ip_whole {x = x} version at p e me t = rw (e, ← me, t (room (at + x.end) p.tags version p.ips x.source _) refl) refl

abbrev ext_left : ExtHeader → (have at : ℕ) → Room → Bool → Turn → PlaceRead
ext_left x have at p m u =
    reads
    (record {
      room = room (at + have) p.tags p.version p.ips p.source m;
      len = x.len;
      follow = follow u (room (at + have) p.tags p.version p.ips p.source m) (at + x.len) (Ip x.names) (at + have);
    })

pub ext_whole : {o : Placed ExtHeader} {x : ExtHeader} {u : Turn} {m : Bool} (chain have at : ℕ) (p : Room) → o ≡ here x
    → m ≡ marking x.fragment p.mark → ((q : Room) → q.mark ≡ m → u ≡ later_turn chain q x.names.0)
    → ext_left x have at p m u ≡ ext_header o chain have at p
ext_whole chain have at p e me t = rw (e, ← me, t (room (at + have) p.tags p.version p.ips p.source _) refl) refl

-- ---- one law for every kind: what is made of an answer is the reading, if it is so for a whole header

module _ (w : List ℕ) (at : ℕ) (p : Room) where
  by_part : {A B : Type 0} (k : Kind) (fields : (ℕ → ℕ) → ℕ → A) (f : A → B) (made : Placed B → PlaceRead) → ((r : Row) → made (refused r) ≡ refuses r)
      → made (here (f (fields (seen k w) (length w)))) ≡ reads (found_by k (seen k w) at (ending_with w at p))
      → made (placing (over f (says k (rule k) p.version fields w)) at p.source) ≡ read_part w k at p
  unfolding says read_part
  by_part {A} {B} k fields f made bad good = go (says k (rule k) p.version fields w) refl
    where
      go : (o : Verdict A) → says k (rule k) p.version fields w ≡ o → made (placing (over f o) at p.source) ≡ read_part w k at p
      go (whole x) e =
          let z = judge-all _ _ e in
          rw (judge_pass _ _ z.0) (ap (λ (y : A). made (here (f y))) (sym z.1) ∙ good)
      go (failed g) e = rw (judge_fails _ (found_by k (seen k w) at (ending_with w at p)) _ e) (bad (placed g at p.source))

  -- the same where nothing is put over the fields
  by_fields : {A : Type 0} (k : Kind) (fields : (ℕ → ℕ) → ℕ → A) (made : Placed A → PlaceRead) → ((r : Row) → made (refused r) ≡ refuses r)
      → made (here (fields (seen k w) (length w))) ≡ reads (found_by k (seen k w) at (ending_with w at p))
      → made (placing (says k (rule k) p.version fields w) at p.source) ≡ read_part w k at p
  by_fields {A} k fields made bad good = go (says k (rule k) p.version fields w) (by_part k fields (λ x. x) made bad good)
    where
      go : (o : Verdict A) → made (placing (over (λ x. x) o) at p.source) ≡ read_part w k at p → made (placing o at p.source) ≡ read_part w k at p
      go (whole x) e = e
      go (failed g) e = e

  pub ethernet_reads : {o : Placed EtherType} → o ≡ placing (link_says Ethernet2 p.version w) at p.source → link_header o 14 (length w) at p ≡ read_part w Ethernet2 at p
  unfolding follow_of turn_of names_of payload_of leaves length_of declared_of fragment_of
  ethernet_reads e = ap (λ o. link_header o 14 (length w) at p) e ∙ by_fields Ethernet2 _ (λ o. link_header o 14 (length w) at p) (λ r. refl) refl

  pub vlan_reads : {o : Placed EtherType} → o ≡ placing (link_says Vlan p.version w) at p.source → link_header o 4 (length w) at p ≡ read_part w Vlan at p
  unfolding follow_of turn_of names_of payload_of leaves length_of declared_of fragment_of
  vlan_reads e = ap (λ o. link_header o 4 (length w) at p) e ∙ by_fields Vlan _ (λ o. link_header o 4 (length w) at p) (λ r. refl) refl

  -- where a room ends that an IP header sets, counted from the header or from the frame's start
  moved : (b : Bool) (have d : ℕ) → at + pick b have d ≡ pick b (at + have) (at + d)
  moved true have d = refl
  moved false have d = refl

  -- the same where the declared length is an Option, and what set the room
  ended : (b : Bool) (have d : ℕ) → at + unwrap_or (pick b None (Some d)) have ≡ pick b (at + have) (at + d)
  ended true have d = refl
  ended false have d = refl

  sourced : (b : Bool) (d : ℕ) (sets source : RoomSource) → set_source (pick b None (Some d)) sets source ≡ pick b source sets
  sourced true d sets source = refl
  sourced false d sets source = refl

  pub ipv4_reads : {o : Placed IpFound} → o ≡ placing (over (λ x. setting x (length w) S.Ipv4 p.source) (ip_says Ipv4 p.version w)) at p.source
      → ip_header o 4 at p ≡ read_part w Ipv4 at p
  unfolding follow_of turn_of names_of payload_of leaves length_of declared_of fragment_of
  ipv4_reads e =
      let d = value total_length (seen Ipv4 w) in
      ap (λ o. ip_header o 4 at p) e ∙ by_part Ipv4 _ (λ x. setting x (length w) S.Ipv4 p.source) (λ o. ip_header o 4 at p) (λ r. refl)
      (rw (ended (eqb d 0) (length w) d, sourced (eqb d 0) d S.Ipv4 p.source) refl)

  pub ipv6_reads : {o : Placed IpFound} → o ≡ placing (over (λ x. setting x (length w) S.Ipv6 p.source) (ip_says Ipv6 p.version w)) at p.source
      → ip_header o 6 at p ≡ read_part w Ipv6 at p
  unfolding follow_of turn_of names_of payload_of leaves length_of declared_of fragment_of
  ipv6_reads e =
      let d = ipv6_declared (seen Ipv6 w) in
      ap (λ o. ip_header o 6 at p) e ∙ by_part Ipv6 _ (λ x. setting x (length w) S.Ipv6 p.source) (λ o. ip_header o 6 at p) (λ r. refl)
      (rw (ended (eqb d 0) (length w) d, sourced (eqb d 0) d S.Ipv6 p.source) refl)

  pub hop_reads : {o : Placed ExtHeader} → o ≡ placing (ext_says HopByHop p.version w) at p.source → ext_header o 6 (length w) at p ≡ read_part w HopByHop at p
  unfolding follow_of turn_of names_of payload_of leaves length_of declared_of fragment_of
  hop_reads e = ap (λ o. ext_header o 6 (length w) at p) e ∙ by_fields HopByHop _ (λ o. ext_header o 6 (length w) at p) (λ r. refl) refl

  pub routing_reads : {o : Placed ExtHeader} → o ≡ placing (ext_says Routing p.version w) at p.source → ext_header o 6 (length w) at p ≡ read_part w Routing at p
  unfolding follow_of turn_of names_of payload_of leaves length_of declared_of fragment_of
  routing_reads e = ap (λ o. ext_header o 6 (length w) at p) e ∙ by_fields Routing _ (λ o. ext_header o 6 (length w) at p) (λ r. refl) refl

  pub destination_reads : {o : Placed ExtHeader} → o ≡ placing (ext_says Destination p.version w) at p.source → ext_header o 6 (length w) at p ≡ read_part w Destination at p
  unfolding follow_of turn_of names_of payload_of leaves length_of declared_of fragment_of
  destination_reads e = ap (λ o. ext_header o 6 (length w) at p) e ∙ by_fields Destination _ (λ o. ext_header o 6 (length w) at p) (λ r. refl) refl

  pub fragment_reads : {o : Placed ExtHeader} → o ≡ placing (ext_says Fragment p.version w) at p.source → ext_header o 6 (length w) at p ≡ read_part w Fragment at p
  unfolding follow_of turn_of names_of payload_of leaves length_of declared_of fragment_of
  fragment_reads e = ap (λ o. ext_header o 6 (length w) at p) e ∙ by_fields Fragment _ (λ o. ext_header o 6 (length w) at p) (λ r. refl) refl

  pub auth_reads : {o : Placed ExtHeader} → o ≡ placing (ext_says Auth p.version w) at p.source → ext_header o p.version (length w) at p ≡ read_part w Auth at p
  unfolding follow_of turn_of names_of payload_of leaves length_of declared_of fragment_of
  auth_reads e = ap (λ o. ext_header o p.version (length w) at p) e ∙ by_fields Auth _ (λ o. ext_header o p.version (length w) at p) (λ r. refl) refl

  pub udp_reads : {o : Placed TransportHeader} → o ≡ placing (udp_says p.version w) at p.source → transport_header o 17 (length w) at p ≡ read_part w Udp at p
  unfolding follow_of turn_of names_of payload_of leaves length_of declared_of fragment_of
  udp_reads e =
      ap (λ o. transport_header o 17 (length w) at p) e ∙ by_fields Udp _ (λ o. transport_header o 17 (length w) at p) (λ r. refl)
      (let z : at + length w - at ≡ length w = omega arith in rw z refl)

  pub tcp_reads : {o : Placed TransportHeader} → o ≡ placing (tcp_says p.version w) at p.source → transport_header o 6 (length w) at p ≡ read_part w Tcp at p
  unfolding follow_of turn_of names_of payload_of leaves length_of declared_of fragment_of
  tcp_reads e =
      ap (λ o. transport_header o 6 (length w) at p) e ∙ by_fields Tcp _ (λ o. transport_header o 6 (length w) at p) (λ r. refl)
      (let z : at + length w - at ≡ length w = omega arith in rw z refl)
