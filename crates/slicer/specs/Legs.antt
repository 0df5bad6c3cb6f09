-- What each leg of the walk promises: the reply from where it begins is its refusal's, or the reply from where it ends, with
-- what it found put in.
use Rattle.std.specs.Prelude.{ℕ, zero, suc, ◌+◌, ◌-◌, ◌≤◌, ◌≡◌, List, [], ◌∷◌, Bool, true, false, length, Option, None, Some, Result, Ok, Err}
use Rattle.std.specs.Bool.{then_some}
use Rattle.rules.specs.declared.entry.Entry.{Entry}
use Rattle.rules.specs.declared.ether_type.EtherType.{EtherType}
use Rattle.rules.specs.declared.ip_number.IpNumber.{IpNumber}
use Rattle.rules.specs.declared.kind.Kind.{Kind}
use Rattle.rules.specs.declared.kind.Kind.TheVariants.{Ethernet2, Vlan}
use Rattle.rules.specs.declared.kind.RoomSource.{RoomSource}
use Rattle.rules.specs.declared.kind.RoomSource.TheVariants as S
use Rattle.rules.specs.declared.place.Header.{Header}
use Rattle.rules.specs.declared.place.Number.{Number}
use Rattle.rules.specs.declared.place.Number.TheVariants.{Link, Ip}
use Rattle.rules.specs.declared.place.Place.{Place}
use Rattle.rules.specs.declared.place.Range.{Range}
use Rattle.rules.specs.declared.place.Room.{Room}
use Rattle.rules.specs.declared.refusal.Refusal.{Refusal}
use Rattle.rules.specs.declared.refusal.Row.{Row}
use Rattle.rules.specs.declared.stop.Ending.{Ending}
use Rattle.rules.specs.declared.stop.Stop.{Stop}
use Rattle.rules.specs.declared.stop.Stop.TheVariants as Z
use Rattle.rules.specs.declared.turn.ChainPlace.{ChainPlace}
use Rattle.rules.specs.declared.turn.Turn.{Turn}
use Rattle.rules.specs.Numbers.{ethernet_length, tag_length, tag_limit}
use Rattle.rules.specs.Named.{kind_number}
use Rattle.rules.specs.Paper.{refusal_on_paper}
use Rattle.rules.specs.Rules.{rule, link, transport, chain6}
use Rattle.rules.specs.Place.{room, place, opening, follow, ending_on_paper}
use Rattle.laws.specs.Gather.{gather, rest}
use Rattle.headers.specs.declared.transport.TransportHeader.{TransportHeader}
use Rattle.one_header.specs.declared.ip.IpKind.{IpKind}
use Rattle.one_header.specs.Turns.{ip_kind_of, first_turn, link_end_on_paper}
use Rattle.slicer.specs.declared.packet.IpPart.{IpPart}
use Rattle.slicer.specs.declared.room.RoomSlice.{RoomSlice}
use Rattle.slicer.specs.declared.link.LinkFound.{LinkFound}
use Rattle.slicer.specs.declared.net.NetFound.{NetFound}
use Rattle.slicer.specs.declared.net.ExtsFound.{ExtsFound}
use Rattle.slicer.specs.declared.transport.TransportFound.{TransportFound}
use Rattle.slicer.specs.Reply.{Parts, nothing, range, with_net, with_transport, ip_part, Reply, refused_by, accepted_by, slice_way}

-- ---- how a leg ends

pub data Ends (A : Type 0) : Type 0 where
  reached : A → Ends A
  shut : Row → Ends A

-- of a leg that ended: P of what it found, or Q of its refusal
pub data Went {A : Type 0} (P : A → Type 0) (Q : Row → Type 0) : Ends A → Type 0 where
  went : {x : A} → P x → Went P Q (reached x)
  stuck : {r : Row} → Q r → Went P Q (shut r)

-- a leg's answer
abbrev pub leg_on_paper : {A : Type 0} → Result A Refusal → Ends A
leg_on_paper (Ok x) = reached x
leg_on_paper (Err r) = shut (refusal_on_paper r)

-- where every leg hands over: the reply from a turn on, at an offset in the room p, with the parts f found before
unfoldable pub on_turn : List ℕ → Parts → Turn → Room → ℕ → Number → Reply
on_turn s f turn p at number = rest slice_way f s (follow turn p at number p.end)

-- ---- the link leg

-- n tags from an offset on
unfoldable pub tags_from : ℕ → ℕ → List Header
tags_from at zero = []
tags_from at (suc n) = record { kind = kind_number Vlan; at = at; len = tag_length } ∷ tags_from (at + tag_length) n

abbrev pub ethernet_header : Header
ethernet_header = record { kind = kind_number Ethernet2; at = 0; len = ethernet_length }

-- the same with what was found behind the link
abbrev pub parts_of : (linked : Bool) (tags : ℕ) → Option IpPart → Option Header → Parts
parts_of linked tags net transport =
    record {
      link = then_some linked ethernet_header;
      tags = tags_from ethernet_length tags;
      net = net;
      transport = transport;
    }

abbrev pub link_parts : Bool → ℕ → Parts
link_parts linked tags = parts_of linked tags nothing.net nothing.transport

abbrev pub found_by : LinkFound → Option IpPart → Option Header → Parts
found_by x net transport = parts_of x.linked x.tags net transport

abbrev pub ending_by : Range → Number → Stop → Ending
ending_by payload number stop = record { payload = payload; number = number; stop = stop }

abbrev pub link_room : List ℕ → ℕ → Room
link_room s tags = room (length s) tags 0 0 S.Slice false

-- the room behind the link
abbrev pub room_behind : LinkFound → Room
room_behind x = room x.room.end x.tags 0 0 x.room.source false

-- the reply from a link number on, with `tags` held
abbrev pub on_link : List ℕ → ℕ → EtherType → ℕ → Reply
on_link s tags number at = on_turn s (link_parts true tags) (link (link_room s tags) number.0) (link_room s tags) at (Link number)

-- where the link leg ends: that this is in the frame, x.room says itself
pub record LinkDone (before : Reply) (x : LinkFound) : Type 0 where
  pub left : before ≡ on_turn x.room.frame.now (link_parts x.linked x.tags) (link_end_on_paper x.turn) (room_behind x) x.room.at (Link x.number)
  pub few : x.tags ≤ tag_limit

abbrev pub Linking : Reply → Ends LinkFound → Type 0
Linking before = Went (LinkDone before) (λ r. before ≡ refused_by r)

abbrev pub Linked : List ℕ → Entry → Ends LinkFound → Type 0
Linked s e = Linking (rest slice_way nothing s (opening e s))

abbrev pub Tagged : List ℕ → EtherType → Ends LinkFound → Type 0
Tagged s first = Linking (on_link s 0 first ethernet_length)

-- ---- the net leg: whatever was found before (f), however many tags and IP headers are held (t, i), and whatever packet the header
-- stands in (its version v and mark m)

abbrev pub net_place : Kind → (at end t v i : ℕ) → RoomSource → Bool → Place
net_place k at end t v i source m = place k at (room end t v i source m)

-- the reply from an IP header behind the link on
abbrev pub behind_link : LinkFound → IpKind → Reply
behind_link x k =
    gather slice_way (link_parts x.linked x.tags) x.room.frame.now (net_place (ip_kind_of k) x.room.at x.room.end x.tags 0 1 x.room.source false)

-- the room behind the extensions of an IP header of kind k
abbrev pub net_room : Kind → (end t i : ℕ) → RoomSource → Bool → Room
net_room k end t i source mark = room end t (rule k).version i source mark

-- the reply from an IP number on that is no extension to open
abbrev pub on_transport : List ℕ → Parts → Room → IpNumber → ℕ → Reply
on_transport s f p number at = on_turn s f (transport p number.0) p at (Ip number)

abbrev pub head_of : Kind → (at len : ℕ) → Header
head_of k at len = record { kind = kind_number k; at = at; len = len }

-- where the net leg ends, in x.room: not before its header does
pub record NetDone (r : RoomSlice) (k : Kind) (x : NetFound) : Type 0 where
  pub left : (f : Parts) (t v i : ℕ) (m : Bool) → gather slice_way f r.frame.now (net_place k r.at r.end t v i r.source m)
      ≡ on_transport x.room.frame.now (with_net f x.ip) (net_room k x.room.end t i x.room.source x.ip.fragmented) x.number x.room.at
  pub headed : x.ip.header.at + x.ip.header.len ≤ x.room.at

abbrev pub Netted : RoomSlice → Kind → Ends NetFound → Type 0
Netted r k =
    Went (NetDone r k)
    (λ q. (f : Parts) (t v i : ℕ) (m : Bool) → gather slice_way f r.frame.now (net_place k r.at r.end t v i r.source m) ≡ refused_by q)

-- ---- the extensions of an IP header h of kind k, from the offset `from` on

-- the reply from the header's number on
abbrev pub on_first : List ℕ → Kind → Parts → Header → ℕ → Room → IpNumber → Reply
on_first s k f h from p number =
    on_turn s (with_net f (ip_part h from from p.mark)) (first_turn (rule k).version p number.0) p from (Ip number)

-- the reply from a number of an IPv6 chain on, with the extensions up to `at` found
abbrev pub on_chain : List ℕ → ChainPlace → Parts → Header → ℕ → Room → IpNumber → ℕ → Reply
on_chain s place f h from p number at = on_turn s (with_net f (ip_part h from at p.mark)) (chain6 place p number.0) p at (Ip number)

pub record ExtsDone (s : List ℕ) (k : Kind) (begin : IpNumber) (from end : ℕ) (source : RoomSource) (marked : Bool) (x : ExtsFound) : Type 0 where
  pub left : (f : Parts) (h : Header) (t i : ℕ) → on_first s k f h from (net_room k end t i source marked) begin
      ≡ on_transport s (with_net f (ip_part h from x.at x.mark)) (net_room k end t i source x.mark) x.number x.at
  pub headed : from ≤ x.at
  pub inside : x.at ≤ end

abbrev pub Extended : RoomSlice → Kind → IpNumber → Bool → Ends ExtsFound → Type 0
Extended r k begin marked =
    Went (ExtsDone r.frame.now k begin r.at r.end r.source marked)
    (λ q. (f : Parts) (h : Header) (t i : ℕ) → on_first r.frame.now k f h r.at (net_room k r.end t i r.source marked) begin ≡ refused_by q)

-- ---- the transport leg: whatever IP header it stands behind (k), whatever was found before (f)

abbrev pub stopped_at : IpNumber → ℕ → ℕ → Stop → TransportFound
stopped_at number at end stop =
    record { ending = ending_by (range at (end - at)) (Ip number) stop; transport = None }

abbrev pub opened_at : IpNumber → Kind → ℕ → TransportHeader → TransportFound
opened_at number k at x =
    record {
      ending = ending_by (range (at + x.len) (x.end - x.len)) (Ip number) Z.TransportRead;
      transport = Some (head_of k at x.len);
    }

abbrev pub Carried : RoomSlice → Bool → IpNumber → Ends TransportFound → Type 0
Carried r mark number =
    Went
    (λ x. (f : Parts) (k : Kind) (t i : ℕ) → f.transport ≡ None
    → on_transport r.frame.now f (net_room k r.end t i r.source mark) number r.at ≡ accepted_by (with_transport f x.transport) (ending_on_paper x.ending))
    (λ q. (f : Parts) (k : Kind) (t i : ℕ) → on_transport r.frame.now f (net_room k r.end t i r.source mark) number r.at ≡ refused_by q)
