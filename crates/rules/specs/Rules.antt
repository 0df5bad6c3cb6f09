-- Document 01's header rules as one table: a block a kind, in the paper's words. Everything else cites this table.
use Rattle.std.specs.Prelude.{ℕ, ◌+◌, ◌-◌, ◌*◌, List, [], ◌∷◌, Bool, true, false, ltb, eqb, length}
use Rattle.rules.specs.declared.ether_type.EtherType.{EtherType}
use Rattle.rules.specs.declared.fragment.Fragment.{Fragment}
use Rattle.rules.specs.declared.fragment.Fragment.TheVariants.{Not}
use Rattle.rules.specs.declared.ip_number.IpNumber.{IpNumber}
use Rattle.rules.specs.declared.kind.Kind.{Kind}
use Rattle.rules.specs.declared.kind.Kind.TheVariants.{Ethernet2, Vlan, Ipv4, Ipv6, HopByHop, Routing, Destination, Auth, Udp, Tcp}
use Rattle.rules.specs.declared.kind.Kind.TheVariants as K
use Rattle.rules.specs.declared.kind.Layer.TheVariants.{Of, Ipv4Packet, Ipv6Packet, UdpPayload}
use Rattle.rules.specs.declared.place.Number.{Number}
use Rattle.rules.specs.declared.place.Number.TheVariants.{Link, Ip}
use Rattle.rules.specs.declared.place.Room.{Room}
use Rattle.rules.specs.declared.refusal.Bound.TheVariants as B
use Rattle.rules.specs.declared.stop.Stop.TheVariants as S
use Rattle.rules.specs.declared.turn.ChainPlace.{ChainPlace}
use Rattle.rules.specs.declared.turn.ChainPlace.TheVariants.{Directly, Later}
use Rattle.rules.specs.declared.turn.Turn.{Turn}
use Rattle.rules.specs.declared.turn.Turn.TheVariants.{Opens, Stops, LateHopByHop}
use Rattle.rules.specs.Bytes.{byte_at}
use Rattle.rules.specs.Numbers
use Rattle.rules.specs.Test.{pick, Test, fits, least, same, other, Verdict, judge}
use Rattle.rules.specs.Fields
use Rattle.rules.specs.Fields.{Field, value, bytes_of_all, fragment_by}

-- ---- what a number leads to: a header of a kind, a stop, or a hop-by-hop header that is not at the start

abbrev pub is_one_of : ℕ → List ℕ → Bool
is_one_of n [] = false
is_one_of n (m ∷ ms) = pick (eqb n m) true (is_one_of n ms)

-- `VLAN-3`
unfoldable pub is_tag : ℕ → Bool
is_tag n = is_one_of n Numbers.tag_types

-- "At most 3 tags. A tag type met with 3 held is accepted and left unopened, without looking at its bytes."
-- `LINK-1` to `LINK-3`, `VLAN-4` to `VLAN-6`
unfoldable pub link : Room → ℕ → Turn
link p n =
    pick (is_tag n) (pick (ltb p.tags Numbers.tag_limit) (Opens Vlan) (Stops S.TagsFull))
    (pick (eqb n Numbers.ipv4_type) (Opens Ipv4)
    (pick (eqb n Numbers.ipv6_type) (Opens Ipv6)
    (Stops S.EtherTypeNotOpened)))

-- "A fragmented packet's transport isn't opened. Otherwise 17 is UDP, 6 is TCP." "3 comes before 4"
-- `TRANS-1` to `TRANS-4`
unfoldable pub transport : Room → ℕ → Turn
transport p n =
    pick p.mark (Stops S.Fragment)
    (pick (eqb n Numbers.udp_number) (Opens Udp)
    (pick (eqb n Numbers.tcp_number) (Opens Tcp)
    (Stops S.IpNumberNotOpened)))

-- "IPv4 takes only the one AUTH." "Protocol 51: one AUTH header is read, fragmented or not."
-- `EXT-5`, `EXT-6`
unfoldable pub chain4 : Room → ℕ → Turn
chain4 p n = pick (eqb n Numbers.auth_number) (Opens Auth) (transport p n)

-- "Number 0 is hop-by-hop directly after the IPv6 header; later in an IPv6 chain it is refusal 5, before any length test."
-- `EXT-1`, `EXT-3`
abbrev pub hop_by_hop : ChainPlace → Turn
hop_by_hop Directly = Opens HopByHop
hop_by_hop Later = LateHopByHop

-- "Any other number ends it."
-- `EXT-2`, `EXT-4`
unfoldable pub chain6 : ChainPlace → Room → ℕ → Turn
chain6 place p n =
    pick (eqb n Numbers.hop_by_hop_number) (hop_by_hop place)
    (pick (eqb n Numbers.routing_number) (Opens Routing)
    (pick (eqb n Numbers.destination_number) (Opens Destination)
    (pick (eqb n Numbers.fragment_number) (Opens K.Fragment)
    (pick (eqb n Numbers.auth_number) (Opens Auth)
    (transport p n)))))

abbrev pub ether_type_of : ℕ → EtherType
ether_type_of n = record { 0 = n }

abbrev pub ip_number_of : ℕ → IpNumber
ip_number_of n = record { 0 = n }

-- ---- the rule of one kind. g i is byte i of the header, `have` the bytes from the header to its room's end

pub record Rule : Type 0 where
  -- the fields that the rule looks at
  pub fields : List Field
  -- its least length, which is tested first
  pub least : ℕ
  -- the tests after that, in order, by the IP version that it stands in (which no test of the base asks for)
  pub later : ℕ → (ℕ → ℕ) → ℕ → List Test
  -- the length that its own fields give
  pub size : (ℕ → ℕ) → ℕ
  -- the IP version that it begins, 0 for none
  pub version : ℕ
  -- demand 3's declared length of an IP header, 0 where it declares none
  pub declared : (ℕ → ℕ) → ℕ
  -- what it says of the packet
  pub fragment : (ℕ → ℕ) → Fragment
  -- the number that names what follows, and where that leads in the room that the header leaves
  pub names : (ℕ → ℕ) → Number
  pub turn : (ℕ → ℕ) → Room → Turn
  -- where its payload ends, if the walk stops behind it: by its offset and the room that it leaves
  pub payload : (ℕ → ℕ) → ℕ → Room → ℕ

-- what every block says; a block with more to say puts that on top
pub record Block : Type 0 where
  pub fields : List Field
  pub least : ℕ
  pub later : ℕ → (ℕ → ℕ) → ℕ → List Test
  pub size : (ℕ → ℕ) → ℕ
  pub names : (ℕ → ℕ) → Number
  pub turn : (ℕ → ℕ) → Room → Turn

-- a header that begins no IP packet, is no fragment's, and whose payload ends with its room
abbrev pub plain : Block → Rule
plain b =
    record {
      fields = b.fields;
      least = b.least;
      later = b.later;
      size = b.size;
      version = 0;
      declared = λ g. 0;
      fragment = λ g. Not;
      names = b.names;
      turn = b.turn;
      payload = λ g at p. p.end;
    }

-- an IP header of a version, with its declared length and what it says of fragments
abbrev pub beginning : ℕ → ((ℕ → ℕ) → ℕ) → ((ℕ → ℕ) → Fragment) → Rule → Rule
beginning version declared fragment r =
    record {
      fields = r.fields;
      least = r.least;
      later = r.later;
      size = r.size;
      version = version;
      declared = declared;
      fragment = fragment;
      names = r.names;
      turn = r.turn;
      payload = r.payload;
    }

-- a header whose payload ends where `to` says, counted from the header, of which `have` bytes are there
abbrev pub ending : ((ℕ → ℕ) → (have : ℕ) → ℕ) → Rule → Rule
ending to r =
    record {
      fields = r.fields;
      least = r.least;
      later = r.later;
      size = r.size;
      version = r.version;
      declared = r.declared;
      fragment = r.fragment;
      names = r.names;
      turn = r.turn;
      payload = λ g at p. at + to g (p.end - at);
    }

-- ---- the blocks

-- "Ethernet: 14 bytes, type at 12. Tag: 4 bytes, type at 2."
-- `ETH-1`, `ETH-2`, `VLAN-1`, `VLAN-2`
abbrev pub link_rule : ℕ → Field → Rule
link_rule size type =
    plain
    (record {
      fields = type ∷ [];
      least = size;
      later = λ v g have. [];
      size = λ g. size;
      names = λ g. Link (ether_type_of (value type g));
      turn = λ g p. link p (value type g);
    })

-- "IPv4 (RFC 791), checked in this order: 20 bytes there; version 4; IHL at least 5; IHL x 4 bytes there; total length
-- at least IHL x 4; total length at most what is there. Room ends at total length." (RFC 791, section 3.1)
-- `IP4-1` to `IP4-7`
abbrev pub ipv4_rule : Rule
ipv4_rule =
    beginning 4 (value Fields.total_length) (λ g. fragment_by (value Fields.ipv4_offset g) (value Fields.ipv4_more g))
    (plain
    (record {
      fields = Fields.ipv4_version ∷ Fields.ihl ∷ Fields.total_length ∷ Fields.ipv4_offset ∷ Fields.ipv4_more ∷ Fields.protocol ∷ [];
      least = Numbers.ipv4_length;
      later = λ v g have. same (value Fields.ipv4_version g) 4 (other Numbers.ipv4_version (Of Ipv4) (value Fields.ipv4_version g))
          ∷ least Numbers.least_words (value Fields.ihl g) (other Numbers.ihl_below5 (Of Ipv4) (value Fields.ihl g))
          ∷ fits (Of Ipv4) (value Fields.ihl g * 4) have B.Room
          ∷ fits Ipv4Packet (value Fields.ihl g * 4) (value Fields.total_length g) B.Ipv4TotalLength
          ∷ fits Ipv4Packet (value Fields.total_length g) have B.Room
          ∷ [];
      size = λ g. value Fields.ihl g * 4;
      names = λ g. Ip (ip_number_of (value Fields.protocol g));
      turn = λ g p. chain4 p (value Fields.protocol g);
    }))

-- "IPv6 (RFC 8200), in order: 40 bytes there; version 6; 40 + payload length there. Payload length 0: the room is all
-- that follows, source "slice"." (RFC 8200, section 3)
abbrev pub ipv6_declared : (ℕ → ℕ) → ℕ
ipv6_declared g = pick (eqb (value Fields.payload_length g) 0) 0 (Numbers.ipv6_length + value Fields.payload_length g)

-- `IP6-1` to `IP6-4`
abbrev pub ipv6_rule : Rule
ipv6_rule =
    beginning 6 ipv6_declared (λ g. Not)
    (plain
    (record {
      fields = Fields.ipv6_version ∷ Fields.payload_length ∷ Fields.next_header ∷ [];
      least = Numbers.ipv6_length;
      later = λ v g have. same (value Fields.ipv6_version g) 6 (other Numbers.ipv6_version (Of Ipv6) (value Fields.ipv6_version g))
          ∷ fits Ipv6Packet (Numbers.ipv6_length + value Fields.payload_length g) have B.Room
          ∷ [];
      size = λ g. Numbers.ipv6_length;
      names = λ g. Ip (ip_number_of (value Fields.next_header g));
      turn = λ g p. chain6 Directly p (value Fields.next_header g);
    }))

-- "hop-by-hop 0, routing 43, destination 60 are (second byte + 1) x 8 long, at least 8" (RFC 8200, sections 4.3, 4.4, 4.6)
-- `RAW-1` to `RAW-3`
abbrev pub raw_rule : Kind → Rule
raw_rule k =
    plain
    (record {
      fields = Fields.ext_next_header ∷ Fields.ext_length ∷ [];
      least = Numbers.raw_length;
      later = λ v g have. fits (Of k) ((value Fields.ext_length g + 1) * 8) have B.Room ∷ [];
      size = λ g. (value Fields.ext_length g + 1) * 8;
      names = λ g. Ip (ip_number_of (value Fields.ext_next_header g));
      turn = λ g p. chain6 Later p (value Fields.ext_next_header g);
    })

-- "fragment 44 is 8, fragmenting if offset or M is nonzero"; the offset is the upper 13 bits of bytes 2 and 3, M the
-- lowest bit (RFC 8200, section 4.5)
-- `FRAG-1`, `FRAG-2`
abbrev pub fragment_rule : Rule
fragment_rule =
    beginning 0 (λ g. 0) (λ g. fragment_by (value Fields.fragment_offset g) (value Fields.fragment_more g))
    (plain
    (record {
      fields = Fields.ext_next_header ∷ Fields.fragment_offset ∷ Fields.fragment_more ∷ [];
      least = Numbers.fragment_length;
      later = λ v g have. [];
      size = λ g. Numbers.fragment_length;
      names = λ g. Ip (ip_number_of (value Fields.ext_next_header g));
      turn = λ g p. chain6 Later p (value Fields.ext_next_header g);
    }))

-- "AUTH 51 is (second byte + 2) x 4, at least 12 (RFC 4302), its zero test after the 12-byte test and before the full
-- length." Under IPv4 no extension follows it. (RFC 4302, section 2)
-- `AUTH-1` to `AUTH-4`, `EXT-7`, `EXT-8`
abbrev pub auth_rule : Rule
auth_rule =
    plain
    (record {
      fields = Fields.ext_next_header ∷ Fields.ext_length ∷ [];
      least = Numbers.auth_length;
      later = λ v g have. least 1 (value Fields.ext_length g) (other Numbers.auth_length_zero (Of Auth) 0)
          ∷ fits (Of Auth) ((value Fields.ext_length g + 2) * 4) have B.Room
          ∷ [];
      size = λ g. (value Fields.ext_length g + 2) * 4;
      names = λ g. Ip (ip_number_of (value Fields.ext_next_header g));
      turn = λ g p. pick (eqb p.version 4) (transport p (value Fields.ext_next_header g)) (chain6 Later p (value Fields.ext_next_header g));
    })

-- where a transport header's payload ends, counted from the header, of which `have` bytes are there:
-- "after UDP to its length (length 0: room's end)"; TCP has no length of its own
-- `UDP-5`
abbrev pub udp_end : (ℕ → ℕ) → ℕ → ℕ
udp_end g have = pick (eqb (value Fields.udp_length g) 0) have (value Fields.udp_length g)

-- `TCP-5`
abbrev pub tcp_end : (ℕ → ℕ) → ℕ → ℕ
tcp_end g have = have

-- "UDP (RFC 768): 8 bytes; length 0 means the rest of the room (as RFC 2675 has it); 1 to 7 is refused; else length must
-- fit the room."
-- `UDP-1` to `UDP-4`, `TRANS-5`
abbrev pub udp_rule : Rule
udp_rule =
    ending udp_end
    (plain
    (record {
      fields = Fields.udp_length ∷ [];
      least = Numbers.udp_header_length;
      later = λ v g have. fits (Of Udp) Numbers.udp_header_length (udp_end g have) B.UdpLength
          ∷ fits UdpPayload (udp_end g have) have B.Room
          ∷ [];
      size = λ g. Numbers.udp_header_length;
      names = λ g. Ip (ip_number_of Numbers.udp_number);
      turn = λ g p. Stops S.TransportRead;
    }))

-- "TCP (RFC 9293): 20 bytes, data offset at least 5, then offset x 4 bytes there." (RFC 9293, section 3.1)
-- `TCP-1` to `TCP-4`, `TRANS-5`
abbrev pub tcp_rule : Rule
tcp_rule =
    ending tcp_end
    (plain
    (record {
      fields = Fields.data_offset ∷ [];
      least = Numbers.tcp_length;
      later = λ v g have. least Numbers.least_words (value Fields.data_offset g) (other Numbers.data_offset_below5 (Of Tcp) (value Fields.data_offset g))
          ∷ fits (Of Tcp) (value Fields.data_offset g * 4) have B.Room
          ∷ [];
      size = λ g. value Fields.data_offset g * 4;
      names = λ g. Ip (ip_number_of Numbers.tcp_number);
      turn = λ g p. Stops S.TransportRead;
    }))

abbrev pub rule : Kind → Rule
rule Ethernet2 = link_rule Numbers.ethernet_length Fields.ethernet_type
rule Vlan = link_rule Numbers.tag_length Fields.tag_type
rule Ipv4 = ipv4_rule
rule Ipv6 = ipv6_rule
rule HopByHop = raw_rule HopByHop
rule Routing = raw_rule Routing
rule Destination = raw_rule Destination
rule K.Fragment = fragment_rule
rule Auth = auth_rule
rule Udp = udp_rule
rule Tcp = tcp_rule

-- ---- the rule's parts by kind, shut, so that what is proved of all kinds at once does not look inside

-- the bytes that decide: those of the rule's fields
abbrev pub deciding : Kind → List ℕ
deciding k = bytes_of_all (rule k).fields

abbrev pub least_length : Kind → ℕ
least_length k = (rule k).least

unfoldable pub length_of : Kind → (ℕ → ℕ) → ℕ
length_of k = (rule k).size

unfoldable pub declared_of : Kind → (ℕ → ℕ) → ℕ
declared_of k = (rule k).declared

unfoldable pub fragment_of : Kind → (ℕ → ℕ) → Fragment
fragment_of k = (rule k).fragment

unfoldable pub names_of : Kind → (ℕ → ℕ) → Number
names_of k = (rule k).names

unfoldable pub turn_of : Kind → (ℕ → ℕ) → Room → Turn
turn_of k = (rule k).turn

unfoldable pub payload_of : Kind → (ℕ → ℕ) → ℕ → Room → ℕ
payload_of k = (rule k).payload

-- what a reader sees of the bytes w: only those that decide
unfoldable pub seen_by : Rule → List ℕ → ℕ → ℕ
seen_by r w i = pick (is_one_of i (bytes_of_all r.fields)) (byte_at w i) 0

abbrev pub seen : Kind → List ℕ → ℕ → ℕ
seen k = seen_by (rule k)

-- all tests of a header, in order: the least length, then the rule's own
unfoldable pub tests_by : Kind → Rule → ℕ → (ℕ → ℕ) → ℕ → List Test
tests_by k r v g have = fits (Of k) r.least have B.Room ∷ r.later v g have

abbrev pub tests : Kind → ℕ → (ℕ → ℕ) → ℕ → List Test
tests k = tests_by k (rule k)

-- what a reader says of the bytes w that it is handed, by a rule, in a packet of the IP version v: the fields, of the bytes
-- that decide; or the first test that failed
unfoldable pub says : {A : Type 0} → Kind → Rule → (v : ℕ) → ((ℕ → ℕ) → ℕ → A) → List ℕ → Verdict A
says k r v fields w = judge (tests_by k r v (seen_by r w) (length w)) (fields (seen_by r w) (length w))
