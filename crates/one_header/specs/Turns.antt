-- The code's turns on paper; the extension rule by number, apart from what ends the chain; the transport rule by test.
use Rattle.std.specs.Prelude.{ℕ, ◌≡◌, refl, Bool, true, false, eqb}
use Rattle.std.proofs.Common.{eq-eqb, ne_eqb}
use Rattle.rules.specs.declared.kind.Kind.{Kind}
use Rattle.rules.specs.declared.kind.Kind.TheVariants as K
use Rattle.rules.specs.declared.kind.RoomSource.{RoomSource}
use Rattle.rules.specs.declared.kind.RoomSource.TheVariants as R
use Rattle.rules.specs.declared.place.Room.{Room}
use Rattle.rules.specs.declared.stop.Stop.TheVariants as S
use Rattle.rules.specs.declared.turn.ChainPlace.{ChainPlace}
use Rattle.rules.specs.declared.turn.ChainPlace.TheVariants.{Directly, Later}
use Rattle.rules.specs.declared.turn.Turn.{Turn}
use Rattle.rules.specs.declared.turn.Turn.TheVariants.{Opens, Stops, LateHopByHop}
use Rattle.rules.specs.Numbers.{hop_by_hop_number, routing_number, destination_number, fragment_number, auth_number, udp_number, tcp_number}
use Rattle.rules.specs.Test.{pick}
use Rattle.rules.specs.Rules.{transport, chain4, hop_by_hop, chain6}
use Rattle.one_header.specs.declared.ip.IpKind.{IpKind}
use Rattle.one_header.specs.declared.ip.IpKind.TheVariants as I
use Rattle.one_header.specs.declared.link.LinkKind.{LinkKind}
use Rattle.one_header.specs.declared.link.LinkKind.TheVariants as N
use Rattle.one_header.specs.declared.onward.Onward.{Onward}
use Rattle.one_header.specs.declared.onward.Onward.TheVariants as E
use Rattle.one_header.specs.declared.link.LinkTurn.{LinkTurn}
use Rattle.one_header.specs.declared.link.LinkTurn.TheVariants as L
use Rattle.one_header.specs.declared.ext.ExtKind.{ExtKind}
use Rattle.one_header.specs.declared.ext.ExtKind.TheVariants as X
use Rattle.one_header.specs.declared.ext.ExtTurn.{ExtTurn}
use Rattle.one_header.specs.declared.ext.ExtTurn.TheVariants as T
use Rattle.one_header.specs.declared.transport.TransportKind.{TransportKind}
use Rattle.one_header.specs.declared.transport.TransportKind.TheVariants as Y

-- ---- the code's kinds and turns on paper

abbrev pub ip_kind_of : IpKind → Kind
ip_kind_of I.Ipv4 = K.Ipv4
ip_kind_of I.Ipv6 = K.Ipv6

-- the room that an IP header declares is its own
abbrev pub sets_of : IpKind → RoomSource
sets_of I.Ipv4 = R.Ipv4
sets_of I.Ipv6 = R.Ipv6

abbrev pub version_of : IpKind → ℕ
version_of I.Ipv4 = 4
version_of I.Ipv6 = 6

abbrev pub link_kind_of : LinkKind → Kind
link_kind_of N.Ethernet2 = K.Ethernet2
link_kind_of N.Vlan = K.Vlan

abbrev pub transport_kind_of : TransportKind → Kind
transport_kind_of Y.Udp = K.Udp
transport_kind_of Y.Tcp = K.Tcp

abbrev pub ext_kind_of : ExtKind → Kind
ext_kind_of X.HopByHop = K.HopByHop
ext_kind_of X.Routing = K.Routing
ext_kind_of X.Destination = K.Destination
ext_kind_of X.Fragment = K.Fragment
ext_kind_of X.Auth = K.Auth

abbrev pub onward_on_paper : {K : Type 0} → (K → Kind) → Onward K → Turn
onward_on_paper kind_of (E.Opens k) = Opens (kind_of k)
onward_on_paper kind_of (E.Stops stop) = Stops stop

abbrev pub link_end_on_paper : Onward IpKind → Turn
link_end_on_paper = onward_on_paper ip_kind_of

abbrev pub link_turn_on_paper : LinkTurn → Turn
link_turn_on_paper L.Tag = Opens K.Vlan
link_turn_on_paper (L.Ends e) = link_end_on_paper e

abbrev pub transport_turn_on_paper : Onward TransportKind → Turn
transport_turn_on_paper = onward_on_paper transport_kind_of

-- ---- numbers of a chain

abbrev hop_turn : ChainPlace → ExtTurn
hop_turn Directly = T.Opens X.HopByHop
hop_turn Later = T.LateHopByHop

unfoldable pub ext_turn : ChainPlace → ℕ → ExtTurn
ext_turn place n =
    pick (eqb n hop_by_hop_number) (hop_turn place)
    (pick (eqb n routing_number) (T.Opens X.Routing)
    (pick (eqb n destination_number) (T.Opens X.Destination)
    (pick (eqb n fragment_number) (T.Opens X.Fragment)
    (pick (eqb n auth_number) (T.Opens X.Auth)
    T.Ends))))

-- a turn of a chain, where `rest` is what follows the last extension
abbrev pub turn_by : ExtTurn → Turn → Turn
turn_by (T.Opens k) rest = Opens (ext_kind_of k)
turn_by T.LateHopByHop rest = LateHopByHop
turn_by T.Ends rest = rest

-- where the number of an IP header of a version leads, and that of an extension of such a header's chain
abbrev pub first_turn : ℕ → Room → ℕ → Turn
first_turn version p n = pick (eqb version 4) (chain4 p n) (chain6 Directly p n)

abbrev pub later_turn : ℕ → Room → ℕ → Turn
later_turn version p n = pick (eqb version 4) (transport p n) (chain6 Later p n)

-- the rule of crate rules, taken apart so
pub chain6_is : (place : ChainPlace) (p : Room) (n : ℕ) → chain6 place p n ≡ turn_by (ext_turn place n) (transport p n)
unfolding chain6 ext_turn
chain6_is place p n =
    go place (eqb n hop_by_hop_number) (eqb n routing_number) (eqb n destination_number) (eqb n fragment_number) (eqb n auth_number) (transport p n)
  where
    go : (place : ChainPlace) (a b c d e : Bool) (t : Turn)
        → pick a (hop_by_hop place) (pick b (Opens K.Routing) (pick c (Opens K.Destination) (pick d (Opens K.Fragment) (pick e (Opens K.Auth) t))))
        ≡ turn_by (pick a (hop_turn place) (pick b (T.Opens X.Routing) (pick c (T.Opens X.Destination) (pick d (T.Opens X.Fragment) (pick e (T.Opens X.Auth) T.Ends))))) t
    go Directly true b c d e t = refl
    go Later true b c d e t = refl
    go place false true c d e t = refl
    go place false false true d e t = refl
    go place false false false true e t = refl
    go place false false false false true t = refl
    go place false false false false false t = refl

pub chain4_auth : (p : Room) (n : ℕ) → eqb n auth_number ≡ true → chain4 p n ≡ Opens K.Auth
unfolding chain4
chain4_auth p n e = rw e

pub chain4_plain : (p : Room) (n : ℕ) → eqb n auth_number ≡ false → chain4 p n ≡ transport p n
unfolding chain4
chain4_plain p n e = rw e

-- ---- the transport rule: what a number opens, or where the walk stops

pub is_marked : (p : Room) (n : ℕ) → p.mark ≡ true → transport p n ≡ Stops S.Fragment
unfolding transport
is_marked p n e = rw e

pub is_udp : (p : Room) (n : ℕ) → p.mark ≡ false → n ≡ udp_number → transport p n ≡ Opens K.Udp
unfolding transport
is_udp p n e h = rw (e, eq-eqb _ _ h)

pub is_tcp : (p : Room) (n : ℕ) → p.mark ≡ false → (n ≡ udp_number → ⊥) → n ≡ tcp_number → transport p n ≡ Opens K.Tcp
unfolding transport
is_tcp p n e g h = rw (e, ne_eqb _ _ g, eq-eqb _ _ h)

pub is_other : (p : Room) (n : ℕ) → p.mark ≡ false → (n ≡ udp_number → ⊥) → (n ≡ tcp_number → ⊥) → transport p n ≡ Stops S.IpNumberNotOpened
unfolding transport
is_other p n e g h = rw (e, ne_eqb _ _ g, ne_eqb _ _ h)
