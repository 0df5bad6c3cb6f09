-- The paper's numbers of kinds of header, layers, sources and stops.
use Rattle.std.specs.Prelude.{ℕ}
use Rattle.rules.specs.declared.kind.Kind.{Kind}
use Rattle.rules.specs.declared.kind.Kind.TheVariants.{Ethernet2, Vlan, Ipv4, Ipv6, HopByHop, Routing, Destination, Fragment, Auth, Udp, Tcp}
use Rattle.rules.specs.declared.kind.Layer.{Layer}
use Rattle.rules.specs.declared.kind.Layer.TheVariants.{Of, Ipv4Packet, Ipv6Packet, UdpPayload}
use Rattle.rules.specs.declared.kind.Source.{Source}
use Rattle.rules.specs.declared.kind.Source.TheVariants as O
use Rattle.rules.specs.declared.stop.Stop.{Stop}
use Rattle.rules.specs.declared.stop.Stop.TheVariants as S
use Rattle.rules.specs.Numbers.{ether_type_not_opened, tags_full, fragmented, ip_number_not_opened, transport_read}

-- "header names, numbered from 1: ethernet2, vlan, ipv4, ipv6, hop-by-hop, routing, destination, fragment, auth, udp, tcp"
abbrev pub kind_number : Kind → ℕ
kind_number Ethernet2 = 1
kind_number Vlan = 2
kind_number Ipv4 = 3
kind_number Ipv6 = 4
kind_number HopByHop = 5
kind_number Routing = 6
kind_number Destination = 7
kind_number Fragment = 8
kind_number Auth = 9
kind_number Udp = 10
kind_number Tcp = 11

-- "Layers add ipv4-packet, ipv6-packet, udp-payload"; 12 is kept for a kind (request No. 13), so these go on at 13
abbrev pub layer_number : Layer → ℕ
layer_number (Of k) = kind_number k
layer_number Ipv4Packet = 13
layer_number Ipv6Packet = 14
layer_number UdpPayload = 15

-- "Source is slice, IPv4 total length, IPv6 payload length or UDP length"; the numbers are ours, in that order
abbrev pub source_number : Source → ℕ
source_number O.Slice = 1
source_number O.Ipv4 = 2
source_number O.Ipv6 = 3
source_number O.Udp = 4

-- "why it stopped"
abbrev pub stop_number : Stop → ℕ
stop_number S.EtherTypeNotOpened = ether_type_not_opened
stop_number S.TagsFull = tags_full
stop_number S.Fragment = fragmented
stop_number S.IpNumberNotOpened = ip_number_not_opened
stop_number S.TransportRead = transport_read
