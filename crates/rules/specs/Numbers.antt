-- The numbers of document 01, each named once.
use Rattle.std.specs.Prelude.{ℕ, List, [], ◌∷◌}

-- ---- Ethernet and tags

-- "Tag types 0x8100, 0x88A8, 0x9100; IPv4 0x0800; IPv6 0x86DD."
abbrev pub tag_types : List ℕ
tag_types = 0x8100 ∷ 0x88A8 ∷ 0x9100 ∷ []

abbrev pub ipv4_type : ℕ
ipv4_type = 0x0800

abbrev pub ipv6_type : ℕ
ipv6_type = 0x86DD

-- "At most 3 tags."
abbrev pub tag_limit : ℕ
tag_limit = 3

-- ---- IP numbers

-- "hop-by-hop 0, routing 43, destination 60 .. fragment 44 .. AUTH 51"
abbrev pub hop_by_hop_number : ℕ
hop_by_hop_number = 0

abbrev pub routing_number : ℕ
routing_number = 43

abbrev pub destination_number : ℕ
destination_number = 60

abbrev pub fragment_number : ℕ
fragment_number = 44

abbrev pub auth_number : ℕ
auth_number = 51

-- "17 is UDP, 6 is TCP"
abbrev pub udp_number : ℕ
udp_number = 17

abbrev pub tcp_number : ℕ
tcp_number = 6

-- ---- least lengths, which are tested first

abbrev pub ethernet_length : ℕ
ethernet_length = 14

abbrev pub tag_length : ℕ
tag_length = 4

abbrev pub ipv4_length : ℕ
ipv4_length = 20

abbrev pub ipv6_length : ℕ
ipv6_length = 40

abbrev pub raw_length : ℕ
raw_length = 8

abbrev pub fragment_length : ℕ
fragment_length = 8

abbrev pub auth_length : ℕ
auth_length = 12

abbrev pub udp_header_length : ℕ
udp_header_length = 8

abbrev pub tcp_length : ℕ
tcp_length = 20

-- IHL and the TCP data offset: at least 5 words
abbrev pub least_words : ℕ
least_words = 5

-- ---- refusals: the table's column "No."

abbrev pub too_short : ℕ
too_short = 1

abbrev pub ipv4_version : ℕ
ipv4_version = 2

abbrev pub ihl_below5 : ℕ
ihl_below5 = 3

abbrev pub ipv6_version : ℕ
ipv6_version = 4

abbrev pub hop_by_hop_not_at_start : ℕ
hop_by_hop_not_at_start = 5

abbrev pub auth_length_zero : ℕ
auth_length_zero = 6

abbrev pub data_offset_below5 : ℕ
data_offset_below5 = 7

-- ---- stops: "1 EtherType not opened, 2 tags full, 3 fragment, 4 IP number not opened, 5 transport read"

abbrev pub ether_type_not_opened : ℕ
ether_type_not_opened = 1

abbrev pub tags_full : ℕ
tags_full = 2

abbrev pub fragmented : ℕ
fragmented = 3

abbrev pub ip_number_not_opened : ℕ
ip_number_not_opened = 4

abbrev pub transport_read : ℕ
transport_read = 5

-- ---- ours

-- how many IP headers a frame holds; request No. 12 raises it
abbrev pub ip_limit : ℕ
ip_limit = 1

-- how many numbers a header is where headers are written as numbers
abbrev pub header_words : ℕ
header_words = 3
