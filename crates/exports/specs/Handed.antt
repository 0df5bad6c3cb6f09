-- What each answer is on the other side of the boundary: a status, and document 01's numbers.
use Rattle.std.specs.Prelude.{ℕ, List, [], ◌∷◌, map, Bool, true, false, eqb, Option, Some, None}
use Rattle.rules.specs.declared.entry.Entry.{Entry}
use Rattle.rules.specs.declared.entry.Entry.TheVariants as E
use Rattle.rules.specs.declared.place.Header.{Header}
use Rattle.rules.specs.declared.place.Number.{Number}
use Rattle.rules.specs.declared.place.Number.TheVariants as M
use Rattle.rules.specs.declared.place.Range.{Range}
use Rattle.rules.specs.declared.refusal.Row.{Row}
use Rattle.rules.specs.Numbers.{tag_limit}
use Rattle.rules.specs.Test.{pick}
use Rattle.rules.specs.Place.{Stopped}
use Rattle.rules.specs.Walk.{Answer, is, no-more, refusal, header_of, count_of, slices}
use Rattle.slicer.specs.declared.packet.IpPart.{IpPart}
use Rattle.slicer.specs.declared.packet.SlicedPacket.{SlicedPacket}
use Rattle.slicer.specs.Reply.{range, Reply, Ended, accepted, refused, reply_of, no_header, slots}
use Rattle.laws.specs.Zeros.{zeros}
use Rattle.steps.specs.Lists.{list_of}
use Rattle.tcp_options.specs.declared.answer.OptionRow.{OptionRow}
use Rattle.tcp_options.specs.Options as O
use Rattle.exports.specs.declared.handed.Net.{Net}
use Rattle.exports.specs.declared.handed.Packet.{Packet}
use Rattle.exports.specs.declared.handed.HeaderReply.{HeaderReply}
use Rattle.exports.specs.declared.handed.CountReply.{CountReply}
use Rattle.exports.specs.declared.handed.OptionReply.{OptionReply}

-- ---- the interface's version, statuses, and entries by number

-- `EXP-11`
abbrev pub interface : ℕ
interface = 2

-- the frame is accepted, or what was asked for is there
abbrev pub there : ℕ
there = 0

-- "no more"
abbrev pub no_more : ℕ
no_more = 1

abbrev pub is_refused : ℕ
is_refused = 2

-- no entry has the number given
abbrev pub no_such_entry : ℕ
no_such_entry = 3

-- "Entries: a whole Ethernet II frame, a packet known to be IPv4, and a packet known to be IPv6", numbered in that order from 1
-- `EXP-1`
abbrev pub entry_by : ℕ → Option Entry
entry_by n = pick (eqb n 1) (Some E.Ethernet) (pick (eqb n 2) (Some E.Ipv4) (pick (eqb n 3) (Some E.Ipv6) None))

-- ---- parts

abbrev pub range_of : Header → Range
range_of h = range h.at h.len

abbrev pub header_or_none : Option Header → Header
header_or_none None = no_header
header_or_none (Some h) = h

abbrev pub no_net : Net
no_net = record { header = no_header; exts = range 0 0; fragmented = false }

abbrev pub net_by : IpPart → Net
net_by i = record { header = i.header; exts = i.exts; fragmented = i.fragmented }

abbrev pub net_of : Option IpPart → Net
net_of None = no_net
net_of (Some i) = net_by i

abbrev pub number_of : Number → ℕ
number_of (M.Link t) = t.0
number_of (M.Ip n) = n.0

-- which number that is: an EtherType, or an IP number
-- `EXP-4`
abbrev pub numbering_of : Number → ℕ
numbering_of (M.Link t) = 1
numbering_of (M.Ip n) = 2

abbrev pub no_row : Row
no_row = record { number = 0; layer = 0; offset = 0; values = 0 ∷ 0 ∷ 0 ∷ [] }

-- ---- the reply to a frame

-- how the walk ended: what of a packet is no part of the frame
pub record End : Type 0 where
  pub status : ℕ
  pub payload : Range
  pub number : ℕ
  pub numbering : ℕ
  pub stop : ℕ
  pub refusal : Row

-- no walk was accepted
abbrev pub unread : ℕ → Row → End
unread status row = record { status = status; payload = range 0 0; number = 0; numbering = 0; stop = 0; refusal = row }

abbrev pub end_of : Ended → End
end_of (accepted x) = record {
  status = there;
  payload = range x.at x.len;
  number = number_of x.number;
  numbering = numbering_of x.number;
  stop = x.why;
  refusal = no_row;
}
end_of (refused q) = unread is_refused q

abbrev pub packet : Header → ℕ → List Header → Net → Header → End → Packet
packet link count tags net transport end = record {
  status = end.status;
  link = link;
  count = count;
  tags = map range_of tags;
  net = net;
  transport = transport;
  payload = end.payload;
  number = end.number;
  numbering = end.numbering;
  stop = end.stop;
  refusal = end.refusal;
}

abbrev pub packet_by : Reply → Packet
packet_by r = packet (header_or_none r.link) r.count r.tags (net_of r.net) (header_or_none r.transport) (end_of r.ended)

-- the packet of an accepted frame, its IP header handed over as n
abbrev pub accepted_with : SlicedPacket → Net → Stopped → Packet
accepted_with p n x = packet (header_or_none p.link) p.count p.tags n (header_or_none p.transport) (end_of (accepted x))

abbrev pub no_parts : End → Packet
no_parts end = packet no_header 0 (slots tag_limit []) no_net no_header end

abbrev pub slice_for : Option Entry → List ℕ → Packet
slice_for (Some e) s = packet_by (reply_of e s)
slice_for None s = no_parts (unread no_such_entry no_row)

-- ---- header k, and the count

abbrev pub header_reply : ℕ → Header → Row → HeaderReply
header_reply status header row = record { status = status; header = header; refusal = row }

abbrev pub header_by : Answer Header → HeaderReply
header_by (is h) = header_reply there h no_row
header_by no-more = header_reply no_more no_header no_row
header_by (refusal q) = header_reply is_refused no_header q

abbrev pub header_for : Option Entry → List ℕ → ℕ → HeaderReply
header_for (Some e) s k = header_by (header_of (slices e s) k)
header_for None s k = header_reply no_such_entry no_header no_row

abbrev pub count_reply : ℕ → ℕ → Row → CountReply
count_reply status count row = record { status = status; count = count; refusal = row }

abbrev pub count_answer_by : Answer ℕ → CountReply
count_answer_by (is n) = count_reply there n no_row
count_answer_by no-more = count_reply no_more 0 no_row
count_answer_by (refusal q) = count_reply is_refused 0 q

abbrev pub count_for : Option Entry → List ℕ → CountReply
count_for (Some e) s = count_answer_by (count_of (slices e s))
count_for None s = count_reply no_such_entry 0 no_row

-- n numbers lent for a list of headers, with the headers from number k on, and zeros
abbrev pub list_for : Option Entry → List ℕ → (k n : ℕ) → List ℕ
list_for (Some e) s k n = list_of (slices e s) k n
list_for None s k n = zeros n

-- ---- option k

abbrev pub is_known : O.Kind → Bool
is_known (O.known n) = true
is_known (O.unknown n) = false

abbrev pub no_option_row : OptionRow
no_option_row = record { number = 0; offset = 0 }

abbrev pub option_reply : (status kind at len : ℕ) → OptionRow → Bool → OptionReply
option_reply status kind at len row known = record { status = status; kind = kind; at = at; len = len; refusal = row; known = known }

abbrev pub option_by : O.Answer → OptionReply
option_by (O.is o) = option_reply there (O.number_of o.kind) o.at o.size no_option_row (is_known o.kind)
option_by O.no-more = option_reply no_more 0 0 0 no_option_row false
option_by (O.refusal r) = option_reply is_refused 0 0 0 r false
