-- "Each public answer is settled by its input alone": the public functions whose contract says `r ≡ value`, a statement each. The others are in
-- Settled.antt; docs/SETTLED.md lists all, and bin/settled holds the list against the sources.
use Rattle.std.specs.Prelude.{ℕ, ◌≡◌, Bool, List, eqb, Option, Result}
use Rattle.rules.specs.declared.entry.Entry.{Entry}
use Rattle.rules.specs.declared.fragment.Fragment.{Fragment}
use Rattle.rules.specs.declared.kind.Kind.{Kind}
use Rattle.rules.specs.declared.kind.Layer.{Layer}
use Rattle.rules.specs.declared.kind.RoomSource.{RoomSource}
use Rattle.rules.specs.declared.kind.Source.{Source}
use Rattle.rules.specs.declared.refusal.Bound.{Bound}
use Rattle.rules.specs.declared.refusal.Refusal.{Refusal}
use Rattle.rules.specs.declared.refusal.Row.{Row}
use Rattle.rules.specs.declared.stop.Stop.{Stop}
use Rattle.rules.specs.declared.stop.Stop.TheVariants as S
use Rattle.rules.specs.declared.turn.ChainPlace.{ChainPlace}
use Rattle.rules.specs.declared.turn.Turn.{Turn}
use Rattle.rules.specs.Bytes.{byte_at, number}
use Rattle.rules.specs.Fields.{fragment_by, marking}
use Rattle.rules.specs.Named.{kind_number, layer_number, source_number, stop_number}
use Rattle.rules.specs.Numbers.{auth_number}
use Rattle.rules.specs.Paper.{refusal_on_paper}
use Rattle.rules.specs.Test.{source_of, bound_by}
use Rattle.one_header.specs.declared.ext.ExtKind.{ExtKind}
use Rattle.one_header.specs.declared.ext.ExtTurn.{ExtTurn}
use Rattle.one_header.specs.declared.ip.IpKind.{IpKind}
use Rattle.one_header.specs.declared.link.LinkTurn.{LinkTurn}
use Rattle.one_header.specs.declared.transport.TransportKind.{TransportKind}
use Rattle.one_header.specs.declared.onward.Onward.{Onward}
use Rattle.one_header.specs.Turns.{ext_kind_of, ip_kind_of, sets_of, version_of, transport_kind_of, ext_turn, link_turn_on_paper, transport_turn_on_paper}
use Rattle.slicer.specs.declared.packet.IpPart.{IpPart}
use Rattle.steps.specs.declared.place.NoStep.{NoStep}
use Rattle.steps.specs.declared.place.NoStep.TheVariants as NS
use Rattle.steps.specs.Lists.{count_on_paper}
use Rattle.laws.specs.Zeros.{zeros}
use Rattle.checksum.specs.Sum.{add_slice, answer, without_zero}
use Rattle.tcp_options.specs.declared.answer.OptionRefusal.{OptionRefusal}
use Rattle.tcp_options.specs.declared.answer.TcpOption.{TcpOption}
use Rattle.tcp_options.specs.Paper.{option_on_paper}
use Rattle.tcp_options.specs.declared.answer.OptionRow.{OptionRow}
use Rattle.tcp_options.specs.declared.kind.OptionKind.{OptionKind}
use Rattle.tcp_options.specs.Options.{options, option_of, number_of}
use Rattle.tcp_options.specs.Paper.{kind_on_paper}
use Rattle.tcp_options.specs.Paper as O
use Rattle.printing.specs.Text.{text_of}
use Rattle.printing.specs.Put.{printed_in, printed_by}
use Rattle.exports.specs.declared.handed.Net.{Net}
use Rattle.exports.specs.declared.handed.Packet.{Packet}
use Rattle.exports.specs.declared.handed.HeaderReply.{HeaderReply}
use Rattle.exports.specs.declared.handed.CountReply.{CountReply}
use Rattle.exports.specs.declared.handed.OptionReply.{OptionReply}
use Rattle.exports.specs.Handed.{interface, entry_by, net_by, count_answer_by, slice_for, header_for, count_for, list_for, option_by}
use Rattle.chain.specs.Settled.{Settles, same_value}

-- the reason
by_value : {A : Type 0} (v : A) → Settles (λ (r : A). r ≡ v)
by_value v x y e f = same_value e f

-- ---- crate rules

pub kind-number : (self : Kind) → Settles (λ (r : ℕ). r ≡ kind_number self)
kind-number self = by_value (kind_number self)

pub layer-number : (self : Layer) → Settles (λ (r : ℕ). r ≡ layer_number self)
layer-number self = by_value (layer_number self)

pub source-number : (self : Source) → Settles (λ (r : ℕ). r ≡ source_number self)
source-number self = by_value (source_number self)

pub stop-number : (self : Stop) → Settles (λ (r : ℕ). r ≡ stop_number self)
stop-number self = by_value (stop_number self)

pub room_source : (self : RoomSource) → Settles (λ (r : Source). r ≡ source_of self)
room_source self = by_value (source_of self)

pub bound_source : (self : Bound) (room : RoomSource) → Settles (λ (r : Source). r ≡ bound_by self room)
bound_source self room = by_value (bound_by self room)

pub fragment-by : (offset more : ℕ) → Settles (λ (r : Fragment). r ≡ fragment_by offset more)
fragment-by offset more = by_value (fragment_by offset more)

pub fragment_marks : (self : Fragment) (marked : Bool) → Settles (λ (r : Bool). r ≡ marking self marked)
fragment_marks self marked = by_value (marking self marked)

pub refusal_row : (self : Refusal) → Settles (λ (r : Row). r ≡ refusal_on_paper self)
refusal_row self = by_value (refusal_on_paper self)

-- ---- crate big_endian

pub byte : (s : List ℕ) (at : ℕ) → Settles (λ (r : ℕ). r ≡ byte_at s at)
byte s at = by_value (byte_at s at)

pub be16 : (s : List ℕ) (at : ℕ) → Settles (λ (r : ℕ). r ≡ number 2 (byte_at s) at)
be16 s at = by_value (number 2 (byte_at s) at)

pub be32 : (s : List ℕ) (at : ℕ) → Settles (λ (r : ℕ). r ≡ number 4 (byte_at s) at)
be32 s at = by_value (number 4 (byte_at s) at)

-- ---- crate one_header

pub ext_kind : (self : ExtKind) → Settles (λ (r : Kind). r ≡ ext_kind_of self)
ext_kind self = by_value (ext_kind_of self)

pub ip_kind : (self : IpKind) → Settles (λ (r : Kind). r ≡ ip_kind_of self)
ip_kind self = by_value (ip_kind_of self)

pub ip_sets : (self : IpKind) → Settles (λ (r : RoomSource). r ≡ sets_of self)
ip_sets self = by_value (sets_of self)

pub ip_version : (self : IpKind) → Settles (λ (r : ℕ). r ≡ version_of self)
ip_version self = by_value (version_of self)

pub transport_kind : (self : TransportKind) → Settles (λ (r : Kind). r ≡ transport_kind_of self)
transport_kind self = by_value (transport_kind_of self)

pub link_turn_kind : (self : LinkTurn) → Settles (λ (r : Turn). r ≡ link_turn_on_paper self)
link_turn_kind self = by_value (link_turn_on_paper self)

pub transport_turn_kind : (self : Onward TransportKind) → Settles (λ (r : Turn). r ≡ transport_turn_on_paper self)
transport_turn_kind self = by_value (transport_turn_on_paper self)

pub ext-turn : (n : ℕ) (place : ChainPlace) → Settles (λ (r : ExtTurn). r ≡ ext_turn place n)
ext-turn n place = by_value (ext_turn place n)

pub opens_auth : (n : ℕ) → Settles (λ (r : Bool). r ≡ eqb n auth_number)
opens_auth n = by_value (eqb n auth_number)

pub stop_behind : Settles (λ (r : Stop). r ≡ S.TransportRead)
stop_behind = by_value (S.TransportRead)

-- ---- crate steps: a refusal as what keeps a step from being made, and what `clear` leaves in n lent numbers

pub no_step : (self : Refusal) → Settles (λ (r : NoStep). r ≡ NS.Refused self)
no_step self = by_value (NS.Refused self)

pub clear : (n : ℕ) → Settles (λ (after : List ℕ). after ≡ zeros n)
clear n = by_value (zeros n)

-- ---- crate tcp_options

pub option_kind_number : (self : OptionKind) → Settles (λ (r : ℕ). r ≡ number_of (kind_on_paper self))
option_kind_number self = by_value (number_of (kind_on_paper self))

pub option_refusal_row : (self : OptionRefusal) → Settles (λ (r : OptionRow). r ≡ O.refusal_on_paper self)
option_refusal_row self = by_value (O.refusal_on_paper self)

-- ---- crate printing: what is answered, and what is left in a buffer of n bytes

pub print : (entry : Entry) (s : List ℕ) (n : ℕ) → Settles (λ (r : Option ℕ). r ≡ printed_by (text_of entry s) n)
print entry s n = by_value (printed_by (text_of entry s) n)

pub print_left : (entry : Entry) (s : List ℕ) (n : ℕ) → Settles (λ (after : List ℕ). after ≡ printed_in (text_of entry s) n)
print_left entry s n = by_value (printed_in (text_of entry s) n)

-- ---- crates exports and exports_by_number

pub net_from : (ip : IpPart) → Settles (λ (r : Net). r ≡ net_by ip)
net_from ip = by_value (net_by ip)

pub count_reply_from : (counted : Result ℕ Refusal) → Settles (λ (r : CountReply). r ≡ count_answer_by (count_on_paper counted))
count_reply_from counted = by_value (count_answer_by (count_on_paper counted))

pub option_reply_from : (answer : Result (Option TcpOption) OptionRefusal) → Settles (λ (r : OptionReply). r ≡ option_by (option_on_paper answer))
option_reply_from answer = by_value (option_by (option_on_paper answer))

pub bhirkulom_interface : Settles (λ (r : ℕ). r ≡ interface)
bhirkulom_interface = by_value interface

pub bhirkulom_slice : (s : List ℕ) (entry : ℕ) → Settles (λ (r : Packet). r ≡ slice_for (entry_by entry) s)
bhirkulom_slice s entry = by_value (slice_for (entry_by entry) s)

pub bhirkulom_header : (s : List ℕ) (entry k : ℕ) → Settles (λ (r : HeaderReply). r ≡ header_for (entry_by entry) s k)
bhirkulom_header s entry k = by_value (header_for (entry_by entry) s k)

pub bhirkulom_count : (s : List ℕ) (entry : ℕ) → Settles (λ (r : CountReply). r ≡ count_for (entry_by entry) s)
bhirkulom_count s entry = by_value (count_for (entry_by entry) s)

-- its answer is that of bhirkulom_count; this is what it leaves in n lent numbers
pub bhirkulom_headers : (s : List ℕ) (entry k n : ℕ) → Settles (λ (after : List ℕ). after ≡ list_for (entry_by entry) s k n)
bhirkulom_headers s entry k n = by_value (list_for (entry_by entry) s k n)

pub bhirkulom_option : (s : List ℕ) (k : ℕ) → Settles (λ (r : OptionReply). r ≡ option_by (option_of (options s) k))
bhirkulom_option s k = by_value (option_by (option_of (options s) k))

pub bhirkulom_sum_add : (sum : ℕ) (s : List ℕ) → Settles (λ (r : ℕ). r ≡ add_slice sum s)
bhirkulom_sum_add sum s = by_value (add_slice sum s)

pub bhirkulom_sum_answer : (sum : ℕ) → Settles (λ (r : ℕ). r ≡ answer sum)
bhirkulom_sum_answer sum = by_value (answer sum)

pub bhirkulom_sum_answer_no_zero : (sum : ℕ) → Settles (λ (r : ℕ). r ≡ without_zero (answer sum))
bhirkulom_sum_answer_no_zero sum = by_value (without_zero (answer sum))
