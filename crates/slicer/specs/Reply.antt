-- Document 01's reply: what each header adds to it, and how the walk's end closes it.
use Rattle.std.specs.Prelude.{ℕ, zero, suc, ◌+◌, ◌-◌, List, [], ◌∷◌, ◌++◌, Bool, length, Option, None, Some, Result, Ok, Err}
use Rattle.rules.specs.declared.kind.Kind.{Kind}
use Rattle.rules.specs.declared.kind.Kind.TheVariants.{Ethernet2, Vlan, Ipv4, Ipv6, HopByHop, Routing, Destination, Fragment, Auth, Udp, Tcp}
use Rattle.rules.specs.declared.place.Header.{Header}
use Rattle.rules.specs.declared.place.Range.{Range}
use Rattle.rules.specs.declared.refusal.Refusal.{Refusal}
use Rattle.rules.specs.declared.refusal.Row.{Row}
use Rattle.rules.specs.declared.stop.Ending.{Ending}
use Rattle.rules.specs.Numbers.{tag_limit}
use Rattle.rules.specs.declared.kind.Layer.TheVariants.{Of}
use Rattle.rules.specs.Test.{row}
use Rattle.rules.specs.Paper.{refusal_on_paper}
use Rattle.rules.specs.Place.{Stopped, ending_on_paper}
use Rattle.rules.specs.declared.entry.Entry.{Entry}
use Rattle.rules.specs.Walk.{HeaderAt, header, slices}
use Rattle.laws.specs.Gather.{Way, gathered}
use Rattle.slicer.specs.declared.packet.IpPart.{IpPart}
use Rattle.slicer.specs.declared.packet.SlicedPacket.{SlicedPacket}

abbrev pub range : ℕ → ℕ → Range
range at len = record { at = at; len = len }

-- ---- what was found

pub record Parts : Type 0 where
  pub link : Option Header
  pub tags : List Header
  pub net : Option IpPart
  pub transport : Option Header

abbrev pub nothing : Parts
nothing = record { link = None; tags = []; net = None; transport = None }

abbrev pub with_link : Parts → Header → Parts
with_link f h = record { link = Some h; tags = f.tags; net = f.net; transport = f.transport }

abbrev pub with_tag : Parts → Header → Parts
with_tag f h = record { link = f.link; tags = f.tags ++ (h ∷ []); net = f.net; transport = f.transport }

abbrev pub with_net : Parts → IpPart → Parts
with_net f i = record { link = f.link; tags = f.tags; net = Some i; transport = f.transport }

abbrev pub with_transport : Parts → Option Header → Parts
with_transport f t = record { link = f.link; tags = f.tags; net = f.net; transport = t }

-- an IP header whose extensions end at `to`
abbrev pub ip_part : Header → ℕ → ℕ → Bool → IpPart
ip_part h from to mark = record { header = h; exts = range from (to - from); fragmented = mark }

-- an extension that ends at `to`, of the IP header found last
abbrev pub extended : Option IpPart → Parts → ℕ → Bool → Parts
extended None f to mark = f
extended (Some i) f to mark = with_net f (ip_part i.header i.exts.at to mark)

-- `REPLY-5`, `REPLY-6`
abbrev pub put_ip : Parts → HeaderAt → Parts
put_ip f e = with_net f (ip_part (header e) (e.at + e.len) (e.at + e.len) e.room.mark)

-- `REPLY-5`, `REPLY-6`
abbrev pub put_ext : Parts → HeaderAt → Parts
put_ext f e = extended f.net f (e.at + e.len) e.room.mark

-- `REPLY-1`
abbrev pub put : Kind → Parts → HeaderAt → Parts
put Ethernet2 f e = with_link f (header e)
put Vlan f e = with_tag f (header e)
put Ipv4 f e = put_ip f e
put Ipv6 f e = put_ip f e
put HopByHop f e = put_ext f e
put Routing f e = put_ext f e
put Destination f e = put_ext f e
put Fragment f e = put_ext f e
put Auth f e = put_ext f e
put Udp f e = with_transport f (Some (header e))
put Tcp f e = with_transport f (Some (header e))

-- ---- the reply on paper

pub data Ended : Type 0 where
  accepted : Stopped → Ended
  refused : Row → Ended

-- `REPLY-8`
pub record Reply : Type 0 where
  pub link : Option Header
  pub tags : List Header
  pub count : ℕ
  pub net : Option IpPart
  pub transport : Option Header
  pub ended : Ended

-- a slot with no header: no kind has the number 0
abbrev pub no_header : Header
no_header = record { kind = 0; at = 0; len = 0 }

-- a fixed number of slots, zeros behind the list
-- `REPLY-4`
unfoldable pub slots : ℕ → List Header → List Header
slots zero l = []
slots (suc n) [] = no_header ∷ slots n []
slots (suc n) (r ∷ l) = r ∷ slots n l

-- `REPLY-2`
abbrev pub accepted_by : Parts → Stopped → Reply
accepted_by f x = record { link = f.link; tags = slots tag_limit f.tags; count = length f.tags; net = f.net; transport = f.transport; ended = accepted x }

-- of a refused frame nothing else is told
-- `REPLY-7`
abbrev pub refused_by : Row → Reply
refused_by r = record { link = None; tags = slots tag_limit []; count = 0; net = None; transport = None; ended = refused r }

-- the reply is gathered so
abbrev pub slice_way : Way Parts Reply
slice_way = record { put = λ f e. put e.kind f e; done = accepted_by; bad = λ f r. refused_by r; never = refused_by (row 0 (Of Ethernet2) 0 []) }

-- what document 01 says of a frame, by its entry
unfoldable pub reply_of : Entry → List ℕ → Reply
reply_of e s = gathered slice_way nothing (slices e s)

-- ---- the code's reply on paper

abbrev pub outcome_on_paper : Result Ending Refusal → Ended
outcome_on_paper (Ok e) = accepted (ending_on_paper e)
outcome_on_paper (Err r) = refused (refusal_on_paper r)

abbrev pub packet_on_paper : Result SlicedPacket Refusal → Reply
packet_on_paper (Ok p) = record { link = p.link; tags = p.tags; count = p.count; net = p.net; transport = p.transport; ended = outcome_on_paper (Ok p.ending) }
packet_on_paper (Err r) = refused_by (refusal_on_paper r)
