-- Every part that a reply tells of an accepted frame lies in the frame: a caller may take its bytes unasked.
use Rattle.std.specs.Prelude.{ℕ, zero, suc, ◌+◌, ◌≤◌, ◌≡◌, refl, List, [], ◌∷◌, ◌++◌, Bool, length, Option, Some, None}
use Rattle.std.proofs.Common.{sym, subst, arith}
use Rattle.slicer.specs.declared.packet.IpPart.{IpPart}
use Rattle.rules.specs.declared.entry.Entry.{Entry}
use Rattle.rules.specs.declared.kind.Kind.{Kind}
use Rattle.rules.specs.declared.kind.Kind.TheVariants as K
use Rattle.rules.specs.declared.place.Header.{Header}
use Rattle.rules.specs.declared.place.Range.{Range}
use Rattle.rules.specs.Place.{Stopped}
use Rattle.rules.specs.Walk.{HeaderAt, header}
use Rattle.laws.specs.Gather.{listed}
use Rattle.slicer.specs.Reply.{Parts, nothing, no_header, put, extended, slots, slice_way, Reply, Ended, accepted, refused, reply_of}
use Rattle.chain.specs.Chain.{ChainOf, At, here, later}
use Rattle.chain.specs.Inside.{header_inside, payload_inside}
use Rattle.chain.specs.Given.{chain_reply}

-- ---- what lies inside n bytes

abbrev pub HeaderIn : ℕ → Header → Type 0
HeaderIn n h = h.at + h.len ≤ n

abbrev pub RangeIn : ℕ → Range → Type 0
RangeIn n x = x.at + x.len ≤ n

abbrev pub LinkIn : ℕ → Option Header → Type 0
LinkIn n None = Unit
LinkIn n (Some h) = HeaderIn n h

pub data AllIn (n : ℕ) : List Header → Type 0 where
  none : AllIn n []
  one : {h : Header} {l : List Header} → HeaderIn n h → AllIn n l → AllIn n (h ∷ l)

abbrev pub NetIn : ℕ → Option IpPart → Type 0
NetIn n None = Unit
NetIn n (Some i) = HeaderIn n i.header × RangeIn n i.exts

abbrev pub TransportIn : ℕ → Option Header → Type 0
TransportIn n None = Unit
TransportIn n (Some h) = HeaderIn n h

abbrev pub EndIn : ℕ → Ended → Type 0
EndIn n (accepted x) = x.at + x.len ≤ n
EndIn n (refused q) = Unit

-- of a reply: the link header, every slot of the tags, the IP header with its extensions, the transport header and the payload
pub record ReplyIn (n : ℕ) (r : Reply) : Type 0 where
  pub link : LinkIn n r.link
  pub tags : AllIn n r.tags
  pub net : NetIn n r.net
  pub transport : TransportIn n r.transport
  pub payload : EndIn n r.ended

-- ---- parts put together from headers that lie inside

record PartsIn (n : ℕ) (f : Parts) : Type 0 where
  link : LinkIn n f.link
  tags : AllIn n f.tags
  net : NetIn n f.net
  transport : TransportIn n f.transport

all_with : {n : ℕ} (h : Header) (l : List Header) → AllIn n l → HeaderIn n h → AllIn n (l ++ (h ∷ []))
all_with h [] none k = one {h = h} k none
all_with h (g ∷ l) (one i a) k = one {h = g} i (all_with h l a k)

net_extended : {n : ℕ} (f : Parts) (t : Option IpPart) (to : ℕ) (m : Bool) → f.net ≡ t → PartsIn n f → to ≤ n → PartsIn n (extended t f to m)
net_extended f None to m e p k = p
net_extended {n} f (Some i) to m e p k =
    let z = subst (NetIn n) e p.net in
    record { link = p.link; tags = p.tags; net = (z.0, omega (arith, z.1)); transport = p.transport }

put_inside : {n : ℕ} (k : Kind) (f : Parts) (e : HeaderAt) → PartsIn n f → e.at + e.len ≤ n → PartsIn n (put k f e)
put_inside K.Ethernet2 f e p h = record { link = h; tags = p.tags; net = p.net; transport = p.transport }
put_inside K.Vlan f e p h = record { link = p.link; tags = all_with (header e) f.tags p.tags h; net = p.net; transport = p.transport }
put_inside K.Ipv4 f e p h = record { link = p.link; tags = p.tags; net = (h, omega arith); transport = p.transport }
put_inside K.Ipv6 f e p h = record { link = p.link; tags = p.tags; net = (h, omega arith); transport = p.transport }
put_inside K.HopByHop f e p h = net_extended f f.net (e.at + e.len) e.room.mark refl p h
put_inside K.Routing f e p h = net_extended f f.net (e.at + e.len) e.room.mark refl p h
put_inside K.Destination f e p h = net_extended f f.net (e.at + e.len) e.room.mark refl p h
put_inside K.Fragment f e p h = net_extended f f.net (e.at + e.len) e.room.mark refl p h
put_inside K.Auth f e p h = net_extended f f.net (e.at + e.len) e.room.mark refl p h
put_inside K.Udp f e p h = record { link = p.link; tags = p.tags; net = p.net; transport = h }
put_inside K.Tcp f e p h = record { link = p.link; tags = p.tags; net = p.net; transport = h }

listed_inside : {n : ℕ} (f : Parts) (hs : List HeaderAt) → PartsIn n f → ((k : ℕ) (h : HeaderAt) → At hs k h → h.at + h.len ≤ n)
    → PartsIn n (listed slice_way f hs)
unfolding listed
listed_inside f [] p a = p
listed_inside f (e ∷ hs) p a = listed_inside (put e.kind f e) hs (put_inside e.kind f e p (a 0 e here)) (λ k h i. a (suc k) h (later i))

slots_inside : {n : ℕ} (m : ℕ) (l : List Header) → AllIn n l → AllIn n (slots m l)
unfolding slots
slots_inside zero l a = none
slots_inside (suc m) [] none = one {h = no_header} (omega arith) (slots_inside m [] none)
slots_inside (suc m) (h ∷ l) (one i a) = one {h = h} i (slots_inside m l a)

-- ---- of a frame with a chain

pub reply_inside : (e : Entry) (s : List ℕ) {hs : List HeaderAt} {x : Stopped} → ChainOf e s hs x → ReplyIn (length s) (reply_of e s)
reply_inside e s {hs} {x} c =
    let none_found : PartsIn (length s) nothing = record { link = tt; tags = none; net = tt; transport = tt } in
    let p = listed_inside nothing hs none_found (λ k h a. header_inside e s c a) in
    subst (ReplyIn (length s)) (sym (chain_reply e s c))
    (record { link = p.link; tags = slots_inside _ _ p.tags; net = p.net; transport = p.transport; payload = payload_inside e s c })
