-- What a caller may rely on when it takes bytes by an answer's offsets: headers, payload and refused offset lie in the frame, and
-- the stop's number is one of 1 to 5.
use Rattle.std.specs.Prelude.{ℕ, ◌≤◌, ◌+◌, ◌≡◌, refl, List, [], length}
use Rattle.std.proofs.Common.{arith}
use Rattle.rules.specs.declared.entry.Entry.{Entry}
use Rattle.rules.specs.declared.kind.Kind.{Kind}
use Rattle.rules.specs.declared.kind.Kind.TheVariants.{Ethernet2, Vlan, Ipv4, Ipv6, HopByHop, Routing, Destination, Fragment, Auth, Udp, Tcp}
use Rattle.rules.specs.declared.place.Place.{Place}
use Rattle.rules.specs.declared.place.Room.{Room}
use Rattle.rules.specs.declared.refusal.Row.{Row}
use Rattle.rules.specs.declared.stop.Stop.{Stop}
use Rattle.rules.specs.declared.stop.Stop.TheVariants as T
use Rattle.rules.specs.Named.{stop_number}
use Rattle.rules.specs.Test.{Failure, short, other, placed}
use Rattle.rules.specs.Rules.{payload_of, tests_by}
use Rattle.rules.specs.Place.{Follow, Stopped, leaves, bytes, opening}
use Rattle.rules.specs.Walk.{HeaderAt}
use Rattle.laws.specs.Kinds.{Passes}
use Rattle.laws.specs.Reads.{ahead}
use Rattle.laws.specs.Openings.{opening_begins, opening_offset}
use Rattle.chain.specs.Chain.{Chain, last, more, ChainFrom, opened, ChainOf, At, here, later}
use Rattle.chain.specs.Broken.{Broken, fails, late_hop, more as broken-more, BrokenFrom, opened as broken-opened, unopened, BrokenOf}
use Rattle.chain.specs.Walked.{one_next}

-- ---- headers

headers_inside : {s : List ℕ} {p : Place} {hs : List HeaderAt} {x : Stopped} {k : ℕ} {h : HeaderAt} → Chain s p hs x → At hs k h
    → h.at + h.len ≤ p.room.end
headers_inside (last h c) here = h.inside
headers_inside (last h c) (later a) = at_none a
  where
    at_none : {k : ℕ} {g : HeaderAt} {n : ℕ} → At [] k g → g.at + g.len ≤ n
    at_none a = elim a [ ]
headers_inside (more h l c) here = h.inside
headers_inside {s} (more {p} {q} h l c) (later a) =
    let z = ahead s p q h.passes (one_next l) in
    let y = headers_inside c a in
    omega arith

-- every header of a frame's chain lies whole in the frame
pub header_inside : (e : Entry) (s : List ℕ) {hs : List HeaderAt} {x : Stopped} {k : ℕ} {h : HeaderAt} → ChainOf e s hs x → At hs k h
    → h.at + h.len ≤ length s
header_inside e s {hs} {x} {k} {h} c a = go c refl
  where
    go : {f : Follow} → ChainFrom s f hs x → opening e s ≡ f → h.at + h.len ≤ length s
    go (opened c) q = omega (arith, headers_inside c a, (opening_begins e s q).whole_room)

-- ---- the payload

ends_inside : (k : Kind) (g : ℕ → ℕ) (at : ℕ) (p : Room) → Passes k g at p → payload_of k g at (leaves k g at p) ≤ (leaves k g at p).end
unfolding payload_of leaves tests_by
ends_inside Ethernet2 g at p h = omega arith
ends_inside Vlan g at p h = omega arith
ends_inside Ipv4 g at p h = omega arith
ends_inside Ipv6 g at p h = omega arith
ends_inside HopByHop g at p h = omega arith
ends_inside Routing g at p h = omega arith
ends_inside Destination g at p h = omega arith
ends_inside Fragment g at p h = omega arith
ends_inside Auth g at p h = omega arith
ends_inside Udp g at p h = omega arith
ends_inside Tcp g at p h = omega arith

payloads_inside : {s : List ℕ} {p : Place} {hs : List HeaderAt} {x : Stopped} → Chain s p hs x → x.at + x.len ≤ p.room.end
payloads_inside {s} (last {p} h c) =
    let y = ends_inside p.kind (bytes s p) p.at p.room h.passes in
    omega (arith, c.begins, c.len, h.holds, h.nested, h.inside)
payloads_inside {s} (more {p} {q} h l c) =
    let z = ahead s p q h.passes (one_next l) in
    let y = payloads_inside c in
    omega arith

-- the payload lies in the frame
pub payload_inside : (e : Entry) (s : List ℕ) {hs : List HeaderAt} {x : Stopped} → ChainOf e s hs x → x.at + x.len ≤ length s
payload_inside e s {hs} {x} c = go c refl
  where
    go : {f : Follow} → ChainFrom s f hs x → opening e s ≡ f → x.at + x.len ≤ length s
    go (opened c) q = omega (arith, payloads_inside c, (opening_begins e s q).whole_room)

-- ---- the offset of a refusal

offset_of : (f : Failure) (p : Place) → (placed f p.at p.room.source).offset ≡ p.at
offset_of (short layer required have bound) p = refl
offset_of (other n layer value) p = refl

offsets_inside : {s : List ℕ} {p : Place} {hs : List HeaderAt} {r : Row} → p.at ≤ p.room.end → Broken s p hs r → r.offset ≤ p.room.end
offsets_inside i (fails {p} {f} b) = omega (arith, offset_of f p)
offsets_inside i (late_hop h e) = h.inside
offsets_inside {s} i (broken-more {p} {q} h l b) =
    let z = ahead s p q h.passes (one_next l) in
    let y = offsets_inside z.room b in
    omega arith

-- a refusal's offset is one of the frame, or its end, where the header that was asked for has no byte at all
pub offset_inside : (e : Entry) (s : List ℕ) {hs : List HeaderAt} {r : Row} → BrokenOf e s hs r → r.offset ≤ length s
offset_inside e s b = go b refl
  where
    go : {f : Follow} {hs : List HeaderAt} {r : Row} → BrokenFrom s f hs r → opening e s ≡ f → r.offset ≤ length s
    go (broken-opened {p} b) q =
        let z = opening_begins e s q in
        omega (arith, offsets_inside {p = p} (omega (arith, z.at_0)) b, z.whole_room)
    go unopened q = opening_offset e s q

-- ---- the stop's number

stop_numbered : (stop : Stop) → (1 ≤ stop_number stop) × (stop_number stop ≤ 5)
stop_numbered T.EtherTypeNotOpened = omega arith
stop_numbered T.TagsFull = omega arith
stop_numbered T.Fragment = omega arith
stop_numbered T.IpNumberNotOpened = omega arith
stop_numbered T.TransportRead = omega arith

-- "the list stops where the rules give a numbered stop"
pub numbered_stop : {s : List ℕ} {p : Place} {hs : List HeaderAt} {x : Stopped} → Chain s p hs x → (1 ≤ x.why) × (x.why ≤ 5)
numbered_stop (last h c) = let z = stop_numbered c.stop in omega (arith, c.why)
numbered_stop (more h l c) = numbered_stop c
