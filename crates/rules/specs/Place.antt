-- One header read at a place: the room that it leaves, its length, and what follows; or the row of its refusal.
use Rattle.std.specs.Prelude.{ℕ, ◌+◌, ◌-◌, List, Bool, false, not, length, eqb}
use Rattle.rules.specs.declared.entry.Entry.{Entry}
use Rattle.rules.specs.declared.entry.Entry.TheVariants as E
use Rattle.rules.specs.declared.kind.Kind.{Kind}
use Rattle.rules.specs.declared.kind.Kind.TheVariants.{Ethernet2, Vlan, Ipv4, Ipv6, HopByHop}
use Rattle.rules.specs.declared.kind.Layer.TheVariants.{Of}
use Rattle.rules.specs.declared.kind.RoomSource.{RoomSource}
use Rattle.rules.specs.declared.kind.RoomSource.TheVariants as S
use Rattle.rules.specs.declared.place.Number.{Number}
use Rattle.rules.specs.declared.place.Place.{Place}
use Rattle.rules.specs.declared.place.Room.{Room}
use Rattle.rules.specs.declared.refusal.Row.{Row}
use Rattle.rules.specs.declared.fragment.Fragment.{Fragment}
use Rattle.rules.specs.declared.stop.Ending.{Ending}
use Rattle.rules.specs.declared.turn.Turn.{Turn}
use Rattle.rules.specs.declared.turn.Turn.TheVariants.{Opens, Stops, LateHopByHop}
use Rattle.rules.specs.Bytes.{part}
use Rattle.rules.specs.Numbers.{hop_by_hop_not_at_start}
use Rattle.rules.specs.Named.{kind_number, stop_number}
use Rattle.rules.specs.Test.{pick, Verdict, whole, failed, judge, placed, other}
use Rattle.rules.specs.Fields.{marking}
use Rattle.rules.specs.Rules.{rule, seen, tests, length_of, declared_of, fragment_of, names_of, turn_of, payload_of}

-- ---- rooms

abbrev pub is_ip : Kind → Bool
is_ip k = not (eqb (rule k).version 0)

-- tags and IP headers held, a header of kind k itself included
abbrev pub tags_with : Kind → ℕ → ℕ
tags_with k n = pick (eqb (kind_number k) (kind_number Vlan)) (n + 1) n

abbrev pub ips_with : Kind → ℕ → ℕ
ips_with k n = pick (is_ip k) (n + 1) n

abbrev pub room : (end tags version ips : ℕ) → RoomSource → Bool → Room
room end tags version ips source mark = record { end = end; tags = tags; version = version; ips = ips; source = source; mark = mark }

-- the room of a header of kind k, itself counted, that stands in the room p
abbrev pub entered : Kind → Room → Room
entered k p = room p.end (tags_with k p.tags) p.version (ips_with k p.ips) p.source p.mark

-- the room that an IP header of a version sets, by its declared length d: "Room ends at total length"; of none, it keeps
-- the room's end and source: "Payload length 0: the room is all that follows"
-- `ROOM-4`, `ROOM-5`, `MARK-2`
abbrev pub set_by : (version d : ℕ) → Fragment → ℕ → Room → Room
set_by version d fragment at p =
    room (pick (eqb d 0) p.end (at + d)) p.tags version p.ips
    (pick (eqb d 0) p.source (pick (eqb version 4) S.Ipv4 S.Ipv6)) (marking fragment false)

-- "One fragmenting header marks the packet"
-- `MARK-3`
abbrev pub marked_by : Fragment → Room → Room
marked_by fragment p = room p.end p.tags p.version p.ips p.source (marking fragment p.mark)

-- the room that a header of kind k at `at`, in the room p, leaves to what follows
unfoldable pub leaves : Kind → (ℕ → ℕ) → ℕ → Room → Room
leaves k g at p =
    pick (is_ip k) (set_by (rule k).version (declared_of k g) (fragment_of k g) at p)
    (marked_by (fragment_of k g) p)

-- ---- what follows

-- why the walk stopped, the number that names the payload, and the payload's offset and length
pub record Stopped : Type 0 where
  pub why : ℕ
  pub number : Number
  pub at : ℕ
  pub len : ℕ

-- the code's ending on paper
abbrev pub ending_on_paper : Ending → Stopped
ending_on_paper e = record { why = stop_number e.stop; number = e.number; at = e.payload.at; len = e.payload.len }

pub data Follow : Type 0 where
  next : Place → Follow
  halt : Stopped → Follow
  wrong : Row → Follow

abbrev pub place : Kind → ℕ → Room → Place
place k at p = record { at = at; room = p; kind = k }

-- in the room p, at the offset `past`, by a turn, the number n and where the payload would end
unfoldable pub follow : Turn → Room → ℕ → Number → ℕ → Follow
follow (Opens k) p past n to = next (place k past (entered k p))
follow (Stops stop) p past n to = halt (record { why = stop_number stop; number = n; at = past; len = to - past })
follow LateHopByHop p past n to = wrong (placed (other hop_by_hop_not_at_start (Of HopByHop) 0) past p.source)

-- behind a header of kind k at `at` that showed the bytes g and left the room p
unfoldable pub follow_of : Kind → (ℕ → ℕ) → ℕ → Room → Follow
follow_of k g at p = follow (turn_of k g p) p (at + length_of k g) (names_of k g) (payload_of k g at p)

-- ---- one header read

-- a whole header: the room that it leaves, its length, and what follows
pub record Found : Type 0 where
  pub room : Room
  pub len : ℕ
  pub follow : Follow

pub data PlaceRead : Type 0 where
  reads : Found → PlaceRead
  refuses : Row → PlaceRead

abbrev pub settle : Verdict Found → ℕ → RoomSource → PlaceRead
settle (whole x) at source = reads x
settle (failed f) at source = refuses (placed f at source)

-- what a header of kind k, at an offset in a room, says by the bytes g
abbrev pub found_by : Kind → (ℕ → ℕ) → ℕ → Room → Found
found_by k g at p = record { room = leaves k g at p; len = length_of k g; follow = follow_of k g at (leaves k g at p) }

-- the bytes that decide, of the header at a place of the frame s
unfoldable pub bytes : List ℕ → Place → ℕ → ℕ
bytes s p = seen p.kind (part s p.at p.room.end)

-- the outcome of the tests at a place
unfoldable pub outcome : List ℕ → Place → Verdict Found
outcome s p =
    judge (tests p.kind p.room.version (bytes s p) (p.room.end - p.at))
    (found_by p.kind (bytes s p) p.at p.room)

unfoldable pub read : List ℕ → Place → PlaceRead
read s p = settle (outcome s p) p.at p.room.source

-- ---- where a walk begins

-- the first place of a frame whose first header is of kind k
-- `ENTRY-5`
unfoldable pub start : Kind → List ℕ → Place
start k s = place k 0 (entered k (room (length s) 0 0 0 S.Slice false))

-- how a frame opens, by its entry: "a whole Ethernet II frame, a packet known to be IPv4, and a packet known to be IPv6
-- (offsets then count from the packet's start)"
-- `ENTRY-1` to `ENTRY-3`
unfoldable pub opening : Entry → List ℕ → Follow
opening E.Ethernet s = next (start Ethernet2 s)
opening E.Ipv4 s = next (start Ipv4 s)
opening E.Ipv6 s = next (start Ipv6 s)
