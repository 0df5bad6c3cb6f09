-- The net leg: an IP header of either version, and IPv4's one AUTH. Assumes nothing.
use Prim.Native.Nat.{ℕ, ◌+◌, ◌-◌, ◌≤◌}
use mathlib.Core.Path.{◌≡◌, refl, sym, ap, ◌∙◌}
use mathlib.Core.List.{List}
use mathlib.Core.Bool.{Bool, true, false}
use native.Mathlib.Omega.{arith}
use lib.ListN.{length}
use lib.Dec.{eqb}
use Rattle.rules.specs.declared.kind.Kind.TheVariants.{Ipv4, Auth}
use Rattle.rules.specs.declared.ip_number.IpNumber.{IpNumber}
use Rattle.rules.specs.declared.place.Header.{Header}
use Rattle.rules.specs.declared.place.Number.TheVariants.{Ip}
use Rattle.rules.specs.declared.place.Room.{Room}
use Rattle.rules.specs.declared.refusal.Row.{Row}
use Rattle.rules.specs.Bytes.{part}
use Rattle.rules.specs.Numbers.{auth_number}
use Rattle.rules.specs.Named.{kind_number}
use Rattle.rules.specs.Fields.{marking}
use Rattle.rules.specs.Rules.{rule}
use Rattle.rules.specs.Place.{place, room, follow}
use Rattle.laws.specs.Gather.{gather, rest_next}
use Rattle.laws.specs.Parts.{In}
use Rattle.headers.specs.declared.net.ExtHeader.{ExtHeader}
use Rattle.headers.specs.Says.{ip_says, ext_says}
use Rattle.one_header.specs.declared.ip.IpFound.{IpFound}
use Rattle.one_header.specs.declared.ip.IpKind.{IpKind}
use Rattle.one_header.specs.declared.ip.IpKind.TheVariants as I
use Rattle.one_header.specs.Turns.{ip_kind_of, sets_of, chain4_auth, chain4_plain}
use Rattle.one_header.specs.At.{Placed, here, refused, placing, over, setting}
use Rattle.one_header.specs.Header.{ip_header, ext_header}
use Rattle.slicer.specs.Reply.{Parts, refused_by, slice_way, with_net, ip_part}
use Rattle.slicer.specs.declared.net.ExtsFound.{ExtsFound}
use Rattle.slicer.specs.declared.room.RoomSlice.{RoomSlice}
use Rattle.slicer.specs.Legs.{on_turn, on_first, head_of, net_place, net_room, on_transport, ExtsDone}
use Rattle.slicer.proofs.ReadersAt.{Reads, made, whole_is, no, within, ipv4-read, ipv6-read, auth_read, back, toward}

-- ---- an IP header of either version

-- a header of kind k at the begin of the slice r, read in whatever packet it stands in
pub record IpRead (r : RoomSlice) (k : IpKind) (o : Placed IpFound) : Type 0 where
  pub reading : (t v i : ℕ) (m : Bool)
      → Reads r.frame.now (ip_kind_of k) r.at (room r.end t v i r.source m) (ip_header o (rule (ip_kind_of k)).version r.at (room r.end t v i r.source m))

-- what ip_at says of the bytes w
abbrev Said : List ℕ → IpKind → RoomSlice → Placed IpFound → Type 0
Said w k r o = (v : ℕ) → o ≡ placing (over (λ x. setting x (length w) (sets_of k) r.source) (ip_says (ip_kind_of k) v w)) r.at r.source

pub ip_answer : (r : RoomSlice) {o : Placed IpFound} (k : IpKind) → Said (part r.frame.now r.at r.end) k r o → IpRead r k o
ip_answer r I.Ipv4 e = record { reading = λ t v i m. ipv4-read (record { inside = r.ordered; room = r.inside }) (e v) }
ip_answer r I.Ipv6 e = record { reading = λ t v i m. ipv6-read (record { inside = r.ordered; room = r.inside }) (e v) }

-- the room that an IP header x of kind k at `at` leaves
abbrev pub inner : IpKind → ℕ → IpFound → Bool → (t i : ℕ) → Room
inner k at x mark t i = net_room (ip_kind_of k) (at + x.end) t i x.source mark

module _ (r : RoomSlice) {k : IpKind} {o : Placed IpFound} (h : IpRead r k o) where
  pub ip_short : {q : Row} → o ≡ refused q → (f : Parts) (t v i : ℕ) (m : Bool)
      → gather slice_way f r.frame.now (net_place (ip_kind_of k) r.at r.end t v i r.source m) ≡ refused_by q
  ip_short z f t v i m = no f (made (h.reading t v i m) (ap (λ y. ip_header y (rule (ip_kind_of k)).version r.at (room r.end t v i r.source m)) z))

  module _ {x : IpFound} (z : o ≡ here x) where
    ip_stood : (t v i : ℕ) (m : Bool)
        → Reads r.frame.now (ip_kind_of k) r.at (room r.end t v i r.source m) (ip_header (here x) (rule (ip_kind_of k)).version r.at (room r.end t v i r.source m))
    ip_stood t v i m = made (h.reading t v i m) (ap (λ y. ip_header y (rule (ip_kind_of k)).version r.at (room r.end t v i r.source m)) z)

    -- the header lies in the room that it sets, and that in the room around it
    pub ip_in : (r.at + x.len ≤ r.at + x.end) × (r.at + x.end ≤ r.end) × (r.end ≤ length r.frame.now)
    ip_in = let y = within (record { inside = r.ordered; room = r.inside }) (ip_stood 0 0 0 false) in (y.holds, y.inside, r.inside)

    -- its extensions begin behind it and end in its room, and that in the frame
    pub ip_ends : {begin : IpNumber} {mark : Bool} {y : ExtsFound}
        → ExtsDone r.frame.now (ip_kind_of k) begin (r.at + x.len) (r.at + x.end) x.source mark y
        → (r.at + x.len ≤ y.at) × (y.at ≤ r.at + x.end) × (r.at + x.end ≤ length r.frame.now)
    ip_ends w = (w.headed, w.inside, omega (arith, ip_in.1, ip_in.2))

    module _ {mark : Bool} (me : mark ≡ marking x.fragment false) where
      -- behind the header
      ip_on : (f : Parts) (t v i : ℕ) (m : Bool) → gather slice_way f r.frame.now (net_place (ip_kind_of k) r.at r.end t v i r.source m)
          ≡ on_first r.frame.now (ip_kind_of k) f (head_of (ip_kind_of k) r.at x.len) (r.at + x.len) (inner k r.at x mark t i) x.names
      unfolding on_turn
      ip_on f t v i m = behind k (ip_stood t v i m)
        where
          behind : (j : IpKind) → Reads r.frame.now (ip_kind_of j) r.at (room r.end t v i r.source m) (ip_header (here x) (rule (ip_kind_of j)).version r.at (room r.end t v i r.source m))
              → gather slice_way f r.frame.now (net_place (ip_kind_of j) r.at r.end t v i r.source m)
              ≡ on_first r.frame.now (ip_kind_of j) f (head_of (ip_kind_of j) r.at x.len) (r.at + x.len) (inner j r.at x mark t i) x.names
          behind I.Ipv4 y = whole_is f y ∙ rw me refl
          behind I.Ipv6 y = whole_is f y ∙ rw me refl

      pub ip_done : {kind : ℕ} {y : ExtsFound} → kind ≡ kind_number (ip_kind_of k) → ExtsDone r.frame.now (ip_kind_of k) x.names (r.at + x.len) (r.at + x.end) x.source mark y
          → (f : Parts) (t v i : ℕ) (m : Bool) → gather slice_way f r.frame.now (net_place (ip_kind_of k) r.at r.end t v i r.source m)
          ≡ on_transport r.frame.now (with_net f (ip_part (record { kind = kind; at = r.at; len = x.len }) (r.at + x.len) y.at y.mark)) (inner k r.at x y.mark t i) y.number y.at
      ip_done ke w f t v i m = rw ke (ip_on f t v i m ∙ w.left f _ t i)

      pub ip_stuck : {q : Row} → ((f : Parts) (g : Header) (t i : ℕ) → on_first r.frame.now (ip_kind_of k) f g (r.at + x.len) (inner k r.at x mark t i) x.names ≡ refused_by q)
          → (f : Parts) (t v i : ℕ) (m : Bool) → gather slice_way f r.frame.now (net_place (ip_kind_of k) r.at r.end t v i r.source m) ≡ refused_by q
      ip_stuck w f t v i m = ip_on f t v i m ∙ w f _ t i

-- ---- IPv4: no extension, or one AUTH

-- behind a header whose number is `begin`, where the slice r of its room is left
module _ (r : RoomSlice) (begin : IpNumber) (marked : Bool) {c : Bool} (ce : c ≡ eqb begin.0 auth_number) where
  pub auth_none : c ≡ false → ExtsDone r.frame.now Ipv4 begin r.at r.end r.source marked (record { at = r.at; number = begin; mark = marked })
  auth_none n = record {
    left = λ f h t i. toward r.frame.now (with_net f (ip_part h r.at r.at marked)) (net_room Ipv4 r.end t i r.source marked) r.at (Ip begin)
        (chain4_plain (net_room Ipv4 r.end t i r.source marked) begin.0 (sym ce ∙ n));
    headed = omega arith;
    inside = r.ordered;
  }

  module _ (n : c ≡ true) {o : Placed ExtHeader} (e : (v : ℕ) → o ≡ placing (ext_says Auth v (part r.frame.now r.at r.end)) r.at r.source) where
    framed : (t i : ℕ) → In r.frame.now r.at (net_room Ipv4 r.end t i r.source marked)
    framed t i = record { inside = r.ordered; room = r.inside }

    to_auth : (f : Parts) (h : Header) (t i : ℕ) → on_first r.frame.now Ipv4 f h r.at (net_room Ipv4 r.end t i r.source marked) begin
        ≡ gather slice_way (with_net f (ip_part h r.at r.at marked)) r.frame.now (place Auth r.at (net_room Ipv4 r.end t i r.source marked))
    unfolding on_turn follow
    to_auth f h t i =
        toward r.frame.now (with_net f (ip_part h r.at r.at marked)) (net_room Ipv4 r.end t i r.source marked) r.at (Ip begin)
        (chain4_auth (net_room Ipv4 r.end t i r.source marked) begin.0 (sym ce ∙ n))
        ∙ rest_next slice_way _ r.frame.now _

    auth_at : (y : Placed ExtHeader) (t i : ℕ) → o ≡ y
        → Reads r.frame.now Auth r.at (net_room Ipv4 r.end t i r.source marked) (ext_header y 4 (r.end - r.at) r.at (net_room Ipv4 r.end t i r.source marked))
    auth_at y t i z = made (auth_read (framed t i) (e 4)) (ap (λ q. ext_header q 4 (r.end - r.at) r.at (net_room Ipv4 r.end t i r.source marked)) z)

    pub auth_short : {q : Row} → o ≡ refused q → (f : Parts) (h : Header) (t i : ℕ)
        → on_first r.frame.now Ipv4 f h r.at (net_room Ipv4 r.end t i r.source marked) begin ≡ refused_by q
    auth_short {q} y f h t i = to_auth f h t i ∙ no _ (auth_at (refused q) t i y)

    module _ {x : ExtHeader} (z : o ≡ here x) where
      pub auth_in : r.at + x.len ≤ r.end
      auth_in = let y = within (framed 0 0) (auth_at (here x) 0 0 z) in omega (arith, y.holds, back r.ordered)

      pub auth_done : {told : Bool} → told ≡ marking x.fragment marked
          → ExtsDone r.frame.now Ipv4 begin r.at r.end r.source marked (record { at = r.at + x.len; number = x.names; mark = told })
      unfolding on_turn
      auth_done te = record {
        left = λ f h t i. to_auth f h t i ∙ whole_is _ (auth_at (here x) t i z) ∙ rw (te, back r.ordered) refl;
        headed = omega arith;
        inside = auth_in;
      }
