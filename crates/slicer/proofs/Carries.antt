-- The transport leg. Assumes nothing.
use Prim.Native.Nat.{ℕ, ◌+◌, ◌-◌, ◌≤◌}
use mathlib.Core.Path.{◌≡◌, refl, sym, ap, ◌∙◌}
use Rattle.std.specs.Prelude.{None, Some}
use mathlib.Core.Bool.{Bool, true, false}
use native.Mathlib.Omega.{arith}
use lib.Dec.{eqb}
use borrow.Author.Tests.{eqb-true}
use Rattle.rules.specs.declared.ip_number.IpNumber.{IpNumber}
use Rattle.rules.specs.declared.kind.Kind.{Kind}
use Rattle.rules.specs.declared.kind.Kind.TheVariants.{Udp, Tcp}
use Rattle.rules.specs.declared.place.Number.TheVariants.{Ip}
use Rattle.rules.specs.declared.place.Room.{Room}
use Rattle.rules.specs.declared.refusal.Row.{Row}
use Rattle.rules.specs.declared.stop.Stop.{Stop}
use Rattle.rules.specs.declared.stop.Stop.TheVariants as Z
use Rattle.rules.specs.declared.turn.Turn.TheVariants.{Opens, Stops}
use Rattle.rules.specs.Bytes.{part}
use Rattle.rules.specs.Numbers.{udp_number, tcp_number}
use Rattle.rules.specs.Test.{pick}
use Rattle.rules.specs.Rules.{transport, tests_by}
use Rattle.rules.specs.Place.{place, entered, follow, ending_on_paper}
use Rattle.rules.specs.Walk.{HeaderAt, header}
use Rattle.laws.specs.Gather.{gather, rest_next, rest_halt}
use Rattle.laws.specs.Parts.{In, stands}
use Rattle.headers.specs.declared.transport.TransportHeader.{TransportHeader}
use Rattle.one_header.specs.declared.transport.TransportKind.{TransportKind}
use Rattle.one_header.specs.declared.transport.TransportKind.TheVariants as T
use Rattle.one_header.specs.declared.onward.Onward.{Onward}
use Rattle.one_header.specs.declared.onward.Onward.TheVariants as U
use Rattle.one_header.specs.Turns.{transport_kind_of, transport_turn_on_paper}
use Rattle.one_header.specs.At.{Placed, here, refused, placing, transport_says, here_whole}
use Rattle.one_header.specs.Header.{transport_header}
use Rattle.slicer.specs.declared.room.RoomSlice.{RoomSlice}
use Rattle.slicer.specs.Reply.{Parts, accepted_by, refused_by, slice_way, with_transport, put}
use Rattle.slicer.specs.Legs.{on_turn, net_room, on_transport, stopped_at, opened_at}
use Rattle.slicer.proofs.ReadersAt.{Reads, made, whole_is, no, number_by, transport_read, toward}

-- what a number leads to behind the extensions, as transport_turn promises it
abbrev Turned : Onward TransportKind → IpNumber → Bool → Type 0
Turned u number mark = (p : Room) → p.mark ≡ mark → transport_turn_on_paper u ≡ transport p number.0

-- only 17 opens UDP, only 6 TCP
udp-number : (p : Room) (n : ℕ) → transport p n ≡ Opens Udp → n ≡ udp_number
unfolding transport
udp-number p n e = go p.mark (eqb n udp_number) refl (eqb n tcp_number) e
  where
    go : (m a : Bool) → eqb n udp_number ≡ a → (b : Bool)
        → pick m (Stops Z.Fragment) (pick a (Opens Udp) (pick b (Opens Tcp) (Stops Z.IpNumberNotOpened))) ≡ Opens Udp → n ≡ udp_number
    go true a q b e = cc
    go false true q b e = eqb-true _ _ q
    go false false q true e = cc
    go false false q false e = cc

tcp-number : (p : Room) (n : ℕ) → transport p n ≡ Opens Tcp → n ≡ tcp_number
unfolding transport
tcp-number p n e = go p.mark (eqb n udp_number) (eqb n tcp_number) refl e
  where
    go : (m a b : Bool) → eqb n tcp_number ≡ b
        → pick m (Stops Z.Fragment) (pick a (Opens Udp) (pick b (Opens Tcp) (Stops Z.IpNumberNotOpened))) ≡ Opens Tcp → n ≡ tcp_number
    go true a b q e = cc
    go false true b q e = cc
    go false false true q e = eqb-true _ _ q
    go false false false q e = cc

-- the number of what a turn opens
opened-number : (k : TransportKind) (p : Room) (n : ℕ) → transport p n ≡ Opens (transport_kind_of k) → n ≡ number_by k
opened-number T.Udp p n e = udp-number p n e
opened-number T.Tcp p n e = tcp-number p n e

-- a transport header counts as no tag and no IP header, and is put by itself
entering : (k : TransportKind) (p : Room) → ◌≡◌ {A = Room} (entered (transport_kind_of k) p) p
entering T.Udp p = refl
entering T.Tcp p = refl

putting : (k : TransportKind) (f : Parts) (e : HeaderAt) → put (transport_kind_of k) f e ≡ with_transport f (Some (header e))
putting T.Udp f e = refl
putting T.Tcp f e = refl

module _ (r : RoomSlice) (named : IpNumber) (mark : Bool) {u : Onward TransportKind} (ue : Turned u named mark) where
  by_turn : {v : Onward TransportKind} → u ≡ v → (f : Parts) (j : Kind) (t i : ℕ) → on_transport r.frame.now f (net_room j r.end t i r.source mark) named r.at
      ≡ on_turn r.frame.now f (transport_turn_on_paper v) (net_room j r.end t i r.source mark) r.at (Ip named)
  by_turn q f j t i = toward r.frame.now f (net_room j r.end t i r.source mark) r.at (Ip named) (sym (ue (net_room j r.end t i r.source mark) refl) ∙ ap transport_turn_on_paper q)

  -- a stop, where nothing of the transport was found
  pub unopened : {stop : Stop} → u ≡ U.Stops stop → (f : Parts) (j : Kind) (t i : ℕ) → f.transport ≡ None
      → on_transport r.frame.now f (net_room j r.end t i r.source mark) named r.at
      ≡ accepted_by (with_transport f (stopped_at named r.at r.end stop).transport) (ending_on_paper (stopped_at named r.at r.end stop).ending)
  unfolding on_turn follow
  unopened q f j t i n = by_turn q f j t i ∙ rest_halt slice_way f r.frame.now _ ∙ rw (← n) refl

  module _ {k : TransportKind} (q : u ≡ U.Opens k)
      {o : Placed TransportHeader} (e : (v : ℕ) → o ≡ placing (transport_says k v (part r.frame.now r.at r.end)) r.at r.source) where
    framed : (j : Kind) (t i : ℕ) → In r.frame.now r.at (net_room j r.end t i r.source mark)
    framed j t i = record { inside = r.ordered; room = r.inside }

    opens : (f : Parts) (j : Kind) (t i : ℕ) → on_transport r.frame.now f (net_room j r.end t i r.source mark) named r.at
        ≡ gather slice_way f r.frame.now (place (transport_kind_of k) r.at (net_room j r.end t i r.source mark))
    unfolding on_turn follow
    opens f j t i =
        by_turn q f j t i ∙ rest_next slice_way f r.frame.now _
        ∙ ap (λ (p : Room). gather slice_way f r.frame.now (place (transport_kind_of k) r.at p)) (entering k (net_room j r.end t i r.source mark))

    at_it : (y : Placed TransportHeader) (j : Kind) (t i : ℕ) → o ≡ y
        → Reads r.frame.now (transport_kind_of k) r.at (net_room j r.end t i r.source mark) (transport_header y (number_by k) (r.end - r.at) r.at (net_room j r.end t i r.source mark))
    at_it y j t i z =
        made (transport_read (framed j t i) k (e _)) (ap (λ c. transport_header c (number_by k) (r.end - r.at) r.at (net_room j r.end t i r.source mark)) z)

    pub short : {g : Row} → o ≡ refused g → (f : Parts) (j : Kind) (t i : ℕ) → on_transport r.frame.now f (net_room j r.end t i r.source mark) named r.at ≡ refused_by g
    short {g} z f j t i = opens f j t i ∙ no f (at_it (refused g) j t i z)

    module _ {x : TransportHeader} (z : o ≡ here x) where
      pub inside : (x.len ≤ x.end) × (r.at + x.end ≤ r.end)
      unfolding tests_by
      inside = go k e
        where
          go : (k : TransportKind) → ((v : ℕ) → o ≡ placing (transport_says k v (part r.frame.now r.at r.end)) r.at r.source) → (x.len ≤ x.end) × (r.at + x.end ≤ r.end)
          go T.Udp e =
              let y = stands _ (framed Udp 0 0) (here_whole _ r.at r.source (sym z ∙ e 0)) in
              let d = y.0.passed in
              rw y.1 (omega arith, omega arith)
          go T.Tcp e =
              let y = stands _ (framed Tcp 0 0) (here_whole _ r.at r.source (sym z ∙ e 0)) in
              let d = y.0.passed in
              rw y.1 (omega arith, omega arith)

      pub on : (f : Parts) (j : Kind) (t i : ℕ) → on_transport r.frame.now f (net_room j r.end t i r.source mark) named r.at
          ≡ accepted_by (with_transport f (opened_at named (transport_kind_of k) r.at x).transport) (ending_on_paper (opened_at named (transport_kind_of k) r.at x).ending)
      unfolding follow
      on f j t i =
          let l : r.at + x.end - (r.at + x.len) ≡ x.end - x.len = omega arith in
          let m = opened-number k (net_room j r.end 0 0 r.source mark) named.0 (sym (ue _ refl) ∙ ap transport_turn_on_paper q) in
          opens f j t i ∙ whole_is f (at_it (here x) j t i z) ∙ rest_halt slice_way _ r.frame.now _ ∙ rw (putting k, l, ← m) refl
