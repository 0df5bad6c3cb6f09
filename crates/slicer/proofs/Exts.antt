-- The loop over the extensions of an IPv6 header. Assumes nothing.
use Prim.Native.Nat.{ℕ, ◌+◌, ◌-◌, ◌≤◌}
use mathlib.Core.Path.{◌≡◌, refl, sym, ap, ◌∙◌}
use mathlib.Core.List.{List, [], ◌∷◌}
use mathlib.Core.Bool.{Bool}
use native.Mathlib.Omega.{arith}
use lib.ListN.{length}
use Rattle.rules.specs.declared.ip_number.IpNumber.{IpNumber}
use Rattle.rules.specs.declared.kind.Kind.TheVariants.{Ipv6, HopByHop}
use Rattle.rules.specs.declared.kind.Layer.TheVariants.{Of}
use Rattle.rules.specs.declared.kind.RoomSource.{RoomSource}
use Rattle.rules.specs.declared.place.Header.{Header}
use Rattle.rules.specs.declared.place.Number.TheVariants.{Ip}
use Rattle.rules.specs.declared.place.Room.{Room}
use Rattle.rules.specs.declared.refusal.Row.{Row}
use Rattle.rules.specs.declared.turn.ChainPlace.{ChainPlace}
use Rattle.rules.specs.declared.turn.ChainPlace.TheVariants.{Directly, Later}
use Rattle.rules.specs.Bytes.{part}
use Rattle.rules.specs.Numbers.{hop_by_hop_not_at_start}
use Rattle.rules.specs.Test.{row}
use Rattle.rules.specs.Fields.{marking}
use Rattle.rules.specs.Rules.{transport}
use Rattle.rules.specs.Place.{place, entered, follow}
use Rattle.rules.specs.Walk.{HeaderAt}
use Rattle.laws.specs.Gather.{gather, rest_next, rest_wrong}
use Rattle.laws.specs.Parts.{In}
use Rattle.headers.specs.declared.net.ExtHeader.{ExtHeader}
use Rattle.headers.specs.Says.{ext_says}
use Rattle.one_header.specs.declared.ext.ExtKind.{ExtKind}
use Rattle.one_header.specs.declared.ext.ExtKind.TheVariants as X
use Rattle.one_header.specs.declared.ext.ExtTurn.{ExtTurn}
use Rattle.one_header.specs.declared.ext.ExtTurn.TheVariants as T
use Rattle.one_header.specs.Turns.{ext_kind_of, ext_turn, turn_by, chain6_is}
use Rattle.one_header.specs.At.{Placed, here, refused, placing}
use Rattle.one_header.specs.Header.{ext_header}
use Rattle.slicer.specs.Reply.{Parts, refused_by, slice_way, with_net, ip_part, put_ext, put}
use Rattle.slicer.specs.Legs.{on_turn, net_room, on_chain, ExtsDone}
use Rattle.slicer.proofs.ReadersAt.{Reads, made, whole_is, no, within, ext_read, back, toward}

-- what was found with the extensions of the IP header h up to `at`
abbrev extended : Parts → Header → (from at : ℕ) → Bool → Parts
extended f h from at mark = with_net f (ip_part h from at mark)

-- an extension counts as no tag and no IP header
entering : (k : ExtKind) (p : Room) → ◌≡◌ {A = Room} (entered (ext_kind_of k) p) p
entering X.HopByHop p = refl
entering X.Routing p = refl
entering X.Destination p = refl
entering X.Fragment p = refl
entering X.Auth p = refl

-- every extension is put behind the IP header that was found
putting : (k : ExtKind) (f : Parts) (e : HeaderAt) → put (ext_kind_of k) f e ≡ put_ext f e
putting X.HopByHop f e = refl
putting X.Routing f e = refl
putting X.Destination f e = refl
putting X.Fragment f e = refl
putting X.Auth f e = refl

-- ---- the loop

-- from the number `begin` at `from` the loop has come to a number and an offset
pub record Along (s : List ℕ) (begin : IpNumber) (from end : ℕ) (source : RoomSource) (marked : Bool)
    (number : IpNumber) (at : ℕ) (mark : Bool) (chain : ChainPlace) : Type 0 where
  pub headed : from ≤ at
  pub inside : at ≤ end
  pub room : end ≤ length s
  pub left : (f : Parts) (h : Header) (t i : ℕ) → on_chain s Directly f h from (net_room Ipv6 end t i source marked) begin from
      ≡ on_chain s chain f h from (net_room Ipv6 end t i source mark) number at

module _ {s : List ℕ} {begin : IpNumber} {from end : ℕ} {source : RoomSource} {marked : Bool} {number : IpNumber} {at : ℕ} {mark : Bool} {chain : ChainPlace}
    (w : Along s begin from end source marked number at mark chain) (u : ExtTurn) (ue : u ≡ ext_turn chain number.0) where
  -- the reply by what the number leads to
  by_turn : (f : Parts) (h : Header) (t i : ℕ) → on_chain s Directly f h from (net_room Ipv6 end t i source marked) begin from
      ≡ on_turn s (extended f h from at mark) (turn_by u (transport (net_room Ipv6 end t i source mark) number.0)) (net_room Ipv6 end t i source mark) at (Ip number)
  by_turn f h t i =
      w.left f h t i
      ∙ toward s (extended f h from at mark) (net_room Ipv6 end t i source mark) at (Ip number)
      (chain6_is chain _ _ ∙ ap (λ (v : ExtTurn). turn_by v (transport (net_room Ipv6 end t i source mark) number.0)) (sym ue))

  -- the same, where the turn is known
  known : {v : ExtTurn} → u ≡ v → (f : Parts) (h : Header) (t i : ℕ) → on_chain s Directly f h from (net_room Ipv6 end t i source marked) begin from
      ≡ on_turn s (extended f h from at mark) (turn_by v (transport (net_room Ipv6 end t i source mark) number.0)) (net_room Ipv6 end t i source mark) at (Ip number)
  known q f h t i =
      by_turn f h t i
      ∙ toward s (extended f h from at mark) (net_room Ipv6 end t i source mark) at (Ip number)
      (ap (λ (v : ExtTurn). turn_by v (transport (net_room Ipv6 end t i source mark) number.0)) q)

  pub along_late : u ≡ T.LateHopByHop → (f : Parts) (h : Header) (t i : ℕ)
      → on_chain s Directly f h from (net_room Ipv6 end t i source marked) begin from ≡ refused_by (row hop_by_hop_not_at_start (Of HopByHop) at (0 ∷ 0 ∷ 0 ∷ []))
  unfolding on_turn follow
  along_late q f h t i = known q f h t i ∙ rest_wrong slice_way _ s _

  pub along-ends : u ≡ T.Ends → ExtsDone s Ipv6 begin from end source marked (record { at = at; number = number; mark = mark })
  along-ends q = record { left = known q; headed = w.headed; inside = w.inside }

  module _ (k : ExtKind) (q : u ≡ T.Opens k) {o : Placed ExtHeader} (e : (v : ℕ) → o ≡ placing (ext_says (ext_kind_of k) v (part s at end)) at source) where
    framed : (t i : ℕ) → In s at (net_room Ipv6 end t i source mark)
    framed t i = record { inside = w.inside; room = w.room }

    opened : (f : Parts) (h : Header) (t i : ℕ) → on_chain s Directly f h from (net_room Ipv6 end t i source marked) begin from
        ≡ gather slice_way (extended f h from at mark) s (place (ext_kind_of k) at (net_room Ipv6 end t i source mark))
    unfolding on_turn follow
    opened f h t i =
        known q f h t i ∙ rest_next slice_way _ s _ ∙ ap (λ (p : Room). gather slice_way (extended f h from at mark) s (place (ext_kind_of k) at p)) (entering k _)

    ext_at : (y : Placed ExtHeader) (t i : ℕ) → o ≡ y
        → Reads s (ext_kind_of k) at (net_room Ipv6 end t i source mark) (ext_header y 6 (end - at) at (net_room Ipv6 end t i source mark))
    ext_at y t i r = made (ext_read (framed t i) k refl (e 6)) (ap (λ c. ext_header c 6 (end - at) at (net_room Ipv6 end t i source mark)) r)

    pub along-short : {r : Row} → o ≡ refused r → (f : Parts) (h : Header) (t i : ℕ)
        → on_chain s Directly f h from (net_room Ipv6 end t i source marked) begin from ≡ refused_by r
    along-short {r} z f h t i = opened f h t i ∙ no _ (ext_at (refused r) t i z)

    module _ {x : ExtHeader} (z : o ≡ here x) where
      pub along_ahead : (4 ≤ x.len) × (at + x.len ≤ end)
      along_ahead = let b = within (framed 0 0) (ext_at (here x) 0 0 z) in (b.some, omega (arith, b.holds, back w.inside))

      pub along_on : {m : Bool} → m ≡ marking x.fragment mark → Along s begin from end source marked x.names (at + x.len) m Later
      unfolding on_turn
      along_on me =
          let y = along_ahead in
          record {
            headed = omega (arith, w.headed);
            inside = y.1;
            room = w.room;
            left = λ f h t i. opened f h t i ∙ whole_is _ (ext_at (here x) t i z) ∙ rw (putting k, me, back w.inside) refl;
          }

pub along_first : (s : List ℕ) (begin : IpNumber) (from end : ℕ) (source : RoomSource) (marked : Bool) → from ≤ end → end ≤ length s
    → Along s begin from end source marked begin from marked Directly
along_first s begin from end source marked a b = record { headed = omega arith; inside = a; room = b; left = λ f h t i. refl }
