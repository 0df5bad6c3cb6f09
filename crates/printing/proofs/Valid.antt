-- Every place that a walk comes to is one that `steps::next` takes. Assumes nothing.
use Prim.Native.Nat.{ℕ, ◌≤◌}
use mathlib.Core.Path.{◌≡◌, refl, sym, ap, subst, ◌∙◌}
use mathlib.Core.List.{List}
use mathlib.Core.Bool.{Bool, true, false}
use native.Mathlib.Omega.{arith}
use lib.ListN.{length}
use lib.Dec.{eqb, ltb}
use borrow.Author.Tests.{ltb-true, le-leb}
use Rattle.rules.specs.declared.entry.Entry.{Entry}
use Rattle.rules.specs.declared.entry.Entry.TheVariants as E
use Rattle.rules.specs.declared.kind.Kind.{Kind}
use Rattle.rules.specs.declared.kind.Kind.TheVariants.{Ethernet2, Vlan, Ipv4, Ipv6, Auth, Udp, Tcp}
use Rattle.rules.specs.declared.place.Place.{Place}
use Rattle.rules.specs.declared.place.Room.{Room}
use Rattle.rules.specs.declared.turn.ChainPlace.{ChainPlace}
use Rattle.rules.specs.declared.turn.ChainPlace.TheVariants.{Directly, Later}
use Rattle.rules.specs.declared.turn.Turn.{Turn}
use Rattle.rules.specs.declared.turn.Turn.TheVariants.{Opens, Stops, LateHopByHop}
use Rattle.rules.specs.declared.stop.Stop.{Stop}
use Rattle.rules.specs.declared.stop.Stop.TheVariants as S
use Rattle.rules.specs.Bytes.{number}
use Rattle.rules.specs.Numbers as N
use Rattle.rules.specs.Test.{pick}
use Rattle.rules.specs.Rules.{rule, is_tag, link, transport, chain4, hop_by_hop, chain6, declared_of, fragment_of, turn_of}
use Rattle.rules.specs.Place.{is_ip, tags_with, ips_with, set_by, marked_by, leaves, next, follow_of, Found, reads, read, bytes, start, opening}
use Rattle.laws.specs.Reads.{parts, onto, goes}
use Rattle.steps.specs.Places.{step_says, steps}
use Rattle.printing.specs.Clash.{clash}

-- a link header stands before any IP header
abbrev BeforeIp : Kind → ℕ → Type 0
BeforeIp Ethernet2 n = n ≡ 0
BeforeIp Vlan n = n ≡ 0
BeforeIp k n = Unit

pub record Valid (s : List ℕ) (p : Place) : Type 0 where
  pub room_in : p.room.end ≤ length s
  pub inside : p.at ≤ p.room.end
  pub tags : p.room.tags ≤ N.tag_limit
  pub ips : p.room.ips ≤ N.ip_limit
  pub before : BeforeIp p.kind p.room.ips

-- so `next` reads the header there
pub says : {s : List ℕ} {p : Place} → Valid s p → step_says s p ≡ steps (read s p)
unfolding step_says
says v = rw (le-leb _ _ v.room_in, le-leb _ _ v.inside, le-leb _ _ v.tags, le-leb _ _ v.ips) refl

-- the first place, which is at a header of one of three kinds
begun : {s : List ℕ} {p : Place} (q : Place) → next p ≡ next q → Valid s q → Valid s p
begun {s} {p} q e v = let z : q ≡ p = cc in subst (Valid s) z v

pub valid_first : (e : Entry) (s : List ℕ) {p : Place} → next p ≡ opening e s → Valid s p
unfolding opening start
valid_first E.Ethernet s q = begun (start Ethernet2 s) q (omega arith)
valid_first E.Ipv4 s q = begun (start Ipv4 s) q (omega arith)
valid_first E.Ipv6 s q = begun (start Ipv6 s) q (omega arith)

-- ---- what a turn opens

-- it opens no more tags and IP headers than a frame may hold
data Few (p : Room) : Turn → Type 0 where
  opens : {k : Kind} → tags_with k p.tags ≤ N.tag_limit → ips_with k p.ips ≤ N.ip_limit → BeforeIp k (ips_with k p.ips) → Few p (Opens k)
  stopping : {w : Stop} → Few p (Stops w)
  refusing : Few p LateHopByHop

pick_few : {p : Room} (b : Bool) {t u : Turn} → Few p t → Few p u → Few p (pick b t u)
pick_few true a b = a
pick_few false a b = b

module _ (p : Room) (tags : p.tags ≤ N.tag_limit) where
  link_few : (n : ℕ) → p.ips ≡ 0 → Few p (link p n)
  unfolding link
  link_few n z =
      pick_few (is_tag n) (go (ltb p.tags N.tag_limit) refl)
      (pick_few (eqb n N.ipv4_type) (opens {k = Ipv4} tags (omega arith) tt) (pick_few (eqb n N.ipv6_type) (opens {k = Ipv6} tags (omega arith) tt) stopping))
    where
      go : (b : Bool) → ltb p.tags N.tag_limit ≡ b → Few p (pick b (Opens Vlan) (Stops S.TagsFull))
      go true e = let y = ltb-true p.tags N.tag_limit e in opens {k = Vlan} (omega arith) (omega arith) z
      go false e = stopping

  module _ (ips : p.ips ≤ N.ip_limit) where
    transport_few : (n : ℕ) → Few p (transport p n)
    unfolding transport
    transport_few n =
        pick_few p.mark stopping
        (pick_few (eqb n N.udp_number) (opens tags ips tt) (pick_few (eqb n N.tcp_number) (opens tags ips tt) stopping))

    early : (at : ChainPlace) → Few p (hop_by_hop at)
    early Directly = opens tags ips tt
    early Later = refusing

    chain6_few : (at : ChainPlace) (n : ℕ) → Few p (chain6 at p n)
    unfolding chain6
    chain6_few at n =
        pick_few (eqb n N.hop_by_hop_number) (early at)
        (pick_few (eqb n N.routing_number) (opens tags ips tt)
        (pick_few (eqb n N.destination_number) (opens tags ips tt)
        (pick_few (eqb n N.fragment_number) (opens tags ips tt)
        (pick_few (eqb n N.auth_number) (opens tags ips tt) (transport_few n)))))

    turn_few : (k : Kind) (g : ℕ → ℕ) → BeforeIp k p.ips → Few p (turn_of k g p)
    unfolding turn_of chain4
    turn_few Ethernet2 g z = link_few (number 2 g 12) z
    turn_few Vlan g z = link_few (number 2 g 2) z
    turn_few Ipv4 g z = pick_few (eqb (g 9) N.auth_number) (opens tags ips tt) (transport_few (g 9))
    turn_few Ipv6 g z = chain6_few Directly (g 6)
    turn_few Auth g z = pick_few (eqb p.version 4) (transport_few (g 0)) (chain6_few Later (g 0))
    turn_few Udp g z = stopping
    turn_few Tcp g z = stopping
    turn_few k g z = chain6_few Later (g 0)

-- ---- the next place

record Opened (p : Room) (k : Kind) : Type 0 where
  tags : tags_with k p.tags ≤ N.tag_limit
  ips : ips_with k p.ips ≤ N.ip_limit
  before : BeforeIp k (ips_with k p.ips)

opened : {p : Room} {t : Turn} {k : Kind} → Few p t → t ≡ Opens k → Opened p k
opened {p} {k = k} (opens {k = j} a b c) e = let z : j ≡ k = cc in subst (Opened p) z (record { tags = a; ips = b; before = c })
opened f e = clash (cc)

-- the room that a header leaves has the same tags and IP headers
record Kept (q p : Room) : Type 0 where
  tags : q.tags ≡ p.tags
  ips : q.ips ≡ p.ips

kept : (k : Kind) (g : ℕ → ℕ) (at : ℕ) (p : Room) → Kept (leaves k g at p) p
unfolding leaves
kept k g at p = go (is_ip k)
  where
    go : (b : Bool) → Kept (pick b (set_by (rule k).version (declared_of k g) (fragment_of k g) at p) (marked_by (fragment_of k g) p)) p
    go true = record { tags = refl; ips = refl }
    go false = record { tags = refl; ips = refl }

pub valid_next : {s : List ℕ} {p q : Place} {x : Found} → Valid s p → read s p ≡ reads x → x.follow ≡ next q → Valid s q
unfolding follow_of
valid_next {s} {p} {q} v e f =
    let a = goes s p e f in
    let z = parts s p e in
    let n = onto _ _ _ _ _ (ap (λ (y : Found). y.follow) (sym z.found) ∙ f) in
    let k = kept p.kind (bytes s p) p.at p.room in
    let few = turn_few (leaves p.kind (bytes s p) p.at p.room) (rw k.tags v.tags) (rw k.ips v.ips) p.kind (bytes s p) (rw k.ips v.before) in
    let o = opened few n.opened in
    record {
      room_in = omega (arith, v.room_in, a.inside);
      inside = a.room;
      tags = rw n.entering o.tags;
      ips = rw n.entering o.ips;
      before = rw n.entering o.before;
    }
