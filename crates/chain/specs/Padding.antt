-- What the declared-length sentence needs: a header read in rooms that end elsewhere, and the walk behind it.
use Rattle.std.specs.Prelude.{ℕ, zero, suc, ◌≤◌, ◌+◌, ◌-◌, ◌≡◌, refl, List, Bool, true, false, eqb}
use Rattle.std.proofs.Common.{sym, ap, ◌∙◌, arith, ne_eqb}
use Rattle.rules.specs.declared.kind.Kind.{Kind}
use Rattle.rules.specs.declared.kind.Kind.TheVariants.{Ethernet2, Vlan, Ipv4, Ipv6, HopByHop, Routing, Destination, Fragment, Auth, Udp, Tcp}
use Rattle.rules.specs.declared.place.Place.{Place}
use Rattle.rules.specs.declared.place.Room.{Room}
use Rattle.rules.specs.Bytes.{number}
use Rattle.rules.specs.Rules.{length_of, declared_of, fragment_of, turn_of, tests_by, link}
use Rattle.rules.specs.Place.{Found, leaves, read}
use Rattle.rules.specs.Walk.{step, walk, trace}
use Rattle.laws.specs.Kinds.{Passes}
use Rattle.laws.specs.Reads.{parts, ahead}
use Rattle.laws.specs.Walks.{step_same}
use Rattle.laws.specs.Openings.{ending}
use Rattle.chain.specs.Agree.{AgreeTo, same_within}
use Rattle.chain.specs.Deciding.{same_read}

-- ---- a room that both frames hold

walks-within : (n m : ℕ) (s t : List ℕ) (p : Place) → p.room.end ≤ m → AgreeTo m s t → walk n s p ≡ walk n t p
unfolding walk
walks-within zero m s t p h e = refl
walks-within (suc n) m s t p h e =
    step_same p (read s p) (walk n s) (walk n t)
    (λ x q r f. let z = parts s p r in
    let y = ahead s p q z.passed (ap (λ (y : Found). y.follow) (sym z.found) ∙ f) in
    walks-within n m s t q (omega arith) e)
    ∙ ap (λ r. step p r (walk n t)) (same_read s t p (same_within m s t p h e))

pub within : (m : ℕ) (s t : List ℕ) (p : Place) → p.room.end ≤ m → AgreeTo m s t → trace s p ≡ trace t p
unfolding trace
within m s t p h e = walks-within (suc (p.room.end - p.at)) m s t p h e

-- ---- link headers, which take the room as it is

pub data IsLink : Kind → Type 0 where
  ethernet2 : IsLink Ethernet2
  vlan : IsLink Vlan

-- a link header leaves the same room, but for its end
pub link-leaves : {k : Kind} → IsLink k → (g : ℕ → ℕ) (at : ℕ) (p : Room) (e : ℕ) → leaves k g at (ending p e) ≡ ending (leaves k g at p) e
unfolding leaves fragment_of
link-leaves ethernet2 g at p e = refl
link-leaves vlan g at p e = refl

-- its tests ask for its length alone
pub link-passes : {k : Kind} → IsLink k → (g : ℕ → ℕ) (at : ℕ) (p : Room) (e : ℕ) → at + length_of k g ≤ e → Passes k g at (ending p e)
unfolding tests_by length_of
link-passes ethernet2 g at p e h = (omega arith, tt)
link-passes vlan g at p e h = (omega arith, tt)

-- it names the same header
pub link_turn : {k : Kind} → IsLink k → (g : ℕ → ℕ) (p : Room) (e : ℕ) → turn_of k g (ending p e) ≡ turn_of k g p
unfolding turn_of link
link_turn ethernet2 g p e = refl
link_turn vlan g p e = refl

-- ---- an IP header with a declared length, which sets the room

-- in every room that holds the declared length the header passes, and leaves the same room
pub record Sets (k : Kind) (g : ℕ → ℕ) (at : ℕ) (p : Room) (e : ℕ) : Type 0 where
  pub passes : Passes k g at (ending p e)
  pub leaves_it : leaves k g at (ending p e) ≡ leaves k g at p
  pub sets : (leaves k g at p).end ≡ at + declared_of k g

sets4 : (g : ℕ → ℕ) (at : ℕ) (p : Room) (e : ℕ) → Passes Ipv4 g at p → 1 ≤ declared_of Ipv4 g → at + declared_of Ipv4 g ≤ e → Sets Ipv4 g at p e
unfolding tests_by leaves declared_of
sets4 g at p e h o f =
    let z = ne_eqb (number 2 g 2) 0 (λ q. omega arith) in
    record { passes = omega arith; leaves_it = rw z; sets = rw z }

sets6 : (g : ℕ → ℕ) (at : ℕ) (p : Room) (e : ℕ) → Passes Ipv6 g at p → 1 ≤ declared_of Ipv6 g → at + declared_of Ipv6 g ≤ e → Sets Ipv6 g at p e
unfolding tests_by leaves declared_of
sets6 g at p e h o f = go (eqb (number 2 g 4) 0) refl
  where
    go : (b : Bool) → eqb (number 2 g 4) 0 ≡ b → Sets Ipv6 g at p e
    go true q = let z = rw q at o in absurd (omega arith)
    go false q =
        let f' = rw q at f in
        let z = ne_eqb (40 + number 2 g 4) 0 (λ r. omega arith) in
        record { passes = omega arith; leaves_it = rw q (rw z); sets = rw q (rw z) }

none : (k : Kind) (g : ℕ → ℕ) (at : ℕ) (p : Room) (e : ℕ) → declared_of k g ≡ 0 → 1 ≤ declared_of k g → Sets k g at p e
none k g at p e z o = absurd (omega arith)

pub sets : (k : Kind) (g : ℕ → ℕ) (at : ℕ) (p : Room) (e : ℕ) → Passes k g at p → 1 ≤ declared_of k g → at + declared_of k g ≤ e → Sets k g at p e
unfolding declared_of
sets Ethernet2 g at p e h o f = none Ethernet2 g at p e refl o
sets Vlan g at p e h o f = none Vlan g at p e refl o
sets Ipv4 g at p e h o f = sets4 g at p e h o f
sets Ipv6 g at p e h o f = sets6 g at p e h o f
sets HopByHop g at p e h o f = none HopByHop g at p e refl o
sets Routing g at p e h o f = none Routing g at p e refl o
sets Destination g at p e h o f = none Destination g at p e refl o
sets Fragment g at p e h o f = none Fragment g at p e refl o
sets Auth g at p e h o f = none Auth g at p e refl o
sets Udp g at p e h o f = none Udp g at p e refl o
sets Tcp g at p e h o f = none Tcp g at p e refl o
