-- What each kind's rule gives. Only here do laws go through the rules kind by kind.
use Rattle.std.specs.Prelude.{ℕ, ◌≤◌, ◌+◌, ◌-◌, ◌*◌, ◌%◌, ◌≡◌, refl, Bool, true, false, eqb}
use Rattle.std.proofs.Common.{arith}
use Rattle.std.proofs.lemmas.Bool.{eqb-false}
use Rattle.rules.specs.declared.kind.Kind.{Kind}
use Rattle.rules.specs.declared.kind.Kind.TheVariants.{Ethernet2, Vlan, Ipv4, Ipv6, HopByHop, Routing, Destination, Fragment, Auth, Udp, Tcp}
use Rattle.rules.specs.declared.place.Room.{Room}
use Rattle.rules.specs.Bytes.{number}
use Rattle.rules.specs.Test.{pick, All}
use Rattle.rules.specs.Rules.{least_length, length_of, declared_of, tests_by, tests}
use Rattle.rules.specs.Place.{leaves}

-- a header that passes has the least length of its kind, some bytes, and lies whole in what is there
pub record Sized (k : Kind) (g : ℕ → ℕ) (have : ℕ) : Type 0 where
  pub some : 4 ≤ least_length k
  pub long : least_length k ≤ length_of k g
  pub inside : length_of k g ≤ have

pub sized : (k : Kind) (v : ℕ) (g : ℕ → ℕ) (have : ℕ) → All (tests k v g have) → Sized k g have
unfolding tests_by length_of
sized Ethernet2 v g have h = omega arith
sized Vlan v g have h = omega arith
sized Ipv4 v g have h = omega arith
sized Ipv6 v g have h = omega arith
sized HopByHop v g have h = omega arith
sized Routing v g have h = omega arith
sized Destination v g have h = omega arith
sized Fragment v g have h = omega arith
sized Auth v g have h = omega arith
sized Udp v g have h = omega arith
sized Tcp v g have h = omega arith

-- the tests at an offset in a room
abbrev pub Passes : Kind → (ℕ → ℕ) → ℕ → Room → Type 0
Passes k g at p = All (tests k p.version g (p.end - at))

-- the room that a header leaves holds the header and lies in the room that it stood in
pub record Nested (k : Kind) (g : ℕ → ℕ) (at : ℕ) (p : Room) : Type 0 where
  pub holds : at + length_of k g ≤ (leaves k g at p).end
  pub inside : (leaves k g at p).end ≤ p.end

-- of a kind that leaves the room's end as it was
kept : (k : Kind) (g : ℕ → ℕ) (at : ℕ) (p : Room) → (leaves k g at p).end ≡ p.end → Passes k g at p → Nested k g at p
kept k g at p e h =
    let z = sized k p.version g (p.end - at) h in
    record { holds = omega arith; inside = omega arith }

-- where a room ends that a header of length l sets by the declared length d, or leaves as it was where d is 0
set_end : (d at e l : ℕ) → 4 ≤ l → l ≤ e - at → d ≤ e - at → ((d ≡ 0 → ⊥) → l ≤ d) → (at + l ≤ pick (eqb d 0) e (at + d)) × (pick (eqb d 0) e (at + d) ≤ e)
set_end d at e l a b c f = go (eqb d 0) refl
  where
    go : (t : Bool) → eqb d 0 ≡ t → (at + l ≤ pick (eqb d 0) e (at + d)) × (pick (eqb d 0) e (at + d) ≤ e)
    go true q = rw q (omega arith, omega arith)
    go false q = let z = f (eqb-false d 0 q) in rw q (omega arith, omega arith)

nested4 : (g : ℕ → ℕ) (at : ℕ) (p : Room) → Passes Ipv4 g at p → Nested Ipv4 g at p
unfolding tests_by length_of leaves declared_of
nested4 g at p h =
    let z = set_end (number 2 g 2) at p.end (g 0 % 16 * 4) (omega arith) (omega arith) (omega arith) (λ n. omega arith) in
    record { holds = z.0; inside = z.1 }

-- what an IPv6 header of payload length n declares: no more than is there, and its own 40 bytes at least or nothing
pub declared6 : (n have : ℕ) → 40 + n ≤ have → (pick (eqb n 0) 0 (40 + n) ≤ have) × ((pick (eqb n 0) 0 (40 + n) ≡ 0 → ⊥) → 40 ≤ pick (eqb n 0) 0 (40 + n))
declared6 n have h = go (eqb n 0)
  where
    go : (b : Bool) → (pick b 0 (40 + n) ≤ have) × ((pick b 0 (40 + n) ≡ 0 → ⊥) → 40 ≤ pick b 0 (40 + n))
    go true = (omega arith, λ q. absurd (q refl))
    go false = (h, λ q. omega arith)

nested6 : (g : ℕ → ℕ) (at : ℕ) (p : Room) → Passes Ipv6 g at p → Nested Ipv6 g at p
unfolding tests_by length_of leaves declared_of
nested6 g at p h =
    let d = declared6 (number 2 g 4) (p.end - at) (omega arith) in
    let z = set_end (declared_of Ipv6 g) at p.end 40 (omega arith) (omega arith) d.0 d.1 in
    record { holds = z.0; inside = z.1 }

pub nested : (k : Kind) (g : ℕ → ℕ) (at : ℕ) (p : Room) → Passes k g at p → Nested k g at p
unfolding leaves
nested Ethernet2 g at p h = kept Ethernet2 g at p refl h
nested Vlan g at p h = kept Vlan g at p refl h
nested Ipv4 g at p h = nested4 g at p h
nested Ipv6 g at p h = nested6 g at p h
nested HopByHop g at p h = kept HopByHop g at p refl h
nested Routing g at p h = kept Routing g at p refl h
nested Destination g at p h = kept Destination g at p refl h
nested Fragment g at p h = kept Fragment g at p refl h
nested Auth g at p h = kept Auth g at p refl h
nested Udp g at p h = kept Udp g at p refl h
nested Tcp g at p h = kept Tcp g at p refl h
