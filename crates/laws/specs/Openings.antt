-- What the theorems need to know of how a frame opens: nothing else about an entry.
use Rattle.std.specs.Prelude.{ℕ, ◌≤◌, ◌<◌, ◌+◌, ◌≡◌, refl, List, [], ◌∷◌, true, length}
use Rattle.std.proofs.Common.{ap, subst, arith}
use Rattle.rules.specs.declared.entry.Entry.{Entry}
use Rattle.rules.specs.declared.entry.Entry.TheVariants as E
use Rattle.rules.specs.declared.kind.Kind.{Kind}
use Rattle.rules.specs.declared.kind.Kind.TheVariants.{Ethernet2, Ipv4, Ipv6}
use Rattle.rules.specs.declared.place.Place.{Place}
use Rattle.rules.specs.declared.place.Room.{Room}
use Rattle.rules.specs.declared.refusal.Row.{Row}
use Rattle.rules.specs.Bytes.{byte_at}
use Rattle.rules.specs.Numbers.{too_short}
use Rattle.rules.specs.Rules.{is_one_of, deciding}
use Rattle.rules.specs.Place.{Follow, next, halt, wrong, Stopped, room, place, start, opening}

-- the first place: at offset 0, in the room of the whole frame
pub record Begins (s : List ℕ) (p : Place) : Type 0 where
  pub at_0 : p.at ≡ 0
  pub whole_room : p.room.end ≡ length s

-- a row of refusal 1 asks for more than there was: its values are required, have and the source
abbrev pub Asks : Row → Type 0
Asks r = (required have source : ℕ) → r.number ≡ too_short → r.values ≡ required ∷ have ∷ source ∷ [] → have < required

-- ---- every opening is a first place, or the row of a refusal

data Opened (s : List ℕ) : Follow → Type 0 where
  starts : (k : Kind) → Opened s (next (start k s))
  refuses : {r : Row} → r.offset ≤ length s → Asks r → Opened s (wrong r)

opened : (e : Entry) (s : List ℕ) → Opened s (opening e s)
unfolding opening
opened E.Ethernet s = starts Ethernet2
opened E.Ipv4 s = starts Ipv4
opened E.Ipv6 s = starts Ipv6

pub opening_begins : (e : Entry) (s : List ℕ) {p : Place} → opening e s ≡ next p → Begins s p
unfolding start
opening_begins e s {p} q = go (opened e s) q
  where
    go : {f : Follow} → Opened s f → f ≡ next p → Begins s p
    go (starts k) q = let z : start k s ≡ p = cc in subst (Begins s) z (record { at_0 = refl; whole_room = refl })
    go (refuses h a) q = cc

-- no frame is accepted before its first header
pub never_halts : (e : Entry) (s : List ℕ) {x : Stopped} → opening e s ≡ halt x → ⊥
never_halts e s {x} q = go (opened e s) q
  where
    go : {f : Follow} → Opened s f → f ≡ halt x → ⊥
    go (starts k) q = cc
    go (refuses h a) q = cc

pub opening_offset : (e : Entry) (s : List ℕ) {r : Row} → opening e s ≡ wrong r → r.offset ≤ length s
opening_offset e s {r} q = go (opened e s) q
  where
    go : {f : Follow} → Opened s f → f ≡ wrong r → r.offset ≤ length s
    go (starts k) q = cc
    go (refuses {r = r'} h a) q = let z : r' ≡ r = cc in subst (λ (y : Row). y.offset ≤ length s) z h

pub opening-asks : (e : Entry) (s : List ℕ) {r : Row} → opening e s ≡ wrong r → Asks r
opening-asks e s {r} q = go (opened e s) q
  where
    go : {f : Follow} → Opened s f → f ≡ wrong r → Asks r
    go (starts k) q = cc
    go (refuses {r = r'} h a) q = let z : r' ≡ r = cc in subst Asks z a

-- ---- a second frame

-- the same room, the same place, but for the room's end
abbrev pub ending : Room → ℕ → Room
ending p e = room e p.tags p.version p.ips p.source p.mark

abbrev pub ending_at : Place → ℕ → Place
ending_at p e = place p.kind p.at (ending p.room e)

-- the frames agree on the deciding bytes of the header at p, as far as they are there
abbrev pub AgreeAt : List ℕ → List ℕ → Place → Type 0
AgreeAt s t p = (i : ℕ) → is_one_of i (deciding p.kind) ≡ true → p.at + i < p.room.end → byte_at s (p.at + i) ≡ byte_at t (p.at + i)

start_elsewhere : (k : Kind) (s t : List ℕ) {p : Place} → next (start k s) ≡ next p → next (start k t) ≡ next (ending_at p (length t))
unfolding start
start_elsewhere k s t {p} q = let z : start k s ≡ p = cc in ap (λ (y : Place). next (ending_at y (length t))) z

-- a frame that agrees with s on the first header's deciding bytes opens at the same place, in the room of its own length
pub opening_elsewhere : (e : Entry) (s t : List ℕ) {p : Place} → opening e s ≡ next p → AgreeAt s t p → opening e t ≡ next (ending_at p (length t))
unfolding opening
opening_elsewhere E.Ethernet s t q h = start_elsewhere Ethernet2 s t q
opening_elsewhere E.Ipv4 s t q h = start_elsewhere Ipv4 s t q
opening_elsewhere E.Ipv6 s t q h = start_elsewhere Ipv6 s t q

-- a frame of the same length as one that does not open gets the same refusal; no entry of today refuses a frame unopened
pub wrong_elsewhere : (e : Entry) (s t : List ℕ) {r : Row} → opening e s ≡ wrong r → length s ≡ length t → opening e t ≡ wrong r
unfolding opening
wrong_elsewhere E.Ethernet s t q h = cc
wrong_elsewhere E.Ipv4 s t q h = cc
wrong_elsewhere E.Ipv6 s t q h = cc
