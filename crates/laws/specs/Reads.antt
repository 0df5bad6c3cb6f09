-- One header read at a place: what a reading tells, for every kind at once.
use Rattle.std.specs.Prelude.{ℕ, ◌≤◌, ◌+◌, ◌-◌, ◌≡◌, List}
use Rattle.std.proofs.Common.{sym, ap, ◌∙◌, arith}
use Rattle.rules.specs.declared.kind.RoomSource.{RoomSource}
use Rattle.rules.specs.declared.place.Number.{Number}
use Rattle.rules.specs.declared.place.Place.{Place}
use Rattle.rules.specs.declared.place.Room.{Room}
use Rattle.rules.specs.Test.{Verdict, whole, failed, Failure, placed}
use Rattle.rules.specs.declared.turn.Turn.{Turn}
use Rattle.rules.specs.declared.turn.Turn.TheVariants.{Opens, Stops, LateHopByHop}
use Rattle.rules.specs.Place.{entered, next, follow, follow_of, Found, found_by, reads, refuses, settle, bytes, outcome, read, place}
use Rattle.laws.specs.Tests.{judge_pass, judge-all}
use Rattle.laws.specs.Kinds.{Passes, sized, nested}

-- what the header at a place says, if it passes its tests
abbrev pub found_at : List ℕ → Place → Found
found_at s p = found_by p.kind (bytes s p) p.at p.room

abbrev pub PassesAt : List ℕ → Place → Type 0
PassesAt s p = Passes p.kind (bytes s p) p.at p.room

pub read_whole : (s : List ℕ) (p : Place) {x : Found} → outcome s p ≡ whole x → read s p ≡ reads x
unfolding read
read_whole s p e = rw e

pub read_failed : (s : List ℕ) (p : Place) {f : Failure} → outcome s p ≡ failed f → read s p ≡ refuses (placed f p.at p.room.source)
unfolding read
read_failed s p e = rw e

pub read-passes : (s : List ℕ) (p : Place) → PassesAt s p → read s p ≡ reads (found_at s p)
unfolding outcome
read-passes s p h = read_whole s p (judge_pass _ _ h)

settle_reads : (v : Verdict Found) (at : ℕ) (source : RoomSource) {x : Found} → settle v at source ≡ reads x → v ≡ whole x
settle_reads (whole y) at source e = cc
settle_reads (failed f) at source e = cc

-- what the reading of a whole header is made of
pub record Parts (s : List ℕ) (p : Place) (x : Found) : Type 0 where
  pub passed : PassesAt s p
  pub found : x ≡ found_at s p

pub parts : (s : List ℕ) (p : Place) {x : Found} → read s p ≡ reads x → Parts s p x
unfolding read outcome
parts s p e = let z = judge-all _ _ (settle_reads _ _ _ e) in record { passed = z.0; found = sym z.1 }

-- ---- the next place

-- behind the header, in the room that it leaves, of the kind that the turn opens
pub record Onto (t : Turn) (p : Room) (past : ℕ) (q : Place) : Type 0 where
  pub begins : q.at ≡ past
  pub kept : q.room.end ≡ p.end
  pub opened : t ≡ Opens q.kind
  pub entering : q.room ≡ entered q.kind p

pub onto : (t : Turn) (p : Room) (past : ℕ) (n : Number) (to : ℕ) {q : Place} → follow t p past n to ≡ next q → Onto t p past q
unfolding follow
onto (Opens k) p past n to {q} e =
    let z : q ≡ place k past (entered k p) = cc in
    record { begins = ap (λ (y : Place). y.at) z; kept = ap (λ (y : Place). y.room.end) z; opened = cc; entering = cc }
onto (Stops w) p past n to e = record { begins = cc; kept = cc; opened = cc; entering = cc }
onto LateHopByHop p past n to e = record { begins = cc; kept = cc; opened = cc; entering = cc }

-- the walk goes ahead, and stays inside the room
pub record Ahead (s : List ℕ) (p q : Place) : Type 0 where
  pub begins : q.at ≡ p.at + (found_at s p).len
  pub some : 4 ≤ (found_at s p).len
  pub room : q.at ≤ q.room.end
  pub inside : q.room.end ≤ p.room.end

pub ahead : (s : List ℕ) (p q : Place) → PassesAt s p → (found_at s p).follow ≡ next q → Ahead s p q
unfolding follow_of
ahead s p q h e =
    let z = onto _ _ _ _ _ e in
    let a = sized p.kind p.room.version (bytes s p) (p.room.end - p.at) h in
    let b = nested p.kind (bytes s p) p.at p.room h in
    record { begins = z.begins; some = omega arith; room = omega arith; inside = omega arith }

pub goes : (s : List ℕ) (p : Place) {x : Found} {q : Place} → read s p ≡ reads x → x.follow ≡ next q → Ahead s p q
goes s p {x} {q} e f =
    let z = parts s p e in
    ahead s p q z.passed (ap (λ (y : Found). y.follow) (sym z.found) ∙ f)
