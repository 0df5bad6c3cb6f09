-- A walk that is refused, as a relation of its own.
-- "the refusal is that of the first test failed in walk order, and no refusal is given otherwise"
use Rattle.std.specs.Prelude.{ℕ, ◌-◌, ◌≡◌, List, [], ◌∷◌}
use Rattle.rules.specs.declared.entry.Entry.{Entry}
use Rattle.rules.specs.declared.kind.Kind.TheVariants.{HopByHop}
use Rattle.rules.specs.declared.kind.Layer.TheVariants.{Of}
use Rattle.rules.specs.declared.place.Place.{Place}
use Rattle.rules.specs.declared.refusal.Row.{Row}
use Rattle.rules.specs.declared.turn.Turn.TheVariants.{LateHopByHop}
use Rattle.rules.specs.Numbers.{hop_by_hop_not_at_start}
use Rattle.rules.specs.Test.{Test, Holds, Failure, other, failure, placed}
use Rattle.rules.specs.Rules.{tests, turn_of}
use Rattle.rules.specs.Place.{Follow, next, wrong, bytes, opening}
use Rattle.rules.specs.Walk.{HeaderAt}
use Rattle.chain.specs.Chain.{room_at, past_at, listed_at, Stands, Leads}

-- f is the failure of the first test that does not hold: all before it hold
pub data FirstFailed : List Test → Failure → Type 0 where
  this : {t : Test} {ts : List Test} → (Holds t → ⊥) → FirstFailed (t ∷ ts) (failure t)
  later : {t : Test} {ts : List Test} {f : Failure} → Holds t → FirstFailed ts f → FirstFailed (t ∷ ts) f

-- headers that stand, one behind the other, and then a header that fails a test, or number 0 where no hop-by-hop header may stand:
-- "later in an IPv6 chain it is refusal 5, before any length test"
pub data Broken (s : List ℕ) : Place → List HeaderAt → Row → Type 0 where
  fails : {p : Place} {f : Failure} → FirstFailed (tests p.kind p.room.version (bytes s p) (p.room.end - p.at)) f
      → Broken s p [] (placed f p.at p.room.source)
  late_hop : {p : Place} → Stands s p → turn_of p.kind (bytes s p) (room_at s p) ≡ LateHopByHop
      → Broken s p (listed_at s p ∷ []) (placed (other hop_by_hop_not_at_start (Of HopByHop) 0) (past_at s p) (room_at s p).source)
  more : {p q : Place} {hs : List HeaderAt} {r : Row} → Stands s p → Leads s p q → Broken s q hs r → Broken s p (listed_at s p ∷ hs) r

-- from how a frame opens: at a place; one that does not open breaks in front of all headers
pub data BrokenFrom (s : List ℕ) : Follow → List HeaderAt → Row → Type 0 where
  opened : {p : Place} {hs : List HeaderAt} {r : Row} → Broken s p hs r → BrokenFrom s (next p) hs r
  unopened : {r : Row} → BrokenFrom s (wrong r) [] r

-- a broken walk of the frame, by its entry
abbrev pub BrokenOf : Entry → List ℕ → List HeaderAt → Row → Type 0
BrokenOf e s hs r = BrokenFrom s (opening e s) hs r
