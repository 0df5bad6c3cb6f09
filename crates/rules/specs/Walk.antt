-- The walk: the headers of a frame in order, and how it ends.
use Rattle.std.specs.Prelude.{ℕ, zero, suc, ◌-◌, List, [], ◌∷◌, map, length}
use Rattle.rules.specs.declared.entry.Entry.{Entry}
use Rattle.rules.specs.declared.kind.Kind.{Kind}
use Rattle.rules.specs.declared.place.Header.{Header}
use Rattle.rules.specs.declared.place.Place.{Place}
use Rattle.rules.specs.declared.place.Room.{Room}
use Rattle.rules.specs.declared.refusal.Row.{Row}
use Rattle.rules.specs.Place.{Found, Follow, next, halt, wrong, Stopped, PlaceRead, reads, refuses, read, opening}
use Rattle.rules.specs.Named.{kind_number}

-- a header met: where it stands, its length, and the room that it leaves
pub record HeaderAt : Type 0 where
  pub kind : Kind
  pub at : ℕ
  pub len : ℕ
  pub room : Room

abbrev pub header_at : Place → Found → HeaderAt
header_at p x = record { kind = p.kind; at = p.at; len = x.len; room = x.room }

-- the headers met, and the stop or the refusal that ended the walk
pub data Trace (A : Type 0) : Type 0 where
  accepted : List A → Stopped → Trace A
  refused : List A → Row → Trace A
  unfinished : Trace A

abbrev pub behind : {A : Type 0} → A → Trace A → Trace A
behind h (accepted hs x) = accepted (h ∷ hs) x
behind h (refused hs r) = refused (h ∷ hs) r
behind h unfinished = unfinished

-- from behind a header on, where `go` is the walk from a place
abbrev pub onward_by : (Place → Trace HeaderAt) → Follow → Trace HeaderAt
onward_by go (next q) = go q
onward_by go (halt x) = accepted [] x
onward_by go (wrong r) = refused [] r

-- one step from p
abbrev pub step : Place → PlaceRead → (Place → Trace HeaderAt) → Trace HeaderAt
step p (refuses r) go = refused [] r
step p (reads x) go = behind (header_at p x) (onward_by go x.follow)

unfoldable pub walk : ℕ → List ℕ → Place → Trace HeaderAt
walk zero s p = unfinished
walk (suc n) s p = step p (read s p) (λ q. walk n s q)

-- each header has a byte at least, so this many steps suffice
unfoldable pub trace : List ℕ → Place → Trace HeaderAt
trace s p = walk (suc (p.room.end - p.at)) s p

abbrev pub onward : List ℕ → Follow → Trace HeaderAt
onward s f = onward_by (trace s) f

-- ---- answers by number

-- "A header's answer is its kind, offset and length."
abbrev pub header : HeaderAt → Header
header e = record { kind = kind_number e.kind; at = e.at; len = e.len }

-- an answer that is one thing, "no more", or the frame's refusal
pub data Answer (A : Type 0) : Type 0 where
  is : A → Answer A
  no-more : Answer A
  refusal : Row → Answer A

abbrev pub nth : {A : Type 0} → List A → ℕ → Answer A
nth [] k = no-more
nth (h ∷ hs) zero = is h
nth (h ∷ hs) (suc k) = nth hs k

-- "Header k of a refused frame is that refusal for every k, and so is its count; past the last header of an accepted one
-- the answer is "no more"."
-- `LIST-1`, `LIST-2`
unfoldable pub header_of : Trace HeaderAt → ℕ → Answer Header
header_of (accepted hs x) k = nth (map header hs) k
header_of (refused hs r) k = refusal r
header_of unfinished k = no-more

-- `LIST-3`
unfoldable pub count_of : Trace HeaderAt → Answer ℕ
count_of (accepted hs x) = is (length hs)
count_of (refused hs r) = refusal r
count_of unfinished = no-more

-- the whole walk of a frame, by its entry
unfoldable pub slices : Entry → List ℕ → Trace HeaderAt
slices e s = onward s (opening e s)
