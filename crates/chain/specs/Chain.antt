-- Demand 3's chain, as a relation of its own: facts about places of a frame, with no order of tests and no walk.
-- "Call a chain a list of headers from offset 0, the first of the kind asked for, where each later one begins where the last
-- ended and is the kind that the last one named, each passes document 01's tests, has the length its own fields give and lies
-- whole inside its room, and the list stops where the rules give a numbered stop, not a refusal."
use Rattle.std.specs.Prelude.{ℕ, suc, ◌≤◌, ◌+◌, ◌-◌, ◌≡◌, List, [], ◌∷◌}
use Rattle.rules.specs.declared.entry.Entry.{Entry}
use Rattle.rules.specs.declared.place.Place.{Place}
use Rattle.rules.specs.declared.place.Room.{Room}
use Rattle.rules.specs.declared.stop.Stop.{Stop}
use Rattle.rules.specs.declared.turn.Turn.TheVariants as T
use Rattle.rules.specs.Named.{stop_number}
use Rattle.rules.specs.Test.{All}
use Rattle.rules.specs.Rules.{tests, length_of, names_of, turn_of, payload_of}
use Rattle.rules.specs.Place.{Follow, next, Stopped, bytes, leaves, entered, opening}
use Rattle.rules.specs.Walk.{HeaderAt}

-- ---- what the table of rules gives for the header at a place of the frame s

-- "the length its own fields give"
abbrev pub length_at : List ℕ → Place → ℕ
length_at s p = length_of p.kind (bytes s p)

-- the room that it leaves to what follows
abbrev pub room_at : List ℕ → Place → Room
room_at s p = leaves p.kind (bytes s p) p.at p.room

-- where it ends
abbrev pub past_at : List ℕ → Place → ℕ
past_at s p = p.at + length_at s p

-- the header as it is listed
abbrev pub listed_at : List ℕ → Place → HeaderAt
listed_at s p = record { kind = p.kind; at = p.at; len = length_at s p; room = room_at s p }

-- ---- the chain

-- a header stands at p: it "passes document 01's tests" and "lies whole inside its room"
pub record Stands (s : List ℕ) (p : Place) : Type 0 where
  pub passes : All (tests p.kind p.room.version (bytes s p) (p.room.end - p.at))
  pub inside : past_at s p ≤ p.room.end
  -- an IP header sets a room: that lies in the room it stands in, and holds the header
  pub holds : past_at s p ≤ (room_at s p).end
  pub nested : (room_at s p).end ≤ p.room.end

-- the header at q comes behind the one at p: it "begins where the last ended and is the kind that the last one named", in the
-- room that the last one left
pub record Leads (s : List ℕ) (p q : Place) : Type 0 where
  pub names : turn_of p.kind (bytes s p) (room_at s p) ≡ T.Opens q.kind
  pub begins : q.at ≡ past_at s p
  pub room : q.room ≡ entered q.kind (room_at s p)

-- behind the header at p "the rules give a numbered stop": its number, the number that names the payload, and the payload's range
pub record Stops (s : List ℕ) (p : Place) (x : Stopped) : Type 0 where
  pub stop : Stop
  pub turns : turn_of p.kind (bytes s p) (room_at s p) ≡ T.Stops stop
  pub why : x.why ≡ stop_number stop
  pub number : x.number ≡ names_of p.kind (bytes s p)
  pub begins : x.at ≡ past_at s p
  pub len : x.len ≡ payload_of p.kind (bytes s p) p.at (room_at s p) - past_at s p

-- a chain from the place p on: its headers, and the stop
pub data Chain (s : List ℕ) : Place → List HeaderAt → Stopped → Type 0 where
  last : {p : Place} {x : Stopped} → Stands s p → Stops s p x → Chain s p (listed_at s p ∷ []) x
  more : {p q : Place} {hs : List HeaderAt} {x : Stopped} → Stands s p → Leads s p q → Chain s q hs x → Chain s p (listed_at s p ∷ hs) x

-- from how a frame opens: at a place; one that does not open has no chain
pub data ChainFrom (s : List ℕ) : Follow → List HeaderAt → Stopped → Type 0 where
  opened : {p : Place} {hs : List HeaderAt} {x : Stopped} → Chain s p hs x → ChainFrom s (next p) hs x

-- a chain of the frame, by its entry: "from offset 0, the first of the kind asked for"
abbrev pub ChainOf : Entry → List ℕ → List HeaderAt → Stopped → Type 0
ChainOf e s hs x = ChainFrom s (opening e s) hs x

-- ---- its headers by number

-- h is number k of the list
pub data At : List HeaderAt → ℕ → HeaderAt → Type 0 where
  here : {h : HeaderAt} {hs : List HeaderAt} → At (h ∷ hs) 0 h
  later : {h g : HeaderAt} {hs : List HeaderAt} {k : ℕ} → At hs k g → At (h ∷ hs) (suc k) g
