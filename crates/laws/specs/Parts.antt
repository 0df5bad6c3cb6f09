-- What a reader says of the part of a frame from a place to its room's end is what stands at the place.
use Rattle.std.specs.Prelude.{ℕ, ◌≤◌, ◌+◌, ◌-◌, ◌≡◌, List, length}
use Rattle.std.proofs.Math.Path.{sym}
use Rattle.std.proofs.Common.{arith, length-take, length-drop, take_all}
use Rattle.rules.specs.declared.kind.Kind.{Kind}
use Rattle.rules.specs.declared.place.Room.{Room}
use Rattle.rules.specs.Bytes.{part}
use Rattle.rules.specs.Test.{whole, failed, Failure, placed}
use Rattle.rules.specs.Rules.{rule, says}
use Rattle.rules.specs.Place.{place, bytes, outcome, read, reads, refuses}
use Rattle.laws.specs.Tests.{judge-all, judge_fails}
use Rattle.laws.specs.Kinds.{nested, sized}
use Rattle.laws.specs.Reads.{found_at, PassesAt, read_failed, read-passes}

-- an offset in a room that lies in the frame
pub record In (s : List ℕ) (at : ℕ) (p : Room) : Type 0 where
  pub inside : at ≤ p.end
  pub room : p.end ≤ length s

pub part_length : {s : List ℕ} {at : ℕ} {p : Room} → In s at p → length (part s at p.end) ≡ p.end - at
part_length h = simp (length-take, length-drop) (omega arith)

-- the whole frame is a part of itself
pub all-part : (s : List ℕ) → part s 0 (length s) ≡ s
all-part s = take_all (length s - 0) s (omega arith)

-- a header of kind k stands at an offset in a room: it passes its tests
pub record Stands (s : List ℕ) (k : Kind) (at : ℕ) (p : Room) : Type 0 where
  pub passed : PassesAt s (place k at p)

-- it falls: the first test that it fails is f
pub record Falls (s : List ℕ) (k : Kind) (at : ℕ) (p : Room) (f : Failure) : Type 0 where
  pub failed_at : read s (place k at p) ≡ refuses (placed f at p.source)

module _ {A : Type 0} {s : List ℕ} {k : Kind} {at : ℕ} {p : Room} (fields : (ℕ → ℕ) → ℕ → A) (h : In s at p) where
  pub stands : {x : A} → says k (rule k) p.version fields (part s at p.end) ≡ whole x → Stands s k at p × (x ≡ fields (bytes s (place k at p)) (p.end - at))
  unfolding says bytes
  stands {x} e =
      let z = judge-all _ _ (rw (part_length h) at e) in
      (record { passed = z.0 }, sym z.1)

  pub falls : {f : Failure} → says k (rule k) p.version fields (part s at p.end) ≡ failed f → Falls s k at p f
  unfolding says bytes outcome
  falls {f} e =
      record { failed_at = read_failed s (place k at p) (judge_fails _ _ _ (rw (part_length h) at e)) }

module _ {s : List ℕ} {k : Kind} {at : ℕ} {p : Room} (t : Stands s k at p) where
  pub reads_it : read s (place k at p) ≡ reads (found_at s (place k at p))
  reads_it = read-passes s (place k at p) t.passed

  -- behind a header that stands
  pub in_next : In s at p → In s (at + (found_at s (place k at p)).len) (found_at s (place k at p)).room
  in_next h =
      let z = nested k (bytes s (place k at p)) at p t.passed in
      record { inside = z.holds; room = omega (arith, z.inside, h.room) }

  -- it has some bytes, and they are there
  pub some_long : (4 ≤ (found_at s (place k at p)).len) × ((found_at s (place k at p)).len ≤ p.end - at)
  some_long = let z = sized k p.version (bytes s (place k at p)) (p.end - at) t.passed in (omega arith, z.inside)
