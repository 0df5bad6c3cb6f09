-- One header at a place, by what was read there, and the step from a place. Assumes nothing.
use Rattle.std.specs.Prelude.{Result, Ok}
use Prim.Native.Nat.{ℕ, ◌+◌, ◌-◌, ◌≤◌}
use mathlib.Core.Path.{◌≡◌, sym, ap, ◌∙◌}
use mathlib.Core.List.{List}
use native.Mathlib.Omega.{arith}
use borrow.Author.Tests.{le-leb}
use Rattle.rules.specs.declared.kind.Kind.{Kind}
use Rattle.rules.specs.declared.place.Place.{Place}
use Rattle.rules.specs.declared.place.Room.{Room}
use Rattle.rules.specs.declared.refusal.Refusal.{Refusal}
use Rattle.rules.specs.declared.turn.Turn.{Turn}
use Rattle.rules.specs.Numbers.{tag_limit, ip_limit}
use Rattle.rules.specs.Bytes.{part}
use Rattle.rules.specs.Place.{place, bytes, follow, read, Found}
use Rattle.laws.specs.Kinds.{sized, nested}
use Rattle.laws.specs.Reads.{parts}
use Rattle.laws.specs.Parts.{In}
use Rattle.one_header.specs.declared.header.HeaderFound.{HeaderFound}
use Rattle.one_header.specs.Header.{left_by, header_read_on_paper, read_part, part-read}
use Rattle.steps.specs.Places.{steps, leads, step_says}

-- ---- the header of a kind at an offset in the room p, read as d

abbrev pub ReadAs : List ℕ → Kind → ℕ → Room → Result HeaderFound Refusal → Type 0
ReadAs s kind at p d = header_read_on_paper d at p ≡ read_part (part s at p.end) kind at p

module _ {s : List ℕ} {at : ℕ} {p : Room} (kind : Kind) (h : In s at p) {d : Result HeaderFound Refusal} (e : ReadAs s kind at p d) where
  pub reading : {c : Result HeaderFound Refusal} → d ≡ c → read s (place kind at p) ≡ header_read_on_paper c at p
  reading q = sym (e ∙ part-read kind h) ∙ ap (λ (y : Result HeaderFound Refusal). header_read_on_paper y at p) q

  -- a whole header has some bytes, in the room that it leaves, and that room is in p
  pub sizes : {x : HeaderFound} → d ≡ Ok x → (4 ≤ x.len) × (x.len ≤ x.end) × (at + x.end ≤ p.end)
  sizes q =
      let z = parts s (place kind at p) (reading q) in
      let a = sized kind p.version (bytes s (place kind at p)) (p.end - at) z.passed in
      let b = nested kind (bytes s (place kind at p)) at p z.passed in
      let l = ap (λ (f : Found). f.len) z.found in
      let r = ap (λ (f : Found). f.room.end) z.found in
      (omega arith, omega arith, omega arith)

-- ---- a place where a walk may stand

pub record PlaceIn (s : List ℕ) (p : Place) : Type 0 where
  pub inside : In s p.at p.room
  pub tags : p.room.tags ≤ tag_limit
  pub ips : p.room.ips ≤ ip_limit

module _ {s : List ℕ} {p : Place} (h : PlaceIn s p) {d : Result HeaderFound Refusal} (e : ReadAs s p.kind p.at p.room d) where
  pub step-read : {c : Result HeaderFound Refusal} → d ≡ c → steps (header_read_on_paper c p.at p.room) ≡ step_says s p
  unfolding step_says
  step-read q =
      rw (le-leb _ _ h.inside.room, le-leb _ _ h.inside.inside, le-leb _ _ h.tags, le-leb _ _ h.ips)
      (ap steps (sym (reading p.kind h.inside e q)))

  -- where a whole header leads
  pub step_turn : {x : HeaderFound} {u : Turn} → d ≡ Ok x → x.turn ≡ u
      → leads x.len (follow u (left_by x p.at p.room) (p.at + x.len) x.number (p.at + x.to)) ≡ step_says s p
  step_turn q t = rw (← t) (step-read q)
