-- The loop over an accepted frame's headers: what was printed, and what is still to come. Assumes nothing.
use Prim.Native.Nat.{ℕ, ◌-◌, ◌<◌}
use mathlib.Core.Path.{◌≡◌, refl, sym, ap, ◌∙◌}
use mathlib.Core.List.{List, [], ◌++◌, append_assoc}
use native.Mathlib.Omega.{arith}
use Rattle.rules.specs.declared.entry.Entry.{Entry}
use Rattle.rules.specs.declared.place.Place.{Place}
use Rattle.rules.specs.declared.refusal.Refusal.{Refusal}
use Rattle.rules.specs.declared.refusal.Row.{Row}
use Rattle.rules.specs.declared.stop.Ending.{Ending}
use Rattle.rules.specs.Named.{kind_number}
use Rattle.rules.specs.Place.{Stopped, ending_on_paper, Follow, next, halt, wrong, Found, PlaceRead, reads, refuses, read, opening}
use Rattle.rules.specs.Walk.{Trace, accepted, HeaderAt, header_at, behind, onward, step as taken, trace, slices}
use Rattle.laws.specs.Reads.{goes}
use Rattle.laws.specs.Walks.{trace-step}
use Rattle.steps.specs.declared.place.Step.{Step}
use Rattle.steps.specs.declared.place.Step.TheVariants as S
use Rattle.steps.specs.declared.place.NoStep.{NoStep}
use Rattle.steps.specs.declared.place.NoStep.TheVariants as NS
use Rattle.std.specs.Prelude.{Result, Ok, Err}
use Rattle.steps.specs.Places.{on, last, refused as shut, not_a_place, place_on_paper, step_on_paper, leads, steps, step_says, same_place}
use Rattle.printing.specs.declared.write.Printer.{Printer}
use Rattle.printing.specs.Clash.{clash}
use Rattle.printing.specs.Text.{header_line, line_of, header_lines, ending_lines, text, text_of, Accepts, accepts}
use Rattle.printing.specs.Put.{Wrote}
use Rattle.printing.proofs.Pieces.{wrote_none, wrote_then}
use Rattle.printing.proofs.Valid.{Valid, says, valid_first, valid_next}

-- ---- an accepted walk behind its first header

record Behind (h : HeaderAt) (t : Trace HeaderAt) : Type 0 where
  accepts : Accepts t
  lines : text (behind h t) ≡ line_of h ++ text t

behind_first : (h : HeaderAt) (t : Trace HeaderAt) → Accepts (behind h t) → Behind h t
unfolding text header_lines
behind_first h (accepted hs x) a = record { accepts = accepts; lines = append_assoc (line_of h) (header_lines hs) (ending_lines x) }
behind_first h t a = elim a [ ]

-- ---- what a step says of the reading

record Onward (d : PlaceRead) (len : ℕ) (f : Follow) : Type 0 where
  found : Found
  whole : d ≡ reads found
  long : found.len ≡ len
  follows : found.follow ≡ f

onward_next : (d : PlaceRead) {len : ℕ} {q : Place} → steps d ≡ on len (place_on_paper q) → Onward d len (next q)
onward_next (refuses r) e = clash (cc)
onward_next (reads x) {len} {q} e = go x.follow refl e
  where
    go : (f : Follow) → x.follow ≡ f → leads x.len f ≡ on len (place_on_paper q) → Onward (reads x) len (next q)
    go (next p) h k = record { found = x; whole = refl; long = cc; follows = h ∙ ap next (same_place k) }
    go f h k = clash (cc)

onward_last : (d : PlaceRead) {len : ℕ} {y : Stopped} → steps d ≡ last len y → Onward d len (halt y)
onward_last (refuses r) e = clash (cc)
onward_last (reads x) {len} {y} e = go x.follow refl e
  where
    go : (f : Follow) → x.follow ≡ f → leads x.len f ≡ last len y → Onward (reads x) len (halt y)
    go (halt w) h k = let z : w ≡ y = cc in record { found = x; whole = refl; long = cc; follows = h ∙ ap halt z }
    go f h k = clash (cc)

-- ---- the loop

-- before the header at p: `done` was printed, and with what is to come it is `wanted`
pub record Telling (s wanted : List ℕ) (first : Printer) (p : Place) (now : Printer) : Type 0 where
  pub valid : Valid s p
  pub accepts : Accepts (trace s p)
  pub done : List ℕ
  pub wrote : Wrote done first now
  pub left : done ++ text (trace s p) ≡ wanted

-- the walk begins at p₀
module _ (s : List ℕ) (e : Entry) {p₀ : Place} (q : next p₀ ≡ opening e s) where
  begun : slices e s ≡ trace s p₀
  unfolding slices
  begun = sym (ap (onward s) q)

  pub telling_first : (o : Printer) → Accepts (slices e s) → Telling s (text_of e s) o p₀ o
  telling_first o a = record { valid = valid_first e s q; accepts = rw begun at a; done = []; wrote = wrote_none o; left = sym (ap text begun) }

module _ {s wanted : List ℕ} {p : Place} {first now : Printer} (t : Telling s wanted first p now) (step : Result Step NoStep) (e : step_on_paper step ≡ step_says s p) where
  told : steps (read s p) ≡ step_on_paper step
  told = sym (e ∙ says t.valid)

  -- the walk from p, where a header of length len is read there that leads to f
  module _ {len : ℕ} {f : Follow} (x : Onward (read s p) len f) where
    walked : trace s p ≡ behind (header_at p x.found) (onward s f)
    walked = trace-step s p ∙ rw (x.whole, x.follows) refl

    first_behind : Behind (header_at p x.found) (onward s f)
    first_behind = behind_first _ _ (rw walked at t.accepts)

    line_left : (t.done ++ header_line (kind_number p.kind) p.at len) ++ text (onward s f) ≡ wanted
    line_left =
        let z : text (trace s p) ≡ header_line (kind_number p.kind) p.at len ++ text (onward s f) = ap text walked ∙ first_behind.lines ∙ rw x.long refl in
        append_assoc t.done _ _ ∙ sym (ap (λ (l : List ℕ). t.done ++ l) z) ∙ t.left

  module _ {len : ℕ} {q : Place} (i : step ≡ Ok (S.Next len q)) where
    further : Onward (read s p) len (next q)
    further = onward_next (read s p) (told ∙ ap step_on_paper i)

    pub telling_less : q.room.end - q.at < p.room.end - p.at
    telling_less =
        let f = further in
        let z = goes s p f.whole f.follows in
        omega (arith, z.begins, z.some, z.room, z.inside)

    pub telling_on : {now' : Printer} → Wrote (header_line (kind_number p.kind) p.at len) now now' → Telling s wanted first q now'
    telling_on w =
        let f = further in
        record {
          valid = valid_next t.valid f.whole f.follows;
          accepts = (first_behind f).accepts;
          done = t.done ++ header_line (kind_number p.kind) p.at len;
          wrote = wrote_then t.wrote w;
          left = line_left f;
        }

  module _ {len : ℕ} {y : Ending} {o₁ o₂ : Printer} (i : step ≡ Ok (S.Last len y)) where
    pub telling_last : Wrote (header_line (kind_number p.kind) p.at len) now o₁ → Wrote (ending_lines (ending_on_paper y)) o₁ o₂ → Wrote wanted first o₂
    unfolding text header_lines
    telling_last w v =
        let f = onward_last (read s p) (told ∙ ap step_on_paper i) in
        rw (line_left f) at (wrote_then (wrote_then t.wrote w) v)

  -- an accepted frame's walk meets neither a refusal nor a place that is none
  telling_refused : {r : Refusal} → step ≡ Err (NS.Refused r) → ⊥
  telling_refused i = go (read s p) (told ∙ ap step_on_paper i) (rw (trace-step s p) at t.accepts)
    where
      go : (d : PlaceRead) → {r : Row} → steps d ≡ shut r → Accepts (taken p d (trace s)) → ⊥
      go (refuses w) k a = elim a [ ]
      go (reads x) k a = on_follow x.follow k a
        where
          on_follow : (f : Follow) → {r : Row} → leads x.len f ≡ shut r → Accepts (behind (header_at p x) (onward s f)) → ⊥
          on_follow (wrong w) k a = elim a [ ]
          on_follow f k a = clash (cc)

  telling_no_place : step ≡ Err NS.NotAPlace → ⊥
  telling_no_place i = go (read s p) (told ∙ ap step_on_paper i)
    where
      go : (d : PlaceRead) → steps d ≡ not_a_place → ⊥
      go (refuses r) k = clash (cc)
      go (reads x) k = on_follow x.follow k
        where
          on_follow : (f : Follow) → leads x.len f ≡ not_a_place → ⊥
          on_follow (next q) k = clash (cc)
          on_follow f k = clash (cc)

  pub telling_no_step : (n : NoStep) → step ≡ Err n → ⊥
  telling_no_step (NS.Refused r) i = telling_refused i
  telling_no_step NS.NotAPlace i = telling_no_place i
