-- The walk of crate rules ends accepted exactly at a chain, and refused exactly at a broken one.
use Rattle.std.specs.Prelude.{ℕ, zero, suc, ◌-◌, Bool}
use Rattle.std.proofs.Math.Path.{◌≡◌, refl, subst}
use Rattle.std.proofs.Common.{sym, ap, ◌∙◌, arith}
use mathlib.Core.List.{List, [], ◌∷◌}
use Rattle.std.proofs.Math.Bool.{true, false}
use Rattle.rules.specs.declared.entry.Entry.{Entry}
use Rattle.rules.specs.declared.kind.Kind.TheVariants.{HopByHop}
use Rattle.rules.specs.declared.kind.Layer.TheVariants.{Of}
use Rattle.rules.specs.declared.place.Place.{Place}
use Rattle.rules.specs.declared.refusal.Row.{Row}
use Rattle.rules.specs.declared.turn.Turn.{Turn}
use Rattle.rules.specs.declared.turn.Turn.TheVariants as T
use Rattle.rules.specs.Numbers.{hop_by_hop_not_at_start}
use Rattle.rules.specs.Test.{Test, passes, Failure, other, failure, Verdict, whole, failed, judge, pass, placed}
use Rattle.rules.specs.Rules.{turn_of, names_of, payload_of}
use Rattle.rules.specs.Place.{Stopped, Follow, next, halt, wrong, follow, follow_of, opening}
use Rattle.rules.specs.Place.{Found, PlaceRead, reads, refuses, settle, bytes, outcome, read}
use Rattle.rules.specs.Walk.{Trace, accepted, refused, unfinished, HeaderAt, header_at, behind, onward_by, onward, step, walk, trace, slices}
use Rattle.laws.specs.Tests.{holds}
use Rattle.laws.specs.Kinds.{sized, nested}
use Rattle.laws.specs.Reads.{found_at, PassesAt, read-passes, read_failed, parts}
use Rattle.laws.specs.Walks.{trace-step, finished}
use Rattle.laws.specs.Openings.{never_halts}
use Rattle.chain.specs.Chain.{room_at, past_at, listed_at, Stands, Leads, Stops, Chain, last, more, ChainFrom, opened, ChainOf}
use Rattle.chain.specs.Broken.{FirstFailed, this, later, Broken, fails, late_hop, more as broken-more}
use Rattle.chain.specs.Broken.{BrokenFrom, opened as broken-opened, unopened, BrokenOf}

-- ---- one header

pub stands : (s : List ℕ) (p : Place) → PassesAt s p → Stands s p
stands s p h =
    let a = sized p.kind p.room.version (bytes s p) (p.room.end - p.at) h in
    let b = nested p.kind (bytes s p) p.at p.room h in
    record { passes = h; inside = omega arith; holds = b.holds; nested = b.inside }

module _ {A : Type 0} (x : A) where
  pub judged_first : (ts : List Test) {f : Failure} → judge ts x ≡ failed f → FirstFailed ts f
  unfolding judge
  judged_first [] e = cc
  judged_first (t ∷ ts) {f} e = go (passes t) refl (judged_first ts)
    where
      go : (b : Bool) → passes t ≡ b → (judge ts x ≡ failed f → FirstFailed ts f) → FirstFailed (t ∷ ts) f
      go true q rec = later (holds t q) (rec (cc))
      go false q rec =
          let z : failure t ≡ f = cc in
          subst (FirstFailed (t ∷ ts)) z (this (λ h. let y = pass t h in cc))

  pub first_judged : {ts : List Test} {f : Failure} → FirstFailed ts f → judge ts x ≡ failed f
  unfolding judge
  first_judged (this {t} {ts} h) = go (passes t) refl
    where
      go : (b : Bool) → passes t ≡ b → judge (t ∷ ts) x ≡ failed (failure t)
      go true q = absurd (h (holds t q))
      go false q = rw q
  first_judged (later {t} h r) = rw (pass t h) (first_judged r)

-- ---- behind one header

-- what follows is what the number names, as the table of rules has it
data Follows (s : List ℕ) (p : Place) : Follow → Type 0 where
  leads : {q : Place} → Leads s p q → Follows s p (next q)
  ends : {x : Stopped} → Stops s p x → Follows s p (halt x)
  bad : turn_of p.kind (bytes s p) (room_at s p) ≡ T.LateHopByHop
      → Follows s p (wrong (placed (other hop_by_hop_not_at_start (Of HopByHop) 0) (past_at s p) (room_at s p).source))

follows : (s : List ℕ) (p : Place) → Follows s p (found_at s p).follow
unfolding follow_of follow
follows s p = go (turn_of p.kind (bytes s p) (room_at s p)) refl
  where
    go : (t : Turn) → turn_of p.kind (bytes s p) (room_at s p) ≡ t
        → Follows s p (follow t (room_at s p) (past_at s p) (names_of p.kind (bytes s p)) (payload_of p.kind (bytes s p) p.at (room_at s p)))
    go (T.Opens k) e = leads (record { names = e; begins = refl; room = refl })
    go (T.Stops stop) e = ends (record { stop = stop; turns = e; why = refl; number = refl; begins = refl; len = refl })
    go T.LateHopByHop e = bad e

follows_next : {s : List ℕ} {p q : Place} {f : Follow} → Follows s p f → f ≡ next q → Leads s p q
follows_next {s} {p} {q} (leads {q = q'} l) e = let z : q' ≡ q = cc in subst (Leads s p) z l
follows_next (ends c) e = cc
follows_next (bad c) e = cc

pub next_leads : (s : List ℕ) (p : Place) {q : Place} → (found_at s p).follow ≡ next q → Leads s p q
next_leads s p e = follows_next (follows s p) e

-- the place, the stop and the refusal are settled by the header
pub one_next : {s : List ℕ} {p q : Place} → Leads s p q → (found_at s p).follow ≡ next q
unfolding follow_of follow
one_next {s} {p} {q} l =
    let a = sym l.begins in
    let b = sym l.room in
    rw l.names (ap next (λ i. record { at = a i; room = b i; kind = q.kind }))

one_stop : {s : List ℕ} {p : Place} {x : Stopped} → Stops s p x → (found_at s p).follow ≡ halt x
unfolding follow_of follow
one_stop {s} {p} {x} c =
    let a = sym c.number in
    let b = sym c.begins in
    let d = sym c.len in
    let w = sym c.why in
    rw c.turns (ap halt (λ i. record { why = w i; number = a i; at = b i; len = d i }))

one_late : (s : List ℕ) (p : Place) → turn_of p.kind (bytes s p) (room_at s p) ≡ T.LateHopByHop
    → (found_at s p).follow ≡ wrong (placed (other hop_by_hop_not_at_start (Of HopByHop) 0) (past_at s p) (room_at s p).source)
unfolding follow_of follow
one_late s p e = rw e

-- ---- the walk

-- one step of the walk at a header that stands
pub steps : (s : List ℕ) (p : Place) → Stands s p → trace s p ≡ behind (listed_at s p) (onward_by (trace s) (found_at s p).follow)
steps s p h = trace-step s p ∙ rw (read-passes s p h.passes)

pub chain→trace : {s : List ℕ} {p : Place} {hs : List HeaderAt} {x : Stopped} → Chain s p hs x → trace s p ≡ accepted hs x
chain→trace {s} (last {p} h c) = steps s p h ∙ rw (one_stop c)
chain→trace {s} (more {p} h l c) = steps s p h ∙ rw (one_next l) (rw (chain→trace c))

pub broken→trace : {s : List ℕ} {p : Place} {hs : List HeaderAt} {r : Row} → Broken s p hs r → trace s p ≡ refused hs r
unfolding outcome
broken→trace {s} (fails {p} f) = trace-step s p ∙ rw (read_failed s p (first_judged _ f))
broken→trace {s} (late_hop {p} h e) = steps s p h ∙ rw (one_late s p e)
broken→trace {s} (broken-more {p} h l b) = steps s p h ∙ rw (one_next l) (rw (broken→trace b))

-- what a walk from p means by how it ended
abbrev pub Means : List ℕ → Place → Trace HeaderAt → Type 0
Means s p (accepted hs x) = Chain s p hs x
Means s p (refused hs r) = Broken s p hs r
Means s p unfinished = Unit

put : {s : List ℕ} {p q : Place} (t : Trace HeaderAt) → Stands s p → Leads s p q → Means s q t → Means s p (behind (listed_at s p) t)
put (accepted hs x) h l m = more h l m
put (refused hs r) h l m = broken-more h l m
put unfinished h l m = tt

onward-means : {s : List ℕ} {p : Place} (go : Place → Trace HeaderAt) {f : Follow} → Stands s p → Follows s p f → ((q : Place) → Means s q (go q))
    → Means s p (behind (listed_at s p) (onward_by go f))
onward-means go h (leads {q} l) m = put (go q) h l (m q)
onward-means go h (ends c) m = last h c
onward-means go h (bad e) m = late_hop h e

settle_refuses : (v : Verdict Found) (p : Place) {r : Row} → settle v p.at p.room.source ≡ refuses r
    → (f : Failure) × (v ≡ failed f) × (placed f p.at p.room.source ≡ r)
settle_refuses (whole y) p e = cc
settle_refuses (failed f) p e = (f, refl, cc)

step-means : (s : List ℕ) (p : Place) (go : Place → Trace HeaderAt) → ((q : Place) → Means s q (go q)) → (r : PlaceRead) → read s p ≡ r → Means s p (step p r go)
unfolding read outcome
step-means s p go m (refuses r) e =
    let z = settle_refuses (outcome s p) p e in
    subst (Broken s p []) z.2 (fails (judged_first _ _ z.1))
step-means s p go m (reads x) e =
    let z = parts s p e in
    subst (λ (y : Found). Means s p (behind (header_at p y) (onward_by go y.follow))) (sym z.found)
    (onward-means go (stands s p z.passed) (follows s p) m)

walk-means : (n : ℕ) (s : List ℕ) (p : Place) → Means s p (walk n s p)
unfolding walk
walk-means zero s p = tt
walk-means (suc n) s p = step-means s p (walk n s) (walk-means n s) (read s p) refl

pub trace-means : (s : List ℕ) (p : Place) {t : Trace HeaderAt} → trace s p ≡ t → Means s p t
unfolding trace
trace-means s p e = subst (Means s p) e (walk-means (suc (p.room.end - p.at)) s p)

-- ---- by the entry

-- any frame has a chain or a broken one: "Any bytes get an answer."
pub data Walked (e : Entry) (s : List ℕ) : Trace HeaderAt → Type 0 where
  whole_walk : {hs : List HeaderAt} {x : Stopped} → ChainOf e s hs x → Walked e s (accepted hs x)
  broken_walk : {hs : List HeaderAt} {r : Row} → BrokenOf e s hs r → Walked e s (refused hs r)

pub walked : (e : Entry) (s : List ℕ) → Walked e s (slices e s)
unfolding slices
walked e s = go (opening e s) refl
  where
    from : (p : Place) → opening e s ≡ next p → (t : Trace HeaderAt) → trace s p ≡ t → Walked e s t
    from p q (accepted hs x) w = whole_walk (subst (λ (f : Follow). ChainFrom s f hs x) (sym q) (opened (trace-means s p w)))
    from p q (refused hs r) w = broken_walk (subst (λ (f : Follow). BrokenFrom s f hs r) (sym q) (broken-opened (trace-means s p w)))
    from p q unfinished w = absurd (finished s p w)

    go : (f : Follow) → opening e s ≡ f → Walked e s (onward s f)
    go (next p) q = from p q (trace s p) refl
    go (halt x) q = absurd (never_halts e s q)
    go (wrong r) q = broken_walk (subst (λ (f : Follow). BrokenFrom s f [] r) (sym q) unopened)

-- the same as a type that computes by how the walk ended
abbrev pub MeansOf : Entry → List ℕ → Trace HeaderAt → Type 0
MeansOf e s (accepted hs x) = ChainOf e s hs x
MeansOf e s (refused hs r) = BrokenOf e s hs r
MeansOf e s unfinished = ⊥

pub means_of : (e : Entry) (s : List ℕ) → MeansOf e s (slices e s)
means_of e s = go (walked e s)
  where
    go : {t : Trace HeaderAt} → Walked e s t → MeansOf e s t
    go (whole_walk c) = c
    go (broken_walk b) = b

pub chain→slices : (e : Entry) (s : List ℕ) {hs : List HeaderAt} {x : Stopped} → ChainOf e s hs x → slices e s ≡ accepted hs x
unfolding slices
chain→slices e s c = go c
  where
    go : {f : Follow} {hs : List HeaderAt} {x : Stopped} → ChainFrom s f hs x → onward s f ≡ accepted hs x
    go (opened c) = chain→trace c

pub broken→slices : (e : Entry) (s : List ℕ) {hs : List HeaderAt} {r : Row} → BrokenOf e s hs r → slices e s ≡ refused hs r
unfolding slices
broken→slices e s b = go b
  where
    go : {f : Follow} {hs : List HeaderAt} {r : Row} → BrokenFrom s f hs r → onward s f ≡ refused hs r
    go (broken-opened b) = broken→trace b
    go unopened = refl
