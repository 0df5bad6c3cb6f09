-- The walk, one header at a time, with no word of its fuel.
use Rattle.std.specs.Prelude.{ℕ, zero, suc, ◌<◌, ◌≤◌, ◌-◌, ◌≡◌, refl, List, [], ◌∷◌, map, length}
use Rattle.std.proofs.Common.{ap, arith}
use Rattle.rules.specs.declared.place.Place.{Place}
use Rattle.rules.specs.Place.{Follow, next, halt, wrong, Found, PlaceRead, reads, refuses, read}
use Rattle.rules.specs.Walk.{Trace, accepted, refused, unfinished, HeaderAt, header_at, behind, onward_by, step, walk, trace, header, nth, no-more}
use Rattle.laws.specs.Reads.{goes}

onward_same : (x : Follow) (f g : Place → Trace HeaderAt) → ((q : Place) → x ≡ next q → f q ≡ g q) → onward_by f x ≡ onward_by g x
onward_same (next q) f g h = h q refl
onward_same (halt x) f g h = refl
onward_same (wrong r) f g h = refl

-- two walks that agree behind every next place agree
pub step_same : (p : Place) (r : PlaceRead) (f g : Place → Trace HeaderAt) → ((x : Found) (q : Place) → r ≡ reads x → x.follow ≡ next q → f q ≡ g q) → step p r f ≡ step p r g
step_same p (refuses r) f g h = refl
step_same p (reads x) f g h = ap (behind (header_at p x)) (onward_same x.follow f g (λ q e. h x q refl e))

enough : (n m : ℕ) (s : List ℕ) (p : Place) → p.room.end - p.at < n → p.room.end - p.at < m → walk n s p ≡ walk m s p
unfolding walk
enough zero m s p a b = absurd (omega arith)
enough (suc n) zero s p a b = absurd (omega arith)
enough (suc n) (suc m) s p a b =
    step_same p (read s p) (walk n s) (walk m s) (λ x q e f. let z = goes s p e f in enough n m s q (omega arith) (omega arith))

pub trace-step : (s : List ℕ) (p : Place) → trace s p ≡ step p (read s p) (trace s)
unfolding trace walk
trace-step s p =
    step_same p (read s p) (walk (p.room.end - p.at) s) (trace s)
    (λ x q e f. let z = goes s p e f in enough (p.room.end - p.at) (suc (q.room.end - q.at)) s q (omega arith) (omega arith))

-- ---- the walk ends

behind-ends : {A : Type 0} (h : A) (t : Trace A) → behind h t ≡ unfinished → t ≡ unfinished
behind-ends h (accepted hs x) e = cc
behind-ends h (refused hs r) e = cc
behind-ends h unfinished e = refl

onward-ends : (x : Follow) (go : Place → Trace HeaderAt) → ((q : Place) → x ≡ next q → go q ≡ unfinished → ⊥) → onward_by go x ≡ unfinished → ⊥
onward-ends (next q) go f e = f q refl e
onward-ends (halt x) go f e = cc
onward-ends (wrong r) go f e = cc

step-ends : (p : Place) (r : PlaceRead) (go : Place → Trace HeaderAt) → ((x : Found) (q : Place) → r ≡ reads x → x.follow ≡ next q → go q ≡ unfinished → ⊥) → step p r go ≡ unfinished → ⊥
step-ends p (refuses r) go f e = cc
step-ends p (reads x) go f e = onward-ends x.follow go (λ q w. f x q refl w) (behind-ends _ _ e)

walk_ends : (n : ℕ) (s : List ℕ) (p : Place) → p.room.end - p.at < n → walk n s p ≡ unfinished → ⊥
unfolding walk
walk_ends zero s p h e = omega arith
walk_ends (suc n) s p h e = step-ends p (read s p) (walk n s) (λ x q r w. let z = goes s p r w in walk_ends n s q (omega arith)) e

-- no frame's walk runs out of steps
pub finished : (s : List ℕ) (p : Place) → trace s p ≡ unfinished → ⊥
unfolding trace
finished s p = walk_ends (suc (p.room.end - p.at)) s p (omega arith)

-- past the last header there is no more
pub nth_past : (hs : List HeaderAt) (k : ℕ) → length hs ≤ k → nth (map header hs) k ≡ no-more
nth_past [] k h = refl
nth_past (e ∷ hs) zero h = absurd (omega arith)
nth_past (e ∷ hs) (suc k) h = nth_past hs k (omega arith)
