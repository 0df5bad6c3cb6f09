-- Any answer that is gathered from the headers in order: one law for every loop and every leg of a walk.
use Rattle.std.specs.Prelude.{ℕ, ◌≡◌, List, [], ◌∷◌}
use Rattle.std.proofs.Math.Path.{refl, ap}
use Rattle.std.proofs.Common.{◌∙◌}
use Rattle.rules.specs.declared.place.Place.{Place}
use Rattle.rules.specs.declared.refusal.Row.{Row}
use Rattle.rules.specs.Place.{Follow, next, halt, wrong, Stopped, Found, reads, refuses, read}
use Rattle.rules.specs.Walk.{Trace, accepted, refused, unfinished, HeaderAt, header_at, behind, trace, onward}
use Rattle.laws.specs.Walks.{trace-step}

-- how an answer B is gathered: what each header does to the state A, the answer at a stop, the answer at a refusal
pub record Way (A B : Type 0) : Type 0 where
  pub put : A → HeaderAt → A
  pub done : A → Stopped → B
  pub bad : A → Row → B
  -- no frame gets this one
  pub never : B

module _ {A B : Type 0} (w : Way A B) where
  unfoldable pub listed : A → List HeaderAt → A
  listed a [] = a
  listed a (e ∷ es) = listed (w.put a e) es

  unfoldable pub gathered : A → Trace HeaderAt → B
  gathered a (accepted hs x) = w.done (listed a hs) x
  gathered a (refused hs r) = w.bad (listed a hs) r
  gathered a unfinished = w.never

  -- the answer gathered from a place on, with the state a
  unfoldable pub gather : A → List ℕ → Place → B
  gather a s p = gathered a (trace s p)

  -- the same, from behind a header on
  unfoldable pub rest : A → List ℕ → Follow → B
  rest a s f = gathered a (onward s f)

  gathered-behind : (a : A) (e : HeaderAt) (t : Trace HeaderAt) → gathered a (behind e t) ≡ gathered (w.put a e) t
  unfolding gathered listed
  gathered-behind a e (accepted hs x) = refl
  gathered-behind a e (refused hs r) = refl
  gathered-behind a e unfinished = refl

  pub rest_next : (a : A) (s : List ℕ) (q : Place) → rest a s (next q) ≡ gather a s q
  unfolding rest gather
  rest_next a s q = refl

  pub rest_halt : (a : A) (s : List ℕ) (x : Stopped) → rest a s (halt x) ≡ w.done a x
  unfolding rest gathered listed
  rest_halt a s x = refl

  pub rest_wrong : (a : A) (s : List ℕ) (r : Row) → rest a s (wrong r) ≡ w.bad a r
  unfolding rest gathered listed
  rest_wrong a s r = refl

  pub gather_refused : (a : A) (s : List ℕ) (p : Place) {r : Row} → read s p ≡ refuses r → gather a s p ≡ w.bad a r
  unfolding gather gathered listed
  gather_refused a s p e = ap (gathered a) (trace-step s p) ∙ rw e

  pub gather_whole : (a : A) (s : List ℕ) (p : Place) {x : Found} → read s p ≡ reads x → gather a s p ≡ rest (w.put a (header_at p x)) s x.follow
  unfolding gather rest
  gather_whole a s p {x} e = ap (gathered a) (trace-step s p) ∙ rw e (gathered-behind a (header_at p x) (onward s x.follow))
