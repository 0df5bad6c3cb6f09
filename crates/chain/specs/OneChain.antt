-- "it has at most one": two chains of a frame have the same headers and the same stop.
use Rattle.std.specs.Prelude.{ℕ, ◌≡◌, List}
use Rattle.std.proofs.Common.{sym, ◌∙◌}
use Rattle.rules.specs.declared.entry.Entry.{Entry}
use Rattle.rules.specs.declared.place.Place.{Place}
use Rattle.rules.specs.declared.refusal.Row.{Row}
use Rattle.rules.specs.Place.{Stopped}
use Rattle.rules.specs.Walk.{HeaderAt}
use Rattle.chain.specs.Chain.{Chain, ChainOf}
use Rattle.chain.specs.Broken.{Broken, BrokenOf}
use Rattle.chain.specs.Walked.{chain→trace, broken→trace, chain→slices, broken→slices}

-- from a place on
pub one_chain : {s : List ℕ} {p : Place} {hs hs' : List HeaderAt} {x x' : Stopped} → Chain s p hs x → Chain s p hs' x'
    → (hs ≡ hs') × (x ≡ x')
one_chain a b = let z = sym (chain→trace a) ∙ chain→trace b in (cc, cc)

-- and a frame that has a chain is not refused
pub not_both : {s : List ℕ} {p : Place} {hs hs' : List HeaderAt} {x : Stopped} {r : Row} → Chain s p hs x → Broken s p hs' r → ⊥
not_both a b = let z = sym (chain→trace a) ∙ broken→trace b in cc

-- ---- of a frame, by its entry

pub one_chain_of : (e : Entry) (s : List ℕ) {hs hs' : List HeaderAt} {x x' : Stopped} → ChainOf e s hs x → ChainOf e s hs' x'
    → (hs ≡ hs') × (x ≡ x')
one_chain_of e s a b = let z = sym (chain→slices e s a) ∙ chain→slices e s b in (cc, cc)

pub not_both_of : (e : Entry) (s : List ℕ) {hs hs' : List HeaderAt} {x : Stopped} {r : Row} → ChainOf e s hs x → BrokenOf e s hs' r → ⊥
not_both_of e s a b =
    let z = sym (chain→slices e s a) ∙ broken→slices e s b in
    cc
