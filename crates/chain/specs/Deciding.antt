-- Only the deciding bytes of the headers that are met matter: two frames of one length that agree on those get one walk, and with it the
-- same answers.
use Rattle.std.specs.Prelude.{ℕ, zero, suc, ◌-◌, ◌≡◌, refl, List, length}
use Rattle.std.proofs.Common.{sym, ap, ◌∙◌, subst}
use Rattle.rules.specs.declared.entry.Entry.{Entry}
use Rattle.rules.specs.declared.place.Place.{Place}
use Rattle.rules.specs.Place.{Follow, next, halt, wrong, Found, bytes, outcome, read, opening}
use Rattle.rules.specs.Walk.{step, walk, trace, onward, slices}
use Rattle.laws.specs.Reads.{parts}
use Rattle.laws.specs.Walks.{step_same}
use Rattle.laws.specs.Openings.{opening_begins, never_halts, ending_at, AgreeAt, opening_elsewhere, wrong_elsewhere}
use Rattle.chain.specs.Chain.{Stands, Leads}
use Rattle.chain.specs.Walked.{stands, next_leads}
use Rattle.chain.specs.Agree.{same_deciding}
use Rattle.chain.specs.Alike.{shown, blank, Alike}

-- q is a place that the walk of s from p comes to, refused or not
pub data Reach (s : List ℕ) : Place → Place → Type 0 where
  here : {p : Place} → Reach s p p
  onto : {p q r : Place} → Stands s p → Leads s p q → Reach s q r → Reach s p r

-- from how a frame opens: at a place; the walk of one that does not open comes to none
pub data ReachFrom (s : List ℕ) : Follow → Place → Type 0 where
  opened : {p q : Place} → Reach s p q → ReachFrom s (next p) q

pub same_read : (s t : List ℕ) (p : Place) → bytes s p ≡ bytes t p → read s p ≡ read t p
unfolding read outcome
same_read s t p e = rw e

walks_agree : (n : ℕ) (s t : List ℕ) (p : Place) → ((q : Place) → Reach s p q → AgreeAt s t q) → walk n s p ≡ walk n t p
unfolding walk
walks_agree zero s t p h = refl
walks_agree (suc n) s t p h =
    step_same p (read s p) (walk n s) (walk n t)
    (λ x q e f. let z = parts s p e in
    let l = next_leads s p (ap (λ (y : Found). y.follow) (sym z.found) ∙ f) in
    walks_agree n s t q (λ r m. h r (onto (stands s p z.passed) l m)))
    ∙ ap (λ r. step p r (walk n t)) (same_read s t p (same_deciding s t p (h p here)))

traces_agree : (s t : List ℕ) (p : Place) → ((q : Place) → Reach s p q → AgreeAt s t q) → trace s p ≡ trace t p
unfolding trace
traces_agree s t p h = walks_agree (suc (p.room.end - p.at)) s t p h

pub deciding-bytes : (e : Entry) (s t : List ℕ) → length s ≡ length t → ((q : Place) → ReachFrom s (opening e s) q → AgreeAt s t q)
    → slices e s ≡ slices e t
unfolding slices
deciding-bytes e s t l h = go (opening e s) refl
  where
    go : (f : Follow) → opening e s ≡ f → onward s (opening e s) ≡ onward t (opening e t)
    go (next p) w =
        let agree : (q : Place) → Reach s p q → AgreeAt s t q = λ q m. h q (subst (λ (f : Follow). ReachFrom s f q) (sym w) (opened m)) in
        let there = opening_elsewhere e s t w (agree p here) in
        let same = ap (ending_at p) (sym l ∙ sym (opening_begins e s w).whole_room) in
        ap (onward s) w ∙ traces_agree s t p agree ∙ ap (onward t) (ap next (sym same) ∙ sym there)
    go (halt x) w = absurd (never_halts e s w)
    go (wrong r) w = ap (onward s) w ∙ ap (onward t) (sym (wrong_elsewhere e s t w l))

-- so such frames are alike, and get the same public answers (Alike.antt)
pub agreeing_alike : (e : Entry) (s t : List ℕ) → length s ≡ length t → ((q : Place) → ReachFrom s (opening e s) q → AgreeAt s t q) → Alike e s t
agreeing_alike e s t l h = ap (shown blank) (deciding-bytes e s t l h)
