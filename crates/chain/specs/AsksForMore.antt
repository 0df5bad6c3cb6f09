-- "Each short-length refusal asks for more than there was": for a reader's fault, a step, the reply, header k, the count, the list's answer
-- and the exports. All of them come to the lemma on `judge`.
use Rattle.std.specs.Prelude.{ℕ, ◌<◌, ◌-◌, ◌≡◌, refl, Bool, true, false, List, [], ◌∷◌, leb, length, Err}
use Rattle.std.proofs.Common.{sym, ap, ◌∙◌, subst, arith}
use Rattle.rules.specs.declared.entry.Entry.{Entry}
use Rattle.rules.specs.declared.kind.Kind.{Kind}
use Rattle.rules.specs.declared.kind.Kind.TheVariants.{Ethernet2, Vlan, Ipv4, Ipv6, HopByHop, Routing, Destination, Fragment, Auth, Udp, Tcp}
use Rattle.rules.specs.declared.kind.Layer.{Layer}
use Rattle.rules.specs.declared.kind.Layer.TheVariants.{Of}
use Rattle.rules.specs.declared.kind.RoomSource.{RoomSource}
use Rattle.rules.specs.declared.kind.Source.{Source}
use Rattle.rules.specs.declared.place.Number.{Number}
use Rattle.rules.specs.declared.place.Place.{Place}
use Rattle.rules.specs.declared.place.Room.{Room}
use Rattle.rules.specs.declared.refusal.Bound.{Bound}
use Rattle.rules.specs.declared.refusal.Fault.TheVariants as F
use Rattle.rules.specs.declared.refusal.Refusal.{Refusal}
use Rattle.rules.specs.declared.refusal.Refusal.TheVariants as R
use Rattle.rules.specs.declared.refusal.Row.{Row}
use Rattle.rules.specs.declared.turn.Turn.{Turn}
use Rattle.rules.specs.declared.turn.Turn.TheVariants as T
use Rattle.rules.specs.Numbers.{too_short, hop_by_hop_not_at_start, tag_limit, ip_limit}
use Rattle.rules.specs.Paper.{fault_on_paper}
use Rattle.rules.specs.Test.{pick, Test, fits, least, same, Failure, short, other, Verdict, whole, failed, judge, placed}
use Rattle.rules.specs.Rules.{Rule, rule, raw_rule, tests, tests_by, seen_by, says}
use Rattle.rules.specs.Place.{Found, Follow, next, halt, wrong, follow, follow_of, PlaceRead, reads, refuses, settle, outcome, read, bytes, opening}
use Rattle.rules.specs.Walk.{HeaderAt}
use Rattle.laws.specs.Openings.{Asks, opening-asks}
use Rattle.laws.specs.Reads.{parts}
use Rattle.steps.specs.declared.place.NoStep.TheVariants as N
use Rattle.steps.specs.Places.{Stepped, refused, not_a_place, leads, steps, step_says}
use Rattle.chain.specs.Chain.{past_at, room_at}
use Rattle.chain.specs.Broken.{FirstFailed, this, later, Broken, fails, late_hop, more, BrokenFrom, opened, unopened, BrokenOf}
use Rattle.chain.specs.Walked.{judged_first}
use Rattle.chain.specs.Refused.{RefusedForAReason}
use Rattle.chain.specs.Answers.{StepIs}

-- ---- refusal 1 is a failed length test and no other: a test that is none carries another number

abbrev NotShort : Failure → Type 0
NotShort (short layer required have bound) = ⊥
NotShort (other n layer value) = n ≡ too_short → ⊥

abbrev Fair : Test → Type 0
Fair (fits layer required have bound) = Unit
Fair (least a b f) = NotShort f
Fair (same a b f) = NotShort f

abbrev AllFair : List Test → Type 0
AllFair [] = Unit
AllFair (t ∷ ts) = Fair t × AllFair ts

fair : (k : Kind) (v : ℕ) (g : ℕ → ℕ) (have : ℕ) → AllFair (tests k v g have)
unfolding tests_by
fair Ethernet2 v g have = (tt, tt)
fair Vlan v g have = (tt, tt)
fair Ipv4 v g have = (tt, (λ e. omega arith, (λ e. omega arith, (tt, (tt, (tt, tt))))))
fair Ipv6 v g have = (tt, (λ e. omega arith, (tt, tt)))
fair HopByHop v g have = (tt, (tt, tt))
fair Routing v g have = (tt, (tt, tt))
fair Destination v g have = (tt, (tt, tt))
fair Fragment v g have = (tt, tt)
fair Auth v g have = (tt, (λ e. omega arith, (tt, tt)))
fair Udp v g have = (tt, (tt, (tt, tt)))
fair Tcp v g have = (tt, (λ e. omega arith, (tt, tt)))

-- ---- the lemma: a failure of ordered tests that is short asks for more than there was

abbrev pub Sound : Failure → Type 0
Sound (short layer required have bound) = have < required
Sound (other n layer value) = n ≡ too_short → ⊥

not_short : (f : Failure) → NotShort f → Sound f
not_short (short layer required have bound) h = absurd h
not_short (other n layer value) h = h

sound : {ts : List Test} {f : Failure} → AllFair ts → FirstFailed ts f → Sound f
sound a (this {t = fits layer required have bound} h) = omega arith
sound a (this {t = least x y f} h) = not_short f a.0
sound a (this {t = same x y f} h) = not_short f a.0
sound a (later h b) = sound a.1 b

pub judge-asks_for_more : {A : Type 0} (x : A) (ts : List Test) {f : Failure} → AllFair ts → judge ts x ≡ failed f → Sound f
judge-asks_for_more x ts a e = sound a (judged_first x ts e)

-- ---- a reader's fault: every contract of crate headers says that the answer on paper is what `says` gives

fault_asks : {A : Type 0} (k : Kind) (r : Rule) (v : ℕ) (fields : (ℕ → ℕ) → ℕ → A) (w : List ℕ) {f : Failure}
    → AllFair (tests_by k r v (seen_by r w) (length w)) → failed f ≡ says k r v fields w → Sound f
unfolding says
fault_asks k r v fields w a e = judge-asks_for_more _ _ a (sym e)

module _ {A : Type 0} (k : Kind) (v : ℕ) (fields : (ℕ → ℕ) → ℕ → A) (w : List ℕ) (required have : ℕ) (layer : Layer) (bound : Bound) where
  pub reader_asks_for_more : failed (fault_on_paper (F.TooShort required have layer bound)) ≡ says k (rule k) v fields w → have < required
  reader_asks_for_more e = fault_asks k (rule k) v fields w (fair k v (seen_by (rule k) w) (length w)) e

  -- the raw shape, under any kind's name
  pub raw_reader_asks_for_more : failed (fault_on_paper (F.TooShort required have layer bound)) ≡ says k (raw_rule k) v fields w → have < required
  unfolding tests_by
  raw_reader_asks_for_more e = fault_asks k (raw_rule k) v fields w (tt, (tt, tt)) e

-- ---- a row (Asks of crate laws): its values are then required and have, in this order

asks : (f : Failure) (at : ℕ) (room : RoomSource) → Sound f → Asks (placed f at room)
asks (short layer a b bound) at room h required have source n v = omega (arith, h, first v, second v)
  where
    first : {x y z x' y' z' : ℕ} → ◌≡◌ {A = List ℕ} (x ∷ y ∷ z ∷ []) (x' ∷ y' ∷ z' ∷ []) → x ≡ x'
    first e = cc

    second : {x y z x' y' z' : ℕ} → ◌≡◌ {A = List ℕ} (x ∷ y ∷ z ∷ []) (x' ∷ y' ∷ z' ∷ []) → y ≡ y'
    second e = cc
asks (other m layer value) at room h required have source n v = absurd (h n)

-- number 0 where no hop-by-hop header may stand is no short-length refusal
late_asks : (at : ℕ) (room : RoomSource) → Asks (placed (other hop_by_hop_not_at_start (Of HopByHop) 0) at room)
late_asks at room required have source n v = absurd (omega arith)

-- ---- a step

settle-asks : (v : Verdict Found) (at : ℕ) (room : RoomSource) {r : Row} → ((f : Failure) → v ≡ failed f → Sound f) → settle v at room ≡ refuses r → Asks r
settle-asks (whole x) at room h e = cc
settle-asks (failed f) at room {r} h e = let z : placed f at room ≡ r = cc in subst Asks z (asks f at room (h f refl))

read-asks : (s : List ℕ) (p : Place) {r : Row} → read s p ≡ refuses r → Asks r
unfolding read outcome
read-asks s p e =
    settle-asks (outcome s p) p.at p.room.source
    (λ f q. judge-asks_for_more _ _ (fair p.kind p.room.version (bytes s p) (p.room.end - p.at)) q) e

follow-asks : (t : Turn) (p : Room) (past : ℕ) (n : Number) (to : ℕ) {r : Row} → follow t p past n to ≡ wrong r → Asks r
unfolding follow
follow-asks (T.Opens k) p past n to e = cc
follow-asks (T.Stops stop) p past n to e = cc
follow-asks T.LateHopByHop p past n to {r} e =
    let z : placed (other hop_by_hop_not_at_start (Of HopByHop) 0) past p.source ≡ r = cc in
    subst Asks z (late_asks past p.source)

steps_ask : (s : List ℕ) (p : Place) {r : Row} → steps (read s p) ≡ refused r → Asks r
unfolding follow_of
steps_ask s p {r} e = go (read s p) refl e
  where
    un : {a b : Row} → refused a ≡ refused b → a ≡ b
    un e = cc

    leads_ask : (len : ℕ) (f : Follow) → ((q : Row) → f ≡ wrong q → Asks q) → leads len f ≡ refused r → Asks r
    leads_ask len (next q) h e = cc
    leads_ask len (halt x) h e = cc
    leads_ask len (wrong q) h e = subst Asks (un e) (h q refl)

    go : (d : PlaceRead) → read s p ≡ d → steps d ≡ refused r → Asks r
    go (refuses q) w e = subst Asks (un e) (read-asks s p w)
    go (reads x) w e =
        leads_ask x.len x.follow
        (λ q o. follow-asks _ _ _ _ _ (ap (λ (y : Found). y.follow) (sym (parts s p w).found) ∙ o)) e

pick_refused : (b : Bool) {u : Stepped} {r : Row} → pick b u not_a_place ≡ refused r → u ≡ refused r
pick_refused true e = e
pick_refused false e = cc

pub step-asks_for_more : (s : List ℕ) (p : Place) (offset required have : ℕ) (layer : Layer) (source : Source)
    → StepIs s p (Err (N.Refused (R.TooShort offset required have layer source))) → have < required
unfolding step_says
step-asks_for_more s p offset required have layer source e =
    steps_ask s p
    (pick_refused (leb p.room.ips ip_limit)
    (pick_refused (leb p.room.tags tag_limit)
    (pick_refused (leb p.at p.room.end) (pick_refused (leb p.room.end (length s)) (sym e)))))
    required have _ refl refl

-- ---- a walk that breaks

pub row-asks_for_more : {s : List ℕ} {p : Place} {hs : List HeaderAt} {r : Row} → Broken s p hs r → Asks r
row-asks_for_more {s} (fails {p} {f} b) =
    let a = fair p.kind p.room.version (bytes s p) (p.room.end - p.at) in
    asks f p.at p.room.source (sound a b)
row-asks_for_more {s} (late_hop {p} h e) = late_asks (past_at s p) (room_at s p).source
row-asks_for_more (more h l b) = row-asks_for_more b

-- of a frame, by its entry
pub frame_asks_for_more : (e : Entry) (s : List ℕ) {hs : List HeaderAt} {r : Row} → BrokenOf e s hs r → Asks r
frame_asks_for_more e s b = go b refl
  where
    go : {f : Follow} {hs : List HeaderAt} {r : Row} → BrokenFrom s f hs r → opening e s ≡ f → Asks r
    go (opened b) q = row-asks_for_more b
    go unopened q = opening-asks e s q

-- ---- every answer that is refused for a reason: the reply, header k, the count, and with it the list's answer (Refused.antt)

pub short-asks_for_more : (entry : Entry) (s : List ℕ) (Is : Refusal → Type 0) → RefusedForAReason entry s Is
    → (offset required have : ℕ) (layer : Layer) (source : Source) → Is (R.TooShort offset required have layer source) → have < required
short-asks_for_more entry s Is a offset required have layer source i =
    let b = (a.breaks (R.TooShort offset required have layer source) i).1 in
    frame_asks_for_more entry s b required have _ refl refl
