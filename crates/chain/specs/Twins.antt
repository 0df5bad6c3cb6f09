-- The declared-length sentence for the walk; DeclaredLength.antt has it for the public answers.
use Rattle.std.specs.Prelude.{ℕ, ◌≤◌, ◌+◌, ◌-◌, ◌≡◌, List, length}
use Rattle.std.proofs.Math.Path.{refl, sym, ap}
use Rattle.std.proofs.Common.{◌∙◌, subst, arith}
use Rattle.rules.specs.declared.entry.Entry.{Entry}
use Rattle.rules.specs.declared.kind.Kind.{Kind}
use Rattle.rules.specs.declared.place.Place.{Place}
use Rattle.rules.specs.declared.place.Room.{Room}
use Rattle.rules.specs.Rules.{length_of, declared_of, turn_of}
use Rattle.rules.specs.Place.{Found, Follow, next, follow_of, found_by, leaves, entered, reads, read, bytes, opening}
use Rattle.rules.specs.Walk.{Trace, accepted, refused, unfinished, HeaderAt, behind, onward, step, trace, slices}
use Rattle.laws.specs.Kinds.{Passes, sized, nested}
use Rattle.laws.specs.Reads.{found_at, read-passes, ahead}
use Rattle.laws.specs.Walks.{step_same, trace-step}
use Rattle.laws.specs.Openings.{ending, ending_at, AgreeAt, opening_elsewhere}
use Rattle.chain.specs.Chain.{length_at, room_at, past_at, listed_at, Stands, Leads}
use Rattle.chain.specs.Walked.{stands, next_leads, one_next, steps}
use Rattle.chain.specs.Agree.{AgreeTo, agree_early, same_ending}
use Rattle.chain.specs.Alike.{shown, ending_in}
use Rattle.chain.specs.Padding.{within, IsLink, link-leaves, link-passes, link_turn, sets}

-- ---- what is assumed

-- the declared length of the header at p
abbrev pub declared_at : List ℕ → Place → ℕ
declared_at s p = declared_of p.kind (bytes s p)

-- r is come to from p through link headers alone
pub data Links (s : List ℕ) : Place → Place → Type 0 where
  here : {p : Place} → Links s p p
  onto : {p q r : Place} → IsLink p.kind → Stands s p → Leads s p q → Links s q r → Links s p r

-- from how a frame opens, at its first header: r is the outermost IP header, if it is one
pub data LinksFrom (s : List ℕ) : Follow → Place → Type 0 where
  opened : {p r : Place} → Links s p r → LinksFrom s (next p) r

-- at p stands an accepted header whose declared length is nonzero, and t has all the bytes of s up to that length. That it covers
-- the header and fits its room follows from the tests that it passed (covers_and_fits).
pub record Declares (s t : List ℕ) (p : Place) : Type 0 where
  pub accepted : Stands s p
  pub some : 1 ≤ declared_at s p
  pub there : p.at + declared_at s p ≤ length t
  pub agree : AgreeTo (p.at + declared_at s p) s t

pub covers_and_fits : (s : List ℕ) (p : Place) → Stands s p → 1 ≤ declared_at s p
    → (length_at s p ≤ declared_at s p) × (p.at + declared_at s p ≤ p.room.end)
covers_and_fits s p h o =
    let z = sets p.kind (bytes s p) p.at p.room (p.at + declared_at s p) h.passes o (omega arith) in
    (omega (arith, h.holds, z.sets), omega (arith, h.nested, z.sets))

-- ---- what is told of a walk (Alike.antt)

shown-behind : {A B : Type 0} (f : A → B) (a : A) (t : Trace A) → shown f (behind a t) ≡ behind (f a) (shown f t)
shown-behind f a (accepted hs x) = refl
shown-behind f a (refused hs r) = refl
shown-behind f a unfinished = refl

-- the room of a link header ends where the frame does; this alone may differ, and f does not tell it
abbrev pub Tells : {B : Type 0} → (HeaderAt → B) → Type 0
Tells f = (e : HeaderAt) (n : ℕ) → IsLink e.kind → f e ≡ f (ending_in e n)

-- ---- at the IP header itself

-- the same reading in t
found_same : (s t : List ℕ) (p : Place) → Declares s t p → read t (ending_at p (length t)) ≡ reads (found_at s p)
found_same s t p c =
    let h = c.accepted.passes in
    let n = length t in
    let a = sized p.kind p.room.version (bytes s p) (p.room.end - p.at) h in
    let b = nested p.kind (bytes s p) p.at p.room h in
    let z = sets p.kind (bytes s p) p.at p.room n h c.some c.there in
    let y = same_ending s t p n (p.at + declared_at s p) (omega (arith, z.sets)) (omega (arith, z.sets)) c.there c.agree in
    read-passes t (ending_at p n) (subst (λ (g : ℕ → ℕ). Passes p.kind g p.at (ending p.room n)) y z.passes)
    ∙ ap reads
    (ap (λ (g : ℕ → ℕ). found_by p.kind g p.at (ending p.room n)) (sym y)
    ∙ ap (λ (r : Room). found p.kind (bytes s p) p.at r) z.leaves_it)
  where
    found : Kind → (ℕ → ℕ) → ℕ → Room → Found
    found k g at r = record { room = r; len = length_of k g; follow = follow_of k g at r }

at_ip : (s t : List ℕ) (p : Place) → Declares s t p → trace s p ≡ trace t (ending_at p (length t))
at_ip s t p c =
    let h = c.accepted.passes in
    let z = sets p.kind (bytes s p) p.at p.room (length t) h c.some c.there in
    trace-step s p
    ∙ ap (λ r. step p r (trace s)) (read-passes s p h)
    ∙ step_same p (reads (found_at s p)) (trace s) (trace t)
    (λ x q e f. let l = next_leads s p (ap follow-of (unread e) ∙ f) in
    within (p.at + declared_at s p) s t q (omega (arith, z.sets, ap end_of l.room)) c.agree)
    ∙ ap (λ r. step (ending_at p (length t)) r (trace t)) (sym (found_same s t p c))
    ∙ sym (trace-step t (ending_at p (length t)))
  where
    follow-of : Found → Follow
    follow-of x = x.follow

    end_of : Room → ℕ
    end_of r = r.end

    unread : {x y : Found} → reads x ≡ reads y → x ≡ y
    unread e = cc

-- ---- at the link headers in front of it

-- the same header in t, whose frame ends at n
record Twin (s t : List ℕ) (p q : Place) (n : ℕ) : Type 0 where
  pub stands_too : Stands t (ending_at p n)
  pub leads_too : Leads t (ending_at p n) (ending_at q n)
  pub listed : listed_at t (ending_at p n) ≡ ending_in (listed_at s p) n

twin : (s t : List ℕ) (p q : Place) (n : ℕ) → IsLink p.kind → bytes s p ≡ bytes t (ending_at p n) → past_at s p ≤ n → Leads s p q
    → Twin s t p q n
twin s t p q n k y h l =
    let g = bytes s p in
    let a = link-leaves k g p.at p.room n in
    let b = subst (λ (g : ℕ → ℕ). leaves p.kind g p.at (ending p.room n) ≡ ending (room_at s p) n) y a in
    let d = ap (length_of p.kind) (sym y) in
    let passed = subst (λ (g : ℕ → ℕ). Passes p.kind g p.at (ending p.room n)) y (link-passes k g p.at p.room n h) in
    record {
      stands_too = stands t (ending_at p n) passed;
      leads_too = record {
        names = ap (turn_of p.kind (bytes t (ending_at p n))) b
            ∙ ap (λ (g : ℕ → ℕ). turn_of p.kind g (ending (room_at s p) n)) (sym y)
            ∙ link_turn k g (room_at s p) n ∙ l.names;
        begins = l.begins ∙ ap (λ (m : ℕ). p.at + m) (sym d);
        room = ap (λ (r : Room). ending r n) l.room ∙ sym (ap (entered q.kind) b);
      };
      listed = λ i. record { kind = p.kind; at = p.at; len = d i; room = b i };
    }

-- a place come to lies ahead, in a room inside
links_ahead : {s : List ℕ} {p r : Place} → Links s p r → (p.at ≤ r.at) × (r.room.end ≤ p.room.end)
links_ahead here = omega arith
links_ahead {s} (onto {p} {q} {r} k h l ls) =
    let z = ahead s p q h.passes (one_next l) in
    let y = links_ahead ls in
    omega arith

-- the frames agree on the first header's deciding bytes
links_agree : (s t : List ℕ) {p r : Place} → Links s p r → Declares s t r → AgreeAt s t p
links_agree s t (here {p}) c =
    let x = sized p.kind p.room.version (bytes s p) (p.room.end - p.at) c.accepted.passes in
    let y = covers_and_fits s p c.accepted c.some in
    agree_early s t p (p.at + declared_at s p) (omega arith) c.agree
links_agree s t (onto {p} {q} {r} k h l ls) c =
    let x = sized p.kind p.room.version (bytes s p) (p.room.end - p.at) h.passes in
    let y = links_ahead ls in
    agree_early s t p (r.at + declared_at s r) (omega (arith, l.begins)) c.agree

module _ {B : Type 0} (f : HeaderAt → B) (tells : Tells f) where
  on_the_way : (s t : List ℕ) {p r : Place} → Links s p r → Declares s t r
      → shown f (trace s p) ≡ shown f (trace t (ending_at p (length t)))
  on_the_way s t (here {p}) c = ap (shown f) (at_ip s t p c)
  on_the_way s t (onto {p} {q} {r} k h l ls) c =
      let n = length t in
      let z = ahead s p q h.passes (one_next l) in
      let y = links_ahead ls in
      let x = sized p.kind p.room.version (bytes s p) (p.room.end - p.at) h.passes in
      let w = nested r.kind (bytes s r) r.at r.room c.accepted.passes in
      let v = sets r.kind (bytes s r) r.at r.room n c.accepted.passes c.some c.there in
      let u = same_ending s t p n (r.at + declared_at s r) (omega (arith, z.begins)) (omega (arith, v.sets)) c.there c.agree in
      let m = twin s t p q n k u (omega (arith, z.begins, c.there)) l in
      let too = ap (λ (x : Follow). behind (listed_at t (ending_at p n)) (onward t x)) (one_next m.leads_too) in
      ap (shown f) (steps s p h ∙ ap (λ (x : Follow). behind (listed_at s p) (onward s x)) (one_next l))
      ∙ shown-behind f (listed_at s p) (trace s q)
      ∙ ap (λ (b : B). behind b (shown f (trace s q))) (tells (listed_at s p) n k ∙ ap f (sym m.listed))
      ∙ ap (behind (f (listed_at t (ending_at p n)))) (on_the_way s t ls c)
      ∙ sym (shown-behind f (listed_at t (ending_at p n)) (trace t (ending_at q n)))
      ∙ ap (shown f) (sym (steps t (ending_at p n) m.stands_too ∙ too))

  pub declared_length : (e : Entry) (s t : List ℕ) (p : Place) → LinksFrom s (opening e s) p → Declares s t p
      → shown f (slices e s) ≡ shown f (slices e t)
  unfolding slices
  declared_length e s t p l c = go l refl
    where
      go : {x : Follow} → LinksFrom s x p → opening e s ≡ x → shown f (onward s (opening e s)) ≡ shown f (onward t (opening e t))
      go (opened l) w =
          ap (λ (x : Follow). shown f (onward s x)) w
          ∙ on_the_way s t l c
          ∙ sym (ap (λ (x : Follow). shown f (onward t x)) (opening_elsewhere e s t w (links_agree s t l c)))
