-- The reply put together: tag slots, and what the link's end leads to. Assumes nothing.
use Prim.Native.Nat.{ℕ, zero, suc, ◌+◌, ◌-◌, ◌*◌}
use denote.Param.Members.{Mut}
use Rattle.std.specs.Array.{IsFromFnResult}
use Rattle.std.specs.Fn.{Called}
use mathlib.Core.Path.{◌≡◌, refl, ap, ◌∙◌, subst}
use mathlib.Core.List.{List, [], ◌∷◌}
use mathlib.Core.Bool.{false}
use Rattle.std.proofs.Common.{lt-ltb}
use native.Mathlib.Omega.{arith}
use lib.ListN.{length}
use lib.Dec.{ltb}
use Rattle.rules.specs.declared.entry.Entry.{Entry}
use Rattle.rules.specs.declared.kind.Kind.TheVariants.{Vlan}
use Rattle.rules.specs.declared.place.Header.{Header}
use Rattle.rules.specs.declared.place.Number.TheVariants.{Link}
use Rattle.rules.specs.declared.stop.Stop.{Stop}
use Rattle.rules.specs.Numbers.{ethernet_length, tag_length, tag_limit}
use Rattle.rules.specs.Test.{pick}
use Rattle.rules.specs.Place.{next, follow, opening, ending_on_paper}
use Rattle.rules.specs.Walk.{slices}
use Rattle.laws.specs.Gather.{rest, rest_next, rest_halt}
use Rattle.one_header.specs.declared.ip.IpKind.{IpKind}
use Rattle.one_header.specs.declared.ip.IpKind.TheVariants as I
use Rattle.one_header.specs.declared.onward.Onward.{Onward}
use Rattle.one_header.specs.declared.onward.Onward.TheVariants as D
use Rattle.one_header.specs.Turns.{link_end_on_paper, ip_kind_of}
use Rattle.slicer.specs.declared.link.LinkFound.{LinkFound}
use Rattle.slicer.specs.Reply.{nothing, range, no_header, slots, accepted_by, Reply, reply_of, slice_way}
use Rattle.slicer.specs.Legs.{on_turn, head_of, tags_from, link_parts, room_behind, behind_link, net_place, ending_by, LinkDone}
use Rattle.slicer.proofs.ReadersAt.{toward}

-- the promised reply is gathered from how the frame opens
pub reply_is : (e : Entry) (s : List ℕ) → reply_of e s ≡ rest slice_way nothing s (opening e s)
unfolding reply_of slices rest
reply_is e s = refl

-- ---- tag slots

pub tags_length : (n a : ℕ) → length (tags_from a n) ≡ n
unfolding tags_from
tags_length zero a = refl
tags_length (suc n) a = ap suc (tags_length n (a + 4))

-- an array that calls made, where a call at a number i answers at i and leaves the closure f as it was
pub made : {F : Type 0} (g : Mut F (ℕ × Unit {0}) Header) (at : ℕ → Header) (f : F)
    → ((i : ℕ) (y : Header) (q : F) → Called g f (i, tt) y q → (y ≡ at i) × (q ≡ f))
    → (l : List Header) → IsFromFnResult g f l tag_limit → l ≡ at 0 ∷ at 1 ∷ at 2 ∷ []
made {F} g at f step (a ∷ b ∷ c ∷ []) z =
    let p = z.each in
    let q = p.4 in
    let r = q.4 in
    let x = step 0 p.1 p.0 p.3 in
    let y = step 1 q.1 q.0 (subst (λ (h : F). Called g h (1, tt) q.1 q.0) x.1 q.3) in
    let w = step 2 r.1 r.0 (subst (λ (h : F). Called g h (2, tt) r.1 r.0) y.1 r.3) in
    rw (p.2.0, x.0, q.2.0, y.0, r.2.0, w.0) refl
made g at f step [] z = let l = z.long in absurd (omega arith)
made g at f step (a ∷ []) z = let l = z.long in absurd (omega arith)
made g at f step (a ∷ b ∷ []) z = let l = z.long in absurd (omega arith)
made g at f step (a ∷ b ∷ c ∷ d ∷ l) z = let h = z.long in absurd (omega arith)

-- a slot by its number: a tag below the count, no header from there on
abbrev pub slot : ℕ → ℕ → Header
slot n i = pick (ltb i n) (head_of Vlan (ethernet_length + i * tag_length) tag_length) no_header

pub all_slots : (n : ℕ) → slots tag_limit (tags_from ethernet_length n) ≡ slot n 0 ∷ slot n 1 ∷ slot n 2 ∷ []
unfolding slots tags_from
all_slots zero = refl
all_slots (suc zero) = refl
all_slots (suc (suc zero)) = refl
all_slots (suc (suc (suc n))) =
    let m = suc (suc (suc n)) in rw (lt-ltb 0 m (omega arith), lt-ltb 1 m (omega arith), lt-ltb 2 m (omega arith)) refl

-- ---- behind the link

-- the room that an IP header behind the link stands in counts it
entering : (k : IpKind) (x : LinkFound) → follow (link_end_on_paper (D.Opens k)) (room_behind x) x.room.at (Link x.number) x.room.end
    ≡ next (net_place (ip_kind_of k) x.room.at x.room.end x.tags 0 1 x.room.source false)
unfolding follow
entering I.Ipv4 x = refl
entering I.Ipv6 x = refl

module _ {before : Reply} (x : LinkFound) (w : LinkDone before x) where
  at_turn : {e : Onward IpKind} → x.turn ≡ e
      → before ≡ on_turn x.room.frame.now (link_parts x.linked x.tags) (link_end_on_paper e) (room_behind x) x.room.at (Link x.number)
  at_turn e = w.left ∙ toward x.room.frame.now (link_parts x.linked x.tags) (room_behind x) x.room.at (Link x.number) (ap link_end_on_paper e)

  pub to_ip : {k : IpKind} → x.turn ≡ D.Opens k → before ≡ behind_link x k
  unfolding on_turn
  to_ip {k} e = at_turn e ∙ ap (rest slice_way (link_parts x.linked x.tags) x.room.frame.now) (entering k x) ∙ rest_next slice_way _ x.room.frame.now _

  pub to_stop : {stop : Stop} → x.turn ≡ D.Stops stop
      → before ≡ accepted_by (link_parts x.linked x.tags) (ending_on_paper (ending_by (range x.room.at (x.room.end - x.room.at)) (Link x.number) stop))
  unfolding on_turn follow
  to_stop e = at_turn e ∙ rest_halt slice_way _ x.room.frame.now _
