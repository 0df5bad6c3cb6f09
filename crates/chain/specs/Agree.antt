-- Frames that agree on some bytes, and what a header shows of them.
use Rattle.std.specs.Prelude.{ℕ, zero, suc, ◌≤◌, ◌<◌, ◌+◌, ◌-◌, ◌≡◌, refl, List, [], ◌∷◌, Bool, true, false, get_or, take, drop, ltb, eqb}
use Rattle.std.proofs.Common.{sym, ap, ◌∙◌, arith, length-take, get_or-drop, get_or-take, take-take, ltb-true, ltb-false, eqb-true}
use Rattle.std.proofs.Math.Path.{fun_ext}
use Rattle.std.proofs.Math.Nat.{sub-zero, zero-sub, suc-sub-suc}
use Rattle.std.proofs.Math.ListN.{get_or-eq_default}
use Rattle.std.proofs.Math.Seq.{take-nil}
use Rattle.rules.specs.declared.kind.Kind.{Kind}
use Rattle.rules.specs.declared.kind.Kind.TheVariants.{Ethernet2, Vlan, Ipv4, Ipv6, HopByHop, Routing, Destination, Fragment, Auth, Udp, Tcp}
use Rattle.rules.specs.declared.place.Place.{Place}
use Rattle.rules.specs.Bytes.{byte_at, part}
use Rattle.rules.specs.Test.{pick}
use Rattle.rules.specs.Rules.{is_one_of, deciding, least_length, seen_by}
use Rattle.rules.specs.Place.{bytes}
use Rattle.laws.specs.Openings.{AgreeAt, ending_at}

-- ---- parts of a list

-- byte i of a part
part_in : (s : List ℕ) (a e i : ℕ) → a + i < e → byte_at (part s a e) i ≡ byte_at s (a + i)
part_in s a e i h = get_or-take (e - a) (drop a s) i 0 (omega arith) ∙ get_or-drop a s i 0

part_out : (s : List ℕ) (a e i : ℕ) → e ≤ a + i → byte_at (part s a e) i ≡ 0
part_out s a e i h = get_or-eq_default (part s a e) 0 (simp length-take (omega arith))

-- a part is settled by the bytes before its end
part_is : (a e : ℕ) (s : List ℕ) → part s a e ≡ drop a (take e s)
part_is zero e s = ap (λ n. take n s) (sub-zero e)
part_is (suc a) zero s = ap (λ n. take n (drop (suc a) s)) (zero-sub (suc a))
part_is (suc a) (suc e) [] = take-nil (suc e - suc a)
part_is (suc a) (suc e) (x ∷ s) = ap (λ n. take n (drop a s)) (suc-sub-suc e a) ∙ part_is a e s

-- ---- frames that agree

-- on the first m bytes. (AgreeAt of crate laws: on the deciding bytes of the header at a place)
abbrev pub AgreeTo : ℕ → List ℕ → List ℕ → Type 0
AgreeTo m s t = take m s ≡ take m t

-- ---- then they show the same

-- in a room that ends before the first m bytes end
pub same_within : (m : ℕ) (s t : List ℕ) (p : Place) → p.room.end ≤ m → AgreeTo m s t → bytes s p ≡ bytes t p
unfolding bytes
same_within m s t p h q =
    ap (seen_by _)
    (part_is p.at p.room.end s
    ∙ ap (drop p.at) (sym (take-take p.room.end m s h) ∙ ap (take p.room.end) q ∙ take-take p.room.end m t h)
    ∙ sym (part_is p.at p.room.end t))

-- where they agree on the deciding bytes
pub same_deciding : (s t : List ℕ) (p : Place) → AgreeAt s t p → bytes s p ≡ bytes t p
unfolding bytes seen_by
same_deciding s t p h = fun_ext (λ i. go i (is_one_of i (deciding p.kind)) refl (ltb (p.at + i) p.room.end) refl)
  where
    go : (i : ℕ) (b : Bool) → is_one_of i (deciding p.kind) ≡ b → (c : Bool) → ltb (p.at + i) p.room.end ≡ c → bytes s p i ≡ bytes t p i
    go i true e true q =
        let l = ltb-true _ _ q in
        ap (λ (x : ℕ). pick (is_one_of i (deciding p.kind)) x 0)
        (part_in s p.at p.room.end i l ∙ h i e l ∙ sym (part_in t p.at p.room.end i l))
    go i true e false q =
        let l = ltb-false _ _ q in
        ap (λ (x : ℕ). pick (is_one_of i (deciding p.kind)) x 0)
        (part_out s p.at p.room.end i l ∙ sym (part_out t p.at p.room.end i l))
    go i false e c q = rw e

-- ---- the same header in a room that ends elsewhere

all_below : ℕ → List ℕ → Bool
all_below n [] = true
all_below n (m ∷ ms) = pick (ltb m n) (all_below n ms) false

below : (n i : ℕ) (l : List ℕ) → all_below n l ≡ true → is_one_of i l ≡ true → i < n
unfolding all_below
below n i [] a h = cc
below n i (m ∷ ms) a h = go (ltb m n) refl (eqb i m) refl (below n i ms)
  where
    go : (b : Bool) → ltb m n ≡ b → (c : Bool) → eqb i m ≡ c → (all_below n ms ≡ true → is_one_of i ms ≡ true → i < n) → i < n
    go true p true q rec = omega (arith, ltb-true m n p, eqb-true i m q)
    go true p false q rec = rec (cc) (cc)
    go false p c q rec = cc

early : (k : Kind) → all_below (least_length k) (deciding k) ≡ true
unfolding all_below
early Ethernet2 = refl
early Vlan = refl
early Ipv4 = refl
early Ipv6 = refl
early HopByHop = refl
early Routing = refl
early Destination = refl
early Fragment = refl
early Auth = refl
early Udp = refl
early Tcp = refl

-- every deciding byte lies in the least length of its kind
decide_early : (k : Kind) (i : ℕ) → is_one_of i (deciding k) ≡ true → i < least_length k
decide_early k i h = below (least_length k) i (deciding k) (early k) h

agree_byte : (m : ℕ) (s t : List ℕ) (i : ℕ) → AgreeTo m s t → i < m → byte_at s i ≡ byte_at t i
agree_byte m s t i q h = sym (get_or-take m s i 0 h) ∙ ap (λ (l : List ℕ). get_or l i 0) q ∙ get_or-take m t i 0 h

-- frames that agree on the header's least length agree on its deciding bytes
pub agree_early : (s t : List ℕ) (p : Place) (m : ℕ) → p.at + least_length p.kind ≤ m → AgreeTo m s t → AgreeAt s t p
agree_early s t p m a q i h l = let j = decide_early p.kind i h in agree_byte m s t (p.at + i) q (omega arith)

-- both rooms hold the header's least length, and the frames agree on it
pub same_ending : (s t : List ℕ) (p : Place) (e m : ℕ) → p.at + least_length p.kind ≤ m → m ≤ p.room.end → m ≤ e → AgreeTo m s t
    → bytes s p ≡ bytes t (ending_at p e)
unfolding bytes seen_by
same_ending s t p e m a b c q = fun_ext (λ i. go i (is_one_of i (deciding p.kind)) refl)
  where
    go : (i : ℕ) (d : Bool) → is_one_of i (deciding p.kind) ≡ d → bytes s p i ≡ bytes t (ending_at p e) i
    go i true h =
        let l = decide_early p.kind i h in
        ap (λ (x : ℕ). pick (is_one_of i (deciding p.kind)) x 0)
        (part_in s p.at p.room.end i (omega arith)
        ∙ agree_early s t p m a q i h (omega arith)
        ∙ sym (part_in t p.at e i (omega arith)))
    go i false h = rw h
