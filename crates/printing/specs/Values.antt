-- Every number that is printed of a frame of at most `frame_limit` bytes has at most five digits.
use Rattle.std.specs.Prelude.{ℕ, ◌+◌, ◌-◌, ◌*◌, ◌≤◌, ◌<◌, ◌≡◌, List, [], ◌∷◌, Bool, true, false, ltb, eqb, length, take, drop}
use Rattle.std.proofs.Math.Path.{refl, subst}
use Rattle.std.proofs.Common.{sym, arith, length-take, get_or-take, get_or-drop, ltb-true, ltb-false}
use Rattle.std.proofs.Math.ListN.{get_or-eq_default}
use Rattle.rules.specs.declared.kind.Kind.{Kind}
use Rattle.rules.specs.declared.kind.Kind.TheVariants.{Vlan, Ipv4, Ipv6, HopByHop, Udp, Tcp}
use Rattle.rules.specs.declared.kind.Layer.TheVariants.{Of}
use Rattle.rules.specs.declared.kind.RoomSource.{RoomSource}
use Rattle.rules.specs.declared.place.Number.{Number}
use Rattle.rules.specs.declared.place.Place.{Place}
use Rattle.rules.specs.declared.place.Room.{Room}
use Rattle.rules.specs.declared.refusal.Row.{Row}
use Rattle.rules.specs.declared.stop.Stop.{Stop}
use Rattle.rules.specs.declared.stop.Stop.TheVariants as S
use Rattle.rules.specs.declared.turn.Turn.{Turn}
use Rattle.rules.specs.declared.turn.Turn.TheVariants.{Opens, Stops, LateHopByHop}
use Rattle.rules.specs.Bytes.{byte_at, number, part}
use Rattle.rules.specs.Numbers.{hop_by_hop_not_at_start}
use Rattle.rules.specs.Named.{kind_number, stop_number}
use Rattle.rules.specs.Test.{pick, Test, passes, Failure, short, other, failure, Verdict, whole, failed, judge, placed}
use Rattle.rules.specs.Rules.{is_one_of, deciding, length_of, payload_of, seen_by, tests_by, tests}
use Rattle.rules.specs.Place.{leaves, Follow, next, halt, wrong, follow, follow_of, Found, reads, refuses, settle, bytes, outcome, read}
use Rattle.laws.specs.Kinds.{Sized, sized, nested}
use Rattle.laws.specs.Reads.{parts}
use Rattle.printing.specs.Clash.{clash}
use Rattle.printing.specs.Sizes.{Small, SmallEnding, SmallRow, header-short, tag-short}
use Rattle.printing.specs.Text.{header_line}

-- the bytes that a frame may have
abbrev pub frame_limit : ℕ
frame_limit = 65536

-- ---- bytes

-- each of them is below 256
abbrev pub Bytes : (ℕ → ℕ) → Type 0
Bytes g = (i : ℕ) → g i < 256

part_bytes : (s : List ℕ) (a e : ℕ) → Bytes (byte_at s) → Bytes (byte_at (part s a e))
part_bytes s a e h i = go (ltb i (e - a)) refl
  where
    go : (b : Bool) → ltb i (e - a) ≡ b → byte_at (part s a e) i < 256
    go true q = rw (get_or-take (e - a) (drop a s) i 0 (ltb-true i (e - a) q), get_or-drop a s i 0) (h (a + i))
    go false q =
        let z = ltb-false i (e - a) q in
        let l = length-take (e - a) (drop a s) in
        rw (get_or-eq_default (take (e - a) (drop a s)) 0 {n = i} (omega arith)) (omega arith)

bytes-bytes : (s : List ℕ) (p : Place) → Bytes (byte_at s) → Bytes (bytes s p)
unfolding bytes seen_by
bytes-bytes s p h i = go (is_one_of i (deciding p.kind))
  where
    go : (b : Bool) → pick b (byte_at (part s p.at p.room.end) i) 0 < 256
    go true = part_bytes s p.at p.room.end h i
    go false = omega arith

-- ---- the values of a failed test

abbrev SmallFailure : Failure → Type 0
SmallFailure (short layer required have bound) = Small required × Small have
SmallFailure (other n layer value) = (n < 10) × Small value

placed-small : (f : Failure) {at : ℕ} (source : RoomSource) → at ≤ frame_limit → SmallFailure f → SmallRow (placed f at source)
placed-small (short layer required have bound) source a h = record { number = omega arith; offset = omega arith; first = h.0; second = h.1 }
placed-small (other n layer value) source a h = record { number = h.0; offset = omega arith; first = h.1; second = omega arith }

abbrev AllSmall : List Test → Type 0
AllSmall [] = Unit
AllSmall (t ∷ ts) = SmallFailure (failure t) × AllSmall ts

judge-small : {A : Type 0} (x : A) (ts : List Test) {f : Failure} → AllSmall ts → judge ts x ≡ failed f → SmallFailure f
unfolding judge
judge-small x [] h e = clash (cc)
judge-small x (t ∷ ts) {f} h e = go (passes t) refl (judge-small x ts h.1)
  where
    go : (b : Bool) → passes t ≡ b → (judge ts x ≡ failed f → SmallFailure f) → SmallFailure f
    go true q rec = rec (cc)
    go false q rec = let z : failure t ≡ f = cc in subst SmallFailure z h.0

-- a length field, or what is there where the field is 0
field_small : (zero? : Bool) {have n : ℕ} → have ≤ frame_limit → n < 65536 → pick zero? have n ≤ frame_limit
field_small true h n = h
field_small false h n = omega arith

-- a number of two bytes
two : (g : ℕ → ℕ) (i : ℕ) → Bytes g → number 2 g i < 65536
two g i h = omega (arith, h (i + 0), h (i + 1))

tests-small : (k : Kind) (v : ℕ) (g : ℕ → ℕ) (have : ℕ) → Bytes g → have ≤ frame_limit → AllSmall (tests k v g have)
unfolding tests_by
tests-small Ipv4 v g have b h = omega (arith, b 0, two g 2 b)
tests-small Ipv6 v g have b h = omega (arith, b 0, two g 4 b)
tests-small Udp v g have b h = omega (arith, field_small (eqb (number 2 g 4) 0) h (two g 4 b))
tests-small Tcp v g have b h = omega (arith, b 12)
tests-small k v g have b h = omega (arith, b 1)

-- ---- what follows a header

stop_small : (w : Stop) → stop_number w < 10
stop_small S.EtherTypeNotOpened = omega arith
stop_small w = omega arith

abbrev pub SmallFollow : Follow → Type 0
SmallFollow (next q) = Unit
SmallFollow (halt x) = SmallEnding x
SmallFollow (wrong r) = SmallRow r

follow-small : (t : Turn) (p : Room) {past : ℕ} (n : Number) (to : ℕ) → past ≤ frame_limit → to - past ≤ frame_limit → SmallFollow (follow t p past n to)
unfolding follow
follow-small (Opens k) p n to a b = tt
follow-small (Stops w) p n to a b = record { at = omega arith; len = omega arith; why = stop_small w }
follow-small LateHopByHop p n to a b = placed-small (other hop_by_hop_not_at_start (Of HopByHop) 0) p.source a (omega arith)

payload_small : (k : Kind) (g : ℕ → ℕ) (at : ℕ) (p : Room) → Bytes g → p.end ≤ frame_limit → payload_of k g at p - (at + length_of k g) ≤ frame_limit
unfolding payload_of length_of
payload_small Udp g at p b h = omega (arith, field_small (eqb (number 2 g 4) 0) {have = p.end - at} (omega arith) (two g 4 b))
payload_small k g at p b h = omega arith

-- ---- one header read, in a room that ends within a frame's limit

-- a header's line has at most four bytes for each byte of the header: a tag's line has 13, any other header 8 bytes at least
line_by : (k : Kind) (g : ℕ → ℕ) {at have : ℕ} → Small at → Small (length_of k g) → Sized k g have
    → length (header_line (kind_number k) at (length_of k g)) ≤ 4 * length_of k g
unfolding length_of
line_by Vlan g a l z = let y = tag-short a in omega (arith, y)
line_by k g a l z = let y = header-short (kind_number k) a l in omega (arith, y, z.long)

-- a whole header at p: its line, its length, and what follows
pub record SmallFound (p : Place) (x : Found) : Type 0 where
  pub line : length (header_line (kind_number p.kind) p.at x.len) ≤ 4 * x.len
  pub len : x.len ≤ p.room.end - p.at
  pub follow : SmallFollow x.follow

module _ (s : List ℕ) (p : Place) (b : Bytes (byte_at s)) (inside : p.at ≤ p.room.end) (small : p.room.end ≤ frame_limit) where
  pub refuses_small : {r : Row} → read s p ≡ refuses r → SmallRow r
  unfolding read outcome
  refuses_small {r} e = go (outcome s p) refl e
    where
      go : (v : Verdict Found) → outcome s p ≡ v → settle v p.at p.room.source ≡ refuses r → SmallRow r
      go (whole x) h q = clash (cc)
      go (failed f) h q =
          let z : placed f p.at p.room.source ≡ r = cc in
          let t = tests-small p.kind p.room.version (bytes s p) (p.room.end - p.at) (bytes-bytes s p b) (omega arith) in
          subst SmallRow z (placed-small f p.room.source (omega arith) (judge-small _ _ t h))

  pub reads_small : {x : Found} → read s p ≡ reads x → SmallFound p x
  unfolding follow_of
  reads_small e =
      let z = parts s p e in
      let g = bytes s p in
      let k = sized p.kind p.room.version g (p.room.end - p.at) z.passed in
      let n = nested p.kind g p.at p.room z.passed in
      let l = leaves p.kind g p.at p.room in
      let to = payload_small p.kind g p.at l (bytes-bytes s p b) (omega (arith, n.inside)) in
      subst (SmallFound p) (sym z.found)
      (record { line = line_by p.kind g (omega arith) (omega (arith, k.inside)) k; len = k.inside; follow = follow-small _ l _ _ (omega (arith, n.holds, n.inside)) to })
