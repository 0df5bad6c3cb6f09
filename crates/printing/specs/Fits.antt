-- The text of every frame of at most `frame_limit` bytes fits a buffer of `text_limit` bytes.
use Prim.Native.Nat.{ℕ, zero, suc, ◌+◌, ◌-◌, ◌*◌, ◌≤◌}
use Rattle.std.specs.Prelude.{◌≡◌, ℕ, List, ◌++◌, Option, None}
use Rattle.std.proofs.Math.Path.{refl, ap}
use Rattle.std.proofs.Common.{append_assoc, length-append}
use native.Mathlib.Omega.{arith}
use Rattle.std.proofs.Math.ListN.{length}
use Rattle.rules.specs.declared.entry.Entry.{Entry}
use Rattle.rules.specs.declared.entry.Entry.TheVariants as E
use Rattle.rules.specs.declared.place.Place.{Place}
use Rattle.rules.specs.declared.refusal.Row.{Row}
use Rattle.rules.specs.Bytes.{byte_at}
use Rattle.rules.specs.Place.{Found, Follow, next, halt, wrong, PlaceRead, reads, refuses, read, opening}
use Rattle.rules.specs.Walk.{Trace, accepted, refused, unfinished, HeaderAt, header_at, behind, onward_by, step, walk, trace, onward, slices}
use Rattle.laws.specs.Reads.{goes, parts}
use Rattle.laws.specs.Openings.{opening_begins, never_halts}
use Rattle.printing.specs.Clash.{clash}
use Rattle.printing.specs.Text.{line_of, header_lines, ending_lines, text, text_of}
use Rattle.printing.specs.Put.{printed_by}
use Rattle.printing.specs.Told.{told-cut}
use Rattle.printing.specs.Sizes.{SmallRow, ending-short, refused_short}
use Rattle.printing.specs.Values.{frame_limit, Bytes, SmallFollow, refuses_small, SmallFound, reads_small}

-- A header's line has at most four bytes for each byte of the header. The two lines of an ending are shorter than a refusal's line.
abbrev pub room_limit : ℕ → ℕ
room_limit n = 67 + 4 * n

-- a header's line adds to a text what it has, or nothing
behind-text : (h : HeaderAt) (t : Trace HeaderAt) → length (text (behind h t)) ≤ length (line_of h) + length (text t)
unfolding text header_lines
behind-text h (accepted hs x) = rw (append_assoc (line_of h) (header_lines hs) (ending_lines x), length-append (line_of h) (header_lines hs ++ ending_lines x)) (omega arith)
behind-text h (refused hs r) = omega arith
behind-text h unfinished = omega arith

module _ (s : List ℕ) (b : Bytes (byte_at s)) where
  -- the text of a walk from every place inside a room is short
  abbrev Fits : (Place → Trace HeaderAt) → Type 0
  Fits go = (q : Place) → q.at ≤ q.room.end → q.room.end ≤ frame_limit → length (text (go q)) ≤ room_limit (q.room.end - q.at)

  module _ (p : Place) (inside : p.at ≤ p.room.end) (small : p.room.end ≤ frame_limit) (go : Place → Trace HeaderAt) (fits : Fits go) where
    step_fits : (d : PlaceRead) → read s p ≡ d → length (text (step p d go)) ≤ room_limit (p.room.end - p.at)
    unfolding text header_lines
    step_fits (refuses r) e = let z = refused_short (refuses_small s p b inside small e) in omega arith
    step_fits (reads x) e =
        let f = reads_small s p b inside small e in
        let z = behind-text (header_at p x) (onward_by go x.follow) in
        let y = onward-fits x.follow refl f f.follow in
        omega (arith, f.line, z, y)
      where
        onward-fits : (f : Follow) → x.follow ≡ f → SmallFound p x → SmallFollow f → 4 * x.len + length (text (onward_by go f)) ≤ room_limit (p.room.end - p.at)
        onward-fits (next q) j w h =
            let a = goes s p e j in
            let z = fits q a.room (omega (arith, a.inside)) in
            let l = ap (λ (y : Found). y.len) (parts s p e).found in
            omega (arith, z, l, a.begins, a.room, a.inside)
        onward-fits (halt y) j w h = let z = ending-short h in omega (arith, z, w.len)
        onward-fits (wrong r) j w h = let z = refused_short h in omega (arith, z, w.len)

  walk-fits : (n : ℕ) → Fits (walk n s)
  unfolding walk text
  walk-fits zero p inside small = omega arith
  walk-fits (suc n) p inside small = step_fits p inside small (walk n s) (walk-fits n) (read s p) refl

-- no entry refuses a frame before its first header
opening-small : (e : Entry) (s : List ℕ) {r : Row} → opening e s ≡ wrong r → SmallRow r
unfolding opening
opening-small E.Ethernet s q = clash (cc)
opening-small e s q = clash (cc)

-- 262,211
abbrev pub text_limit : ℕ
text_limit = room_limit frame_limit

-- a frame is a list of bytes: without that, a length field could have any number of digits
pub text-fits : (e : Entry) (s : List ℕ) → Bytes (byte_at s) → length s ≤ frame_limit → length (text_of e s) ≤ text_limit
unfolding slices trace text
text-fits e s b h = go (opening e s) refl
  where
    go : (f : Follow) → opening e s ≡ f → length (text (onward s f)) ≤ text_limit
    go (next p) q =
        let z = opening_begins e s q in
        let y = walk-fits s b (suc (p.room.end - p.at)) p (omega (arith, z.at_0)) (omega (arith, z.whole_room)) in
        omega (arith, y, z.whole_room)
    go (halt x) q = absurd (never_halts e s q)
    go (wrong r) q = let z = refused_short (opening-small e s q) in omega (arith, z)

-- so `print` never tells that the text of such a frame is cut, where the buffer has n bytes
pub never_cut : (e : Entry) (s : List ℕ) (n : ℕ) {r : Option ℕ} → Bytes (byte_at s) → length s ≤ frame_limit → n ≡ text_limit
    → r ≡ printed_by (text_of e s) n → r ≡ None → ⊥
never_cut e s n b h l q i =
    let z = told-cut (text_of e s) n q i in
    let y = text-fits e s b h in
    absurd (omega (arith, l, z, y))
