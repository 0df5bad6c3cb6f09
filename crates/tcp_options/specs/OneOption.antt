-- One option at a place of a slice, and the options from there on, in the facts that the code has. Assumes nothing.
use Prim.Native.Nat.{ℕ, zero, suc, ◌+◌, ◌-◌, ◌≤◌, ◌<◌}
use Rattle.std.proofs.Math.Path.{◌≡◌, refl}
use Rattle.std.proofs.Common.{ap, ◌∙◌, add-one, drop_of_length-le, drop-cons}
use Rattle.std.specs.Prelude.{Bool, true, false, ltb, leb, eqb, drop}
use mathlib.Core.List.{List, [], ◌∷◌}
use native.Mathlib.Omega.{arith}
use Rattle.std.proofs.Math.ListN.{length, length-drop}
use Rattle.std.proofs.Math.Seq.{drop-drop}
use borrow.Author.Tests.{ltb-false, leb-true, eq-eqb, ne_eqb}
use Rattle.rules.specs.Bytes.{byte_at}
use Rattle.rules.specs.Test.{pick}
use Rattle.tcp_options.specs.Options.{end_of_list, noop, noop_size, Kind, named, sizes_of, fits, no_length_byte, length_not_sound, wrong_size, lists, ends}
use Rattle.tcp_options.specs.Options.{refuses, sound, read_sized, read_long, read_kind, read, Listed, listed, row, ended, refused, Options, walk}

-- ---- one option

-- nothing is left
pub read_none : (s : List ℕ) (at : ℕ) → length s ≤ at → read (drop at s) ≡ ends
unfolding read
read_none s at h = rw (drop_of_length-le s h)

-- a byte is left: it is the option's kind
pub read_some : (s : List ℕ) (at : ℕ) → at < length s → read (drop at s) ≡ read_kind (byte_at s at) (drop (suc at) s)
unfolding read
read_some s at h = rw (drop-cons s at 0)

-- kind 0
pub read_end : (s : List ℕ) (at : ℕ) → at < length s → byte_at s at ≡ end_of_list → read (drop at s) ≡ ends
unfolding read_kind
read_end s at h e = read_some s at h ∙ rw (eq-eqb _ end_of_list e)

-- a kind of another number, at a byte that is left
module _ (s : List ℕ) (at : ℕ) (inside : at < length s) (not0 : byte_at s at ≡ end_of_list → ⊥) where
  -- kind 1
  pub read-noop : byte_at s at ≡ noop → read (drop at s) ≡ lists (named (byte_at s at)) noop_size
  unfolding read_kind
  read-noop e = read_some s at inside ∙ rw (ne_eqb (byte_at s at) end_of_list not0, eq-eqb (byte_at s at) noop e)

  module _ (not1 : byte_at s at ≡ noop → ⊥) where
    long : read (drop at s) ≡ read_long (named (byte_at s at)) (drop (suc at) s)
    unfolding read_kind
    long = read_some s at inside ∙ rw (ne_eqb (byte_at s at) end_of_list not0, ne_eqb (byte_at s at) noop not1)

    -- no length byte
    pub read_no_length : length s - at < 2 → read (drop at s) ≡ refuses no_length_byte
    unfolding read_long
    read_no_length h = let z : length s ≤ suc at = omega arith in long ∙ rw (drop_of_length-le s z)

    -- a length byte, and what is there from the option's kind on
    module _ (there : 2 ≤ length s - at) where
      sized : read (drop at s) ≡ read_sized (named (byte_at s at)) (byte_at s (at + 1)) (length s - at)
      unfolding read_long
      sized =
          let z : suc at < length s = omega arith in
          let have : length (drop (suc (suc at)) s) + 2 ≡ length s - at = rw length-drop (omega arith) in
          long ∙ rw (drop-cons s (suc at) 0, have, add-one)

      -- the tests of a length byte, in order
      pub read_not_sound : sound (byte_at s (at + 1)) (length s - at) ≡ false → read (drop at s) ≡ refuses length_not_sound
      unfolding read_sized
      read_not_sound e = sized ∙ rw e

      module _ (is_sound : sound (byte_at s (at + 1)) (length s - at) ≡ true) where
        pub read_wrong : fits (byte_at s (at + 1)) (sizes_of (named (byte_at s at))) ≡ false → read (drop at s) ≡ refuses wrong_size
        unfolding read_sized
        read_wrong e = sized ∙ rw (is_sound, e)

        pub read_right : fits (byte_at s (at + 1)) (sizes_of (named (byte_at s at))) ≡ true
            → read (drop at s) ≡ lists (named (byte_at s at)) (byte_at s (at + 1))
        unfolding read_sized
        read_right e = sized ∙ rw (is_sound, e)

-- ---- a listed option has a byte at least, and lies inside

-- the end is no listed option
ends_not_lists : {kind : Kind} {size : ℕ} → ends ≡ lists kind size → ⊥
ends_not_lists e = cc

-- nor are no bytes
nothing_not_lists : {kind : Kind} {size : ℕ} → read [] ≡ lists kind size → ⊥
unfolding read
nothing_not_lists e = ends_not_lists e

-- nor is a refusal
refuses_not_lists : {n : ℕ} {kind : Kind} {size : ℕ} → refuses n ≡ lists kind size → ⊥
refuses_not_lists e = cc

-- a listed option has one size
lists_size : {a b : Kind} {m n : ℕ} → lists a m ≡ lists b n → m ≡ n
lists_size e = cc

pub sound_is : (len have : ℕ) → sound len have ≡ true → (2 ≤ len) × (len ≤ have)
unfolding sound
sound_is len have e = go (ltb len 2) refl e
  where
    go : (b : Bool) → ltb len 2 ≡ b → pick b false (leb len have) ≡ true → (2 ≤ len) × (len ≤ have)
    go true p e = cc
    go false p e = (ltb-false len 2 p, leb-true len have e)

sized_fits : (k : Kind) (len have : ℕ) {kind : Kind} {size : ℕ} → read_sized k len have ≡ lists kind size → (2 ≤ size) × (size ≤ have)
unfolding read_sized
sized_fits k len have {kind} {size} e = go (sound len have) (fits len (sizes_of k)) refl e
  where
    go : (a b : Bool) → sound len have ≡ a → pick a (pick b (lists k len) (refuses wrong_size)) (refuses length_not_sound) ≡ lists kind size → (2 ≤ size) × (size ≤ have)
    go true true p e = let z : size ≡ len = cc in rw z (sound_is len have p)
    go true false p e = cc
    go false b p e = cc

long_fits : (k : Kind) (rest : List ℕ) {kind : Kind} {size : ℕ} → read_long k rest ≡ lists kind size → (1 ≤ size) × (size ≤ suc (length rest))
unfolding read_long
long_fits k [] e = cc
long_fits k (len ∷ rest) e = let z = sized_fits k len (length rest + 2) e in omega arith

kind_fits : (n : ℕ) (rest : List ℕ) {kind : Kind} {size : ℕ} → read_kind n rest ≡ lists kind size → (1 ≤ size) × (size ≤ suc (length rest))
unfolding read_kind
kind_fits n rest {kind} {size} e = go (eqb n end_of_list) (eqb n noop) e
  where
    go : (a b : Bool) → pick a ends (pick b (lists (named n) noop_size) (read_long (named n) rest)) ≡ lists kind size → (1 ≤ size) × (size ≤ suc (length rest))
    go true b e = cc
    go false true e = let z : noop_size ≡ size = cc in omega arith
    go false false e = long_fits (named n) rest e

pub lists_fits : (t : List ℕ) {kind : Kind} {size : ℕ} → read t ≡ lists kind size → (1 ≤ size) × (size ≤ length t)
unfolding read
lists_fits [] e = cc
lists_fits (n ∷ rest) e = kind_fits n rest e

-- ---- the options from a place on

unfoldable pub from : List ℕ → ℕ → Options
from s at = walk 0 at (drop at s)

-- bytes inside an option are passed over
walk_inside : (inside at : ℕ) (t : List ℕ) → inside ≤ length t → walk inside at t ≡ walk 0 (at + inside) (drop inside t)
unfolding walk
walk_inside zero at t h = let e : at + 0 ≡ at = omega arith in rw e
walk_inside (suc n) at [] h = absurd (omega arith)
walk_inside (suc n) at (b ∷ t) h = let e : at + suc n ≡ at + 1 + n = omega arith in rw e (walk_inside n (at + 1) t (omega arith))

abbrev pub behind : Listed → Options → Options
behind o os = record { list = o ∷ os.list; ending = os.ending }

walk_lists : (at : ℕ) (t : List ℕ) (kind : Kind) (size : ℕ) → read t ≡ lists kind size → walk 0 at t ≡ behind (listed kind at size) (walk 0 (at + size) (drop size t))
unfolding walk
walk_lists at [] kind size e = let z = lists_fits [] e in absurd (omega arith)
walk_lists at (b ∷ rest) kind zero e = let z = lists_fits (b ∷ rest) e in absurd (omega arith)
walk_lists at (b ∷ rest) kind (suc n) e =
    let z = lists_fits (b ∷ rest) e in
    let i : at + suc n ≡ at + 1 + n = omega arith in
    let j : suc n - 1 ≡ n = omega arith in
    rw (e, i, j) (ap (behind (listed kind at (suc n))) (walk_inside n (at + 1) rest (omega arith)))

module _ (s : List ℕ) (at : ℕ) where
  -- an option is listed, and the rest follows behind it
  pub from_lists : (kind : Kind) (size : ℕ) → read (drop at s) ≡ lists kind size → from s at ≡ behind (listed kind at size) (from s (at + size))
  unfolding from
  from_lists kind size e = rw (← drop-drop size at s) (walk_lists at (drop at s) kind size e)

  pub from-ends : read (drop at s) ≡ ends → from s at ≡ record { list = []; ending = ended at }
  unfolding from walk
  from-ends e = go (drop at s) e
    where
      go : (t : List ℕ) → read t ≡ ends → walk 0 at t ≡ record { list = []; ending = ended at }
      go [] e = refl
      go (b ∷ t) e = rw e

  pub from_refuses : (n : ℕ) → read (drop at s) ≡ refuses n → from s at ≡ record { list = []; ending = refused (row n at) }
  unfolding from walk read
  from_refuses n e = go (drop at s) e
    where
      go : (t : List ℕ) → read t ≡ refuses n → walk 0 at t ≡ record { list = []; ending = refused (row n at) }
      go [] e = cc
      go (b ∷ t) e = rw e
