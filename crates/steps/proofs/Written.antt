-- Headers written as numbers: one header more, and the one that was asked for. Assumes nothing.
use Prim.Native.Nat.{ℕ, zero, suc, ◌+◌, ◌-◌, ◌*◌, ◌≤◌, ◌<◌}
use mathlib.Core.Path.{◌≡◌, refl, sym, ap, ◌∙◌}
use mathlib.Core.List.{List, [], ◌∷◌, ◌++◌}
use native.Mathlib.Omega.{arith}
use lib.ListN.{length, get_or, set, drop, length-append, length-drop, drop_of_length-le}
use lib.Seq.{drop-append-le}
use Rattle.rules.specs.declared.place.Header.{Header}
use Rattle.rules.specs.Walk.{is, nth}
use Rattle.steps.specs.Lists.{written, written_from}

-- ---- one header more

-- a header's three numbers stored from index i on
abbrev pub stores : List ℕ → ℕ → Header → List ℕ
stores o i h = set (set (set o i h.kind) (i + 1) h.at) (i + 2) h.len

length-written : (hs : List Header) (o : List ℕ) → length (written hs o) ≡ length o
unfolding written
length-written [] o = refl
length-written (h ∷ hs) (a ∷ b ∷ c ∷ o) = ap (λ (n : ℕ). suc (suc (suc n))) (length-written hs o)
length-written (h ∷ hs) (a ∷ b ∷ []) = refl
length-written (h ∷ hs) (a ∷ []) = refl
length-written (h ∷ hs) [] = refl

set_past : (x y z : ℕ) (o : List ℕ) (v : ℕ) {i n : ℕ} → i ≡ suc (suc (suc n)) → set (x ∷ y ∷ z ∷ o) i v ≡ x ∷ y ∷ z ∷ set o n v
set_past x y z o v e = rw e refl

stores_past : (x y z : ℕ) (o : List ℕ) (h : Header) {i n : ℕ} → i ≡ suc (suc (suc n)) → stores (x ∷ y ∷ z ∷ o) i h ≡ x ∷ y ∷ z ∷ stores o n h
stores_past x y z o h {i = i} {n = n} e =
    let a = set_past x y z o h.kind {i = i} {n = n} (omega arith) in
    let b = set_past x y z (set o n h.kind) h.at {i = i + 1} {n = n + 1} (omega arith) in
    let c = set_past x y z (set (set o n h.kind) (n + 1) h.at) h.len {i = i + 2} {n = n + 2} (omega arith) in
    ap (λ (r : List ℕ). set (set r (i + 1) h.at) (i + 2) h.len) a ∙ ap (λ (r : List ℕ). set r (i + 2) h.len) b ∙ c

one_more : (hs : List Header) (h : Header) (o : List ℕ) → 3 * length hs + 3 ≤ length o
    → written (hs ++ (h ∷ [])) o ≡ stores (written hs o) (3 * length hs) h
unfolding written
one_more [] h (a ∷ b ∷ c ∷ o) e = refl
one_more [] h (a ∷ b ∷ []) e = absurd (omega arith)
one_more [] h (a ∷ []) e = absurd (omega arith)
one_more [] h [] e = absurd (omega arith)
one_more (j ∷ hs) h (a ∷ b ∷ c ∷ o) e =
    ap (λ (r : List ℕ). j.kind ∷ j.at ∷ j.len ∷ r) (one_more hs h o (omega arith))
    ∙ sym (stores_past j.kind j.at j.len (written hs o) h {i = 3 * length (j ∷ hs)} {n = 3 * length hs} (omega arith))
one_more (j ∷ hs) h (a ∷ b ∷ []) e = absurd (omega arith)
one_more (j ∷ hs) h (a ∷ []) e = absurd (omega arith)
one_more (j ∷ hs) h [] e = absurd (omega arith)

no_more_room : (hs : List Header) (h : Header) (o : List ℕ) → length o < 3 * length hs + 3 → written (hs ++ (h ∷ [])) o ≡ written hs o
unfolding written
no_more_room [] h (a ∷ b ∷ c ∷ o) e = absurd (omega arith)
no_more_room [] h (a ∷ b ∷ []) e = refl
no_more_room [] h (a ∷ []) e = refl
no_more_room [] h [] e = refl
no_more_room (j ∷ hs) h (a ∷ b ∷ c ∷ o) e = ap (λ (r : List ℕ). j.kind ∷ j.at ∷ j.len ∷ r) (no_more_room hs h o (omega arith))
no_more_room (j ∷ hs) h (a ∷ b ∷ []) e = refl
no_more_room (j ∷ hs) h (a ∷ []) e = refl
no_more_room (j ∷ hs) h [] e = refl

-- ---- the same from header number k on

pub written-length : (k : ℕ) (hs : List Header) (o : List ℕ) → length (written_from k hs o) ≡ length o
unfolding written_from
written-length k hs o = length-written (drop k hs) o

pub written_none : (k : ℕ) (o : List ℕ) → written_from k [] o ≡ o
unfolding written_from written
written_none k o = ap (λ (hs : List Header). written hs o) (drop_of_length-le [] {i = k} (omega arith))

module _ (k : ℕ) (hs : List Header) (h : Header) (o : List ℕ) where
  pub written_more : k ≤ length hs → 3 * (length hs - k) + 3 ≤ length o
      → written_from k (hs ++ (h ∷ [])) o ≡ stores (written_from k hs o) (3 * (length hs - k)) h
  unfolding written_from
  written_more e f =
      ap (λ (l : List Header). written l o) (drop-append-le k hs (h ∷ []) e)
      ∙ one_more (drop k hs) h o (rw (length-drop k hs) f)
      ∙ ap (λ (n : ℕ). stores (written (drop k hs) o) (3 * n) h) (length-drop k hs)

  pub written_full : k ≤ length hs → length o < 3 * (length hs - k) + 3 → written_from k (hs ++ (h ∷ [])) o ≡ written_from k hs o
  unfolding written_from
  written_full e f =
      ap (λ (l : List Header). written l o) (drop-append-le k hs (h ∷ []) e)
      ∙ no_more_room (drop k hs) h o (rw (length-drop k hs) f)

  pub written_early : length hs < k → written_from k (hs ++ (h ∷ [])) o ≡ written_from k hs o
  unfolding written_from
  written_early e =
      let z = length-append hs (h ∷ []) in
      ap (λ (l : List Header). written l o)
      (drop_of_length-le (hs ++ (h ∷ [])) {i = k} (omega arith) ∙ sym (drop_of_length-le hs {i = k} (omega arith)))

-- ---- header k

-- with room for one header, header k is what was written
pub one_written : (k : ℕ) (hs : List Header) {o : List ℕ} → o ≡ written_from k hs (0 ∷ 0 ∷ 0 ∷ []) → k < length hs
    → is (record { kind = get_or o 0 0; at = get_or o 1 0; len = get_or o 2 0 }) ≡ nth hs k
unfolding written_from written
one_written k [] e l = absurd (omega arith)
one_written zero (h ∷ hs) e l = rw e refl
one_written (suc k) (h ∷ hs) e l = one_written k hs e (omega arith)
