-- How a slice is added up: a block by its pairs of bytes and the byte that may be left, the slice by its blocks. Assumes nothing.
use mathlib.Core.Path.{◌≡◌, refl, sym, ap, ◌∙◌}
use mathlib.Core.List.{List, [], ◌∷◌, ◌++◌}
use Prim.Native.Nat.{ℕ, zero, suc, ◌+◌, ◌*◌, ◌-◌, ◌%◌, ◌≤◌, ◌<◌, min}
use native.Mathlib.Omega.{arith}
use native.Mathlib.Numerals.{add-one}
use lib.ListN.{length, get_or, take, drop, drop_of_length-le, length-drop}
use lib.Seq.{drop-cons, drop-drop, take_all}
use mir.Syntax.{w8, w16}
use mir.Val.{Fits}
use denote.Ref.{Bor}
use Rattle.std.specs.Option.{MatchOption, option_copied, unwrap_or}
use Rattle.std.proofs.Common.{Option, None, Some}
use Rattle.std.proofs.lemmas.Option.{unwrap_or-slice_get}
use Rattle.std.specs.Int.{from_le_bytes}
use Rattle.std.specs.List.{sum_by, FoldsTo, slice_get}
use Rattle.std.specs.Iterator.{Drains, Yields, CallableAtEachTurn}
use Rattle.std.specs.Simd.{first_chunks}
use Rattle.std.specs.Slice.Iter.{chunks_rest, chunks_size, chunks_steps}
use Rattle.std.specs.declared.slice.Chunks.{Chunks}
use Rattle.std.proofs.lemmas.List.{append-nil, length-append}
use Rattle.std.proofs.lemmas.List.Sums.{sum_by-cons}
use Rattle.checksum.specs.Sum.{base, ones, word, total, fold, add_slice}
use Rattle.checksum.specs.Laws.{fold-fold, fold_exchanged, fold_le, fold_small, total-append, total_block}

-- ---- one step of the sum, from a place of the slice on: two bytes, the last one, none, and a block

-- two bytes or more are left
total-two : (s : List ℕ) (i : ℕ) → i + 1 < length s → total (drop i s) ≡ word (get_or s i 0) (get_or s (i + 1) 0) + total (drop (i + 2) s)
unfolding total
total-two s i h =
    let h₀ : i < length s = omega arith in
    let h₁ : suc i < length s = omega arith in
    let e : i + 2 ≡ suc (suc i) = omega arith in
    rw (drop-cons s i 0, drop-cons s (suc i) 0, add-one, e)

-- one byte is left
total_one : (s : List ℕ) (i : ℕ) → i + 1 ≡ length s → total (drop i s) ≡ word (get_or s i 0) 0
unfolding total
total_one s i h =
    let h₀ : i < length s = omega arith in
    rw (drop-cons s i 0, drop_of_length-le s {i = suc i} (omega arith))

-- nothing is left
total-none : (s : List ℕ) (i : ℕ) → length s ≤ i → total (drop i s) ≡ 0
unfolding total
total-none s i h = rw (drop_of_length-le s h)

-- the state n, the block's sum so far with the low byte first, and the words that are left, folded together
abbrev pub along : List ℕ → ℕ → ℕ → ℕ → ℕ
along s n sum i = fold (n + sum * base + total (drop i s))

-- two bytes are added to the sum, the first as the low one
pub along-two : (s : List ℕ) (n sum i : ℕ) → i + 1 < length s
    → along s n (sum + word (get_or s (i + 1) 0) (get_or s i 0)) (i + 2) ≡ along s n sum i
along-two s n sum i h =
    let t = total-two s i h in
    let r = total (drop (i + 2) s) in
    ap fold (omega arith) ∙ fold_exchanged (n + sum * base + r) (get_or s i 0) (get_or s (i + 1) 0) ∙ ap fold (omega arith)

-- the last byte is added to the sum, as a low one
pub along_one : (s : List ℕ) (n sum i : ℕ) → i + 1 ≡ length s → fold (n + (sum + word 0 (get_or s i 0)) * base) ≡ along s n sum i
along_one s n sum i h = let t = total_one s i h in ap fold (omega arith)

-- nothing is left to add
pub along-none : (s : List ℕ) (n sum i : ℕ) → length s ≤ i → fold (n + sum * base) ≡ along s n sum i
along-none s n sum i h = let t = total-none s i h in ap fold (omega arith)

-- a block of even length is added, then what follows it
pub block_on : (s : List ℕ) (sum n i : ℕ) → n % 2 ≡ 0 → i + n ≤ length s
    → add_slice (add_slice sum (take (i + n - i) (drop i s))) (drop (i + n) s) ≡ add_slice sum (drop i s)
block_on s sum n i e h =
    let g : i + n - i ≡ n = omega arith in
    let k : n ≤ length (drop i s) = simp length-drop (omega arith) in
    let t = total_block n (drop i s) e k in
    rw (g, ← drop-drop n i s) (fold-fold (sum + total (take n (drop i s))) (total (drop n (drop i s))) ∙ ap fold (omega arith))

-- the last block is all that is left
pub block_last : (s : List ℕ) (i : ℕ) → take (length s - i) (drop i s) ≡ drop i s
block_last s i = take_all (length s - i) (drop i s) (simp length-drop (omega arith))

-- ---- in a block

-- the sum of the first k pairs of bytes, the first of each as its low byte
abbrev pub pairs : ℕ → List ℕ → ℕ
pairs k s = sum_by (from_le_bytes w16) (first_chunks 2 k s)

pairs_more : (k a b : ℕ) (s : List ℕ) → pairs (suc k) (a ∷ b ∷ s) ≡ word b a + pairs k s
pairs_more k a b s = sum_by-cons (from_le_bytes w16) (a ∷ b ∷ []) (first_chunks 2 k s) ∙ omega arith

-- each pair comes to less than 2^16
pub pairs_le : (k : ℕ) (s : List ℕ) → k * 2 ≤ length s → ((i : ℕ) → Fits w8 (get_or s i 0)) → pairs k s ≤ k * ones
pairs_le zero s h f = omega arith
pairs_le (suc k) [] h f = absurd (omega arith)
pairs_le (suc k) (a ∷ []) h f = absurd (omega arith)
pairs_le (suc k) (a ∷ b ∷ s) h f = omega (arith, pairs_more k a b s, pairs_le k s (omega arith) (λ i. f (suc (suc i))), f 0, f 1)

-- The state n, the sum of the pairs taken 256 times, and what is left, folded together.
pub by_pairs : (k : ℕ) (s : List ℕ) (n : ℕ) → k * 2 ≤ length s → fold (n + pairs k s * base + total (drop (k * 2) s)) ≡ fold (n + total s)
unfolding total
by_pairs zero s n h = ap fold (omega arith)
by_pairs (suc k) [] n h = absurd (omega arith)
by_pairs (suc k) (a ∷ []) n h = absurd (omega arith)
by_pairs (suc k) (a ∷ b ∷ s) n h =
    let m = pairs_more k a b s in
    let two : suc k * 2 ≡ suc (suc (k * 2)) = omega arith in
    let before = n + pairs k s * base + total (drop (k * 2) s) in
    rw two (ap fold (omega arith) ∙ fold_exchanged before a b ∙ ap fold (omega arith) ∙ by_pairs k s (n + word a b) (omega arith) ∙ ap fold (omega arith))

-- behind the pairs there is one byte or none
pub left : (s : List ℕ) → length s < 2 → total s ≡ get_or s 0 0 * base
unfolding total
left [] h = refl
left (a ∷ []) h = omega arith
left (a ∷ b ∷ s) h = absurd (omega arith)

-- the first byte of a slice by `first`, 0 if there is none
pub first_or : (r : Option (Bor ℕ)) (s : List ℕ) (n : ℕ) (Q : Bor ℕ → Type 0) → option_copied r ≡ slice_get s 0 → MatchOption r (n ≡ 0) Q → ((x : Bor ℕ) → Q x → n ≡ x.now)
    → n ≡ get_or s 0 0
first_or None s n Q v m f = m ∙ ap (λ o. unwrap_or o 0) v ∙ unwrap_or-slice_get s 0 0
first_or (Some x) s n Q v m f = f x m ∙ ap (λ o. unwrap_or o 0) v ∙ unwrap_or-slice_get s 0 0

-- ---- from block to block

-- A block of even length, or the last one, and what follows it are added word by word.
total_on : (n : ℕ) (b r : List ℕ) → n % 2 ≡ 0 → length b ≡ min n (length (b ++ r)) → total (b ++ r) ≡ total b + total r
unfolding total
total_on n b [] e l = ap total (append-nil b) ∙ omega arith
total_on n b (a ∷ r) e l = total-append b (a ∷ r) (omega (arith, length-append b (a ∷ r)))

-- A fold over blocks of even length, whose turns R each add a block to the state, adds all that is left.
module _ {F : Type 0} (R : F × ℕ → Bor (List ℕ) → F × ℕ → Type 0) (adds : (p : F × ℕ) (b : Bor (List ℕ)) (q : F × ℕ) → R p b q → q.1 ≡ add_slice p.1 b.now) where
  pub by_blocks : (bs : List (Bor (List ℕ))) (s : Chunks ℕ) (p q : F × ℕ) → chunks_size s % 2 ≡ 0 → p.1 ≤ ones
      → Drains chunks_steps s bs → FoldsTo R p bs q → q.1 ≡ add_slice p.1 (chunks_rest s)
  by_blocks [] s p q e h (u, (t, is, end)) f =
      let empty = ap (λ x. length (chunks_rest x)) is ∙ end.1.0 in
      let z = total-none (chunks_rest s) 0 (omega arith) in
      ap (λ x. x.1) (sym f) ∙ sym (fold_small p.1 h) ∙ ap fold (omega arith)
  by_blocks (b ∷ bs) s p q e h (u, (t, (j, step, y), end)) (m, turn, f) =
      let cut = step.1.0 in
      let parts = ap total cut ∙ total_on (chunks_size s) b.now (chunks_rest j) e (step.1.1 ∙ ap (λ r. min (chunks_size s) (length r)) cut) in
      let more = by_blocks bs j m q (omega arith) (omega (arith, fold_le (p.1 + total b.now), adds p b m turn)) (u, (t, y, end)) f in
      rw (adds p b m turn) at more ∙ fold-fold (p.1 + total b.now) (total (chunks_rest j)) ∙ ap fold (omega arith)

-- No chunk of a slice is longer than their size, so that what takes lists of that length takes each of them.
size_stays : (bs : List (Bor (List ℕ))) (s t : Chunks ℕ) → Yields chunks_steps s bs t → chunks_size t ≡ chunks_size s
size_stays [] s t y = sym (ap chunks_size y)
size_stays (b ∷ bs) s t (j, step, y) = size_stays bs j t y ∙ step.0

pub each_taken : {P : Type 0} {R : P → Bor (List ℕ) → P → Type 0} {Q : P → Bor (List ℕ) → Type 0} {p : P} (s : Chunks ℕ)
    → ((q : P) (b : Bor (List ℕ)) → length b.now ≤ chunks_size s → Q q b) → CallableAtEachTurn chunks_steps R Q s p
each_taken s h = record { at = λ bs t q b u y f step. h q b (omega (arith, step.1.1, size_stays bs s t y)) }
