-- Laws of the checksum, for the proofs of this crate and of crates above it. Assumes nothing.
use Rattle.std.specs.Prelude.{◌≡◌, refl, List, [], ◌∷◌, ◌++◌, ◌⊎◌, ℕ, zero, suc, ◌+◌, ◌*◌, ◌-◌, ◌/◌, ◌%◌, ◌^◌, min, ◌≤◌, ◌<◌, length, take, drop}
use Rattle.std.proofs.Common.{ap, sym, ◌∙◌, inl, inr, arith, length-take, take-append-drop}
use Rattle.checksum.specs.Sum.{base, ones, word, total, totals, fold, answer, without_zero, add_slices}

-- ---- the folded sum

-- `fold` as one equation, for proofs by arithmetic
pub fold_is : (n : ℕ) → fold n ≡ (n - 1) % ones + min n 1
unfolding fold
fold_is zero = refl
fold_is (suc n) = omega arith

-- a folded sum is at most 65,535
pub fold_le : (n : ℕ) → fold n ≤ ones
fold_le n = omega (arith, fold_is n)

-- what fits 16 bits is folded already
pub fold_small : (n : ℕ) → n ≤ ones → fold n ≡ n
fold_small n h = omega (arith, fold_is n)

-- the folded sum is 0 only where the total is 0
pub fold-zero : (n : ℕ) → fold n ≡ 0 → n ≡ 0
fold-zero n e = omega (arith, fold_is n)

-- 65,535 counts as nothing beside a number above 0
pub fold-ones : (n k : ℕ) → 0 < n → fold (n + ones * k) ≡ fold n
fold-ones n k h = omega (arith, fold_is n, fold_is (n + ones * k))

-- 2^16 counts as 1: a carry comes round to the low end
pub fold_carry : (h r : ℕ) → fold (h * 2 ^ 16 + r) ≡ fold (h + r)
fold_carry h r = omega (arith, fold_is (h * 2 ^ 16 + r), fold_is (h + r))

-- a part of a sum may be folded first
pub fold-fold : (a b : ℕ) → fold (fold a + b) ≡ fold (a + b)
fold-fold zero b = ap fold (omega (arith, fold_is 0))
fold-fold (suc n) b =
    let f = fold_is (suc n) in
    sym (fold-ones (fold (suc n) + b) (n / ones) (omega arith)) ∙ ap fold (omega arith)

-- the carry of a number may be added to its low 16 bits
pub fold_once : (x : ℕ) → fold (x / 2 ^ 16 + x % 2 ^ 16) ≡ fold x
fold_once x = sym (fold_carry (x / 2 ^ 16) (x % 2 ^ 16)) ∙ ap fold (omega arith)

-- a part of a sum may be folded before it is taken 256 times
pub fold-base : (a b : ℕ) → fold (a + fold b * base) ≡ fold (a + b * base)
fold-base a zero = ap fold (omega (arith, fold_is 0))
fold-base a (suc n) =
    let f = fold_is (suc n) in
    sym (fold-ones (a + fold (suc n) * base) (n / ones * base) (omega arith)) ∙ ap fold (omega arith)

-- RFC 1071, section 2(B), "Byte Order Independence": a word with its bytes exchanged, taken 256 times, counts as the word
pub fold_exchanged : (n a b : ℕ) → fold (n + word b a * base) ≡ fold (n + word a b)
fold_exchanged n a b = ap fold (omega arith) ∙ fold_carry b (n + a * base) ∙ ap fold (omega arith)

-- ---- totals

-- what follows an even number of bytes is added word by word
pub total-append : (s t : List ℕ) → length s % 2 ≡ 0 → total (s ++ t) ≡ total s + total t
unfolding total
total-append [] t e = omega arith
total-append (a ∷ []) t e = absurd (omega arith)
total-append (a ∷ b ∷ s) t e = omega (arith, total-append s t (omega arith))

-- how many bytes a block has at most: its words, 32,768 then, come to less than 2^31
abbrev pub block_length : ℕ
block_length = 65536

-- a block of even length and what follows it are added word by word
pub total_block : (n : ℕ) (s : List ℕ) → n % 2 ≡ 0 → n ≤ length s → total (take n s) + total (drop n s) ≡ total s
total_block n s e h =
    sym (total-append (take n s) (drop n s) (simp length-take (omega arith))) ∙ ap total (take-append-drop n s)

-- the totals of two lists of slices are those of the lists joined, whatever the slices' lengths
pub totals-append : (a b : List (List ℕ)) → totals (a ++ b) ≡ totals a + totals b
unfolding totals
totals-append [] b = omega arith
totals-append (s ∷ a) b = omega (arith, totals-append a b)

-- slice after slice, added to the state of earlier slices, gives the state of them all
pub add-slices : (earlier later : List (List ℕ)) → add_slices (fold (totals earlier)) later ≡ fold (totals (earlier ++ later))
unfolding totals add_slices
add-slices earlier later = go (totals earlier) later ∙ ap fold (sym (totals-append earlier later))
  where
    go : (n : ℕ) (l : List (List ℕ)) → add_slices (fold n) l ≡ fold (n + totals l)
    go n [] = ap fold (omega arith)
    go n (s ∷ l) = rw fold-fold (go (n + total s) l ∙ ap fold (omega arith))

-- so the state is the folded sum of all slices that were added since `new`
pub from_new : (slices : List (List ℕ)) → add_slices (fold (totals [])) slices ≡ fold (totals slices)
from_new slices = add-slices [] slices

-- ---- a message with its own checksum in place

-- c is the answer a, in the plain form or in the no-zero form
abbrev pub Form : ℕ → ℕ → Type 0
Form a c = (c ≡ a) ⊎ (c ≡ without_zero a)

-- `without_zero` as one equation, for proofs by arithmetic
pub without_zero_is : (n : ℕ) → without_zero n ≡ n + (1 - n) * ones
unfolding without_zero
without_zero_is zero = refl
without_zero_is (suc n) = omega arith

-- an answer, added to the total that it was made from, gives 65,535
pub checks : (t c : ℕ) → Form (answer (fold t)) c → fold (t + c) ≡ ones
unfolding fold
checks t c (inl e) = omega (arith, fold_is t, fold_is (t + c))
checks zero c (inr e) = omega (arith, without_zero_is ones, fold_is (0 + c))
checks (suc n) c (inr e) = omega (arith, without_zero_is (answer (fold (suc n))), fold_is (suc n + c))

-- slices of which one holds the 16-bit number c, high byte first, behind the bytes `front`
abbrev pub holding : List (List ℕ) → List ℕ → ℕ → List ℕ → List (List ℕ) → List (List ℕ)
holding earlier front c back later = earlier ++ ((front ++ (c / base ∷ c % base ∷ back)) ∷ later)

module _ (earlier : List (List ℕ)) (front back : List ℕ) (later : List (List ℕ)) (even : length front % 2 ≡ 0) where
  -- a number in an aligned field adds itself to the total that stands with 0 in the field
  pub holding-totals : (c : ℕ) → totals (holding earlier front c back later) ≡ totals (holding earlier front 0 back later) + c
  unfolding total totals
  holding-totals c = rw (totals-append, totals-append, total-append front, total-append front) (omega arith)

  -- a message with its own checksum in an aligned field, which counted as 0, sums to 65,535; also with the no-zero form
  pub holding_checks : (c : ℕ) → Form (answer (fold (totals (holding earlier front 0 back later)))) c
      → fold (totals (holding earlier front c back later)) ≡ ones
  holding_checks c f = ap fold (holding-totals c) ∙ checks _ c f
