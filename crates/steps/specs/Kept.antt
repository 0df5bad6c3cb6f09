-- Lent numbers of which the first are kept and the others made zeros.
use Rattle.std.specs.Prelude.{ℕ, zero, suc, ◌+◌, ◌-◌, ◌*◌, ◌/◌, ◌≤◌, ◌<◌, min, ◌≡◌, refl, List, [], ◌∷◌, ◌++◌, length, set}
use Rattle.std.proofs.Common.{ap, arith, ◌∙◌}
use Rattle.std.proofs.lemmas.List.{length-replicate}
use mathlib.Core.List.{append-nil}
use lib.ListN.{drop_of_length-le}
use borrow.Rule.Slice.PartMut.{put_mid}
use Rattle.rules.specs.declared.place.Header.{Header}
use Rattle.laws.specs.Zeros.{zeros, cleared, cleared-length, cleared_more, cleared-all}
use Rattle.steps.specs.Lists.{written}

-- the first i stay
abbrev pub kept : ℕ → List ℕ → List ℕ
kept zero o = zeros (length o)
kept (suc i) [] = []
kept (suc i) (x ∷ o) = x ∷ kept i o

-- the length stays
pub kept-length : (i : ℕ) (o : List ℕ) → length (kept i o) ≡ length o
kept-length zero o = length-replicate (length o) 0
kept-length (suc i) [] = refl
kept-length (suc i) (x ∷ o) = ap suc (kept-length i o)

-- zeros written over all that stands behind the first i
pub kept_filled : (i : ℕ) (o : List ℕ) {ys : List ℕ} {m n : ℕ} → i ≤ length o → m ≡ length o - i → n ≡ m → ys ≡ zeros n → put_mid i m o ys ≡ kept i o
kept_filled zero o {m = m} {n = n} h d e q =
    let z : n ≡ length o = omega (arith, d, e) in
    rw (q, z) (ap (λ (l : List ℕ). zeros (length o) ++ l) (drop_of_length-le o {i = m} (omega (arith, d))) ∙ append-nil _)
kept_filled (suc i) [] h d e q = absurd (omega arith)
kept_filled (suc i) (x ∷ o) h d e q = ap (λ (l : List ℕ). x ∷ l) (kept_filled i o (omega arith) (omega (arith, d)) e q)

-- ---- on the way: the first i stay, and n behind them are zeros

abbrev pub partly : (i n : ℕ) → List ℕ → List ℕ
partly zero n o = cleared n o
partly (suc i) n [] = []
partly (suc i) n (x ∷ o) = x ∷ partly i n o

-- none yet
pub partly_none : (i : ℕ) (o : List ℕ) → partly i 0 o ≡ o
partly_none zero o = refl
partly_none (suc i) [] = refl
partly_none (suc i) (x ∷ o) = ap (λ (l : List ℕ). x ∷ l) (partly_none i o)

-- the length stays
pub partly-length : (i n : ℕ) (o : List ℕ) → length (partly i n o) ≡ length o
partly-length zero n o = cleared-length n o
partly-length (suc i) n [] = refl
partly-length (suc i) n (x ∷ o) = ap suc (partly-length i n o)

-- one more
pub partly_more : (i n j : ℕ) (o : List ℕ) → j ≡ i + n → j < length o → set (partly i n o) j 0 ≡ partly i (n + 1) o
partly_more i n j [] e h = absurd (omega arith)
partly_more zero n j (x ∷ o) e h = let z : j ≡ n = omega arith in rw z (cleared_more n (x ∷ o) (omega arith))
partly_more (suc i) n zero (x ∷ o) e h = absurd (omega arith)
partly_more (suc i) n (suc j) (x ∷ o) e h = ap (λ (l : List ℕ). x ∷ l) (partly_more i n j o (omega arith) (omega arith))

-- and all
pub partly-all : (i n : ℕ) (o : List ℕ) → length o ≤ i + n → partly i n o ≡ kept i o
partly-all zero n o h = cleared-all n o (omega arith)
partly-all (suc i) n [] h = refl
partly-all (suc i) n (x ∷ o) h = ap (λ (l : List ℕ). x ∷ l) (partly-all i n o (omega arith))

-- ---- headers that were written over what was there, and zeros behind them, are headers written over zeros

pub written-kept : (hs : List Header) (o : List ℕ) (m : ℕ) → m ≡ 3 * min (length hs) (length o / 3) → kept m (written hs o) ≡ written hs (zeros (length o))
unfolding written
written-kept [] o m e = let z : m ≡ 0 = omega arith in rw z
written-kept (h ∷ hs) (a ∷ b ∷ c ∷ o) zero e = absurd (omega arith)
written-kept (h ∷ hs) (a ∷ b ∷ c ∷ o) (suc zero) e = absurd (omega arith)
written-kept (h ∷ hs) (a ∷ b ∷ c ∷ o) (suc (suc zero)) e = absurd (omega arith)
written-kept (h ∷ hs) (a ∷ b ∷ c ∷ o) (suc (suc (suc m))) e =
    ap (λ (l : List ℕ). h.kind ∷ h.at ∷ h.len ∷ l) (written-kept hs o m (omega arith))
written-kept (h ∷ hs) (a ∷ b ∷ []) m e = let z : m ≡ 0 = omega arith in rw z
written-kept (h ∷ hs) (a ∷ []) m e = let z : m ≡ 0 = omega arith in rw z
written-kept (h ∷ hs) [] m e = let z : m ≡ 0 = omega arith in rw z
