-- Lent memory made zeros, from its start on.
use Rattle.std.specs.Prelude.{ℕ, zero, suc, ◌+◌, ◌≤◌, ◌<◌, ◌≡◌, refl, List, [], ◌∷◌, length, set, replicate}
use Rattle.std.proofs.Common.{ap, arith, add-one}

abbrev pub zeros : ℕ → List ℕ
zeros n = replicate n 0

-- the list with zeros in place of its first i elements
abbrev pub cleared : ℕ → List ℕ → List ℕ
cleared zero o = o
cleared (suc i) [] = []
cleared (suc i) (x ∷ o) = 0 ∷ cleared i o

-- its length stays
pub cleared-length : (i : ℕ) (o : List ℕ) → length (cleared i o) ≡ length o
cleared-length zero o = refl
cleared-length (suc i) [] = refl
cleared-length (suc i) (x ∷ o) = ap suc (cleared-length i o)

-- one more
one_more : (i : ℕ) (o : List ℕ) → i < length o → set (cleared i o) i 0 ≡ cleared (suc i) o
one_more i [] h = absurd (omega arith)
one_more zero (x ∷ o) h = refl
one_more (suc i) (x ∷ o) h = ap (λ (l : List ℕ). 0 ∷ l) (one_more i o (omega arith))

pub cleared_more : (i : ℕ) (o : List ℕ) → i < length o → set (cleared i o) i 0 ≡ cleared (i + 1) o
cleared_more i o h = rw add-one (one_more i o h)

-- and all
pub cleared-all : (i : ℕ) (o : List ℕ) → length o ≤ i → cleared i o ≡ zeros (length o)
cleared-all zero [] h = refl
cleared-all (suc i) [] h = refl
cleared-all zero (x ∷ o) h = absurd (omega arith)
cleared-all (suc i) (x ∷ o) h = ap (λ (l : List ℕ). 0 ∷ l) (cleared-all i o (omega arith))
