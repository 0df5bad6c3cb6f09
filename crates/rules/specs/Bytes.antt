-- Bytes of a list as numbers. Document 01: "All numbers are high byte first."
use Rattle.std.specs.Prelude.{ℕ, zero, suc, ◌+◌, ◌-◌, ◌*◌, ◌^◌, ◌≤◌, ◌≡◌, refl, List, length, get_or, take, drop}
use Rattle.std.proofs.Math.ListN.{get_or-eq_default}
use Rattle.std.proofs.Common.{add-suc, add-zero, mul_assoc, add_assoc, pow-suc, arith}

-- the byte at a place, 0 past the end
abbrev pub byte_at : List ℕ → ℕ → ℕ
byte_at s i = get_or s i 0

-- the number of the n bytes from i on, where byte j is g j
abbrev pub number : ℕ → (ℕ → ℕ) → ℕ → ℕ
number zero g i = 0
number (suc n) g i = number n g i * 256 + g (i + n)

-- the part of a list from a to e, as Rattle's &s[a..e] has it
abbrev pub part : List ℕ → ℕ → ℕ → List ℕ
part s a e = take (e - a) (drop a s)

-- The fact that every width shares: m + n bytes are the first m, moved up by n bytes, and the last n.
pub joined : (m n : ℕ) (g : ℕ → ℕ) (i : ℕ) → number (m + n) g i ≡ number m g i * 256 ^ n + number n g (i + m)
joined m zero g i = rw add-zero (omega arith)
joined m (suc n) g i =
    rw (add-suc, pow-suc, ← mul_assoc, joined m n g i, add_assoc i m n) (omega arith)

pub one : (g : ℕ → ℕ) (i : ℕ) → number 1 g i ≡ g i
one g i = rw add-zero (omega arith)

-- past the end there are only zeros
pub past : (n : ℕ) (s : List ℕ) (i : ℕ) → length s ≤ i → number n (byte_at s) i ≡ 0
past zero s i h = refl
past (suc n) s i h = rw (past n s i h, get_or-eq_default s 0 (le_add i n h))
  where
    le_add : (i n : ℕ) → length s ≤ i → length s ≤ i + n
    le_add i n h = omega arith
