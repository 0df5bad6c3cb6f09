-- What the checksum of bytes is: document 01, "Checksum", sentence by sentence. Assumes nothing.
use Rattle.std.specs.Prelude.{List, [], ◌∷◌, ℕ, zero, suc, ◌+◌, ◌*◌, ◌-◌, ◌%◌}

-- how many values a byte has
abbrev pub base : ℕ
base = 256

-- sixteen one bits
abbrev pub ones : ℕ
ones = 65535

-- a 16-bit word: "All numbers are high byte first."
-- `SUM-1`
abbrev pub word : ℕ → ℕ → ℕ
word high low = high * base + low

-- "add the 16-bit words; a slice of odd length is padded with one zero byte where it ends."
-- `SUM-1`, `SUM-2`
unfoldable pub total : List ℕ → ℕ
total [] = 0
total (a ∷ []) = word a 0
total (a ∷ b ∷ rest) = word a b + total rest

-- the same over a list of added slices, so that each slice of odd length is padded where it ends
-- `SUM-2`
unfoldable pub totals : List (List ℕ) → ℕ
totals [] = 0
totals (s ∷ rest) = total s + totals rest

-- "The folded sum is 0 if the total is 0, else ((total - 1) mod 65,535) + 1": of a total suc n, n is the total - 1
-- `SUM-3`
unfoldable pub fold : ℕ → ℕ
fold zero = 0
fold (suc n) = n % ones + 1

-- "the answer is 65,535 minus that": minus the folded sum
-- `SUM-5`
abbrev pub answer : ℕ → ℕ
answer sum = ones - sum

-- "the no-zero form turns 0 into 65,535."
-- `SUM-6`
unfoldable pub without_zero : ℕ → ℕ
without_zero zero = ones
without_zero (suc n) = suc n

-- "state by value, kept folded so that no sum can overflow": the state after one slice more
-- `SUM-4`
abbrev pub add_slice : ℕ → List ℕ → ℕ
add_slice sum s = fold (sum + total s)

-- the state after a list of slices more, one after the other
unfoldable pub add_slices : ℕ → List (List ℕ) → ℕ
add_slices sum [] = sum
add_slices sum (s ∷ rest) = add_slices (add_slice sum s) rest
