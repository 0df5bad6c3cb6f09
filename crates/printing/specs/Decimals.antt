-- Numbers in decimal: one digit at a time, and read back.
use Rattle.std.specs.Prelude.{ℕ, zero, suc, ◌+◌, ◌-◌, ◌*◌, ◌/◌, ◌%◌, ◌^◌, ◌≤◌, ◌<◌, ◌≡◌, refl, List, [], ◌∷◌, ◌++◌, Bool, true, false, length, ltb}
use Rattle.std.proofs.Common.{ap, ◌∙◌, arith, pow-suc, length-append, lt-ltb, le-ltb, ltb-false}
use Rattle.rules.specs.Test.{pick}
use Rattle.printing.specs.Text.{digit, digits, decimal}

-- where `before` are the digits before the last: the digits of n, by whether n is below 10
abbrev by_last : Bool → ℕ → List ℕ → List ℕ
by_last small n before = pick small (digit n ∷ []) (before ++ (digit (n % 10) ∷ []))

-- more steps than the number says make no difference
enough : (k m n : ℕ) → n < k → n < m → digits k n ≡ digits m n
unfolding digits
enough zero m n a b = absurd (omega arith)
enough (suc k) zero n a b = absurd (omega arith)
enough (suc k) (suc m) n a b = go (ltb n 10) refl (enough k m (n / 10))
  where
    go : (c : Bool) → ltb n 10 ≡ c → (n / 10 < k → n / 10 < m → digits k (n / 10) ≡ digits m (n / 10)) → by_last c n (digits k (n / 10)) ≡ by_last c n (digits m (n / 10))
    go true e rec = refl
    go false e rec = let z = ltb-false n 10 e in ap (by_last false n) (rec (omega arith) (omega arith))

pub decimal_one : (n : ℕ) → n < 10 → decimal n ≡ digit n ∷ []
unfolding decimal digits
decimal_one n h = rw (lt-ltb n 10 h) refl

pub decimal_more : (n : ℕ) → 10 ≤ n → decimal n ≡ decimal (n / 10) ++ (digit (n % 10) ∷ [])
unfolding decimal digits
decimal_more n h =
    rw (le-ltb n 10 h)
    (ap (by_last false n) (enough n (suc (n / 10)) (n / 10) (omega arith) (omega arith)))

-- ---- the digits of a number, read from the left, are that number

abbrev value_from : ℕ → List ℕ → ℕ
value_from n [] = n
value_from n (d ∷ ds) = value_from (n * 10 + (d - 48)) ds

-- what a reader of the digits takes them for
abbrev pub value : List ℕ → ℕ
value ds = value_from 0 ds

value_more : (n d : ℕ) (ds : List ℕ) → value_from n (ds ++ (d ∷ [])) ≡ value_from n ds * 10 + (d - 48)
value_more n d [] = refl
value_more n d (x ∷ ds) = value_more (n * 10 + (x - 48)) d ds

value-digits : (k n : ℕ) → n < k → value (digits k n) ≡ n
unfolding digits
value-digits zero n h = absurd (omega arith)
value-digits (suc k) n h = go (ltb n 10) refl (value-digits k (n / 10))
  where
    go : (c : Bool) → ltb n 10 ≡ c → (n / 10 < k → value (digits k (n / 10)) ≡ n / 10) → value (by_last c n (digits k (n / 10))) ≡ n
    go true e rec = omega arith
    go false e rec =
        let z = ltb-false n 10 e in
        let r = rec (omega arith) in
        value_more 0 (digit (n % 10)) (digits k (n / 10)) ∙ omega arith

pub value-decimal : (n : ℕ) → value (decimal n) ≡ n
unfolding decimal
value-decimal n = value-digits (suc n) n (omega arith)

-- ---- a number below a power of ten has at most as many digits as the power says

digits-short : (k j n : ℕ) → n < 10 ^ suc k → length (digits j n) ≤ suc k
unfolding digits
digits-short k zero n h = omega arith
digits-short zero (suc j) n h = rw (lt-ltb n 10 h) (omega arith)
digits-short (suc k) (suc j) n h = let p = pow-suc 10 (suc k) in go (ltb n 10) (digits-short k j (n / 10) (omega arith))
  where
    go : (c : Bool) → length (digits j (n / 10)) ≤ suc k → length (by_last c n (digits j (n / 10))) ≤ suc (suc k)
    go true z = omega arith
    go false z = rw (length-append (digits j (n / 10)) (digit (n % 10) ∷ [])) (omega arith)

pub decimal-short : (k n : ℕ) → n < 10 ^ suc k → length (decimal n) ≤ suc k
unfolding decimal
decimal-short k n h = digits-short k (suc n) n h
