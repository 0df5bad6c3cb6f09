-- The digits of a number, found from the last to the first and stored in 20 bytes from the end on. Assumes nothing.
use Prim.Native.Nat.{ℕ, ◌+◌, ◌-◌, ◌/◌, ◌%◌, ◌^◌, ◌≤◌, ◌<◌}
use mathlib.Core.Path.{◌≡◌, sym, ap, ◌∙◌}
use mathlib.Core.List.{List, [], ◌∷◌, ◌++◌, append_assoc, append-nil}
use native.Mathlib.Omega.{arith}
use lib.ListN.{length, take, drop, set, length-append, length-set}
use Rattle.std.proofs.lemmas.List.{drop-set, drop_all, take_all, length-drop}
use Rattle.printing.specs.Text.{digit, decimal}
use Rattle.printing.specs.Decimals.{decimal_one, decimal_more, decimal-short}

-- of the number n the last digits stand in ds from `at` on; for `rest`, the number before them, there is room
pub record Found (n rest at : ℕ) (ds : List ℕ) : Type 0 where
  pub room : length (decimal rest) ≤ at
  pub inside : at ≤ 20
  pub long : length ds ≡ 20
  pub all : decimal rest ++ drop at ds ≡ decimal n

pub found_none : (n : ℕ) (ds : List ℕ) → n < 10 ^ 20 → length ds ≡ 20 → Found n n 20 ds
found_none n ds h e =
    record { room = decimal-short 19 n h; inside = omega arith; long = e; all = rw (drop_all 20 ds (omega (arith, e))) (append-nil {A = ℕ} (decimal n)) }

module _ {n rest at : ℕ} {ds : List ℕ} (f : Found n rest at ds) where
  -- a digit stored before those that are found
  before : (d : ℕ) → 1 ≤ at → drop (at - 1) (set ds (at - 1) d) ≡ d ∷ drop at ds
  before d h = let z : at - 1 + 1 ≡ at = omega arith in drop-set ds (at - 1) d (omega (arith, f.inside, f.long)) ∙ ap (λ (j : ℕ). d ∷ drop j ds) z

  module _ (m : 10 ≤ rest) where
    more : decimal rest ≡ decimal (rest / 10) ++ (digit (rest % 10) ∷ [])
    more = decimal_more rest m

    long_more : length (decimal rest) ≡ length (decimal (rest / 10)) + 1
    long_more = ap length more ∙ length-append (decimal (rest / 10)) (digit (rest % 10) ∷ [])

    pub some_left : 1 ≤ at
    some_left = omega (arith, f.room, long_more)

    pub found_more : Found n (rest / 10) (at - 1) (set ds (at - 1) (digit (rest % 10)))
    found_more =
        record {
          room = omega (arith, f.room, long_more);
          inside = omega (arith, f.inside);
          long = length-set ds (at - 1) (digit (rest % 10)) ∙ f.long;
          all =
              rw (before (digit (rest % 10)) some_left)
              (sym (append_assoc (decimal (rest / 10)) (digit (rest % 10) ∷ []) (drop at ds)) ∙ ap (λ (l : List ℕ). l ++ drop at ds) (sym more) ∙ f.all);
        }

  module _ (m : rest < 10) where
    one : decimal rest ≡ digit rest ∷ []
    one = decimal_one rest m

    pub one_left : 1 ≤ at
    one_left = let z = ap length one in omega (arith, f.room, z)

    pub found_all : take (20 - (at - 1)) (drop (at - 1) (set ds (at - 1) (digit rest))) ≡ decimal n
    found_all =
        let s = set ds (at - 1) (digit rest) in
        let all = length-drop (at - 1) s in
        take_all (20 - (at - 1)) (drop (at - 1) s) (omega (arith, all, length-set ds (at - 1) (digit rest), f.long))
        ∙ before (digit rest) one_left ∙ ap (λ (l : List ℕ). l ++ drop at ds) (sym one) ∙ f.all
