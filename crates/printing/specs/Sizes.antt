-- How long the lines of a text are, where no number in them has more than five digits.
use Rattle.std.specs.Prelude.{ℕ, suc, ◌+◌, ◌≤◌, ◌<◌, Bool, eqb, get_or}
use mathlib.Core.List.{List, [], ◌∷◌}
use Rattle.std.proofs.Math.Bool.{true, false}
use native.Mathlib.Omega.{arith}
use Rattle.std.proofs.Math.ListN.{length}
use Rattle.std.proofs.Common.{length-append}
use Rattle.rules.specs.declared.refusal.Row.{Row}
use Rattle.rules.specs.Numbers.{too_short, hop_by_hop_not_at_start, auth_length_zero}
use Rattle.rules.specs.Test.{pick}
use Rattle.rules.specs.Rules.{is_one_of}
use Rattle.rules.specs.Place.{Stopped}
use Rattle.printing.specs.Text.{ascii, space, newline, name_of, source_name, decimal, line, shortage, header_line, payload_line, stop_line, ending_lines, refused_line}
use Rattle.printing.specs.Decimals.{decimal-short}

-- a number of at most five digits
abbrev pub Small : ℕ → Type 0
Small n = n < 100000

-- ---- words

small-short : {n : ℕ} → Small n → length (decimal n) ≤ 5
small-short {n} h = decimal-short 4 n h

digit-short : {n : ℕ} → n < 10 → length (decimal n) ≤ 1
digit-short {n} h = decimal-short 0 n h

-- a word of at most m bytes
record Short (m : ℕ) (w : List ℕ) : Type 0 where
  short : length w ≤ m

pick_short : {m : ℕ} (b : Bool) {w v : List ℕ} → Short m w → Short m v → Short m (pick b w v)
pick_short true x y = x
pick_short false x y = y

name_short : (n : ℕ) → Short 11 (name_of n)
name_short n =
    pick_short (eqb n 1) (omega arith)
    (pick_short (eqb n 2) (omega arith)
    (pick_short (eqb n 3) (omega arith)
    (pick_short (eqb n 4) (omega arith)
    (pick_short (eqb n 5) (omega arith)
    (pick_short (eqb n 6) (omega arith)
    (pick_short (eqb n 7) (omega arith)
    (pick_short (eqb n 8) (omega arith)
    (pick_short (eqb n 9) (omega arith)
    (pick_short (eqb n 10) (omega arith)
    (pick_short (eqb n 11) (omega arith)
    (pick_short (eqb n 13) (omega arith)
    (pick_short (eqb n 14) (omega arith) (omega arith)))))))))))))

source_short : (n : ℕ) → Short 5 (source_name n)
source_short n = pick_short (eqb n 1) (omega arith) (pick_short (eqb n 2) (omega arith) (pick_short (eqb n 3) (omega arith) (omega arith)))

-- ---- lines

-- no word of the list is longer than the number that stands in its place
abbrev Within : List (List ℕ) → List ℕ → Type 0
Within [] [] = Unit
Within [] (m ∷ ms) = ⊥
Within (w ∷ ws) [] = ⊥
Within (w ∷ ws) (m ∷ ms) = (length w ≤ m) × Within ws ms

-- each word has one byte behind it
abbrev total : List ℕ → ℕ
total [] = 0
total (m ∷ ms) = m + suc (total ms)

line-short : (w : List ℕ) (ws : List (List ℕ)) (m : ℕ) (ms : List ℕ) → length w ≤ m → Within ws ms → length (line (w ∷ ws)) ≤ total (m ∷ ms)
line-short w [] m [] x h = rw (length-append w (newline ∷ [])) (omega arith)
line-short w [] m (n ∷ ms) x h = absurd h
line-short w (v ∷ ws) m [] x h = absurd h
line-short w (v ∷ ws) m (n ∷ ms) x h =
    let z = line-short v ws n ms h.0 h.1 in
    rw (length-append w (space ∷ line (v ∷ ws))) (omega arith)

pub header-short : (kind : ℕ) {offset len : ℕ} → Small offset → Small len → length (header_line kind offset len) ≤ 24
unfolding header_line
header-short kind {offset} {len} x y =
    line-short (name_of kind) (decimal offset ∷ decimal len ∷ []) 11 (5 ∷ 5 ∷ []) (name_short kind).short (small-short x, (small-short y, tt))

-- the line of a tag
pub tag-short : {offset : ℕ} → Small offset → length (header_line 2 offset 4) ≤ 13
unfolding header_line
tag-short {offset} x =
    line-short (name_of 2) (decimal offset ∷ decimal 4 ∷ []) 4 (5 ∷ 1 ∷ []) (omega arith) (small-short x, (decimal-short 0 4 (omega arith), tt))

-- an ending whose numbers are short
pub record SmallEnding (x : Stopped) : Type 0 where
  pub at : Small x.at
  pub len : Small x.len
  pub why : x.why < 10

pub ending-short : {x : Stopped} → SmallEnding x → length (ending_lines x) ≤ 27
unfolding ending_lines payload_line stop_line
ending-short {x} h =
    let p = line-short (ascii "payload") (decimal x.at ∷ decimal x.len ∷ []) 7 (5 ∷ 5 ∷ []) (omega arith) (small-short h.at, (small-short h.len, tt)) in
    let s = line-short (ascii "stop") (decimal x.why ∷ []) 4 (1 ∷ []) (omega arith) (digit-short h.why, tt) in
    rw (length-append (payload_line x.at x.len) (stop_line x.why)) (omega (arith, p, s))

-- a value of a refusal's row, 0 past the last
abbrev value_at : Row → ℕ → ℕ
value_at r i = get_or r.values i 0

-- a refusal's row whose numbers are short
pub record SmallRow (r : Row) : Type 0 where
  pub number : r.number < 10
  pub offset : Small r.offset
  pub first : Small (value_at r 0)
  pub second : Small (value_at r 1)

-- a refusal's words behind the first, with those that come behind its offset
abbrev row_words : Row → List (List ℕ) → List (List ℕ)
row_words r more = decimal r.number ∷ name_of r.layer ∷ decimal r.offset ∷ more

module _ {r : Row} (h : SmallRow r) where
  row-short : (more : List (List ℕ)) (ms : List ℕ) → Within more ms → length (line (ascii "refused" ∷ row_words r more)) ≤ total (7 ∷ 1 ∷ 11 ∷ 5 ∷ ms)
  row-short more ms k =
      line-short (ascii "refused") (row_words r more) 7 (1 ∷ 11 ∷ 5 ∷ ms) (omega arith)
      (digit-short h.number, ((name_short r.layer).short, (small-short h.offset, k)))

  pub refused_short : length (refused_line r) ≤ 67
  unfolding refused_line
  refused_short = go (eqb r.number too_short) (is_one_of r.number (hop_by_hop_not_at_start ∷ auth_length_zero ∷ [])) (value_at r 2)
    where
      go : (short none : Bool) (source : ℕ)
          → length (line (ascii "refused" ∷ row_words r (pick short (shortage (value_at r 0) (value_at r 1) source) (pick none [] (decimal (value_at r 0) ∷ []))))) ≤ 67
      go true none source =
          row-short (shortage (value_at r 0) (value_at r 1) source) (8 ∷ 5 ∷ 4 ∷ 5 ∷ 6 ∷ 5 ∷ [])
          (omega arith, (small-short h.first, (omega arith, (small-short h.second, (omega arith, ((source_short source).short, tt))))))
      go false true source = let z = row-short [] [] tt in omega (arith, z)
      go false false source = let z = row-short (decimal (value_at r 0) ∷ []) (5 ∷ []) (small-short h.first, tt) in omega (arith, z)
