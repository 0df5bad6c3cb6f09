-- What the TCP options of a list of bytes are: document 01, "TCP options", sentence by sentence. Assumes nothing.
use Rattle.std.specs.Prelude.{ℕ, zero, suc, ◌+◌, ◌-◌, Bool, true, false, List, [], ◌∷◌, ltb, leb, eqb, length}
use Rattle.rules.specs.Test.{pick}
use Rattle.rules.specs.Rules.{is_one_of}
use Rattle.tcp_options.specs.declared.answer.OptionRow.{OptionRow}

-- ---- the kinds, by their numbers

-- RFC 9293, section 3.2
abbrev pub end_of_list : ℕ
end_of_list = 0

abbrev pub noop : ℕ
noop = 1

abbrev pub noop_size : ℕ
noop_size = 1

abbrev pub maximum_segment_size : ℕ
maximum_segment_size = 2

-- RFC 7323, section 2.2
abbrev pub window_scale : ℕ
window_scale = 3

-- RFC 2018, sections 2 and 3
abbrev pub selective_ack_permitted : ℕ
selective_ack_permitted = 4

abbrev pub selective_ack : ℕ
selective_ack = 5

-- RFC 7323, section 3.2
abbrev pub timestamp : ℕ
timestamp = 8

-- a known kind and its sizes
pub record KnownOption : Type 0 where
  pub kind : ℕ
  pub sizes : List ℕ

infixl 20 ◌has◌
abbrev pub ◌has◌ : ℕ → List ℕ → KnownOption
kind has sizes = record { kind = kind; sizes = sizes }

-- "1 is one byte; 2 has size 4, 3 has 3, 4 has 2, 5 has 10, 18, 26 or 34, 8 has 10"
-- `OPT-8`
abbrev pub table : List KnownOption
table = (noop has (noop_size ∷ []))
    ∷ (maximum_segment_size has (4 ∷ []))
    ∷ (window_scale has (3 ∷ []))
    ∷ (selective_ack_permitted has (2 ∷ []))
    ∷ (selective_ack has (10 ∷ 18 ∷ 26 ∷ 34 ∷ []))
    ∷ (timestamp has (10 ∷ []))
    ∷ []

-- the sizes that an option may have
pub data Sizes : Type 0 where
  one_of : List ℕ → Sizes
  any : Sizes

abbrev pub fits : ℕ → Sizes → Bool
fits size (one_of sizes) = is_one_of size sizes
fits size any = true

-- a kind that the table has, or "any other kind"
pub data Kind : Type 0 where
  known unknown : ℕ → Kind

abbrev pub number_of : Kind → ℕ
number_of (known n) = n
number_of (unknown n) = n

abbrev pub sizes_in : List KnownOption → ℕ → Sizes
sizes_in [] n = any
sizes_in (x ∷ xs) n = pick (eqb n x.kind) (one_of x.sizes) (sizes_in xs n)

abbrev pub kind_by : Sizes → ℕ → Kind
kind_by (one_of sizes) n = known n
kind_by any n = unknown n

-- the kind that a number names, and the sizes of a kind, by the table
-- `OPT-9`
unfoldable pub named : ℕ → Kind
named n = kind_by (sizes_in table n) n

unfoldable pub sizes_of : Kind → Sizes
sizes_of (known n) = sizes_in table n
sizes_of (unknown n) = any

-- ---- the refusals, by their numbers in the table

-- "option without its length byte"
abbrev pub no_length_byte : ℕ
no_length_byte = 8

-- "option length below 2 or past the end"
abbrev pub length_not_sound : ℕ
length_not_sound = 9

-- "known option of wrong size"
abbrev pub wrong_size : ℕ
wrong_size = 10

-- ---- one option. Its tests go in this order: kind 0, kind 1 (`read_kind`); refusal 8 (`read_long`); 9, 10 (`read_sized`)

-- what is read at the head of some bytes: an option that is listed, with its size; the end of the options; a refusal
pub data OptionRead : Type 0 where
  lists : Kind → ℕ → OptionRead
  ends : OptionRead
  refuses : ℕ → OptionRead

-- "option length below 2 or past the end": neither of the two, where `have` bytes are there, from the option's kind on
-- `OPT-7`
unfoldable pub sound : (len have : ℕ) → Bool
sound len have = pick (ltb len 2) false (leb len have)

-- "9 before 10"; "Any other kind with a sound length is handed out as unknown."
-- `OPT-8`
unfoldable pub read_sized : Kind → (len have : ℕ) → OptionRead
read_sized kind len have =
    pick (sound len have)
    (pick (fits len (sizes_of kind)) (lists kind len) (refuses wrong_size))
    (refuses length_not_sound)

-- "8 comes before 9": `rest` and the bytes for kind and length are what is there
-- `OPT-6`
unfoldable pub read_long : Kind → List ℕ → OptionRead
read_long kind [] = refuses no_length_byte
read_long kind (len ∷ rest) = read_sized kind len (length rest + 2)

-- "0 ends, 1 is one byte"; "kind 1 is listed"; "kind 0 itself isn't listed"
-- `OPT-4`, `OPT-5`
unfoldable pub read_kind : ℕ → List ℕ → OptionRead
read_kind n rest =
    pick (eqb n end_of_list) ends
    (pick (eqb n noop) (lists (named n) noop_size)
    (read_long (named n) rest))

-- `OPT-3`
unfoldable pub read : List ℕ → OptionRead
read [] = ends
read (n ∷ rest) = read_kind n rest

-- ---- the options of a list of bytes, one after another, and how they end

-- "A listed option is its kind, offset and size"
pub record Listed : Type 0 where
  pub kind : Kind
  pub at : ℕ
  pub size : ℕ

abbrev pub listed : Kind → ℕ → ℕ → Listed
listed kind at size = record { kind = kind; at = at; size = size }

abbrev pub row : ℕ → ℕ → OptionRow
row number offset = record { number = number; offset = offset }

-- at an offset: nothing is left or kind 0 stands there; or the option there is refused
pub data Ending : Type 0 where
  ended : ℕ → Ending
  refused : OptionRow → Ending

pub record Options : Type 0 where
  pub list : List Listed
  pub ending : Ending

-- what is read at an offset; if that is an option, then what `behind` tells of the bytes behind it, by its size
-- `OPT-10`
abbrev pub step : ℕ → OptionRead → (ℕ → Options) → Options
step at (lists kind size) behind = record { list = listed kind at size ∷ (behind size).list; ending = (behind size).ending }
step at ends behind = record { list = []; ending = ended at }
step at (refuses n) behind = record { list = []; ending = refused (row n at) }

-- the options of the bytes from an offset on, of which the first `inside` belong to the option before; it has them all, by its sound length
-- `OPT-10`
unfoldable pub walk : (inside at : ℕ) → List ℕ → Options
walk inside at [] = record { list = []; ending = ended at }
walk (suc inside) at (b ∷ rest) = walk inside (at + 1) rest
walk zero at (b ∷ rest) = step at (read (b ∷ rest)) (λ size. walk (size - 1) (at + 1) rest)

-- `OPT-1`
unfoldable pub options : List ℕ → Options
options s = walk 0 0 s

-- ---- the answer at a place

pub data Answer : Type 0 where
  is : Listed → Answer
  no-more : Answer
  refusal : OptionRow → Answer

-- "After kind 0 or the end it is "no more""; "at its place and every later one the answer is the refusal"
-- `OPT-12`
abbrev pub ending_answer : Ending → Answer
ending_answer (ended at) = no-more
ending_answer (refused r) = refusal r

abbrev pub nth : List Listed → ℕ → Answer → Answer
nth [] k last = last
nth (o ∷ os) zero last = is o
nth (o ∷ os) (suc k) last = nth os k last

-- "What stands before a refused option is still listed"
-- `OPT-11`
unfoldable pub option_of : Options → ℕ → Answer
option_of o k = nth o.list k (ending_answer o.ending)

-- what is read at an offset, as an answer
abbrev pub answer_by : ℕ → OptionRead → Answer
answer_by at (lists kind size) = is (listed kind at size)
answer_by at ends = no-more
answer_by at (refuses n) = refusal (row n at)
