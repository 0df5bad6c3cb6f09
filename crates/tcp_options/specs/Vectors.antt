-- Options of some short slices, computed from the definitions: the cases that document 01's order of refusals decides. Assumes nothing.
use Rattle.std.specs.Prelude.{ℕ, ◌≡◌, refl, List, [], ◌∷◌, map}
use Rattle.tcp_options.specs.Options.{known, unknown, named, sizes_of, sound, read_sized, read_long, read_kind, read, listed, row, walk, options, Answer, is, no-more, refusal, option_of}

pub record Case : Type 0 where
  pub bytes : List ℕ
  pub place : ℕ
  pub answer : Answer

unfoldable pub case : List ℕ → ℕ → Answer → Case
case bytes place answer = record { bytes = bytes; place = place; answer = answer }

-- the options of a SYN, 20 bytes: maximum segment size, selective acknowledgement permitted, timestamp, kind 1, window scale
unfoldable pub syn : List ℕ
syn = 0x02 ∷ 0x04 ∷ 0x05 ∷ 0xb4 ∷ 0x04 ∷ 0x02 ∷ 0x08 ∷ 0x0a ∷ 0x00 ∷ 0x00 ∷ 0x00 ∷ 0x01 ∷ 0x00 ∷ 0x00 ∷ 0x00 ∷ 0x00 ∷ 0x01 ∷ 0x03 ∷ 0x03 ∷ 0x07 ∷ []

-- maximum segment size behind kind 1, and then a kind without its length byte
unfoldable pub cut : List ℕ
cut = 0x01 ∷ 0x02 ∷ 0x04 ∷ 0x05 ∷ 0xb4 ∷ 0x02 ∷ []

unfoldable pub cases : List Case
cases = case syn 0 (is (listed (known 2) 0 4))
    ∷ case syn 1 (is (listed (known 4) 4 2))
    ∷ case syn 2 (is (listed (known 8) 6 10))
    ∷ case syn 3 (is (listed (known 1) 16 1))
    ∷ case syn 4 (is (listed (known 3) 17 3))
    ∷ case syn 5 no-more
    -- what stands before a refused option is listed; at its place and later, the refusal
    ∷ case cut 0 (is (listed (known 1) 0 1))
    ∷ case cut 1 (is (listed (known 2) 1 4))
    ∷ case cut 2 (refusal (row 8 5))
    ∷ case cut 9 (refusal (row 8 5))
    -- kind 0 and the end
    ∷ case [] 0 no-more
    ∷ case (0x00 ∷ 0x02 ∷ []) 0 no-more
    ∷ case (0x01 ∷ 0x00 ∷ 0x02 ∷ []) 1 no-more
    -- a kind that isn't known
    ∷ case (0xfd ∷ 0x04 ∷ 0x00 ∷ 0x00 ∷ []) 0 (is (listed (unknown 0xfd) 0 4))
    ∷ case (0xfd ∷ 0x02 ∷ []) 0 (is (listed (unknown 0xfd) 0 2))
    ∷ case (0xfd ∷ 0x02 ∷ []) 1 no-more
    ∷ case (0xfd ∷ []) 0 (refusal (row 8 0))
    ∷ case (0xfd ∷ 0x01 ∷ []) 0 (refusal (row 9 0))
    -- 8 before 9
    ∷ case (0x08 ∷ []) 0 (refusal (row 8 0))
    ∷ case (0x02 ∷ []) 1 (refusal (row 8 0))
    -- 9 before 10: a length past the end, and one below 2
    ∷ case (0x02 ∷ 0x06 ∷ 0x00 ∷ 0x00 ∷ []) 0 (refusal (row 9 0))
    ∷ case (0x02 ∷ 0x04 ∷ 0x05 ∷ []) 0 (refusal (row 9 0))
    ∷ case (0x05 ∷ 0x0b ∷ []) 0 (refusal (row 9 0))
    ∷ case (0x04 ∷ 0x00 ∷ []) 0 (refusal (row 9 0))
    ∷ case (0x05 ∷ 0x00 ∷ []) 0 (refusal (row 9 0))
    ∷ case (0x04 ∷ 0x03 ∷ []) 0 (refusal (row 9 0))
    -- a sound length of the wrong size
    ∷ case (0x02 ∷ 0x02 ∷ []) 0 (refusal (row 10 0))
    ∷ case (0x02 ∷ 0x03 ∷ 0x05 ∷ []) 0 (refusal (row 10 0))
    ∷ case (0x05 ∷ 0x0c ∷ 0x00 ∷ 0x00 ∷ 0x00 ∷ 0x00 ∷ 0x00 ∷ 0x00 ∷ 0x00 ∷ 0x00 ∷ 0x00 ∷ 0x00 ∷ []) 0 (refusal (row 10 0))
    ∷ []

pub vectors : map (λ (c : Case). option_of (options c.bytes) c.place) cases ≡ map (λ (c : Case). c.answer) cases
unfolding case syn cut cases option_of options walk read read_kind read_long read_sized sound named sizes_of
vectors = refl
