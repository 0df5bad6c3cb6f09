-- Headers by number and their count, and the headers written as numbers.
use Rattle.std.specs.Prelude.{ℕ, List, [], ◌∷◌, map, drop, Option, Some, None, Result, Ok, Err}
use Rattle.rules.specs.declared.place.Header.{Header}
use Rattle.rules.specs.declared.refusal.Refusal.{Refusal}
use Rattle.rules.specs.Paper.{refusal_on_paper}
use Rattle.rules.specs.Walk.{Trace, accepted, refused, unfinished, HeaderAt, header, Answer, is, no-more, refusal}
use Rattle.laws.specs.Zeros.{zeros}

-- ---- the answers on paper

abbrev pub header_on_paper : Result (Option Header) Refusal → Answer Header
header_on_paper (Ok (Some h)) = is h
header_on_paper (Ok None) = no-more
header_on_paper (Err r) = refusal (refusal_on_paper r)

abbrev pub count_on_paper : Result ℕ Refusal → Answer ℕ
count_on_paper (Ok n) = is n
count_on_paper (Err r) = refusal (refusal_on_paper r)

-- ---- the headers written as numbers

-- the headers written over the numbers from their start: kind, offset and length of each, as far as there is room for all
-- three; every other number stays
unfoldable pub written : List Header → List ℕ → List ℕ
written [] out = out
written (h ∷ hs) (a ∷ b ∷ c ∷ out) = h.kind ∷ h.at ∷ h.len ∷ written hs out
written (h ∷ hs) (a ∷ b ∷ []) = a ∷ b ∷ []
written (h ∷ hs) (a ∷ []) = a ∷ []
written (h ∷ hs) [] = []

-- the same from header number k on
unfoldable pub written_from : ℕ → List Header → List ℕ → List ℕ
written_from k hs out = written (drop k hs) out

-- what is listed of a frame: of a refused one no header, since "Header k of a refused frame is that refusal for every k"
unfoldable pub headers_listed : Trace HeaderAt → List Header
headers_listed (accepted hs x) = map header hs
headers_listed (refused hs r) = []
headers_listed unfinished = []

-- n numbers lent for the headers from number k on: as many headers as there is room for, and zeros. No kind has the number 0, so
-- what is zeros reads as no header
-- `LIST-4` to `LIST-6`
unfoldable pub list_of : Trace HeaderAt → (k n : ℕ) → List ℕ
list_of t k n = written_from k (headers_listed t) (zeros n)

-- ---- for the walk, which writes each header when it was read and knows only at its end whether the frame is refused

-- the headers read whole, in order, also of a refused frame
unfoldable pub headers_read : Trace HeaderAt → List Header
headers_read (accepted hs x) = map header hs
headers_read (refused hs r) = map header hs
headers_read unfinished = []
