-- What the program prints of a frame, as ASCII codes. Document 01, "Frames from the bench".
use Rattle.std.specs.Prelude.{ℕ, zero, suc, ◌+◌, ◌/◌, ◌%◌, List, [], ◌∷◌, ◌++◌, ltb, eqb, get_or}
use Prim.Native.Char.{code}
use Prim.Native.String.{String, [] as no_text, ◌∷◌ as ◌then◌}
use Rattle.rules.specs.declared.entry.Entry.{Entry}
use Rattle.rules.specs.declared.refusal.Row.{Row}
use Rattle.rules.specs.Numbers.{too_short, hop_by_hop_not_at_start, auth_length_zero}
use Rattle.rules.specs.Named.{kind_number}
use Rattle.rules.specs.Test.{pick}
use Rattle.rules.specs.Rules.{is_one_of}
use Rattle.rules.specs.Place.{Stopped}
use Rattle.rules.specs.Walk.{Trace, accepted, refused, unfinished, HeaderAt, slices}

-- ---- words

abbrev pub ascii : String → List ℕ
ascii no_text = []
ascii (c then t) = code c ∷ ascii t

abbrev pub space : ℕ
space = 32

abbrev pub newline : ℕ
newline = 10

-- the digit d, below 10
abbrev pub digit : ℕ → ℕ
digit d = 48 + d

-- the last digits of n, at most k of them, the highest first and no zero in front
unfoldable pub digits : ℕ → ℕ → List ℕ
digits zero n = []
digits (suc k) n = pick (ltb n 10) (digit n ∷ []) (digits k (n / 10) ++ (digit (n % 10) ∷ []))

-- a number in decimal; no number has more digits than the next number says
unfoldable pub decimal : ℕ → List ℕ
decimal n = digits (suc n) n

-- words with a space between them, and a newline behind the last
abbrev pub line : List (List ℕ) → List ℕ
line [] = newline ∷ []
line (w ∷ []) = w ++ (newline ∷ [])
line (w ∷ v ∷ ws) = w ++ (space ∷ line (v ∷ ws))

-- what follows the first word of a line
abbrev pub rest_of_line : List (List ℕ) → List ℕ
rest_of_line [] = newline ∷ []
rest_of_line (w ∷ ws) = space ∷ line (w ∷ ws)

-- ---- names

-- by the paper's numbers of header kinds and layers: "header names .. ethernet2, vlan, ipv4, ipv6, hop-by-hop, routing, destination,
-- fragment, auth, udp, tcp"; "Layers add ipv4-packet, ipv6-packet, udp-payload". The last one stands for every number that is left.
abbrev pub name_of : ℕ → List ℕ
name_of n =
    pick (eqb n 1) (ascii "ethernet2")
    (pick (eqb n 2) (ascii "vlan")
    (pick (eqb n 3) (ascii "ipv4")
    (pick (eqb n 4) (ascii "ipv6")
    (pick (eqb n 5) (ascii "hop-by-hop")
    (pick (eqb n 6) (ascii "routing")
    (pick (eqb n 7) (ascii "destination")
    (pick (eqb n 8) (ascii "fragment")
    (pick (eqb n 9) (ascii "auth")
    (pick (eqb n 10) (ascii "udp")
    (pick (eqb n 11) (ascii "tcp")
    (pick (eqb n 13) (ascii "ipv4-packet")
    (pick (eqb n 14) (ascii "ipv6-packet")
    (ascii "udp-payload")))))))))))))

-- "sources are slice, ipv4, ipv6, udp", by their numbers 1 to 4
abbrev pub source_name : ℕ → List ℕ
source_name n = pick (eqb n 1) (ascii "slice") (pick (eqb n 2) (ascii "ipv4") (pick (eqb n 3) (ascii "ipv6") (ascii "udp")))

-- ---- lines

-- `NAME OFFSET LENGTH`, by the kind's number
unfoldable pub header_line : (kind offset length : ℕ) → List ℕ
header_line kind offset length = line (name_of kind ∷ decimal offset ∷ decimal length ∷ [])

-- the line of a header met
abbrev pub line_of : HeaderAt → List ℕ
line_of h = header_line (kind_number h.kind) h.at h.len

unfoldable pub header_lines : List HeaderAt → List ℕ
header_lines [] = []
header_lines (h ∷ hs) = line_of h ++ header_lines hs

-- `payload OFFSET LENGTH`
unfoldable pub payload_line : (offset length : ℕ) → List ℕ
payload_line offset length = line (ascii "payload" ∷ decimal offset ∷ decimal length ∷ [])

-- `stop N`
unfoldable pub stop_line : ℕ → List ℕ
stop_line n = line (ascii "stop" ∷ decimal n ∷ [])

unfoldable pub ending_lines : Stopped → List ℕ
ending_lines x = payload_line x.at x.len ++ stop_line x.why

-- what refusal 1 carries: "required, have, source"
abbrev pub shortage : (required have source : ℕ) → List (List ℕ)
shortage required have source =
    ascii "required" ∷ decimal required ∷ ascii "have" ∷ decimal have ∷ ascii "source" ∷ source_name source ∷ []

-- what a refusal prints behind its offset, by its number and the values of its row: 5 and 6 carry nothing, 2, 3, 4 and 7 a value
abbrev pub carried : ℕ → List ℕ → List (List ℕ)
carried n values =
    pick (eqb n too_short) (shortage (get_or values 0 0) (get_or values 1 0) (get_or values 2 0))
    (pick (is_one_of n (hop_by_hop_not_at_start ∷ auth_length_zero ∷ [])) []
    (decimal (get_or values 0 0) ∷ []))

-- "Refusals 2 to 7 print `refused`, number, layer, offset and the value if they carry one."
unfoldable pub refused_line : Row → List ℕ
refused_line r =
    line (ascii "refused" ∷ decimal r.number ∷ name_of r.layer ∷ decimal r.offset ∷ carried r.number r.values)

-- what follows the offset there
abbrev pub rest_of_refused : Row → List ℕ
rest_of_refused r = rest_of_line (carried r.number r.values)

-- ---- the whole text

-- an accepted frame: its headers, its payload and why the walk stopped; a refused one: its refusal and nothing else
unfoldable pub text : Trace HeaderAt → List ℕ
text (accepted hs x) = header_lines hs ++ ending_lines x
text (refused hs r) = refused_line r
text unfinished = []

-- of a frame, by its entry
abbrev pub text_of : Entry → List ℕ → List ℕ
text_of e s = text (slices e s)

-- ---- for code that has to know that a frame is accepted before it prints its headers

pub data Accepts : Trace HeaderAt → Type 0 where
  accepts : {hs : List HeaderAt} {x : Stopped} → Accepts (accepted hs x)
