-- Two samples of document 01, printed by the definition: F12, and the 60-byte line. Bytes that the paper leaves open are zero.
use Rattle.std.specs.Prelude.{ℕ, ◌≡◌, refl, List, [], ◌∷◌, ◌++◌, replicate}
use Rattle.rules.specs.declared.entry.Entry.TheVariants.{Ethernet}
use Rattle.rules.specs.Test.{judge}
use Rattle.rules.specs.Rules.{is_tag, link, transport, chain4, length_of, declared_of, fragment_of, names_of, turn_of, payload_of, seen_by, tests_by}
use Rattle.rules.specs.Place.{leaves, follow, follow_of, bytes, outcome, read, start, opening}
use Rattle.rules.specs.Walk.{walk, trace, slices}
use Rattle.printing.specs.Text.{ascii, digits, decimal, header_line, header_lines, payload_line, stop_line, ending_lines, refused_line, text, text_of}

zeros : ℕ → List ℕ
zeros n = replicate n 0

-- "one tag, IPv4 total 32, UDP length 12, zeros up to 60 bytes"
pub f12 : List ℕ
f12 =
    zeros 12 ++ (0x81 ∷ 0x00 ∷ [])
    ++ (0 ∷ 0 ∷ 0x08 ∷ 0x00 ∷ [])
    ++ (0x45 ∷ 0 ∷ 0 ∷ 32 ∷ []) ++ zeros 5 ++ (17 ∷ []) ++ zeros 10
    ++ zeros 4 ++ (0 ∷ 12 ∷ []) ++ zeros 2
    ++ zeros 14

pub f12_prints : text_of Ethernet f12 ≡ ascii "ethernet2 0 14\nvlan 14 4\nipv4 18 20\nudp 38 8\npayload 46 4\nstop 5\n"
unfolding f12 zeros text header_lines header_line ending_lines payload_line stop_line decimal digits
    slices trace walk opening start read outcome bytes seen_by judge tests_by leaves length_of declared_of fragment_of names_of turn_of payload_of follow follow_of
    link is_tag chain4 transport
f12_prints = refl

-- "A 60-byte untagged frame with IPv4 total 60 and IHL 5"
pub short : List ℕ
short = zeros 12 ++ (0x08 ∷ 0x00 ∷ []) ++ (0x45 ∷ 0 ∷ 0 ∷ 60 ∷ []) ++ zeros 42

pub short_prints : text_of Ethernet short ≡ ascii "refused 1 ipv4-packet 14 required 60 have 46 source slice\n"
unfolding short zeros text refused_line decimal digits
    slices trace walk opening start read outcome bytes seen_by judge tests_by leaves length_of declared_of fragment_of names_of turn_of payload_of follow follow_of
    link is_tag chain4 transport
short_prints = refl
