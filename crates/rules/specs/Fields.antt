-- The fields that document 01's rules look at: where each stands in its header, how wide it is, and which of its bits count.
use Rattle.std.specs.Prelude.{ℕ, ◌+◌, ◌/◌, ◌%◌, List, [], ◌∷◌, ◌++◌, Bool, true, false, eqb}
use Rattle.rules.specs.declared.fragment.Fragment.{Fragment}
use Rattle.rules.specs.declared.fragment.Fragment.TheVariants as F
use Rattle.rules.specs.Bytes.{number}

-- ---- a field, its value and its bytes

pub data Field : Type 0 where
  -- the byte at an offset; its upper, its lower four bits
  byte upper lower : ℕ → Field
  -- the two bytes from an offset on
  word : ℕ → Field
  -- of such a word: its bits below the value n, those from n on, and those from n on below n x m
  below above : (at n : ℕ) → Field
  between : (at n m : ℕ) → Field

-- where g i is byte i of the header
abbrev pub value : Field → (ℕ → ℕ) → ℕ
value (byte i) g = g i
value (upper i) g = g i / 16
value (lower i) g = g i % 16
value (word i) g = number 2 g i
value (below i n) g = number 2 g i % n
value (above i n) g = number 2 g i / n
value (between i n m) g = number 2 g i / n % m

abbrev pub bytes_of : Field → List ℕ
bytes_of (byte i) = i ∷ []
bytes_of (upper i) = i ∷ []
bytes_of (lower i) = i ∷ []
bytes_of (word i) = i ∷ (i + 1) ∷ []
bytes_of (below i n) = i ∷ (i + 1) ∷ []
bytes_of (above i n) = i ∷ (i + 1) ∷ []
bytes_of (between i n m) = i ∷ (i + 1) ∷ []

abbrev pub bytes_of_all : List Field → List ℕ
bytes_of_all [] = []
bytes_of_all (f ∷ fs) = bytes_of f ++ bytes_of_all fs

-- ---- Ethernet and tags: "type at 12", "type at 2"

abbrev pub ethernet_type : Field
ethernet_type = word 12

abbrev pub tag_type : Field
tag_type = word 2

-- ---- IPv4 (RFC 791, section 3.1)

abbrev pub ipv4_version : Field
ipv4_version = upper 0

abbrev pub ihl : Field
ihl = lower 0

abbrev pub total_length : Field
total_length = word 2

abbrev pub ipv4_offset : Field
ipv4_offset = below 6 0x2000

abbrev pub ipv4_more : Field
ipv4_more = between 6 0x2000 2

abbrev pub protocol : Field
protocol = byte 9

-- ---- IPv6 (RFC 8200, section 3)

abbrev pub ipv6_version : Field
ipv6_version = upper 0

abbrev pub payload_length : Field
payload_length = word 4

abbrev pub next_header : Field
next_header = byte 6

-- ---- extension headers (RFC 8200, sections 4.3 to 4.6; RFC 4302, section 2): "second byte"; "offset", "M"

abbrev pub ext_next_header : Field
ext_next_header = byte 0

abbrev pub ext_length : Field
ext_length = byte 1

abbrev pub fragment_offset : Field
fragment_offset = above 2 8

abbrev pub fragment_more : Field
fragment_more = below 2 2

-- ---- UDP (RFC 768) and TCP (RFC 9293, section 3.1)

abbrev pub udp_length : Field
udp_length = word 4

abbrev pub data_offset : Field
data_offset = upper 12

-- ---- fragments

-- "Fragmented: more-fragments bit or nonzero offset"; "fragmenting if offset or M is nonzero"
abbrev pub pick_fragment : (offset more : Bool) → Fragment
pick_fragment true true = F.Not
pick_fragment true false = F.First
pick_fragment false more = F.Later

abbrev pub fragment_by : (offset more : ℕ) → Fragment
fragment_by offset more = pick_fragment (eqb offset 0) (eqb more 0)

-- "One fragmenting header marks the packet": the mark behind a header, where `marked` is the one before it
abbrev pub marking : Fragment → Bool → Bool
marking F.Not marked = marked
marking F.First marked = true
marking F.Later marked = true
