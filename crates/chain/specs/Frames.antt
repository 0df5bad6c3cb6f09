-- Document 01's starred frames, F1 to F10, in one table under one claim, by computation; besides them F12, the 60-byte line and the
-- first byte 0x54. Bytes that the paper leaves open are zero.
use Rattle.std.specs.Prelude.{ℕ, ◌*◌, ◌/◌, ◌%◌, ◌≡◌, refl, List, [], ◌∷◌, ◌++◌, map, replicate, Result}
use Rattle.std.proofs.Common.{ap, ◌∙◌}
use Rattle.rules.specs.declared.kind.Kind.TheVariants.{Ethernet2, Vlan, Ipv4, HopByHop, Auth, Udp, Tcp}
use Rattle.rules.specs.declared.kind.Layer.{Layer}
use Rattle.rules.specs.declared.kind.Layer.TheVariants.{Of, Ipv4Packet}
use Rattle.rules.specs.declared.kind.Source.{Source}
use Rattle.rules.specs.declared.kind.Source.TheVariants as S
use Rattle.rules.specs.declared.place.Number.{Number}
use Rattle.rules.specs.declared.place.Number.TheVariants.{Link, Ip}
use Rattle.rules.specs.Named.{source_number}
use Rattle.rules.specs.Test.{row, judge}
use Rattle.rules.specs.Rules.{ether_type_of, ip_number_of, is_tag, link, transport, chain4, chain6}
use Rattle.rules.specs.Rules.{length_of, declared_of, fragment_of, names_of, turn_of, payload_of, seen_by, tests_by}
use Rattle.rules.specs.Place.{leaves, follow, follow_of, bytes, outcome, read, start, opening}
use Rattle.rules.specs.Walk.{walk, trace, slices}
use Rattle.laws.specs.Gather.{gathered, listed}
use Rattle.rules.specs.declared.refusal.Refusal.{Refusal}
use Rattle.checksum.specs.declared.Sum16BitWords.{Sum16BitWords}
use Rattle.checksum.specs.Sum.{total, totals, fold, answer, without_zero, add_slice, add_slices}
use Rattle.checksum.specs.Laws.{add-slices}
use Rattle.rules.specs.declared.entry.Entry.TheVariants as E
use Rattle.slicer.specs.declared.packet.SlicedPacket.{SlicedPacket}
use Rattle.slicer.specs.Reply.{Ended, accepted, refused, Reply, slots, outcome_on_paper, reply_of}
use Rattle.chain.specs.Answers.{Sliced, outcome_of, ended_is}

-- ---- bytes

unfoldable pub zeros : ℕ → List ℕ
zeros n = replicate n 0

unfoldable pub two : ℕ → List ℕ
two n = n / 256 ∷ n % 256 ∷ []

unfoldable pub ethernet : (type : ℕ) → List ℕ
ethernet type = zeros 12 ++ two type

unfoldable pub tag : (type : ℕ) → List ℕ
tag type = zeros 2 ++ two type

unfoldable pub ipv4 : (first total protocol : ℕ) → List ℕ
ipv4 first total protocol = first ∷ 0 ∷ two total ++ zeros 5 ++ (protocol ∷ zeros 10)

unfoldable pub ipv6 : (payload next : ℕ) → List ℕ
ipv6 payload next = 0x60 ∷ zeros 3 ++ two payload ++ (next ∷ zeros 33)

unfoldable pub udp : (len : ℕ) → List ℕ
udp len = zeros 4 ++ two len ++ zeros 2

unfoldable pub tcp : (offset : ℕ) → List ℕ
tcp offset = zeros 12 ++ (offset * 16 ∷ zeros 7)

-- ---- questions and answers

pub data Question : Type 0 where
  frame : List ℕ → Question
  sum no_zero : List (List ℕ) → Question

pub data Told : Type 0 where
  reply : Ended → Told
  checksum : ℕ → Told

pub record Sample : Type 0 where
  pub asked : Question
  pub told : Told

-- what the definitions give
pub ask : Question → Told
ask (frame s) = reply (reply_of E.Ethernet s).ended
ask (sum slices) = checksum (answer (fold (totals slices)))
ask (no_zero slices) = checksum (without_zero (answer (fold (totals slices))))

infixl 1 ◌gives◌
◌gives◌ : Question → Told → Sample
q gives t = record { asked = q; told = t }

-- a stop, the number that names the payload, and where the payload begins and ends
stop : ℕ → Number → (from len : ℕ) → Told
stop why number from len = reply (accepted (record { why = why; number = number; at = from; len = len }))

short : Layer → (offset required have : ℕ) → Source → Told
short layer offset required have source = reply (refused (row 1 layer offset (required ∷ have ∷ source_number source ∷ [])))

other : ℕ → Layer → (offset value : ℕ) → Told
other n layer offset value = reply (refused (row n layer offset (value ∷ 0 ∷ 0 ∷ [])))

pub table : List Sample
table =
    -- F1: 13 bytes; 14 bytes of type 0x0806
    (frame (zeros 13) gives short (Of Ethernet2) 0 14 13 S.Slice)
    ∷ (frame (ethernet 0x0806) gives stop 1 (Link (ether_type_of 0x0806)) 14 0)
    -- F2: three tags, the third naming 0x8100, 26 bytes
    ∷ (frame (ethernet 0x8100 ++ tag 0x8100 ++ tag 0x8100 ++ tag 0x8100) gives stop 2 (Link (ether_type_of 0x8100)) 26 0)
    -- F3: one tag naming 0x8100, then 3 bytes
    ∷ (frame (ethernet 0x8100 ++ tag 0x8100 ++ zeros 3) gives short (Of Vlan) 18 4 3 S.Slice)
    -- F4: IHL 5, total length 19, 20 bytes; total 21; total 20, protocol 17
    ∷ (frame (ethernet 0x0800 ++ ipv4 0x45 19 17) gives short Ipv4Packet 14 20 19 S.Ipv4)
    ∷ (frame (ethernet 0x0800 ++ ipv4 0x45 21 17) gives short Ipv4Packet 14 21 20 S.Slice)
    ∷ (frame (ethernet 0x0800 ++ ipv4 0x45 20 17) gives short (Of Udp) 34 8 0 S.Ipv4)
    -- F5: IPv6, payload 8, next 0, whose header names 0
    ∷ (frame (ethernet 0x86DD ++ ipv6 8 0 ++ zeros 8) gives other 5 (Of HopByHop) 62 0)
    -- F6: IPv6, payload 8, next 44, naming 17, offset 0; M = 1; M = 0
    ∷ (frame (ethernet 0x86DD ++ ipv6 8 44 ++ (17 ∷ 0 ∷ 0 ∷ 1 ∷ zeros 4)) gives stop 3 (Ip (ip_number_of 17)) 62 0)
    ∷ (frame (ethernet 0x86DD ++ ipv6 8 44 ++ (17 ∷ 0 ∷ 0 ∷ 0 ∷ zeros 4)) gives short (Of Udp) 62 8 0 S.Ipv6)
    -- F7: IPv4 total 32, protocol 51, AUTH length byte 0; total 31
    ∷ (frame (ethernet 0x0800 ++ ipv4 0x45 32 51 ++ zeros 12) gives other 6 (Of Auth) 34 0)
    ∷ (frame (ethernet 0x0800 ++ ipv4 0x45 31 51 ++ zeros 12) gives short (Of Auth) 34 12 11 S.Ipv4)
    -- F8: UDP length 7 in 8 bytes; length 0
    ∷ (frame (ethernet 0x0800 ++ ipv4 0x45 28 17 ++ udp 7) gives short (Of Udp) 34 8 7 S.Udp)
    ∷ (frame (ethernet 0x0800 ++ ipv4 0x45 28 17 ++ udp 0) gives stop 5 (Ip (ip_number_of 17)) 42 0)
    ∷ (frame (ethernet 0x86DD ++ ipv6 8 17 ++ udp 7) gives short (Of Udp) 54 8 7 S.Udp)
    ∷ (frame (ethernet 0x86DD ++ ipv6 8 17 ++ udp 0) gives stop 5 (Ip (ip_number_of 17)) 62 0)
    -- F9: TCP offset 4 in 20 bytes; offset 6
    ∷ (frame (ethernet 0x0800 ++ ipv4 0x45 40 6 ++ tcp 4) gives other 7 (Of Tcp) 34 4)
    ∷ (frame (ethernet 0x0800 ++ ipv4 0x45 40 6 ++ tcp 6) gives short (Of Tcp) 34 24 20 S.Ipv4)
    ∷ (frame (ethernet 0x86DD ++ ipv6 20 6 ++ tcp 4) gives other 7 (Of Tcp) 54 4)
    ∷ (frame (ethernet 0x86DD ++ ipv6 20 6 ++ tcp 6) gives short (Of Tcp) 54 24 20 S.Ipv6)
    -- F10: words of 00 01 f2 03 f4 f5 f6 f7; nothing; ff ff, and its no_zero form
    ∷ (sum ((0x00 ∷ 0x01 ∷ 0xf2 ∷ 0x03 ∷ 0xf4 ∷ 0xf5 ∷ 0xf6 ∷ 0xf7 ∷ []) ∷ []) gives checksum 0x220d)
    ∷ (sum [] gives checksum 0xffff)
    ∷ (sum ((0xff ∷ 0xff ∷ []) ∷ []) gives checksum 0)
    ∷ (no_zero ((0xff ∷ 0xff ∷ []) ∷ []) gives checksum 0xffff)
    -- F11: 01 added, then 02; 01 02 at once
    ∷ (sum ((0x01 ∷ []) ∷ (0x02 ∷ []) ∷ []) gives checksum 0xfcff)
    ∷ (sum ((0x01 ∷ 0x02 ∷ []) ∷ []) gives checksum 0xfefd)
    -- F12: one tag, IPv4 total 32, UDP length 12, zeros up to 60 bytes; the 60-byte line; first byte 0x54
    ∷ (frame (ethernet 0x8100 ++ tag 0x0800 ++ ipv4 0x45 32 17 ++ udp 12 ++ zeros 14) gives stop 5 (Ip (ip_number_of 17)) 46 4)
    ∷ (frame (ethernet 0x0800 ++ ipv4 0x45 60 17 ++ zeros 26) gives short Ipv4Packet 14 60 46 S.Slice)
    ∷ (frame (ethernet 0x0800 ++ ipv4 0x54 20 17) gives other 2 (Of Ipv4) 14 5)
    ∷ []

-- every row's answer is the listed one
pub frames_right : map (λ (r : Sample). ask r.asked) table ≡ map (λ (r : Sample). r.told) table
unfolding table ask ◌gives◌ stop short other zeros two ethernet tag ipv4 ipv6 udp tcp reply_of gathered listed slots slices opening trace walk
    start read outcome bytes seen_by judge tests_by leaves length_of declared_of fragment_of names_of turn_of payload_of follow follow_of
    link is_tag chain4 chain6 transport total totals fold without_zero
frames_right = refl

-- and so is that of `slice`: what it tells of a frame is what the definitions give
pub frame_told : (s : List ℕ) (r : Result SlicedPacket Refusal) → Sliced E.Ethernet s r → reply (outcome_on_paper (outcome_of r)) ≡ ask (frame s)
unfolding ask
frame_told s r e = ap reply (ended_is r ∙ ap (λ (p : Reply). p.ended) e)

-- ---- and so are the sums: a state that came from `new` by `add_slice` of each slice in order

pub data Summed : List (List ℕ) → Sum16BitWords → Type 0 where
  from-none : {r : Sum16BitWords} → r.sum ≡ fold (totals []) → Summed [] r
  with_slice : {slices : List (List ℕ)} (s : List ℕ) {before r : Sum16BitWords} → Summed slices before → r.sum ≡ add_slice before.sum s
      → Summed (slices ++ (s ∷ [])) r

-- "state by value": the sum of no slices is 0
pub none_summed : Summed [] (record { sum = 0 })
unfolding fold totals
none_summed = from-none refl

-- holds the folded sum of them
summed : {slices : List (List ℕ)} {r : Sum16BitWords} → Summed slices r → r.sum ≡ fold (totals slices)
unfolding add_slices
summed (from-none e) = e
summed (with_slice {slices} s x e) = e ∙ ap (λ (n : ℕ). add_slice n s) (summed x) ∙ add-slices slices (s ∷ [])

-- so what `ones_complement` and `to_ones_complement_with_no_zero` tell of it is what the table's rows have
pub sum_told : (slices : List (List ℕ)) (r : Sum16BitWords) (a : ℕ) → Summed slices r → a ≡ answer r.sum → checksum a ≡ ask (sum slices)
unfolding ask
sum_told slices r a x e = ap checksum (e ∙ ap answer (summed x))

pub no_zero-told : (slices : List (List ℕ)) (r : Sum16BitWords) (a : ℕ) → Summed slices r → a ≡ without_zero (answer r.sum) → checksum a ≡ ask (no_zero slices)
unfolding ask
no_zero-told slices r a x e = ap checksum (e ∙ ap (λ (n : ℕ). without_zero (answer n)) (summed x))
