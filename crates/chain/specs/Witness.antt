-- That the declared-length theorem speaks of something: F12 with its padding and without it. The two meet its hypotheses, so they are alike.
use Rattle.std.specs.Prelude.{ℕ, refl, false, List, ◌++◌}
use Rattle.std.proofs.Common.{arith}
use Rattle.rules.specs.declared.entry.Entry.TheVariants as E
use Rattle.rules.specs.declared.kind.Kind.TheVariants.{Ethernet2, Vlan, Ipv4}
use Rattle.rules.specs.declared.kind.RoomSource.TheVariants as S
use Rattle.rules.specs.declared.place.Place.{Place}
use Rattle.rules.specs.Rules.{is_tag, link, length_of, declared_of, fragment_of, turn_of, seen_by, tests_by}
use Rattle.rules.specs.Place.{room, place, leaves, bytes, start, opening}
use Rattle.chain.specs.Alike.{Alike}
use Rattle.chain.specs.DeclaredLength.{past_declared_length}
use Rattle.chain.specs.Frames.{zeros, two, ethernet, tag, ipv4, udp}
use Rattle.chain.specs.Padding.{ethernet2, vlan}
use Rattle.chain.specs.Twins.{LinksFrom, opened, here, onto, Declares}
use Rattle.chain.specs.Walked.{stands}

-- 50 bytes: one tag, IPv4 with total length 32, UDP with length 12 and 4 bytes; and with zeros up to 60 bytes
abbrev bare : List ℕ
bare = ethernet 0x8100 ++ tag 0x0800 ++ ipv4 0x45 32 17 ++ udp 12 ++ zeros 4

abbrev padded : List ℕ
padded = bare ++ zeros 10

-- where the tag and the IPv4 header stand in the padded frame
abbrev tag_place : Place
tag_place = place Vlan 14 (room 60 1 0 0 S.Slice false)

abbrev ip_place : Place
ip_place = place Ipv4 18 (room 60 1 0 1 S.Slice false)

links : LinksFrom padded (opening E.Ethernet padded) ip_place
unfolding zeros two ethernet tag ipv4 udp opening start bytes seen_by tests_by leaves length_of declared_of fragment_of turn_of link is_tag
links =
    opened
    (onto {p = start Ethernet2 padded} ethernet2 (stands padded (start Ethernet2 padded) (omega arith, tt)) (record { names = refl; begins = refl; room = refl })
    (onto {p = tag_place} vlan (stands padded tag_place (omega arith, tt)) (record { names = refl; begins = refl; room = refl }) here))

declares : Declares padded bare ip_place
unfolding zeros two ethernet tag ipv4 udp bytes seen_by tests_by leaves length_of declared_of fragment_of
declares =
    record {
      accepted = stands padded ip_place (omega arith);
      some = omega arith;
      there = omega arith;
      agree = refl;
    }

pub padding_alters_nothing : Alike E.Ethernet padded bare
padding_alters_nothing = past_declared_length E.Ethernet padded bare ip_place links declares
