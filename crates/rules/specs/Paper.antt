-- Faults and refusals on paper: the row of the table of refusals for every case. The promises use these.
use Rattle.std.specs.Prelude.{[], ◌∷◌}
use Rattle.rules.specs.declared.kind.Kind.TheVariants.{Ipv4, Ipv6, HopByHop, Auth, Tcp}
use Rattle.rules.specs.declared.kind.Layer.TheVariants.{Of}
use Rattle.rules.specs.declared.refusal.Fault.{Fault}
use Rattle.rules.specs.declared.refusal.Fault.TheVariants as F
use Rattle.rules.specs.declared.refusal.Refusal.{Refusal}
use Rattle.rules.specs.declared.refusal.Refusal.TheVariants as R
use Rattle.rules.specs.declared.refusal.Row.{Row}
use Rattle.rules.specs.Numbers.{too_short, ipv4_version, ihl_below5, ipv6_version, hop_by_hop_not_at_start, auth_length_zero, data_offset_below5}
use Rattle.rules.specs.Named.{source_number}
use Rattle.rules.specs.Test.{Failure, short, other, row}

-- a reader's fault: the row of the table of refusals, without its place
abbrev pub fault_on_paper : Fault → Failure
fault_on_paper (F.TooShort required have layer bound) = short layer required have bound
fault_on_paper (F.Ipv4Version version) = other ipv4_version (Of Ipv4) version
fault_on_paper (F.SmallIhl ihl) = other ihl_below5 (Of Ipv4) ihl
fault_on_paper (F.Ipv6Version version) = other ipv6_version (Of Ipv6) version
fault_on_paper F.ZeroAuthLength = other auth_length_zero (Of Auth) 0
fault_on_paper (F.SmallDataOffset value) = other data_offset_below5 (Of Tcp) value

-- a refusal: its row
abbrev pub refusal_on_paper : Refusal → Row
refusal_on_paper (R.TooShort offset required have layer source) = row too_short layer offset (required ∷ have ∷ source_number source ∷ [])
refusal_on_paper (R.Ipv4Version offset version) = row ipv4_version (Of Ipv4) offset (version ∷ 0 ∷ 0 ∷ [])
refusal_on_paper (R.SmallIhl offset ihl) = row ihl_below5 (Of Ipv4) offset (ihl ∷ 0 ∷ 0 ∷ [])
refusal_on_paper (R.Ipv6Version offset version) = row ipv6_version (Of Ipv6) offset (version ∷ 0 ∷ 0 ∷ [])
refusal_on_paper (R.HopByHopNotAtStart offset) = row hop_by_hop_not_at_start (Of HopByHop) offset (0 ∷ 0 ∷ 0 ∷ [])
refusal_on_paper (R.ZeroAuthLength offset) = row auth_length_zero (Of Auth) offset (0 ∷ 0 ∷ 0 ∷ [])
refusal_on_paper (R.SmallDataOffset offset value) = row data_offset_below5 (Of Tcp) offset (value ∷ 0 ∷ 0 ∷ [])
