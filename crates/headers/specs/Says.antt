-- What the readers say, from the table of crate rules: the fields of a header that passes its tests, or the first failed.
use Rattle.std.specs.Prelude.{ℕ, List, eqb, Option, Some, None, Result, Ok, Err}
use Rattle.rules.specs.declared.ether_type.EtherType.{EtherType}
use Rattle.rules.specs.declared.ip_number.IpNumber.{IpNumber}
use Rattle.rules.specs.declared.kind.Kind.{Kind}
use Rattle.rules.specs.declared.kind.Kind.TheVariants.{Udp, Tcp}
use Rattle.rules.specs.declared.place.Number.{Number}
use Rattle.rules.specs.declared.place.Number.TheVariants.{Link, Ip}
use Rattle.rules.specs.declared.refusal.Fault.{Fault}
use Rattle.rules.specs.Test.{pick, Verdict, whole, failed}
use Rattle.rules.specs.Paper.{fault_on_paper}
use Rattle.rules.specs.Rules.{Rule, rule, raw_rule, ether_type_of, ip_number_of, udp_end, tcp_end, says}
use Rattle.headers.specs.declared.net.IpHeader.{IpHeader}
use Rattle.headers.specs.declared.net.ExtHeader.{ExtHeader}
use Rattle.headers.specs.declared.transport.TransportHeader.{TransportHeader}

-- ---- the answers on paper: what a whole header says, or the row of the refusal

abbrev pub read_on_paper : {A : Type 0} → Result A Fault → Verdict A
read_on_paper (Ok x) = whole x
read_on_paper (Err f) = failed (fault_on_paper f)

-- ---- the fields, by a kind's rule

-- the number named, as a link number and as an IP number; a link header names no IP number and an IP header no EtherType,
-- so the zeros are never met
abbrev pub link_number : Number → EtherType
link_number (Link n) = n
link_number (Ip n) = ether_type_of 0

abbrev pub net_number : Number → IpNumber
net_number (Link n) = ip_number_of 0
net_number (Ip n) = n

-- a declared length: the rules have 0 where a header declares none
abbrev pub declared_in : ℕ → Option ℕ
declared_in d = pick (eqb d 0) None (Some d)

abbrev pub ip_fields : Rule → (ℕ → ℕ) → IpHeader
ip_fields r g = record { len = r.size g; declared = declared_in (r.declared g); names = net_number (r.names g); fragment = r.fragment g }

abbrev pub ext_fields : Rule → (ℕ → ℕ) → ExtHeader
ext_fields r g = record { len = r.size g; names = net_number (r.names g); fragment = r.fragment g }

abbrev pub transport_fields : Rule → (ends : (ℕ → ℕ) → ℕ → ℕ) → (ℕ → ℕ) → ℕ → TransportHeader
transport_fields r ends g have = record { len = r.size g; end = ends g have }

-- ---- what is said of the bytes w, in a packet of the IP version v

abbrev pub link_says : Kind → ℕ → List ℕ → Verdict EtherType
link_says k v = says k (rule k) v (λ g have. link_number ((rule k).names g))

abbrev pub ip_says : Kind → ℕ → List ℕ → Verdict IpHeader
ip_says k v = says k (rule k) v (λ g have. ip_fields (rule k) g)

abbrev pub ext_says : Kind → ℕ → List ℕ → Verdict ExtHeader
ext_says k v = says k (rule k) v (λ g have. ext_fields (rule k) g)

-- the raw shape under any name: ext_says k, where k is hop-by-hop, routing or destination
abbrev pub raw_says : Kind → ℕ → List ℕ → Verdict ExtHeader
raw_says k v = says k (raw_rule k) v (λ g have. ext_fields (raw_rule k) g)

abbrev pub udp_says : ℕ → List ℕ → Verdict TransportHeader
udp_says v = says Udp (rule Udp) v (transport_fields (rule Udp) udp_end)

abbrev pub tcp_says : ℕ → List ℕ → Verdict TransportHeader
tcp_says v = says Tcp (rule Tcp) v (transport_fields (rule Tcp) tcp_end)
