-- `header::header_at` meets its contract. Assumes nothing.
use Rattle.one_header.specs.Header.{ethernet_reads, vlan_reads, ipv4_reads, ipv6_reads}
use Rattle.one_header.specs.Header.{hop_reads, routing_reads, destination_reads, fragment_reads, auth_reads, same_chain, udp_reads, tcp_reads}
use mathlib.Core.Path.{◌∙◌}
use Rattle.one_header.proofs.header.header_at.Goals as goal

pub returns-in-Ethernet2-clause-answer : goal.returns-in-Ethernet2-clause-answer
returns-in-Ethernet2-clause-answer c =
    let at = c.args.at in let p = c.args.room in rw c.in-Ethernet2.is (c.link_header.ensures c.args.at ∙ ethernet_reads _ at p
    (c.link_at.ensures.answer p.version))

pub returns-in-Vlan-clause-answer : goal.returns-in-Vlan-clause-answer
returns-in-Vlan-clause-answer c =
    let at = c.args.at in let p = c.args.room in rw c.in-Vlan.is (c.link_header-in-Vlan.ensures c.args.at ∙ vlan_reads _ at p (c.link_at-in-Vlan.ensures.answer p.version))

pub returns-in-Ipv4-clause-answer : goal.returns-in-Ipv4-clause-answer
returns-in-Ipv4-clause-answer c =
    let at = c.args.at in let p = c.args.room in rw c.in-Ipv4.is (c.ip_header.ensures c.args.at c.args.room
    ∙ ipv4_reads _ at p (c.ip_at.ensures.answer p.version))

pub returns-in-Ipv6-clause-answer : goal.returns-in-Ipv6-clause-answer
returns-in-Ipv6-clause-answer c =
    let at = c.args.at in let p = c.args.room in rw c.in-Ipv6.is (c.ip_header-in-Ipv6.ensures c.args.at c.args.room
    ∙ ipv6_reads _ at p (c.ip_at-in-Ipv6.ensures.answer p.version))

pub returns-in-HopByHop-clause-answer : goal.returns-in-HopByHop-clause-answer
returns-in-HopByHop-clause-answer c =
    let at = c.args.at in let p = c.args.room in rw c.in-HopByHop.is (c.ext_header.ensures c.args.at ∙ hop_reads _ at p (c.ext_at.ensures.answer p.version))

pub returns-in-Routing-clause-answer : goal.returns-in-Routing-clause-answer
returns-in-Routing-clause-answer c =
    let at = c.args.at in let p = c.args.room in rw c.in-Routing.is (c.ext_header-in-Routing.ensures c.args.at ∙ routing_reads _ at p
    (c.ext_at-in-Routing.ensures.answer p.version))

pub returns-in-Destination-clause-answer : goal.returns-in-Destination-clause-answer
returns-in-Destination-clause-answer c =
    let at = c.args.at in let p = c.args.room in rw c.in-Destination.is (c.ext_header-in-Destination.ensures c.args.at ∙ destination_reads _ at p
    (c.ext_at-in-Destination.ensures.answer p.version))

pub returns-in-Fragment-clause-answer : goal.returns-in-Fragment-clause-answer
returns-in-Fragment-clause-answer c =
    let at = c.args.at in let p = c.args.room in rw c.in-Fragment.is (c.ext_header-in-Fragment.ensures c.args.at ∙ fragment_reads _ at p
    (c.ext_at-in-Fragment.ensures.answer p.version))

pub returns-in-Auth-clause-answer : goal.returns-in-Auth-clause-answer
returns-in-Auth-clause-answer c =
    let at = c.args.at in let p = c.args.room in rw c.in-Auth.is (c.ext_header-in-Auth.ensures c.args.at ∙ same_chain _ _ _ _ at p c.chain_of.ensures
    ∙ auth_reads _ at p (c.ext_at-in-Auth.ensures.answer p.version))

pub returns-in-Udp-clause-answer : goal.returns-in-Udp-clause-answer
returns-in-Udp-clause-answer c =
    let at = c.args.at in let p = c.args.room in rw c.in-Udp.is (c.transport_header.ensures c.args.at ∙ udp_reads _ at p
    (c.transport_at.ensures.answer p.version))

pub returns-in-Tcp-clause-answer : goal.returns-in-Tcp-clause-answer
returns-in-Tcp-clause-answer c =
    let at = c.args.at in let p = c.args.room in rw c.in-Tcp.is (c.transport_header-in-Tcp.ensures c.args.at ∙ tcp_reads _ at p
    (c.transport_at-in-Tcp.ensures.answer p.version))
