-- "Each public answer is settled by its input alone, refusals with all that they carry included. Prove that no second answer
-- satisfies the same contract": a statement for each public function. Of two answers x and y that both satisfy its `ensures`, x ≡ y.
-- The functions whose contract says `r ≡ value` have theirs in SettledValues.antt. One exception: header_at, below.
use Rattle.std.specs.Prelude.{ℕ, ◌+◌, ◌-◌, ◌≡◌, Bool, false, List, [], length, Option, Result, Ok, Err}
use Rattle.std.proofs.Math.Path.{refl, ap}
use Rattle.std.proofs.Common.{sym, ◌∙◌, arith}
use Rattle.rules.specs.declared.place.Range.{Range}
use Rattle.rules.specs.declared.place.Header.{Header}
use Rattle.rules.specs.declared.entry.Entry.{Entry}
use Rattle.rules.specs.declared.kind.Kind.{Kind}
use Rattle.rules.specs.declared.kind.Kind.TheVariants as K
use Rattle.rules.specs.declared.kind.Layer.{Layer}
use Rattle.rules.specs.declared.kind.RoomSource.{RoomSource}
use Rattle.rules.specs.declared.kind.RoomSource.TheVariants as S
use Rattle.rules.specs.declared.place.Place.{Place}
use Rattle.rules.specs.declared.place.Room.{Room}
use Rattle.rules.specs.declared.refusal.Fault.{Fault}
use Rattle.rules.specs.declared.refusal.Refusal.{Refusal}
use Rattle.rules.specs.declared.refusal.Row.{Row}
use Rattle.rules.specs.declared.stop.Stop.{Stop}
use Rattle.rules.specs.declared.turn.Turn.{Turn}
use Rattle.rules.specs.declared.turn.Turn.TheVariants as T
use Rattle.rules.specs.Named.{layer_number}
use Rattle.rules.specs.Test.{placed}
use Rattle.rules.specs.Paper.{fault_on_paper, refusal_on_paper}
use Rattle.rules.specs.Rules.{link, transport}
use Rattle.rules.specs.Place.{room, Found, Stopped, Follow, halt, follow, reads, refuses}
use Rattle.rules.specs.Place as W
use Rattle.headers.specs.Says.{read_on_paper, link_says, ip_says, ext_says, raw_says, udp_says, tcp_says}
use Rattle.one_header.specs.declared.link.LinkKind.{LinkKind}
use Rattle.one_header.specs.declared.link.LinkTurn.{LinkTurn}
use Rattle.one_header.specs.declared.ip.IpKind.{IpKind}
use Rattle.one_header.specs.declared.ip.IpFound.{IpFound}
use Rattle.one_header.specs.declared.transport.TransportKind.{TransportKind}
use Rattle.headers.specs.declared.net.IpHeader.{IpHeader}
use Rattle.headers.specs.declared.net.ExtHeader.{ExtHeader}
use Rattle.headers.specs.declared.transport.TransportHeader.{TransportHeader}
use Rattle.rules.specs.declared.ether_type.EtherType.{EtherType}
use Rattle.one_header.specs.declared.ext.ExtKind.{ExtKind}
use Rattle.one_header.specs.declared.onward.Onward.{Onward}
use Rattle.one_header.specs.declared.onward.Onward.TheVariants as O
use Rattle.one_header.specs.Onwards.{leads_by}
use Rattle.one_header.specs.declared.header.HeaderFound.{HeaderFound}
use Rattle.one_header.specs.At.{placing, over, setting, transport_says, at_on_paper}
use Rattle.one_header.specs.Turns.{link_kind_of, ip_kind_of, sets_of, ext_kind_of, link_turn_on_paper, transport_turn_on_paper}
use Rattle.one_header.specs.Header.{left_by, found_on_paper, header_read_on_paper, read_part}
use Rattle.slicer.specs.declared.packet.SlicedPacket.{SlicedPacket}
use Rattle.slicer.specs.Options.{options_of}
use Rattle.slicer.specs.Reply.{packet_on_paper, reply_of}
use Rattle.steps.specs.Places.{same_place}
use Rattle.checksum.specs.declared.Sum16BitWords.{Sum16BitWords}
use Rattle.checksum.specs.Sum.{fold, totals, add_slice, answer, without_zero}
use Rattle.tcp_options.specs.declared.answer.TcpOption.{TcpOption}
use Rattle.tcp_options.specs.declared.answer.OptionRefusal.{OptionRefusal}
use Rattle.tcp_options.specs.declared.kind.OptionKind.{OptionKind}
use Rattle.tcp_options.specs.Options.{named, options, option_of}
use Rattle.tcp_options.specs.Paper.{kind_on_paper, option_on_paper}
use Rattle.tcp_options.specs.Settled.{kind_settled, settled}
use Rattle.chain.specs.Answers.{Sliced, HeaderIs, CountIs, ListIs, FirstIs, StepIs}
use Rattle.laws.specs.Back.{settled_by, layer_back, stop_back}
use Rattle.chain.specs.Back.{refusal-back, read_back}
use Rattle.chain.specs.Back.{at_back, link_turn_back, transport_turn_back}
use Rattle.chain.specs.Back.{packet_back, header_back, count_back, step_back}

-- no two answers satisfy the contract
abbrev pub Settles : {A : Type 0} → (A → Type 0) → Type 0
Settles {A} contract = (x y : A) → contract x → contract y → x ≡ y

-- an answer that is said to equal a value is settled
pub same_value : {A : Type 0} {x y z : A} → x ≡ z → y ≡ z → x ≡ y
same_value e f = e ∙ sym f

-- ---- crate rules: Fault::at and Refusal::layer

pub fault_at : (self : Fault) (offset : ℕ) (room : RoomSource) → Settles (λ (r : Refusal). refusal_on_paper r ≡ placed (fault_on_paper self) offset room)
fault_at self offset room x y e f = settled_by refusal-back e f

pub refusal_layer : (self : Refusal) → Settles (λ (r : Layer). layer_number r ≡ (refusal_on_paper self).layer)
refusal_layer self x y e f = settled_by layer_back e f

-- ---- crate headers, w the bytes that the reader is handed. Its contracts speak of every IP version v; there is one.

pub read_ethernet2 : (w : List ℕ) → Settles (λ (r : Result EtherType Fault). (v : ℕ) → read_on_paper r ≡ link_says K.Ethernet2 v w)
read_ethernet2 w x y e f = settled_by read_back (e 0) (f 0)

pub read_vlan : (w : List ℕ) → Settles (λ (r : Result EtherType Fault). (v : ℕ) → read_on_paper r ≡ link_says K.Vlan v w)
read_vlan w x y e f = settled_by read_back (e 0) (f 0)

pub read-ipv4 : (w : List ℕ) → Settles (λ (r : Result IpHeader Fault). (v : ℕ) → read_on_paper r ≡ ip_says K.Ipv4 v w)
read-ipv4 w x y e f = settled_by read_back (e 0) (f 0)

pub read-ipv6 : (w : List ℕ) → Settles (λ (r : Result IpHeader Fault). (v : ℕ) → read_on_paper r ≡ ip_says K.Ipv6 v w)
read-ipv6 w x y e f = settled_by read_back (e 0) (f 0)

pub read_auth : (w : List ℕ) → Settles (λ (r : Result ExtHeader Fault). (v : ℕ) → read_on_paper r ≡ ext_says K.Auth v w)
read_auth w x y e f = settled_by read_back (e 0) (f 0)

pub read_fragment : (w : List ℕ) → Settles (λ (r : Result ExtHeader Fault). (v : ℕ) → read_on_paper r ≡ ext_says K.Fragment v w)
read_fragment w x y e f = settled_by read_back (e 0) (f 0)

pub read_raw_ext : (w : List ℕ) (kind : Kind) → Settles (λ (r : Result ExtHeader Fault). (v : ℕ) → read_on_paper r ≡ raw_says kind v w)
read_raw_ext w kind x y e f = settled_by read_back (e 0) (f 0)

pub read-udp : (w : List ℕ) → Settles (λ (r : Result TransportHeader Fault). (v : ℕ) → read_on_paper r ≡ udp_says v w)
read-udp w x y e f = settled_by read_back (e 0) (f 0)

pub read-tcp : (w : List ℕ) → Settles (λ (r : Result TransportHeader Fault). (v : ℕ) → read_on_paper r ≡ tcp_says v w)
read-tcp w x y e f = settled_by read_back (e 0) (f 0)

-- ---- crate one_header: a reader's answer at a place. ext_turn, opens_auth and what is made by `from` say `r ≡ ..`.

module _ (w : List ℕ) (at : ℕ) (source : RoomSource) where
  pub link_at : (kind : LinkKind) → Settles (λ (r : Result EtherType Refusal). (v : ℕ) → at_on_paper r ≡ placing (link_says (link_kind_of kind) v w) at source)
  link_at kind x y e f = settled_by at_back (e 0) (f 0)

  pub ip_at : (kind : IpKind) → Settles (λ (r : Result IpFound Refusal). (v : ℕ) → at_on_paper r
      ≡ placing (over (λ x. setting x (length w) (sets_of kind) source) (ip_says (ip_kind_of kind) v w)) at source)
  ip_at kind x y e f = settled_by at_back (e 0) (f 0)

  pub ext_at : (kind : ExtKind) → Settles (λ (r : Result ExtHeader Refusal). (v : ℕ) → at_on_paper r ≡ placing (ext_says (ext_kind_of kind) v w) at source)
  ext_at kind x y e f = settled_by at_back (e 0) (f 0)

  pub transport_at : (kind : TransportKind) → Settles (λ (r : Result TransportHeader Refusal). (v : ℕ) → at_on_paper r ≡ placing (transport_says kind v w) at source)
  transport_at kind x y e f = settled_by at_back (e 0) (f 0)

-- where a number leads. The contract of a turn speaks of every room with these tags or this mark; there is one.
any_room : (tags : ℕ) → Bool → Room
any_room tags mark = room 0 tags 0 0 S.Slice mark

pub link_turn : (n tags : ℕ) → Settles (λ (r : LinkTurn). (p : Room) → p.tags ≡ tags → link_turn_on_paper r ≡ link p n)
unfolding any_room
link_turn n tags x y e f = settled_by link_turn_back (e (any_room tags false) refl) (f (any_room tags false) refl)

-- `Turn::from` of where a number leads, for any kinds that are settled
pub onward_turn : {K : Type 0} (kind_of : K → Kind) (o : Onward K) → Settles (λ (r : Turn). leads_by (λ k kind. kind ≡ kind_of k) o r)
onward_turn kind_of (O.Opens k) x y e f = e.2 ∙ ap T.Opens (e.1 ∙ sym f.1) ∙ sym f.2
onward_turn kind_of (O.Stops stop) x y e f = same_value e f

pub transport_turn : (n : ℕ) (mark : Bool) → Settles (λ (r : Onward TransportKind). (p : Room) → p.mark ≡ mark → transport_turn_on_paper r ≡ transport p n)
unfolding any_room
transport_turn n mark x y e f = settled_by transport_turn_back (e (any_room 0 mark) refl) (f (any_room 0 mark) refl)

-- ---- crate one_header: header_at, whose contract leaves two fields of a whole header open, `number` and `to`. It says what the header
-- does to the walk (header_read_on_paper), and `follow` takes the number and the payload's end only to a stop:
-- - where the walk goes on, or a late hop-by-hop number ends it, `number` and `to` may be any;
-- - where it stops, `number` is settled, but of `to` only the payload's length shows: one that is not past `len` may be any such.
-- All other fields are settled, and a refusal is settled whole.

pub record SameFound (x y : HeaderFound) : Type 0 where
  pub len : x.len ≡ y.len
  pub end : x.end ≡ y.end
  pub version : x.version ≡ y.version
  pub turn : x.turn ≡ y.turn
  pub source : x.source ≡ y.source
  pub mark : x.mark ≡ y.mark
  pub number : (stop : Stop) → x.turn ≡ T.Stops stop → x.number ≡ y.number
  pub payload : (stop : Stop) → x.turn ≡ T.Stops stop → x.to - x.len ≡ y.to - y.len

abbrev pub SameRead : Result HeaderFound Refusal → Result HeaderFound Refusal → Type 0
SameRead (Ok x) (Ok y) = SameFound x y
SameRead (Err q) (Err r) = q ≡ r
SameRead (Ok x) (Err r) = ⊥
SameRead (Err q) (Ok y) = ⊥

-- what follows the header, by a turn
abbrev follows_at : ℕ → Room → HeaderFound → Turn → Follow
follows_at at p x t = follow t (left_by x at p) (at + x.len) x.number (at + x.to)

unnext : {a b : Place} → W.next a ≡ W.next b → a ≡ b
unnext e = cc

unhalt : {a b : Stopped} → halt a ≡ halt b → a ≡ b
unhalt e = cc

module _ (at : ℕ) (p : Room) (x y : HeaderFound) where
  -- that shows the turn
  same_turn : (t u : Turn) → follows_at at p x t ≡ follows_at at p y u → t ≡ u
  unfolding follow
  same_turn (T.Opens k) (T.Opens l) e = ap (λ (z : Place). T.Opens z.kind) (unnext e)
  same_turn (T.Stops s) (T.Stops r) e = ap T.Stops (settled_by stop_back (ap (λ (z : Stopped). z.why) (unhalt e)) refl)
  same_turn T.LateHopByHop T.LateHopByHop e = refl
  same_turn (T.Opens k) (T.Stops r) e = cc
  same_turn (T.Opens k) T.LateHopByHop e = cc
  same_turn (T.Stops s) (T.Opens l) e = cc
  same_turn (T.Stops s) T.LateHopByHop e = cc
  same_turn T.LateHopByHop (T.Opens l) e = cc
  same_turn T.LateHopByHop (T.Stops r) e = cc

  -- and where it is a stop, the number and the payload's length
  same_stop : (stop : Stop) → follows_at at p x (T.Stops stop) ≡ follows_at at p y (T.Stops stop)
      → (x.number ≡ y.number) × (x.to - x.len ≡ y.to - y.len)
  unfolding follow
  same_stop stop e = (ap (λ (z : Stopped). z.number) (unhalt e), omega (arith, ap (λ (z : Stopped). z.len) (unhalt e)))

  same_found : found_on_paper x at p ≡ found_on_paper y at p → SameFound x y
  same_found e =
      let left = ap (λ (z : Found). z.room) e in
      let on = ap (λ (z : Found). z.follow) e in
      let turns = same_turn x.turn y.turn on in
      record {
        len = ap (λ (z : Found). z.len) e;
        end = omega (arith, ap (λ (r : Room). r.end) left);
        version = ap (λ (r : Room). r.version) left;
        turn = turns;
        source = ap (λ (r : Room). r.source) left;
        mark = ap (λ (r : Room). r.mark) left;
        number = λ stop q. (stopped stop q turns on).0;
        payload = λ stop q. (stopped stop q turns on).1;
      }
    where
      stopped : (stop : Stop) → x.turn ≡ T.Stops stop → x.turn ≡ y.turn → follows_at at p x x.turn ≡ follows_at at p y y.turn
          → (x.number ≡ y.number) × (x.to - x.len ≡ y.to - y.len)
      stopped stop q t e = same_stop stop (ap (follows_at at p x) (sym q) ∙ e ∙ ap (follows_at at p y) (sym t ∙ q))

pub header_at : (w : List ℕ) (kind : Kind) (at : ℕ) (p : Room) (x y : Result HeaderFound Refusal)
    → header_read_on_paper x at p ≡ read_part w kind at p → header_read_on_paper y at p ≡ read_part w kind at p → SameRead x y
header_at w kind at p x y e f = go x y (e ∙ sym f)
  where
    unread : {a b : Found} → reads a ≡ reads b → a ≡ b
    unread e = cc

    unrefuse : {a b : Row} → refuses a ≡ refuses b → a ≡ b
    unrefuse e = cc

    go : (x y : Result HeaderFound Refusal) → header_read_on_paper x at p ≡ header_read_on_paper y at p → SameRead x y
    go (Ok x) (Ok y) e = same_found at p x y (unread e)
    go (Err q) (Err r) e = settled_by refusal-back (unrefuse e) refl
    go (Ok x) (Err r) e = cc
    go (Err q) (Ok y) e = cc

-- ---- the slicer: the reply with the unused slots of its tags

pub slice : (entry : Entry) (s : List ℕ) → Settles (Sliced entry s)
slice entry s x y e f = settled_by packet_back e f

-- from_ethernet, from_ipv4 and from_ipv6, by the entry of their kind
pub from_kind : (entry : Entry) (s : List ℕ) → Settles (λ (r : Result SlicedPacket Refusal). packet_on_paper r ≡ reply_of entry s)
from_kind entry s x y e f = settled_by packet_back e f

pub tcp-options : (n : ℕ) (t : Option Header) → Settles (λ (r : Option Range). r ≡ options_of n t)
tcp-options n t x y e f = same_value e f

pub header : (entry : Entry) (s : List ℕ) (k : ℕ) → Settles (HeaderIs entry s k)
header entry s k x y e f = settled_by header_back e f

pub count : (entry : Entry) (s : List ℕ) → Settles (CountIs entry s)
count entry s x y e f = settled_by count_back e f

-- its answer is count's; this is what it leaves in the lent numbers
pub headers : (entry : Entry) (s : List ℕ) (k n : ℕ) → Settles (ListIs entry s k n)
headers entry s k n x y e f = same_value e f

pub first : (entry : Entry) (s : List ℕ) → Settles (FirstIs entry s)
first entry s x y e f = same_place (e ∙ sym f)

pub next : (s : List ℕ) (p : Place) → Settles (StepIs s p)
next s p x y e f = settled_by step_back e f

-- ---- crate checksum: the state has one field

one_field : {x y : Sum16BitWords} {n : ℕ} → x.sum ≡ n → y.sum ≡ n → x ≡ y
one_field {x} {y} e f = let z = e ∙ sym f in λ i. record { sum = z i }

pub new : Settles (λ (r : Sum16BitWords). r.sum ≡ fold (totals []))
new x y e f = one_field e f

pub add-slice : (self : Sum16BitWords) (s : List ℕ) → Settles (λ (r : Sum16BitWords). r.sum ≡ add_slice self.sum s)
add-slice self s x y e f = one_field e f

pub ones_complement : (self : Sum16BitWords) → Settles (λ (r : ℕ). r ≡ answer self.sum)
ones_complement self x y e f = same_value e f

pub to_ones_complement_with_no_zero : (self : Sum16BitWords) → Settles (λ (r : ℕ). r ≡ without_zero (answer self.sum))
to_ones_complement_with_no_zero self x y e f = same_value e f

-- ---- crate tcp_options

pub option : (s : List ℕ) (k : ℕ) → Settles (λ (r : Result (Option TcpOption) OptionRefusal). option_on_paper r ≡ option_of (options s) k)
option s k x y e f = settled s k x y e f

pub option_kind_from : (n : ℕ) → Settles (λ (r : OptionKind). kind_on_paper r ≡ named n)
option_kind_from n x y e f = kind_settled n x y e f
