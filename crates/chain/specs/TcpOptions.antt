-- The TCP options of a frame: where its chain has a TCP header, `slice` and then `tcp_options` give the range from byte 20 of that header to its
-- end, and never nothing. Bytes past the declared length don't move it: alike frames have one reply (Alike.antt), so `same_options`.
use Rattle.std.specs.Prelude.{ℕ, suc, ◌+◌, ◌-◌, ◌≤◌, ◌<◌, ◌≡◌, refl, Bool, true, false, List, [], ◌∷◌, length, drop, eqb, Option, Some, None, Result}
use Rattle.std.proofs.Common.{sym, ap, ◌∙◌, subst, arith, eqb-true}
use Rattle.slicer.specs.declared.packet.IpPart.{IpPart}
use Rattle.rules.specs.declared.place.Range.{Range}
use Rattle.rules.specs.declared.refusal.Refusal.{Refusal}
use Rattle.rules.specs.declared.entry.Entry.{Entry}
use Rattle.rules.specs.declared.kind.Kind.{Kind}
use Rattle.rules.specs.declared.kind.Kind.TheVariants.{Ethernet2, Vlan, Ipv4, Ipv6, HopByHop, Routing, Destination, Fragment, Auth, Udp, Tcp}
use Rattle.rules.specs.declared.place.Header.{Header}
use Rattle.rules.specs.declared.place.Place.{Place}
use Rattle.rules.specs.declared.place.Room.{Room}
use Rattle.rules.specs.declared.turn.Turn.TheVariants as U
use Rattle.rules.specs.Numbers.{tcp_length}
use Rattle.rules.specs.Named.{kind_number}
use Rattle.rules.specs.Rules.{least_length, turn_of}
use Rattle.rules.specs.Place.{Follow, Stopped, bytes}
use Rattle.rules.specs.Walk.{Trace, HeaderAt, header}
use Rattle.laws.specs.Back.{settled_by, kind-back}
use Rattle.laws.specs.Gather.{listed}
use Rattle.laws.specs.Kinds.{sized}
use Rattle.slicer.specs.declared.packet.SlicedPacket.{SlicedPacket}
use Rattle.slicer.specs.Reply.{Reply, Parts, nothing, slice_way, put, extended, range}
use Rattle.slicer.specs.Options.{options_of, there}
use Rattle.tcp_options.specs.declared.answer.TcpOption.{TcpOption}
use Rattle.tcp_options.specs.declared.answer.OptionRefusal.{OptionRefusal}
use Rattle.tcp_options.specs.declared.answer.OptionRow.{OptionRow}
use Rattle.tcp_options.specs.Options as O
use Rattle.tcp_options.specs.Paper.{option_on_paper}
use Rattle.tcp_options.specs.Order.{listed_is_there, listed_inside}
use Rattle.tcp_options.specs.Places.{refused_inside, refused_later, no_more_later}
use Rattle.chain.specs.Chain.{room_at, listed_at, Chain, last, more, ChainFrom, opened, ChainOf, At, here, later}
use Rattle.chain.specs.Inside.{header_inside}
use Rattle.chain.specs.Walked.{Walked, whole_walk, broken_walk, walked}
use Rattle.chain.specs.Accepted.{chain→reply}
use Rattle.chain.specs.Refused.{broken→reply}
use Rattle.chain.specs.Answers.{Sliced, transport_of}
use Rattle.chain.specs.Alike.{Alike, same_reply}

-- ---- every header of a chain has the least length of its kind

headers_long : {s : List ℕ} {p : Place} {hs : List HeaderAt} {x : Stopped} {k : ℕ} {h : HeaderAt} → Chain s p hs x → At hs k h → least_length h.kind ≤ h.len
headers_long {s} (last {p} h c) here = (sized p.kind p.room.version (bytes s p) (p.room.end - p.at) h.passes).long
headers_long (last h c) (later a) = elim a [ ]
headers_long {s} (more {p} h l c) here = (sized p.kind p.room.version (bytes s p) (p.room.end - p.at) h.passes).long
headers_long (more h l c) (later a) = headers_long c a

header_long : (e : Entry) (s : List ℕ) {hs : List HeaderAt} {x : Stopped} {k : ℕ} {h : HeaderAt} → ChainOf e s hs x → At hs k h → least_length h.kind ≤ h.len
header_long e s c a = go c a
  where
    go : {f : Follow} {hs : List HeaderAt} {x : Stopped} {k : ℕ} {h : HeaderAt} → ChainFrom s f hs x → At hs k h → least_length h.kind ≤ h.len
    go (opened c) a = headers_long c a

-- ---- the reply's transport header is one of the chain

-- it is h
abbrev pub Carries : Option Header → Header → Type 0
Carries t h = t ≡ Some h

-- a header of the list that is h
abbrev OneOf : List HeaderAt → Header → Type 0
OneOf hs h = (k : ℕ) × (e : HeaderAt) × At hs k e × (header e ≡ h)

-- what one header puts there: itself, or what was there before
data Puts (e : HeaderAt) (before : Option Header) : Option Header → Type 0 where
  itself : Puts e before (Some (header e))
  nothing_new : Puts e before before

extended_keeps : (n : Option IpPart) (f : Parts) (to : ℕ) (e : HeaderAt) → Puts e f.transport (extended n f to e.room.mark).transport
extended_keeps None f to e = nothing_new
extended_keeps (Some i) f to e = nothing_new

puts : (k : Kind) (f : Parts) (e : HeaderAt) → Puts e f.transport (put k f e).transport
puts Ethernet2 f e = nothing_new
puts Vlan f e = nothing_new
puts Ipv4 f e = nothing_new
puts Ipv6 f e = nothing_new
puts HopByHop f e = extended_keeps f.net f (e.at + e.len) e
puts Routing f e = extended_keeps f.net f (e.at + e.len) e
puts Destination f e = extended_keeps f.net f (e.at + e.len) e
puts Fragment f e = extended_keeps f.net f (e.at + e.len) e
puts Auth f e = extended_keeps f.net f (e.at + e.len) e
puts Udp f e = itself
puts Tcp f e = itself

-- so what stands there behind a list is one of it, or was there before
data From (hs : List HeaderAt) (before : Option Header) (h : Header) : Type 0 where
  of_list : OneOf hs h → From hs before h
  of_before : Carries before h → From hs before h

carried_by : (hs : List HeaderAt) (f : Parts) {h : Header} → Carries (listed slice_way f hs).transport h → From hs f.transport h
unfolding listed
carried_by [] f e = of_before e
carried_by (g ∷ hs) f {h} e = go (puts g.kind f g) (carried_by hs (put g.kind f g) e)
  where
    go : {t : Option Header} → Puts g f.transport t → From hs t h → From (g ∷ hs) f.transport h
    go p (of_list o) = of_list (suc o.0, o.1, later o.2, o.3)
    go itself (of_before q) = of_list (0, g, here, cc)
    go nothing_new (of_before q) = of_before q

-- ---- the theorem

module _ (entry : Entry) (s : List ℕ) (r : Result SlicedPacket Refusal) (e : Sliced entry s r) (h : Header) (o : Carries (transport_of r) h) (k : h.kind ≡ kind_number Tcp) where
  in_chain : {hs : List HeaderAt} {x : Stopped} → ChainOf entry s hs x → OneOf hs h
  in_chain {hs} c = go (carried_by hs nothing (sym (ap (λ (p : Reply). p.transport) (chain→reply entry s r e c)) ∙ o))
    where
      go : From hs None h → OneOf hs h
      go (of_list w) = w
      go (of_before q) = cc

  is_tcp : (g : HeaderAt) → header g ≡ h → g.kind ≡ Tcp
  is_tcp g q = settled_by kind-back (ap (λ (y : Header). y.kind) q ∙ k) refl

  pub options-there : options_of (length s) (transport_of r) ≡ Some (range (h.at + tcp_length) (h.len - tcp_length))
  options-there = go (walked entry s)
    where
      go : {t : Trace HeaderAt} → Walked entry s t → options_of (length s) (transport_of r) ≡ Some (range (h.at + tcp_length) (h.len - tcp_length))
      go (whole_walk c) =
          let w = in_chain c in
          let at = ap (λ (y : Header). y.at) w.3 in
          let len = ap (λ (y : Header). y.len) w.3 in
          let long = subst (λ (j : Kind). least_length j ≤ w.1.len) (is_tcp w.1 w.3) (header_long entry s c w.2) in
          let inside = header_inside entry s c w.2 in
          sym (there (length s) (sym o) k (omega (arith, at, len, inside)) (omega (arith, at, len, inside)) (omega (arith, len, long))).0
      go (broken_walk b) =
          let z = sym (ap (λ (p : Reply). p.transport) (broken→reply entry s b r e)) ∙ o in
          cc

-- no TCP header, no options
pub none : (n : ℕ) → options_of n None ≡ None
unfolding options_of
none n = refl

other : (n : ℕ) (h : Header) → eqb h.kind (kind_number Tcp) ≡ false → options_of n (Some h) ≡ None
unfolding options_of
other n h q = rw q

-- of alike frames, such as two that differ only past a declared length
pub same_options : (entry : Entry) (s t : List ℕ) → Alike entry s t → (x y : Result SlicedPacket Refusal) → Sliced entry s x → Sliced entry t y
    → options_of (length s) (transport_of x) ≡ options_of (length t) (transport_of y)
same_options entry s t a x y e f = go (transport_of x) refl
  where
    too : (transport_of y) ≡ (transport_of x)
    too = ap transport_of (sym (same_reply entry s t a x y e f))

    go : (p : Option Header) → (transport_of x) ≡ p → options_of (length s) (transport_of x) ≡ options_of (length t) (transport_of y)
    go None w = rw (too, w) (none (length s) ∙ sym (none (length t)))
    go (Some h) w = by (eqb h.kind (kind_number Tcp)) refl
      where
        by : (b : Bool) → eqb h.kind (kind_number Tcp) ≡ b → options_of (length s) (transport_of x) ≡ options_of (length t) (transport_of y)
        by true q =
            let k = eqb-true h.kind (kind_number Tcp) q in
            options-there entry s x e h w k ∙ sym (options-there entry t y f h (too ∙ w) k)
        by false q = rw (too, w) (other (length s) h q ∙ sym (other (length t) h q))

-- ---- by the chain: its TCP header is its last, so it is the reply's

-- a TCP header ends the chain
tcp-ends : (k : Kind) (g : ℕ → ℕ) (p : Room) {j : Kind} → k ≡ Tcp → turn_of k g p ≡ U.Opens j → ⊥
unfolding turn_of
tcp-ends k g p {j} e q = go (subst (λ (i : Kind). turn_of i g p ≡ U.Opens j) e q)
  where
    go : turn_of Tcp g p ≡ U.Opens j → ⊥
    go q = cc

put-tcp : (k : Kind) (f : Parts) (e : HeaderAt) → k ≡ Tcp → (put k f e).transport ≡ Some (header e)
put-tcp k f e q = subst (λ (j : Kind). (put j f e).transport ≡ Some (header e)) (sym q) refl

tcp-carried : {s : List ℕ} {p : Place} {hs : List HeaderAt} {x : Stopped} {k : ℕ} {e : HeaderAt} (f : Parts) → Chain s p hs x → At hs k e → e.kind ≡ Tcp
    → Carries (listed slice_way f hs).transport (header e)
unfolding listed
tcp-carried {s} f (last {p} h c) here q = put-tcp p.kind f (listed_at s p) q
tcp-carried f (last h c) (later a) q = elim a [ ]
tcp-carried {s} f (more {p} h l c) here q = absurd (tcp-ends p.kind (bytes s p) (room_at s p) q l.names)
tcp-carried {s} f (more {p} h l c) (later a) q = tcp-carried (put p.kind f (listed_at s p)) c a q

-- what is said of the options r that are told of a frame: where the chain has a TCP header, they are what follows its byte 20
abbrev pub OptionsOfChain : Entry → List ℕ → Option Range → Type 0
OptionsOfChain entry s r = (hs : List HeaderAt) (x : Stopped) (k : ℕ) (e : HeaderAt) → ChainOf entry s hs x → At hs k e → e.kind ≡ Tcp
    → r ≡ Some (range (e.at + tcp_length) (e.len - tcp_length))

pub options_of_chain : (entry : Entry) (s : List ℕ) (a : Result SlicedPacket Refusal) (r : Option Range) → Sliced entry s a → r ≡ options_of (length s) (transport_of a)
    → OptionsOfChain entry s r
options_of_chain entry s a r e o hs x k g c n q =
    o ∙ options-there entry s a e (header g) (ap (λ (p : Reply). p.transport) (chain→reply entry s a e c) ∙ go c n) (ap kind_number q)
  where
    go : {f : Follow} → ChainFrom s f hs x → At hs k g → Carries (listed slice_way nothing hs).transport (header g)
    go (opened c) n = tcp-carried nothing c n q

-- ---- each answer of `option`, for the bytes s and the place k (crate tcp_options has the theorems)

pub record OptionTells (s : List ℕ) (k : ℕ) (r : Result (Option TcpOption) OptionRefusal) : Type 0 where
  -- a listed option is what the bytes at its offset are read as, and lies inside
  pub listed : (o : O.Listed) → option_on_paper r ≡ O.is o → (O.read (drop o.at s) ≡ O.lists o.kind o.size) × (o.at + o.size ≤ length s)
  -- at the place of a refused option and every later one the answer is that refusal, whose offset is inside
  pub refused : (q : OptionRow) → option_on_paper r ≡ O.refusal q → (q.offset < length s) × ((m : ℕ) → k ≤ m → O.option_of (O.options s) m ≡ O.refusal q)
  pub no-more : option_on_paper r ≡ O.no-more → (m : ℕ) → k ≤ m → O.option_of (O.options s) m ≡ O.no-more

pub option_tells : (s : List ℕ) (k : ℕ) (r : Result (Option TcpOption) OptionRefusal) → option_on_paper r ≡ O.option_of (O.options s) k → OptionTells s k r
option_tells s k r e =
    record {
      listed = λ o q. (listed_is_there s k o (sym e ∙ q), (listed_inside s k o (sym e ∙ q)).1);
      refused = λ q o. (refused_inside s k q (sym e ∙ o), refused_later s k q (sym e ∙ o));
      no-more = λ q. no_more_later s k (sym e ∙ q);
    }
