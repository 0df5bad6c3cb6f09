-- Demand 3 for the exports, by an entry's number: what a C or Rust program is handed is accepted, in order, counted and refused as the
-- chain is; and a short-length refusal asks for more. That bytes past a declared length alter nothing: Alike.antt.
use Rattle.std.specs.Prelude.{ℕ, ◌+◌, ◌≤◌, ◌<◌, ◌≡◌, refl, List, map, length, Option, Some}
use Rattle.std.proofs.Common.{sym, ap, ◌∙◌, subst, arith}
use Rattle.rules.specs.declared.entry.Entry.{Entry}
use Rattle.rules.specs.declared.place.Header.{Header}
use Rattle.rules.specs.declared.refusal.Row.{Row}
use Rattle.rules.specs.Place.{Stopped}
use Rattle.rules.specs.Walk.{Trace, HeaderAt, header, Answer, is, no-more, refusal, nth}
use Rattle.laws.specs.Gather.{listed}
use Rattle.laws.specs.Openings.{Asks}
use Rattle.laws.specs.Walks.{nth_past}
use Rattle.slicer.specs.Reply.{nothing, slice_way, accepted_by, no_header}
use Rattle.exports.specs.declared.handed.Packet.{Packet}
use Rattle.exports.specs.declared.handed.HeaderReply.{HeaderReply}
use Rattle.exports.specs.declared.handed.CountReply.{CountReply}
use Rattle.exports.specs.declared.handed.OptionReply.{OptionReply}
use Rattle.exports.specs.Handed.{option_by}
use Rattle.exports.specs.Handed.{there, no_more, is_refused, no_row, unread, no_parts, packet_by, slice_for, header_reply, header_by, header_for, count_reply, count_answer_by, count_for, list_for}
use Rattle.tcp_options.specs.declared.answer.OptionRow.{OptionRow}
use Rattle.tcp_options.specs.Options as O
use Rattle.tcp_options.specs.Order.{listed_inside}
use Rattle.tcp_options.specs.Places.{refused_inside, refused_later, no_more_later}
use Rattle.chain.specs.Chain.{At}
use Rattle.chain.specs.Walked.{Walked, whole_walk, broken_walk, walked}
use Rattle.chain.specs.Accepted.{HasChain}
use Rattle.chain.specs.Headers.{FromChain, ChainOfLength, at_nth, at_of, ListInOrder, list_in_order}
use Rattle.chain.specs.Refused.{Breaks, nth_not}
use Rattle.chain.specs.AsksForMore.{frame_asks_for_more}
use Rattle.chain.specs.Given.{chain_reply, chain_header, chain_count, broken_reply, broken_header, broken_count}

-- ---- what is said of each answer

-- bhirkulom_slice: a frame with a chain is accepted, with the parts and the stop of the chain; one that is accepted has a chain; a frame
-- whose walk breaks gets that refusal and no part, and a refusal is given nowhere else
pub record PacketTells (entry : Entry) (s : List ℕ) (r : Packet) : Type 0 where
  pub accepts : (hs : List HeaderAt) (x : Stopped) → HasChain entry s hs x → r ≡ packet_by (accepted_by (listed slice_way nothing hs) x)
  pub chained : r.status ≡ there → (hs : List HeaderAt) × (x : Stopped) × HasChain entry s hs x
  pub refuses : (hs : List HeaderAt) (q : Row) → Breaks entry s hs q → r ≡ no_parts (unread is_refused q)
  pub breaks : r.status ≡ is_refused → (hs : List HeaderAt) × Breaks entry s hs r.refusal
  pub asks_for_more : r.status ≡ is_refused → Asks r.refusal

-- bhirkulom_header: every header of the chain, once, in order, and then no more
pub record HeaderTells (entry : Entry) (s : List ℕ) (k : ℕ) (r : HeaderReply) : Type 0 where
  pub in_order : (hs : List HeaderAt) (x : Stopped) (e : HeaderAt) → HasChain entry s hs x → At hs k e → r ≡ header_reply there (header e) no_row
  pub then_no_more : (hs : List HeaderAt) (x : Stopped) → HasChain entry s hs x → length hs ≤ k → r ≡ header_reply no_more no_header no_row
  pub from_chain : r.status ≡ there → FromChain entry s k r.header
  pub refuses : (hs : List HeaderAt) (q : Row) → Breaks entry s hs q → r ≡ header_reply is_refused no_header q
  pub breaks : r.status ≡ is_refused → (hs : List HeaderAt) × Breaks entry s hs r.refusal
  pub asks_for_more : r.status ≡ is_refused → Asks r.refusal

-- bhirkulom_count, and the answer of bhirkulom_headers: the chain's length
pub record CountTells (entry : Entry) (s : List ℕ) (r : CountReply) : Type 0 where
  pub is_length : (hs : List HeaderAt) (x : Stopped) → HasChain entry s hs x → r ≡ count_reply there (length hs) no_row
  pub from_chain : r.status ≡ there → ChainOfLength entry s r.count
  pub refuses : (hs : List HeaderAt) (q : Row) → Breaks entry s hs q → r ≡ count_reply is_refused 0 q
  pub breaks : r.status ≡ is_refused → (hs : List HeaderAt) × Breaks entry s hs r.refusal
  pub asks_for_more : r.status ≡ is_refused → Asks r.refusal

-- what bhirkulom_headers leaves in the lent numbers is what `headers` leaves (ListInOrder in Headers.antt)

-- ---- and why: the answer is made of what the definitions give, by how the walk ends

-- the walk breaks with the row r
abbrev BreaksWith : Entry → List ℕ → Row → Type 0
BreaksWith entry s r = (hs : List HeaderAt) × Breaks entry s hs r

breaks_as : (entry : Entry) (s : List ℕ) {hs : List HeaderAt} {q r : Row} → Breaks entry s hs q → r ≡ q → BreaksWith entry s r
breaks_as entry s {hs} b e = (hs, subst (Breaks entry s hs) (sym e) b)

breaks_ask : (entry : Entry) (s : List ℕ) (r : Row) → BreaksWith entry s r → Asks r
breaks_ask entry s r b = frame_asks_for_more entry s b.1

clash : {A : Type 0} {m n : ℕ} → m ≡ n → (m ≡ n → ⊥) → A
clash e f = absurd (f e)

module _ (entry : Entry) (s : List ℕ) (r : Packet) (e : r ≡ slice_for (Some entry) s) where
  has_chain : r.status ≡ there → (hs : List HeaderAt) × (x : Stopped) × HasChain entry s hs x
  has_chain o = go (walked entry s)
    where
      go : {t : Trace HeaderAt} → Walked entry s t → (hs : List HeaderAt) × (x : Stopped) × HasChain entry s hs x
      go (whole_walk {hs} {x} c) = (hs, x, c)
      go (broken_walk b) =
          let z = sym o ∙ ap (λ (y : Packet). y.status) (e ∙ ap packet_by (broken_reply entry s b)) in
          clash z (λ w. omega arith)

  is_broken : r.status ≡ is_refused → BreaksWith entry s r.refusal
  is_broken o = go (walked entry s)
    where
      go : {t : Trace HeaderAt} → Walked entry s t → BreaksWith entry s r.refusal
      go (whole_walk {hs} {x} c) =
          let z = sym o ∙ ap (λ (y : Packet). y.status) (e ∙ ap packet_by (chain_reply entry s c)) in
          clash z (λ w. omega arith)
      go (broken_walk b) = breaks_as entry s b (ap (λ (y : Packet). y.refusal) (e ∙ ap packet_by (broken_reply entry s b)))

  pub packet-tells : PacketTells entry s r
  packet-tells =
      record {
        accepts = λ hs x c. e ∙ ap packet_by (chain_reply entry s c);
        chained = has_chain;
        refuses = λ hs q b. e ∙ ap packet_by (broken_reply entry s b);
        breaks = is_broken;
        asks_for_more = λ o. breaks_ask entry s r.refusal (is_broken o);
      }

-- header k of a list, or the refusal: by the status
nth_status : (hs : List HeaderAt) (k : ℕ) → (header_by (nth (map header hs) k)).status ≡ there → (e : HeaderAt) × At hs k e × (header e ≡ (header_by (nth (map header hs) k)).header)
nth_status hs k o = go (nth (map header hs) k) refl o
  where
    go : (a : Answer Header) → nth (map header hs) k ≡ a → (header_by a).status ≡ there → (e : HeaderAt) × At hs k e × (header e ≡ (header_by a).header)
    go (is h) w o = at_of hs k w
    go no-more w o = clash o (λ z. omega arith)
    go (refusal q) w o = clash o (λ z. omega arith)

nth-told : (hs : List HeaderAt) (k : ℕ) → (header_by (nth (map header hs) k)).status ≡ is_refused → ⊥
nth-told hs k o = go (nth (map header hs) k) refl o
  where
    go : (a : Answer Header) → nth (map header hs) k ≡ a → (header_by a).status ≡ is_refused → ⊥
    go (is h) w o = clash o (λ z. omega arith)
    go no-more w o = clash o (λ z. omega arith)
    go (refusal q) w o = nth_not hs k (sym w)

module _ (entry : Entry) (s : List ℕ) (k : ℕ) (r : HeaderReply) (e : r ≡ header_for (Some entry) s k) where
  given_header : {hs : List HeaderAt} {x : Stopped} → HasChain entry s hs x → r ≡ header_by (nth (map header hs) k)
  given_header c = e ∙ ap header_by (chain_header entry s c k)

  refused_header : {hs : List HeaderAt} {q : Row} → Breaks entry s hs q → r ≡ header_reply is_refused no_header q
  refused_header b = e ∙ ap header_by (broken_header entry s b k)

  from_a_chain : r.status ≡ there → FromChain entry s k r.header
  from_a_chain o = go (walked entry s)
    where
      go : {t : Trace HeaderAt} → Walked entry s t → FromChain entry s k r.header
      go (whole_walk {hs} {x} c) =
          let y = given_header c in
          let z = nth_status hs k (sym (ap (λ (w : HeaderReply). w.status) y) ∙ o) in
          (hs, x, z.0, c, z.1, z.2 ∙ sym (ap (λ (w : HeaderReply). w.header) y))
      go (broken_walk b) = clash (sym o ∙ ap (λ (w : HeaderReply). w.status) (refused_header b)) (λ z. omega arith)

  header_broken : r.status ≡ is_refused → BreaksWith entry s r.refusal
  header_broken o = go (walked entry s)
    where
      go : {t : Trace HeaderAt} → Walked entry s t → BreaksWith entry s r.refusal
      go (whole_walk {hs} {x} c) = absurd (nth-told hs k (sym (ap (λ (w : HeaderReply). w.status) (given_header c)) ∙ o))
      go (broken_walk b) = breaks_as entry s b (ap (λ (w : HeaderReply). w.refusal) (refused_header b))

  pub header-tells : HeaderTells entry s k r
  header-tells =
      record {
        in_order = λ hs x g c a. given_header c ∙ ap header_by (at_nth a);
        then_no_more = λ hs x c h. given_header c ∙ ap header_by (nth_past hs k h);
        from_chain = from_a_chain;
        refuses = λ hs q b. refused_header b;
        breaks = header_broken;
        asks_for_more = λ o. breaks_ask entry s r.refusal (header_broken o);
      }

module _ (entry : Entry) (s : List ℕ) (r : CountReply) (e : r ≡ count_for (Some entry) s) where
  given_count : {hs : List HeaderAt} {x : Stopped} → HasChain entry s hs x → r ≡ count_reply there (length hs) no_row
  given_count c = e ∙ ap count_answer_by (chain_count entry s c)

  refused_count : {hs : List HeaderAt} {q : Row} → Breaks entry s hs q → r ≡ count_reply is_refused 0 q
  refused_count b = e ∙ ap count_answer_by (broken_count entry s b)

  of_a_chain : r.status ≡ there → ChainOfLength entry s r.count
  of_a_chain o = go (walked entry s)
    where
      go : {t : Trace HeaderAt} → Walked entry s t → ChainOfLength entry s r.count
      go (whole_walk {hs} {x} c) = (hs, x, c, sym (ap (λ (w : CountReply). w.count) (given_count c)))
      go (broken_walk b) = clash (sym o ∙ ap (λ (w : CountReply). w.status) (refused_count b)) (λ z. omega arith)

  count_broken : r.status ≡ is_refused → BreaksWith entry s r.refusal
  count_broken o = go (walked entry s)
    where
      go : {t : Trace HeaderAt} → Walked entry s t → BreaksWith entry s r.refusal
      go (whole_walk c) = clash (sym o ∙ ap (λ (w : CountReply). w.status) (given_count c)) (λ z. omega arith)
      go (broken_walk b) = breaks_as entry s b (ap (λ (w : CountReply). w.refusal) (refused_count b))

  pub count_tells : CountTells entry s r
  count_tells =
      record {
        is_length = λ hs x c. given_count c;
        from_chain = of_a_chain;
        refuses = λ hs q b. refused_count b;
        breaks = count_broken;
        asks_for_more = λ o. breaks_ask entry s r.refusal (count_broken o);
      }

-- ---- by the entry's number, as the exports are asked

module _ (c : Option Entry) (s : List ℕ) where
  pub packet-by : (r : Packet) → r ≡ slice_for c s → (e : Entry) → c ≡ Some e → PacketTells e s r
  packet-by r h e q = packet-tells e s r (h ∙ ap (λ (x : Option Entry). slice_for x s) q)

  pub header-by : (k : ℕ) (r : HeaderReply) → r ≡ header_for c s k → (e : Entry) → c ≡ Some e → HeaderTells e s k r
  header-by k r h e q = header-tells e s k r (h ∙ ap (λ (x : Option Entry). header_for x s k) q)

  pub count_by : (r : CountReply) → r ≡ count_for c s → (e : Entry) → c ≡ Some e → CountTells e s r
  count_by r h e q = count_tells e s r (h ∙ ap (λ (x : Option Entry). count_for x s) q)

  pub list_by : (k n : ℕ) (after : List ℕ) → after ≡ list_for c s k n → (e : Entry) → c ≡ Some e → ListInOrder e s k n after
  list_by k n after h e q = list_in_order e s k n after (h ∙ ap (λ (x : Option Entry). list_for x s k n) q)

-- ---- bhirkulom_option, for the bytes s and the place k: a listed option lies inside; a refusal's offset is inside, and stays at every later place

pub record OptionReplyTells (s : List ℕ) (k : ℕ) (r : OptionReply) : Type 0 where
  pub listed : r.status ≡ there → r.at + r.len ≤ length s
  pub refused : r.status ≡ is_refused → (r.refusal.offset < length s) × ((m : ℕ) → k ≤ m → O.option_of (O.options s) m ≡ O.refusal r.refusal)
  pub no-more : r.status ≡ no_more → (m : ℕ) → k ≤ m → O.option_of (O.options s) m ≡ O.no-more

pub option_reply_tells : (s : List ℕ) (k : ℕ) (r : OptionReply) → r ≡ option_by (O.option_of (O.options s) k) → OptionReplyTells s k r
option_reply_tells s k r e = go (O.option_of (O.options s) k) refl
  where
    go : (a : O.Answer) → O.option_of (O.options s) k ≡ a → OptionReplyTells s k r
    go (O.is o) w =
        let z = e ∙ ap option_by w in
        let y = listed_inside s k o w in
        record {
          listed = λ q. omega (arith, y, ap (λ (x : OptionReply). x.at) z, ap (λ (x : OptionReply). x.len) z);
          refused = λ q. clash (sym q ∙ ap (λ (x : OptionReply). x.status) z) (λ n. omega arith);
          no-more = λ q. clash (sym q ∙ ap (λ (x : OptionReply). x.status) z) (λ n. omega arith);
        }
    go O.no-more w =
        let z = e ∙ ap option_by w in
        record {
          listed = λ q. clash (sym q ∙ ap (λ (x : OptionReply). x.status) z) (λ n. omega arith);
          refused = λ q. clash (sym q ∙ ap (λ (x : OptionReply). x.status) z) (λ n. omega arith);
          no-more = λ q. no_more_later s k w;
        }
    go (O.refusal q) w =
        let z = e ∙ ap option_by w in
        let y = ap (λ (x : OptionReply). x.refusal) z in
        record {
          listed = λ p. clash (sym p ∙ ap (λ (x : OptionReply). x.status) z) (λ n. omega arith);
          refused = λ p. (omega (arith, refused_inside s k q w, ap (λ (x : OptionRow). x.offset) y), λ m h. refused_later s k q w m h ∙ ap O.refusal (sym y));
          no-more = λ p. clash (sym p ∙ ap (λ (x : OptionReply). x.status) z) (λ n. omega arith);
        }
