-- "asking for header 0, 1, 2 and so on gives every header of it, once, in order, and then no more": headers_in_order, each_once;
-- "a made-up header count (it is the chain's length)": count_is_length; the headers as numbers: list_in_order. For each entry.
use Rattle.std.specs.Prelude.{ℕ, zero, suc, ◌≤◌, ◌<◌, ◌+◌, ◌-◌, ◌≡◌, refl, List, [], ◌∷◌, map, length, Option, Some, None, Result, Ok, Err}
use Rattle.std.proofs.Common.{sym, ap, ◌∙◌, arith}
use Rattle.rules.specs.declared.refusal.Refusal.{Refusal}
use Rattle.rules.specs.declared.place.Header.{Header}
use Rattle.rules.specs.declared.place.Place.{Place}
use Rattle.rules.specs.Place.{Stopped, bytes}
use Rattle.rules.specs.Walk.{Trace, HeaderAt, header, is, no-more, nth, header_of, count_of}
use Rattle.laws.specs.Kinds.{sized}
use Rattle.laws.specs.Walks.{nth_past}
use Rattle.rules.specs.declared.entry.Entry.{Entry}
use Rattle.laws.specs.Zeros.{zeros}
use Rattle.rules.specs.declared.refusal.Row.{Row}
use Rattle.steps.specs.Lists.{header_on_paper, count_on_paper, written_from}
use Rattle.chain.specs.Chain.{listed_at, Chain, last, more, At, here, later}
use Rattle.chain.specs.Accepted.{HasChain}
use Rattle.chain.specs.Broken.{BrokenOf}
use Rattle.chain.specs.Walked.{Walked, whole_walk, broken_walk, walked}
use Rattle.chain.specs.Given.{chain_header, chain_count, chain_list, broken_list}
use Rattle.chain.specs.Answers.{HeaderIs, CountIs, ListIs}

-- the header h is number k of a chain
abbrev pub FromChain : Entry → List ℕ → ℕ → Header → Type 0
FromChain entry s k h = (hs : List HeaderAt) × (x : Stopped) × (e : HeaderAt) × HasChain entry s hs x × At hs k e × (header e ≡ h)

-- a chain has n headers
abbrev pub ChainOfLength : Entry → List ℕ → ℕ → Type 0
ChainOfLength entry s n = (hs : List HeaderAt) × (x : Stopped) × HasChain entry s hs x × (length hs ≡ n)

-- what is said of an answer r for header k: number k of the chain, with its kind, offset and length; behind the last one no more;
-- and a header is answered only from a chain, at its number
pub record HeadersInOrder (entry : Entry) (s : List ℕ) (k : ℕ) (r : Result (Option Header) Refusal) : Type 0 where
  pub in_order : (hs : List HeaderAt) (x : Stopped) (e : HeaderAt) → HasChain entry s hs x → At hs k e → r ≡ Ok (Some (header e))
  pub then_no_more : (hs : List HeaderAt) (x : Stopped) → HasChain entry s hs x → length hs ≤ k → r ≡ Ok None
  pub from_chain : (h : Header) → r ≡ Ok (Some h) → FromChain entry s k h

-- what is said of a count r: the chain's length, and only that of a chain
pub record CountIsLength (entry : Entry) (s : List ℕ) (r : Result ℕ Refusal) : Type 0 where
  pub is_length : (hs : List HeaderAt) (x : Stopped) → HasChain entry s hs x → r ≡ Ok (length hs)
  pub from_chain : (n : ℕ) → r ≡ Ok n → ChainOfLength entry s n

-- ---- header 0, 1, 2 and so on

pub at_nth : {hs : List HeaderAt} {k : ℕ} {e : HeaderAt} → At hs k e → nth (map header hs) k ≡ is (header e)
at_nth here = refl
at_nth (later a) = at_nth a

is_it : (a : Result (Option Header) Refusal) {h : Header} → header_on_paper a ≡ is h → a ≡ Ok (Some h)
is_it (Ok (Some h)) e = cc
is_it (Ok None) e = cc
is_it (Err r) e = cc

is_no_more : (a : Result (Option Header) Refusal) → header_on_paper a ≡ no-more → a ≡ Ok None
is_no_more (Ok (Some h)) e = cc
is_no_more (Ok None) e = refl
is_no_more (Err r) e = cc

is_count : (a : Result ℕ Refusal) {n : ℕ} → count_on_paper a ≡ is n → a ≡ Ok n
is_count (Ok n) e = cc
is_count (Err r) e = cc

listed_as : (entry : Entry) (s : List ℕ) {hs : List HeaderAt} {x : Stopped} (k : ℕ) (r : Result (Option Header) Refusal) → HasChain entry s hs x → HeaderIs entry s k r
    → header_on_paper r ≡ nth (map header hs) k
listed_as entry s k r c e = e ∙ chain_header entry s c k

counted_as : (entry : Entry) (s : List ℕ) {hs : List HeaderAt} {x : Stopped} (r : Result ℕ Refusal) → HasChain entry s hs x → CountIs entry s r
    → count_on_paper r ≡ is (length hs)
counted_as entry s r c e = e ∙ chain_count entry s c

-- every number below the length has its header
pub every_header : (hs : List HeaderAt) (k : ℕ) → k < length hs → (e : HeaderAt) × At hs k e
every_header [] k h = absurd (omega arith)
every_header (e ∷ hs) zero h = (e, here)
every_header (e ∷ hs) (suc k) h = let z = every_header hs k (omega arith) in (z.0, later z.1)

at_below : {hs : List HeaderAt} {k : ℕ} {e : HeaderAt} → At hs k e → k < length hs
at_below here = omega arith
at_below (later a) = let z = at_below a in omega arith

-- once: each begins where the one before ended, and has some bytes
head_of : {s : List ℕ} {p : Place} {hs : List HeaderAt} {x : Stopped} {e : HeaderAt} → Chain s p hs x → At hs 0 e → e ≡ listed_at s p
head_of (last h c) here = refl
head_of (more h l c) here = refl

pub each_once : {s : List ℕ} {p : Place} {hs : List HeaderAt} {x : Stopped} {k : ℕ} {e f : HeaderAt} → Chain s p hs x → At hs k e → At hs (suc k) f
    → (f.at ≡ e.at + e.len) × (4 ≤ e.len)
each_once {s} (more {p} h l c) here (later a) =
    let y = sized p.kind p.room.version (bytes s p) (p.room.end - p.at) h.passes in
    (ap (λ (e : HeaderAt). e.at) (head_of c a) ∙ l.begins, omega arith)
each_once (more h l c) (later a) (later b) = each_once c a b
each_once (last h c) a b = let z = at_below b in absurd (omega arith)

-- ---- and the other way: what is answered comes from a chain

pub at_of : (hs : List HeaderAt) (k : ℕ) {h : Header} → nth (map header hs) k ≡ is h → (e : HeaderAt) × At hs k e × (header e ≡ h)
at_of [] k q = cc
at_of (e ∷ hs) zero q = (e, here, cc)
at_of (e ∷ hs) (suc k) q = let z = at_of hs k q in (z.0, later z.1, z.2)

header→chain : (entry : Entry) (s : List ℕ) (k : ℕ) (r : Result (Option Header) Refusal) (h : Header) → HeaderIs entry s k r → r ≡ Ok (Some h) → FromChain entry s k h
unfolding header_of
header→chain entry s k r h q o = go (walked entry s) (sym (ap header_on_paper o) ∙ q)
  where
    go : {t : Trace HeaderAt} → Walked entry s t → is h ≡ header_of t k → FromChain entry s k h
    go (whole_walk {hs} {x} c) y = let z = at_of hs k (sym y) in (hs, x, z.0, c, z.1, z.2)
    go (broken_walk b) y = cc

count→chain : (entry : Entry) (s : List ℕ) (r : Result ℕ Refusal) (n : ℕ) → CountIs entry s r → r ≡ Ok n → ChainOfLength entry s n
unfolding count_of
count→chain entry s r n q o = go (walked entry s) (sym (ap count_on_paper o) ∙ q)
  where
    go : {t : Trace HeaderAt} → Walked entry s t → is n ≡ count_of t → ChainOfLength entry s n
    go (whole_walk {hs} {x} c) y = (hs, x, c, cc)
    go (broken_walk b) y = cc

-- ---- every answer of `header` and of `count` is so

pub headers_in_order : (entry : Entry) (s : List ℕ) (k : ℕ) (r : Result (Option Header) Refusal) → HeaderIs entry s k r → HeadersInOrder entry s k r
headers_in_order entry s k r q =
    record {
      in_order = λ hs x e c a. is_it r (listed_as entry s k r c q ∙ at_nth a);
      then_no_more = λ hs x c h. is_no_more r (listed_as entry s k r c q ∙ nth_past hs k h);
      from_chain = λ h o. header→chain entry s k r h q o;
    }

pub count_is_length : (entry : Entry) (s : List ℕ) (r : Result ℕ Refusal) → CountIs entry s r → CountIsLength entry s r
count_is_length entry s r q =
    record {
      is_length = λ hs x c. is_count r (counted_as entry s r c q);
      from_chain = λ n o. count→chain entry s r n q o;
    }

-- what `headers` leaves in n lent numbers: the chain's headers from number k on, in order, as far as there is room, and zeros behind them; of a
-- refused frame zeros alone, so nothing that reads as a header
pub record ListInOrder (entry : Entry) (s : List ℕ) (k n : ℕ) (after : List ℕ) : Type 0 where
  pub in_order : (hs : List HeaderAt) (x : Stopped) → HasChain entry s hs x → after ≡ written_from k (map header hs) (zeros n)
  pub of_refused : (hs : List HeaderAt) (r : Row) → BrokenOf entry s hs r → after ≡ zeros n

pub list_in_order : (entry : Entry) (s : List ℕ) (k n : ℕ) (after : List ℕ) → ListIs entry s k n after → ListInOrder entry s k n after
list_in_order entry s k n after q =
    record { in_order = λ hs x c. q ∙ chain_list entry s c k n; of_refused = λ hs r b. q ∙ broken_list entry s b k n }
