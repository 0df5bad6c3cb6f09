-- What the definitions give for a frame that has a chain, and for one whose walk breaks: the reply, header k, the count, the list and the
-- text, for each entry. Every public answer is one of these, or made of one.
use Rattle.std.specs.Prelude.{ℕ, ◌≡◌, List, [], ◌++◌, map, length}
use Rattle.std.proofs.Common.{ap, arith, drop_of_length-le}
use Rattle.rules.specs.declared.place.Header.{Header}
use Rattle.rules.specs.declared.entry.Entry.{Entry}
use Rattle.rules.specs.declared.refusal.Row.{Row}
use Rattle.rules.specs.Place.{Stopped}
use Rattle.rules.specs.Walk.{HeaderAt, header, is, refusal, nth, header_of, count_of, slices}
use Rattle.laws.specs.Gather.{gathered, listed}
use Rattle.laws.specs.Zeros.{zeros}
use Rattle.slicer.specs.Reply.{nothing, slice_way, accepted_by, refused_by, reply_of}
use Rattle.steps.specs.Lists.{headers_listed, written, written_from, list_of}
use Rattle.printing.specs.Text.{text, text_of, header_lines, ending_lines, refused_line}
use Rattle.chain.specs.Chain.{ChainOf}
use Rattle.chain.specs.Broken.{BrokenOf}
use Rattle.chain.specs.Walked.{chain→slices, broken→slices}

-- ---- a chain with the headers hs and the stop x

module _ (entry : Entry) (s : List ℕ) {hs : List HeaderAt} {x : Stopped} (c : ChainOf entry s hs x) where
  -- the stop is the chain's, and the parts are gathered from its headers
  pub chain_reply : reply_of entry s ≡ accepted_by (listed slice_way nothing hs) x
  unfolding reply_of gathered
  chain_reply = rw (chain→slices entry s c)

  pub chain_header : (k : ℕ) → header_of (slices entry s) k ≡ nth (map header hs) k
  unfolding header_of
  chain_header k = rw (chain→slices entry s c)

  pub chain_count : count_of (slices entry s) ≡ is (length hs)
  unfolding count_of
  chain_count = rw (chain→slices entry s c)

  pub chain_list : (k n : ℕ) → list_of (slices entry s) k n ≡ written_from k (map header hs) (zeros n)
  unfolding list_of headers_listed
  chain_list k n = rw (chain→slices entry s c)

  pub chain_text : text_of entry s ≡ header_lines hs ++ ending_lines x
  unfolding text
  chain_text = rw (chain→slices entry s c)

-- ---- a walk that breaks behind the headers hs, with the row r

none_written : (k : ℕ) (o : List ℕ) → written_from k [] o ≡ o
unfolding written_from written
none_written k o = ap (λ (hs : List Header). written hs o) (drop_of_length-le [] {i = k} (omega arith))

module _ (entry : Entry) (s : List ℕ) {hs : List HeaderAt} {r : Row} (b : BrokenOf entry s hs r) where
  -- of the frame nothing else is told
  pub broken_reply : reply_of entry s ≡ refused_by r
  unfolding reply_of gathered
  broken_reply = rw (broken→slices entry s b)

  pub broken_header : (k : ℕ) → header_of (slices entry s) k ≡ refusal r
  unfolding header_of
  broken_header k = rw (broken→slices entry s b)

  pub broken_count : count_of (slices entry s) ≡ refusal r
  unfolding count_of
  broken_count = rw (broken→slices entry s b)

  pub broken_list : (k n : ℕ) → list_of (slices entry s) k n ≡ zeros n
  unfolding list_of headers_listed
  broken_list k n = rw (broken→slices entry s b) (none_written k (zeros n))

  pub broken_text : text_of entry s ≡ refused_line r
  unfolding text
  broken_text = rw (broken→slices entry s b)
