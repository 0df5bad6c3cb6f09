-- Header k out of a list with room for one header, and out of the count.
use Prim.Native.Nat.{ℕ, zero, suc, ◌≤◌, ◌<◌}
use native.Mathlib.Omega.{arith}
use mathlib.Core.Path.{◌≡◌, refl, sym, ap}
use mathlib.Core.List.{List, [], ◌∷◌, map}
use lib.Dec.{eqb}
use lib.ListN.{length, get_or, drop}
use Rattle.rules.specs.Numbers.{header_words}
use Rattle.rules.specs.Test.{pick}
use Rattle.rules.specs.Walk.{Trace, HeaderAt, header, nth, is, no-more, header_of, count_of, slices}
use Rattle.rules.specs.Walk as W
use Rattle.laws.specs.Walks.{nth_past}
use Rattle.steps.specs.Lists.{written, written_from, headers_listed, list_of}
use Rattle.std.specs.Prelude.{Option, Some, None}
use Rattle.rules.specs.declared.entry.Entry.{Entry}
use Rattle.rules.specs.declared.place.Header.{Header}
use Rattle.exports.specs.declared.handed.CountReply.{CountReply}
use Rattle.slicer.specs.Reply.{no_header}
use Rattle.exports.specs.Handed.{there, no_more, no_row, header_reply, header_by, header_for, count_answer_by, count_for, list_for}

abbrev pub room : List ℕ
room = 0 ∷ 0 ∷ 0 ∷ []

-- the header that three numbers tell of
abbrev pub head_in : List ℕ → Header
head_in o = record { kind = get_or o 0 0; at = get_or o 1 0; len = get_or o 2 0 }

written-here : (hs : List HeaderAt) (k : ℕ) → k < length hs → header_reply there (head_in (written (drop k (map header hs)) room)) no_row ≡ header_by (nth (map header hs) k)
unfolding written
written-here [] k h = absurd (omega arith)
written-here (e ∷ hs) zero h = refl
written-here (e ∷ hs) (suc k) h = written-here hs k (omega arith)

here : (t : Trace HeaderAt) (k : ℕ) → k < (count_answer_by (count_of t)).count → header_reply there (head_in (list_of t k header_words)) (count_answer_by
    (count_of t)).refusal ≡ header_by (header_of t k)
unfolding count_of header_of headers_listed written_from list_of
here (W.accepted hs x) k h = written-here hs k h
here (W.refused hs r) k h = absurd (omega arith)
here W.unfinished k h = absurd (omega arith)

past : (t : Trace HeaderAt) (k : ℕ) → (count_answer_by (count_of t)).count ≤ k → header_reply (pick (eqb (count_answer_by (count_of t)).status there) no_more (count_answer_by
    (count_of t)).status) no_header (count_answer_by (count_of t)).refusal ≡ header_by (header_of t k)
unfolding count_of header_of
past (W.accepted hs x) k h = ap header_by (sym (nth_past hs k h))
past (W.refused hs r) k h = refl
past W.unfinished k h = refl

pub header-here : (e : Option Entry) (s : List ℕ) (k : ℕ) {c : CountReply} {o : List ℕ} → c ≡ count_for e s → o ≡ list_for e s k header_words → k < c.count
    → header_reply there (head_in o) c.refusal ≡ header_for e s k
header-here (Some e) s k a b h = rw (a, b) (here (slices e s) k (rw (← a) h))
header-here None s k a b h = let z : ◌≡◌ {A = ℕ} _ 0 = ap (λ (x : CountReply). x.count) a in absurd (omega arith)

pub header_past : (e : Option Entry) (s : List ℕ) (k : ℕ) {c : CountReply} → c ≡ count_for e s → c.count ≤ k → header_reply (pick (eqb
    c.status there) no_more c.status) no_header c.refusal ≡ header_for e s k
header_past (Some e) s k a h = rw a (past (slices e s) k (rw (← a) h))
header_past None s k a h = rw a refl
