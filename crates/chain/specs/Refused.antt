-- "the refusal is that of the first test failed in walk order, and no refusal is given otherwise"; "Header k of a refused frame is
-- that refusal for every k, and so is its count": refused-for-a-reason, for the reply, header k and the count, for each entry.
use Rattle.std.specs.Prelude.{ℕ, zero, suc, refl, List, [], ◌∷◌, map, Option, Some, None, Result, Ok, Err}
use Rattle.std.proofs.Math.Path.{◌≡◌}
use Rattle.std.proofs.Common.{sym, ap, ◌∙◌, subst}
use Rattle.rules.specs.declared.place.Header.{Header}
use Rattle.rules.specs.declared.stop.Ending.{Ending}
use Rattle.rules.specs.declared.refusal.Refusal.{Refusal}
use Rattle.rules.specs.declared.refusal.Row.{Row}
use Rattle.rules.specs.Paper.{refusal_on_paper}
use Rattle.rules.specs.Walk.{Trace, HeaderAt, header, refusal, nth, header_of, count_of}
use Rattle.laws.specs.Gather.{gathered}
use Rattle.rules.specs.declared.entry.Entry.{Entry}
use Rattle.slicer.specs.declared.packet.SlicedPacket.{SlicedPacket}
use Rattle.slicer.specs.Reply.{outcome_on_paper, packet_on_paper, nothing, Reply, slice_way, refused_by, reply_of}
use Rattle.slicer.specs.Reply as P
use Rattle.steps.specs.Lists.{header_on_paper, count_on_paper}
use Rattle.chain.specs.Broken.{BrokenOf}
use Rattle.chain.specs.Walked.{Walked, whole_walk, broken_walk, walked}
use Rattle.chain.specs.Given.{broken_reply, broken_header, broken_count}
use Rattle.chain.specs.Answers.{Sliced, outcome_of, ended_is, HeaderIs, CountIs}

-- the walk of the frame, by its entry, breaks behind the headers hs with the row r
abbrev pub Breaks : Entry → List ℕ → List HeaderAt → Row → Type 0
Breaks entry s hs r = BrokenOf entry s hs r

-- what is said of an answer that may be a refusal, where `Is q` says that it is the refusal q: it is refused where the walk breaks, with
-- that row, and nowhere else
pub record RefusedForAReason (entry : Entry) (s : List ℕ) (Is : Refusal → Type 0) : Type 0 where
  pub refuses : (hs : List HeaderAt) (r : Row) → Breaks entry s hs r → (q : Refusal) × Is q × (refusal_on_paper q ≡ r)
  pub breaks : (q : Refusal) → Is q → (hs : List HeaderAt) × Breaks entry s hs (refusal_on_paper q)

is_refused : (o : Result Ending Refusal) {r : Row} → outcome_on_paper o ≡ P.refused r → (q : Refusal) × (o ≡ Err q) × (refusal_on_paper q ≡ r)
is_refused (Ok e) h = cc
is_refused (Err q) h = (q, refl, cc)

is_header_refused : (a : Result (Option Header) Refusal) {r : Row} → header_on_paper a ≡ refusal r → (q : Refusal) × (a ≡ Err q) × (refusal_on_paper q ≡ r)
is_header_refused (Ok (Some h)) e = cc
is_header_refused (Ok None) e = cc
is_header_refused (Err q) e = (q, refl, cc)

is_count_refused : (a : Result ℕ Refusal) {r : Row} → count_on_paper a ≡ refusal r → (q : Refusal) × (a ≡ Err q) × (refusal_on_paper q ≡ r)
is_count_refused (Ok n) e = cc
is_count_refused (Err q) e = (q, refl, cc)

-- ---- a walk that breaks is refused with the row at which it breaks, whatever is asked

module _ (entry : Entry) (s : List ℕ) {hs : List HeaderAt} {r : Row} (b : Breaks entry s hs r) where
  -- and of the frame nothing else is told
  pub broken→reply : (a : Result SlicedPacket Refusal) → Sliced entry s a → packet_on_paper a ≡ refused_by r
  broken→reply a e = e ∙ broken_reply entry s b

  reply_refused : (a : Result SlicedPacket Refusal) → Sliced entry s a → (q : Refusal) × ((outcome_of a) ≡ Err q) × (refusal_on_paper q ≡ r)
  reply_refused a e = is_refused (outcome_of a) (ended_is a ∙ ap (λ (p : Reply). p.ended) (broken→reply a e))

  header_refused : (k : ℕ) (a : Result (Option Header) Refusal) → HeaderIs entry s k a → (q : Refusal) × (a ≡ Err q) × (refusal_on_paper q ≡ r)
  header_refused k a e = is_header_refused a (e ∙ broken_header entry s b k)

  count_refused : (a : Result ℕ Refusal) → CountIs entry s a → (q : Refusal) × (a ≡ Err q) × (refusal_on_paper q ≡ r)
  count_refused a e = is_count_refused a (e ∙ broken_count entry s b)

-- ---- a refusal is given only where the walk breaks, at that row

-- a list of headers has no refusal at any number
pub nth_not : (hs : List HeaderAt) (k : ℕ) {r : Row} → refusal r ≡ nth (map header hs) k → ⊥
nth_not [] k y = cc
nth_not (h ∷ hs) zero y = cc
nth_not (h ∷ hs) (suc k) y = nth_not hs k y

module _ (entry : Entry) (s : List ℕ) (q : Refusal) where
  -- the walk breaks with the row of q
  abbrev BreaksSo : Type 0
  BreaksSo = (hs : List HeaderAt) × Breaks entry s hs (refusal_on_paper q)

  breaks_so : {hs : List HeaderAt} {r : Row} → Breaks entry s hs r → r ≡ refusal_on_paper q → BreaksSo
  breaks_so {hs} b z = (hs, subst (Breaks entry s hs) z b)

  reply→broken : {t : Trace HeaderAt} → Walked entry s t → P.refused (refusal_on_paper q) ≡ (gathered slice_way nothing t).ended → BreaksSo
  unfolding gathered
  reply→broken (whole_walk c) y = cc
  reply→broken (broken_walk b) y = breaks_so b (cc)

  header→broken : {t : Trace HeaderAt} (k : ℕ) → Walked entry s t → refusal (refusal_on_paper q) ≡ header_of t k → BreaksSo
  unfolding header_of
  header→broken k (whole_walk {hs} c) y = absurd (nth_not hs k y)
  header→broken k (broken_walk b) y = breaks_so b (cc)

  count→broken : {t : Trace HeaderAt} → Walked entry s t → refusal (refusal_on_paper q) ≡ count_of t → BreaksSo
  unfolding count_of
  count→broken (whole_walk c) y = cc
  count→broken (broken_walk b) y = breaks_so b (cc)

-- ---- every answer of `slice`, `header` and `count` is so

pub reply_refused_for_a_reason : (entry : Entry) (s : List ℕ) (a : Result SlicedPacket Refusal) → Sliced entry s a → RefusedForAReason entry s (λ q. (outcome_of a) ≡ Err q)
unfolding reply_of
reply_refused_for_a_reason entry s a e =
    record {
      refuses = λ hs r b. reply_refused entry s b a e;
      breaks = λ q o. reply→broken entry s q (walked entry s) (sym (ap outcome_on_paper o) ∙ ended_is a ∙ ap (λ (p : Reply). p.ended) e);
    }

pub header_refused_for_a_reason : (entry : Entry) (s : List ℕ) (k : ℕ) (a : Result (Option Header) Refusal) → HeaderIs entry s k a → RefusedForAReason entry s (λ q. a ≡ Err q)
header_refused_for_a_reason entry s k a e =
    record {
      refuses = λ hs r b. header_refused entry s b k a e;
      breaks = λ q o. header→broken entry s q k (walked entry s) (sym (ap header_on_paper o) ∙ e);
    }

pub count_refused_for_a_reason : (entry : Entry) (s : List ℕ) (a : Result ℕ Refusal) → CountIs entry s a → RefusedForAReason entry s (λ q. a ≡ Err q)
count_refused_for_a_reason entry s a e =
    record {
      refuses = λ hs r b. count_refused entry s b a e;
      breaks = λ q o. count→broken entry s q (walked entry s) (sym (ap count_on_paper o) ∙ e);
    }
