-- Pieces of a text, one behind the other. Assumes nothing.
use Prim.Native.Nat.{ℕ, ◌+◌, ◌-◌, ◌≤◌, ◌<◌}
use mathlib.Core.Path.{◌≡◌, refl, sym, ap, ◌∙◌}
use mathlib.Core.List.{List, [], ◌++◌, append_assoc, append-nil}
use native.Mathlib.Omega.{arith}
use lib.ListN.{length, length-append, length-replicate}
use lib.Seq.{take-append_seam, drop-append_seam}
use borrow.Rule.Slice.PartMut.{put_mid, mid_len, same_len_mid}
use borrow.Author.Tests.{le-leb, lt-leb}
use Rattle.std.proofs.lemmas.List.{drop-replicate}
use Rattle.std.specs.Prelude.{true, false, Option, Some, None}
use Rattle.std.specs.Option.{is_some, unwrap_or}
use Rattle.printing.specs.Clash.{clash}
use Rattle.laws.specs.Zeros.{zeros}
use Rattle.printing.specs.declared.write.Printer.{Printer}
use Rattle.printing.specs.Put.{printed_in, printed_by, Holds, Wrote}
use Rattle.printing.specs.Told.{told_whole, told-cut}

-- ---- one piece

-- the first zeros behind w made the piece t
put_behind : (w t : List ℕ) (j k : ℕ) {a : ℕ} → a ≡ length w → put_mid a j (w ++ zeros k) t ≡ (w ++ t) ++ zeros (k - j)
put_behind w t j k e =
    rw (e, take-append_seam w (zeros k), drop-append_seam w (zeros k), drop-replicate {X = ℕ} j k 0) (sym (append_assoc w t (zeros (k - j))))

module _ {w : List ℕ} {p : Printer} (h : Holds w p) where
  -- the text fits where the printer has its length
  fitting : {a : ℕ} → p.len ≡ Some a → (a ≡ length w) × (length w ≤ length p.out.now)
  fitting i = let z = told_whole w (length p.out.now) h.told {o = printed_in w (length p.out.now)} refl i in (z.long, omega (arith, z.long, z.fits))

module _ {t : List ℕ} {q : Printer} where
  holds_whole : length t ≤ length q.out.now → q.len ≡ Some (length t) → q.out.now ≡ t ++ zeros (length q.out.now - length t) → Holds t q
  unfolding printed_by
  holds_whole f l e = record { told = rw (le-leb (length t) (length q.out.now) f) l; there = λ _. e }

  holds_none : length q.out.now < length t → q.len ≡ None → Holds t q
  unfolding printed_by
  holds_none f l = record { told = rw (lt-leb (length t) (length q.out.now) f) l; there = λ z. absurd (omega arith) }

module _ {p q : Printer} {t : List ℕ} (s : q.out.ghost_name ≡ p.out.ghost_name) where
  -- it fits
  pub stored : {a : ℕ} → p.len ≡ Some a → a + length t ≤ length p.out.now → q.out.now ≡ put_mid a (a + length t - a) p.out.now t → q.len ≡ Some (a + length t) → Wrote t p q
  stored {a} i f e l = record { same = s; long = long; holds = holds }
    where
      long : length q.out.now ≡ length p.out.now
      long = ap length e ∙ same_len_mid a (a + length t - a) p.out.now t (omega (arith, mid_len a (a + length t) p.out.now f))

      holds : (w : List ℕ) → Holds w p → Holds (w ++ t) q
      holds w h =
          let z = fitting h i in
          let n = length-append w t in
          let here : p.out.now ≡ w ++ zeros (length p.out.now - length w) = h.there z.1 in
          let k = a + length t - a in
          let rest : length p.out.now - length w - k ≡ length q.out.now - length (w ++ t) = omega (arith, long, n) in
          let all : a + length t ≡ length (w ++ t) = omega (arith, n, z.0) in
          holds_whole (omega (arith, n, z.0, long, f)) (l ∙ ap Some all)
          (e ∙ ap (λ (l : List ℕ). put_mid a k l t) here ∙ put_behind w t k (length p.out.now - length w) z.0 ∙ ap (λ (j : ℕ). (w ++ t) ++ zeros j) rest)

  module _ (e : q.out.now ≡ p.out.now) (l : q.len ≡ None) where
    shut : ((w : List ℕ) → Holds w p → length p.out.now < length w + length t) → Wrote t p q
    shut f = record { same = s; long = ap length e; holds = λ w h. let n = length-append w t in holds_none (rw (e, n) (f w h)) l }

    -- the buffer ends before it
    pub filled : {a : ℕ} → p.len ≡ Some a → length p.out.now < a + length t → Wrote t p q
    filled i f = shut (λ w h. omega (arith, fitting h i, f))

    -- an earlier piece did not fit
    pub closed : p.len ≡ None → Wrote t p q
    closed i = shut (λ w h. let z = told-cut w (length p.out.now) h.told i in omega (arith, z))

-- ---- pieces one behind the other

pub wrote_none : (p : Printer) → Wrote [] p p
wrote_none p = record { same = refl; long = refl; holds = λ w h. rw append-nil h }

pub wrote_then : {t u : List ℕ} {p q r : Printer} → Wrote t p q → Wrote u q r → Wrote (t ++ u) p r
wrote_then {t} {u} a b = record { same = b.same ∙ a.same; long = b.long ∙ a.long; holds = λ w h. rw (append_assoc w t u) at (b.holds (w ++ t) (a.holds w h)) }

-- ---- the whole

some_is : (r : Option ℕ) → is_some r ≡ true → r ≡ Some (unwrap_or r 0)
some_is (Some k) e = refl
some_is None e = clash (cc)

pub none_is : (r : Option ℕ) → is_some r ≡ false → r ≡ None
none_is (Some k) e = clash (cc)
none_is None e = refl

-- a text t printed over a buffer of n zeros
module _ (t : List ℕ) (n : ℕ) {p q : Printer} (z : p.out.now ≡ zeros n) (i : p.len ≡ Some 0) (w : Wrote t p q) where
  zeroed : length p.out.now ≡ n
  zeroed = ap length z ∙ length-replicate {A = ℕ} n 0

  long : length q.out.now ≡ n
  long = w.long ∙ zeroed

  whole : Holds t q
  whole =
      let rest : n ≡ length p.out.now - 0 = omega (arith, zeroed) in
      w.holds [] (holds_whole (omega arith) i (z ∙ ap zeros rest))

  pub printed_answer : q.len ≡ printed_by t n
  printed_answer = rw long at whole.told

  -- where it tells none, None is the answer
  pub printed_none : {r : Option ℕ} → is_some q.len ≡ false → r ≡ None → r ≡ printed_by t n
  printed_none j e = e ∙ sym (none_is q.len j) ∙ printed_answer

  -- where the printer tells a length, what its buffer holds
  pub printed_text : {o : List ℕ} → is_some q.len ≡ true → o ≡ q.out.now → o ≡ printed_in t n
  unfolding printed_in
  printed_text j e =
      let f = fitting whole (some_is q.len j) in
      rw (le-leb (length t) n (omega (arith, f.1, long))) (e ∙ whole.there f.1 ∙ rw long refl)

  -- where it tells none, the buffer cleared
  pub printed_cut : {o : List ℕ} → is_some q.len ≡ false → length o ≡ n → o ≡ zeros (length o) → o ≡ printed_in t n
  unfolding printed_in
  printed_cut j l c = rw (lt-leb (length t) n (told-cut t n printed_answer (none_is q.len j))) (c ∙ ap zeros l)
