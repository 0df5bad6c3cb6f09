-- The theorems on places: which answer each has, and what a refusal or "no more" says of the bytes. Assumes nothing.
use Prim.Native.Nat.{ℕ, zero, suc, ◌+◌, ◌≤◌, ◌<◌}
use Rattle.std.specs.Prelude.{◌≡◌, Bool, true, false, ◌⊎◌, leb, eqb, drop}
use Rattle.std.proofs.Math.Path.{refl}
use Rattle.std.proofs.Common.{sym, ap, ◌∙◌, inl, inr, arith, leb-true, leb-false, eqb-true}
use mathlib.Core.List.{List, [], ◌∷◌}
use Rattle.std.proofs.Math.ListN.{length}
use Rattle.rules.specs.Bytes.{byte_at}
use Rattle.rules.specs.Test.{pick}
use Rattle.tcp_options.specs.declared.answer.OptionRow.{OptionRow}
use Rattle.tcp_options.specs.Options.{end_of_list, noop, noop_size, Kind, named, sizes_of, fits, wrong_size, length_not_sound, lists, ends, refuses}
use Rattle.tcp_options.specs.Options.{sound, read_sized, read_long, read_kind, read, Listed, Ending, ended, refused, Options, options, Answer, is}
use Rattle.tcp_options.specs.Options.{no-more, refusal, ending_answer, nth, option_of}
use Rattle.tcp_options.specs.OneOption.{read_none, read_some}
use Rattle.tcp_options.specs.Order.{chain, total, offset_of, not_is, ends_in, within, sizes_add_up}

-- ---- as many places as there are options have one each, and every later place has the ending

module _ (w : Options) where
  pub listed_before : (k : ℕ) → k < length w.list → (o : Listed) × (option_of w k ≡ is o)
  unfolding option_of
  listed_before k h = go w.list k h
    where
      go : (os : List Listed) (k : ℕ) → k < length os → (o : Listed) × (nth os k (ending_answer w.ending) ≡ is o)
      go [] k h = absurd (omega arith)
      go (o ∷ os) zero h = (o, refl)
      go (o ∷ os) (suc k) h = go os k (omega arith)

  pub ending-from : (k : ℕ) → length w.list ≤ k → option_of w k ≡ ending_answer w.ending
  unfolding option_of
  ending-from k h = go w.list k h
    where
      go : (os : List Listed) (k : ℕ) → length os ≤ k → nth os k (ending_answer w.ending) ≡ ending_answer w.ending
      go [] k h = refl
      go (o ∷ os) zero h = absurd (omega arith)
      go (o ∷ os) (suc k) h = go os k (omega arith)

  -- a place that has no option is past the list
  past : (k : ℕ) (a : Answer) → option_of w k ≡ a → ((o : Listed) → a ≡ is o → ⊥) → length w.list ≤ k
  past k a e other = go (leb (length w.list) k) refl
    where
      go : (b : Bool) → leb (length w.list) k ≡ b → length w.list ≤ k
      go true p = leb-true (length w.list) k p
      go false p = let z = listed_before k (leb-false (length w.list) k p) in absurd (other z.0 (sym e ∙ z.1))

-- a refusal is no option
refusal_other : (r : OptionRow) (o : Listed) → refusal r ≡ is o → ⊥
refusal_other r o e = cc

-- nor is "no more"
no_more_other : (o : Listed) → no-more ≡ is o → ⊥
no_more_other o e = cc

module _ (s : List ℕ) where
  -- "at its place and every later one the answer is the refusal"
  pub refused_later : (k : ℕ) (r : OptionRow) → option_of (options s) k ≡ refusal r → (m : ℕ) → k ≤ m → option_of (options s) m ≡ refusal r
  refused_later k r e m h =
      let p = past (options s) k (refusal r) e (λ o e. cc) in
      ending-from (options s) m (omega arith) ∙ sym (ending-from (options s) k p) ∙ e

  -- "After kind 0 or the end it is "no more""
  pub no_more_later : (k : ℕ) → option_of (options s) k ≡ no-more → (m : ℕ) → k ≤ m → option_of (options s) m ≡ no-more
  no_more_later k e m h =
      let p = past (options s) k no-more e (λ o e. cc) in
      ending-from (options s) m (omega arith) ∙ sym (ending-from (options s) k p) ∙ e

  -- "What stands before a refused option is still listed": some place parts the options from the refusal
  pub refused_from : (k : ℕ) (r : OptionRow) → option_of (options s) k ≡ refusal r
      → (p : ℕ) × (p ≤ k) × ((j : ℕ) → j < p → (o : Listed) × (option_of (options s) j ≡ is o)) × ((m : ℕ) → p ≤ m → option_of (options s) m ≡ refusal r)
  refused_from k r e =
      let p = past (options s) k (refusal r) e (λ o e. cc) in
      (length (options s).list, p, listed_before (options s), λ m h. ending-from (options s) m h ∙ sym (ending-from (options s) k p) ∙ e)

  -- before a listed option every place has one
  pub listed_earlier : (k : ℕ) (o : Listed) → option_of (options s) k ≡ is o → (j : ℕ) → j ≤ k → (p : Listed) × (option_of (options s) j ≡ is p)
  listed_earlier k o e j h = go (leb (length (options s).list) k) refl
    where
      go : (b : Bool) → leb (length (options s).list) k ≡ b → (p : Listed) × (option_of (options s) j ≡ is p)
      go true p = absurd (not_is (options s).ending (sym (ending-from (options s) k (leb-true (length (options s).list) k p)) ∙ e))
      go false p = let z = leb-false (length (options s).list) k p in listed_before (options s) j (omega arith)

-- ---- what the ending says of the bytes

-- a refusal is not the end
not_refuses : (n : ℕ) → refuses n ≡ ends → ⊥
not_refuses n e = cc

-- nor is a listed option
not_lists : (kind : Kind) (size : ℕ) → lists kind size ≡ ends → ⊥
not_lists kind size e = cc

long_not_ends : (kind : Kind) (rest : List ℕ) → read_long kind rest ≡ ends → ⊥
unfolding read_long read_sized
long_not_ends kind [] e = cc
long_not_ends kind (len ∷ rest) e = go (sound len (length rest + 2)) (fits len (sizes_of kind)) e
  where
    go : (a b : Bool) → pick a (pick b (lists kind len) (refuses wrong_size)) (refuses length_not_sound) ≡ ends → ⊥
    go true true e = cc
    go true false e = cc
    go false b e = cc

-- only kind 0 ends the options while bytes are left
kind_ends : (n : ℕ) (rest : List ℕ) → read_kind n rest ≡ ends → n ≡ end_of_list
unfolding read_kind
kind_ends n rest e = go (eqb n end_of_list) (eqb n noop) refl e
  where
    go : (a b : Bool) → eqb n end_of_list ≡ a → pick a ends (pick b (lists (named n) noop_size) (read_long (named n) rest)) ≡ ends → n ≡ end_of_list
    go true b p e = eqb-true n end_of_list p
    go false true p e = cc
    go false false p e = absurd (long_not_ends (named n) rest e)

module _ (s : List ℕ) where
  refused_is : (k : ℕ) (r : OptionRow) → option_of (options s) k ≡ refusal r → (options s).ending ≡ refused r
  refused_is k r e = go (options s).ending (sym (ending-from (options s) k (past (options s) k (refusal r) e (λ o e. cc))) ∙ e)
    where
      go : (x : Ending) → ending_answer x ≡ refusal r → x ≡ refused r
      go (ended at) e = cc
      go (refused q) e = cc

  -- a refusal is that of the option at its offset
  pub refused_there : (k : ℕ) (r : OptionRow) → option_of (options s) k ≡ refusal r → read (drop r.offset s) ≡ refuses r.number
  refused_there k r e = rw (refused_is k r e) at (ends_in (chain s))

  -- its offset is inside the slice
  pub refused_inside : (k : ℕ) (r : OptionRow) → option_of (options s) k ≡ refusal r → r.offset < length s
  refused_inside k r e = go (leb (length s) r.offset) refl
    where
      go : (b : Bool) → leb (length s) r.offset ≡ b → r.offset < length s
      go true p = let z = refused_there k r e in let n = read_none s r.offset (leb-true (length s) r.offset p) in cc
      go false p = leb-false (length s) r.offset p

  -- and the sizes of the listed options add up to it
  pub refused_behind : (k : ℕ) (r : OptionRow) → option_of (options s) k ≡ refusal r → total (options s).list ≡ r.offset
  refused_behind k r e = sizes_add_up s ∙ ap offset_of (refused_is k r e)

  ended_is : (k : ℕ) → option_of (options s) k ≡ no-more → (options s).ending ≡ ended (total (options s).list)
  ended_is k e = go (options s).ending (sizes_add_up s) (sym (ending-from (options s) k (past (options s) k no-more e (λ o e. cc))) ∙ e)
    where
      go : (x : Ending) → total (options s).list ≡ offset_of x → ending_answer x ≡ no-more → x ≡ ended (total (options s).list)
      go (ended at) h e = ap ended (sym h)
      go (refused r) h e = cc

  -- behind the listed options "no more" has the end of the slice or kind 0
  pub no_more_there : (k : ℕ) → option_of (options s) k ≡ no-more
      → (total (options s).list ≡ length s) ⊎ ((total (options s).list < length s) × (byte_at s (total (options s).list) ≡ end_of_list))
  no_more_there k e = go (total (options s).list) (rw (ended_is k e) at (ends_in (chain s))) (rw (ended_is k e) at (within (chain s) (omega arith)))
    where
      go : (at : ℕ) → read (drop at s) ≡ ends → at ≤ length s → (at ≡ length s) ⊎ ((at < length s) × (byte_at s at ≡ end_of_list))
      go at r h = by (leb (length s) at) refl
        where
          by : (b : Bool) → leb (length s) at ≡ b → (at ≡ length s) ⊎ ((at < length s) × (byte_at s at ≡ end_of_list))
          by true p = inl (let z = leb-true (length s) at p in omega arith)
          by false p = let z = leb-false (length s) at p in inr (z, kind_ends (byte_at s at) (drop (suc at) s) (sym (read_some s at z) ∙ r))
