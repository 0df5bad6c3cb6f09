-- The theorems on where the options of a list of bytes stand: one after another from offset 0, and to the end. Assumes nothing.
use Rattle.std.specs.Prelude.{ℕ, zero, suc, ◌+◌, ◌-◌, ◌≤◌, ◌≡◌, refl, List, [], ◌∷◌, length, drop}
use Rattle.std.proofs.Common.{sym, ap, ◌∙◌, length-drop}
use native.Mathlib.Omega.{arith}
use Rattle.tcp_options.specs.Options.{Kind, OptionRead, lists, ends, refuses, read, Listed, listed, row, Ending, ended, refused, options, is, ending_answer, nth, option_of}
use Rattle.tcp_options.specs.OneOption.{lists_fits, from, from_lists, from-ends, from_refuses}

-- ---- the options are a chain, and there is no other

-- A chain from an offset on, of some options and an ending: the option that is read there is listed, and the chain goes on where it
-- ends; or nothing is left there but kind 0, if that; or the option there is refused.
pub data Chain (s : List ℕ) : ℕ → List Listed → Ending → Type 0 where
  next : {at size : ℕ} {kind : Kind} {os : List Listed} {e : Ending} → read (drop at s) ≡ lists kind size → Chain s (at + size) os e → Chain s at (listed kind at size ∷ os) e
  last : {at : ℕ} → read (drop at s) ≡ ends → Chain s at [] (ended at)
  bad : {at n : ℕ} → read (drop at s) ≡ refuses n → Chain s at [] (refused (row n at))

-- the options from an offset on are a chain
ChainFrom : List ℕ → ℕ → Type 0
ChainFrom s at = Chain s at (from s at).list (from s at).ending

-- the options of s are a chain from offset 0
pub chain : (s : List ℕ) → Chain s 0 (options s).list (options s).ending
unfolding options from ChainFrom
chain s = go (length s) 0 (omega arith)
  where
    step : (at : ℕ) (r : OptionRead) → read (drop at s) ≡ r → ((size : ℕ) → 1 ≤ size → at + size ≤ length s → ChainFrom s (at + size)) → ChainFrom s at
    step at (lists kind size) e later =
        let z = lists_fits (drop at s) e in
        rw (from_lists s at kind size e) (next e (later size z.0 (omega (arith, length-drop at s))))
    step at ends e later = rw (from-ends s at e) (last e)
    step at (refuses n) e later = rw (from_refuses s at n e) (bad e)

    -- each option has a byte at least, so this many steps suffice
    go : (steps at : ℕ) → length s - at ≤ steps → ChainFrom s at
    go zero at h = step at (read (drop at s)) refl (λ size a b. absurd (omega arith))
    go (suc steps) at h = step at (read (drop at s)) refl (λ size a b. go steps (at + size) (omega arith))

-- and the only one
pub only_chain : (s : List ℕ) (os : List Listed) (e : Ending) → Chain s 0 os e → record { list = os; ending = e } ≡ options s
unfolding options from
only_chain s os e c = go c
  where
    go : {at : ℕ} {os : List Listed} {e : Ending} → Chain s at os e → record { list = os; ending = e } ≡ from s at
    go (next {at} {size} {kind} e c) = rw (from_lists s at kind size e, ← go c)
    go (last {at} e) = sym (from-ends s at e)
    go (bad {at} {n} e) = sym (from_refuses s at n e)

-- ---- what holds of every chain

-- an answer holds one option
is_is : {o p : Listed} → is o ≡ is p → o ≡ p
is_is e = cc

pub not_is : (e : Ending) {o : Listed} → ending_answer e ≡ is o → ⊥
not_is (ended at) e = cc
not_is (refused r) e = cc

-- the sizes of some options, added up
unfoldable pub total : List Listed → ℕ
total [] = 0
total (o ∷ os) = o.size + total os

abbrev pub offset_of : Ending → ℕ
offset_of (ended at) = at
offset_of (refused r) = r.offset

-- what is read where a chain ends
abbrev pub Ends : List ℕ → Ending → Type 0
Ends s (ended at) = read (drop at s) ≡ ends
Ends s (refused r) = read (drop r.offset s) ≡ refuses r.number

module _ {s : List ℕ} where
  first_in : {at : ℕ} {os : List Listed} {e : Ending} → Chain s at os e → (o : Listed) → nth os 0 (ending_answer e) ≡ is o → o.at ≡ at
  first_in (next {at} {size} {kind} r c) o h = let z : o ≡ listed kind at size = cc in ap (λ (x : Listed). x.at) z
  first_in (last {at} r) o h = absurd (not_is (ended at) h)
  first_in (bad {at} {n} r) o h = absurd (not_is (refused (row n at)) h)

  next_in : {at : ℕ} {os : List Listed} {e : Ending} → Chain s at os e → (k : ℕ) (o p : Listed) → nth os k (ending_answer e) ≡ is o → nth os (suc k)
      (ending_answer e) ≡ is p → p.at ≡ o.at + o.size
  next_in (next {at} {size} {kind} r c) zero o p h i = let z : listed kind at size ≡ o = cc in first_in c p i ∙ ap (λ (x : Listed). x.at + x.size) z
  next_in (next r c) (suc k) o p h i = next_in c k o p h i
  next_in (last {at} r) k o p h i = absurd (not_is (ended at) h)
  next_in (bad {at} {n} r) k o p h i = absurd (not_is (refused (row n at)) h)

  told_in : {at : ℕ} {os : List Listed} {e : Ending} → Chain s at os e → (k : ℕ) (o : Listed) → nth os k (ending_answer e) ≡ is o → read (drop o.at s) ≡ lists o.kind o.size
  told_in (next {at} {size} {kind} r c) zero o h = let z : o ≡ listed kind at size = cc in rw z r
  told_in (next r c) (suc k) o h = told_in c k o h
  told_in (last {at} r) k o h = absurd (not_is (ended at) h)
  told_in (bad {at} {n} r) k o h = absurd (not_is (refused (row n at)) h)

  pub total_in : {at : ℕ} {os : List Listed} {e : Ending} → Chain s at os e → at + total os ≡ offset_of e
  unfolding total
  total_in (next r c) = omega (arith, total_in c)
  total_in (last r) = omega arith
  total_in (bad r) = omega arith

  pub ends_in : {at : ℕ} {os : List Listed} {e : Ending} → Chain s at os e → Ends s e
  ends_in (next r c) = ends_in c
  ends_in (last r) = r
  ends_in (bad r) = r

  pub within : {at : ℕ} {os : List Listed} {e : Ending} → Chain s at os e → at ≤ length s → offset_of e ≤ length s
  within (next {at} {size} r c) h = within c (let z = lists_fits (drop at s) r in omega (arith, length-drop at s))
  within (last r) h = h
  within (bad r) h = h

-- ---- the theorems, said of the answers at the places

module _ (s : List ℕ) where
  -- the first option begins at 0
  pub first_at_0 : (o : Listed) → option_of (options s) 0 ≡ is o → o.at ≡ 0
  unfolding option_of
  first_at_0 o h = first_in (chain s) o h

  -- each later one begins where the last ended
  pub next_behind : (k : ℕ) (o p : Listed) → option_of (options s) k ≡ is o → option_of (options s) (suc k) ≡ is p → p.at ≡ o.at + o.size
  unfolding option_of
  next_behind k o p h i = next_in (chain s) k o p h i

  -- an option that is listed is the one that the bytes at its offset are read as
  pub listed_is_there : (k : ℕ) (o : Listed) → option_of (options s) k ≡ is o → read (drop o.at s) ≡ lists o.kind o.size
  unfolding option_of
  listed_is_there k o h = told_in (chain s) k o h

  -- and it lies inside the slice, with a byte at least
  pub listed_inside : (k : ℕ) (o : Listed) → option_of (options s) k ≡ is o → (1 ≤ o.size) × (o.at + o.size ≤ length s)
  listed_inside k o h =
      let z = lists_fits (drop o.at s) (listed_is_there k o h) in
      omega (arith, length-drop o.at s)

  -- the sizes of all listed options add up to the offset of the end or of the refused option
  pub sizes_add_up : total (options s).list ≡ offset_of (options s).ending
  sizes_add_up = omega (arith, total_in (chain s))
