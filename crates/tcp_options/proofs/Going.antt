-- The loop over the options: what is known at an offset, and the ways on and out. Assumes nothing.
use Prim.Native.Nat.{ℕ, suc, ◌+◌, ◌-◌, ◌≤◌, ◌<◌}
use mathlib.Core.Path.{◌≡◌, refl, sym, ◌∙◌}
use mathlib.Core.List.{List}
use native.Mathlib.Omega.{arith}
use lib.ListN.{length, drop, length-drop}
use Rattle.tcp_options.specs.Options.{OptionRead, lists, ends, refuses, read, Listed, Ending, options, is, no-more, refusal, ended, refused, ending_answer, option_of, answer_by}
use Rattle.tcp_options.specs.declared.answer.OptionRow.{OptionRow}
use Rattle.tcp_options.specs.OneOption.{lists_fits, from, from_lists, from-ends, from_refuses}
use Rattle.tcp_options.specs.Order.{not_is}

-- `passed` options were passed, and the next begins at `at`
pub record Going (s : List ℕ) (k at passed : ℕ) : Type 0 where
  pub inside : at ≤ length s
  pub same : option_of (from s at) (k - passed) ≡ option_of (options s) k

pub going_first : (s : List ℕ) (k : ℕ) → Going s k 0 0
unfolding from options
going_first s k = record { inside = omega arith; same = let e : k - 0 ≡ k = omega arith in rw e }

module _ {s : List ℕ} {k at passed : ℕ} (g : Going s k at passed) where
  -- the place asked for is reached
  pub going_there : passed ≡ k → answer_by at (read (drop at s)) ≡ option_of (options s) k
  unfolding option_of
  going_there h = go (read (drop at s)) refl ∙ (let z : k - passed ≡ 0 = omega arith in rw z at g.same)
    where
      go : (r : OptionRead) → read (drop at s) ≡ r → answer_by at r ≡ option_of (from s at) 0
      go (lists kind size) e = rw (from_lists s at kind size e)
      go ends e = rw (from-ends s at e)
      go (refuses n) e = rw (from_refuses s at n e)

  -- the options end before it, and so they do at each later place
  going_last : (x : Ending) → ending_answer x ≡ answer_by at (read (drop at s)) → ending_answer x ≡ option_of (options s) k
  unfolding option_of
  going_last x e = go (read (drop at s)) refl e ∙ g.same
    where
      go : (r : OptionRead) → read (drop at s) ≡ r → ending_answer x ≡ answer_by at r → ending_answer x ≡ option_of (from s at) (k - passed)
      go (lists kind size) p e = absurd (not_is x e)
      go ends p e = rw (from-ends s at p) e
      go (refuses n) p e = rw (from_refuses s at n p) e

  pub going_ended : no-more ≡ answer_by at (read (drop at s)) → option_of (options s) k ≡ no-more
  going_ended e = sym (going_last (ended at) e)

  pub going_refused : (r : OptionRow) → refusal r ≡ answer_by at (read (drop at s)) → option_of (options s) k ≡ refusal r
  going_refused r e = sym (going_last (refused r) e)

  -- an option was read
  module _ {o : Listed} (e : is o ≡ answer_by at (read (drop at s))) where
    it_lists : read (drop at s) ≡ lists o.kind o.size
    it_lists = go (read (drop at s)) e
      where
        go : (r : OptionRead) → is o ≡ answer_by at r → r ≡ lists o.kind o.size
        go (lists kind size) e = cc
        go ends e = cc
        go (refuses n) e = cc

    -- it lies inside
    pub going_fits : at + o.size ≤ length s
    going_fits =
        let z = lists_fits (drop at s) it_lists in
        let l = length-drop at s in
        let i = g.inside in
        omega arith

    -- the next one is looked for behind it, by its size n
    pub going_on : passed < k → (n : ℕ) → n ≡ o.size → Going s k (at + n) (passed + 1)
    unfolding option_of
    going_on h n i =
        let z : k - passed ≡ suc (k - (passed + 1)) = omega arith in
        rw i (record { inside = going_fits; same = rw (from_lists s at o.kind o.size it_lists, z) at g.same })

-- by these the check finds the proof of `option`
pub ruleset going = (going_first, going_there, going_ended, going_refused, going_fits, going_on)
