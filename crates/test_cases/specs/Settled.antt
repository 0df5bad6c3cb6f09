-- "Each public answer is settled by its input alone": the statements of this crate (docs/SETTLED.md has those of all).
use Rattle.std.specs.Prelude.{◌≡◌, ℕ, Bool, true, false, List, refl}
use Rattle.std.proofs.Common.{sym, ◌∙◌}
use Rattle.rules.specs.declared.entry.Entry.{Entry}
use Rattle.printing.specs.Text.{text_of}
use Rattle.test_cases.specs.declared.tally.Tally.{Tally}
use Rattle.test_cases.specs.Agreed.{Agrees}
use Rattle.test_cases.specs.Tallied.{none, tallied}

-- no two answers satisfy the contract
abbrev pub Settles : {A : Type 0} → (A → Type 0) → Type 0
Settles {A} contract = (x y : A) → contract x → contract y → x ≡ y

-- r says whether P holds
abbrev Decides : Type 0 → Bool → Type 0
Decides P r = (r ≡ true → P) × (P → r ≡ true)

decided : (P : Type 0) → Settles (Decides P)
decided P true true e f = refl
decided P true false e f = sym (f.1 (e.0 refl))
decided P false true e f = e.1 (f.0 refl)
decided P false false e f = refl

pub agrees : (entry : Entry) (s a : List ℕ) → Settles (λ (r : Bool). (r ≡ true → Agrees (text_of entry s) a) × (Agrees (text_of entry s) a → r ≡ true))
agrees entry s a = decided (Agrees (text_of entry s) a)

pub tally_new : Settles (λ (r : Tally). r ≡ none)
tally_new x y e f = e ∙ sym f

pub tally_counted : (self : Tally) (same : Bool) → Settles (λ (r : Tally). r ≡ tallied self same)
tally_counted self same x y e f = e ∙ sym f
