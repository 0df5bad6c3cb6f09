-- What a tally counts, in sums of 64 bits that wrap.
use Rattle.std.specs.Prelude.{ℕ, ◌+◌, ◌%◌, ◌^◌, Bool}
use Rattle.rules.specs.Test.{pick}
use Rattle.test_cases.specs.declared.tally.Tally.{Tally}

abbrev pub none : Tally
none = record { compared = 0; same = 0 }

abbrev pub one_more : ℕ → ℕ
one_more n = (n + 1) % 2 ^ 64

-- one more case, which was the same or not
abbrev pub tallied : Tally → Bool → Tally
tallied t same = record { compared = one_more t.compared; same = pick same (one_more t.same) t.same }
