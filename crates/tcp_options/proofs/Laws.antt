-- Laws by which the check finds the proofs of `read_option` and `has_size`. Assumes nothing.
use mathlib.Core.Path.{◌≡◌, refl}
use mathlib.Core.Bool.{Bool, true, false}
use Rattle.rules.specs.Test.{pick}
use Rattle.tcp_options.specs.OneOption.{read_none, read_end, read-noop, read_no_length, read_not_sound, read_wrong, read_right}

-- what is read, by the tests of an option
pub ruleset reads = (read_none, read_end, read-noop, read_no_length, read_not_sound, read_wrong, read_right)

-- a test that is the answer
pub test_is : (b : Bool) → b ≡ pick b true false
test_is true = refl
test_is false = refl
