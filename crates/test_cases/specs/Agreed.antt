-- What a comparison says of a text.
use Rattle.std.specs.Prelude.{◌≡◌, ℕ, ◌≤◌, List, length}

-- the text t agrees with the answer a: it is a, and it fits the buffer in which texts are compared
abbrev pub Agrees : List ℕ → List ℕ → Type 0
Agrees t a = (length t ≤ 4096) × (t ≡ a)
