-- Where a number leads, on paper, by what its kinds are.
use Rattle.std.specs.Prelude.{◌≡◌}
use Rattle.rules.specs.declared.kind.Kind.{Kind}
use Rattle.rules.specs.declared.turn.Turn.{Turn}
use Rattle.rules.specs.declared.turn.Turn.TheVariants as T
use Rattle.one_header.specs.declared.onward.Onward.{Onward}
use Rattle.one_header.specs.declared.onward.Onward.TheVariants as O

-- the turn of a kind's header, where `gives` says which kind that is, or of the stop
abbrev pub leads_by : {K : Type 0} → (K → Kind → Type 0) → Onward K → Turn → Type 0
leads_by gives (O.Opens k) turn = (kind : Kind) × gives k kind × (turn ≡ T.Opens kind)
leads_by gives (O.Stops stop) turn = turn ≡ T.Stops stop
