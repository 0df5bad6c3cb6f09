-- What the slicer's reply says of the text. Assumes nothing.
use Prim.Native.Nat.{ℕ}
use mathlib.Core.Path.{◌≡◌, refl, sym, ap, ◌∙◌}
use mathlib.Core.List.{List}
use Rattle.rules.specs.declared.entry.Entry.{Entry}
use Rattle.rules.specs.declared.refusal.Refusal.{Refusal}
use Rattle.rules.specs.declared.stop.Ending.{Ending}
use Rattle.rules.specs.Paper.{refusal_on_paper}
use Rattle.rules.specs.Place.{ending_on_paper, Follow, next, opening}
use Rattle.rules.specs.Walk.{Trace, accepted, refused, unfinished, HeaderAt, onward, slices}
use Rattle.laws.specs.Gather.{gathered}
use Rattle.laws.specs.Walks.{finished}
use Rattle.std.specs.Prelude.{Result, Ok, Err}
use Rattle.slicer.specs.Reply.{Ended, accepted as whole, refused as shut, nothing, slice_way, reply_of, outcome_on_paper}
use Rattle.printing.specs.Clash.{clash}
use Rattle.printing.specs.Text.{refused_line, text, text_of, Accepts, accepts}

-- how the reply to a walk ends
abbrev ended_by : Trace HeaderAt → Ended
ended_by t = (gathered slice_way nothing t).ended

-- no frame's walk runs out of steps
slices_end : (k : Entry) (s : List ℕ) → slices k s ≡ unfinished → ⊥
unfolding slices
slices_end k s = go (opening k s)
  where
    go : (f : Follow) → onward s f ≡ unfinished → ⊥
    go (next p) e = finished s p e
    go f e = clash (cc)

module _ (s : List ℕ) (k : Entry) (o : Result Ending Refusal) (e : outcome_on_paper o ≡ (reply_of k s).ended) where
  ends : outcome_on_paper o ≡ ended_by (slices k s)
  unfolding reply_of
  ends = e

  pub reply_accepts : {x : Ending} → o ≡ Ok x → Accepts (slices k s)
  unfolding gathered
  reply_accepts {x} i = go (slices k s) (sym (ap outcome_on_paper i) ∙ ends)
    where
      go : (t : Trace HeaderAt) → whole (ending_on_paper x) ≡ ended_by t → Accepts t
      go (accepted hs y) f = accepts
      go t f = clash (cc)

  pub reply_refuses : {q : Refusal} → o ≡ Err q → refused_line (refusal_on_paper q) ≡ text_of k s
  unfolding gathered text
  reply_refuses {q} i = go (slices k s) (slices_end k s) (sym (ap outcome_on_paper i) ∙ ends)
    where
      go : (t : Trace HeaderAt) → (t ≡ unfinished → ⊥) → shut (refusal_on_paper q) ≡ ended_by t → refused_line (refusal_on_paper q) ≡ text t
      go (accepted hs y) n f = clash (cc)
      go (refused hs r) n f = let z : refusal_on_paper q ≡ r = cc in ap refused_line z
      go unfinished n f = absurd (n refl)
