-- `write::Printer::refused_line` meets its contract. Assumes nothing.
use mathlib.Core.List.{List, [], ◌∷◌, ◌++◌}
use mathlib.Core.Path.{◌≡◌, refl}
use Prim.Native.Nat.{ℕ}
use Rattle.rules.specs.declared.refusal.Row.{Row}
use Rattle.printing.specs.declared.write.Printer.{Printer}
use Rattle.printing.specs.Put.{Wrote}
use Rattle.printing.specs.Text.{ascii, space, decimal, name_of, line, rest_of_line, rest_of_refused, carried, refused_line}
use Rattle.printing.proofs.Pieces.{wrote_then}
use Rattle.printing.proofs.write.Printer.refused_line.Goals as goal

line_rest : (w : List ℕ) (ws : List (List ℕ)) → line (w ∷ ws) ≡ w ++ rest_of_line ws
line_rest w [] = refl
line_rest w (v ∷ vs) = refl

-- the words of a row, one behind the other
row_wrote : (r : Row) {p p₁ p₂ p₃ p₄ p₅ p₆ p₇ : Printer} → Wrote (ascii "refused ") p p₁ → Wrote (decimal r.number) p₁ p₂ → Wrote (space ∷ []) p₂ p₃
    → Wrote (name_of r.layer) p₃ p₄ → Wrote (space ∷ []) p₄ p₅ → Wrote (decimal r.offset) p₅ p₆ → Wrote (rest_of_refused r) p₆ p₇ → Wrote (refused_line r) p p₇
unfolding refused_line
row_wrote r a b d e f g h =
    rw (line_rest (decimal r.offset) (carried r.number r.values)) (wrote_then a (wrote_then b (wrote_then d (wrote_then e (wrote_then f (wrote_then g h))))))

pub returns : goal.returns
returns c =
    let named = rw (c.layer_name.ensures, c.layer.ensures) at c.text-3.ensures in
    row_wrote _ c.text.ensures (rw c.from-row.ensures at c.number.ensures) c.text-2.ensures named c.text-4.ensures (rw c.from-row.ensures at c.number-2.ensures) c.carried.ensures
