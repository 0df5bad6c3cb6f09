-- `printed` meets its contract: the text of a frame that fits is written whole.
use Rattle.std.proofs.Common.{arith, refl}
use Rattle.std.specs.Prelude.{ℕ, Option, Some, None, ◌≡◌, IsSome}
use Rattle.rules.specs.declared.entry.Entry.TheVariants.{Ethernet}
use Rattle.printing.specs.Told.{told_whole, told_count}
use Rattle.printing.specs.Fits.{never_cut}
use Rattle.slice_frame.proofs.printed.Goals as goal

there : (r : Option ℕ) → (r ≡ None → ⊥) → IsSome r
there (Some k) h = refl
there None h = absurd (h refl)

pub unwrap-len-requires : goal.unwrap-len-requires
unwrap-len-requires c = there _ (never_cut Ethernet _ _ (λ i. omega (arith, c.type_inv.frame i)) c.requires.frame c.requires.buffer c.print.ensures.answer)

pub slice_bounds-result-end : goal.slice_bounds-result-end
slice_bounds-result-end c =
    let e = c.print.ensures in
    told_count (told_whole _ _ e.answer e.text c.unwrap-len.ensures)

pub returns : goal.returns
returns c =
    let e = c.print.ensures in
    let z = told_whole _ _ e.answer e.text c.unwrap-len.ensures in z.whole
