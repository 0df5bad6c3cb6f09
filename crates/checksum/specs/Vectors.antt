-- Document 01's F10 and F11, computed from the definitions. Assumes nothing.
use Rattle.std.specs.Prelude.{◌≡◌, refl, [], ◌∷◌}
use Rattle.checksum.specs.Sum.{total, totals, fold, answer, without_zero}

-- "words of 00 01 f2 03 f4 f5 f6 f7: 0x220d .. Nothing: 0xffff. ff ff: 0, no-zero 0xffff."
pub f10 : (answer (fold (totals ((0x00 ∷ 0x01 ∷ 0xf2 ∷ 0x03 ∷ 0xf4 ∷ 0xf5 ∷ 0xf6 ∷ 0xf7 ∷ []) ∷ []))) ≡ 0x220d)
    × (answer (fold (totals [])) ≡ 0xffff)
    × (answer (fold (totals ((0xff ∷ 0xff ∷ []) ∷ []))) ≡ 0)
    × (without_zero (answer (fold (totals ((0xff ∷ 0xff ∷ []) ∷ [])))) ≡ 0xffff)
unfolding total totals fold without_zero
f10 = (refl, refl, refl, refl)

-- "01 added, then 02: 0xfcff; 01 02 added at once: 0xfefd."
pub f11 : (answer (fold (totals ((0x01 ∷ []) ∷ (0x02 ∷ []) ∷ []))) ≡ 0xfcff) × (answer (fold (totals ((0x01 ∷ 0x02 ∷ []) ∷ []))) ≡ 0xfefd)
unfolding total totals fold without_zero
f11 = (refl, refl)
