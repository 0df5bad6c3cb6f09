-- "Once an IP header is accepted whose declared length is nonzero, covers that header and fits the frame, bytes past that length,
-- changed, added or taken away, alter no answer and no refusal under the same entry": two frames that agree up to the declared end of
-- the outermost IP header are alike, and alike frames get equal replies, equal answers for every header k, equal counts, lists, exports
-- and text (Alike.antt), for each entry.
-- "Demand 3's declared length is the total length, or 40 + payload length, counted as zero when payload length is 0": of an IPv6
-- header with payload length 0 nothing is claimed, since its room is all that follows.
use Rattle.std.specs.Prelude.{ℕ, refl, List}
use Rattle.rules.specs.declared.entry.Entry.{Entry}
use Rattle.rules.specs.declared.place.Place.{Place}
use Rattle.rules.specs.Place.{opening}
use Rattle.chain.specs.Alike.{blank, Alike}
use Rattle.chain.specs.Twins.{LinksFrom, Declares, declared_length}

-- an accepted outermost IP header at p declares a length, and t has all bytes of s up to it
pub past_declared_length : (entry : Entry) (s t : List ℕ) (p : Place) → LinksFrom s (opening entry s) p → Declares s t p → Alike entry s t
past_declared_length entry s t p l d = declared_length blank (λ e n k. refl) entry s t p l d
