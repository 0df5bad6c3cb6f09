-- Demand 3 for the printed text, for each entry: of a frame with a chain a line for each header of it, in order, and the lines of its stop; of
-- a refused one its refusal alone. The two are told apart by their first two bytes. Bytes past a declared length: alike-text in Alike.antt.
use Rattle.std.specs.Prelude.{ℕ, ◌≡◌, refl, List, [], ◌++◌, get_or}
use Rattle.std.proofs.Common.{sym, subst, append_assoc, arith}
use Rattle.rules.specs.declared.entry.Entry.{Entry}
use Rattle.rules.specs.declared.kind.Kind.{Kind}
use Rattle.rules.specs.declared.kind.Kind.TheVariants.{Ethernet2, Vlan, Ipv4, Ipv6, HopByHop, Routing, Destination, Fragment, Auth, Udp, Tcp}
use Rattle.rules.specs.declared.place.Place.{Place}
use Rattle.rules.specs.declared.refusal.Row.{Row}
use Rattle.rules.specs.Named.{kind_number}
use Rattle.rules.specs.Place.{Follow, Stopped}
use Rattle.rules.specs.Walk.{Trace, HeaderAt}
use Rattle.laws.specs.Openings.{Asks}
use Rattle.printing.specs.Text.{header_line, line_of, header_lines, ending_lines, refused_line, text_of}
use Rattle.chain.specs.Chain.{length_at, listed_at, Chain, last, more, ChainFrom, opened}
use Rattle.chain.specs.Walked.{Walked, whole_walk, broken_walk, walked}
use Rattle.chain.specs.Accepted.{HasChain}
use Rattle.chain.specs.Refused.{Breaks}
use Rattle.chain.specs.AsksForMore.{frame_asks_for_more}
use Rattle.chain.specs.Given.{chain_text, broken_text}

-- a text that begins with "re": refused
abbrev pub SaysRefused : List ℕ → Type 0
SaysRefused t = (get_or t 0 0 ≡ 114) × (get_or t 1 0 ≡ 101)

-- what is said of the text t of a frame
pub record TextTells (entry : Entry) (s t : List ℕ) : Type 0 where
  pub in_order : (hs : List HeaderAt) (x : Stopped) → HasChain entry s hs x → t ≡ header_lines hs ++ ending_lines x
  pub accepts : (hs : List HeaderAt) (x : Stopped) → HasChain entry s hs x → SaysRefused t → ⊥
  pub refuses : (hs : List HeaderAt) (q : Row) → Breaks entry s hs q → (t ≡ refused_line q) × SaysRefused t × Asks q
  pub breaks : SaysRefused t → (hs : List HeaderAt) × (q : Row) × Breaks entry s hs q

-- ---- a refusal's line begins so, a header's never

refused_says : (q : Row) → SaysRefused (refused_line q)
unfolding refused_line
refused_says q = (refl, refl)

line-says : (k : Kind) (at len : ℕ) (t : List ℕ) → SaysRefused (header_line (kind_number k) at len ++ t) → ⊥
unfolding header_line
line-says Ethernet2 at len t h = omega (arith, h.0)
line-says Vlan at len t h = omega (arith, h.0)
line-says Ipv4 at len t h = omega (arith, h.0)
line-says Ipv6 at len t h = omega (arith, h.0)
line-says HopByHop at len t h = omega (arith, h.0)
line-says Routing at len t h = omega (arith, h.1)
line-says Destination at len t h = omega (arith, h.0)
line-says Fragment at len t h = omega (arith, h.0)
line-says Auth at len t h = omega (arith, h.0)
line-says Udp at len t h = omega (arith, h.0)
line-says Tcp at len t h = omega (arith, h.0)

lines_say : {s : List ℕ} {p : Place} {hs : List HeaderAt} {x : Stopped} → Chain s p hs x → (t : List ℕ) → SaysRefused (header_lines hs ++ t) → ⊥
unfolding header_lines
lines_say {s} (last {p} h c) t w = line-says p.kind p.at (length_at s p) t (subst SaysRefused (append_assoc (line_of (listed_at s p)) [] t) w)
lines_say {s} (more {p} {hs = hs} h l c) t w =
    line-says p.kind p.at (length_at s p) (header_lines hs ++ t) (subst SaysRefused (append_assoc (line_of (listed_at s p)) (header_lines hs) t) w)

-- ---- every text is so

module _ (entry : Entry) (s : List ℕ) where
  chain_says : {hs : List HeaderAt} {x : Stopped} → HasChain entry s hs x → SaysRefused (text_of entry s) → ⊥
  chain_says {hs} {x} c w = go c (subst SaysRefused (chain_text entry s c) w)
    where
      go : {f : Follow} → ChainFrom s f hs x → SaysRefused (header_lines hs ++ ending_lines x) → ⊥
      go (opened c) w = lines_say c (ending_lines x) w

  pub text-tells : TextTells entry s (text_of entry s)
  text-tells =
      record {
        in_order = λ hs x c. chain_text entry s c;
        accepts = λ hs x c w. chain_says c w;
        refuses = λ hs q b. (broken_text entry s b, subst SaysRefused (sym (broken_text entry s b)) (refused_says q), frame_asks_for_more entry s b);
        breaks = λ w. go (walked entry s) w;
      }
    where
      go : {t : Trace HeaderAt} → Walked entry s t → SaysRefused (text_of entry s) → (hs : List HeaderAt) × (q : Row) × Breaks entry s hs q
      go (whole_walk c) w = absurd (chain_says c w)
      go (broken_walk {hs} {r} b) w = (hs, r, b)
