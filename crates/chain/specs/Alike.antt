-- Two frames whose walks tell the same get the same public answers. Where frames are alike, DeclaredLength.antt and Deciding.antt say.
use Rattle.std.specs.Prelude.{ℕ, suc, ◌≡◌, refl, length, Option, Some, None, Result}
use Rattle.std.proofs.Common.{sym, ◌∙◌}
use Rattle.std.proofs.Math.Path.{ap}
use mathlib.Core.List.{List, [], ◌∷◌, ◌++◌, map}
use Rattle.rules.specs.declared.refusal.Refusal.{Refusal}
use Rattle.rules.specs.declared.entry.Entry.{Entry}
use Rattle.rules.specs.declared.kind.Kind.{Kind}
use Rattle.rules.specs.declared.kind.Kind.TheVariants.{Ethernet2, Vlan, Ipv4, Ipv6, HopByHop, Routing, Destination, Fragment, Auth, Udp, Tcp}
use Rattle.rules.specs.declared.place.Header.{Header}
use Rattle.rules.specs.Walk.{Trace, accepted, refused, unfinished, HeaderAt, header, is, nth, header_of, count_of, slices}
use Rattle.laws.specs.Gather.{gathered, listed}
use Rattle.laws.specs.Openings.{ending}
use Rattle.laws.specs.Zeros.{zeros}
use Rattle.slicer.specs.declared.packet.SlicedPacket.{SlicedPacket}
use Rattle.slicer.specs.Reply.{reply_of, Parts, slice_way, nothing, put}
use Rattle.steps.specs.Lists.{headers_listed, written_from, list_of}
use Rattle.exports.specs.Handed.{slice_for, header_for, count_for, list_for, packet_by, header_by, count_answer_by}
use Rattle.printing.specs.Text.{text, text_of, line_of, header_lines, ending_lines}
use Rattle.chain.specs.Answers.{Sliced, HeaderIs, CountIs, ListIs}
use Rattle.chain.specs.Back.{packet_back, header_back, count_back}
use Rattle.laws.specs.Back.{settled_by}

-- ---- what is told of a walk

abbrev pub shown : {A B : Type 0} → (A → B) → Trace A → Trace B
shown f (accepted hs x) = accepted (map f hs) x
shown f (refused hs r) = refused (map f hs) r
shown f unfinished = unfinished

-- the header in a room that ends at n
abbrev pub ending_in : HeaderAt → ℕ → HeaderAt
ending_in e n = record { kind = e.kind; at = e.at; len = e.len; room = ending e.room n }

-- a header with no word of where its room ends: of the answers below none tells it
abbrev pub blank : HeaderAt → HeaderAt
blank e = ending_in e 0

-- the walks of s and t, by an entry, tell the same
abbrev pub Alike : Entry → List ℕ → List ℕ → Type 0
Alike entry s t = shown blank (slices entry s) ≡ shown blank (slices entry t)

-- ---- no answer tells where a room ends

put-blank : (k : Kind) (f : Parts) (e : HeaderAt) → put k f e ≡ put k f (blank e)
put-blank Ethernet2 f e = refl
put-blank Vlan f e = refl
put-blank Ipv4 f e = refl
put-blank Ipv6 f e = refl
put-blank HopByHop f e = refl
put-blank Routing f e = refl
put-blank Destination f e = refl
put-blank Fragment f e = refl
put-blank Auth f e = refl
put-blank Udp f e = refl
put-blank Tcp f e = refl

listed-blank : (f : Parts) (hs : List HeaderAt) → listed slice_way f hs ≡ listed slice_way f (map blank hs)
unfolding listed
listed-blank f [] = refl
listed-blank f (e ∷ hs) = ap (λ (g : Parts). listed slice_way g hs) (put-blank e.kind f e) ∙ listed-blank (put e.kind f (blank e)) hs

reply_blank : (t : Trace HeaderAt) → gathered slice_way nothing t ≡ gathered slice_way nothing (shown blank t)
unfolding gathered
reply_blank (accepted hs x) = ap (λ (f : Parts). slice_way.done f x) (listed-blank nothing hs)
reply_blank (refused hs r) = refl
reply_blank unfinished = refl

map-blank : (hs : List HeaderAt) → map header hs ≡ map header (map blank hs)
map-blank [] = refl
map-blank (e ∷ hs) = ap (λ (z : List Header). header e ∷ z) (map-blank hs)

header-blank : (t : Trace HeaderAt) (k : ℕ) → header_of t k ≡ header_of (shown blank t) k
unfolding header_of
header-blank (accepted hs x) k = ap (λ (l : List Header). nth l k) (map-blank hs)
header-blank (refused hs r) k = refl
header-blank unfinished k = refl

length-blank : (hs : List HeaderAt) → length hs ≡ length (map blank hs)
length-blank [] = refl
length-blank (e ∷ hs) = ap suc (length-blank hs)

count_blank : (t : Trace HeaderAt) → count_of t ≡ count_of (shown blank t)
unfolding count_of
count_blank (accepted hs x) = ap is (length-blank hs)
count_blank (refused hs r) = refl
count_blank unfinished = refl

listed_in_blank : (t : Trace HeaderAt) → headers_listed t ≡ headers_listed (shown blank t)
unfolding headers_listed
listed_in_blank (accepted hs x) = map-blank hs
listed_in_blank (refused hs r) = refl
listed_in_blank unfinished = refl

lines_blank : (hs : List HeaderAt) → header_lines hs ≡ header_lines (map blank hs)
unfolding header_lines
lines_blank [] = refl
lines_blank (e ∷ hs) = ap (λ (l : List ℕ). line_of e ++ l) (lines_blank hs)

text-blank : (t : Trace HeaderAt) → text t ≡ text (shown blank t)
unfolding text
text-blank (accepted hs x) = ap (λ (l : List ℕ). l ++ ending_lines x) (lines_blank hs)
text-blank (refused hs r) = refl
text-blank unfinished = refl

-- ---- so what the definitions give is the same

-- an answer f of a walk that does not tell where rooms end
alike_by : {A : Type 0} (f : Trace HeaderAt → A) → ((w : Trace HeaderAt) → f w ≡ f (shown blank w)) → (e : Entry) (s t : List ℕ) → Alike e s t
    → f (slices e s) ≡ f (slices e t)
alike_by f blind e s t a = blind (slices e s) ∙ ap f a ∙ sym (blind (slices e t))

module _ (entry : Entry) (s t : List ℕ) (a : Alike entry s t) where
  pub alike_reply : reply_of entry s ≡ reply_of entry t
  unfolding reply_of
  alike_reply = alike_by (gathered slice_way nothing) reply_blank entry s t a

  pub alike-header : (k : ℕ) → header_of (slices entry s) k ≡ header_of (slices entry t) k
  alike-header k = alike_by (λ w. header_of w k) (λ w. header-blank w k) entry s t a

  pub alike_count : count_of (slices entry s) ≡ count_of (slices entry t)
  alike_count = alike_by count_of count_blank entry s t a

  pub alike_list : (k n : ℕ) → list_of (slices entry s) k n ≡ list_of (slices entry t) k n
  unfolding list_of
  alike_list k n = ap (λ (hs : List Header). written_from k hs (zeros n)) (alike_by headers_listed listed_in_blank entry s t a)

  pub alike-text : text_of entry s ≡ text_of entry t
  alike-text = alike_by text text-blank entry s t a

  -- ---- and so are the public answers: what slice, header, count and headers answer, and what headers leaves in n lent numbers

  pub same_reply : (x y : Result SlicedPacket Refusal) → Sliced entry s x → Sliced entry t y → x ≡ y
  same_reply x y e f = settled_by packet_back e (f ∙ sym alike_reply)

  pub same_header : (k : ℕ) (x y : Result (Option Header) Refusal) → HeaderIs entry s k x → HeaderIs entry t k y → x ≡ y
  same_header k x y e f = settled_by header_back e (f ∙ sym (alike-header k))

  pub same_count : (x y : Result ℕ Refusal) → CountIs entry s x → CountIs entry t y → x ≡ y
  same_count x y e f = settled_by count_back e (f ∙ sym alike_count)

  pub same_list : (k n : ℕ) (x y : List ℕ) → ListIs entry s k n x → ListIs entry t k n y → x ≡ y
  same_list k n x y e f = e ∙ alike_list k n ∙ sym f

-- ---- of each export that takes a frame, by an entry's number; for a number that no entry has nothing is asked of the frames

abbrev pub AlikeBy : Option Entry → List ℕ → List ℕ → Type 0
AlikeBy (Some entry) s t = Alike entry s t
AlikeBy None s t = Unit

pub same_packet : (c : Option Entry) (s t : List ℕ) → AlikeBy c s t → slice_for c s ≡ slice_for c t
same_packet (Some entry) s t a = ap packet_by (alike_reply entry s t a)
same_packet None s t a = refl

pub same_header_reply : (c : Option Entry) (s t : List ℕ) (k : ℕ) → AlikeBy c s t → header_for c s k ≡ header_for c t k
same_header_reply (Some entry) s t k a = ap header_by (alike-header entry s t a k)
same_header_reply None s t k a = refl

pub same_count_reply : (c : Option Entry) (s t : List ℕ) → AlikeBy c s t → count_for c s ≡ count_for c t
same_count_reply (Some entry) s t a = ap count_answer_by (alike_count entry s t a)
same_count_reply None s t a = refl

pub same_heads : (c : Option Entry) (s t : List ℕ) (k n : ℕ) → AlikeBy c s t → list_for c s k n ≡ list_for c t k n
same_heads (Some entry) s t k n a = alike_list entry s t a k n
same_heads None s t k n a = refl
