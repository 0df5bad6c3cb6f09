-- The loop over the headers of a frame, and what it answers. Assumes nothing.
use Rattle.std.specs.Prelude.{Ok, Err, Result}
use Prim.Native.Nat.{ℕ, ◌+◌, ◌-◌, ◌*◌, ◌/◌, ◌≤◌, ◌<◌, min}
use mathlib.Core.Path.{◌≡◌, refl, sym, ap, ◌∙◌}
use mathlib.Core.List.{List, [], ◌∷◌, ◌++◌, map, map-append, append-nil}
use mathlib.Core.Bool.{Bool, true, false}
use native.Mathlib.Omega.{arith}
use lib.ListN.{length, get_or, set, drop, length-append, length-map, length-drop}
use lib.Seq.{append_snoc}
use lib.Dec.{eqb}
use Rattle.rules.specs.declared.entry.Entry.{Entry}
use Rattle.rules.specs.declared.entry.Entry.TheVariants as E
use Rattle.rules.specs.declared.kind.Kind.{Kind}
use Rattle.rules.specs.declared.kind.Kind.TheVariants.{Ethernet2, Ipv4, Ipv6, HopByHop}
use Rattle.rules.specs.declared.kind.Layer.TheVariants.{Of}
use Rattle.rules.specs.declared.place.Header.{Header}
use Rattle.rules.specs.declared.place.Place.{Place}
use Rattle.rules.specs.declared.place.Room.{Room}
use Rattle.rules.specs.declared.refusal.Refusal.{Refusal}
use Rattle.rules.specs.declared.refusal.Row.{Row}
use Rattle.rules.specs.declared.stop.Stop.{Stop}
use Rattle.rules.specs.declared.turn.Turn.{Turn}
use Rattle.rules.specs.declared.turn.Turn.TheVariants as T
use Rattle.rules.specs.Numbers.{hop_by_hop_not_at_start}
use Rattle.rules.specs.Named.{kind_number}
use Rattle.rules.specs.Paper.{refusal_on_paper}
use Rattle.rules.specs.Test.{pick, row}
use Rattle.rules.specs.Place.{Stopped, next, is_ip, entered, place, start, opening, follow}
use Rattle.rules.specs.Walk.{Trace, accepted, refused, unfinished, HeaderAt, header_at, header, Answer, is, no-more, refusal, header_of, count_of, trace, onward, slices}
use Rattle.laws.specs.Gather.{Way, gather, gathered, listed, rest, rest_next, rest_halt, rest_wrong, gather_whole, gather_refused}
use Rattle.laws.specs.Parts.{In}
use Rattle.laws.specs.Walks.{nth_past}
use Rattle.one_header.specs.declared.header.HeaderFound.{HeaderFound}
use Rattle.one_header.specs.Header.{left_by, found_on_paper}
use Rattle.laws.specs.Zeros.{zeros}
use Rattle.steps.specs.Lists.{headers_read, headers_listed, written_from, list_of}
use Rattle.steps.specs.Kept.{kept, written-kept}
use Rattle.steps.specs.Places.{opens, opens-there}
use Rattle.steps.proofs.Turned.{ReadAs, reading, sizes}
use Rattle.steps.proofs.Written.{written-length, written_none, written_more, written_full, written_early, one_written}

-- ---- the walk itself, gathered header by header

abbrev walk_way : Way (List HeaderAt) (Trace HeaderAt)
walk_way = record { put = λ l e. l ++ (e ∷ []); done = λ l x. accepted l x; bad = λ l r. refused l r; never = unfinished }

listed-all : (l hs : List HeaderAt) → listed walk_way l hs ≡ l ++ hs
unfolding listed
listed-all l [] = sym (append-nil l)
listed-all l (e ∷ es) = listed-all (l ++ (e ∷ [])) es ∙ append_snoc l e es

gathered-all : (t : Trace HeaderAt) → gathered walk_way [] t ≡ t
unfolding gathered
gathered-all (accepted hs x) = ap (λ (l : List HeaderAt). accepted l x) (listed-all [] hs)
gathered-all (refused hs r) = ap (λ (l : List HeaderAt). refused l r) (listed-all [] hs)
gathered-all unfinished = refl

-- the walk of a frame that opens at p
pub slices-from : (e : Entry) (s : List ℕ) (p : Place) → opens (next p) ≡ opens (opening e s) → slices e s ≡ trace s p
unfolding slices
slices-from e s p q = ap (onward s) (sym (opens-there (opening e s) q))

-- ---- the loop

-- the loop stands before a header of a kind at an offset in a room, with the headers before it counted and written
pub record Going (s : List ℕ) (k : ℕ) (walk : Trace HeaderAt) (o : List ℕ) (kind : Kind) (at : ℕ) (p : Room) (count : ℕ) (out : List ℕ) : Type 0 where
  pub inside : In s at p
  pub few : (count ≤ at) × (p.tags ≤ at + 1) × (p.ips ≤ at + 1)
  pub before : List HeaderAt
  pub counted : count ≡ length before
  pub stored : out ≡ written_from k (map header before) o
  pub left : walk ≡ gather walk_way before s (place kind at p)

-- at most one more
one_over : (b : Bool) (n m : ℕ) → n ≤ m → pick b (n + 1) n ≤ m + 1
one_over true n m h = omega arith
one_over false n m h = omega arith

pub going_first : (e : Entry) (s : List ℕ) (k : ℕ) (o : List ℕ) (p : Place) → opens (next p) ≡ opens (opening e s) → Going s k (trace s p) o p.kind p.at p.room 0 o
unfolding opening start gather
going_first e s k o p q = go e (opens-there (opening e s) q)
  where
    from : (j : Kind) → next p ≡ next (start j s) → Going s k (trace s p) o p.kind p.at p.room 0 o
    from j q =
        let z : p ≡ start j s = cc in
        rw z
        (record {
          inside = record { inside = omega arith; room = omega arith };
          few = (omega arith, one_over (eqb (kind_number j) 2) 0 0 (omega arith), one_over (is_ip j) 0 0 (omega arith));
          before = [];
          counted = refl;
          stored = sym (written_none k o);
          left = sym (gathered-all (trace s (start j s)));
        })

    go : (e : Entry) → next p ≡ opening e s → Going s k (trace s p) o p.kind p.at p.room 0 o
    go E.Ethernet q = from Ethernet2 q
    go E.Ipv4 q = from Ipv4 q
    go E.Ipv6 q = from Ipv6 q

-- the answer a and the numbers out are those of the walk, where the numbers were o
abbrev Answers : ℕ → List ℕ → Trace HeaderAt → Answer ℕ → List ℕ → Type 0
Answers k o walk a out = (a ≡ count_of walk) × (out ≡ written_from k (headers_read walk) o)

accepted_answers : (k : ℕ) (o : List ℕ) {n : ℕ} {walk : Trace HeaderAt} {out : List ℕ} {hs : List HeaderAt} {x : Stopped}
    → walk ≡ accepted hs x → n ≡ length hs → out ≡ written_from k (map header hs) o → Answers k o walk (is n) out
unfolding count_of headers_read
accepted_answers k o e n l = rw e (ap is n, l)

refused_answers : (k : ℕ) (o : List ℕ) {walk : Trace HeaderAt} {out : List ℕ} {hs : List HeaderAt} {r : Row}
    → walk ≡ refused hs r → out ≡ written_from k (map header hs) o → Answers k o walk (refusal r) out
unfolding count_of headers_read
refused_answers k o e l = rw e (refl, l)

module _ {s : List ℕ} {k : ℕ} {walk : Trace HeaderAt} {o : List ℕ} {kind : Kind} {at : ℕ} {p : Room} {count : ℕ} {out : List ℕ} (g : Going s k walk o kind at p count out) where
  pub going_long : length out ≡ length o
  going_long = ap length g.stored ∙ written-length k (map header g.before) o

  -- the header here, of which x was found, and the headers with it
  abbrev here : HeaderFound → HeaderAt
  here x = header_at (place kind at p) (found_on_paper x at p)

  abbrev with_here : HeaderFound → List HeaderAt
  with_here x = g.before ++ (here x ∷ [])

  -- behind the header here: its bytes are there, it is written too, and the walk goes on where it leads
  pub record Past (x : HeaderFound) (out' : List ℕ) : Type 0 where
    pub sizes : (4 ≤ x.len) × (x.len ≤ x.end) × (at + x.end ≤ length s)
    pub stored : out' ≡ written_from k (map header (with_here x)) o
    pub left : walk ≡ rest walk_way (with_here x) s (follow x.turn (left_by x at p) (at + x.len) x.number (at + x.to))

  module _ {d : Result HeaderFound Refusal} (e : ReadAs s kind at p d) where
    pub going_refused : {r : Refusal} → d ≡ Err r → Answers k o walk (refusal (refusal_on_paper r)) out
    going_refused q = refused_answers k o (g.left ∙ gather_refused walk_way g.before s _ (reading kind g.inside e q)) g.stored

    -- the three ways past a whole header: it is written; the numbers are full; header k is not reached
    module _ {x : HeaderFound} (q : d ≡ Ok x) where
      counted_headers : count ≡ length (map header g.before)
      counted_headers = g.counted ∙ sym (length-map g.before header)

      past : {out' : List ℕ} → out' ≡ written_from k (map header g.before ++ (header (here x) ∷ [])) o → Past x out'
      past w =
          let z = sizes kind g.inside e q in
          record {
            sizes = (z.0, z.1, omega (arith, g.inside.room, z.2));
            stored = w ∙ ap (λ (hs : List Header). written_from k hs o) (sym (map-append header g.before (here x ∷ [])));
            left = g.left ∙ gather_whole walk_way g.before s _ (reading kind g.inside e q);
          }

      pub past_stored : {n : ℕ} {out' : List ℕ} → k ≤ count → count - k < length o / 3 → n ≡ kind_number kind
          → out' ≡ set (set (set out (3 * (count - k)) n) (3 * (count - k) + 1) at) (3 * (count - k) + 2) x.len → Past x out'
      past_stored a b c w =
          let z = counted_headers in
          past (w ∙ rw (c, g.stored, z) (sym (written_more k (map header g.before) (header (here x)) o (omega arith) (omega arith))))

      pub past_full : {out' : List ℕ} → k ≤ count → length o / 3 ≤ count - k → out' ≡ out → Past x out'
      past_full a b w =
          let z = counted_headers in
          past (w ∙ g.stored ∙ sym (written_full k (map header g.before) (header (here x)) o (omega arith) (omega arith)))

      pub past_early : {out' : List ℕ} → count < k → out' ≡ out → Past x out'
      past_early a w =
          let z = counted_headers in
          past (w ∙ g.stored ∙ sym (written_early k (map header g.before) (header (here x)) o (omega arith)))

  module _ {x : HeaderFound} {out' : List ℕ} (b : Past x out') where
    pub past_long : length out' ≡ length o
    past_long = ap length b.stored ∙ written-length k (map header (with_here x)) o

    leads_to : {u : Turn} → x.turn ≡ u → walk ≡ rest walk_way (with_here x) s (follow u (left_by x at p) (at + x.len) x.number (at + x.to))
    leads_to t = rw (← t) b.left

    counted_here : count + 1 ≡ length (with_here x)
    counted_here = let z = length-append g.before (here x ∷ []) in omega (arith, z, g.counted)

    pub past_halt : {stop : Stop} → x.turn ≡ T.Stops stop → Answers k o walk (is (count + 1)) out'
    unfolding follow
    past_halt t = accepted_answers k o (leads_to t ∙ rest_halt walk_way (with_here x) s _) counted_here b.stored

    pub past_late : x.turn ≡ T.LateHopByHop → Answers k o walk (refusal (row hop_by_hop_not_at_start (Of HopByHop) (at + x.len) (0 ∷ 0 ∷ 0 ∷ []))) out'
    unfolding follow
    past_late t = refused_answers k o (leads_to t ∙ rest_wrong walk_way (with_here x) s _) b.stored

    pub past_on : {j : Kind} {p' : Room} → x.turn ≡ T.Opens j → p' ≡ entered j (left_by x at p) → Going s k walk o j (at + x.len) p' (count + 1) out'
    unfolding follow
    past_on {j = j} t r =
        let z = b.sizes in
        let tags = one_over (eqb (kind_number j) 2) p.tags (at + 1) g.few.1 in
        let ips = one_over (is_ip j) p.ips (at + 1) g.few.2 in
        rw r
        (record {
          inside = record { inside = omega (arith, z); room = z.2 };
          few = (omega (arith, z, g.few), omega (arith, z, tags), omega (arith, z, ips));
          before = with_here x;
          counted = counted_here;
          stored = b.stored;
          left = leads_to t ∙ rest_next walk_way (with_here x) s _;
        })

-- ---- header k

pub header-here : (k : ℕ) (t : Trace HeaderAt) {o : List ℕ} {n : ℕ} → is n ≡ count_of t → o ≡ list_of t k 3 → k < n
    → is (record { kind = get_or o 0 0; at = get_or o 1 0; len = get_or o 2 0 }) ≡ header_of t k
unfolding header_of count_of headers_listed list_of
header-here k (accepted hs x) {n = n} e l h =
    let z : n ≡ length hs = cc in
    let y = length-map hs header in
    one_written k (map header hs) l (omega arith)
header-here k (refused hs r) e l h = cc
header-here k unfinished e l h = cc

pub header_past : (k : ℕ) (t : Trace HeaderAt) {n : ℕ} → is n ≡ count_of t → n ≤ k → no-more ≡ header_of t k
unfolding header_of count_of
header_past k (accepted hs x) {n = n} e h = let z : n ≡ length hs = cc in sym (nth_past hs k (omega arith))
header_past k (refused hs r) e h = cc
header_past k unfinished e h = refl

pub header_refused : (k : ℕ) (t : Trace HeaderAt) {r : Row} → refusal r ≡ count_of t → refusal r ≡ header_of t k
unfolding header_of count_of
header_refused k (accepted hs x) e = cc
header_refused k (refused hs q) {r = r} e = let z : r ≡ q = cc in ap refusal z
header_refused k unfinished e = cc

-- ---- the list

-- of an accepted frame it is what was written, and zeros behind that
pub list_accepted : (k : ℕ) (t : Trace HeaderAt) (o : List ℕ) {n j : ℕ} → is n ≡ count_of t → j ≡ 3 * min (n - k) (length o / 3)
    → kept j (written_from k (headers_read t) o) ≡ list_of t k (length o)
unfolding count_of headers_read headers_listed list_of written_from
list_accepted k (accepted hs x) o {n} {j} e m =
    let z : n ≡ length hs = cc in
    let y = length-map hs header in
    let d = length-drop k (map header hs) in
    written-kept (drop k (map header hs)) o j (omega (arith, m, z, y, d))
list_accepted k (refused hs r) o e m = cc
list_accepted k unfinished o e m = cc

-- of a refused one it is zeros
pub list_refused : (k : ℕ) (t : Trace HeaderAt) (m : ℕ) {o : List ℕ} {r : Row} → refusal r ≡ count_of t → o ≡ zeros m → o ≡ list_of t k m
unfolding count_of headers_listed list_of
list_refused k (accepted hs x) m e l = cc
list_refused k (refused hs q) m e l = l ∙ sym (written_none k _)
list_refused k unfinished m e l = l ∙ sym (written_none k _)
