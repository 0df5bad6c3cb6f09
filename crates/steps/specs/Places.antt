-- The step from a place: what the header there leads to.
use Rattle.std.specs.Prelude.{ℕ, ◌≡◌, refl, Bool, List, length, leb, Result, Ok, Err}
use Rattle.std.proofs.Common.{ap}
use Rattle.rules.specs.declared.place.Place.{Place}
use Rattle.rules.specs.declared.refusal.Row.{Row}
use Rattle.rules.specs.Numbers.{tag_limit, ip_limit}
use Rattle.rules.specs.Named.{kind_number, source_number}
use Rattle.rules.specs.Test.{pick, source_of}
use Rattle.rules.specs.Paper.{refusal_on_paper}
use Rattle.rules.specs.Place.{Stopped, ending_on_paper, Follow, next, halt, wrong, PlaceRead, reads, refuses, read}
use Rattle.laws.specs.Back.{Back, settled_by, kind-back, room_source_back}
use Rattle.steps.specs.declared.place.Step.{Step}
use Rattle.steps.specs.declared.place.Step.TheVariants as S
use Rattle.steps.specs.declared.place.NoStep.{NoStep}
use Rattle.steps.specs.declared.place.NoStep.TheVariants as N

-- a place: where a header of a kind stands, and in which room. Kind and source by their numbers
pub record PlaceTold : Type 0 where
  pub kind : ℕ
  pub at : ℕ
  pub end : ℕ
  pub tags : ℕ
  pub version : ℕ
  pub ips : ℕ
  pub source : ℕ
  pub mark : Bool

abbrev pub place_on_paper : Place → PlaceTold
place_on_paper p = record {
  kind = kind_number p.kind;
  at = p.at;
  end = p.room.end;
  tags = p.room.tags;
  version = p.room.version;
  ips = p.room.ips;
  source = source_number (source_of p.room.source);
  mark = p.room.mark;
}

pub data Stepped : Type 0 where
  -- the header's length, and the next place or the walk's end
  on : ℕ → PlaceTold → Stepped
  last : ℕ → Stopped → Stepped
  refused : Row → Stepped
  not_a_place : Stepped

abbrev pub step_on_paper : Result Step NoStep → Stepped
step_on_paper (Ok (S.Next len p)) = on len (place_on_paper p)
step_on_paper (Ok (S.Last len e)) = last len (ending_on_paper e)
step_on_paper (Err (N.Refused r)) = refused (refusal_on_paper r)
step_on_paper (Err N.NotAPlace) = not_a_place

abbrev pub leads : ℕ → Follow → Stepped
leads len (next q) = on len (place_on_paper q)
leads len (halt x) = last len x
leads len (wrong r) = refused r

abbrev pub steps : PlaceRead → Stepped
steps (reads x) = leads x.len x.follow
steps (refuses r) = refused r

-- what document 01's rules give from a place, inside its room
unfoldable pub step_says : List ℕ → Place → Stepped
step_says s p =
    pick (leb p.room.end (length s))
    (pick (leb p.at p.room.end)
    (pick (leb p.room.tags tag_limit)
    (pick (leb p.room.ips ip_limit) (steps (read s p)) not_a_place)
    not_a_place)
    not_a_place)
    not_a_place

-- where a frame opens, as a step that no header was read for
abbrev pub opens : Follow → Stepped
opens f = leads 0 f

-- ---- from the paper back

pub place_back : Back place_on_paper
place_back =
    record {
      back = λ t.
          record {
            at = t.at;
            room = record { end = t.end; tags = t.tags; version = t.version; ips = t.ips; source = room_source_back.back t.source; mark = t.mark };
            kind = kind-back.back t.kind;
          };
      same = λ p i.
          record {
            at = p.at;
            room = record {
              end = p.room.end;
              tags = p.room.tags;
              version = p.room.version;
              ips = p.room.ips;
              source = room_source_back.same p.room.source i;
              mark = p.room.mark;
            };
            kind = kind-back.same p.kind i;
          };
    }

pub same_place : {p q : Place} {m n : ℕ} → on m (place_on_paper p) ≡ on n (place_on_paper q) → p ≡ q
same_place {p} {q} e = let z : place_on_paper p ≡ place_on_paper q = cc in settled_by place_back z refl

-- a frame that is told to open at a place opens there
pub opens-there : {p : Place} (f : Follow) → opens (next p) ≡ opens f → next p ≡ f
opens-there (next q) e = ap next (same_place e)
opens-there (halt x) e = cc
opens-there (wrong r) e = cc
