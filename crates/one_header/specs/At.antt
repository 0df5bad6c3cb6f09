-- A reader's answer at a place: what a whole header says, or the row of its refusal there.
use Rattle.std.specs.Prelude.{ℕ, List, ◌≡◌, refl, Option, Some, None, unwrap_or, Result, Ok, Err}
use Rattle.std.proofs.Common.{sym, ap, ◌∙◌}
use Rattle.rules.specs.declared.kind.RoomSource.{RoomSource}
use Rattle.rules.specs.declared.refusal.Refusal.{Refusal}
use Rattle.rules.specs.declared.refusal.Row.{Row}
use Rattle.rules.specs.Test.{Failure, Verdict, whole, failed, placed}
use Rattle.rules.specs.Paper.{refusal_on_paper}
use Rattle.headers.specs.declared.net.IpHeader.{IpHeader}
use Rattle.headers.specs.declared.transport.TransportHeader.{TransportHeader}
use Rattle.headers.specs.Says.{udp_says, tcp_says}
use Rattle.one_header.specs.declared.transport.TransportKind.{TransportKind}
use Rattle.one_header.specs.declared.transport.TransportKind.TheVariants as T
use Rattle.one_header.specs.declared.ip.IpFound.{IpFound}

pub data Placed (A : Type 0) : Type 0 where
  here : A → Placed A
  refused : Row → Placed A

-- the verdict on a header at an offset, in a room that `source` set
abbrev pub placing : {A : Type 0} → Verdict A → ℕ → RoomSource → Placed A
placing (whole x) at source = here x
placing (failed f) at source = refused (placed f at source)

-- a verdict with f put over what a whole header says
abbrev pub over : {A B : Type 0} → (A → B) → Verdict A → Verdict B
over f (whole x) = whole (f x)
over f (failed e) = failed e

-- what set the room behind a header that declares a length, or none
abbrev pub set_source : Option ℕ → (sets source : RoomSource) → RoomSource
set_source (Some d) sets source = sets
set_source None sets source = source

-- the room that an IP header sets, counted from the header: it ends at the declared length and is the header's; a header that
-- declares none keeps the room of `have` bytes that `source` set
abbrev pub setting : IpHeader → (have : ℕ) → (sets source : RoomSource) → IpFound
setting x have sets source =
    record {
      names = x.names;
      fragment = x.fragment;
      source = set_source x.declared sets source;
      len = x.len;
      end = unwrap_or x.declared have;
    }

-- what a transport header's reader says
abbrev pub transport_says : TransportKind → ℕ → List ℕ → Verdict TransportHeader
transport_says T.Udp = udp_says
transport_says T.Tcp = tcp_says

-- ---- the answers on paper

abbrev pub at_on_paper : {A : Type 0} → Result A Refusal → Placed A
at_on_paper (Ok x) = here x
at_on_paper (Err r) = refused (refusal_on_paper r)

-- ---- back to the verdict

pub here_whole : {A : Type 0} (v : Verdict A) (at : ℕ) (source : RoomSource) {x : A} → here x ≡ placing v at source → v ≡ whole x
here_whole (whole y) at source e = cc
here_whole (failed f) at source e = cc

-- a refusal at a place is a failed verdict's row there
pub refused_failed : {A : Type 0} (v : Verdict A) (at : ℕ) (source : RoomSource) {r : Row} → refused r ≡ placing v at source
    → (f : Failure) × (v ≡ failed f) × (r ≡ placed f at source)
refused_failed (whole y) at source e = cc
refused_failed (failed f) at source e = (f, refl, cc)

-- what is whole with f put over it was whole without
pub over_whole : {A B : Type 0} (f : A → B) (v : Verdict A) {y : B} → over f v ≡ whole y → (x : A) × (v ≡ whole x) × (y ≡ f x)
over_whole f (whole x) e = (x, refl, cc)
over_whole f (failed g) e = cc

-- and what failed had failed
pub over_failed : {A B : Type 0} (f : A → B) (v : Verdict A) {g : Failure} → over f v ≡ failed g → v ≡ failed g
over_failed f (whole x) e = cc
over_failed f (failed h) e = cc

-- ---- a reader's answer v, which is u on paper, made the answer at a place

-- a verdict has one failure
pub one_failure : {A : Type 0} {v : Verdict A} {f g : Failure} → v ≡ failed f → v ≡ failed g → f ≡ g
one_failure p q = cc

-- and is not whole besides
pub not_failed : {A : Type 0} {v : Verdict A} {x : A} {f : Failure} → v ≡ whole x → v ≡ failed f → ⊥
not_failed p q = cc

module _ {A : Type 0} {v u : Verdict A} (at : ℕ) (source : RoomSource) (e : v ≡ u) where
  -- a whole header
  pub whole_at : {x : A} → v ≡ whole x → here x ≡ placing u at source
  whole_at z = ap (λ (y : Verdict A). placing y at source) (sym z ∙ e)

  -- a refusal
  pub refused_at : {f : Failure} {r : Row} → v ≡ failed f → r ≡ placed f at source → refused r ≡ placing u at source
  refused_at z q = ap refused q ∙ ap (λ (y : Verdict A). placing y at source) (sym z ∙ e)

  module _ {B : Type 0} (f : A → B) where
    -- the same with f put over what a whole header says
    pub whole_over : {x : A} → v ≡ whole x → here (f x) ≡ placing (over f u) at source
    whole_over z = ap (λ (y : Verdict A). placing (over f y) at source) (sym z ∙ e)

    pub refused_over : {g : Failure} {r : Row} → v ≡ failed g → r ≡ placed g at source → refused r ≡ placing (over f u) at source
    refused_over z q = ap refused q ∙ ap (λ (y : Verdict A). placing (over f y) at source) (sym z ∙ e)
