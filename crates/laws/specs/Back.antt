-- From the paper's numbers back: every kind, layer, source and stop can be read off its number, and a place off what it is on paper, so no
-- two have the same.
use Rattle.std.specs.Prelude.{ℕ, ◌≡◌, refl, eqb}
use Rattle.std.proofs.Common.{sym, ap, ◌∙◌}
use Rattle.rules.specs.declared.kind.Kind.{Kind}
use Rattle.rules.specs.declared.kind.Kind.TheVariants as K
use Rattle.rules.specs.declared.kind.Layer.{Layer}
use Rattle.rules.specs.declared.kind.Layer.TheVariants as L
use Rattle.rules.specs.declared.kind.RoomSource.{RoomSource}
use Rattle.rules.specs.declared.kind.RoomSource.TheVariants as R
use Rattle.rules.specs.declared.kind.Source.TheVariants as S
use Rattle.rules.specs.declared.stop.Stop.TheVariants as T
use Rattle.rules.specs.Named.{kind_number, layer_number, source_number, stop_number}
use Rattle.rules.specs.Test.{pick, source_of}

-- an answer a, read off what `paper` makes of it
pub record Back {A B : Type 0} (paper : A → B) : Type 0 where
  pub back : B → A
  pub same : (a : A) → back (paper a) ≡ a

-- two answers that come to the same on paper are equal
pub settled_by : {A B : Type 0} {paper : A → B} → Back paper → {x y : A} {z : B} → paper x ≡ z → paper y ≡ z → x ≡ y
settled_by b {x} {y} e f = sym (b.same x) ∙ ap b.back (e ∙ sym f) ∙ b.same y

-- ---- numbers

kind_of : ℕ → Kind
kind_of n =
    pick (eqb n 1) K.Ethernet2
    (pick (eqb n 2) K.Vlan
    (pick (eqb n 3) K.Ipv4
    (pick (eqb n 4) K.Ipv6
    (pick (eqb n 5) K.HopByHop
    (pick (eqb n 6) K.Routing
    (pick (eqb n 7) K.Destination
    (pick (eqb n 8) K.Fragment
    (pick (eqb n 9) K.Auth
    (pick (eqb n 10) K.Udp K.Tcp)))))))))

pub layer_of : ℕ → Layer
layer_of n = pick (eqb n 13) L.Ipv4Packet (pick (eqb n 14) L.Ipv6Packet (pick (eqb n 15) L.UdpPayload (L.Of (kind_of n))))

pub kind-back : Back kind_number
unfolding kind_of
kind-back =
    record {
      back = kind_of;
      same = elim [
        | K.Ethernet2 ↦ refl
        | K.Vlan ↦ refl
        | K.Ipv4 ↦ refl
        | K.Ipv6 ↦ refl
        | K.HopByHop ↦ refl
        | K.Routing ↦ refl
        | K.Destination ↦ refl
        | K.Fragment ↦ refl
        | K.Auth ↦ refl
        | K.Udp ↦ refl
        | K.Tcp ↦ refl
      ];
    }

-- no kind has a number of the other layers
of_kind : (k : Kind) → layer_of (kind_number k) ≡ L.Of (kind_of (kind_number k))
unfolding layer_of
of_kind K.Ethernet2 = refl
of_kind K.Vlan = refl
of_kind K.Ipv4 = refl
of_kind K.Ipv6 = refl
of_kind K.HopByHop = refl
of_kind K.Routing = refl
of_kind K.Destination = refl
of_kind K.Fragment = refl
of_kind K.Auth = refl
of_kind K.Udp = refl
of_kind K.Tcp = refl

pub layer_same : (l : Layer) → layer_of (layer_number l) ≡ l
unfolding layer_of kind-back
layer_same (L.Of k) = of_kind k ∙ ap L.Of (kind-back.same k)
layer_same L.Ipv4Packet = refl
layer_same L.Ipv6Packet = refl
layer_same L.UdpPayload = refl

pub layer_back : Back layer_number
layer_back = record { back = layer_of; same = layer_same }

pub source_back : Back source_number
source_back =
    record {
      back = λ n. pick (eqb n 1) S.Slice (pick (eqb n 2) S.Ipv4 (pick (eqb n 3) S.Ipv6 S.Udp));
      same = elim [ S.Slice ↦ refl | S.Ipv4 ↦ refl | S.Ipv6 ↦ refl | S.Udp ↦ refl ];
    }

pub stop_back : Back stop_number
stop_back =
    record {
      back = λ n. pick (eqb n 1) T.EtherTypeNotOpened
          (pick (eqb n 2) T.TagsFull
          (pick (eqb n 3) T.Fragment
          (pick (eqb n 4) T.IpNumberNotOpened T.TransportRead)));
      same = elim [ T.EtherTypeNotOpened ↦ refl | T.TagsFull ↦ refl | T.Fragment ↦ refl | T.IpNumberNotOpened ↦ refl | T.TransportRead ↦ refl ];
    }

pub room_source_back : Back (λ (r : RoomSource). source_number (source_of r))
room_source_back =
    record {
      back = λ n. pick (eqb n 1) R.Slice (pick (eqb n 2) R.Ipv4 R.Ipv6);
      same = elim [ R.Slice ↦ refl | R.Ipv4 ↦ refl | R.Ipv6 ↦ refl ];
    }
