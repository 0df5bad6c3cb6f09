-- One answer a place, and one kind a number: no second answer satisfies the contract of `option`, and no second kind that of `OptionKind::from`. Assumes nothing.
use Rattle.std.specs.Prelude.{ℕ, ◌≡◌, refl, List, eqb, Option, Some, None, Result, Ok, Err}
use Rattle.std.proofs.Common.{sym, ap, ◌∙◌}
use Rattle.rules.specs.Test.{pick}
use Rattle.tcp_options.specs.declared.kind.OptionKind.{OptionKind}
use Rattle.tcp_options.specs.declared.kind.OptionKind.TheVariants as K
use Rattle.tcp_options.specs.declared.answer.OptionRefusal.{OptionRefusal}
use Rattle.tcp_options.specs.declared.answer.OptionRefusal.TheVariants as R
use Rattle.tcp_options.specs.declared.answer.OptionRow.{OptionRow}
use Rattle.tcp_options.specs.declared.answer.TcpOption.{TcpOption}
use Rattle.tcp_options.specs.Options.{Kind, known, unknown, named, noop, maximum_segment_size, window_scale, selective_ack_permitted, selective_ack}
use Rattle.tcp_options.specs.Options.{no_length_byte, length_not_sound, Answer, is, no-more, refusal, options, option_of}
use Rattle.tcp_options.specs.Paper.{kind_on_paper, refusal_on_paper, option_on_paper}

-- ---- from the paper back to the code's answers

kind_back : Kind → OptionKind
kind_back (known n) =
    pick (eqb n noop) K.Noop
    (pick (eqb n maximum_segment_size) K.MaximumSegmentSize
    (pick (eqb n window_scale) K.WindowScale
    (pick (eqb n selective_ack_permitted) K.SelectiveAcknowledgementPermitted
    (pick (eqb n selective_ack) K.SelectiveAcknowledgement
    K.Timestamp))))
kind_back (unknown n) = K.Unknown n

kind-back : (k : OptionKind) → kind_back (kind_on_paper k) ≡ k
unfolding kind_back
kind-back K.Noop = refl
kind-back K.MaximumSegmentSize = refl
kind-back K.WindowScale = refl
kind-back K.SelectiveAcknowledgementPermitted = refl
kind-back K.SelectiveAcknowledgement = refl
kind-back K.Timestamp = refl
kind-back (K.Unknown n) = refl

refusal_back : OptionRow → OptionRefusal
refusal_back r =
    pick (eqb r.number no_length_byte) (R.NoLengthByte r.offset)
    (pick (eqb r.number length_not_sound) (R.LengthNotSound r.offset)
    (R.WrongSize r.offset))

refusal-back : (r : OptionRefusal) → refusal_back (refusal_on_paper r) ≡ r
unfolding refusal_back
refusal-back (R.NoLengthByte offset) = refl
refusal-back (R.LengthNotSound offset) = refl
refusal-back (R.WrongSize offset) = refl

back : Answer → Result (Option TcpOption) OptionRefusal
back (is o) = Ok (Some (record { at = o.at; len = o.size; kind = kind_back o.kind }))
back no-more = Ok None
back (refusal r) = Err (refusal_back r)

answer_back : (a : Result (Option TcpOption) OptionRefusal) → back (option_on_paper a) ≡ a
unfolding back
answer_back (Ok (Some o)) = ap (λ (k : OptionKind). Ok (Some (record { at = o.at; len = o.len; kind = k }))) (kind-back o.kind)
answer_back (Ok None) = refl
answer_back (Err r) = ap Err (refusal-back r)

-- ---- the theorems

-- the number settles the kind that it names
pub kind_settled : (n : ℕ) (a b : OptionKind) → kind_on_paper a ≡ named n → kind_on_paper b ≡ named n → a ≡ b
kind_settled n a b p q = sym (kind-back a) ∙ ap kind_back (p ∙ sym q) ∙ kind-back b

-- answers that are the same on paper are the same
pub same_on_paper : (a b : Result (Option TcpOption) OptionRefusal) → option_on_paper a ≡ option_on_paper b → a ≡ b
same_on_paper a b e = sym (answer_back a) ∙ ap back e ∙ answer_back b

-- the bytes and the place settle the answer
pub settled : (s : List ℕ) (k : ℕ) (a b : Result (Option TcpOption) OptionRefusal) → option_on_paper a ≡ option_of (options s) k → option_on_paper b ≡ option_of (options s) k → a ≡ b
settled s k a b p q = same_on_paper a b (p ∙ sym q)
