-- The numbers and values on paper of every case of the code's answers. The promises use these.
use Rattle.std.specs.Prelude.{Option, Some, None, Result, Ok, Err}
use Rattle.tcp_options.specs.declared.kind.OptionKind.{OptionKind}
use Rattle.tcp_options.specs.declared.kind.OptionKind.TheVariants as K
use Rattle.tcp_options.specs.declared.answer.OptionRefusal.{OptionRefusal}
use Rattle.tcp_options.specs.declared.answer.OptionRefusal.TheVariants as R
use Rattle.tcp_options.specs.declared.answer.OptionRow.{OptionRow}
use Rattle.tcp_options.specs.declared.answer.TcpOption.{TcpOption}
use Rattle.tcp_options.specs.Options

-- a kind of the table by its number; any other "as unknown", with its number
abbrev pub kind_on_paper : OptionKind → Options.Kind
kind_on_paper K.Noop = Options.known Options.noop
kind_on_paper K.MaximumSegmentSize = Options.known Options.maximum_segment_size
kind_on_paper K.WindowScale = Options.known Options.window_scale
kind_on_paper K.SelectiveAcknowledgementPermitted = Options.known Options.selective_ack_permitted
kind_on_paper K.SelectiveAcknowledgement = Options.known Options.selective_ack
kind_on_paper K.Timestamp = Options.known Options.timestamp
kind_on_paper (K.Unknown n) = Options.unknown n

-- a refusal: its row
abbrev pub refusal_on_paper : OptionRefusal → OptionRow
refusal_on_paper (R.NoLengthByte offset) = Options.row Options.no_length_byte offset
refusal_on_paper (R.LengthNotSound offset) = Options.row Options.length_not_sound offset
refusal_on_paper (R.WrongSize offset) = Options.row Options.wrong_size offset

-- an answer: the option, "no more" (`None`), or the refusal
abbrev pub option_on_paper : Result (Option TcpOption) OptionRefusal → Options.Answer
option_on_paper (Ok (Some o)) = Options.is (Options.listed (kind_on_paper o.kind) o.at o.len)
option_on_paper (Ok None) = Options.no-more
option_on_paper (Err r) = Options.refusal (refusal_on_paper r)
