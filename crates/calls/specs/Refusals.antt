-- The numbers of the refusals: the questions that an operation asks before it acts, in their order. Assumes nothing.
use Rattle.std.specs.Prelude.{ℕ}
use Rattle.calls.specs.declared.Refusal.{Refusal}
use Rattle.calls.specs.declared.Refusal.TheVariants.{Sizes, NoRoom, NotHeld, TooManyCalls, NotFinite, Length, Header, Total, Range, NotTimePacket, BadWord}

abbrev pub refusal_number : Refusal → ℕ
refusal_number Sizes = 1
refusal_number NoRoom = 2
refusal_number NotHeld = 3
refusal_number TooManyCalls = 4
refusal_number NotFinite = 5
refusal_number Length = 6
refusal_number Header = 7
refusal_number Total = 8
refusal_number Range = 9
refusal_number NotTimePacket = 10
refusal_number BadWord = 11
