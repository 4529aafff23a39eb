-- The stream's byte of a datagram. Assumes nothing.
use Prim.Native.Nat.{ℕ, ◌<◌, ◌≤◌}
use mathlib.Core.Path.{◌≡◌, refl, ap, ◌∙◌}
use mathlib.Core.List.{List, ◌∷◌}
use native.Mathlib.Omega.{arith}
use lib.ListN.{length, get_or}
use denote.Ref.{Bor}
use Rattle.std.specs.Prelude.{Option, None, Some, MatchOption}
use Rattle.std.specs.Option.{unwrap_or, option_map}
use Rattle.model.specs.Framing as Framing
use Rattle.model.specs.Bytes.{big_endian}
use Rattle.model.specs.Sizes as Sizing
use Rattle.model.specs.Framing.{stream_of, stream_in, waterfall, other_stream, header_fields}
use Rattle.calls.specs.declared.Side.{Side}
use Rattle.calls.specs.declared.Side.TheVariants.{A, B}
use Rattle.calls.specs.Views.{model_side}
use Rattle.receiver_state.specs.View.{row_place, stream_place}

-- a datagram of under four bytes has none
pub short_stream : (bytes : List ℕ) → length bytes < 4 → other_stream ≡ stream_in bytes
unfolding stream_in header_fields stream_of big_endian
short_stream (a ∷ b ∷ c ∷ d ∷ bytes) few = absurd (omega (arith, few))
short_stream _ few = refl

pub stream_byte : (bytes : List ℕ) → 4 ≤ length bytes → stream_of (get_or bytes 3 0) ≡ stream_in bytes
unfolding stream_in header_fields big_endian
stream_byte (a ∷ b ∷ c ∷ d ∷ bytes) long = ap stream_of (omega arith)
stream_byte _ long = absurd (omega (arith, long))

-- the stream by the fourth byte, where there is one
pub stream_looked : (bytes : List ℕ) (t : Option (Bor ℕ)) (s : Framing.Stream)
    → unwrap_or (option_map {T = Bor ℕ} {U = ℕ} (λ x. x.now) t) 0 ≡ get_or bytes 3 0
    → MatchOption t (length bytes ≤ 3) (λ x. 4 ≤ length bytes)
    → MatchOption t (s ≡ other_stream) (λ x. s ≡ stream_of x.now)
    → s ≡ stream_in bytes
stream_looked bytes None s is few known = known ∙ short_stream bytes (omega (arith, few))
stream_looked bytes (Some x) s is long known = known ∙ (ap stream_of is ∙ stream_byte bytes long)

-- where a row of a waterfall's channel stands
pub row_of_side : (z : Sizing.Sizes) (side : Side) → row_place z side ≡ stream_place z (waterfall (model_side side))
row_of_side z A = refl
row_of_side z B = refl
