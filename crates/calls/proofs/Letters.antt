-- A channel's letter is one byte. Assumes nothing.
use mathlib.Core.Path.{◌≡◌, refl}
use mathlib.Core.List.{[], ◌∷◌}
use lib.Utf8.{encode}
use Rattle.model.specs.Framing.{Side, A, B}
use Rattle.model.specs.Replay.{side_letter}

pub one_byte : (s : Side) → encode (side_letter s) ≡ side_letter s ∷ []
unfolding encode side_letter
one_byte A = refl
one_byte B = refl
