-- What the functions take and promise. Assumes nothing.
use Rattle.std.specs.Prelude.{◌≡◌, ℕ, List, ◌++◌, length, drop, Float}
use mathlib.Core.List.{zip_with}
use Rattle.model.specs.Picture.{window_start, window_end}

-- the window of a zoom
pub record Window (len : ℕ) (zoom : Float) (start end : ℕ) : Type 0 where
  pub from : start ≡ window_start len zoom
  pub to : end ≡ window_end len zoom

-- the values stand in front, and how many they are; what lies behind them stays
pub record InFront (values entry exit : List Float) (n : ℕ) : Type 0 where
  pub count : n ≡ length values
  pub placed : exit ≡ values ++ drop (length values) entry

-- value by value what a law says, of each law that the calls follow
abbrev pub ZippedBy : (Float → Float → Float → Type 0) → List Float → List Float → List Float → Type 0
ZippedBy answers entry other exit =
    (law : Float → Float → Float) → ((x y r : Float) → answers x y r → r ≡ law x y) → exit ≡ zip_with law entry other
