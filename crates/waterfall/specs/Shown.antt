-- The colour of a bin, and of a column, by the bins that show. Assumes nothing.
use Rattle.std.specs.Prelude.{ℕ, ◌*◌, ◌/◌, List, length, get_or, Float}
use Rattle.model.specs.Floats.{f0}
use Rattle.model.specs.Picture.{color_map}
use Rattle.spectrum_utils.specs.Levels.{level_above}

-- the colour of a bin, where the range begins at `bottom`
abbrev pub bin_color : Float → Float → List Float → ℕ → ℕ
bin_color bottom range bins bin = color_map (level_above (get_or bins bin f0) bottom range)

-- the colour of column x
abbrev pub column_color : ℕ → Float → Float → List Float → ℕ → ℕ
column_color width bottom range bins x = bin_color bottom range bins (x * length bins / width)
