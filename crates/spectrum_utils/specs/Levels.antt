-- A level from the bottom of its range, and the colours of all levels: what a row that is drawn works out once. Assumes nothing.
use Rattle.std.specs.Prelude.{ℕ, List, map, Float}
use Rattle.model.specs.Floats.{◌-f◌, ◌*f◌, ◌/f◌, as_unsigned, round_half_away, clampf, natf, f0, f1}
use Rattle.model.specs.Picture.{color_map, count_from}

-- `db_to_u8`, of a range of at least 1 that begins at `bottom`
unfoldable pub level_above : Float → Float → Float → ℕ
level_above db bottom range = as_unsigned 8 (round_half_away (clampf ((db -f bottom) /f range) f0 f1 *f natf 255))

-- the colour of each level, from 0 on
abbrev pub color_table : List ℕ
color_table = map color_map (count_from 0 256)
