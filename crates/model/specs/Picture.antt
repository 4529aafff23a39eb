-- The picture: words of 0xRRGGBB, row after row from the top. Assumes nothing.
use Rattle.std.specs.Prelude.{ℕ, zero, suc, ◌+◌, ◌-◌, ◌*◌, ◌/◌, min, max, cond, List, [], ◌∷◌, ◌++◌, map, length, take, get_or, Float}
use Rattle.std.specs.Float.Ieee as Ieee
use Rattle.model.specs.Floats.{◌-f◌, ◌*f◌, ◌/f◌, as_unsigned, round_half_away, maxf, clampf, natf, f0, f1, f0·25, f0·5, f0·75}

-- ---- zoom

-- how many bins of len show: len / zoom rounded half away from zero, at least 1 and at most len, zoom clamped to 1..4
unfoldable pub visible_bins : ℕ → Float → ℕ
visible_bins len zoom = min (max 1 (as_unsigned 64 (round_half_away (natf len /f clampf zoom f1 (natf 4))))) len

-- the first bin that shows: the window stands in the middle
unfoldable pub window_start : ℕ → Float → ℕ
window_start len zoom = (len - visible_bins len zoom) / 2

-- the window's end, behind the last bin that shows
unfoldable pub window_end : ℕ → Float → ℕ
window_end len zoom = window_start len zoom + visible_bins len zoom

-- the bin that column x of width shows
unfoldable pub bin_at : ℕ → ℕ → Float → ℕ → ℕ
bin_at width len zoom x =
    let visible = visible_bins len zoom in
    window_start len zoom + min (x * visible / width) (visible - 1)

-- ---- level and colour

-- a level of 0 to 255: where db lies in the range below top, which is at least 1
unfoldable pub db_to_u8 : Float → Float → Float → ℕ
db_to_u8 db top range =
    let r = maxf range f1 in
    let bottom = top -f r in
    as_unsigned 8 (round_half_away (clampf ((db -f bottom) /f r) f0 f1 *f natf 255))

-- red, green, blue of up to 255 each, toward zero
unfoldable pub rgb : Float → Float → Float → ℕ
rgb r g b = as_unsigned 32 r * 65536 + as_unsigned 32 g * 256 + as_unsigned 32 b

-- black to blue, blue to cyan, cyan to yellow, yellow to red, a quarter of the levels each, by how far a level lies in its quarter
unfoldable pub color_map : ℕ → ℕ
color_map v =
    let x = natf v /f natf 255 in
    let full = natf 255 in
    let inFirst = x /f f0·25 in
    let inSecond = (x -f f0·25) /f f0·25 in
    let inThird = (x -f f0·5) /f f0·25 in
    let inFourth = (x -f f0·75) /f f0·25 in
    cond (Ieee.lt x f0·25) (rgb f0 f0 (full *f inFirst))
    (cond (Ieee.lt x f0·5) (rgb f0 (full *f inSecond) full)
    (cond (Ieee.lt x f0·75) (rgb (full *f inThird) full (full *f (f1 -f inThird)))
    (rgb full (full *f (f1 -f inFourth)) f0)))

-- ---- drawing

-- n numbers from i on: i, i + 1, .., i + n − 1
unfoldable pub count_from : ℕ → ℕ → List ℕ
count_from i zero = []
count_from i (suc n) = i ∷ count_from (suc i) n

-- the pixel of column x of a row
unfoldable pub pixel : ℕ → Float → Float → Float → List Float → ℕ → ℕ
pixel width top range zoom row x = color_map (db_to_u8 (get_or row (bin_at width (length row) zoom x) f0) top range)

unfoldable pub drawn_row : ℕ → Float → Float → Float → List Float → List ℕ
drawn_row width top range zoom row = map (pixel width top range zoom row) (count_from 0 width)

-- rows move down one, and the top row is drawn
unfoldable pub picture_after : ℕ → ℕ → Float → Float → Float → List Float → List ℕ → List ℕ
picture_after width height top range zoom row old = drawn_row width top range zoom row ++ take ((height - 1) * width) old
