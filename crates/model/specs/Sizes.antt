-- The six sizes of a receiver, which stand once in its state. Assumes nothing.
use Rattle.std.specs.Prelude.{ℕ, ◌+◌, ◌-◌, ◌*◌, ◌/◌, Bool, ◌&&◌, leb}

pub record Sizes : Type 0 where
  -- samples of a packet, of the queue's target, and at which a buffer overflows
  pub packet : ℕ
  pub target : ℕ
  pub max : ℕ
  -- bins of the longest row
  pub bins : ℕ
  -- the picture
  pub width : ℕ
  pub height : ℕ

-- low ≤ n ≤ high
abbrev pub between : ℕ → ℕ → ℕ → Bool
between low high n = leb low n && leb n high

-- question 1: packet 1..4096, target packet..65,536, max target..131,072, bins 1..65,535, width and height 1..4096
unfoldable pub sizes_allowed : Sizes → Bool
sizes_allowed z =
    between 1 4096 z.packet
    && (between z.packet 65536 z.target
    && (between z.target 131072 z.max
    && (between 1 65535 z.bins
    && (between 1 4096 z.width
    && between 1 4096 z.height))))

-- S, the most packets that wait: max / packet rounded up
unfoldable pub most_waiting : Sizes → ℕ
most_waiting z = (z.max + z.packet - 1) / z.packet

-- one channel's section of the f32 area: waiting samples, queue, row, spectrum, smoothing
unfoldable pub float_section : Sizes → ℕ
float_section z = most_waiting z * z.packet + (z.target + z.packet) + 3 * z.bins

-- one channel's section of the u32 area: waiting sequences, picture
unfoldable pub word_section : Sizes → ℕ
word_section z = most_waiting z + z.width * z.height

-- the f32 area: A's section, B's section right after it, then the work section of bins
unfoldable pub float_area : Sizes → ℕ
float_area z = 2 * float_section z + z.bins

-- the u32 area: A's section, B's section right after it
unfoldable pub word_area : Sizes → ℕ
word_area z = 2 * word_section z
