-- Pieces of text at the front of lent bytes, and values of a line. Assumes nothing.
use Rattle.std.specs.Prelude.{ℕ, ◌-◌, ◌≤◌, ◌<◌, ◌≡◌, List, [], ◌++◌, length, drop, Float, Option, Some, None, IfSome}
use Rattle.model.specs.Bytes.{part, placed}
use Rattle.replaying.specs.Printing.{values_ended}
use Rattle.playback_parts.specs.declared.parts.Part.{Part}

-- a text of so many bytes stands at the front
pub record TextPut (text entry exit : List ℕ) (bytes : ℕ) : Type 0 where
  pub length_is : bytes ≡ length text
  pub target : exit ≡ placed 0 text entry

-- the values from one place to another, and then the line's end
abbrev pub part_ended : ℕ → ℕ → List Float → List ℕ
part_ended from end values = values_ended (part from (end - from) values)

-- what is left of a line behind so many of its values; nothing where it has ended
abbrev pub part_left : Option ℕ → List Float → List ℕ
part_left None values = []
part_left (Some n) values = values_ended (drop n values)

-- some of the values, or the line's end, stand at the front
pub record PartPut (values : List Float) (entry exit : List ℕ) (v : Part) : Type 0 where
  pub text : List ℕ
  pub put : TextPut text entry exit v.bytes
  pub line : values_ended values ≡ text ++ part_left v.next values
  pub inside : IfSome v.next (λ n. n ≤ length values)
  pub further : IfSome v.next (λ n. 0 < n)
