-- How far a part of a file reaches. Of the bytes themselves nothing is said: what a read leaves in memory has no definition. Assumes nothing.
use Rattle.std.specs.Prelude.{ℕ, ◌-◌, ◌<◌, min, ◌≡◌, leb, Result, Ok, Err}
use Rattle.files.specs.declared.File.{File}
use Rattle.files.specs.declared.Part.{Part}
use Rattle.files.specs.declared.Failure.{Failure}

-- no file has more bytes than offsets can name
abbrev pub IsReadable : File → Type 0
IsReadable file = file.bytes < 9223372036854775808

-- as many bytes as fit, or as the file has from there on; they are the last where it has no more, and no file has more than offsets can name
abbrev pub PartRead : File → ℕ → ℕ → Result Part Failure → Type 0
PartRead file from room (Ok part) = (part.count ≡ min (file.bytes - from) room) × (part.last ≡ leb (file.bytes - from) room) × IsReadable file
PartRead file from room (Err failure) = Unit {0}
