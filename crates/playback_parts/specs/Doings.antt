-- What a step does next. Assumes nothing.
use Rattle.std.specs.Prelude.{Bool, true, false}
use Rattle.playback_parts.specs.declared.Doing.{Doing}

-- only a call changes what is lent
abbrev pub makes_call : Doing → Bool
makes_call Doing.Call = true
makes_call d = false
