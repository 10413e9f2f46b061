-- What a turn of the code gives.
use Rattle.std.specs.Prelude.{◌≡◌, Result, Err}
use Rattle.vtext.specs.declared.cause.Cause.{Cause}
use Rattle.vtext.specs.declared.parser_state.ParserState.TheVariants as state
use Rattle.vtext.specs.declared.turn.Turn.{Turn}
use Rattle.vtext.specs.declared.turn.Turn.TheVariants.{To, Refused}
use Rattle.vtext.specs.Readings.{Reading}
use Rattle.vtext.specs.Turns.{Walk, goes, turn}

-- what a turn of the code is, with what has been read after it
abbrev pub IsTurn : Turn → Reading → Result Walk Cause → Type 0
IsTurn (To state) r turn = turn ≡ goes state r
IsTurn (Refused why) r turn = turn ≡ Err why
