-- The words that a program is started with: why there are none, and what is wrong with their form.
use Rattle.std.specs.Prelude.{◌≢◌}
use Rattle.std.specs.declared.io.ErrorKind.{ErrorKind}
use Rattle.std.specs.declared.io.ErrorKind.TheVariants as io
use Rattle.clap.specs.Words.{IsAmong, Kinds}
use Rattle.clap.specs.declared.error.ErrorKind.TheVariants as kind
use Rattle.programs.specs.declared.words.NoWords.{NoWords}
use Rattle.programs.specs.declared.words.NoWords.TheVariants as none
use Rattle.programs.specs.declared.words_fault.WordsFault.{WordsFault}
use Rattle.programs.specs.declared.words_fault.WordsFault.TheVariants.{Help, Version, NotText, Form}

-- words that the system can't give: out of memory is itself, and all else is a word that is no text
abbrev pub no_words_by : ErrorKind → NoWords
no_words_by io.OutOfMemory = none.OutOfMemory
no_words_by _ = none.NotText

-- the fault of words that `clap` refuses, by one of these kinds; their text is `clap`'s
abbrev pub IsFaultAmong : Kinds → WordsFault → Type 0
IsFaultAmong kinds Help = IsAmong kind.DisplayHelp kinds
IsFaultAmong kinds Version = IsAmong kind.DisplayVersion kinds
IsFaultAmong kinds (Form k lines) = IsAmong k kinds × (k ≢ kind.DisplayHelp) × (k ≢ kind.DisplayVersion)
IsFaultAmong kinds NotText = ⊥
